-- What a session call answers, in the numbers of document 01. Definitions only.
use Rattle.std.specs.Prelude.{ℕ, ⊤, Result, Ok, Err}
use Rattle.faults.specs.Faults.{FaultEntry, fault_entry, no_fault}
use Rattle.pool.specs.Answer.{refusal_answer}
use Rattle.session.specs.declared.Fault.{Fault}
use Rattle.session.specs.declared.Numbers.{Numbers}
use Rattle.session.specs.declared.Refusal.{Refusal}
use Rattle.session.specs.declared.Refusal.TheVariants.{Unread, BadSize, NotOffered, BadPiece, Incomplete, Faulty, NotActive, NoRoom, CannotArise}

-- number 0, or a refusal's number with its place or the first fault; an answer without a place or a fault has zeros there
pub record Reply : Type 0 where
  pub number : ℕ
  pub place : ℕ
  pub first : FaultEntry

-- a number with its place, and no fault
abbrev pub reply : ℕ → ℕ → Reply
reply n place = record { number = n; place = place; first = no_fault }

-- 24 with the first fault
abbrev pub faulty : FaultEntry → Reply
faulty e = record { number = 24; place = 0; first = e }

-- a fault with the IDs of its record
abbrev pub entry_of : Fault → FaultEntry
entry_of f = fault_entry f.«record» f.rule f.item f.id f.parent

-- the number, place and first fault of each answer; what reading the pool refuses keeps its number and place
abbrev pub reply_of : Result ⊤ Refusal → Reply
reply_of (Ok x) = reply 0 0
reply_of (Err (Unread r)) = reply (refusal_answer r).number (refusal_answer r).value
reply_of (Err BadSize) = reply 20 0
reply_of (Err NotOffered) = reply 21 0
reply_of (Err BadPiece) = reply 22 0
reply_of (Err Incomplete) = reply 23 0
reply_of (Err (Faulty f)) = faulty (entry_of f)
reply_of (Err NotActive) = reply 25 0
reply_of (Err NoRoom) = reply 26 0
reply_of (Err CannotArise) = reply 27 0

-- the same from `Numbers`, the answer in numbers
abbrev pub reply_in : Numbers → Reply
reply_in n = record { number = n.number; place = n.place; first = entry_of n.fault }
