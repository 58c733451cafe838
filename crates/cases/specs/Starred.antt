-- The starred worked lines of document 01, every one of them, as one list. Each line says what it states.
-- Definitions only.
use Rattle.std.specs.Prelude.{ℕ, ◌≡◌, List, [], ◌∷◌, pos, negsuc, take, replicate}
use Rattle.pool.specs.Answer.{Answer, answer}
use Rattle.pool.specs.Reading.{read_of}
use Rattle.faults.specs.Faults.{Fault, fault}
use Rattle.rules.specs.Table.{breaches_of}
use Rattle.checker.specs.Checking.{check_of}
use Rattle.working_table.specs.Table.{blank}
use Rattle.book.specs.Book as Book
use Rattle.book.specs.Book.{Said, said, said_of, Call, offer, transfer, activate}
use Rattle.messages.specs.Reading as messages
use Rattle.messages.specs.Reading.{Fields, valued}
use Rattle.judging.specs.Judging.{judge_number, judge_error}
use Rattle.cases.specs.Pools.{pool_with, pool_p, pool_q, named}

-- a case: a type, what is computed, and what it has to be
pub record Case : Type 1 where
  pub of : Type 0
  pub is : of
  pub due : of

-- what reading a pool answers, with a table of 2,048 entries
abbrev pub reads : List ℕ → Answer → Case
reads p a = record { of = Answer; is = read_of p 2048; due = a }

-- what checking a pool answers, with a table of 2,048 entries
abbrev pub checks : List ℕ → Answer → Case
checks p a = record { of = Answer; is = check_of p 2048; due = a }

-- the breach list of a pool
abbrev pub breaches : List ℕ → List Fault → Case
breaches p fs = record { of = List Fault; is = breaches_of p; due = fs }

-- the last of a list of answers
abbrev pub last_of : List Said → Said
last_of [] = said 0 0
last_of (q ∷ []) = q
last_of (q ∷ (r ∷ qs)) = last_of (r ∷ qs)

-- what the book answers to the last of some calls, over areas of 100 bytes; by the claim about sessions this is the session's answer
abbrev pub tells : List Call → Said → Case
tells cs q = record { of = Said; is = last_of (said_of 100 100 Book.blank cs); due = q }

-- the fields of a message that is read
abbrev pub carries : List ℕ → Fields → Case
carries s f = record { of = Fields; is = messages.read_of s; due = f }

-- the error byte of a command to element 1, DDI 141, value 1000, judged by Q with a table of 2,048 entries
abbrev pub judges : ℕ → ℕ → Case
judges command error =
    record { of = Answer; is = answer (judge_number pool_q 2048 1) (judge_error pool_q 2048 command 1 141 (pos 1000)); due = answer 0 error }

-- the starred lines, in their order
abbrev pub cases : List Case
cases =
    -- the empty pool is refused with 1
    reads [] (answer 1 0)
    -- the first 70 bytes of Q are cut inside the record at 59: 4
    ∷ reads (take 70 pool_q) (answer 4 59)
    -- a designator length of 129 is over its limit, at the length byte: 5
    ∷ reads (named 129) (answer 5 5)
    -- P and Q have no fault
    ∷ checks pool_p (answer 0 0)
    ∷ checks pool_q (answer 0 0)
    -- the first 31 bytes of P, which are its device, lack a device element of type 1
    ∷ checks (take 31 pool_p) (answer 0 1)
    ∷ breaches (take 31 pool_p) (fault 0 11 1 ∷ [])
    -- in the first 59 bytes of Q the entry of the third record names no record
    ∷ checks (take 59 pool_q) (answer 0 1)
    ∷ breaches (take 59 pool_q) (fault 3 6 2 ∷ [])
    -- P with the parent 1: the chain of parents of its device element never ends
    ∷ checks (pool_with 1) (answer 0 1)
    ∷ breaches (pool_with 1) (fault 2 9 1 ∷ [])
    -- Q is announced with 71 bytes, its first 44 are sent: activating is refused with 23
    ∷ tells (offer 71 ∷ transfer (take 44 pool_q) ∷ activate (replicate 10 blank) ∷ []) (said 23 0)
    -- a message for element 18 sets DDI 141 to -1
    ∷ carries (0x23 ∷ 0x01 ∷ 0x8D ∷ 0x00 ∷ 0xFF ∷ 0xFF ∷ 0xFF ∷ 0xFF ∷ []) (valued 3 18 141 (negsuc 0))
    -- Q's process data is not settable, and has a trigger for time but none for distance
    ∷ judges 3 0x10
    ∷ judges 4 0
    ∷ judges 5 0x08
    ∷ []

-- every case of a list holds
abbrev pub Hold : List Case → Type 0
Hold [] = Unit {0}
Hold (c ∷ cs) = (c.is ≡ c.due) × Hold cs
