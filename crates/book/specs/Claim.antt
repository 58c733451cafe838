-- Demand 3 as one claim about every list of session calls, from a new session, over any two areas, whatever the pieces and tables. It
-- is stated for any set of functions for these calls. Definitions only.
use Rattle.std.specs.Prelude.{◌+◌, ℕ, ◌≤◌, ◌≡◌, true, ◌↔◌, length, drop}
use mathlib.Core.List.{List, [], ◌++◌, map, Memᴰ}
use Rattle.division.specs.Division.{Division}
use Rattle.working_table.specs.declared.Record.{Record}
use Rattle.rules.specs.Breach.{Breach}
use Rattle.claims.specs.Reads.{listed}
use Rattle.session.specs.declared.Session.{Session}
use Rattle.book.specs.Book.{Said, said, Book, blank, noted, tabled, book_of, said_of, Call, activate, delete}
use Rattle.book.specs.Run.{Functions, Runs, session_of, Starts}

-- the pool divides into records (by the definition that is independent of the reader), a table of room entries holds them, and they
-- have no breach: the full count is zero
pub record Accepted (p : List ℕ) (room : ℕ) : Type 0 where
  pub parts : List (List ℕ)
  pub divides : Division p parts
  pub holds : length parts ≤ room
  pub clean : (number rule item : ℕ) → Breach p (listed parts divides.whole 0) number rule item → ⊥

-- what one more call does to the kept area k and to the pool kept before; b is the book before the call and b' the one after it
pub data Turn (b b' : Book) (k : List ℕ) : Call → Said → List ℕ → Type 0 where
  -- an offered pool is activated: the area starts with the bytes as sent, which are kept from now on; the bytes after them are as before
  won : (t : List Record) → b.offered ≡ true → b'.kept ≡ b.arrived → Turn b b' k (activate t) (said 0 0) (b.arrived ++ drop (length b.arrived) k)
  -- a delete: no pool is kept any more, and the area is unchanged, byte for byte
  deleted : (q : Said) → b'.kept ≡ [] → Turn b b' k delete q k
  -- any other call, also activating an offered pool without success: the area is unchanged, and the pool kept before stays kept
  stays : (c : Call) (q : Said) → ((t : List Record) → c ≡ activate t → b.offered ≡ true → q.number ≡ 0 → ⊥) → b'.kept ≡ b.kept → Turn b b' k c q k

-- what holds after a list of calls over areas of ls and lk bytes, where b is the book after these calls
pub record After (F : Functions) (ls lk : ℕ) (b : Book) (s : Session) (staging kept : List ℕ) : Type 0 where
  -- all session fields are the book's
  pub fields : s ≡ session_of b
  -- staging starts with what arrived, and the kept area with what is kept
  pub arrived : Starts staging b.arrived
  pub stored : Starts kept b.kept
  -- what one more call does, whichever it is
  pub next : (c : Call) (r : F.Step) (staging' kept' : List ℕ) (table' : List Record) → F.Does s staging kept c r staging' kept' table'
      → Turn b (noted ls lk b c).book kept c (F.told r) kept'
  -- the table after it is the book's
  pub table : (c : Call) (r : F.Step) (staging' kept' : List ℕ) (table' : List Record) → F.Does s staging kept c r staging' kept' table' → table' ≡ tabled ls lk b c
  -- activating an offered pool succeeds exactly when as many bytes arrived as were announced and the pool is accepted
  pub exactly : (t : List Record) (r : F.Step) (staging' kept' : List ℕ) (table' : List Record) → F.Does s staging kept (activate t) r staging' kept' table' → b.offered ≡ true
      → ((F.told r).number ≡ 0) ↔ ((length b.arrived ≡ b.announced) × Accepted b.arrived (length t))

-- an outcome of a list of calls
pub record Outcome (F : Functions) (s : Session) (staging kept : List ℕ) (cs : List Call) : Type 0 where
  pub steps : List F.Step
  pub session : Session
  pub staging_left : List ℕ
  pub kept_left : List ℕ
  pub run : Runs F s staging kept cs steps session staging_left kept_left

-- the claim, for one list of calls over two areas
pub record Booked (F : Functions) (staging kept : List ℕ) (cs : List Call) : Type 0 where
  -- no call asks anything of its caller, there is a new session, and so every list of calls has a run
  pub free : F.Free
  pub begins : (s : Session) × F.New s
  pub runs : (s : Session) → F.New s → Outcome F s staging kept cs
  -- after every run all answers are the book's, with place and first fault; none of them is 27; and all fields of `After` hold
  pub answers : (s : Session) → F.New s → (o : Outcome F s staging kept cs) → map F.told o.steps ≡ said_of (length staging) (length kept) blank cs
  pub possible : (s : Session) → F.New s → (o : Outcome F s staging kept cs) (r : F.Step) → Memᴰ r o.steps → (F.told r).number ≡ 27 → ⊥
  pub after : (s : Session) → F.New s → (o : Outcome F s staging kept cs)
      → After F (length staging) (length kept) (book_of (length staging) (length kept) blank cs) o.session o.staging_left o.kept_left
