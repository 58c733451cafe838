-- The plain book of document 01: what a client sent, and what it was told. It depends on the calls' arguments and on the lengths of the
-- two areas only. It uses no definition of a session; from other crates it uses only checking and the table after reading.
-- Definitions only.
use Rattle.std.specs.Prelude.{if◌then◌else◌, ℕ, ◌-◌, Bool, true, false, not, ◌&&◌, ◌||◌, List, [], ◌∷◌, ◌++◌, eqb, ltb, length}
use Rattle.pool.specs.Answer.{Answer}
use Rattle.working_table.specs.declared.Record.{Record}
use Rattle.working_table.specs.Table.{records_after}
use Rattle.faults.specs.Faults.{FaultEntry, no_fault}
use Rattle.checker.specs.Checking.{check_of, reported}

-- the calls with their arguments: a size, a piece, a working table
pub data Call : Type 0 where
  offer : ℕ → Call
  transfer : List ℕ → Call
  activate : List Record → Call
  deactivate : Call
  delete : Call
  lost : Call

-- what a client is told: 0 or a refusal's number, its place, and for 24 the first fault with the IDs of its record
pub record Said : Type 0 where
  pub number : ℕ
  pub place : ℕ
  pub first : FaultEntry

-- a number with its place, and no fault
abbrev pub said : ℕ → ℕ → Said
said n place = record { number = n; place = place; first = no_fault }

-- the book: whether a pool is offered, its announced size, the bytes that have arrived, the pool that is kept, whether it is active
pub record Book : Type 0 where
  pub offered : Bool
  pub announced : ℕ
  pub arrived : List ℕ
  pub kept : List ℕ
  pub active : Bool

-- the book of a new session
abbrev pub blank : Book
blank = record { offered = false; announced = 0; arrived = []; kept = []; active = false }

-- the book at the end of a stage
abbrev pub over : Book → Book
over b = record { offered = false; announced = 0; arrived = []; kept = b.kept; active = b.active }

-- a step of the book: the book after a call, and what the client is told
pub record Noted : Type 0 where
  pub book : Book
  pub told : Said

-- a call after which the book is this one, and whose answer is a number without a place
abbrev pub note : Book → ℕ → Noted
note b n = record { book = b; told = said n 0 }

-- the first fault of a list, zeros if there is none
abbrev pub first_in : List FaultEntry → FaultEntry
first_in [] = no_fault
first_in (e ∷ es) = e

-- what follows from checking the bytes that have arrived: a refusal 3 to 7, a fault, or that they are kept from now on
abbrev pub checked : Book → Answer → Noted
checked b a =
    if eqb a.number 0 then
    (if eqb a.value 0
    then note (record { offered = false; announced = 0; arrived = []; kept = b.arrived; active = true }) 0
    else (record { book = over b; told = record { number = 24; place = 0; first = first_in (reported b.arrived) } }))
    else
    (record { book = if eqb a.number 7 then b else over b; told = said a.number a.value })

-- one call, over a staging area of ls bytes and a kept area of lk bytes
unfoldable pub noted : ℕ → ℕ → Book → Call → Noted
noted ls lk b (offer n) =
    if eqb n 0 || ltb 65535 n then note b 20 else
    (if ltb ls n || ltb lk n then note b 26 else
    (note (record { offered = true; announced = n; arrived = []; kept = b.kept; active = b.active }) 0))
noted ls lk b (transfer piece) =
    if b.offered then
    (if eqb (length piece) 0 || ltb (b.announced - length b.arrived) (length piece) then note b 22 else
    (if ltb ls b.announced then note b 26 else
    (note (record { offered = true; announced = b.announced; arrived = b.arrived ++ piece; kept = b.kept; active = b.active }) 0)))
    else note b 21
noted ls lk b (activate table) =
    if b.offered then
    (if ltb (length b.arrived) b.announced then note b 23 else
    (if ltb ls b.announced || ltb lk b.announced then note b 26 else
    (checked b (check_of b.arrived (length table)))))
    else
    (if eqb (length b.kept) 0 then note b 21 else
    (if ltb lk (length b.kept) then note b 26 else
    (note (record { offered = false; announced = b.announced; arrived = b.arrived; kept = b.kept; active = true }) 0)))
noted ls lk b deactivate =
    if b.active
    then note (record { offered = b.offered; announced = b.announced; arrived = b.arrived; kept = b.kept; active = false }) 0
    else note b 25
noted ls lk b delete = note blank 0
noted ls lk b lost = note (record { offered = false; announced = 0; arrived = []; kept = b.kept; active = false }) 0

-- the book after a list of calls
unfoldable pub book_of : ℕ → ℕ → Book → List Call → Book
book_of ls lk b [] = b
book_of ls lk b (c ∷ cs) = book_of ls lk (noted ls lk b c).book cs

-- what a client is told, call by call
unfoldable pub said_of : ℕ → ℕ → Book → List Call → List Said
said_of ls lk b [] = []
said_of ls lk b (c ∷ cs) = (noted ls lk b c).told ∷ said_of ls lk (noted ls lk b c).book cs

-- the table after a call: activating reads an offered pool if all of it has arrived and both areas are long enough, and fills the
-- table if reading succeeds. Other calls have no table
unfoldable pub tabled : ℕ → ℕ → Book → Call → List Record
tabled ls lk b (offer n) = []
tabled ls lk b (transfer piece) = []
tabled ls lk b (activate table) =
    if b.offered && (not (ltb (length b.arrived) b.announced) && not (ltb ls b.announced || ltb lk b.announced))
    then records_after b.arrived table
    else table
tabled ls lk b deactivate = []
tabled ls lk b delete = []
tabled ls lk b lost = []
