-- What is told of a record, in the numbers of document 01. Definitions only.
use Rattle.std.specs.Prelude.{ℕ, List, Result, Ok, Err}
use Rattle.records.specs.Extents.{extent_of}
use Rattle.records.specs.declared.Flaw.{Flaw}
use Rattle.records.specs.declared.Flaw.TheVariants.{NoMark, Cut, LengthOver}

-- number 0 and a value, or a refusal's number and its place
pub record Answer : Type 0 where
  pub number : ℕ
  pub value : ℕ

-- an answer by its two numbers
abbrev pub answer : ℕ → ℕ → Answer
answer n v = record { number = n; value = v }

-- the number and the value that each extent stands for, of a record that starts at a place: 0 and its end; 3 and 4 are placed at its
-- start, 5 at the length byte
abbrev pub extent_answer : ℕ → Result ℕ Flaw → Answer
extent_answer at (Ok end) = answer 0 end
extent_answer at (Err NoMark) = answer 3 at
extent_answer at (Err Cut) = answer 4 at
extent_answer at (Err (LengthOver place)) = answer 5 place

-- what is told of the record that starts at a place
abbrev pub record_answer : List ℕ → ℕ → Answer
record_answer p at = extent_answer at (extent_of p at)
