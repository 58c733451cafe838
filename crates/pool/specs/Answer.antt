-- What reading answers, in the numbers of document 01. Definitions only.
use Rattle.std.specs.Prelude.{ℕ, Result, Ok, Err}
pub use Rattle.records.specs.Answer.{Answer, answer}
use Rattle.pool.specs.declared.Refusal.{Refusal}
use Rattle.pool.specs.declared.Refusal.TheVariants.{Empty, TooLong, NoMark, Cut, LengthOver, TooMany, TableShort}

-- the number and the value of each refusal: its place, or how many entries the table needs
abbrev pub refusal_answer : Refusal → Answer
refusal_answer Empty = answer 1 0
refusal_answer TooLong = answer 2 0
refusal_answer (NoMark at) = answer 3 at
refusal_answer (Cut at) = answer 4 at
refusal_answer (LengthOver at) = answer 5 at
refusal_answer TooMany = answer 6 0
refusal_answer (TableShort needed) = answer 7 needed

-- the number and the value of what reading answers: 0 and the count of records, or those of the refusal
abbrev pub answer_of : Result ℕ Refusal → Answer
answer_of (Ok count) = answer 0 count
answer_of (Err refusal) = refusal_answer refusal

-- how many records reading finds, 0 for a refusal
abbrev pub records_in : Result ℕ Refusal → ℕ
records_in (Ok count) = count
records_in (Err refusal) = 0
