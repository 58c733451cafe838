-- What judging answers, in the numbers of document 01. Definitions only.
use Rattle.std.specs.Prelude.{ℕ, Result, Ok, Err}
use Rattle.pool.specs.Answer.{Answer, answer, refusal_answer}
use Rattle.judging.specs.declared.Refusal.{Refusal}
use Rattle.judging.specs.declared.Refusal.TheVariants.{ElementTooLarge, Unread, Faulty}

-- the number of each refusal
abbrev pub refusal_number : Refusal → ℕ
refusal_number ElementTooLarge = 32
refusal_number (Unread reason) = (refusal_answer reason).number
refusal_number Faulty = 24

-- 0 and the error byte, or the refusal's number and 0
abbrev pub answer_of : Result ℕ Refusal → Answer
answer_of (Ok error) = answer 0 error
answer_of (Err refusal) = answer (refusal_number refusal) 0
