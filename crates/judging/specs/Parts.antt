-- For the contracts of internal functions: no contract of a call rests on these. Definitions only.
use Rattle.std.specs.Prelude.{ℕ, cond, List, eqb, ltb, ℤ, length}
use Rattle.pool.specs.Answer.{Answer, answer}
use Rattle.pool.specs.Reading.{Entry}
use Rattle.rules.specs.Table.{breaches_in}
use Rattle.checker.specs.Checking.{count_of}
use Rattle.judging.specs.Judging.{error_of}

-- the number and the error byte by the records of a pool: 24 if the pool has a fault
unfoldable pub judged_among : List ℕ → List Entry → ℕ → ℕ → ℕ → ℤ → Answer
judged_among p es command element ddi value = cond (eqb (length (breaches_in p es)) 0) (answer 0 (error_of p es command element ddi value)) (answer 24 0)

-- how many entries of the table have to be filled when a command is judged: none with refusal 32, since the pool is not looked at
unfoldable pub judged_count : List ℕ → ℕ → ℕ → ℕ
judged_count p room element = cond (ltb 4095 element) 0 (count_of p room)
