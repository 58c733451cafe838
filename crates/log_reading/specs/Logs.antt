-- Reading a log: its records, up to the end of its bytes. Definitions only.
use Rattle.std.specs.Prelude.{ℕ, Result, Ok, Err, zero, suc, ◌+◌, cond, List, eqb, ltb, length, drop}
use Rattle.time_log.specs.Contents.{extent_of}
use Rattle.time_log.specs.Judging.{record_refusal}
use Rattle.time_log.specs.Refusing.{refusal_number}
use Rattle.log_reading.specs.declared.Refused.{Refused}
use Rattle.log_reading.specs.declared.Log.{Log}

-- the answer for a log that is read: how many records it has
abbrev pub whole_log : ℕ → Log
whole_log n = record { number = 0; count = n; start = 0 }

-- the answer for a log that is refused: the refusal's number, and where the refused record starts
abbrev pub bad_log : ℕ → ℕ → Log
bad_log x at = record { number = x; count = 0; start = at }

-- how C is told what reading a log answers
abbrev pub log_answer : Result ℕ Refused → Log
log_answer (Ok n) = whole_log n
log_answer (Err r) = bad_log (refusal_number r.refusal) r.start

-- the walk over the bytes s that are left at a place, after n records; no record is empty, so the number of bytes is enough turns
unfoldable pub walk : ℕ → ℕ → ℕ → ℕ → ℕ → List ℕ → Log
walk layout logged zero at n s = whole_log n
walk layout logged (suc turns) at n s =
    cond (eqb (length s) 0) (whole_log n)
    (cond (eqb (record_refusal layout logged s) 0) (walk layout logged turns (at + extent_of layout s) (n + 1) (drop (extent_of layout s) s))
    (bad_log (record_refusal layout logged s) at))

-- reading a log; a bad layout is refused even if there is no record
unfoldable pub log_of : ℕ → ℕ → List ℕ → Log
log_of layout logged s = cond (ltb 511 layout) (bad_log 47 0) (walk layout logged (length s) 0 0 s)
