-- For the contracts of functions that only the crates for log records call. Definitions only.
use Rattle.std.specs.Prelude.{ℕ, Bool, not, cond, ltb}
use Rattle.time_log.specs.Judging.{is_known_status}

-- `refusal_of_fields` from the values that it looks at: the time, the absolute values of north and east, and the status
unfoldable pub refusal_by : ℕ → ℕ → ℕ → ℕ → Bool → ℕ
refusal_by time north east status over =
    cond (ltb 86399999 time) 41
    (cond (ltb 900000000 north) 42
    (cond (ltb 1800000000 east) 43
    (cond (not (is_known_status status)) 44
    (cond over 45 0))))
