-- Testing late: a record's fields are passed without testing each, and one test is made at the end. `end::marked` promises the extents by
-- these, too, by the law of proofs/Late.antt. Definitions only.
use Rattle.std.specs.Prelude.{ℕ, ◌+◌, ◌*◌, cond, List, [], ◌∷◌, leb, ltb, length, get_or, Result, Ok, Err}
use Rattle.wire.specs.Bytes.{number_in}
use Rattle.records.specs.Layout.{Field, fixed, text, entries}
use Rattle.records.specs.declared.Flaw.{Flaw}
use Rattle.records.specs.declared.Flaw.TheVariants.{Cut, LengthOver}

-- where a field ends; only what is read has to be within the pool: a length byte, an entry count
abbrev pub late_field : Field → List ℕ → ℕ → Result ℕ Flaw
late_field (fixed n) p at = Ok (at + n)
late_field (text limit) p at = cond (ltb at (length p)) (cond (leb (get_or p at 0) limit) (Ok (at + 1 + get_or p at 0)) (Err (LengthOver at))) (Err Cut)
late_field entries p at = cond (leb (at + 2) (length p)) (Ok (at + 2 + 2 * number_in 2 p at)) (Err Cut)

-- one more field, unless something was wrong before it
abbrev pub late_next : Field → List ℕ → Result ℕ Flaw → Result ℕ Flaw
late_next f p (Ok at) = late_field f p at
late_next f p (Err flaw) = Err flaw

-- fields one after the other
abbrev pub late_fields : List Field → List ℕ → Result ℕ Flaw → Result ℕ Flaw
late_fields [] p e = e
late_fields (f ∷ fs) p e = late_fields fs p (late_next f p e)

-- the test at the record's end
abbrev pub closed : List ℕ → Result ℕ Flaw → Result ℕ Flaw
closed p (Ok at) = cond (leb at (length p)) (Ok at) (Err Cut)
closed p (Err flaw) = Err flaw
