-- Where a record ends, or what is wrong with it: document 01, "Reading a pool", refusals 3 to 5. Definitions only.
use Rattle.std.specs.Prelude.{ℕ, ◌+◌, ◌*◌, cond, List, [], ◌∷◌, leb, ltb, length, get_or, Option, Some, None, Result, Ok, Err}
use Rattle.wire.specs.Bytes.{number_in}
use Rattle.records.specs.Layout.{Field, fixed, text, entries, layout, mark_of, three}
use Rattle.records.specs.declared.Kind.{Kind}
use Rattle.records.specs.declared.Flaw.{Flaw}
use Rattle.records.specs.declared.Flaw.TheVariants.{NoMark, Cut, LengthOver}

-- where a field that starts at a place ends, if the pool has all of it. A length byte that is present and over its limit
-- is refused at its own place, whether or not its text is present
unfoldable pub field_end : Field → List ℕ → ℕ → Result ℕ Flaw
field_end (fixed n) p at = cond (leb (at + n) (length p)) (Ok (at + n)) (Err Cut)
field_end (text limit) p at =
    cond (ltb at (length p))
    (cond (leb (get_or p at 0) limit) (cond (leb (at + 1 + get_or p at 0) (length p)) (Ok (at + 1 + get_or p at 0)) (Err Cut)) (Err (LengthOver at)))
    (Err Cut)
field_end entries p at =
    cond (leb (at + 2) (length p)) (cond (leb (at + 2 + 2 * number_in 2 p at) (length p)) (Ok (at + 2 + 2 * number_in 2 p at)) (Err Cut)) (Err Cut)

-- the next field starts where the last one ended; the first flaw is kept
abbrev pub next : Field → List ℕ → Result ℕ Flaw → Result ℕ Flaw
next f p (Ok at) = field_end f p at
next f p (Err flaw) = Err flaw

-- where fields that follow each other end, read from left to right
abbrev pub fields_end : List Field → List ℕ → Result ℕ Flaw → Result ℕ Flaw
fields_end [] p e = e
fields_end (f ∷ fs) p e = fields_end fs p (next f p e)

-- where the fields after a mark end
abbrev pub marked_end : Option Kind → List ℕ → ℕ → Result ℕ Flaw
marked_end (Some k) p at = fields_end (layout k) p (Ok at)
marked_end None p at = Err NoMark

-- where the record that starts at a place ends: fewer than three bytes are a cut record, three that are no mark are no record
unfoldable pub extent_of : List ℕ → ℕ → Result ℕ Flaw
extent_of p at = cond (leb (at + 3) (length p)) (marked_end (mark_of (three p at)) p (at + 3)) (Err Cut)
