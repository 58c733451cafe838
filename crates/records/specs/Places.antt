-- The places of a record's fields. A field is given by its number in the layout, counted from 0 after the mark. Definitions only.
use Rattle.std.specs.Prelude.{ℕ, ◌+◌, ◌*◌, cond, List, [], ◌∷◌, eqb, get_or, take}
use Rattle.wire.specs.Bytes.{number_in}
use Rattle.records.specs.Layout.{Field, fixed, text, entries, layout, mark_code, mark_of, three}
use Rattle.records.specs.declared.Kind.{Kind}
use Rattle.records.specs.declared.Kind.TheVariants.{Det}

-- the place after a field that starts at a place
abbrev pub behind : Field → List ℕ → ℕ → ℕ
behind (fixed n) p at = at + n
behind (text limit) p at = at + 1 + get_or p at 0
behind entries p at = at + 2 + 2 * number_in 2 p at

-- the place after fields that follow each other
abbrev pub behind_all : List Field → List ℕ → ℕ → ℕ
behind_all [] p at = at
behind_all (f ∷ fs) p at = behind_all fs p (behind f p at)

-- the place of field i of the record that starts at a place
unfoldable pub field_at : Kind → ℕ → List ℕ → ℕ → ℕ
unfolding layout
field_at k i p at = behind_all (take i (layout k)) p (at + 3)

-- the object ID, which is the first field of every kind
unfoldable pub id_of : List ℕ → ℕ → ℕ
id_of p at = number_in 2 p (at + 3)

-- the parent ID: the field of a device element as it is, whatever it names. The other kinds have none, which is 65535
unfoldable pub parent_id_of : List ℕ → ℕ → ℕ
unfolding layout field_at
parent_id_of p at = cond (eqb (mark_code (mark_of (three p at))) 2) (number_in 2 p (field_at Det 4 p at)) 65535
