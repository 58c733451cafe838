-- In an accepted pool a command is unambiguous: no element number is used twice, and no list has a DDI twice.
-- Definitions only.
use Rattle.std.specs.Prelude.{ℕ, suc, ◌<◌, ◌≡◌, List, length}
use Rattle.views.specs.Fields.{element_of, entry_of}
use Rattle.pool.specs.Reading.{Entry, scan_of, entries_in}
use Rattle.naming.specs.Records.{start_at, kind_at}
use Rattle.naming.specs.Naming.{named, tag_of}
use Rattle.queries.specs.Queries.{acceptance}

-- record i is a device element
pub record Element (es : List Entry) (i : ℕ) : Type 0 where
  pub there : i < length es
  pub kind : kind_at es i ≡ 2

-- entry m of the list of record i names process data or a property of this DDI
pub record Lists (p : List ℕ) (es : List Entry) (i m ddi : ℕ) : Type 0 where
  pub there : m < (element_of p (start_at es i)).entries
  pub names : tag_of p es (named es (entry_of p (start_at es i) m)) ≡ suc ddi

-- an element number belongs to one device element only, and in the list of a device element a DDI to one entry only
pub record NamesOne (p : List ℕ) (es : List Entry) : Type 0 where
  pub element : (i j : ℕ) → Element es i → Element es j → (element_of p (start_at es i)).number ≡ (element_of p (start_at es j)).number → i ≡ j
  pub entry : (i m n ddi : ℕ) → Element es i → Lists p es i m ddi → Lists p es i n ddi → m ≡ n

-- this holds in every accepted pool
abbrev pub AcceptedNamesOne : Type 0
AcceptedNamesOne = (p : List ℕ) (room : ℕ) → acceptance p room ≡ 0 → NamesOne p (entries_in (scan_of p))
