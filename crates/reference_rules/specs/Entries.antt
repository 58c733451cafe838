-- What the entries of a device element's list name. Definitions only.
use Rattle.std.specs.Prelude.{ℕ, Bool, List}
use Rattle.pool.specs.Reading.{Entry}
use Rattle.naming.specs.Naming.{is_data_kind, kind_of, tag_of}
use Rattle.naming.specs.Entries.{entries_in}
use Rattle.rules.specs.Table.{is_wrong_kind, entry_named}
use Rattle.reference_rules.specs.declared.entries.EntryList.{EntryList}

-- the records of the pool that the list is in
abbrev pub around : EntryList → List Entry
around list = entries_in list.names.records

-- the number, from 1, of the record that entry m names; 0 for none
abbrev pub named_in : EntryList → ℕ → ℕ
named_in list = entry_named list.names.records.pool.now (around list) list.at

-- whether that is process data or a property
abbrev pub data_in : EntryList → ℕ → Bool
data_in list m = is_data_kind (kind_of (around list) (named_in list m))

-- whether it is a record of another kind
abbrev pub wrong_in : EntryList → ℕ → Bool
wrong_in list m = is_wrong_kind (data_in list m) (named_in list m)

-- its DDI plus 1, 0 if it has none
abbrev pub tag_in : EntryList → ℕ → ℕ
tag_in list m = tag_of list.names.records.pool.now (around list) (named_in list m)
