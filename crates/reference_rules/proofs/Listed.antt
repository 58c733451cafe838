-- What the entries of a device element's list name. Assumes nothing.
use Prim.Native.Nat.{ℕ, ◌<◌}
use lib.ListN.{length}
use Rattle.views.specs.Fields.{entry_of}
use Rattle.naming.proofs.Names.{named-inside}
use Rattle.reference_rules.specs.declared.entries.EntryList.{EntryList}
use Rattle.reference_rules.specs.Entries.{named_in}

-- the record that an entry names is one of the pool's
pub entry-inside : (list : EntryList) (m : ℕ) → named_in list m < length list.names.records.starts.now
entry-inside list m = named-inside list.names (entry_of list.names.records.pool.now list.at m)
