-- What the facts of a record that is not a device element give. Assumes nothing.
use mathlib.Core.Path.{◌≡◌, sym, ◌∙◌}
use Prim.Native.Nat.{ℕ, suc, ◌+◌, ◌<◌}
use native.Mathlib.Omega.{arith}
use mathlib.Core.List.{List}
use lib.ListN.{length, get_or}
use Rattle.naming.specs.Records.{start_at, id_at}
use Rattle.naming.specs.Lists.{id_in}
use Rattle.naming.proofs.Names.{names-few}
use Rattle.naming.proofs.Starts.{start-read, id-read}
use Rattle.record_breaches.specs.declared.other.OtherRecord.{OtherRecord}
use Rattle.record_breaches.specs.Others.{pool_around, records_around}

module _ (r : OtherRecord) where
  -- the starts of the pool's records
  abbrev pub starts_around : List ℕ
  starts_around = r.pool.now.names.records.starts.now

  pub inside : suc r.i < length starts_around
  inside = omega (arith, r.listed)

  pub few : r.i + 1 < 5462
  few = omega (arith, r.listed, names-few r.pool.now.names)

  pub starts-read : get_or starts_around r.i 0 ≡ start_at (records_around r) r.i
  starts-read = start-read (pool_around r) starts_around r.i inside

  -- the ID by the list of starts is its record's
  pub own-id : (x : ℕ) → x ≡ id_in (pool_around r) starts_around r.i → x ≡ id_at (records_around r) r.i
  own-id x h = h ∙ sym (id-read (pool_around r) starts_around r.i inside)
