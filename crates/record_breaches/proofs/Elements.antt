-- What the facts of a device element's record give. Assumes nothing.
use mathlib.Core.Path.{◌≡◌, sym, ap, ◌∙◌}
use Prim.Native.Nat.{ℕ, suc, ◌≤◌, ◌<◌}
use native.Mathlib.Omega.{arith}
use lib.ListN.{length}
use Rattle.views.specs.Fields.{element_of}
use Rattle.naming.specs.Records.{start_at, id_at}
use Rattle.naming.specs.Lists.{id_in}
use Rattle.naming.proofs.Starts.{id-read}
use Rattle.record_breaches.specs.declared.element.ElementRecord.{ElementRecord}
use Rattle.record_breaches.specs.Elements.{pool_of, around}
use Rattle.record_breaches.proofs.ElementRows.{list-fits}

module _ (e : ElementRecord) where
  pub inside : suc e.i < length e.names.now.records.starts.now
  inside = omega (arith, e.listed)

  -- its fields are those of its record
  pub fields-read : e.fields ≡ element_of (pool_of e) (start_at (around e) e.i)
  fields-read = e.read ∙ ap (element_of (pool_of e)) e.starts

  pub entries-few : e.fields.entries ≤ 32768
  entries-few = list-fits (pool_of e) e.names.now.records.starts.now e.names.now.records.divided e.i inside e.is_element e.fields fields-read

  -- the ID by the list of starts is its record's
  pub own-id : (x : ℕ) → x ≡ id_in (pool_of e) e.names.now.records.starts.now e.i → x ≡ id_at (around e) e.i
  own-id x h = h ∙ sym (id-read (pool_of e) e.names.now.records.starts.now e.i inside)
