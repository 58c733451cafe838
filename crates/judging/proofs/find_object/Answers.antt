-- `judging::find_object` meets its contract: the first entry that gives an object has the DDI, and those before it have not.
use Rattle.std.proofs.Common.{rules, suc, ap, ◌≡◌}
use Rattle.records.specs.declared.DeviceElement.{DeviceElement}
use Rattle.views.specs.Fields.{element_of}
use Rattle.naming.specs.Entries.{entries_in}
use Rattle.judging.proofs.Found.{answer, object-found}
use Rattle.judging.proofs.Mapped.{first-given}
use Rattle.judging.proofs.find_object.Goals as goal

pub returns : goal.returns
returns c =
    let r = c.args.names.now.records in
    let p = r.pool.now in
    let es = entries_in r in
    let at = c.args.at in
    let ddi = c.args.ddi in
    let size : c.device_element-element.result.entries ≡ (element_of p at).entries = ap (λ (e : DeviceElement). e.entries) c.device_element-element.ensures in
    let given = first-given _ _ (element_of p at).entries (λ m y. suc y ≡ answer p es at ddi m) (λ m. 0 ≡ answer p es at ddi m) c.find_map.result (rw size at c.find_map.ensures.runs) (search rules) (λ m y k. search rules) (λ m k. search rules) in
    object-found p es at ddi c.find_map.result given
