-- `queries::labels_at` meets its contract: each label is copied over zeros.
use mathlib.Core.Path.{refl, ap, ◌∙◌}
use native.Mathlib.Omega.{arith}
use lib.ListN.{length}
use Rattle.records.specs.declared.Device.{Device}
use Rattle.views.specs.Fields.{part_of, device_of}
use Rattle.queries.proofs.Padded.{copied, structure-long, localization-long}
use Rattle.queries.proofs.labels_at.Goals as goal

pub overflow_cast-result : goal.overflow_cast-result
overflow_cast-result c = omega (arith, c.requires, ap length (c.part-text.ensures.0 ∙ ap (λ (d : Device). part_of c.args.p.now d.extended) c.device-device.ensures))

pub returns : goal.returns
returns c = record { number = refl; structure = copied 7 c.args.p.now (device_of c.args.p.now c.args.at).structure c.device-device.result.structure _ _ (ap (λ (d : Device). d.structure) c.device-device.ensures) c.part.ensures.0 c.copy.ensures.1 (structure-long c.args.p.now c.args.at); localization = copied 7 c.args.p.now (device_of c.args.p.now c.args.at).localization c.device-device.result.localization _ _ (ap (λ (d : Device). d.localization) c.device-device.ensures) c.part-2.ensures.0 c.copy-2.ensures.1 (localization-long c.args.p.now c.args.at); extended = copied 32 c.args.p.now (device_of c.args.p.now c.args.at).extended c.device-device.result.extended _ _ (ap (λ (d : Device). d.extended) c.device-device.ensures) c.part-text.ensures.0 c.copy-3.ensures.1 c.requires; count = ap length (c.part-text.ensures.0 ∙ ap (λ (d : Device). part_of c.args.p.now d.extended) c.device-device.ensures) }
