-- `records::end::marked` meets its contract: the end of each kind's fields is also that of testing late.
use mathlib.Core.Path.{◌∙◌}
use Rattle.records.specs.Layout.{layout}
use Rattle.records.specs.declared.Kind.TheVariants.{Dvc, Det, Dpd, Dpt, Dvp}
use Rattle.records.proofs.Late.{late}
use Rattle.records.proofs.end.marked.Goals as goal

pub returns-in-Dvc-clause-late : goal.returns-in-Dvc-clause-late
returns-in-Dvc-clause-late c = rw c.in-Dvc.is (c.dvc_end.ensures ∙ late (layout Dvc) c.args.p.now c.args.at c.requires)

pub returns-in-Det-clause-late : goal.returns-in-Det-clause-late
returns-in-Det-clause-late c = rw c.in-Det.is (c.det_end.ensures ∙ late (layout Det) c.args.p.now c.args.at c.requires)

pub returns-in-Dpd-clause-late : goal.returns-in-Dpd-clause-late
returns-in-Dpd-clause-late c = rw c.in-Dpd.is (c.dpd_end.ensures ∙ late (layout Dpd) c.args.p.now c.args.at c.requires)

pub returns-in-Dpt-clause-late : goal.returns-in-Dpt-clause-late
returns-in-Dpt-clause-late c = rw c.in-Dpt.is (c.dpt_end.ensures ∙ late (layout Dpt) c.args.p.now c.args.at c.requires)

pub returns-in-Dvp-clause-late : goal.returns-in-Dvp-clause-late
returns-in-Dvp-clause-late c = rw c.in-Dvp.is (c.dvp_end.ensures ∙ late (layout Dvp) c.args.p.now c.args.at c.requires)
