-- `reference_rules::tag_at` meets its contract.
use mathlib.Core.Path.{sym, ◌∙◌}
use native.Mathlib.Omega.{arith}
use Rattle.naming.specs.Entries.{entries_in}
use Rattle.reference_rules.proofs.Tags.{data-some, tag-data, tag-other}
use Rattle.reference_rules.proofs.tag_at.Goals as goal

pub ddi_at-requires : goal.ddi_at-requires
ddi_at-requires c =
    let s = c in
    let es = entries_in s.args.records.now in
    (data-some es s.args.number (sym c.is_data_at.ensures ∙ c.if-is_data_at.true), s.requires)

pub returns-then-is_data_at : goal.returns-then-is_data_at
returns-then-is_data_at c =
    let a = c.args in
    let es = entries_in a.records.now in
    let is = tag-data a.records.now.pool.now es a.number (sym c.is_data_at.ensures ∙ c.if-is_data_at.true) in
    (omega (arith, is, c.ddi_at.ensures), omega arith)

pub returns : goal.returns
returns c =
    let a = c.args in
    let es = entries_in a.records.now in
    (sym (tag-other a.records.now.pool.now es a.number (sym c.is_data_at.ensures ∙ c.if-is_data_at.false)), omega arith)
