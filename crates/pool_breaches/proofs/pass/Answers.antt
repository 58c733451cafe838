-- `pool_breaches::pass` meets its contract.
use mathlib.Core.Path.{sym, ap, ◌∙◌}
use Rattle.records.specs.Layout.{kind_code}
use Rattle.records.specs.declared.Kind.TheVariants.{Det}
use Rattle.records.proofs.Codes.{code-tells}
use Rattle.pool_breaches.proofs.Sighting.{sighted-other}
use Rattle.pool_breaches.proofs.pass.Goals as goal

pub pass_element-requires : goal.pass_element-requires
pass_element-requires c = (c.requires.0, sym c.record_kind-kind.ensures ∙ ap kind_code c.in-Det.is, c.requires.1, c.requires.2)

pub invariant_of-put_other : goal.invariant_of-put_other
invariant_of-put_other c =
    record {
      listed = c.requires.0;
      told = c.record_kind-kind.ensures;
      no_element = λ e. c.in_default.not-Det (code-tells c.record_kind-kind.result Det e);
    }

pub returns-in_default : goal.returns-in_default
returns-in_default c =
    let a = c.args in
    (c.put_other.ensures, sighted-other a.pool.now.names.records a.i a.sight.now c.requires.1 (λ e. c.in_default.not-Det (code-tells c.record_kind-kind.result Det (c.record_kind-kind.ensures ∙ e))))
