-- `faults::objects::name_objects` meets its contract.
use mathlib.Core.Path.{ap, ◌∙◌}
use mathlib.Core.List.{List, ◌++◌}
use Prim.Native.Nat.{ℕ, ◌*◌}
use lib.ListN.{length, drop}
use Rattle.pool.specs.Walk.{entries_of}
use Rattle.faults.specs.Faults.{width}
use Rattle.faults.proofs.Completing.{completed, fitting, fitting-below, below-in-part}
use Rattle.faults.proofs.objects.name_objects.Goals as goal

pub name_all-requires : goal.name_all-requires
name_all-requires c =
    let a = c.args in
    let u = c.requires.1 in
    below-in-part _ a.buffer.now _ (fitting-below (length a.starts.now) a.buffer.now a.found _ u (c.min.ensures ∙ fitting u.before u.faults a.buffer.now a.found u.laid))

pub returns : goal.returns
returns c before fs l =
    let a = c.args in
    ap (λ (xs : List ℕ). xs ++ drop (c.min.result * width) a.buffer.now) c.name_all.ensures
    ∙ completed (entries_of a.p.now a.starts.now) before fs a.buffer.now _ l.0 (c.min.ensures ∙ fitting before fs a.buffer.now a.found l)
