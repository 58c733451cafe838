-- `time_log::layout::places_of` meets its contract: the places up to this field are right.
use Rattle.std.proofs.Common.{◌≡◌, ◌+◌, refl, ◌∙◌, arith, length-set}
use Rattle.time_log.proofs.Parts.{first-place, place-next, place-set, place-small}
use Rattle.time_log.proofs.layout.places_of.Goals as goal

pub loop-k-init : goal.loop-k-init
loop-k-init c = record { long = refl; placed = λ j h. let e : j ≡ 0 = omega arith in rw e (first-place c.args.layout) }

pub overflow_add-starts : goal.overflow_add-starts
overflow_add-starts c =
    let l = c.loop-k in
    omega (arith, place-next c.args.layout l.k, place-small c.args.layout (l.k + 1), l.invariant.placed l.k (omega arith), c.loop-k-test.true)

pub loop-k-preserved : goal.loop-k-preserved
loop-k-preserved c =
    let l = c.loop-k in
    record {
      long = length-set l.starts _ _ ∙ l.invariant.long;
      placed = place-set c.args.layout l.k l.starts (omega (arith, l.invariant.long, c.loop-k-test.true)) l.invariant.placed;
    }
