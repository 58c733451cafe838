-- `session::is_impossible` meets its contract: the tests are the definition's, in its order.
use mathlib.Core.Path.{◌≡◌}
use mathlib.Core.Bool.{Bool, not, ◌&&◌, ◌||◌, or_assoc, or-false}
use mathlib.Core.List.{[], ◌∷◌}
use lib.Dec.{eqb, ltb}
use Rattle.session.specs.Calls.{is_offered, is_active, any_of, impossible}
use Rattle.session.proofs.is_impossible.Goals as goal

-- tests joined from the left, and as a list
joined : (a b c d f g h i j : Bool) → (((((((a || b) || (c || d)) || f) || g) || h) || i) || j) ≡ any_of (a ∷ b ∷ c ∷ d ∷ f ∷ g ∷ h ∷ i ∷ j ∷ [])
joined a b c d f g h i j = simp (or_assoc, or-false)

pub returns : goal.returns
unfolding impossible
returns c =
    let s = c.args.s in
    joined (ltb 1 s.stage) (ltb 1 s.active) (ltb 65535 s.announced) (ltb 65535 s.kept) (is_offered s && eqb s.announced 0) (ltb s.announced s.received) (is_active s && eqb s.kept 0) (not (is_offered s) && not (eqb s.announced 0)) (not (is_offered s) && not (eqb s.received 0))
