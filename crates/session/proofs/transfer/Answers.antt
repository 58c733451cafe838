-- `session::transfer` meets its contract: each return is a case of the definition; the piece is copied into the part that is lent on.
use mathlib.Core.Path.{◌≡◌, refl, sym, ap, ◌∙◌}
use mathlib.Core.Bool.{false}
use Prim.Native.Nat.{ℕ, ◌+◌, ◌-◌, ◌≤◌}
use native.Mathlib.Omega.{arith}
use borrow.Author.Tests.{ltb-false, lt-ltb, le-ltb, eq-eqb, ne_eqb}
use mathlib.Core.List.{List, ◌++◌}
use lib.Dec.{eqb, ltb}
use lib.ListN.{length, take, drop}
use Rattle.session.specs.Calls.{impossible, transfer_of, staging_after}
use Rattle.session.specs.declared.Session.{Session}
use Rattle.session.proofs.Arising.{within, small}
use Rattle.wire.proofs.Either.{neither}
use Rattle.session.proofs.Pieces.{put_back}
use Rattle.session.proofs.transfer.Goals as goal

-- a piece that is no longer than what is left has room where the announced size has
fits : (s : Session) (n l : ℕ) → impossible s ≡ false → ltb (s.announced - s.received) n ≡ false → s.announced ≤ l → (s.received + n ≤ l) × (s.received + n ≤ 65535)
fits s n l e h k = let w = within s e in let m = small s e in let d = ltb-false (s.announced - s.received) n h in (omega arith, omega arith)

pub returns-then-is_impossible : goal.returns-then-is_impossible
unfolding transfer_of staging_after
returns-then-is_impossible c = rw (sym c.is_impossible.ensures ∙ c.if-is_impossible.true) (c.refuse.ensures, refl)

pub returns-then-s-ne1 : goal.returns-then-s-ne1
unfolding transfer_of staging_after
returns-then-s-ne1 c = rw (sym c.is_impossible.ensures ∙ c.if-is_impossible.false, ne_eqb _ _ c.if-s-ne1.true) (c.refuse-then-s-ne1.ensures, refl)

pub overflow_sub-announced : goal.overflow_sub-announced
overflow_sub-announced c = within c.args.s (sym c.is_impossible.ensures ∙ c.if-is_impossible.false)

pub returns-then-piece-announced : goal.returns-then-piece-announced
unfolding transfer_of staging_after
returns-then-piece-announced c = rw (sym c.is_impossible.ensures ∙ c.if-is_impossible.false, eq-eqb _ _ c.if-s-ne1.false, c.if-piece-announced.true) (c.refuse-then-piece-announced.ensures, refl)

pub returns-then-staging-announced : goal.returns-then-staging-announced
unfolding transfer_of staging_after
returns-then-staging-announced c = rw (sym c.is_impossible.ensures ∙ c.if-is_impossible.false, eq-eqb _ _ c.if-s-ne1.false, c.if-piece-announced.false, lt-ltb _ _ c.if-staging-announced.true) (c.refuse-then-staging-announced.ensures, refl)

pub slice_bounds-copy-count : goal.slice_bounds-copy-count
slice_bounds-copy-count c = omega (arith, within c.args.s (sym c.is_impossible.ensures ∙ c.if-is_impossible.false), c.if-staging-announced.false)

pub slice_bounds-copy-start : goal.slice_bounds-copy-start
slice_bounds-copy-start c = omega (arith, within c.args.s (sym c.is_impossible.ensures ∙ c.if-is_impossible.false), c.if-staging-announced.false)

pub overflow_cast-result : goal.overflow_cast-result
overflow_cast-result c = record { fits = omega (arith, (fits c.args.s (length c.args.piece.now) (length c.args.staging.now) (sym c.is_impossible.ensures ∙ c.if-is_impossible.false) (neither (eqb (length c.args.piece.now) 0) (ltb (c.args.s.announced - c.args.s.received) (length c.args.piece.now)) c.if-piece-announced.false).1 c.if-staging-announced.false).1) }

pub returns : goal.returns
unfolding transfer_of staging_after
returns c =
    let ok = sym c.is_impossible.ensures ∙ c.if-is_impossible.false in
    let offered = eq-eqb _ _ c.if-s-ne1.false in
    let room = fits c.args.s (length c.args.piece.now) (length c.args.staging.now) ok (neither (eqb (length c.args.piece.now) 0) (ltb (c.args.s.announced - c.args.s.received) (length c.args.piece.now)) c.if-piece-announced.false).1 c.if-staging-announced.false in
    rw (ok, offered, c.if-piece-announced.false, le-ltb _ _ c.if-staging-announced.false) (refl, ap (λ (l : List ℕ). take c.args.s.received c.args.staging.now ++ (l ++ drop (length c.args.staging.now - c.args.s.received) (drop c.args.s.received c.args.staging.now))) c.copy.ensures.1 ∙ put_back c.args.staging.now c.args.piece.now c.args.s.received room.0)
