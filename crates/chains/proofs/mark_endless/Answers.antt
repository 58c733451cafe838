-- `chains::mark_endless` meets its contract.
use mathlib.Core.Path.{◌≡◌, sym, ap, ◌∙◌}
use mathlib.Core.Bool.{not}
use mathlib.Core.List.{List}
use Prim.Native.Nat.{ℕ, suc, ◌-◌, ◌<◌}
use native.Mathlib.Omega.{arith}
use lib.Dec.{eqb}
use lib.ListN.{length, get_or, replicate, take, drop, length-drop}
use lib.Seq.{length-take-le, get_or-take}
use Rattle.std.proofs.lemmas.Grind.{get_or_after_one}
use Rattle.pool.proofs.Starts.{entries-long}
use Rattle.naming.specs.Entries.{entries_in}
use Rattle.naming.proofs.Lists.{blank, blank_take, long}
use Rattle.naming.proofs.Names.{names-few}
use Rattle.chains.proofs.Jumping.{ended_same}
use Rattle.chains.proofs.mark_endless.Goals as goal

-- all items of a list but the first
behind-long : (l : List ℕ) → length (take (length l - 1) (drop 1 l)) ≡ length l - 1
behind-long l = length-take-le (length l - 1) (drop 1 l) (omega (arith, length-drop 1 l))

behind : (l : List ℕ) (i : ℕ) → suc i < length l → get_or (take (length l - 1) (drop 1 l)) i 0 ≡ get_or l (suc i) 0
behind l i b = get_or-take (length l - 1) (drop 1 l) i 0 (omega arith) ∙ get_or_after_one l i 0 ∙ ap (λ (k : ℕ). get_or l k 0) (omega arith)

pub slice_bounds-room-end : goal.slice_bounds-room-end
slice_bounds-room-end c = names-few c.args.names.now

pub slice_bounds-ups-end : goal.slice_bounds-ups-end
slice_bounds-ups-end c = sym (length-take-le _ (replicate 5462 0) (long 5462 _ (names-few c.args.names.now)))

pub chains-requires : goal.chains-requires
chains-requires c = (length-take-le _ (replicate 5462 0) (long 5462 _ (names-few c.args.names.now)), blank_take _ _ (blank 5462))

pub mark_left-requires : goal.mark_left-requires
mark_left-requires c =
    let wide = c.chains.auto.ups ∙ length-take-le _ (replicate 5462 0) (long 5462 _ (names-few c.args.names.now)) in
    (c.requires.0, omega (arith, behind-long c.chains.new.ups, wide, c.requires.1))

pub returns : goal.returns
returns c i l =
    let records = c.args.names.now.records in
    let ups = c.chains.new.ups in
    let wide = c.chains.auto.ups ∙ length-take-le _ (replicate 5462 0) (long 5462 _ (names-few c.args.names.now)) in
    c.mark_left.ensures i (omega (arith, behind-long ups, wide))
    ∙ ap (λ (x : ℕ). not (eqb x 0)) (behind ups i (omega (arith, wide)))
    ∙ ended_same records.pool.now (entries_in records) ups c.chains.ensures (suc i) (omega (arith, entries-long records.pool.now records.starts.now))
