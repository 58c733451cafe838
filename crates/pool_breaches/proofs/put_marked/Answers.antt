-- `pool_breaches::put_marked`: the marks are blank, and long enough.
use mathlib.Core.Path.{refl}
use Prim.Native.Nat.{ℕ, ◌*◌, ◌≤◌}
use native.Mathlib.Omega.{arith}
use lib.ListN.{length, replicate}
use Rattle.naming.proofs.Lists.{blank, long}
use Rattle.pool_breaches.proofs.Sighting.{sighted-start}
use Rattle.pool_breaches.proofs.put_marked.Goals as goal

pub put_sighted-requires : goal.put_sighted-requires
put_sighted-requires g c =
    let r = c.args.names.now.records in
    let room : length r.starts.now ≤ 8 * length {A = ℕ} (replicate g.row.MARKS 0) = omega (arith, c.requires.0, long g.row.MARKS g.row.MARKS (omega arith)) in
    sighted-start _ _ refl (omega (arith, long 512 512 (omega arith))) room room (blank 512) (blank _) (blank _)
