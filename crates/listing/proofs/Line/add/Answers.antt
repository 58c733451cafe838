-- `listing::Line::add` meets its contract.
use mathlib.Core.Path.{sym, ap, ◌∙◌}
use Prim.Native.Nat.{◌+◌, ◌≤◌}
use native.Mathlib.Omega.{arith}
use lib.ListN.{length, take}
use Rattle.listing.proofs.Adding.{line-added}
use Rattle.listing.proofs.Line.add.Goals as goal

pub returns : goal.returns
returns c =
    let a = c.args in
    let i = c.self.inside in
    let within : i.used ≤ length i.memory = omega arith in
    ap (take (i.used + length a.s.now)) c.copy.ensures.1 ∙ line-added i.memory i.used a.self.now a.s.now (sym c.self.view_is) within (omega arith)
