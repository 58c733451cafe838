-- `listing::Line::add_number` meets its contract.
use mathlib.Core.Path.{◌≡◌, sym, ap, ◌∙◌}
use mathlib.Core.List.{List, ◌++◌}
use Prim.Native.Nat.{ℕ, ◌+◌, ◌≤◌}
use native.Mathlib.Omega.{arith}
use lib.ListN.{length, length-append, take}
use Rattle.decimal.specs.Digits.{digits}
use Rattle.listing.proofs.Adding.{line-added, line-goes_on, line-room, number-room, twenty}
use Rattle.listing.proofs.Line.add_number.Goals as goal

pub invariant_of-self : goal.invariant_of-self
invariant_of-self c =
    let a = c.args in
    let i = c.self.inside in
    let within : i.used ≤ length i.memory = omega arith in
    let room = number-room i.memory a.self.now a.word.now c.add.new.self a.x c.self.told c.add.ensures c.requires (twenty a.x (omega arith)) in
    let next = c.put-self-inside.ensures.1 ∙ line-goes_on i.memory i.used c.add.new.self (digits a.x) (sym c.self.view_is) within room in
    omega (arith, line-room i.memory i.used c.add.new.self (digits a.x) (sym c.self.view_is) within room)

pub returns-clause-line : goal.returns-clause-line
returns-clause-line c =
    let a = c.args in
    let i = c.self.inside in
    let within : i.used ≤ length i.memory = omega arith in
    let room = number-room i.memory a.self.now a.word.now c.add.new.self a.x c.self.told c.add.ensures c.requires (twenty a.x (omega arith)) in
    ap (λ (k : ℕ). take k c.put-self-inside.new.out) (c.put-self-inside.ensures.1 ∙ line-goes_on i.memory i.used c.add.new.self (digits a.x) (sym c.self.view_is) within room)
    ∙ ap (take (i.used + length (digits a.x))) c.put-self-inside.ensures.0
    ∙ line-added i.memory i.used c.add.new.self (digits a.x) (sym c.self.view_is) within room
    ∙ ap (λ (l : List ℕ). l ++ digits a.x) c.add.ensures

pub returns-clause-few : goal.returns-clause-few
returns-clause-few c =
    let few : length (digits c.args.x) ≤ 20 = twenty c.args.x (omega arith) in
    rw (returns-clause-line c) (simp length-append (omega arith))
