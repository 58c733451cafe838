-- `record_breaches::look::is_clear_list` meets its contract: after m entries their tags are distinct and their places are stamped.
use mathlib.Core.Path.{◌≡◌, sym, ap, ◌∙◌}
use Prim.Native.Nat.{ℕ, ◌+◌, ◌<◌, ◌%◌}
use native.Mathlib.Nat.{mod-lt}
use native.Mathlib.Omega.{arith}
use borrow.Author.Rules.{rules}
use Rattle.naming.specs.Naming.{named, tag_of}
use Rattle.naming.proofs.Names.{names-few, named-inside}
use Rattle.rules.proofs.Truth.{untrue}
use Rattle.field_rules.proofs.Clearing.{placed-none, placed-more, neither}
use Rattle.record_breaches.specs.Elements.{pool_of, around}
use Rattle.record_breaches.proofs.look.is_clear_list.Goals as goal

pub overflow_add-stamp : goal.overflow_add-stamp
overflow_add-stamp c = let e = c.args.element.now in omega (arith, names-few e.names.now, e.listed)

pub overflow_add-stamp-2 : goal.overflow_add-stamp-2
overflow_add-stamp-2 c = let few : (c.args.element.now.i + 1) % 255 < 255 = mod-lt _ (omega arith) in omega (arith, few)

pub overflow_cast-stamp : goal.overflow_cast-stamp
overflow_cast-stamp c = let few : (c.args.element.now.i + 1) % 255 < 255 = mod-lt _ (omega arith) in omega (arith, few)

pub loop-m-init : goal.loop-m-init
loop-m-init c = placed-none _ _ _ _

pub overflow_mul-m : goal.overflow_mul-m
overflow_mul-m c = omega (arith, c.loop-m-test.true, c.requires.0)

pub overflow_add-from : goal.overflow_add-from
overflow_add-from c = omega (arith, c.loop-m-test.true, c.requires.0)

pub within-requires : goal.within-requires
within-requires c = omega (arith, c.loop-m-test.true, c.requires.0)

pub tag_at-tag-requires : goal.tag_at-tag-requires
tag_at-tag-requires c = rw c.named_at-named.ensures (named-inside c.args.element.now.names.now c.within.result)

pub returns-then-tag-seen : goal.returns-then-tag-seen
returns-then-tag-seen c e = untrue e

pub loop-m-preserved : goal.loop-m-preserved
loop-m-preserved c =
    let a = c.args in
    let l = c.loop-m in
    let es = around a.element.now in
    let free = neither {x = 0} c.if-tag-seen.false in
    let is = c.tag_at-tag.ensures.0 ∙ ap (tag_of (pool_of a.element.now) es) (c.named_at-named.ensures ∙ ap (named es) (c.within.ensures ∙ sym (c.requires.1 l.m)))
    in
    placed-more (λ (t : ℕ). t % 1024) _ (1 + (a.element.now.i + 1) % 255) l.m l.seen l.invariant c.tag_at-tag.result is (search rules) free.0 free.1

pub returns : goal.returns
returns c e =
    let s : c.loop-m.m ≡ c.args.element.now.fields.entries = omega (arith, c.loop-m-test.false, c.loop-m.auto.m-end) in
    rw s at c.loop-m.invariant.apart
