-- `record_breaches::look::is_clear_long` meets its contract: after m entries their tags are distinct and their bits are set.
use mathlib.Core.Path.{◌≡◌, sym, ap, ◌∙◌}
use Prim.Native.Nat.{◌<◌, ◌%◌}
use native.Mathlib.Nat.{mod-lt}
use native.Mathlib.Omega.{arith}
use borrow.Author.Rules.{rules}
use Rattle.naming.specs.Naming.{named, tag_of}
use Rattle.naming.proofs.Names.{named-inside}
use Rattle.rules.proofs.Truth.{untrue}
use Rattle.record_breaches.specs.Elements.{pool_of, around}
use Rattle.record_breaches.proofs.Noting.{noted-none, noted_more}
use Rattle.record_breaches.proofs.look.is_clear_long.Goals as goal

pub loop-m-init : goal.loop-m-init
loop-m-init c = noted-none _ _

pub overflow_mul-m : goal.overflow_mul-m
overflow_mul-m c = omega (arith, c.loop-m-test.true, c.requires.0)

pub overflow_add-from : goal.overflow_add-from
overflow_add-from c = omega (arith, c.loop-m-test.true, c.requires.0)

pub within-requires : goal.within-requires
within-requires c = omega (arith, c.loop-m-test.true, c.requires.0)

pub tag_at-tag-requires : goal.tag_at-tag-requires
tag_at-tag-requires c = rw c.named_at-named.ensures (named-inside c.args.element.now.names.now c.within.result)

pub returns-then-tag-eq0 : goal.returns-then-tag-eq0
returns-then-tag-eq0 c e = untrue e

pub note-requires : goal.note-requires
note-requires c =
    let small : c.tag_at-tag.result % 16384 < 16384 = mod-lt c.tag_at-tag.result (omega arith) in
    search rules

pub returns-then-note : goal.returns-then-note
returns-then-note c e = untrue e

pub loop-m-preserved : goal.loop-m-preserved
loop-m-preserved c =
    let a = c.args in
    let l = c.loop-m in
    let es = around a.element.now in
    let is = c.tag_at-tag.ensures.0 ∙ ap (tag_of (pool_of a.element.now) es) (c.named_at-named.ensures ∙ ap (named es) (c.within.ensures ∙ sym (c.requires.1 l.m)))
    in
    noted_more _ l.m l.noted _ l.invariant c.tag_at-tag.result is (search rules) c.note.ensures.2 c.if-tag-eq0.false (sym c.note.ensures.0 ∙ c.if-note.false)

pub returns : goal.returns
returns c e =
    let s : c.loop-m.m ≡ c.args.element.now.fields.entries = omega (arith, c.loop-m-test.false, c.loop-m.auto.m-end) in
    rw s at c.loop-m.invariant.apart
