-- `reference_rules::links::walk_links` meets its contract: the walk over the entries, and inside it the walk along the links.
use mathlib.Core.Path.{◌≡◌, refl, sym, ap, ◌∙◌, subst}
use mathlib.Core.List.{List, [], ◌∷◌}
use Prim.Native.Nat.{ℕ, ◌+◌, ◌<◌}
use native.Mathlib.Nat.{mod-lt}
use native.Mathlib.Omega.{arith}
use lib.ListN.{length}
use Rattle.faults.specs.Rows.{many}
use Rattle.faults.specs.Adding.{Adds}
use Rattle.faults.specs.declared.FaultList.{FaultList}
use Rattle.naming.specs.Naming.{tag_of}
use Rattle.naming.proofs.Names.{names-some, names-few}
use Rattle.rules.specs.Table.{doubled}
use Rattle.reference_rules.specs.declared.entries.EntryList.{EntryList}
use Rattle.reference_rules.specs.Entries.{around, named_in, tag_in}
use Rattle.reference_rules.proofs.Listed.{entry-inside}
use Rattle.reference_rules.proofs.Tags.{tag-nothing, tag-ddi}
use Rattle.reference_rules.proofs.Linked.{at, at-below, Walks, standing-tagged, walk_begins, walk-linked, walk-goes, walk-falls, walks-out}
use Rattle.reference_rules.proofs.Linking.{link_start, link-plain, link-known, link-met, link-new}
use Rattle.reference_rules.proofs.links.walk_links.Goals as goal

-- the pool of a list
abbrev pool : EntryList → List ℕ
pool list = list.names.records.pool.now

-- what an entry of a device element's list names, or 0 for no entry, is below the count of starts
below : (list : EntryList) (i : ℕ) → at (named_in list) i < length list.names.records.starts.now
below list i = at-below (named_in list) (length list.names.records.starts.now) (names-some list.names) (entry-inside list) i

pub entries-init : goal.entries-init
entries-init c =
    let a = c.args in
    let list = a.list.now in
    link_start (named_in list) (tag_of (pool list) (around list)) (tag-nothing (pool list) (around list)) 2048 a.number list.size a.links.now a.faults.now a.tops.now (omega arith) c.requires.0 c.requires.1 c.requires.3

pub tag_at-tag-requires : goal.tag_at-tag-requires
tag_at-tag-requires c = rw c.named_at-named.ensures (entry-inside c.args.list.now c.entries.m)

pub entries-preserved-then-tag-eq0 : goal.entries-preserved-then-tag-eq0
entries-preserved-then-tag-eq0 c =
    let a = c.args in
    let v = c.entries in
    let list = a.list.now in
    let entry : ℕ → ℕ = named_in list in
    let mark : ℕ → ℕ = tag_of (pool list) (around list) in
    let none = tag-nothing (pool list) (around list) in
    let names : c.named_at-named.result ≡ entry v.m = c.named_at-named.ensures in
    let is : c.tag_at-tag.result ≡ mark (entry v.m) = c.tag_at-tag.ensures.0 ∙ ap mark names in
    link-plain entry mark none 2048 a.number list.size a.links.now a.faults.now v.tops v.links v.faults v.m c.entries-test.true v.invariant (sym is ∙ c.if-tag-eq0.true)

pub bounds-links-named : goal.bounds-links-named
bounds-links-named c =
    let a = c.args in
    omega (arith, c.named_at-named.ensures, entry-inside c.args.list.now c.entries.m, c.entries.invariant.room, c.requires.2)

pub overflow_add-m : goal.overflow_add-m
overflow_add-m c = omega (arith, c.entries-test.true, c.args.list.now.few)

pub overflow_cast-m : goal.overflow_cast-m
overflow_cast-m c = omega (arith, c.entries-test.true, c.args.list.now.few)

pub put_if-requires : goal.put_if-requires
put_if-requires c = omega (arith, c.entries.invariant.adds.few, c.entries.invariant.within, c.args.list.now.few, c.requires.4)

pub entries-preserved-then-links-named-ne0 : goal.entries-preserved-then-links-named-ne0
entries-preserved-then-links-named-ne0 c =
    let a = c.args in
    let v = c.entries in
    let list = a.list.now in
    let entry : ℕ → ℕ = named_in list in
    let mark : ℕ → ℕ = tag_of (pool list) (around list) in
    let none = tag-nothing (pool list) (around list) in
    let names : c.named_at-named.result ≡ entry v.m = c.named_at-named.ensures in
    let is : c.tag_at-tag.result ≡ mark (entry v.m) = c.tag_at-tag.ensures.0 ∙ ap mark names in
    link-known entry mark none 2048 a.number list.size a.links.now a.faults.now v.tops v.links v.faults v.m c.entries-test.true v.invariant c.tag_at-tag.result (sym is) c.if-tag-eq0.false c.named_at-named.result names c.if-links-named-ne0.true (2 + v.m) _ (omega arith) c.put_if.ensures

pub offset_bounds-tops-b : goal.offset_bounds-tops-b
offset_bounds-tops-b c = omega (arith, mod-lt c.tag_at-tag.result c.entries.invariant.linked.some)

pub bounds-tops-b : goal.bounds-tops-b
bounds-tops-b c = omega (arith, mod-lt c.tag_at-tag.result c.entries.invariant.linked.some, c.entries.invariant.linked.wide)

pub loop-k-init : goal.loop-k-init
loop-k-init c =
    let a = c.args in
    let v = c.entries in
    let list = a.list.now in
    let entry : ℕ → ℕ = named_in list in
    let mark : ℕ → ℕ = tag_of (pool list) (around list) in
    let none = tag-nothing (pool list) (around list) in
    let start = walk_begins entry mark none v.m 2048 v.tops v.links v.invariant.linked c.tag_at-tag.result in
    (refl, refl, start, rw start.is (below list start.stands))

pub ddi_at-requires : goal.ddi_at-requires
ddi_at-requires c = (c.loop-k-test.true, c.loop-k.invariant.3)

pub bounds-links-named-then-ddi_at-tag : goal.bounds-links-named-then-ddi_at-tag
bounds-links-named-then-ddi_at-tag c =
    let a = c.args in
    omega (arith, c.named_at-named.ensures, entry-inside c.args.list.now c.entries.m, ap (λ (l : List ℕ). length l) c.loop-k.invariant.0, c.entries.invariant.room, c.requires.2)

pub overflow_add-m-then-ddi_at-tag : goal.overflow_add-m-then-ddi_at-tag
overflow_add-m-then-ddi_at-tag c = omega (arith, c.entries-test.true, c.args.list.now.few)

pub overflow_cast-m-then-ddi_at-tag : goal.overflow_cast-m-then-ddi_at-tag
overflow_cast-m-then-ddi_at-tag c = omega (arith, c.entries-test.true, c.args.list.now.few)

pub put_if-requires-then-ddi_at-tag : goal.put_if-requires-then-ddi_at-tag
put_if-requires-then-ddi_at-tag c = omega (arith, ap (λ (f : FaultList). f.count) c.loop-k.invariant.1, c.entries.invariant.adds.few, c.entries.invariant.within, c.args.list.now.few, c.requires.4)

pub entries-preserved-then-ddi_at-tag : goal.entries-preserved-then-ddi_at-tag
entries-preserved-then-ddi_at-tag c =
    let a = c.args in
    let v = c.entries in
    let list = a.list.now in
    let entry : ℕ → ℕ = named_in list in
    let mark : ℕ → ℕ = tag_of (pool list) (around list) in
    let none = tag-nothing (pool list) (around list) in
    let names : c.named_at-named.result ≡ entry v.m = c.named_at-named.ensures in
    let is : c.tag_at-tag.result ≡ mark (entry v.m) = c.tag_at-tag.ensures.0 ∙ ap mark names in
    let l = c.loop-k in
    let walks : Walks entry mark 2048 v.m c.tag_at-tag.result l.k = l.invariant.2 in
    let found : mark l.k ≡ c.tag_at-tag.result = omega (arith, tag-ddi (pool list) (around list) l.k (standing-tagged entry mark none v.m 2048 c.tag_at-tag.result l.k c.loop-k-test.true walks), c.ddi_at.ensures, c.if-ddi_at-tag.true) in
    rw l.invariant.0 (link-met entry mark none 2048 a.number list.size a.links.now a.faults.now v.tops v.links v.faults v.m c.entries-test.true v.invariant c.tag_at-tag.result (sym is) c.if-tag-eq0.false c.named_at-named.result names c.if-links-named-ne0.false l.k 65535 (2 + v.m) _ c.loop-k-test.true walks found (omega arith) (rw (← l.invariant.1) c.put_if-then-ddi_at-tag.ensures))

pub bounds-links-k : goal.bounds-links-k
bounds-links-k c = omega (arith, ap (λ (l : List ℕ). length l) c.loop-k.invariant.0, c.loop-k.invariant.3, c.entries.invariant.room, c.requires.2)

pub overflow_sub-k : goal.overflow_sub-k
overflow_sub-k c =
    let a = c.args in
    let v = c.entries in
    let list = a.list.now in
    let entry : ℕ → ℕ = named_in list in
    let mark : ℕ → ℕ = tag_of (pool list) (around list) in
    let none = tag-nothing (pool list) (around list) in
    let l = c.loop-k in
    rw l.invariant.0 (walk-linked entry mark none v.m 2048 v.tops v.links v.invariant.linked c.tag_at-tag.result l.k c.loop-k-test.true (l.invariant.2))

pub loop-k-smaller : goal.loop-k-smaller
loop-k-smaller c =
    let a = c.args in
    let v = c.entries in
    let list = a.list.now in
    let entry : ℕ → ℕ = named_in list in
    let mark : ℕ → ℕ = tag_of (pool list) (around list) in
    let none = tag-nothing (pool list) (around list) in
    let l = c.loop-k in
    rw l.invariant.0 (walk-falls entry mark none v.m 2048 v.tops v.links v.invariant.linked c.tag_at-tag.result l.k c.loop-k-test.true (l.invariant.2) list.size v.invariant.within)

pub loop-k-preserved : goal.loop-k-preserved
loop-k-preserved c =
    let a = c.args in
    let v = c.entries in
    let list = a.list.now in
    let entry : ℕ → ℕ = named_in list in
    let mark : ℕ → ℕ = tag_of (pool list) (around list) in
    let none = tag-nothing (pool list) (around list) in
    let l = c.loop-k in
    let walks : Walks entry mark 2048 v.m c.tag_at-tag.result l.k = l.invariant.2 in
    let other : mark l.k ≡ c.tag_at-tag.result → ⊥ = λ (e : mark l.k ≡ c.tag_at-tag.result). c.if-ddi_at-tag.false (omega (arith, e, tag-ddi (pool list) (around list) l.k (standing-tagged entry mark none v.m 2048 c.tag_at-tag.result l.k c.loop-k-test.true walks), c.ddi_at.ensures)) in
    let on = walk-goes entry mark none v.m 2048 v.tops v.links v.invariant.linked c.tag_at-tag.result l.k c.loop-k-test.true walks other in
    (l.invariant.0, l.invariant.1, rw l.invariant.0 on, rw (l.invariant.0, on.is) (below list on.stands))

pub offset_bounds-tops-b-in-entries : goal.offset_bounds-tops-b-in-entries
offset_bounds-tops-b-in-entries c = omega (arith, mod-lt c.tag_at-tag.result c.entries.invariant.linked.some)

pub bounds-tops-b-in-entries : goal.bounds-tops-b-in-entries
bounds-tops-b-in-entries c = omega (arith, mod-lt c.tag_at-tag.result c.entries.invariant.linked.some, c.entries.invariant.linked.wide)

pub overflow_add-links : goal.overflow_add-links
overflow_add-links c =
    let a = c.args in
    let v = c.entries in
    let list = a.list.now in
    let entry : ℕ → ℕ = named_in list in
    let mark : ℕ → ℕ = tag_of (pool list) (around list) in
    let none = tag-nothing (pool list) (around list) in
    let start = walk_begins entry mark none v.m 2048 v.tops v.links v.invariant.linked c.tag_at-tag.result in
    omega (arith, start.is, below list start.stands, names-few list.names)

pub bounds-links-named-in-entries : goal.bounds-links-named-in-entries
bounds-links-named-in-entries c =
    let a = c.args in
    omega (arith, c.named_at-named.ensures, entry-inside c.args.list.now c.entries.m, ap (λ (l : List ℕ). length l) c.loop-k.invariant.0, c.entries.invariant.room, c.requires.2)

pub offset_bounds-tops-b-in-entries-2 : goal.offset_bounds-tops-b-in-entries-2
offset_bounds-tops-b-in-entries-2 c = omega (arith, mod-lt c.tag_at-tag.result c.entries.invariant.linked.some)

pub bounds-tops-b-in-entries-2 : goal.bounds-tops-b-in-entries-2
bounds-tops-b-in-entries-2 c = omega (arith, mod-lt c.tag_at-tag.result c.entries.invariant.linked.some, c.entries.invariant.linked.wide)

pub entries-preserved : goal.entries-preserved
entries-preserved c =
    let a = c.args in
    let v = c.entries in
    let list = a.list.now in
    let entry : ℕ → ℕ = named_in list in
    let mark : ℕ → ℕ = tag_of (pool list) (around list) in
    let none = tag-nothing (pool list) (around list) in
    let names : c.named_at-named.result ≡ entry v.m = c.named_at-named.ensures in
    let is : c.tag_at-tag.result ≡ mark (entry v.m) = c.tag_at-tag.ensures.0 ∙ ap mark names in
    let l = c.loop-k in
    let without = walks-out entry mark none v.m 2048 c.tag_at-tag.result l.k c.loop-k-test.false c.if-tag-eq0.false (l.invariant.2) in
    rw (l.invariant.0, l.invariant.1, l.invariant.2) (link-new entry mark none 2048 a.number list.size a.links.now a.faults.now v.tops v.links v.faults v.m c.entries-test.true v.invariant c.tag_at-tag.result (sym is) c.if-tag-eq0.false c.named_at-named.result names without (omega (arith, c.named_at-named.ensures, entry-inside c.args.list.now c.entries.m, c.requires.2)))

pub returns : goal.returns
returns c =
    let a = c.args in
    let v = c.entries in
    let end : v.m ≡ a.list.now.size = omega (arith, c.entries-test.false, v.invariant.within) in
    subst (λ (m : ℕ). Adds a.number (many 12 2 m (doubled (tag_in a.list.now)) ∷ []) m a.faults.now v.faults) end v.invariant.adds
