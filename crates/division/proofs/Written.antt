-- The whole records of a kind are exactly the bytes that `Written` describes. Assumes nothing.
use mathlib.Core.Path.{◌≡◌, refl, sym, ap, subst, ◌∙◌}
use mathlib.Core.List.{List, [], ◌∷◌, ◌++◌, append-nil}
use Prim.Native.Nat.{ℕ, suc, ◌*◌, ◌≤◌}
use native.Mathlib.Omega.{arith}
use lib.ListN.{length}
use Rattle.wire.specs.Bytes.{le_of}
use Rattle.records.specs.Layout.{Field, fixed, text, entries, mark, layout}
use Rattle.records.specs.declared.Kind.{Kind}
use Rattle.records.specs.declared.Kind.TheVariants.{Dvc, Det, Dpd, Dpt, Dvp}
use Rattle.division.specs.Whole.{Is, Fills, Whole}
use Rattle.division.specs.Written.{sized, Written, dvc, det, dpd, dpt, dvp, WholeAreWritten}

-- a text field is a text with its length byte in front
text_of : {limit : ℕ} {b : List ℕ} → Is (text limit) b → (t : List ℕ) × (b ≡ sized t) × (length t ≤ limit)
text_of (n, t, e, o, l) = (t, e ∙ ap (λ (m : ℕ). m ∷ t) (sym l), omega (arith, o, l))

of-text : (limit : ℕ) (t : List ℕ) → length t ≤ limit → Is (text limit) (sized t)
of-text limit t h = (length t, t, refl, h, refl)

-- entries are a count and the list
of-entries : (count list : List ℕ) → length count ≡ 2 → length list ≡ 2 * le_of count → Is entries (count ++ list)
of-entries [] list c l = absurd (let z : 0 ≡ 2 = c in omega arith)
of-entries (a ∷ []) list c l = absurd (let z : 1 ≡ 2 = c in omega arith)
of-entries (a ∷ b ∷ []) list c l = (a, b, list, refl, l)
of-entries (a ∷ b ∷ x ∷ xs) list c l = absurd (let z : suc (suc (suc (length xs))) ≡ 2 = c in omega arith)

-- the last field leaves nothing
last_of : (f : Field) (s : List ℕ) → Fills (f ∷ []) s → Is f s
last_of f s (b, rest, e, i, z) = rw (e, z, append-nil) i

of-last : (f : Field) (s : List ℕ) → Is f s → Fills (f ∷ []) s
of-last f s i = (s, [], sym (append-nil s), i, refl)

last-entries : (count list : List ℕ) → length count ≡ 2 → length list ≡ 2 * le_of count → Fills (entries ∷ []) (count ++ (list ++ []))
last-entries count list c l = rw (append-nil list) (of-last entries (count ++ list) (of-entries count list c l))

written : (k : Kind) (body : List ℕ) → Fills (layout k) body → Written k (mark k ++ body)
unfolding layout mark
written Dvc body (id, s1, e1, l1, (b2, s2, e2, i2, (b3, s3, e3, i3, (name, s4, e4, l4, (b5, s5, e5, i5, (structure, s6, e6, l6, (localization, s7, e7, l7, f8))))))) =
    let t2 = text_of i2 in
    let t3 = text_of i3 in
    let t5 = text_of i5 in
    let t8 = text_of (last_of (text 32) s7 f8) in
    rw (e1, e2, e3, e4, e5, e6, e7, t2.1, t3.1, t5.1, t8.1 ∙ sym (append-nil (sized t8.0)))
    (dvc id t2.0 t3.0 name t5.0 structure localization t8.0 l1 t2.2 t3.2 l4 t5.2 l6 l7 t8.2)
written Det body (id, s1, e1, l1, (type, s2, e2, l2, (b3, s3, e3, i3, (number, s4, e4, l4, (parent, s5, e5, l5, f6))))) =
    let t3 = text_of i3 in
    let i6 = last_of entries s5 f6 in
    rw (e1, e2, e3, e4, e5, t3.1, i6.3 ∙ sym (append-nil (i6.0 ∷ i6.1 ∷ i6.2)))
    (det id type t3.0 number parent (i6.0 ∷ i6.1 ∷ []) i6.2 l1 l2 t3.2 l4 l5 refl i6.4)
written Dpd body (id, s1, e1, l1, (ddi, s2, e2, l2, (properties, s3, e3, l3, (triggers, s4, e4, l4, (b5, s5, e5, i5, f6))))) =
    let t5 = text_of i5 in
    let l6 = last_of (fixed 2) s5 f6 in
    rw (e1, e2, e3, e4, e5, t5.1, sym (append-nil s5)) (dpd id ddi properties triggers t5.0 s5 l1 l2 l3 l4 t5.2 l6)
written Dpt body (id, s1, e1, l1, (ddi, s2, e2, l2, (value, s3, e3, l3, (b4, s4, e4, i4, f5)))) =
    let t4 = text_of i4 in
    let l5 = last_of (fixed 2) s4 f5 in
    rw (e1, e2, e3, e4, t4.1, sym (append-nil s4)) (dpt id ddi value t4.0 s4 l1 l2 l3 t4.2 l5)
written Dvp body (id, s1, e1, l1, (offset, s2, e2, l2, (scale, s3, e3, l3, (decimals, s4, e4, l4, f5)))) =
    let t5 = text_of (last_of (text 128) s4 f5) in
    rw (e1, e2, e3, e4, t5.1 ∙ sym (append-nil (sized t5.0))) (dvp id offset scale decimals t5.0 l1 l2 l3 l4 t5.2)

whole : {k : Kind} {r : List ℕ} → Written k r → (w : Whole r) × (w.kind ≡ k)
unfolding layout mark
whole (dvc id d v name s st lo x l1 l2 l3 l4 l5 l6 l7 l8) = (
  record {
    kind = Dvc;
    body = _;
    marked = refl;
    filled = (id, _, refl, l1, (sized d, _, refl, (of-text 128 d l2), (sized v, _, refl, (of-text 128 v l3), (name, _, refl, l4, (sized s, _, refl, (of-text 128 s l5), (st, _, refl, l6, (lo, _, refl, l7, (sized x, [], refl, (of-text 32 x l8), refl))))))));
  },
  refl,
)
whole (det id type d number parent count list l1 l2 l3 l4 l5 l6 l7) = (
  record {
    kind = Det;
    body = _;
    marked = refl;
    filled = (id, _, refl, l1, (type, _, refl, l2, (sized d, _, refl, (of-text 128 d l3), (number, _, refl, l4, (parent, _, refl, l5, last-entries count list l6 l7)))));
  },
  refl,
)
whole (dpd id ddi properties triggers d presentation l1 l2 l3 l4 l5 l6) = (
  record {
    kind = Dpd;
    body = _;
    marked = refl;
    filled = (id, _, refl, l1, (ddi, _, refl, l2, (properties, _, refl, l3, (triggers, _, refl, l4, (sized d, _, refl, (of-text 128 d l5), (presentation, [], refl, l6, refl))))));
  },
  refl,
)
whole (dpt id ddi value d presentation l1 l2 l3 l4 l5) = (
  record {
    kind = Dpt;
    body = _;
    marked = refl;
    filled = (id, _, refl, l1, (ddi, _, refl, l2, (value, _, refl, l3, (sized d, _, refl, (of-text 128 d l4), (presentation, [], refl, l5, refl)))));
  },
  refl,
)
whole (dvp id offset scale decimals unit l1 l2 l3 l4 l5) = (
  record {
    kind = Dvp;
    body = _;
    marked = refl;
    filled = (id, _, refl, l1, (offset, _, refl, l2, (scale, _, refl, l3, (decimals, _, refl, l4, (sized unit, [], refl, (of-text 128 unit l5), refl)))));
  },
  refl,
)

pub whole-are-written : WholeAreWritten
whole-are-written k r = ((λ w. there w.0 w.1), whole)
  where
    there : (w : Whole r) → w.kind ≡ k → Written k r
    there w e = subst (λ (j : Kind). Written j r) e (rw w.marked (written w.kind w.body w.filled))
