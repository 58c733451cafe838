-- Fields one after the other: what their bytes can be, and what is read from them after any other bytes. Assumes nothing.
use mathlib.Core.Path.{◌≡◌, refl, sym, ap, ◌∙◌, subst}
use mathlib.Core.List.{List, [], ◌∷◌, ◌++◌, append_assoc}
use Prim.Native.Nat.{ℕ, ◌+◌, ◌≤◌, ◌<◌}
use native.Mathlib.Nat.{add-zero}
use native.Mathlib.Omega.{arith}
use native.Mathlib.Decide.{dec_le}
use lib.ListN.{length, drop, replicate, length-append, length-drop, length-replicate}
use Rattle.std.specs.Prelude.{Result, Ok, Err}
use Rattle.wire.specs.Bytes.{le_of}
use Rattle.records.specs.Layout.{Field, fixed, text, entries}
use Rattle.records.specs.Extents.{next, field_end, fields_end}
use Rattle.records.specs.declared.Flaw.{Flaw}
use Rattle.records.specs.declared.Flaw.TheVariants.{Cut, LengthOver}
use Rattle.records.proofs.Range.{stays}
use Rattle.division.specs.Whole.{Is, Fills}
use Rattle.division.proofs.Reading.{Reading, whole, cut, wrong, behind, longer-front}
use Rattle.division.proofs.Fields.{Over, field-whole, field_cut, length_over, field-reading}

-- ---- what is read
one_by_one : (fs gs : List Field) (p : List ℕ) (e : Result ℕ Flaw) → fields_end (fs ++ gs) p e ≡ fields_end gs p (fields_end fs p e)
one_by_one [] gs p e = refl
one_by_one (f ∷ fs) gs p e = one_by_one fs gs p (next f p e)

-- past a field that is all there the others are read behind it
past_one : (f : Field) (fs : List Field) (b pre s : List ℕ) → Is f b
    → fields_end (f ∷ fs) (pre ++ (b ++ s)) (Ok (length pre)) ≡ fields_end fs ((pre ++ b) ++ s) (Ok (length (pre ++ b)))
past_one f fs b pre s h = rw (field-whole f b pre s h, append_assoc, length-append)

pub fields-whole : (fs : List Field) (b pre post : List ℕ) → Fills fs b
    → fields_end fs (pre ++ (b ++ post)) (Ok (length pre)) ≡ Ok (length pre + length b)
fields-whole [] b pre post h = rw (h, add-zero)
fields-whole (f ∷ fs) b pre post h =
    let x : List ℕ = h.0 in
    let r : List ℕ = h.1 in
    let ih = fields-whole fs r (pre ++ x) post h.4 in
    rw (h.2, append_assoc) (past_one f fs x pre (r ++ post) h.3 ∙ ih ∙ ap Ok (omega (arith, length-append pre x, length-append x r)))

pub fields-cut : (fs : List Field) (s m pre : List ℕ) → 0 < length m → Fills fs (s ++ m) → fields_end fs (pre ++ s) (Ok (length pre)) ≡ Err Cut
fields-cut [] s m pre o h = let z : length (s ++ m) ≡ 0 = ap length h in absurd (omega (arith, length-append s m))
fields-cut (f ∷ fs) s m pre o h = go (dec_le (length x) (length s)) (λ t. fields-cut fs t m (pre ++ x) o)
  where
    x : List ℕ
    x = h.0

    r : List ℕ
    r = h.1

    go : Dec (length x ≤ length s) → ((t : List ℕ) → Fills fs (t ++ m) → fields_end fs ((pre ++ x) ++ t) (Ok (length (pre ++ x))) ≡ Err Cut)
        → fields_end (f ∷ fs) (pre ++ s) (Ok (length pre)) ≡ Err Cut
    go (yes l) ih =
        let t : List ℕ = drop (length x) s in
        let e = longer-front x r s m (sym h.2) l in
        rw e.0 (past_one f fs x pre t h.3 ∙ ih t (subst (Fills fs) e.1 h.4))
    go (no l) ih =
        let t : List ℕ = drop (length s) x in
        let e = longer-front s m x r h.2 (omega arith) in
        let c = field_cut f s t pre (omega (arith, length-drop (length s) x)) (subst (Is f) e.0 h.3) in
        rw c (stays fs (pre ++ s) Cut)

pub fields-over : (before : List Field) (limit : ℕ) (after : List Field) (bytes pre : List ℕ) (over : ℕ) (rest : List ℕ) → Fills before bytes → limit < over
    → fields_end (before ++ (text limit ∷ after)) (pre ++ (bytes ++ (over ∷ rest))) (Ok (length pre)) ≡ Err (LengthOver (length pre + length bytes))
fields-over before limit after bytes pre over rest h o =
    let p : List ℕ = pre ++ (bytes ++ (over ∷ rest)) in
    let e : p ≡ (pre ++ bytes) ++ (over ∷ rest) = sym (append_assoc pre bytes (over ∷ rest)) in
    let l : length (pre ++ bytes) ≡ length pre + length bytes = length-append pre bytes in
    let c : field_end (text limit) p (length pre + length bytes) ≡ Err (LengthOver (length pre + length bytes)) =
    rw (e, ← l) (length_over limit over rest (pre ++ bytes) o) in
    one_by_one before (text limit ∷ after) p (Ok (length pre))
    ∙ ap (fields_end (text limit ∷ after) p) (fields-whole before bytes pre (over ∷ rest) h)
    ∙ ap (fields_end after p) c
    ∙ stays after p (LengthOver (length pre + length bytes))

-- ---- what the bytes can be

-- bytes that fill fields: the least of each
least-bytes : (fs : List Field) → (b : List ℕ) × Fills fs b
unfolding le_of
least-bytes [] = ([], refl)
least-bytes (f ∷ fs) = let r = least-bytes fs in let b = one f in (b.0 ++ r.0, (b.0, r.0, refl, b.1, r.1))
  where
    one : (f : Field) → (b : List ℕ) × Is f b
    one (fixed n) = (replicate n 0, length-replicate n 0)
    one (text limit) = (0 ∷ [], (0, [], refl, omega arith, refl))
    one entries = (0 ∷ 0 ∷ [], (0, 0, [], refl, refl))

-- behind the fields before it stands a length byte over its limit
pub record SomeOver (fs : List Field) (s : List ℕ) : Type 0 where
  pub before : List Field
  pub limit : ℕ
  pub after : List Field
  pub fields : fs ≡ before ++ (text limit ∷ after)
  pub bytes : List ℕ
  pub filled : Fills before bytes
  pub over : ℕ
  pub rest : List ℕ
  pub stands : s ≡ bytes ++ (over ∷ rest)
  pub exceeds : limit < over

first-over : (f : Field) (fs : List Field) (s : List ℕ) → Over f s → SomeOver (f ∷ fs) s
first-over f fs s w =
    record {
      before = [];
      limit = w.limit;
      after = fs;
      fields = ap (λ (g : Field). g ∷ fs) w.field;
      bytes = [];
      filled = refl;
      over = w.over;
      rest = w.rest;
      stands = w.stands;
      exceeds = w.exceeds;
    }

later-over : (f : Field) (fs : List Field) (b s : List ℕ) → Is f b → SomeOver fs s → SomeOver (f ∷ fs) (b ++ s)
later-over f fs b s h w =
    record {
      before = f ∷ w.before;
      limit = w.limit;
      after = w.after;
      fields = ap (λ (l : List Field). f ∷ l) w.fields;
      bytes = b ++ w.bytes;
      filled = (b, w.bytes, refl, h, w.filled);
      over = w.over;
      rest = w.rest;
      stands = ap (λ (l : List ℕ). b ++ l) w.stands ∙ sym (append_assoc b w.bytes (w.over ∷ w.rest));
      exceeds = w.exceeds;
    }

-- any bytes are the fields and more, or a beginning of them, or have a length byte over its limit
pub fields-reading : (fs : List Field) (s : List ℕ) → Reading (Fills fs) (SomeOver fs s) s
fields-reading [] s = whole [] s refl refl
fields-reading (f ∷ fs) s = go (field-reading f s) (fields-reading fs)
  where
    go : Reading (Is f) (Over f s) s → ((t : List ℕ) → Reading (Fills fs) (SomeOver fs t) t) → Reading (Fills (f ∷ fs)) (SomeOver (f ∷ fs) s) s
    go (whole b t e h) ih = rw e (behind b t (λ r g. (b, r, refl, h, g)) (later-over f fs b t h) (ih t))
    go (cut m o h) ih =
        let r = least-bytes fs in
        cut (m ++ r.0) (omega (arith, length-append m r.0)) (s ++ m, r.0, sym (append_assoc s m r.0), h, r.1)
    go (wrong w) ih = wrong (first-over f fs s w)
