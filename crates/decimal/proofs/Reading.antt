-- What is read from the digits of a number. Assumes nothing.
use mathlib.Core.Path.{◌≡◌, refl, sym, ap, ◌∙◌}
use mathlib.Core.List.{List, [], ◌∷◌, ◌++◌, append-nil, append_assoc}
use Prim.Native.Nat.{ℕ, zero, suc, ◌+◌, ◌*◌, ◌-◌, ◌/◌, ◌%◌, ◌≤◌, ◌<◌}
use native.Mathlib.Nat.{not-suc-le-zero}
use native.Mathlib.Decide.{dec_lt}
use native.Mathlib.Omega.{arith}
use lib.ListN.{length, get_or, length-append, get_or-append}
use lib.Seq.{get_or-append_seam}
use Rattle.decimal.specs.Digits.{digit, digits}
use Rattle.decimal.specs.Reading.{read_on, Figures}
use Rattle.decimal.proofs.Digits.{digits-small, digits-large}

-- one figure more at the end
read_more : (v : ℕ) (bs : List ℕ) (b : ℕ) → read_on v (bs ++ b ∷ []) ≡ read_on v bs * 10 + (b - 48)
unfolding read_on
read_more v [] b = refl
read_more v (x ∷ bs) b = read_more (v * 10 + (x - 48)) bs b

abbrev IsDigit : ℕ → Type 0
IsDigit b = (48 ≤ b) × (b ≤ 57)

abbrev Each : List ℕ → Type 0
Each bs = (i : ℕ) → i < length bs → IsDigit (get_or bs i 0)

each_more : (bs : List ℕ) (b : ℕ) → Each bs → IsDigit b → Each (bs ++ b ∷ [])
each_more bs b h d i l = go (dec_lt i (length bs))
  where
    go : Dec (i < length bs) → IsDigit (get_or (bs ++ b ∷ []) i 0)
    go (yes k) = rw (get_or-append bs (b ∷ []) 0 i k) (h i k)
    go (no k) =
        let e : i ≡ length bs = omega (arith, simp length-append at l) in
        rw (e, get_or-append_seam bs b [] 0) d

figures-small : (n : ℕ) → n < 10 → Figures n (digits n)
unfolding read_on
figures-small n h = rw (digits-small n h) (record { reads = omega arith; each = each; some = omega arith; lead = λ e. refl })
  where
    each : (i : ℕ) → i < 1 → IsDigit (get_or (digit n ∷ []) i 0)
    each zero l = (omega arith, omega arith)
    each (suc i) l = absurd (omega arith)

-- what begins with no 0
record Leads (n : ℕ) : Type 0 where
  figures : Figures n (digits n)
  first : 0 < n → get_or (digits n) 0 0 ≡ 48 → ⊥

leads : (t n : ℕ) → n < t → Leads n
leads zero n h = absurd (not-suc-le-zero h)
leads (suc t) n h = go (dec_lt n 10) (leads t (n / 10))
  where
    go : Dec (n < 10) → (n / 10 < t → Leads (n / 10)) → Leads n
    go (yes l) tenth = record { figures = figures-small n l; first = λ p e. let z : digit n ≡ 48 = sym (ap (λ (ds : List ℕ). get_or ds 0 0) (digits-small n l)) ∙ e in omega arith }
    go (no l) tenth =
        let r = tenth (omega arith) in
        let ds = digits (n / 10) in
        let b = digit (n % 10) in
        let e : digits n ≡ ds ++ b ∷ [] = digits-large n (omega arith) in
        let head : get_or (ds ++ b ∷ []) 0 0 ≡ get_or ds 0 0 = get_or-append ds (b ∷ []) 0 0 r.figures.some in
        let back : read_on 0 ds ≡ n / 10 = r.figures.reads in
        record {
          figures = rw e (record {
            reads = read_more 0 ds b ∙ omega arith;
            each = each_more ds b r.figures.each (omega arith, omega arith);
            some = simp length-append (omega arith);
            lead = λ z. absurd (r.first (omega arith) (sym head ∙ z));
          });
          first = λ p z. r.first (omega arith) (sym head ∙ sym (ap (λ (l : List ℕ). get_or l 0 0) e) ∙ z);
        }

pub digits-figures : (n : ℕ) → Figures n (digits n)
digits-figures n = (leads (suc n) n (omega arith)).figures

-- figures read on from a number that is there are added to its digits
spelt-on : (v : ℕ) (bs : List ℕ) → 0 < v → Each bs → digits (read_on v bs) ≡ digits v ++ bs
unfolding read_on
spelt-on v [] h each = sym (append-nil (digits v))
spelt-on v (b ∷ bs) h each =
    let d = each 0 (omega arith) in
    let w = v * 10 + (b - 48) in
    let tenth : w / 10 ≡ v = omega arith in
    let last : digit (w % 10) ≡ b = omega arith in
    spelt-on w bs (omega arith) (λ (i : ℕ) (l : i < length bs). each (suc i) (omega arith))
    ∙ ap (λ (l : List ℕ). l ++ bs) (digits-large w (omega arith) ∙ ap (λ (x : ℕ). digits x ++ digit (w % 10) ∷ []) tenth ∙ ap (λ (x : ℕ). digits v ++ x ∷ []) last)
    ∙ append_assoc (digits v) (b ∷ []) bs

pub figures-digits : (n : ℕ) (bs : List ℕ) → Figures n bs → bs ≡ digits n
unfolding read_on
figures-digits n [] f = absurd (not-suc-le-zero f.some)
figures-digits n (b ∷ bs) f = go (dec_lt 48 b)
  where
    go : Dec (48 < b) → b ∷ bs ≡ digits n
    go (yes l) =
        let d = f.each 0 (omega arith) in
        let v = 0 * 10 + (b - 48) in
        let one : digit v ≡ b = omega arith in
        sym (ap (λ (x : ℕ). x ∷ bs) one)
        ∙ sym (ap (λ (l : List ℕ). l ++ bs) (digits-small v (omega arith)))
        ∙ sym (spelt-on v bs (omega arith) (λ (i : ℕ) (l : i < length bs). f.each (suc i) (omega arith)))
        ∙ ap digits f.reads
    go (no l) =
        let d = f.each 0 (omega arith) in
        let e : b ≡ 48 = omega arith in
        zero-alone bs e (f.lead e) f.reads
      where
        zero-alone : (bs : List ℕ) → b ≡ 48 → suc (length bs) ≡ 1 → read_on (0 * 10 + (b - 48)) bs ≡ n → b ∷ bs ≡ digits n
        zero-alone [] e one r =
            let z : n ≡ 0 = omega arith in
            ap (λ (x : ℕ). x ∷ []) e ∙ sym (digits-small 0 (omega arith)) ∙ sym (ap digits z)
        zero-alone (x ∷ bs) e one r = absurd (omega arith)
