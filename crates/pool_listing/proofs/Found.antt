-- The faults that a buffer holds, and their lines. Assumes nothing.
use mathlib.Core.Path.{◌≡◌, refl, sym, ap, ◌∙◌}
use mathlib.Core.List.{List, [], ◌∷◌, ◌++◌, append-nil, append_assoc}
use Prim.Native.Nat.{ℕ, zero, suc, ◌+◌, ◌*◌, ◌-◌, ◌/◌, ◌≤◌, ◌<◌, min}
use mathlib.Core.Bool.{true, false}
use borrow.Author.Tests.{ltb-true, ltb-false}
use lib.Dec.{ltb}
use Rattle.wire.proofs.Either.{by-case}
use native.Mathlib.Nat.{not-suc-le-zero, le_of_lt, min-eq_left, min-eq_right}
use native.Mathlib.Omega.{arith}
use native.Mathlib.Numerals.{add-one}
use lib.ListN.{length, get_or, take, drop, length-take}
use Rattle.std.specs.Simd.{first_chunks}
use lib.Seq.{drop-drop, get_or-drop, get_or-take, take-take, take_all, length-take-le, sets, sets-eq}
use Rattle.std.proofs.lemmas.List.{drop-take}
use Rattle.faults.specs.Faults.{FaultEntry, fault_entry, width, flat, written}
use Rattle.faults.proofs.Completing.{flat-long}
use Rattle.listing.specs.Lines.{fault_line, accepted_line}
use Rattle.pool_listing.specs.Listing.{fault_lines, findings}
use Rattle.pool_listing.specs.Parts.{Held, faults_in}

abbrev line_of : FaultEntry → List ℕ
line_of e = fault_line e.fault.number e.fault.rule e.fault.item e.id e.parent

lines_more : (fs : List FaultEntry) (f : FaultEntry) → fault_lines (fs ++ f ∷ []) ≡ fault_lines fs ++ line_of f
unfolding fault_lines
lines_more [] f = append-nil (line_of f)
lines_more (x ∷ fs) f = ap (λ (l : List ℕ). line_of x ++ l) (lines_more fs f) ∙ sym (append_assoc (line_of x) (fault_lines fs) (line_of f))

-- fault i of a buffer
fault_at : List ℕ → ℕ → FaultEntry
fault_at b k = fault_entry (get_or b k 0) (get_or b (k + 1) 0) (get_or b (k + 2) 0) (get_or b (k + 3) 0) (get_or b (k + 4) 0)

word-drop : (b : List ℕ) (k j : ℕ) → get_or (drop width b) (k + j) 0 ≡ get_or b (width + k + j) 0
word-drop b k j = let past : width + (k + j) ≡ width + k + j = omega arith in get_or-drop width b (k + j) 0 ∙ ap (λ (n : ℕ). get_or b n 0) past

at_drop : (b : List ℕ) (k : ℕ) → fault_at (drop width b) k ≡ fault_at b (width + k)
unfolding fault_at
at_drop b k = rw (get_or-drop width b k 0, word-drop b k 1, word-drop b k 2, word-drop b k 3, word-drop b k 4)

more : (i : ℕ) (b : List ℕ) → faults_in (suc i) b ≡ faults_in i b ++ fault_at b (width * i) ∷ []
unfolding faults_in fault_at
more zero b = refl
more (suc i) b =
    let e : width + width * i ≡ width * suc i = omega arith in
    ap (λ (fs : List FaultEntry). fault_at b 0 ∷ fs) (more i (drop width b) ∙ ap (λ (f : FaultEntry). faults_in i (drop width b) ++ f ∷ []) (at_drop b (width * i) ∙ ap (fault_at b) e))

pub no-faults : (b : List ℕ) → fault_lines (faults_in 0 b) ≡ []
unfolding faults_in fault_lines
no-faults b = refl

-- a fault more
pub fault-more : (i : ℕ) (b : List ℕ) → fault_lines (faults_in (i + 1) b)
    ≡ fault_lines (faults_in i b) ++ fault_line (get_or b (width * i) 0) (get_or b (width * i + 1) 0) (get_or b (width * i + 2) 0) (get_or b (width * i + 3) 0) (get_or b (width * i + 4) 0)
unfolding fault_at
fault-more i b = rw (add-one i) (ap fault_lines (more i b) ∙ lines_more (faults_in i b) (fault_at b (width * i)))

-- chunk i of a buffer, and the line of the fault in it
chunk-at : (b : List ℕ) (m i : ℕ) → i < m → get_or (first_chunks width m b) i [] ≡ take width (drop (width * i) b)
chunk-at b zero i h = absurd (omega arith)
chunk-at b (suc m) zero h = refl
chunk-at b (suc m) (suc i) h =
    let e : width + width * i ≡ width * suc i = omega arith in
    chunk-at (drop width b) m i (omega arith) ∙ ap (take width) (drop-drop (width * i) width b ∙ ap (λ (n : ℕ). drop n b) e)

pub row-at : (b : List ℕ) (given : List (List ℕ)) (m i : ℕ) → given ≡ first_chunks width m b → i < m → get_or given i [] ≡ take width (drop (width * i) b)
row-at b given m i e h = ap (λ (r : List (List ℕ)). get_or r i []) e ∙ chunk-at b m i h

number-at : (b : List ℕ) (k j : ℕ) → j < width → get_or (take width (drop k b)) j 0 ≡ get_or b (k + j) 0
number-at b k j h = get_or-take width (drop k b) j 0 h ∙ get_or-drop k b j 0

pub line-at : (b row : List ℕ) (k : ℕ) → row ≡ take width (drop k b)
    → fault_line (get_or row 0 0) (get_or row 1 0) (get_or row 2 0) (get_or row 3 0) (get_or row 4 0)
    ≡ fault_line (get_or b k 0) (get_or b (k + 1) 0) (get_or b (k + 2) 0) (get_or b (k + 3) 0) (get_or b (k + 4) 0)
line-at b row k e =
    let z : k + 0 ≡ k = omega arith in
    let first : get_or (take width (drop k b)) 0 0 ≡ get_or b k 0 = number-at b k 0 (omega arith) ∙ ap (λ (n : ℕ). get_or b n 0) z in
    rw (e, first, number-at b k 1 (omega arith), number-at b k 2 (omega arith), number-at b k 3 (omega arith), number-at b k 4 (omega arith))

-- a slice with the first n faults alone
among : (n m : ℕ) (b : List ℕ) → n * width ≤ m → faults_in n (take m b) ≡ faults_in n b
unfolding faults_in fault_at
among zero m b h = refl
among (suc n) m b h =
    let split : m ≡ width + (m - width) = omega arith in
    let rest : drop width (take m b) ≡ take (m - width) (drop width b) = ap (λ (k : ℕ). drop width (take k b)) split ∙ drop-take width (m - width) b in
    rw (rest, get_or-take m b 0 0 (omega arith), get_or-take m b 1 0 (omega arith), get_or-take m b 2 0 (omega arith), get_or-take m b 3 0 (omega arith), get_or-take m b 4 0 (omega arith))
    (ap (λ (fs : List FaultEntry). fault_at b 0 ∷ fs) (among n (m - width) (drop width b) (omega arith)))

pub count-alone : (n : ℕ) (b : List ℕ) → n * width ≤ length b → length (take (n * width) b) / width ≡ n
count-alone n b h = omega (arith, length-take-le (n * width) b h)

pub alone : (n : ℕ) (b : List ℕ) → n * width ≤ length b → faults_in (length (take (n * width) b) / width) (take (n * width) b) ≡ faults_in n b
alone n b h = rw (count-alone n b h) (among n (n * width) b (omega arith))

front : (n : ℕ) (fs : List FaultEntry) (rest : List ℕ) → n ≤ length fs → faults_in n (flat fs ++ rest) ≡ take n fs
unfolding faults_in
front zero fs rest h = refl
front (suc n) [] rest h = absurd (not-suc-le-zero h)
front (suc n) (f ∷ fs) rest h = ap (λ (l : List FaultEntry). f ∷ l) (front n fs rest (omega arith))

module _ (b : List ℕ) (fs : List FaultEntry) (held : Held b fs) where
  -- what checking wrote begins with the faults
  begins : b ≡ flat (take 1024 fs) ++ drop (length (flat (take 1024 fs))) held.before
  unfolding written
  begins =
      let ts : List FaultEntry = take 1024 fs in
      let few : length ts ≤ 1024 = simp length-take (omega arith) in
      let long : 0 + length (flat ts) ≡ length (flat ts) = omega arith in
      let size : length held.before / width ≡ 1024 = ap (λ (k : ℕ). k / width) held.long in
      held.is
      ∙ ap (λ (k : ℕ). sets held.before 0 (flat (take k fs))) size
      ∙ sets-eq (flat ts) held.before 0 (omega (arith, flat-long ts, held.long))
      ∙ ap (λ (k : ℕ). flat ts ++ drop k held.before) long

  holds : (n : ℕ) → n ≤ length fs → n ≤ 1024 → faults_in n b ≡ take n fs
  holds n h l =
      let many : n ≤ length (take 1024 fs) = simp length-take (omega arith) in
      ap (faults_in n) begins ∙ front n (take 1024 fs) _ many ∙ take-take n 1024 fs l

  -- as many as there are, or 1,024 of more
  all_shown : (n : ℕ) → n ≡ length fs → n < 1024 → faults_in n b ≡ take 1024 fs
  all_shown n e l = holds n (omega arith) (omega arith) ∙ take_all n fs (omega arith) ∙ sym (take_all 1024 fs (omega arith))

  first-shown : 1024 ≤ length fs → faults_in 1024 b ≡ take 1024 fs
  first-shown h = holds 1024 h (omega arith)

  pub shown : (n : ℕ) → n ≡ length fs → faults_in (min n 1024) b ≡ take 1024 fs
  shown n e =
      by-case (ltb n 1024)
      (λ (t : ltb n 1024 ≡ true). let less = ltb-true n 1024 t in rw (min-eq_left (le_of_lt less)) (all_shown n e less))
      (λ (f : ltb n 1024 ≡ false). let more = ltb-false n 1024 f in rw (min-eq_right more) (first-shown (omega arith)))

pub none_found : (fs : List FaultEntry) → 0 ≡ length fs → accepted_line ≡ findings fs
unfolding findings
none_found [] e = refl
none_found (f ∷ fs) e = absurd (omega arith)

pub some-found : (fs : List FaultEntry) → (length fs ≡ 0 → ⊥) → fault_lines (take 1024 fs) ≡ findings fs
unfolding findings
some-found [] h = absurd (h refl)
some-found (f ∷ fs) h = refl
