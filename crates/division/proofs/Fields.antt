-- One field: what its bytes can be, and what is read from them after any other bytes. Assumes nothing.
use mathlib.Core.Path.{◌≡◌, refl, sym, ap, ◌∙◌}
use mathlib.Core.List.{List, [], ◌∷◌, ◌++◌}
use Prim.Native.Nat.{ℕ, ◌+◌, ◌*◌, ◌≤◌, ◌<◌}
use native.Mathlib.Omega.{arith}
use native.Mathlib.Decide.{dec_le}
use lib.ListN.{length, get_or, replicate, length-append, length-replicate}
use lib.Seq.{get_or-append_seam, drop-append_seam}
use Rattle.std.specs.Prelude.{Ok, Err}
use Rattle.wire.specs.Bytes.{le_of, number_in}
use Rattle.records.specs.Layout.{Field, fixed, text, entries}
use Rattle.records.specs.Extents.{field_end}
use Rattle.records.specs.declared.Flaw.TheVariants.{Cut, LengthOver}
use Rattle.records.proofs.Ends.{fixed-cut, fixed-whole, text-missing, text-over, text-cut, text-whole, count_cut, entries-cut, entries-whole}
use Rattle.division.specs.Whole.{Is}
use Rattle.division.proofs.Reading.{Reading, cut, wrong, behind, enough}

-- the number in two bytes that stand behind others
count-behind : (pre : List ℕ) (lo hi : ℕ) (s : List ℕ) → number_in 2 (pre ++ (lo ∷ hi ∷ s)) (length pre) ≡ le_of (lo ∷ hi ∷ [])
unfolding number_in
count-behind pre lo hi s = rw (drop-append_seam pre (lo ∷ hi ∷ s))

-- a field that is all there ends where its bytes end
pub field-whole : (f : Field) (b pre post : List ℕ) → Is f b → field_end f (pre ++ (b ++ post)) (length pre) ≡ Ok (length pre + length b)
field-whole (fixed n) b pre post e =
    let l = length-append pre (b ++ post) in
    fixed-whole n (pre ++ (b ++ post)) (length pre) (omega (arith, length-append b post)) ∙ ap (λ (k : ℕ). Ok (length pre + k)) (sym e)
field-whole (text limit) b pre post h = rw h.2 (go h.0 h.1 h.3 h.4)
  where
    go : (n : ℕ) (t : List ℕ) → n ≤ limit → length t ≡ n → field_end (text limit) (pre ++ (n ∷ (t ++ post))) (length pre) ≡ Ok (length pre + length (n ∷ t))
    go n t o e =
        let p : List ℕ = pre ++ (n ∷ (t ++ post)) in
        let l : length p ≡ length pre + length (n ∷ (t ++ post)) = length-append pre (n ∷ (t ++ post)) in
        let m : length (t ++ post) ≡ length t + length post = length-append t post in
        let g : get_or p (length pre) 0 ≡ n = get_or-append_seam pre n (t ++ post) 0 in
        text-whole limit p (length pre) (omega arith) (omega arith) (omega arith) ∙ ap Ok (omega arith)
field-whole entries b pre post h = rw h.3 (go h.0 h.1 h.2 h.4)
  where
    go : (lo hi : ℕ) (t : List ℕ) → length t ≡ 2 * le_of (lo ∷ hi ∷ [])
        → field_end entries (pre ++ (lo ∷ hi ∷ (t ++ post))) (length pre) ≡ Ok (length pre + length (lo ∷ hi ∷ t))
    go lo hi t e =
        let p : List ℕ = pre ++ (lo ∷ hi ∷ (t ++ post)) in
        let l : length p ≡ length pre + length (lo ∷ hi ∷ (t ++ post)) = length-append pre (lo ∷ hi ∷ (t ++ post)) in
        let m : length (t ++ post) ≡ length t + length post = length-append t post in
        let g : number_in 2 p (length pre) ≡ le_of (lo ∷ hi ∷ []) = count-behind pre lo hi (t ++ post) in
        entries-whole p (length pre) (omega arith) ∙ ap Ok (omega arith)

-- a field of which bytes are missing is cut
pub field_cut : (f : Field) (s m pre : List ℕ) → 0 < length m → Is f (s ++ m) → field_end f (pre ++ s) (length pre) ≡ Err Cut
field_cut (fixed n) s m pre o e = fixed-cut n (pre ++ s) (length pre) (omega (arith, length-append pre s, length-append s m))
field_cut (text limit) [] m pre o h = text-missing limit (pre ++ []) (length pre) (omega (arith, length-append pre []))
field_cut (text limit) (n ∷ s) m pre o h =
    let p : List ℕ = pre ++ (n ∷ s) in
    let l : length p ≡ length pre + length (n ∷ s) = length-append pre (n ∷ s) in
    let g : get_or p (length pre) 0 ≡ n = get_or-append_seam pre n s 0 in
    let e : n ∷ (s ++ m) ≡ h.0 ∷ h.1 = h.2 in
    let i : n ≡ h.0 = cc in
    let j : length (s ++ m) ≡ length h.1 = cc in
    text-cut limit p (length pre) (omega arith) (omega arith) (omega (arith, length-append s m))
field_cut entries [] m pre o h = count_cut (pre ++ []) (length pre) (omega (arith, length-append pre []))
field_cut entries (lo ∷ []) m pre o h = count_cut (pre ++ (lo ∷ [])) (length pre) (omega (arith, length-append pre (lo ∷ [])))
field_cut entries (lo ∷ hi ∷ s) m pre o h =
    let p : List ℕ = pre ++ (lo ∷ hi ∷ s) in
    let l : length p ≡ length pre + length (lo ∷ hi ∷ s) = length-append pre (lo ∷ hi ∷ s) in
    let g : number_in 2 p (length pre) ≡ le_of (lo ∷ hi ∷ []) = count-behind pre lo hi s in
    let e : lo ∷ hi ∷ (s ++ m) ≡ h.0 ∷ h.1 ∷ h.2 = h.3 in
    let i : le_of (lo ∷ hi ∷ []) ≡ le_of (h.0 ∷ h.1 ∷ []) = cc in
    let j : length (s ++ m) ≡ length h.2 = cc in
    entries-cut p (length pre) (omega arith) (omega (arith, length-append s m))

-- a length byte that exceeds its limit is refused at its own place
pub length_over : (limit over : ℕ) (rest pre : List ℕ) → limit < over → field_end (text limit) (pre ++ (over ∷ rest)) (length pre) ≡ Err (LengthOver (length pre))
length_over limit over rest pre h =
    let p : List ℕ = pre ++ (over ∷ rest) in
    let l : length p ≡ length pre + length (over ∷ rest) = length-append pre (over ∷ rest) in
    let g : get_or p (length pre) 0 ≡ over = get_or-append_seam pre over rest 0 in
    text-over limit p (length pre) (omega arith) (omega arith)

-- the field is a text, and its length byte is over the limit
pub record Over (f : Field) (s : List ℕ) : Type 0 where
  pub limit : ℕ
  pub over : ℕ
  pub rest : List ℕ
  pub field : f ≡ text limit
  pub stands : s ≡ over ∷ rest
  pub exceeds : limit < over

-- any bytes are a field and more, or a beginning of it, or their length byte exceeds its limit
pub field-reading : (f : Field) (s : List ℕ) → Reading (Is f) (Over f s) s
unfolding le_of
field-reading (fixed n) s = enough n s
field-reading (text limit) [] = cut (0 ∷ []) (omega arith) (0, [], refl, omega arith, refl)
field-reading (text limit) (n ∷ s) = go (dec_le n limit)
  where
    go : Dec (n ≤ limit) → Reading (Is (text limit)) (Over (text limit) (n ∷ s)) (n ∷ s)
    go (yes h) = behind (n ∷ []) s (λ b e. (n, b, refl, h, e)) (λ w. w) (enough n s)
    go (no h) = wrong (record { limit = limit; over = n; rest = s; field = refl; stands = refl; exceeds = omega arith })
field-reading entries [] = cut (0 ∷ 0 ∷ []) (omega arith) (0, 0, [], refl, refl)
field-reading entries (lo ∷ []) =
    let n : ℕ = 2 * le_of (lo ∷ 0 ∷ []) in
    cut (0 ∷ replicate n 0) (omega arith) (lo, 0, replicate n 0, refl, length-replicate n 0)
field-reading entries (lo ∷ hi ∷ s) = behind (lo ∷ hi ∷ []) s (λ b e. (lo, hi, b, refl, e)) (λ w. w) (enough (2 * le_of (lo ∷ hi ∷ [])) s)
