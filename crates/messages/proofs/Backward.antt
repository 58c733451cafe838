-- Messages written and read back, and read and written back. Assumes nothing.
use mathlib.Core.Path.{◌≡◌, refl, sym, ap, ◌∙◌}
use mathlib.Core.Bool.{Bool, true, false, not, ◌||◌, cond, true≢false}
use mathlib.Core.List.{List, [], ◌∷◌, ◌++◌}
use Prim.Native.Nat.{ℕ, zero, suc, ◌+◌, ◌*◌, ◌/◌, ◌%◌, ◌^◌, ◌≤◌, ◌<◌}
use native.Mathlib.Omega.{arith}
use native.Mathlib.Nat.{mod-eq_of_lt}
use borrow.Author.Tests.{ltb-false, eqb-true}
use lib.Dec.{eqb, ltb}
use lib.IntN.{ℤ}
use lib.ListN.{length, get_or, take}
use lib.Signed.{mag}
use Rattle.wire.specs.Bytes.{Octets, le_of, bytes_of, number_in, signed_of, bits_of}
use Rattle.wire.proofs.Width.{back}
use Rattle.wire.proofs.Complement.{bits_small, signed-bits}
use Rattle.messages.specs.Layout.{is_value_carrier, head_bytes, value_bytes, acknowledge_bytes, acknowledge}
use Rattle.messages.specs.Reading.{Fields, valued, acknowledged, read_of}
use Rattle.messages.specs.Writing.{value_refusal, value_after, acknowledge_refusal, acknowledge_after}
use Rattle.messages.specs.Back.{ReadsBack}
use Rattle.messages.proofs.Laying.{command-small, first-eight}
use Rattle.wire.proofs.Either.{neither, by-case}
use Rattle.wire.proofs.Octets.{again, signed-again, number_small}
use Rattle.messages.proofs.Eight.{Eight, eight}

-- ---- written, then read

-- a message that may be written
granted : (a b d : Bool) → ◌≡◌ {A = ℕ} (cond (not a) 31 (cond b 32 (cond d 33 0))) 0 → (a ≡ true) × (b ≡ false) × (d ≡ false)
granted true true d e = absurd (omega (arith, e))
granted true false true e = absurd (omega (arith, e))
granted true false false e = (refl, refl, refl)
granted false b d e = absurd (omega (arith, e))

-- the head of eight bytes that starts with a message's
command-back : (command element : ℕ) → command < 16 → (element % 16 * 16 + command) % 16 ≡ command
command-back command element h = omega arith

element-back : (command element : ℕ) → command < 16 → (element % 16 * 16 + command) / 16 + 16 * (element / 16) ≡ element
element-back command element h = omega arith

number-back : (w x : ℕ) → x < 256 ^ w → le_of (bytes_of w x) ≡ x
number-back w x h = back w x ∙ small w x h
  where
    small : (w x : ℕ) → x < 256 ^ w → x % 256 ^ w ≡ x
    small w x h = mod-eq_of_lt h

read-value : (command element ddi : ℕ) (v : ℤ) → is_value_carrier command ≡ true → ddi < 65536 → mag v < 2 ^ 31
    → read_of (value_bytes command element ddi v) ≡ valued command element ddi v
unfolding read_of value_bytes head_bytes number_in bytes_of
read-value command element ddi v carries h z =
    let small : command < 16 = command-small command carries in
    rw (command-back command element small, carries, element-back command element small, number-back 2 ddi h, number-back 4 (bits_of 4 v) (bits_small v z), signed-bits v (record { sfits = z }))

read-acknowledge : (element ddi errors answered : ℕ) → ddi < 65536 → answered ≤ 15
    → read_of (acknowledge_bytes element ddi errors answered) ≡ acknowledged element ddi errors answered
unfolding read_of acknowledge_bytes head_bytes number_in bytes_of
read-acknowledge element ddi errors answered h a =
    rw (command-back acknowledge element (omega arith), element-back acknowledge element (omega arith), number-back 2 ddi h, low answered a)
  where
    low : (n : ℕ) → n ≤ 15 → (240 + n) % 16 ≡ n
    low n l = omega arith

value-long : (command element ddi : ℕ) (v : ℤ) → length (value_bytes command element ddi v) ≡ 8
unfolding value_bytes head_bytes bytes_of
value-long command element ddi v = refl

acknowledge-long : (element ddi errors answered : ℕ) → length (acknowledge_bytes element ddi errors answered) ≡ 8
unfolding acknowledge_bytes head_bytes bytes_of
acknowledge-long element ddi errors answered = refl

value-back : (to : List ℕ) (command element ddi : ℕ) (v : ℤ) → value_refusal command element (length to) ≡ 0 → ddi < 65536 → mag v < 2 ^ 31
    → read_of (take 8 (value_after to command element ddi v)) ≡ valued command element ddi v
unfolding value_refusal value_after
value-back to command element ddi v e h z =
    let g = granted (is_value_carrier command) (ltb 4095 element) (ltb (length to) 8) e in
    rw (g.0, g.1, g.2, first-eight to (value_bytes command element ddi v) (value-long command element ddi v) (ltb-false (length to) 8 g.2))
    (read-value command element ddi v g.0 h z)

acknowledge-back : (to : List ℕ) (element ddi errors answered : ℕ) → acknowledge_refusal element answered (length to) ≡ 0 → ddi < 65536
    → read_of (take 8 (acknowledge_after to element ddi errors answered)) ≡ acknowledged element ddi errors answered
unfolding acknowledge_refusal acknowledge_after
acknowledge-back to element ddi errors answered e h =
    let g = granted true (ltb 4095 element || ltb 15 answered) (ltb (length to) 8) e in
    let a : answered ≤ 15 = ltb-false 15 answered (neither (ltb 4095 element) (ltb 15 answered) g.1).1 in
    rw (g.1, g.2, first-eight to (acknowledge_bytes element ddi errors answered) (acknowledge-long element ddi errors answered) (ltb-false (length to) 8 g.2))
    (read-acknowledge element ddi errors answered h a)

-- ---- read, then written

-- only eight bytes are read
long-enough : (s : List ℕ) → (read_of s).number ≡ 0 → length s ≡ 8
unfolding read_of
long-enough s e =
    by-case (eqb (length s) 8) (λ t. eqb-true (length s) 8 t) (λ t. absurd (omega (arith, rw t at e)))

head-again : (a b : ℕ) → a < 256 → ((a / 16 + 16 * b) % 16 * 16 + a % 16 ≡ a) × ((a / 16 + 16 * b) / 16 ≡ b)
head-again a b h = (omega arith, omega arith)

module _ (a b c d e f g h : ℕ) (octets : Octets (a ∷ b ∷ c ∷ d ∷ e ∷ f ∷ g ∷ h ∷ [])) where
  ddi-again : bytes_of 2 (le_of (c ∷ d ∷ [])) ≡ c ∷ d ∷ []
  ddi-again = again (c ∷ d ∷ []) two
    where
      two : (i : ℕ) → get_or (c ∷ d ∷ []) i 0 < 256
      two zero = octets 2
      two (suc zero) = octets 3
      two (suc (suc i)) = omega arith

  four : (i : ℕ) → get_or (e ∷ f ∷ g ∷ h ∷ []) i 0 < 256
  four zero = octets 4
  four (suc zero) = octets 5
  four (suc (suc zero)) = octets 6
  four (suc (suc (suc zero))) = octets 7
  four (suc (suc (suc (suc i)))) = omega arith

  value-bytes : value_bytes (a % 16) (a / 16 + 16 * b) (le_of (c ∷ d ∷ [])) (signed_of 4 (le_of (e ∷ f ∷ g ∷ h ∷ []))) ≡ a ∷ b ∷ c ∷ d ∷ e ∷ f ∷ g ∷ h ∷ []
  unfolding value_bytes head_bytes
  value-bytes =
      let k = head-again a b (octets 0) in
      rw (k.0, k.1, ddi-again, signed-again (le_of (e ∷ f ∷ g ∷ h ∷ [])) (number_small (e ∷ f ∷ g ∷ h ∷ []) four), again (e ∷ f ∷ g ∷ h ∷ []) four)

  acknowledge-bytes : a % 16 ≡ acknowledge
      → acknowledge_bytes (a / 16 + 16 * b) (le_of (c ∷ d ∷ [])) e (f % 16) ≡ a ∷ b ∷ c ∷ d ∷ e ∷ (240 + f % 16) ∷ 255 ∷ 255 ∷ []
  unfolding acknowledge_bytes head_bytes
  acknowledge-bytes q =
      let k = head-again a b (octets 0) in
      rw (← q, k.0, k.1, ddi-again)

  -- what the fields of eight bytes are
  value-fields : (command element ddi : ℕ) (v : ℤ) → is_value_carrier command ≡ true → read_of (a ∷ b ∷ c ∷ d ∷ e ∷ f ∷ g ∷ h ∷ []) ≡ valued command element ddi v
      → value_bytes command element ddi v ≡ a ∷ b ∷ c ∷ d ∷ e ∷ f ∷ g ∷ h ∷ []
  unfolding read_of number_in
  value-fields command element ddi v carries r =
      by-case (is_value_carrier (a % 16))
      (λ t.
      let q = rw t at r in
      rw (← ap (λ (x : Fields). x.command) q, ← ap (λ (x : Fields). x.element) q, ← ap (λ (x : Fields). x.ddi) q, ← ap (λ (x : Fields). x.value) q) value-bytes)
      (λ t.
      by-case (eqb (a % 16) acknowledge)
      (λ u. absurd (let q = rw (t, u) at r in true≢false (sym carries ∙ sym (ap is_value_carrier (ap (λ (x : Fields). x.command) q)))))
      (λ u. absurd (let q = rw (t, u) at r in omega (arith, ap (λ (x : Fields). x.number) q))))

  acknowledge-fields : (element ddi errors answered : ℕ) → read_of (a ∷ b ∷ c ∷ d ∷ e ∷ f ∷ g ∷ h ∷ []) ≡ acknowledged element ddi errors answered
      → acknowledge_bytes element ddi errors answered ≡ a ∷ b ∷ c ∷ d ∷ e ∷ (240 + f % 16) ∷ 255 ∷ 255 ∷ []
  unfolding read_of number_in
  acknowledge-fields element ddi errors answered r =
      by-case (is_value_carrier (a % 16))
      (λ t. absurd (let q = rw t at r in true≢false (sym t ∙ ap is_value_carrier (ap (λ (x : Fields). x.command) q))))
      (λ t.
      by-case (eqb (a % 16) acknowledge)
      (λ u.
      let q = rw (t, u) at r in
      rw (← ap (λ (x : Fields). x.element) q, ← ap (λ (x : Fields). x.ddi) q, ← ap (λ (x : Fields). x.errors) q, ← ap (λ (x : Fields). x.answered) q)
      (acknowledge-bytes (eqb-true (a % 16) acknowledge u)))
      (λ u. absurd (let q = rw (t, u) at r in omega (arith, ap (λ (x : Fields). x.number) q))))

value_again : (s : List ℕ) (command element ddi : ℕ) (v : ℤ) → Octets s → is_value_carrier command ≡ true → read_of s ≡ valued command element ddi v
    → value_bytes command element ddi v ≡ s
value_again s command element ddi v octets carries r =
    let w : Eight s = eight s (long-enough s (ap (λ (x : Fields). x.number) r)) in
    rw w.are (value-fields w.a w.b w.c w.d w.e w.f w.g w.h (rw w.are at octets) command element ddi v carries (rw w.are at r))

acknowledge_again : (s : List ℕ) (element ddi errors answered : ℕ) → Octets s → read_of s ≡ acknowledged element ddi errors answered
    → acknowledge_bytes element ddi errors answered ≡ take 5 s ++ (240 + get_or s 5 0 % 16) ∷ 255 ∷ 255 ∷ []
acknowledge_again s element ddi errors answered octets r =
    let w : Eight s = eight s (long-enough s (ap (λ (x : Fields). x.number) r)) in
    rw w.are (acknowledge-fields w.a w.b w.c w.d w.e w.f w.g w.h (rw w.are at octets) element ddi errors answered (rw w.are at r))

pub reads-back : ReadsBack
reads-back = record { value = value-back; acknowledge = acknowledge-back; value_again = value_again; acknowledge_again = acknowledge_again }
