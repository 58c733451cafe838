-- 50 is given exactly if a value presentation has a breach of rule 5. Assumes nothing.
use Prim.Native.Nat.{ℕ, suc, ◌^◌, ◌≤◌, ◌<◌}
use mathlib.Core.Path.{◌≡◌, refl, subst}
use mathlib.Core.Logic.{◌⊎◌, inl, inr}
use mathlib.Core.List.{List}
use native.Mathlib.Omega.{arith}
use Rattle.wire.specs.Bytes.{Octets}
use Rattle.wire.proofs.Octets.{number_fits}
use Rattle.presentation.proofs.Ruled.{fifty-is-rule-five}
use Rattle.records.specs.declared.Kind.TheVariants.{Dvp}
use Rattle.views.specs.Fields.{presentation_of}
use Rattle.pool.specs.Reading.{Entry}
use Rattle.naming.specs.Records.{start_at}
use Rattle.rules.specs.Breach.{Is, OutOfRange, structure, localization, closing, type, number, property_bit, both, trigger_bit, scale, decimals, Breach, device_id, other_id, same_id, second_device, unsound_text, out_of_range, names_none, wrong_kind, same_number, endless, no_device, no_device_element, same_ddi}
use Rattle.claims.specs.Displayed.{FiftyIsABreach}

module _ (p : List ℕ) (es : List Entry) (i : ℕ) where
  -- a breach of rule 5 is a field out of range
  fifth : {n u k : ℕ} → Breach p es n u k → n ≡ suc i → u ≡ 5 → OutOfRange p es i k
  fifth (device_id a b) x y = absurd (omega arith)
  fifth (other_id a b c) x y = absurd (omega arith)
  fifth (same_id a b c) x y = absurd (omega arith)
  fifth (second_device a b c) x y = absurd (omega arith)
  fifth (unsound_text a b) x y = absurd (omega arith)
  fifth {k = k} (out_of_range {i = j} a) x y = let e : j ≡ i = omega arith in subst (λ (m : ℕ). OutOfRange p es m k) e a
  fifth (names_none a b) x y = absurd (omega arith)
  fifth (wrong_kind a b c) x y = absurd (omega arith)
  fifth (same_number a b c d) x y = absurd (omega arith)
  fifth (endless a b) x y = absurd (omega arith)
  fifth (no_device a) x y = absurd (omega arith)
  fifth (no_device_element a) x y = absurd (omega arith)
  fifth (same_ddi a b c d e) x y = absurd (omega arith)

  abbrev Outside : Type 0
  Outside =
      ((0x322BCC77 ≤ (presentation_of p (start_at es i)).scale) × ((presentation_of p (start_at es i)).scale ≤ 0x4CBEBC20) → ⊥) ⊎ (7 < (presentation_of p (start_at es i)).decimals)

  -- of a value presentation it is the scale or the decimals
  outside : {k : ℕ} → Is es Dvp i → OutOfRange p es i k → Outside
  outside h (structure a b c) = absurd (omega arith)
  outside h (localization a b c) = absurd (omega arith)
  outside h (closing a b) = absurd (omega arith)
  outside h (type a b) = absurd (omega arith)
  outside h (number a b) = absurd (omega arith)
  outside h (property_bit a b c) = absurd (omega arith)
  outside h (both a b c) = absurd (omega arith)
  outside h (trigger_bit a b c) = absurd (omega arith)
  outside h (scale a b) = inl b
  outside h (decimals a b) = inr b

  breached : Is es Dvp i → Outside → (k : ℕ) × Breach p es (suc i) 5 k
  breached h (inl a) = (1, out_of_range (scale h a))
  breached h (inr a) = (2, out_of_range (decimals h a))

scale-fits : (p : List ℕ) (at : ℕ) → Octets p → (presentation_of p at).scale < 2 ^ 32
unfolding presentation_of
scale-fits p at octets = number_fits 4 _ p octets

pub fifty-is-a-breach : FiftyIsABreach
fifty-is-a-breach p es i v octets h =
    let at = start_at es i in
    let r = fifty-is-rule-five v (presentation_of p at).offset (presentation_of p at).scale (presentation_of p at).decimals (scale-fits p at octets) in
    ((λ e. breached p es i h (r.0 e)), (λ b. r.1 (outside p es i h (fifth p es i b.1 refl refl))))
