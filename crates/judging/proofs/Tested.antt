-- The tests of judging, each equivalent to a part of a cause. Assumes nothing.
use mathlib.Core.Path.{◌≡◌, refl, sym, ap, ◌∙◌}
use mathlib.Core.Bool.{Bool, true, false, ◌&&◌, ◌||◌}
use mathlib.Core.Logic.{◌⊎◌, inl, inr, ⊎_elim}
use mathlib.Core.List.{List, [], ◌∷◌}
use Prim.Native.Nat.{ℕ, zero, suc, ◌/◌, ◌%◌, ◌^◌, ◌≤◌}
use native.Mathlib.Nat.{pow-succ', div-div-eq-div-mul}
use native.Mathlib.Omega.{arith}
use borrow.Author.Tests.{eqb-true, eqb-false, leb-true, ltb-true}
use lib.Dec.{eqb, leb}
use lib.IntN.{ℤ, pos, negsuc}
use lib.Signed.{lt_z}
use Rattle.messages.specs.Layout.{is_value_carrier}
use Rattle.rules.specs.Breach.{Bit}
use Rattle.rules.proofs.Truth.{untrue, both, either, to-left}
use Rattle.judging.specs.Judging.{is_clear, misses_setting, Asks, trigger_table, misses_in, misses_trigger, misses_interval}
use Rattle.judging.specs.Causes.{Carries, Sets, Needs, Interval, Negative, below}

-- ---- commands

pub carries_test : {c : ℕ} → Carries c → is_value_carrier c ≡ true
carries_test Carries.two = refl
carries_test Carries.three = refl
carries_test Carries.four = refl
carries_test Carries.five = refl
carries_test Carries.six = refl
carries_test Carries.seven = refl
carries_test Carries.eight = refl
carries_test Carries.ten = refl

from-two-to-eight : (c : ℕ) → 2 ≤ c → c ≤ 8 → Carries c
from-two-to-eight zero a b = absurd (omega arith)
from-two-to-eight (suc zero) a b = absurd (omega arith)
from-two-to-eight (suc (suc zero)) a b = Carries.two
from-two-to-eight (suc (suc (suc zero))) a b = Carries.three
from-two-to-eight (suc (suc (suc (suc zero)))) a b = Carries.four
from-two-to-eight (suc (suc (suc (suc (suc zero))))) a b = Carries.five
from-two-to-eight (suc (suc (suc (suc (suc (suc zero)))))) a b = Carries.six
from-two-to-eight (suc (suc (suc (suc (suc (suc (suc zero))))))) a b = Carries.seven
from-two-to-eight (suc (suc (suc (suc (suc (suc (suc (suc zero)))))))) a b = Carries.eight
from-two-to-eight (suc (suc (suc (suc (suc (suc (suc (suc (suc c))))))))) a b = absurd (omega arith)

pub test-carries : (c : ℕ) → is_value_carrier c ≡ true → Carries c
test-carries c e =
    ⊎_elim
    (λ (t : leb 2 c && leb c 8 ≡ true). let s = both (leb 2 c) (leb c 8) t in from-two-to-eight c (leb-true 2 c s.0) (leb-true c 8 s.1))
    (λ (t : eqb c 10 ≡ true). rw (eqb-true c 10 t) Carries.ten)
    (either (leb 2 c && leb c 8) (eqb c 10) e)

-- one of two commands
one_of : (c a b : ℕ) → eqb c a || eqb c b ≡ true → (c ≡ a) ⊎ (c ≡ b)
one_of c a b e = ⊎_elim (λ (t : eqb c a ≡ true). inl (eqb-true c a t)) (λ (t : eqb c b ≡ true). inr (eqb-true c b t)) (either (eqb c a) (eqb c b) e)

-- ---- bits

halved : (b x : ℕ) → x / 2 ^ suc b ≡ x / 2 / 2 ^ b
halved b x = ap (λ (d : ℕ). x / d) (pow-succ' 2 b) ∙ sym (div-div-eq-div-mul x 2 (2 ^ b))

clear-unset : (b x : ℕ) → is_clear b x ≡ true → Bit b x → ⊥
clear-unset zero x e h = let z : x / 1 % 2 ≡ 0 = eqb-true (x / 1 % 2) 0 e in omega arith
clear-unset (suc b) x e h = clear-unset b (x / 2) (rw (← halved b x) e) h

other-set : (b x : ℕ) → is_clear b x ≡ false → Bit b x
other-set zero x e = let z : x / 1 % 2 ≡ 0 → ⊥ = eqb-false (x / 1 % 2) 0 e in omega arith
other-set (suc b) x e = other-set b (x / 2) (rw (← halved b x) e)

unset-clear : (b x : ℕ) → (Bit b x → ⊥) → is_clear b x ≡ true
unset-clear b x h = go (is_clear b x) refl
  where
    go : (t : Bool) → is_clear b x ≡ t → is_clear b x ≡ true
    go true e = e
    go false e = absurd (h (other-set b x e))

-- ---- the three tests of an object

pub lacks-setting : (x c : ℕ) → misses_setting x c ≡ true → Sets c × (Bit 1 x → ⊥)
lacks-setting x c e =
    let s = both (eqb c 3 || eqb c 10) (is_clear 1 x) e in
    (⊎_elim (λ (q : c ≡ 3). rw q Sets.three) (λ (q : c ≡ 10). rw q Sets.ten) (one_of c 3 10 s.0), clear-unset 1 x s.1)

pub setting-lacks : {c : ℕ} (x : ℕ) → Sets c → (Bit 1 x → ⊥) → misses_setting x c ≡ true
setting-lacks x Sets.three h = unset-clear 1 x h
setting-lacks x Sets.ten h = unset-clear 1 x h

-- the rows of a table, each as a word of the causes
abbrev AllNeed : List Asks → Type 0
AllNeed [] = Unit {0}
AllNeed (row ∷ rows) = Needs row.command row.bit × AllNeed rows

lacks-in : (rows : List Asks) → AllNeed rows → (x c : ℕ) → misses_in rows x c ≡ true → (b : ℕ) × Needs c b × (Bit b x → ⊥)
lacks-in [] needs x c e = untrue e
lacks-in (row ∷ rows) needs x c e =
    ⊎_elim
    (λ (t : eqb c row.command && is_clear row.bit x ≡ true).
    let s = both (eqb c row.command) (is_clear row.bit x) t in
    (row.bit, rw (eqb-true c row.command s.0) needs.0, clear-unset row.bit x s.1))
    (lacks-in rows needs.1 x c)
    (either (eqb c row.command && is_clear row.bit x) (misses_in rows x c) e)

pub lacks-trigger : (x c : ℕ) → misses_trigger x c ≡ true → (b : ℕ) × Needs c b × (Bit b x → ⊥)
lacks-trigger = lacks-in trigger_table (Needs.four, (Needs.five, (Needs.six, (Needs.seven, (Needs.eight, tt)))))

pub trigger-lacks : {c b : ℕ} (x : ℕ) → Needs c b → (Bit b x → ⊥) → misses_trigger x c ≡ true
trigger-lacks x Needs.four h = to-left false (unset-clear 0 x h)
trigger-lacks x Needs.five h = to-left false (unset-clear 1 x h)
trigger-lacks x Needs.six h = to-left false (unset-clear 2 x h)
trigger-lacks x Needs.seven h = to-left false (unset-clear 2 x h)
trigger-lacks x Needs.eight h = to-left false (unset-clear 3 x h)

pub lacks-interval : (v : ℤ) (c : ℕ) → misses_interval v c ≡ true → Interval c × Negative v
lacks-interval v c e =
    let s = both (eqb c 4 || eqb c 5) (lt_z v (pos 0)) e in
    (⊎_elim (λ (q : c ≡ 4). rw q Interval.four) (λ (q : c ≡ 5). rw q Interval.five) (one_of c 4 5 s.0), go v s.1)
  where
    go : (v : ℤ) → lt_z v (pos 0) ≡ true → Negative v
    go (pos n) t = absurd (omega (arith, ltb-true n 0 t))
    go (negsuc n) t = below

pub interval-lacks : {v : ℤ} {c : ℕ} → Interval c → Negative v → misses_interval v c ≡ true
interval-lacks Interval.four below = refl
interval-lacks Interval.five below = refl
