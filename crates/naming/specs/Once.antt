-- Each fact that a list of records keeps has at most one proof, which a struct's ghost field asks for. These lemmas promise nothing else.
use Rattle.std.specs.Prelude.{◌≡◌, ◌⊎◌, ℕ, Bool, true, List, refl}
use Rattle.std.specs.Coded.{Coded, Coded-set, code_by, coded_ℕ, coded_list, coded×, coded⊎, le_prop}
use mathlib.Core.HLevel.{¬_prop, Π_prop, ×₃_prop}
use mathlib.Core.Logic.{inl, inr}
use Rattle.pool.specs.Answer.{Answer}
use Rattle.pool.specs.Reading.{Entry, Scan, records, refused}
use Rattle.pool.specs.Walk.{Divided}
use Rattle.naming.specs.Chained.{Chained, Names, Owned}

-- an equation between numbers
number-prop : {x y : ℕ} → IsProp (x ≡ y)
number-prop {x} {y} = Coded-set coded_ℕ x y

-- what a walk finds is one of two things that are made of numbers
abbrev coded_entry : Coded Entry
coded_entry =
    code_by
    (ℕ × (ℕ × (ℕ × (ℕ × ℕ))))
    (coded× coded_ℕ (coded× coded_ℕ (coded× coded_ℕ (coded× coded_ℕ coded_ℕ))))
    (λ e. (e.start, (e.size, (e.kind, (e.id, e.parent)))))
    (λ t. record { start = t.0; size = t.1.0; kind = t.1.1.0; id = t.1.1.1.0; parent = t.1.1.1.1 })
    (λ _. refl)

abbrev coded_answer : Coded Answer
coded_answer = code_by (ℕ × ℕ) (coded× coded_ℕ coded_ℕ) (λ a. (a.number, a.value)) (λ t. record { number = t.0; value = t.1 }) (λ _. refl)

abbrev halves : Scan → List Entry ⊎ Answer
halves (records es) = inl es
halves (refused a) = inr a

abbrev whole : List Entry ⊎ Answer → Scan
whole (inl es) = records es
whole (inr a) = refused a

whole-halves : (s : Scan) → whole (halves s) ≡ s
whole-halves (records es) = refl
whole-halves (refused a) = refl

abbrev coded_scan : Coded Scan
coded_scan = code_by (List Entry ⊎ Answer) (coded⊎ (coded_list coded_entry) coded_answer) halves whole whole-halves

pub Divided-prop : (p starts : List ℕ) → IsProp (Divided p starts)
Divided-prop p starts x y =
    λ i. record {
      some = le_prop x.some y.some i;
      short = le_prop x.short y.short i;
      divides = Coded-set coded_scan _ _ x.divides y.divides i;
    }

Chained-prop : (key : ℕ → ℕ) (n : ℕ) (heads next : List ℕ) → IsProp (Chained key n heads next)
Chained-prop key n heads next x y =
    λ i. record {
      some = le_prop x.some y.some i;
      top = λ b l. number-prop (x.top b l) (y.top b l) i;
      below = λ b l. number-prop (x.below b l) (y.below b l) i;
    }

pub Names-prop : (p starts heads next : List ℕ) → IsProp (Names p starts heads next)
unfolding Names
Names-prop p starts heads next x y =
    λ i. record {
      divided = Divided-prop p starts x.divided y.divided i;
      room = le_prop x.room y.room i;
      chained = Chained-prop _ _ heads next x.chained y.chained i;
    }

pub Owned-prop : (owned : Bool) (es : List Entry) → IsProp (owned ≡ true → Owned es)
Owned-prop owned es = Π_prop λ _. Π_prop λ i. Π_prop λ _. Π_prop λ _. ×₃_prop ¬_prop ¬_prop number-prop
