-- The parameters of a function over the table, whichever of them the table is: those before it and those after it, what they
-- own, what is said of them at exit, and the tokens of their lifetimes, each taken apart at the table and joined again.
--     Holds, held      a value of each type as what a local holds
-- Assumes `Logic`.
use mathlib.Core.Path.{◌≡◌, refl, ap}
use Prim.Native.Nat.{ℕ, zero, suc}
use mathlib.Core.List.{List, [], ◌∷◌, ◌++◌, map}
use seplogic.Ra.Ura.{Ura}
use base.Logic.{SProp, ent, sep, emp, id⊢, via, assoc∗, assoc', mono_r, snd∗, emp∗}
use base.Fml.{Share, Fml, fsep}
use types.Logic.{Logic, sem}
use contract.Lifetimes.{Lfts, Shares, Within, lft_at, toks}
use types.Kit.{raw, ◌$◌, ◌∵◌, !, qed, move, done}
use denote.RattleType.{RattleType, Denots, Valss, owns, flat}
use denote.Laws.{Are, Ises, Spells, valss}
use denote.Signature.{Slot, types_at}
use denote.Triple.End.{Kepts, Fins, lasts_of}
use denote.Exit.{Last, left}
use Rattle.filling.proofs.Cells.{Cell, value}

-- a value of each type as what a local holds
abbrev pub Holds : List RattleType → Type 0
Holds [] = Unit {0}
Holds (T ∷ Ts) = (T.Denot → Cell) × Holds Ts

abbrev pub spells : (Ts : List RattleType) → Holds Ts → Spells Ts
spells [] hs = tt
spells (T ∷ Ts) hs = (λ x. value (hs.0 x) ∷ [], spells Ts hs.1)

abbrev pub held : (Ts : List RattleType) → Holds Ts → Denots Ts → List Cell
held [] hs a = []
held (T ∷ Ts) hs a = hs.0 a.0 ∷ held Ts hs.1 a.1

pub flat-held : (Ts : List RattleType) (hs : Holds Ts) (a : Denots Ts) → flat Ts (valss Ts (spells Ts hs) a) ≡ map value (held Ts hs a)
flat-held [] hs a = refl
flat-held (T ∷ Ts) hs a = ap (λ vs. value (hs.0 a.0) ∷ vs) (flat-held Ts hs.1 a.1)

abbrev pub kapp : {n : ℕ} (bs us : List (Slot n)) → Kepts bs → Kepts us → Kepts (bs ++ us)
kapp [] us ks ks' = ks'
kapp (b ∷ bs) us ks ks' = (ks.0, kapp bs us ks.1 ks')

-- a list of parameters, at the table: what stands before it, and from it on
module _ {n : ℕ} (κs : Lfts n) where
  abbrev pub happ : (bs us : List (Slot n)) → Holds (types_at bs κs) → Holds (types_at us κs) → Holds (types_at (bs ++ us) κs)
  happ [] us hs hs' = hs'
  happ (b ∷ bs) us hs hs' = (hs.0, happ bs us hs.1 hs')

  abbrev pub fore : (bs us : List (Slot n)) → Denots (types_at (bs ++ us) κs) → Denots (types_at bs κs)
  fore [] us a = tt
  fore (b ∷ bs) us a = (a.0, fore bs us a.1)

  abbrev pub aft : (bs us : List (Slot n)) → Denots (types_at (bs ++ us) κs) → Denots (types_at us κs)
  aft [] us a = a
  aft (b ∷ bs) us a = aft bs us a.1

  pub are-aft : (bs us : List (Slot n)) (hs : Holds (types_at bs κs)) (hs' : Holds (types_at us κs)) (a : Denots (types_at (bs ++ us) κs)) → Are (types_at (bs ++ us) κs) (Ises (types_at (bs ++ us) κs)) a (valss (types_at (bs ++ us) κs) (spells (types_at (bs ++ us) κs) (happ bs us hs hs')) a)
      → Are (types_at us κs) (Ises (types_at us κs)) (aft bs us a) (valss (types_at us κs) (spells (types_at us κs) hs') (aft bs us a))
  are-aft [] us hs hs' a are = are
  are-aft (b ∷ bs) us hs hs' a are = are-aft bs us hs.1 hs' a.1 are.1

  abbrev pub fins : (bs us : List (Slot n)) (ks : Kepts bs) (ks' : Kepts us) (a : Denots (types_at (bs ++ us) κs)) → Fins κs bs ks (fore bs us a) → Fins κs us ks' (aft bs us a) → Fins κs (bs ++ us) (kapp bs us ks ks') a
  fins [] us ks ks' a w w' = w'
  fins (b ∷ bs) us ks ks' a w w' = (w.0, fins bs us ks.1 ks' a.1 w.1 w')

  -- the same for a list whose rest is not a list of slots here
  abbrev pub Fins-to : Type 0 → (bs : List (Slot n)) (ks : Kepts bs) → Denots (types_at bs κs) → Type 0
  Fins-to Y [] ks a = Y
  Fins-to Y (b ∷ bs) ks a = Last ((b.row κs).exit ks.0) a.0 × Fins-to Y bs ks.1 a.1

  module _ (Y : Type 0) where
    abbrev pub fore-w : (bs : List (Slot n)) (ks : Kepts bs) (a : Denots (types_at bs κs)) → Fins-to Y bs ks a → Fins κs bs ks a
    fore-w [] ks a w = tt
    fore-w (b ∷ bs) ks a w = (w.0, fore-w bs ks.1 a.1 w.1)

    abbrev pub aft-w : (bs : List (Slot n)) (ks : Kepts bs) (a : Denots (types_at bs κs)) → Fins-to Y bs ks a → Y
    aft-w [] ks a w = w
    aft-w (b ∷ bs) ks a w = aft-w bs ks.1 a.1 w.1

    abbrev pub lasts_to : (Y → Fml) → (bs : List (Slot n)) (ks : Kepts bs) (a : Denots (types_at bs κs)) → Fins-to Y bs ks a → Fml
    lasts_to P [] ks a w = P w
    lasts_to P (b ∷ bs) ks a w = fsep (left ((b.row κs).exit ks.0) a.0 w.0) (lasts_to P bs ks.1 a.1 w.1)

abbrev pub owns-to : Fml → (Ts : List RattleType) → Denots Ts → Valss Ts → Fml
owns-to P [] a vss = P
owns-to P (T ∷ Ts) a vss = fsep (T.own_val a.0 vss.0) (owns-to P Ts a.1 vss.1)

-- a lifetime's share, and the tokens with something else in the place of its token
abbrev pub share_at : (n j : ℕ) → Within n j → Shares n → Share
share_at zero j ok qs = absurd ok
share_at (suc n) zero ok qs = qs.0
share_at (suc n) (suc j) ok qs = share_at n j ok qs.1

module _ {M : Type 1} {𝓤 : Ura M} (𝓛 : Logic 𝓤) where
  open 𝓛 use {A}

  abbrev ⟦◌⟧ : Fml → SProp 𝓤
  ⟦ P ⟧ = sem 𝓛 P

  pub swaps : (P Q X : SProp 𝓤) → ent 𝓤 (sep 𝓤 P (sep 𝓤 Q X)) (sep 𝓤 Q (sep 𝓤 P X))
  swaps P Q X = qed 𝓛 (raw P ∷ raw Q ∷ raw X ∷ []) ∵ move ! (1 ∷ []) $ done !

  pub further-out : (L Y P Z : SProp 𝓤) → ent 𝓤 Y (sep 𝓤 P Z) → ent 𝓤 (sep 𝓤 L Y) (sep 𝓤 (sep 𝓤 L P) Z)
  further-out L Y P Z h = via 𝓤 (sep 𝓤 L (sep 𝓤 P Z)) (mono_r 𝓤 L h) (assoc' 𝓤 L P Z)

  pub further-in : (L Y P Z : SProp 𝓤) → ent 𝓤 (sep 𝓤 P Z) Y → ent 𝓤 (sep 𝓤 (sep 𝓤 L P) Z) (sep 𝓤 L Y)
  further-in L Y P Z h = via 𝓤 (sep 𝓤 L (sep 𝓤 P Z)) (assoc∗ 𝓤 L P Z) (mono_r 𝓤 L h)

  abbrev pub toks-with : SProp 𝓤 → (n j : ℕ) → Within n j → Lfts n → Shares n → SProp 𝓤
  toks-with P zero j ok κs qs = absurd ok
  toks-with P (suc n) zero ok κs qs = sep 𝓤 P (toks 𝓛 n κs.1 qs.1)
  toks-with P (suc n) (suc j) ok κs qs = sep 𝓤 (A.lft κs.0 qs.0) (toks-with P n j ok κs.1 qs.1)

  abbrev pub toks-but : (n j : ℕ) → Within n j → Lfts n → Shares n → SProp 𝓤
  toks-but zero j ok κs qs = absurd ok
  toks-but (suc n) zero ok κs qs = toks 𝓛 n κs.1 qs.1
  toks-but (suc n) (suc j) ok κs qs = sep 𝓤 (A.lft κs.0 qs.0) (toks-but n j ok κs.1 qs.1)

  pub toks-out : (P : SProp 𝓤) (n j : ℕ) (ok : Within n j) (κs : Lfts n) (qs : Shares n) → ent 𝓤 (toks-with P n j ok κs qs) (sep 𝓤 P (toks-but n j ok κs qs))
  toks-out P zero j ok κs qs = absurd ok
  toks-out P (suc n) zero ok κs qs = id⊢ 𝓤 (sep 𝓤 P (toks 𝓛 n κs.1 qs.1))
  toks-out P (suc n) (suc j) ok κs qs = let L : SProp 𝓤 = A.lft κs.0 qs.0 in let B : SProp 𝓤 = toks-but n j ok κs.1 qs.1 in via 𝓤 (sep 𝓤 L (sep 𝓤 P B)) (mono_r 𝓤 L (toks-out P n j ok κs.1 qs.1)) (swaps L P B)

  pub toks-in : (P : SProp 𝓤) (n j : ℕ) (ok : Within n j) (κs : Lfts n) (qs : Shares n) → ent 𝓤 (sep 𝓤 P (toks-but n j ok κs qs)) (toks-with P n j ok κs qs)
  toks-in P zero j ok κs qs = absurd ok
  toks-in P (suc n) zero ok κs qs = id⊢ 𝓤 (sep 𝓤 P (toks 𝓛 n κs.1 qs.1))
  toks-in P (suc n) (suc j) ok κs qs = let L : SProp 𝓤 = A.lft κs.0 qs.0 in let B : SProp 𝓤 = toks-but n j ok κs.1 qs.1 in via 𝓤 (sep 𝓤 L (sep 𝓤 P B)) (swaps P L B) (mono_r 𝓤 L (toks-in P n j ok κs.1 qs.1))

  pub toks-at : (n j : ℕ) (ok : Within n j) (κs : Lfts n) (qs : Shares n) → toks-with (A.lft (lft_at n j ok κs) (share_at n j ok qs)) n j ok κs qs ≡ toks 𝓛 n κs qs
  toks-at zero j ok κs qs = absurd ok
  toks-at (suc n) zero ok κs qs = refl
  toks-at (suc n) (suc j) ok κs qs = ap (sep 𝓤 (A.lft κs.0 qs.0)) (toks-at n j ok κs.1 qs.1)

  module _ {n : ℕ} (κs : Lfts n) where
    pub owns-apart : (bs us : List (Slot n)) (hs : Holds (types_at bs κs)) (hs' : Holds (types_at us κs)) (a : Denots (types_at (bs ++ us) κs))
        → ent 𝓤 ⟦ owns (types_at (bs ++ us) κs) a (valss (types_at (bs ++ us) κs) (spells (types_at (bs ++ us) κs) (happ κs bs us hs hs')) a) ⟧
        (sep 𝓤 ⟦ owns (types_at bs κs) (fore κs bs us a) (valss (types_at bs κs) (spells (types_at bs κs) hs) (fore κs bs us a)) ⟧ ⟦ owns (types_at us κs) (aft κs bs us a) (valss (types_at us κs) (spells (types_at us κs) hs') (aft κs bs us a)) ⟧)
    owns-apart [] us hs hs' a = emp∗ 𝓤 ⟦ owns (types_at us κs) a (valss (types_at us κs) (spells (types_at us κs) hs') a) ⟧
    owns-apart (b ∷ bs) us hs hs' a = let a₀ : Denots (types_at bs κs) = fore κs bs us a.1 in let a₁ : Denots (types_at us κs) = aft κs bs us a.1 in
        further-out ⟦ (b.row κs).own_val a.0 (value (hs.0 a.0) ∷ []) ⟧ ⟦ owns (types_at (bs ++ us) κs) a.1 (valss (types_at (bs ++ us) κs) (spells (types_at (bs ++ us) κs) (happ κs bs us hs.1 hs')) a.1) ⟧ ⟦ owns (types_at bs κs) a₀ (valss (types_at bs κs) (spells (types_at bs κs) hs.1) a₀) ⟧ ⟦ owns (types_at us κs) a₁ (valss (types_at us κs) (spells (types_at us κs) hs') a₁) ⟧
        (owns-apart bs us hs.1 hs' a.1)

    pub lasts-apart : (Y : Type 0) (P : Y → Fml) (bs : List (Slot n)) (ks : Kepts bs) (a : Denots (types_at bs κs)) (w : Fins-to κs Y bs ks a)
        → ent 𝓤 ⟦ lasts_to κs Y P bs ks a w ⟧ (sep 𝓤 ⟦ lasts_of κs bs ks a (fore-w κs Y bs ks a w) ⟧ ⟦ P (aft-w κs Y bs ks a w) ⟧)
    lasts-apart Y P [] ks a w = emp∗ 𝓤 ⟦ P w ⟧
    lasts-apart Y P (b ∷ bs) ks a w =
        further-out ⟦ left ((b.row κs).exit ks.0) a.0 w.0 ⟧ ⟦ lasts_to κs Y P bs ks.1 a.1 w.1 ⟧ ⟦ lasts_of κs bs ks.1 a.1 (fore-w κs Y bs ks.1 a.1 w.1) ⟧ ⟦ P (aft-w κs Y bs ks.1 a.1 w.1) ⟧ (lasts-apart Y P bs ks.1 a.1 w.1)

    pub lasts-joined : (bs us : List (Slot n)) (ks : Kepts bs) (ks' : Kepts us) (a : Denots (types_at (bs ++ us) κs)) (w : Fins κs bs ks (fore κs bs us a)) (w' : Fins κs us ks' (aft κs bs us a))
        → ent 𝓤 (sep 𝓤 ⟦ lasts_of κs bs ks (fore κs bs us a) w ⟧ ⟦ lasts_of κs us ks' (aft κs bs us a) w' ⟧) ⟦ lasts_of κs (bs ++ us) (kapp bs us ks ks') a (fins κs bs us ks ks' a w w') ⟧
    lasts-joined [] us ks ks' a w w' = snd∗ 𝓤 (emp 𝓤) ⟦ lasts_of κs us ks' a w' ⟧
    lasts-joined (b ∷ bs) us ks ks' a w w' =
        further-in ⟦ left ((b.row κs).exit ks.0) a.0 w.0 ⟧ ⟦ lasts_of κs (bs ++ us) (kapp bs us ks.1 ks') a.1 (fins κs bs us ks.1 ks' a.1 w.1 w') ⟧ ⟦ lasts_of κs bs ks.1 (fore κs bs us a.1) w.1 ⟧ ⟦ lasts_of κs us ks' (aft κs bs us a.1) w' ⟧
        (lasts-joined bs us ks.1 ks' a.1 w.1 w')

  pub owns-joined : (P : Fml) (Ts : List RattleType) (a : Denots Ts) (vss : Valss Ts) → ent 𝓤 (sep 𝓤 ⟦ owns Ts a vss ⟧ ⟦ P ⟧) ⟦ owns-to P Ts a vss ⟧
  owns-joined P [] a vss = snd∗ 𝓤 (emp 𝓤) ⟦ P ⟧
  owns-joined P (T ∷ Ts) a vss = further-in ⟦ T.own_val a.0 vss.0 ⟧ ⟦ owns-to P Ts a.1 vss.1 ⟧ ⟦ owns Ts a.1 vss.1 ⟧ ⟦ P ⟧ (owns-joined P Ts a.1 vss.1)
