-- The calls of a function over the table: of a covered function of one value, and of the one that fills the table.
--     asking           a call, where what is to hold of its result is an assertion
--     unary-call       the call of a function of one value
--     slice_left       what is said at exit of a slice that is lent by `&mut`.        handed-back      the same without the length
--     Fills            what is asked of the function that fills the table. `by-pool`: a function of the pool, the list, a count and the table is one
-- Assumes `Logic`.
use mathlib.Core.Path.{◌≡◌, refl}
use Prim.Native.Nat.{ℕ, ◌<◌, ◌^◌}
use mathlib.Core.List.{List, [], ◌∷◌, ◌++◌}
use lib.ListN.{length}
use seplogic.Ra.Ura.{Ura}
use base.Fraction.{full_share}
use mir.Syntax.{Callee, named, w8, w64}
use mir.Val.{Val, vint}
use base.Logic.{SProp, ent, sep, ex, emp, id⊢, via, mono_l}
use base.Fml.{Lft, GName, Share, Fml, ftrue, fsep, feq, flft, fbor}
use prog.Wp.{Calls}
use types.Logic.{Logic, sem}
use contract.Monad.{fact}
use sound.WpLaws.{FmC}
use types.Kit.{Item, cut, ‵, raw, ◌⊛◌, some, later, ⋆, Seq, prop, upd, pop, push, ◌$◌, ◌∵◌, !, qed, move, drop, use0, use1, use2, split, join, pick, fsplit, fjoin, feq_l, frame, await, done, show, updating, now as at_once}
use denote.RattleType.{RattleType}
use denote.Laws.{Is, shows, Makes}
use denote.Plain.{uint_Makes, uint_row_laws}
use denote.Builtin.{u8, u16, usize, unit}
use denote.Ref.{Bor, MutBor}
use denote.Slice.{slice_val, MutSlice, ShrSlice, finally, shr_slice_copy}
use denote.Lend.{Held}
use denote.Signature.{Signature, plain, shr_slice_of, mut_slice_of}
use denote.Triple.End.{lasts_of}
use denote.Steps.{owned, facts, heard, nothing}
use denote.Triple.Spec.{triple_of, exits}
use denote.Triple.Statement.{Contract, Triple}
use denote.Triple.Walked.{says}
use denote.Exit.{yes, Last, left}

-- the contract of a covered function of one value
abbrev pub unary : RattleType → RattleType → Signature
unary D X = record { lifetimes = 0; outlives = []; params = plain (λ _. D) ∷ []; result = plain (λ _. X) }

abbrev pub Unary : {M : Type 1} {𝓤 : Ura M} (𝓛 : Logic 𝓤) (D X : RattleType) → (D.Denot → X.Denot → Type 0) → Contract 𝓤
Unary {𝓤 = 𝓤} 𝓛 D X Φ = triple_of 𝓛 (unary D X) (λ κs a. record { ghost = Unit {0}; requires = λ _. emp 𝓤; ensures = λ _ r. exits 𝓛 (unary D X) (yes, tt) κs a (λ e. fact 𝓤 (Φ a.0 r)) })

module _ {M : Type 1} {𝓤 : Ura M} (𝓛 : Logic 𝓤) (C : Calls 𝓤 𝓛.H) (fm : FmC 𝓤 𝓛.H 𝓛.laws C) where
  -- a call, where what is to hold of its result is an assertion
  open 𝓛 use {H}

  pub asking : {K : Type 0} {Γ : List (Item 𝓤)} → K → (f : Callee) (vs : List Val) (P : SProp 𝓤) (Q Q' : Val → SProp 𝓤) → ent 𝓤 P (C f vs Q) → ((v : Val) → Seq K 𝓛 (raw (Q v) ∷ Γ) (prop (Q' v))) → Seq K 𝓛 (raw P ∷ Γ) (prop (C f vs Q'))
  asking {Γ = Γ} g f vs P Q Q' met k = record { prf = via 𝓤 _ (pop 𝓛 (raw P) Γ) (via 𝓤 _ (mono_l 𝓤 (⋆ 𝓛 Γ) met) (fm f vs Q Q' (⋆ 𝓛 Γ) (λ v. via 𝓤 _ (push 𝓛 (raw (Q v)) Γ) (k v).prf))) }

  pub unary-call : {K : Type 0} {Γ : List (Item 𝓤)} → K → (f : Callee) (D X : RattleType) (Φ : D.Denot → X.Denot → Type 0) (P : Val → SProp 𝓤) → Makes 𝓛 D (Is D) → Triple 𝓤 (C f) (Unary 𝓛 D X Φ) → (d : D.Denot) (w : Val) → Is D d (w ∷ [])
      → ((v : Val) (x : X.Denot) → Is X x (v ∷ []) → Φ d x → Seq K 𝓛 Γ (upd (P v))) → Seq K 𝓛 Γ (prop (C f (w ∷ []) (λ v. H.⇛ (P v))))
  unary-call {K} {Γ} g f D X Φ P mk met d w is k =
      use0 𝓛 (raw ((Unary 𝓛 D X Φ).pre ((tt, tt, tt, (d, tt), (w ∷ [], tt)), tt))) (qed 𝓛 [] ∵ nothing ! $ nothing ! $ owned ! D (Is D) mk d (w ∷ []) is $ fjoin ! $ move ! (1 ∷ 0 ∷ []) $ join ! $ frame ! $ done !) $
      asking g f (w ∷ []) ((Unary 𝓛 D X Φ).pre ((tt, tt, tt, (d, tt), (w ∷ [], tt)), tt)) ((Unary 𝓛 D X Φ).post ((tt, tt, tt, (d, tt), (w ∷ [], tt)), tt)) (λ v. H.⇛ (P v)) (met ((tt, tt, tt, (d, tt), (w ∷ [], tt)), tt)) (λ v. updating g $
      use1 𝓛 (later (some (λ (x : X.Denot). (‵ ftrue ⊛ ‵ (X.own_val x (v ∷ []))) ⊛ some (λ (ws : Last (D.exit yes) d × Unit {0}). ‵ (fsep (left (D.exit yes) d ws.0) ftrue) ⊛ raw (fact 𝓤 (Φ d x)))))) (id⊢ 𝓤 _) $ await g tt $ pick g (λ x.
      split g $ move g (1 ∷ []) $ pick g (λ ws. split g $ drop g $ heard g (Φ d x) (λ φ. split g $ drop g $ facts g X (Is X) (shows 𝓛 X) x (v ∷ []) (λ is'. k v x is' φ)))))

-- the contract of a filling from the pool and a list: what it asks of these, of the count and of the table, and how it leaves the table
abbrev pub pool-filling : RattleType → Signature
pool-filling R = record { lifetimes = 3; outlives = []; params = shr_slice_of (0 ∷ []) tt (plain (λ _. u8)) ∷ shr_slice_of (1 ∷ []) tt (plain (λ _. u16)) ∷ plain (λ _. usize) ∷ mut_slice_of (2 ∷ []) tt (plain (λ _. R)) ∷ []; result = plain (λ _. unit) }

abbrev pub PoolFilling : {M : Type 1} {𝓤 : Ura M} (𝓛 : Logic 𝓤) (R : RattleType) → (List ℕ → List ℕ → ℕ → List R.Denot → Type 0) → (List ℕ → List ℕ → ℕ → List R.Denot → List R.Denot) → Contract 𝓤
PoolFilling {𝓤 = 𝓤} 𝓛 R Wants after = triple_of 𝓛 (pool-filling R) (λ κs a. record {
  ghost = Unit {0};
  requires = λ _. fact 𝓤 (Wants a.0.now a.1.0.now a.1.1.0 a.1.1.1.0.now);
  ensures = λ _ r. exits 𝓛 (pool-filling R) (yes, (yes, (yes, (yes, tt)))) κs a (λ e. fact 𝓤 (e.1.1.1.0.now ≡ after a.0.now a.1.0.now a.1.1.0 a.1.1.1.0.now));
})

-- what is said at exit of a slice of n entries at (b, o) that is lent by `&mut` at κ: its last list and that it is as long, and the borrow
abbrev pub slice_left : (R : RattleType) → Lft → ℕ → ℕ → GName → ℕ → List R.Denot → Fml
slice_left R κ b o γ n us = fsep (fsep (finally R γ us) (feq ℕ (length us) n)) (fbor κ (Held R n b o γ))

-- the same without the length
abbrev pub handed-back : (R : RattleType) → Lft → ℕ → ℕ → GName → ℕ → List R.Denot → Fml
handed-back R κ b o γ n us = fsep (finally R γ us) (fbor κ (Held R n b o γ))

-- what the slice of a pool's bytes owns, and the list's
abbrev pub POwn : Lft → Bor (List ℕ) → Fml
POwn κ x = (ShrSlice (named 0) κ u8).own_val x (slice_val x.ref_ptr (length x.now) ∷ [])

abbrev pub ROwn : Lft → Bor (List ℕ) → Fml
ROwn κ x = (ShrSlice (named 0) κ u16).own_val x (slice_val x.ref_ptr (length x.now) ∷ [])

-- what the pool owns is copied, where it stands first, and where something stands before it
pub pool-copied : {M : Type 1} {𝓤 : Ura M} (𝓛 : Logic 𝓤) (κ : Lft) (x : Bor (List ℕ)) (B X : Fml) → ent 𝓤 (sem 𝓛 (fsep (fsep (POwn κ x) B) X)) (sem 𝓛 (fsep (POwn κ x) (fsep (fsep (POwn κ x) B) X)))
pool-copied 𝓛 κ x B X =
    qed 𝓛 (‵ (fsep (fsep (POwn κ x) B) X) ∷ []) ∵ fsplit ! $ fsplit ! $ use1 𝓛 (‵ (POwn κ x) ⊛ ‵ (POwn κ x)) ((shr_slice_copy 𝓛 (named 0) κ u8 (uint_row_laws w8)).twice x (slice_val x.ref_ptr (length x.now) ∷ [])) $ split ! $ move ! (1 ∷ 2 ∷ []) $ fjoin ! $ move ! (0 ∷ 2 ∷ []) $ fjoin ! $ move ! (1 ∷ 0 ∷ []) $ fjoin ! $ done !

pub copied_behind : {M : Type 1} {𝓤 : Ura M} (𝓛 : Logic 𝓤) (F P B X : Fml) → ent 𝓤 (sem 𝓛 (fsep B X)) (sem 𝓛 (fsep P (fsep B X))) → ent 𝓤 (sem 𝓛 (fsep (fsep F B) X)) (sem 𝓛 (fsep P (fsep (fsep F B) X)))
copied_behind 𝓛 F P B X copied =
    qed 𝓛 (‵ (fsep (fsep F B) X) ∷ []) ∵ fsplit ! $ fsplit ! $ move ! (1 ∷ 2 ∷ []) $ fjoin ! $ use1 𝓛 (‵ (fsep P (fsep B X))) copied $ fsplit ! $ move ! (1 ∷ []) $ fsplit ! $ move ! (3 ∷ 0 ∷ []) $ fjoin ! $ fjoin ! $ move ! (1 ∷ 0 ∷ []) $ fjoin ! $ done !

-- the function that fills the table from a list that is lent to it by `&`: it gets the tokens, and what can be copied of the other parameters
module _ {M : Type 1} {𝓤 : Ura M} (𝓛 : Logic 𝓤) (R : RattleType) (κ' : Lft) (q' : Share) (b o : ℕ) (γ : GName) (ys : List R.Denot) (Toks : SProp 𝓤) where
  open 𝓛 use {H, A}

  abbrev table : MutBor (List R.Denot)
  table = record { ref_ptr = (b, o); ghost_name = γ; now = ys }

  abbrev table-own : Fml
  table-own = (MutSlice (named 1) κ' R).own_val table (slice_val (b, o) (length ys) ∷ [])

  abbrev list_of : ℕ → List ℕ → Bor (List ℕ)
  list_of l zs = record { ref_ptr = (l, 0); now = zs }

  abbrev pub FillPre : Fml → ℕ → ℕ → List ℕ → SProp 𝓤
  FillPre Copied l ν zs = sep 𝓤 (A.lft (ν ∷ []) full_share) (sep 𝓤 (A.lft κ' q') (sep 𝓤 Toks (sep 𝓤 (sem 𝓛 Copied) (sep 𝓤 (sem 𝓛 (ROwn (ν ∷ []) (list_of l zs))) (sem 𝓛 table-own)))))

  abbrev Filled-so : ℕ → List R.Denot → Val → List R.Denot → SProp 𝓤
  Filled-so ν after w us = sep 𝓤 (sep 𝓤 (sep 𝓤 (A.lft (ν ∷ []) full_share) (sep 𝓤 (A.lft κ' q') (sep 𝓤 Toks (sep 𝓤 (sem 𝓛 (handed-back R κ' b o γ (length ys) us)) (sem 𝓛 (unit.own_val tt (w ∷ []))))))) (fact 𝓤 (length us ≡ length ys))) (fact 𝓤 (us ≡ after))

  abbrev pub FillPost : ℕ → List R.Denot → Val → SProp 𝓤
  FillPost ν after w = H.⇛ (ex 𝓤 (Filled-so ν after w))

  abbrev pub Fills : Calls 𝓤 H → Callee → List Val → Fml → (List ℕ → ℕ → Type 0) → (List ℕ → ℕ → List R.Denot) → Type 1
  Fills C #fill ps Copied Wants after = (l ν : ℕ) (zs : List ℕ) (n : ℕ) → n < 2 ^ 64 → Wants zs n → ent 𝓤 (FillPre Copied l ν zs) (C #fill (ps ++ (slice_val (l, 0) (length zs) ∷ vint w64 n ∷ slice_val (b, o) (length ys) ∷ [])) (FillPost ν (after zs n)))

  -- a function that gets the pool once more is one
  module _ (C : Calls 𝓤 H) (fm : FmC 𝓤 H 𝓛.laws C) (κ : Lft) (q : Share) (x : Bor (List ℕ)) (Others : SProp 𝓤) (opens : ent 𝓤 Toks (sep 𝓤 (A.lft κ q) Others)) (shuts : ent 𝓤 (sep 𝓤 (A.lft κ q) Others) Toks) (Wants : List ℕ → List ℕ → ℕ → List R.Denot → Type 0) (after : List ℕ → List ℕ → ℕ → List R.Denot → List R.Denot) where
    abbrev to_fill : ℕ → ℕ → List ℕ → ℕ → (PoolFilling 𝓛 R Wants after).Ghost
    to_fill l ν zs n = (((κ, (ν ∷ [], (κ', tt))), (q, (full_share, (q', tt))), tt, (x, (list_of l zs, (n, (table, tt)))), (slice_val x.ref_ptr (length x.now) ∷ [], (slice_val (l, 0) (length zs) ∷ [], (vint w64 n ∷ [], (slice_val (b, o) (length ys) ∷ [], tt))))), tt)

    fill-asked : (l ν : ℕ) (zs : List ℕ) (n : ℕ) → n < 2 ^ 64 → Wants x.now zs n ys → ent 𝓤 (⋆ 𝓛 (‵ (flft κ q) ∷ ‵ (flft (ν ∷ []) full_share) ∷ ‵ (flft κ' q') ∷ ‵ (POwn κ x) ∷ ‵ (ROwn (ν ∷ []) (list_of l zs)) ∷ ‵ table-own ∷ [])) ((PoolFilling 𝓛 R Wants after).pre (to_fill l ν zs n))
    fill-asked l ν zs n fits wanted =
        qed 𝓛 (‵ (flft κ q) ∷ ‵ (flft (ν ∷ []) full_share) ∷ ‵ (flft κ' q') ∷ ‵ (POwn κ x) ∷ ‵ (ROwn (ν ∷ []) (list_of l zs)) ∷ ‵ table-own ∷ []) ∵ says ! wanted $
        nothing ! $ move ! (3 ∷ 0 ∷ []) $ join ! $ move ! (2 ∷ 0 ∷ []) $ join ! $ move ! (1 ∷ 0 ∷ []) $ join ! $ frame ! $
        nothing ! $ move ! (3 ∷ 0 ∷ []) $ fjoin ! $ owned ! usize (Is usize) (uint_Makes 𝓛 w64) n _ (refl, fits) $ fjoin ! $ move ! (2 ∷ 0 ∷ []) $ fjoin ! $ move ! (1 ∷ 0 ∷ []) $ fjoin ! $ done !

    pub by-pool : (#fill : Callee) → Triple 𝓤 (C #fill) (PoolFilling 𝓛 R Wants after) → Fills C #fill (slice_val x.ref_ptr (length x.now) ∷ []) (POwn κ x) (λ zs n. Wants x.now zs n ys) (λ zs n. after x.now zs n ys)
    by-pool #fill known l ν zs n fits wanted = let end : List R.Denot = after x.now zs n ys in
        qed 𝓛 (‵ (flft (ν ∷ []) full_share) ∷ ‵ (flft κ' q') ∷ raw Toks ∷ ‵ (POwn κ x) ∷ ‵ (ROwn (ν ∷ []) (list_of l zs)) ∷ ‵ table-own ∷ []) ∵ move ! (2 ∷ []) $ use1 𝓛 (‵ (flft κ q) ⊛ raw Others) opens $ split ! $ move ! (0 ∷ 2 ∷ 3 ∷ 4 ∷ 5 ∷ 6 ∷ []) $
        cut (‵ (flft κ q) ∷ ‵ (flft (ν ∷ []) full_share) ∷ ‵ (flft κ' q') ∷ ‵ (POwn κ x) ∷ ‵ (ROwn (ν ∷ []) (list_of l zs)) ∷ ‵ table-own ∷ []) (raw ((PoolFilling 𝓛 R Wants after).pre (to_fill l ν zs n)) ∷ []) _ (fill-asked l ν zs n fits wanted) $
        asking 𝓛 C fm ! #fill _ ((PoolFilling 𝓛 R Wants after).pre (to_fill l ν zs n)) ((PoolFilling 𝓛 R Wants after).post (to_fill l ν zs n)) (FillPost ν end) (known (to_fill l ν zs n)) (λ w. updating {P = ex 𝓤 (Filled-so ν end w)} ! $
        use1 𝓛 (later (some (λ (u : Unit {0}). ((‵ (flft κ q) ⊛ ‵ (flft (ν ∷ []) full_share) ⊛ ‵ (flft κ' q') ⊛ ‵ ftrue) ⊛ ‵ (unit.own_val u (w ∷ [])))
        ⊛ some (λ (us : Unit {0} × (Unit {0} × (Unit {0} × (List R.Denot × Unit {0})))). ‵ (lasts_of (κ, (ν ∷ [], (κ', tt))) (pool-filling R).params (yes, (yes, (yes, (yes, tt)))) (x, (list_of l zs, (n, (table, tt)))) us) ⊛ raw (fact 𝓤 (us.1.1.1.0 ≡ end)))))) (id⊢ 𝓤 _) $ await ! tt $ pick ! (λ u.
        split ! $ move ! (1 ∷ []) $ pick ! (λ us. split ! $ move ! (1 ∷ []) $ heard ! (us.1.1.1.0 ≡ end) (λ e₂. fsplit ! $ drop ! $ fsplit ! $ drop ! $ fsplit ! $ drop ! $ fsplit ! $ fsplit ! $ fsplit ! $ move ! (1 ∷ []) $ feq_l ! (λ l₂. fjoin ! $ move ! (1 ∷ []) $ drop ! $
        -- [the table's last list and its borrow; the tokens and the result; the other tokens]
        at_once {P = ex 𝓤 (Filled-so ν end w)} ! $ show ! (Filled-so ν end w) us.1.1.1.0 $ says ! e₂ $ says ! l₂ $
        move ! (1 ∷ []) $ split ! $ split ! $ move ! (0 ∷ 4 ∷ []) $ use2 𝓛 (raw Toks) shuts $ move ! (1 ∷ []) $ split ! $ frame ! $ split ! $ frame ! $ drop ! $ frame ! $ move ! (1 ∷ []) $ frame ! $ done !)))))
