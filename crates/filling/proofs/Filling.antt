-- A function over the working table that lists a pool's records by a covered function and fills the table from that list: what it asks
-- and says, whatever its other parameters are, and whatever struct the table's entries are.
--     Filled           what the code asks: the calls, one after the other, of the covered function, of the count in its answer, of the filling, and of the answer's own part
--     filled           it follows from the callees' contracts. The other parameters go to the covered function as they came, and nothing is known of them
--     Orders           that the tokens, what the parameters own and what is said at exit can be had in the order in which they stand
-- Assumes `Logic`.
use mathlib.Core.Path.{◌≡◌, refl, sym, ◌∙◌, ap, subst}
use Prim.Native.Nat.{ℕ, ◌<◌, ◌^◌}
use mathlib.Core.List.{List, [], ◌∷◌, ◌++◌}
use lib.Dec.{lit<}
use lib.ListN.{length, replicate, length-replicate}
use seplogic.Ra.Ura.{Ura}
use base.Fraction.{full_share}
use mir.Syntax.{Callee, Ty, named, w16, w64, ty_int, ty_array, ty_unit}
use mir.Val.{Val, vint}
use base.Logic.{SProp, ent, sep, wand, ex, guard, emp, id⊢}
use base.Fml.{Lft, GName, Share, Fml, Incl-refl, fsep, fat, flft, flent}
use prog.Wp.{Calls}
use types.Logic.{Logic, sem}
use contract.Monad.{fact}
use sound.WpLaws.{FmC}
use types.Kit.{Item, cut, ‵, raw, ◌⊛◌, some, later, ⋆, Sq, prop, upd, ◌$◌, ◌∵◌, !, qed, move, keep, drop, use0, use1, use2, use3, split, join, pick, rewrite, fsplit, fjoin, feq_l, feq_i, frame, await, done, assume, check, show, updating, now as at_once}
use types.SemTy.{cells, Arr}
use types.Share.{arr_parts}
use types.Tokens.{lft_new, lft_end, lent_back}
use denote.RattleType.{RattleType}
use denote.Memory.{mem, part_at, shares}
use denote.Laws.{Is, shows, Makes}
use denote.Plain.{uint_Makes, uint_Lawful, Nothing-Lawful}
use denote.Builtin.{u16, usize, unit}
use denote.Array.{Array, array_val, Array-Makes}
use denote.ArrayMemory.{Array-apart, Array-whole}
use denote.Ref.{Bor, MutBor}
use denote.Slice.{slice_val, MutSlice, Room}
use denote.Lend.{Held, lends_slice, slice_back, lends_shr_slice}
use denote.Copied.{uint_Copied}
use denote.Index.{row, whole_in, whole_out}
use denote.Steps.{only, owned, facts, heard}
use denote.Triple.Statement.{Triple}
use borrow.Table.OneValue.{part_in, part_out}
use Rattle.filling.proofs.Local.{repeats-are}
use Rattle.filling.proofs.Cells.{Typed}
use Rattle.filling.proofs.Straight.{array, Script, ends, lends, backs, queries, meaning}
use Rattle.filling.proofs.Calls.{Unary, asking, unary-call, slice_left, handed-back, Fills, FillPre, FillPost, ROwn}

zero_is : Is u16 0 (vint w16 0 ∷ [])
zero_is = (refl, lit< tt)

-- what the code asks, as data: its list lies at l, and the table is n entries at (b, o)
abbrev pub fill-script : Callee → Callee → Callee → Callee → ℕ → ℕ → Ty → Ty → List Val → List Val → List Val → ℕ → ℕ → ℕ → Script
fill-script #core #count #fill #answer N l dt rt vs₀ vs ps b o n =
    lends (ty_array (ty_int w16) N) l (array w16 0 N) (queries #core (vs₀ ++ (vint w64 n ∷ slice_val (l, 0) N ∷ vs)) dt (λ w. queries #count (w ∷ []) (ty_int w64) (λ w₁.
    queries #fill (ps ++ (slice_val (l, 0) N ∷ w₁ ∷ slice_val (b, o) n ∷ [])) ty_unit (λ w₂. backs (ty_array (ty_int w16) N) l (λ v. queries #answer (w ∷ []) rt ends)))))

module _ {M : Type 1} {𝓤 : Ura M} (𝓛 : Logic 𝓤) (C : Calls 𝓤 𝓛.H) (R : RattleType) (N : ℕ)
    -- the table's lifetime and what lies there; what the other parameters are before it and after it
    (κ' : Lft) (q' : Share) (b o : ℕ) (γ : GName) (ys : List R.Denot) (vs₀ vs : List Val)
    -- what of the others the filling gets beside the list, the count and the table, what that owns, what the filling asks, and how it
    -- leaves the table
    (ps : List Val) (Copied : Fml) (Wants : List ℕ → ℕ → Type 0) (after : List ℕ → ℕ → List R.Denot)
    -- in whatever order they stand: the tokens, here and for the covered function, where a new lifetime stands for the table's
    (Toks TF : SProp 𝓤) (TC : ℕ → SProp 𝓤)
    -- what the parameters own; of the covered function's the list's place and length stand for the table
    (Xs OF : Fml) (OC : ℕ → ℕ → GName → Fml)
    -- what is said of each at exit
    (WC WF : Type 0) (zs-of : WC → List ℕ) (others : WC → Fml) (exit-of : WC → List R.Denot → WF) (leftsC : ℕ → ℕ → GName → WC → Fml) (leftsF : WF → Fml)
    -- what the covered function answers, and what of it is the function's own answer
    (D RT : RattleType) (dt rt : Ty) (ReqC : List ℕ → SProp 𝓤) (ΦC : D.Denot → WC → Type 0) (count_of : D.Denot → ℕ) (answers : D.Denot → RT.Denot → Type 0) (Said : RT.Denot → WF → SProp 𝓤) where
  open 𝓛 use {H, A}

  abbrev t : MutBor (List R.Denot)
  t = record { ref_ptr = (b, o); ghost_name = γ; now = ys }

  abbrev TOwn : Fml
  TOwn = (MutSlice (named 1) κ' R).own_val t (slice_val (b, o) (length ys) ∷ [])

  abbrev zeros : List ℕ
  zeros = replicate N 0

  abbrev rows : ℕ → GName → List ℕ → MutBor (List ℕ)
  rows l δ zs = record { ref_ptr = (l, 0); ghost_name = δ; now = zs }

  abbrev shared-rows : ℕ → List ℕ → Bor (List ℕ)
  shared-rows l zs = record { ref_ptr = (l, 0); now = zs }

  abbrev Lent : ℕ → ℕ → GName → Fml
  Lent l ν δ = (MutSlice (named 1) (ν ∷ []) u16).own_val (rows l δ zeros) (slice_val (l, 0) N ∷ [])

  -- that the order does not matter
  pub record Orders : Type 1 where
    pub tokens-out : ent 𝓤 TF (sep 𝓤 (A.lft κ' q') Toks)
    pub tokens-in : ent 𝓤 (sep 𝓤 (A.lft κ' q') Toks) TF
    pub core-tokens-out : (ν : ℕ) → ent 𝓤 (TC ν) (sep 𝓤 (A.lft (ν ∷ []) full_share) Toks)
    pub core-tokens-in : (ν : ℕ) → ent 𝓤 (sep 𝓤 (A.lft (ν ∷ []) full_share) Toks) (TC ν)
    pub copied : ent 𝓤 (sem 𝓛 Xs) (sem 𝓛 (fsep Copied Xs))
    pub owns-out : ent 𝓤 (sem 𝓛 OF) (sem 𝓛 (fsep TOwn Xs))
    pub core-owns-in : (l ν : ℕ) (δ : GName) → ent 𝓤 (sem 𝓛 (fsep (fsep (usize.own_val (length ys) (vint w64 (length ys) ∷ [])) (Lent l ν δ)) Xs)) (sem 𝓛 (OC l ν δ))
    pub core-lefts-out : (l ν : ℕ) (δ : GName) (w : WC) → ent 𝓤 (sem 𝓛 (leftsC l ν δ w)) (sem 𝓛 (fsep (slice_left u16 (ν ∷ []) l 0 δ (length zeros) (zs-of w)) (others w)))
    pub lefts_in : (w : WC) (us : List R.Denot) → ent 𝓤 (sem 𝓛 (fsep (slice_left R κ' b o γ (length ys) us) (others w))) (sem 𝓛 (leftsF (exit-of w us)))

  -- the covered function at a list that is lent at l
  abbrev pub CorePre : ℕ → ℕ → GName → SProp 𝓤
  CorePre l ν δ = sep 𝓤 (sep 𝓤 (TC ν) (sem 𝓛 (OC l ν δ))) (ReqC zeros)

  abbrev pub CorePost : ℕ → ℕ → GName → Val → SProp 𝓤
  CorePost l ν δ v = H.⇛ (ex 𝓤 (λ (d : D.Denot). sep 𝓤 (sep 𝓤 (TC ν) (sem 𝓛 (D.own_val d (v ∷ [])))) (ex 𝓤 (λ (w : WC). sep 𝓤 (sem 𝓛 (leftsC l ν δ w)) (fact 𝓤 (ΦC d w))))))

  -- the function itself
  abbrev pub Pre : SProp 𝓤
  Pre = sep 𝓤 TF (sem 𝓛 OF)

  abbrev Ended : RT.Denot → WF → SProp 𝓤
  Ended r w = sep 𝓤 (sem 𝓛 (leftsF w)) (Said r w)

  abbrev Gave : Val → RT.Denot → SProp 𝓤
  Gave v r = sep 𝓤 (sep 𝓤 TF (sem 𝓛 (RT.own_val r (v ∷ [])))) (ex 𝓤 (Ended r))

  abbrev pub Post : Val → SProp 𝓤
  Post v = H.⇛ (ex 𝓤 (Gave v))

  -- what the code asks, where its list lies at l
  module _ (#core #count #fill #answer : Callee) (l : ℕ) where
    abbrev list_at : Val → SProp 𝓤
    list_at v = H.at full_share (ty_array (ty_int w16) N) l 0 v

    abbrev Answered : Val → SProp 𝓤
    Answered w = C #answer (w ∷ []) (λ w₃. H.⇛ (guard 𝓤 (Typed rt w₃) (Post w₃)))

    abbrev Gathered : Val → Val → SProp 𝓤
    Gathered w w₂ = guard 𝓤 (Typed ty_unit w₂) (ex 𝓤 (λ (v : Val). sep 𝓤 (list_at v) (H.⇛ (Answered w))))

    abbrev Counted : Val → Val → SProp 𝓤
    Counted w w₁ = C #fill (ps ++ (slice_val (l, 0) N ∷ w₁ ∷ slice_val (b, o) (length ys) ∷ [])) (λ w₂. H.⇛ (Gathered w w₂))

    abbrev Listed : Val → SProp 𝓤
    Listed w = C #count (w ∷ []) (λ w₁. H.⇛ (guard 𝓤 (Typed (ty_int w64) w₁) (H.⇛ (Counted w w₁))))

    abbrev Asked : SProp 𝓤
    Asked = C #core (vs₀ ++ (vint w64 (length ys) ∷ slice_val (l, 0) N ∷ vs)) (λ w. H.⇛ (guard 𝓤 (Typed dt w) (H.⇛ (Listed w))))

    abbrev pub Filled : SProp 𝓤
    Filled = wand 𝓤 (list_at (array w16 0 N)) (H.⇛ Asked)

  -- why the table's last list is right: the filling has what it asks for, and the table that it leaves is as the `ensures` says
  abbrev pub Right : Type 1
  Right = (d : D.Denot) (w : WC) → length (zs-of w) ≡ length zeros → ΦC d w → Wants (zs-of w) (count_of d) × ((r : RT.Denot) → answers d r → ent 𝓤 (emp 𝓤) (Said r (exit-of w (after (zs-of w) (count_of d)))))

  module _ (fm : FmC 𝓤 H 𝓛.laws C) (big : Room u16 N) (room : Room R (length ys)) (makesD : Makes 𝓛 D (Is D)) (makesR : Makes 𝓛 RT (Is RT))
      (typedD : (d : D.Denot) (w : Val) → Is D d (w ∷ []) → Typed dt w) (typedR : (r : RT.Denot) (w : Val) → Is RT r (w ∷ []) → Typed rt w) (#core #count #fill #answer : Callee)
      (orders : Orders) (core : (l ν : ℕ) (δ : GName) → ent 𝓤 (CorePre l ν δ) (C #core (vs₀ ++ (vint w64 (length ys) ∷ slice_val (l, 0) N ∷ vs)) (CorePost l ν δ)))
      (count : Triple 𝓤 (C #count) (Unary 𝓛 D usize (λ d n. n ≡ count_of d))) (answer : Triple 𝓤 (C #answer) (Unary 𝓛 D RT answers)) (fill : Fills 𝓛 R κ' q' b o γ ys Toks C #fill ps Copied Wants after) (right : Right) where
    zeros-length : length zeros ≡ N
    zeros-length = length-replicate N 0

    long : Room u16 (length zeros)
    long = subst (Room u16) (sym zeros-length) big

    abbrev AR : RattleType
    AR = Array u16 N

    answered : (l : ℕ) (d : D.Denot) (w : Val) (e : WC) (us : List R.Denot) → Is D d (w ∷ []) → length us ≡ length ys → ((r : RT.Denot) → answers d r → ent 𝓤 (emp 𝓤) (Said r (exit-of e us)))
        → Sq 𝓛 (‵ (flft κ' q') ∷ raw Toks ∷ ‵ (handed-back R κ' b o γ (length ys) us) ∷ ‵ (others e) ∷ []) (prop (Answered #core #count #fill #answer l w))
    answered l d w e us is same so =
        unary-call 𝓛 C fm ! #answer D RT answers (λ v. guard 𝓤 (Typed rt v) (Post v)) makesD answer d w is (λ v r is' φ. at_once {P = guard 𝓤 (Typed rt v) (Post v)} ! $ check {P = Post v} ! (typedR r v is') $
        updating {P = ex 𝓤 (Gave v)} ! $ at_once {P = ex 𝓤 (Gave v)} ! $ show ! (Gave v) r $
        use2 𝓛 (raw TF) orders.tokens-in $ owned ! RT (Is RT) makesR r (v ∷ []) is' $ move ! (1 ∷ 0 ∷ []) $ join ! $ frame ! $ show ! (Ended r) (exit-of e us) $
        fsplit ! $ feq_i ! ℕ (length us) (length ys) same $ move ! (1 ∷ 0 ∷ []) $ fjoin ! $ fjoin ! $ fjoin ! $ use1 𝓛 (‵ (leftsF (exit-of e us))) (orders.lefts_in e us) $ use0 𝓛 (raw (Said r (exit-of e us))) (so r φ) $ move ! (1 ∷ 0 ∷ []) $ done !)

    -- ---- the table is filled
    abbrev After : ℕ → Val → Val → SProp 𝓤
    After l w w₂ = H.⇛ (Gathered #core #count #fill #answer l w w₂)

    abbrev Back : ℕ → Val → Val → SProp 𝓤
    Back l w v = sep 𝓤 (list_at #core #count #fill #answer l v) (H.⇛ (Answered #core #count #fill #answer l w))

    -- what is had between the covered function's answer and the filling
    abbrev Held-all : ℕ → WC → List ℕ → List (Item 𝓤)
    Held-all l x zs = ‵ (flft κ' q') ∷ raw Toks ∷ ‵ TOwn ∷ ‵ (others x) ∷ ‵ ((arr_parts (shares u16) (length zs)).part full_share zs l 0) ∷ ‵ Copied ∷ []

    fill-called : (l : ℕ) (d : D.Denot) (w : Val) (x : WC) (zs : List ℕ) (n : ℕ) → Is D d (w ∷ []) → length zs ≡ length zeros → n < 2 ^ 64 → Wants zs n → ((r : RT.Denot) → answers d r → ent 𝓤 (emp 𝓤) (Said r (exit-of x (after zs n))))
        → Sq 𝓛 (Held-all l x zs) (upd (C #fill (ps ++ (slice_val (l, 0) (length zs) ∷ vint w64 n ∷ slice_val (b, o) (length ys) ∷ [])) (After l w)))
    fill-called l d w x zs n is e fits wanted so =
        lft_new ! tt (λ ν. move ! (5 ∷ []) $
        use2 𝓛 (later ((‵ (ROwn (ν ∷ []) (shared-rows l zs)) ⊛ ‵ (flent (ν ∷ []) ((arr_parts (shares u16) (length zs)).part full_share zs l 0))) ⊛ ‵ (flft (ν ∷ []) full_share)))
        (lends_shr_slice 𝓛 u16 (named 0) (ν ∷ []) full_share zs l 0 (subst (Room u16) (sym e) long) (ν ∷ []) ((uint_Copied 𝓛 w16).shares full_share (ν ∷ [])) ((ν ∷ [], full_share) ∷ []) (Incl-refl (ν ∷ [])) (Incl-refl (ν ∷ []))) $ await ! tt $ split ! $ split ! $
        -- [the list's; the lender's part; ν's token; κ''s; Toks; the table's; the others; what is copied]
        move ! (2 ∷ 3 ∷ 4 ∷ 7 ∷ 0 ∷ 5 ∷ []) $ cut (‵ (flft (ν ∷ []) full_share) ∷ ‵ (flft κ' q') ∷ raw Toks ∷ ‵ Copied ∷ ‵ (ROwn (ν ∷ []) (shared-rows l zs)) ∷ ‵ TOwn ∷ []) (raw (FillPre 𝓛 R κ' q' b o γ ys Toks Copied l ν zs) ∷ []) _ (id⊢ 𝓤 _) $ at_once ! $
        asking 𝓛 C fm ! #fill _ (FillPre 𝓛 R κ' q' b o γ ys Toks Copied l ν zs) (FillPost 𝓛 R κ' q' b o γ ys Toks ν (after zs n)) (After l w) (fill l ν zs n fits wanted) (λ w₂. updating {P = Gathered #core #count #fill #answer l w w₂} ! $
        use1 𝓛 (later (some (λ (us : List R.Denot). ((‵ (flft (ν ∷ []) full_share) ⊛ ‵ (flft κ' q') ⊛ raw Toks ⊛ ‵ (handed-back R κ' b o γ (length ys) us) ⊛ ‵ (unit.own_val tt (w₂ ∷ []))) ⊛ raw (fact 𝓤 (length us ≡ length ys))) ⊛ raw (fact 𝓤 (us ≡ after zs n))))) (id⊢ 𝓤 _) $ await ! tt $ pick ! (λ us.
        split ! $ move ! (1 ∷ []) $ heard ! (us ≡ after zs n) (λ e₂. split ! $ move ! (1 ∷ []) $ heard ! (length us ≡ length ys) (λ l₂. split ! $ move ! (1 ∷ []) $ split ! $ move ! (1 ∷ []) $ split ! $ move ! (1 ∷ []) $ split ! $ move ! (1 ∷ []) $
        -- [the result; the table's last list; Toks; κ''s token; ν's; the lender's part; the others]
        facts ! unit (Is unit) (shows 𝓛 unit) tt (w₂ ∷ []) (λ is₂. move ! (3 ∷ []) $
        -- the lifetime is ended, and the list is the function's own again
        lft_end ! tt $ move ! (0 ∷ 4 ∷ []) $ lent_back ! tt $ rewrite ! 0 (λ (k : ℕ). ‵ ((arr_parts (shares u16) k).part full_share zs l 0)) (e ∙ zeros-length) refl $
        use1 𝓛 (‵ (part_at AR full_share zs l 0)) (Array-whole 𝓛 u16 full_share N zs l 0) $
        use1 𝓛 (some (λ (v : Val). ‵ (fat full_share (ty_array (ty_int w16) N) l 0 v) ⊛ ‵ (AR.own_val zs (v ∷ [])))) (part_out 𝓛 AR refl full_share zs l 0) $ pick ! (λ v. split ! $ move ! (1 ∷ []) $ drop ! $
        at_once {P = Gathered #core #count #fill #answer l w w₂} ! $ check {P = ex 𝓤 (Back l w)} ! ((Nothing-Lawful 𝓛).typed tt _ is₂).0 $ show ! (Back l w) v $ frame ! $
        updating {P = Answered #core #count #fill #answer l w} ! $ at_once {P = Answered #core #count #fill #answer l w} ! $ keep ! (2 ∷ 1 ∷ 0 ∷ 3 ∷ []) $
        answered l d w x us is l₂ (λ r a. subst (λ (xs : List R.Denot). ent 𝓤 (emp 𝓤) (Said r (exit-of x xs))) (sym e₂) (so r a)))))))))

    -- ---- from the covered function's answer on
    listed : (l : ℕ) (d : D.Denot) (w : Val) (x : WC) → Is D d (w ∷ []) → length (zs-of x) ≡ length zeros → ΦC d x → Sq 𝓛 (Held-all l x (zs-of x)) (prop (Listed #core #count #fill #answer l w))
    listed l d w x is e φ = let zs : List ℕ = zs-of x in
        unary-call 𝓛 C fm ! #count D usize (λ d n. n ≡ count_of d) (λ w₁. guard 𝓤 (Typed (ty_int w64) w₁) (H.⇛ (Counted #core #count #fill #answer l w w₁))) makesD count d w is (λ w₁ n is₁ e₁.
        at_once {P = guard 𝓤 (Typed (ty_int w64) w₁) (H.⇛ (Counted #core #count #fill #answer l w w₁))} ! $ check {P = H.⇛ (Counted #core #count #fill #answer l w w₁)} ! ((uint_Lawful 𝓛 w64).typed n _ is₁).0 $
        updating {P = Counted #core #count #fill #answer l w w₁} ! $
        subst (λ (k : ℕ). Sq 𝓛 (Held-all l x zs) (upd (C #fill (ps ++ (slice_val (l, 0) k ∷ w₁ ∷ slice_val (b, o) (length ys) ∷ [])) (After l w)))) (e ∙ zeros-length)
        (subst (λ (v : Val). Sq 𝓛 (Held-all l x zs) (upd (C #fill (ps ++ (slice_val (l, 0) (length zs) ∷ v ∷ slice_val (b, o) (length ys) ∷ [])) (After l w)))) (sym (ap only is₁.0))
        (fill-called l d w x zs n is e is₁.1 (subst (Wants zs) (sym e₁) (right d x e φ).0) (λ r a. subst (λ (k : ℕ). ent 𝓤 (emp 𝓤) (Said r (exit-of x (after zs k)))) (sym e₁) ((right d x e φ).1 r a)))))

    -- ---- the list is lent to the covered function
    abbrev Lends : ℕ → ℕ → GName → Fml
    Lends l ν δ = (MutSlice (named 1) (ν ∷ []) u16).own_val (rows l δ zeros) (slice_val (l, 0) (length zeros) ∷ [])

    core-asked : (l ν : ℕ) (δ : GName) → ent 𝓤 (⋆ 𝓛 (‵ (flft (ν ∷ []) full_share) ∷ raw Toks ∷ ‵ (Lends l ν δ) ∷ ‵ Xs ∷ raw (ReqC zeros) ∷ [])) (CorePre l ν δ)
    core-asked l ν δ =
        qed 𝓛 (‵ (flft (ν ∷ []) full_share) ∷ raw Toks ∷ ‵ (Lends l ν δ) ∷ ‵ Xs ∷ raw (ReqC zeros) ∷ []) ∵ rewrite ! 2 (λ (k : ℕ). ‵ ((MutSlice (named 1) (ν ∷ []) u16).own_val (rows l δ zeros) (slice_val (l, 0) k ∷ []))) zeros-length refl $
        use2 𝓛 (raw (TC ν)) (orders.core-tokens-in ν) $ move ! (1 ∷ 2 ∷ []) $ owned ! usize (Is usize) (uint_Makes 𝓛 w64) (length ys) _ (refl, room.0) $ fjoin ! $ fjoin ! $ use1 𝓛 (‵ (OC l ν δ)) (orders.core-owns-in l ν δ) $
        move ! (1 ∷ 0 ∷ []) $ join ! $ frame ! $ done !

    pub filled : (l : ℕ) → ent 𝓤 (sep 𝓤 Pre (ReqC zeros)) (Filled #core #count #fill #answer l)
    unfolding array
    filled l =
        qed 𝓛 ((raw TF ⊛ ‵ OF) ∷ raw (ReqC zeros) ∷ []) ∵ assume {P = H.⇛ (Asked #core #count #fill #answer l)} ! (‵ (fat full_share (ty_array (ty_int w16) N) l 0 (array w16 0 N))) $ updating {P = Asked #core #count #fill #answer l} ! $
        owned ! AR (Is AR) (Array-Makes 𝓛 u16 (uint_Makes 𝓛 w16) N) zeros _ (repeats-are u16 0 (vint w16 0) zero_is N) $ move ! (1 ∷ 0 ∷ []) $
        use2 𝓛 (‵ (part_at AR full_share zeros l 0)) (part_in 𝓛 AR refl full_share zeros l 0 (array_val (replicate N (vint w16 0)))) $
        use1 𝓛 (‵ ((arr_parts (shares u16) N).part full_share zeros l 0)) (Array-apart 𝓛 u16 full_share tt N zeros l 0) $ fsplit ! $ drop ! $ use1 𝓛 (‵ (cells (mem u16) zeros l 0)) (whole_in 𝓛 u16 zeros l 0) $
        lft_new ! tt (λ ν. move ! (1 ∷ []) $
        use1 𝓛 (later (some (λ (δ : GName). ‵ (Lends l ν δ) ⊛ ‵ (flent (ν ∷ []) (Held u16 (length zeros) l 0 δ))))) (lends_slice 𝓛 u16 (named 1) (ν ∷ []) zeros l 0 long) $ await ! tt $ pick ! (λ δ. split ! $
        -- [what is lent; the lender's part; ν's token; the pre; what is asked]
        move ! (3 ∷ []) $ split ! $ use1 𝓛 (‵ (flft κ' q') ⊛ raw Toks) orders.tokens-out $ split ! $ move ! (2 ∷ []) $ use1 𝓛 (‵ (fsep TOwn Xs)) orders.owns-out $ fsplit ! $ move ! (1 ∷ []) $ use1 𝓛 (‵ (fsep Copied Xs)) orders.copied $ fsplit ! $
        -- [what is copied; the others'; the table's; κ''s token; Toks; what is lent; the lender's part; ν's token; what is asked]
        move ! (7 ∷ 4 ∷ 5 ∷ 1 ∷ 8 ∷ []) $ cut (‵ (flft (ν ∷ []) full_share) ∷ raw Toks ∷ ‵ (Lends l ν δ) ∷ ‵ Xs ∷ raw (ReqC zeros) ∷ []) (raw (CorePre l ν δ) ∷ []) _ (core-asked l ν δ) $
        at_once {P = Asked #core #count #fill #answer l} ! $ asking 𝓛 C fm ! #core _ (CorePre l ν δ) (CorePost l ν δ) (λ w. H.⇛ (guard 𝓤 (Typed dt w) (H.⇛ (Listed #core #count #fill #answer l w)))) (core l ν δ) (λ w. updating {P = guard 𝓤 (Typed dt w) (H.⇛ (Listed #core #count #fill #answer l w))} ! $
        use1 𝓛 (later (some (λ (d : D.Denot). (raw (TC ν) ⊛ ‵ (D.own_val d (w ∷ []))) ⊛ some (λ (x : WC). ‵ (leftsC l ν δ x) ⊛ raw (fact 𝓤 (ΦC d x)))))) (id⊢ 𝓤 _) $ await ! tt $ pick ! (λ d.
        split ! $ move ! (1 ∷ []) $ pick ! (λ x. let zs : List ℕ = zs-of x in split ! $ move ! (1 ∷ []) $ heard ! (ΦC d x) (λ φ. use1 𝓛 (‵ (fsep (slice_left u16 (ν ∷ []) l 0 δ (length zeros) zs) (others x))) (orders.core-lefts-out l ν δ x) $ fsplit ! $ fsplit ! $ move ! (1 ∷ []) $ drop ! $ fsplit ! $ move ! (1 ∷ []) $ feq_l ! (λ e.
        -- [the list's last numbers; the others; the tokens and the answer; the table's; κ''s token; the lender's part]
        move ! (2 ∷ []) $ split ! $ move ! (1 ∷ []) $ facts ! D (Is D) (shows 𝓛 D) d (w ∷ []) (λ is. use1 𝓛 (‵ (flft (ν ∷ []) full_share) ⊛ raw Toks) (orders.core-tokens-out ν) $ split ! $
        -- [ν's token; Toks; the list's last numbers; the others; the table's; κ''s token; the lender's part]
        lft_end ! tt $ move ! (0 ∷ 7 ∷ 2 ∷ []) $ use3 𝓛 (later (‵ ((Arr (mem u16) (length zeros)).own_at zs l 0))) (slice_back 𝓛 u16 (ν ∷ []) δ zs (length zeros) l 0) $ await ! tt $ fsplit ! $ drop ! $ use1 𝓛 (‵ (row u16 full_share zs l 0)) (whole_out 𝓛 u16 zs l 0) $
        feq_i ! ℕ (length zs) (length zs) refl $ fjoin ! $
        -- [the list; Toks; the others; the table's; κ''s token]
        at_once {P = guard 𝓤 (Typed dt w) (H.⇛ (Listed #core #count #fill #answer l w))} ! $ check {P = H.⇛ (Listed #core #count #fill #answer l w)} ! (typedD d w is) $ updating {P = Listed #core #count #fill #answer l w} ! $ at_once {P = Listed #core #count #fill #answer l w} ! $
        keep ! (5 ∷ 1 ∷ 4 ∷ 2 ∷ 0 ∷ 3 ∷ []) $ listed l d w x is e φ))))))))

    pub filled-as : (l : ℕ) → ent 𝓤 (sep 𝓤 Pre (ReqC zeros)) (meaning 𝓤 H C Post (fill-script #core #count #fill #answer N l dt rt vs₀ vs ps b o (length ys)))
    unfolding meaning
    filled-as l = filled l
