-- A whole function by what its code requires: its locals are allocated, the arguments stored, and the code runs.
--     goes-straight    a function of straight-line code, from its script at every choice of the locals' places
--     goes-either      a function that tests a slice's length and goes on by one of two such codes
-- Assumes `Logic`, and that the table of calls is monotone under a frame.
use mathlib.Core.Path.{◌≡◌, refl, sym, subst}
use Prim.Native.Nat.{ℕ}
use mathlib.Core.Bool.{not}
use mathlib.Core.List.{List, [], ◌∷◌, map}
use lib.Dec.{T, leb}
use seplogic.Ra.Ura.{Ura}
use base.Fraction.{full_share}
use mir.Syntax.{Ty, Lifetime, Mutability, Body, Local, Fn, place, field, copy, int_big, rv_opd, op2, le, unsigned, assign, cond, skip, seq, w64, ty_ref}
use mir.Val.{Val, vint, vbool, WT, Fits, has_ty}
use base.Logic.{SProp, ent, sep, wand, via, emp, emp∗, wand_i, all_i}
use base.Fml.{fsep, fat, froom, fdies}
use prog.Wp.{Heap, Env, Calls, Loops, WpFn, Wp, ty_of, alloc, pass, params, at_return, after_seq}
use types.Logic.{Logic, sem}
use sound.WpLaws.{FmC}
use types.Kit.{‵, raw, Sq, runs, at_ret, any_q, ◌$◌, ◌∵◌, !, qed, by, move, use1, fsplit, fjoin, frame, done, assume, check}
use types.Run.{from, stop, of_opd, assigns, bin, first, branches, skips, exec}
use denote.Slice.{slice_ty}
use Rattle.filling.proofs.Cells.{Cell, empty, has, slice, value, Full, Ready, Typed, cell, put, holds, cells, deaths, full-in, sets, counts}
use Rattle.filling.proofs.Straight.{Line, code, Fine, script, meaning, ty, straight, typed-in, known}
use Rattle.filling.proofs.Local.{big-lit}

-- `if p.len() <= n { .. }` and what follows: local d is the count of the slice in local i, local c the test
abbrev pub choice : ℕ → ℕ → ℕ → ℕ → List Line → List Line → Body
choice d c i n ls₁ ls₂ = seq (assign (place d []) (rv_opd (copy (place i (field 1 ∷ []))))) (seq (assign (place c []) (op2 (le unsigned) (copy (place d [])) (int_big w64 n))) (seq (cond (copy (place c [])) (code ls₁) skip) (code ls₂)))

module _ {M : Type 1} (𝓤 : Ura M) (H : Heap 𝓤) where
  -- whatever places the locals get
  abbrev pub Everywhere {ℓ} : List Local → (Env 𝓤 H → Type ℓ) → Type ℓ
  Everywhere [] K = K []
  Everywhere (l ∷ ls) K = (b : ℕ) → Everywhere ls (λ E. K ((ty_of 𝓤 H l, b) ∷ E))

  abbrev empties : Env 𝓤 H → List Cell
  empties [] = []
  empties (e ∷ E) = empty ∷ empties E

  -- the parameters, then what is empty
  abbrev loaded : Env 𝓤 H → List Cell → List Cell
  loaded E [] = empties E
  loaded [] (c ∷ cs) = []
  loaded (e ∷ E) (c ∷ cs) = c ∷ loaded E cs

  abbrev pub begun : Env 𝓤 H → List Cell → List Cell
  begun [] cs = []
  begun (e ∷ E) cs = empty ∷ loaded E cs

  abbrev AllTyped : Env 𝓤 H → List Cell → Type 0
  AllTyped E [] = Unit {0}
  AllTyped [] (c ∷ cs) = ⊥
  AllTyped (e ∷ E) (c ∷ cs) = (Full c × Typed e.0 (value c)) × AllTyped E cs

  abbrev pub Passed : Env 𝓤 H → List Cell → Type 0
  Passed [] cs = ⊥
  Passed (e ∷ E) cs = AllTyped E cs

pub mapped {α β} : {M : Type 1} (𝓤 : Ura M) (H : Heap 𝓤) (K : Env 𝓤 H → Type α) (K' : Env 𝓤 H → Type β) (ls : List Local) → ((E : Env 𝓤 H) → K E → K' E) → Everywhere 𝓤 H ls K → Everywhere 𝓤 H ls K'
mapped 𝓤 H K K' [] f k = f [] k
mapped 𝓤 H K K' (l ∷ ls) f k = λ b. mapped 𝓤 H (λ E. K ((ty_of 𝓤 H l, b) ∷ E)) (λ E. K' ((ty_of 𝓤 H l, b) ∷ E)) ls (λ E. f ((ty_of 𝓤 H l, b) ∷ E)) (k b)

module _ {M : Type 1} {𝓤 : Ura M} (𝓛 : Logic 𝓤) where
  open 𝓛 use {H}

  abbrev all_of : Env 𝓤 H → List Cell → SProp 𝓤 → SProp 𝓤
  all_of E cs P = sep 𝓤 (sem 𝓛 (cells 𝓤 H E cs)) (sep 𝓤 (sem 𝓛 (deaths 𝓤 H E)) P)

  abbrev New : Local → ℕ → SProp 𝓤
  New l b = sep 𝓤 (H.room (ty_of 𝓤 H l) b 0) (H.dies (ty_of 𝓤 H l) b)

  further : (ls : List Local) (τ : Ty) (b : ℕ) (P : SProp 𝓤) (K : Env 𝓤 H → SProp 𝓤) → Everywhere 𝓤 H ls (λ E. ent 𝓤 (all_of ((τ, b) ∷ E) (empties 𝓤 H ((τ, b) ∷ E)) P) (K ((τ, b) ∷ E)))
      → Everywhere 𝓤 H ls (λ E. ent 𝓤 (all_of E (empties 𝓤 H E) (sep 𝓤 P (sep 𝓤 (H.room τ b 0) (H.dies τ b)))) (K ((τ, b) ∷ E)))
  further ls τ b P K = mapped 𝓤 H _ _ ls (λ E. via 𝓤 _ (qed 𝓛 (‵ (cells 𝓤 H E (empties 𝓤 H E)) ∷ ‵ (deaths 𝓤 H E) ∷ raw P ∷ ‵ (froom τ b 0) ∷ ‵ (fdies τ b) ∷ []) ∵
      move ! (4 ∷ 1 ∷ []) $ fjoin ! $ move ! (3 ∷ 1 ∷ []) $ fjoin ! $ done !))

  allocated : (ls : List Local) (P : SProp 𝓤) (K : Env 𝓤 H → SProp 𝓤) → Everywhere 𝓤 H ls (λ E. ent 𝓤 (all_of E (empties 𝓤 H E) P) (K E)) → ent 𝓤 P (alloc 𝓤 H ls K)
  allocated [] P K k = via 𝓤 (sep 𝓤 (emp 𝓤) (sep 𝓤 (emp 𝓤) P)) (via 𝓤 _ (emp∗ 𝓤 P) (emp∗ 𝓤 _)) k
  allocated (l ∷ ls) P K k =
      all_i 𝓤 (λ (b : ℕ). wand 𝓤 (New l b) (alloc 𝓤 H ls (λ E. K ((ty_of 𝓤 H l, b) ∷ E)))) (λ b. wand_i 𝓤 P (New l b) (alloc 𝓤 H ls (λ E. K ((ty_of 𝓤 H l, b) ∷ E)))
      (allocated ls (sep 𝓤 P (New l b)) (λ E. K ((ty_of 𝓤 H l, b) ∷ E)) (further ls (ty_of 𝓤 H l) b P K (k b))))

  passed : (E : Env 𝓤 H) (cs : List Cell) (X K : SProp 𝓤) → AllTyped 𝓤 H E cs → ent 𝓤 (sep 𝓤 (sem 𝓛 (cells 𝓤 H E (loaded 𝓤 H E cs))) X) K → ent 𝓤 (sep 𝓤 (sem 𝓛 (cells 𝓤 H E (empties 𝓤 H E))) X) (pass 𝓤 H E (map value cs) K)
  passed E [] X K t k = k
  passed [] (c ∷ cs) X K t k = absurd t
  passed (e ∷ E) (c ∷ cs) X K t k =
      qed 𝓛 (‵ (fsep (froom e.0 e.1 0) (cells 𝓤 H E (empties 𝓤 H E))) ∷ raw X ∷ []) ∵ fsplit ! $ check ! t.0.1 $ frame ! $ assume ! (‵ (fat full_share e.0 e.1 0 (value c))) $
      by ! (via 𝓤 _ (qed 𝓛 (‵ (fat full_share e.0 e.1 0 (value c)) ∷ ‵ (cells 𝓤 H E (empties 𝓤 H E)) ∷ raw X ∷ []) ∵ move ! (1 ∷ 0 ∷ []) $ done !)
      (passed E cs (sep 𝓤 (H.at full_share e.0 e.1 0 (value c)) X) K t.1 (via 𝓤 _ (qed 𝓛 (‵ (cells 𝓤 H E (loaded 𝓤 H E cs)) ∷ ‵ (fat full_share e.0 e.1 0 (value c)) ∷ raw X ∷ []) ∵ move ! (1 ∷ []) $ use1 𝓛 (‵ (holds e c)) (full-in 𝓛 e c t.0.0) $ move ! (0 ∷ 1 ∷ []) $ fjoin ! $ done !) k)))

  module _ (C : Calls 𝓤 H) (Λ : Loops 𝓤 H) (fm : FmC 𝓤 H 𝓛.laws C) (Q : Val → SProp 𝓤) where
    -- the code runs from the parameters, what its script asks beside them
    abbrev Runs : Env 𝓤 H → Body → List Cell → SProp 𝓤 → Type 1
    Runs E s cs P = Sq 𝓛 (‵ (cells 𝓤 H E (begun 𝓤 H E cs)) ∷ ‵ (deaths 𝓤 H E) ∷ raw P ∷ []) (runs C Λ E s (at_ret E Q))

    entered_at : (E : Env 𝓤 H) (s : Body) (cs : List Cell) (P : SProp 𝓤) → Passed 𝓤 H E cs → Runs E s cs P → ent 𝓤 (all_of E (empties 𝓤 H E) P) (params 𝓤 H E (map value cs) (Wp 𝓤 H C Λ E s (at_return 𝓤 H E Q)))
    entered_at [] s cs P t k = absurd t
    entered_at (e ∷ E) s cs P t k =
        via 𝓤 _ (qed 𝓛 (‵ (fsep (froom e.0 e.1 0) (cells 𝓤 H E (empties 𝓤 H E))) ∷ ‵ (deaths 𝓤 H (e ∷ E)) ∷ raw P ∷ []) ∵ fsplit ! $ move ! (1 ∷ 0 ∷ []) $ done !)
        (passed E cs (sep 𝓤 (H.room e.0 e.1 0) (sep 𝓤 (sem 𝓛 (deaths 𝓤 H (e ∷ E))) P)) _ t
        (via 𝓤 _ (qed 𝓛 (‵ (cells 𝓤 H E (loaded 𝓤 H E cs)) ∷ ‵ (froom e.0 e.1 0) ∷ ‵ (deaths 𝓤 H (e ∷ E)) ∷ raw P ∷ []) ∵ move ! (1 ∷ 0 ∷ []) $ fjoin ! $ done !) k.prf))

    goes : (f : Fn) (s : Body) (cs : List Cell) (P : SProp 𝓤) → f.body ≡ s → Everywhere 𝓤 H f.locals (λ E. Passed 𝓤 H E cs × Runs E s cs P) → ent 𝓤 P (WpFn 𝓤 H C Λ f (map value cs) Q)
    unfolding WpFn
    goes f s cs P e k = allocated f.locals P (λ E. params 𝓤 H E (map value cs) (Wp 𝓤 H C Λ E f.body (at_return 𝓤 H E Q)))
        (mapped 𝓤 H _ _ f.locals (λ E h. subst (λ (s : Body). ent 𝓤 (all_of E (empties 𝓤 H E) P) (params 𝓤 H E (map value cs) (Wp 𝓤 H C Λ E s (at_return 𝓤 H E Q)))) (sym e) (entered_at E s cs P h.0 h.1)) k)

    pub goes-straight : (f : Fn) (ls : List Line) (cs : List Cell) (P : SProp 𝓤) → f.body ≡ code ls → Everywhere 𝓤 H f.locals (λ E. Passed 𝓤 H E cs × Fine 𝓤 H E ls (begun 𝓤 H E cs) × ent 𝓤 P (meaning 𝓤 H C Q (script 𝓤 H E ls (begun 𝓤 H E cs)))) → ent 𝓤 P (WpFn 𝓤 H C Λ f (map value cs) Q)
    goes-straight f ls cs P e k = goes f (code ls) cs P e (mapped 𝓤 H _ _ f.locals (λ E h. (
      h.0,
      move ! (2 ∷ []) $ use1 𝓛 (raw (meaning 𝓤 H C Q (script 𝓤 H E ls (begun 𝓤 H E cs)))) h.2 $ move ! (1 ∷ 2 ∷ 0 ∷ []) $
          straight 𝓛 C Λ fm E Q (at_ret E Q) refl ls (begun 𝓤 H E cs) h.1,
    )) k)

    -- what a choice asks: the slice in local i is k long, and each code may suppose what was tested
    module _ (d c i : ℕ) (ℓ : Lifetime) (μ : Mutability) (τ : Ty) (n : ℕ) (ls₁ ls₂ : List Line) (b o k : ℕ) where
      abbrev tested : List Cell → List Cell
      tested cs = put (put cs d (has (vint w64 k))) c (has (vbool (leb k n)))

      abbrev pub Chosen : Env 𝓤 H → List Cell → SProp 𝓤 → Type 1
      Chosen E cs P = (cell cs i ≡ slice b o k) × (ty 𝓤 H E i ≡ slice_ty (ty_ref ℓ μ τ)) × Ready (cell cs d) × T (has_ty (ty 𝓤 H E d) (vint w64 k)) × (cell (put cs d (has (vint w64 k))) d ≡ has (vint w64 k)) × Ready (cell (put cs d (has (vint w64 k))) c) × T (has_ty (ty 𝓤 H E c) (vbool (leb k n)))
          × (cell (tested cs) c ≡ has (vbool (leb k n))) × Fine 𝓤 H E ls₁ (tested cs) × Fine 𝓤 H E ls₂ (tested cs)
          × (T (leb k n) → ent 𝓤 P (meaning 𝓤 H C Q (script 𝓤 H E ls₁ (tested cs)))) × (T (not (leb k n)) → ent 𝓤 P (meaning 𝓤 H C Q (script 𝓤 H E ls₂ (tested cs))))

      chooses : Fits w64 n → (E : Env 𝓤 H) (cs : List Cell) (P : SProp 𝓤) → Chosen E cs P → Sq 𝓛 (‵ (cells 𝓤 H E cs) ∷ ‵ (deaths 𝓤 H E) ∷ raw P ∷ []) (runs C Λ E (choice d c i n ls₁ ls₂) (at_ret E Q))
      chooses fits E cs P h =
          let q₁ = any_q (after_seq 𝓤 H (Wp 𝓤 H C Λ E (code ls₂) (at_return 𝓤 H E Q)) (at_return 𝓤 H E Q)) in let cs' : List Cell = put cs d (has (vint w64 k)) in
          typed-in 𝓛 C Λ fm E Q (at_ret E Q) refl ! cs i (subst (λ (x : Cell). Full x) (sym h.0) tt) (λ t.
          assigns ! (of_opd ! (counts 𝓛 _ _ E cs i b o k ℓ μ τ h.0 h.1 !)) (from ! (stop !)) (sets 𝓛 _ _ E cs ! d (has (vint w64 k)) h.2 tt (h.3, (subst (λ (x : Cell). WT (value x)) h.0 t.1).1.0)) $
          assigns ! (bin ! (known 𝓛 C Λ fm E Q (at_ret E Q) refl ! cs' d (vint w64 k) h.4) (big-lit ! fits) tt) (from ! (stop !)) (sets 𝓛 _ _ E cs' ! c (has (vbool (leb k n))) h.5 tt (h.6, tt)) $
          first ! $ branches ! (known 𝓛 C Λ fm E Q (at_ret E Q) refl ! (tested cs) c (vbool (leb k n)) h.7)
          (λ y. move ! (2 ∷ []) $ use1 𝓛 (raw (meaning 𝓤 H C Q (script 𝓤 H E ls₁ (tested cs)))) (h.10 y) $ move ! (1 ∷ 2 ∷ 0 ∷ []) $ straight 𝓛 C Λ fm E Q q₁ refl ls₁ (tested cs) h.8)
          (λ y. skips ! $ exec ! C Λ E (code ls₂) (at_ret E Q) $ move ! (2 ∷ []) $ use1 𝓛 (raw (meaning 𝓤 H C Q (script 𝓤 H E ls₂ (tested cs)))) (h.11 y) $ move ! (1 ∷ 2 ∷ 0 ∷ []) $ straight 𝓛 C Λ fm E Q (at_ret E Q) refl ls₂ (tested cs) h.9))

      pub goes-either : Fits w64 n → (f : Fn) (cs : List Cell) (P : SProp 𝓤) → f.body ≡ choice d c i n ls₁ ls₂ → Everywhere 𝓤 H f.locals (λ E. Passed 𝓤 H E cs × Chosen E (begun 𝓤 H E cs) P) → ent 𝓤 P (WpFn 𝓤 H C Λ f (map value cs) Q)
      goes-either fits f cs P e k = goes f (choice d c i n ls₁ ls₂) cs P e (mapped 𝓤 H _ _ f.locals (λ E h. (h.0, chooses fits E (begun 𝓤 H E cs) P h.1)) k)
