-- Straight-line code over whole locals, executed by a law and not by a walk: code is a list of lines, and `straight` says what they need in
-- the function's proof, which is nothing about memory except for the calls themselves.
--     Line, code       a line of code, or a step of ghost state that has no code; the MIR of a list of them, which ends in a return
--     Fine             the facts on locals and types, each of which computes
--     Script, meaning  what is left to show, as data and as an assertion: the calls, one after the other
--     straight         from that, the code runs
-- Assumes `Logic`, and that the table of calls is monotone under a frame.
use mathlib.Core.Path.{◌≡◌, refl, sym, subst}
use Prim.Native.Nat.{ℕ, ◌^◌}
use mathlib.Core.List.{List, [], ◌∷◌}
use lib.Dec.{T, ltb}
use lib.ListN.{replicate}
use seplogic.Ra.Ura.{Ura}
use base.Fraction.{full_share}
use mir.Syntax.{Callee, Width, Ty, Lifetime, Mutability, Opd as Operand, Body, place, field, deref, copy, int, int_big, rv_opd, addr_of, aggregate, repeat, assign, call, seq, return, w64, ty_ref}
use mir.Val.{Val, vint, vptr, vstruct, of_list, WT, Fits, has_ty, bits}
use base.Logic.{SProp, ent, sep, wand, ex, guard, never, id⊢, via, apply∗, emp}
use base.Fml.{ftrue, fsep, fat, froom, fdies}
use prog.Wp.{Heap, Env, Calls, Loops, returns as returned, release, at_return}
use types.Logic.{Logic, sem}
use contract.Monad.{top}
use sound.WpLaws.{FmC}
use types.Kit.{Item, ‵, raw, ◌⊛◌, some, given, later, Seq, Sq, Goal, Post, post, pick, runs, ◌$◌, ◌∵◌, !, qed, by, move, use1, use2, split, join, learn, drop, fsplit, frame, await, done, check}
use types.Part.{agg, rep}
use types.Run.{Reads, Opd, Opds, look, hop, stop, from, lit, addr, of_opd, and_then, no_more, assigns, land, calls, returns_within}
use denote.Slice.{slice_ty, slice_val}
use Rattle.filling.proofs.Local.{big-lit}
use Rattle.filling.proofs.Cells.{Cell, empty, lent, has, slice, ref, value, Full, Ready, Typed, cell, put, holds, cells, deaths, local_at, AllBack, full-out, room_out, parted, homed, apart, closed, reads_as, loads, sets, counts, points}

-- ---- the lines
pub data Line : Type 0 where
  fills : ℕ → Width → ℕ → ℕ → Line  -- local d is an array of n times x
  takes : ℕ → Line  -- local i's memory leaves the function's hands
  gives : ℕ → Line  -- and is back
  moves : ℕ → ℕ → Line  -- local d is local i
  counts_of : ℕ → ℕ → Lifetime → Mutability → Ty → Line  -- local d is the count of the slice in local i
  lends-on : ℕ → ℕ → ℕ → Lifetime → Mutability → Ty → Ty → Line  -- local d is the pointer and local e the whole of the slice in local i
  refers : ℕ → ℕ → Ty → Line  -- local d is the reference in local i, lent on
  slices : ℕ → ℕ → ℕ → ℕ → Line  -- local d is the address of local i, local e a slice of n there, which is above 1023
  asks : Callee → List ℕ → ℕ → Line  -- local d is what a function answers to some locals

abbrev pub copies : List ℕ → List Operand
copies [] = []
copies (i ∷ is) = copy (place i []) ∷ copies is

abbrev pub code : List Line → Body
code [] = return
code (fills d w x n ∷ ls) = seq (assign (place d []) (repeat (int w x) n)) (code ls)
code (takes i ∷ ls) = code ls
code (gives i ∷ ls) = code ls
code (moves d i ∷ ls) = seq (assign (place d []) (rv_opd (copy (place i [])))) (code ls)
code (counts_of d i ℓ μ τ ∷ ls) = seq (assign (place d []) (rv_opd (copy (place i (field 1 ∷ []))))) (code ls)
code (lends-on d e i ℓ μ τ σ ∷ ls) = seq (assign (place d []) (addr_of (place i (field 0 ∷ deref σ ∷ [])))) (seq (assign (place e []) (aggregate (copy (place d []) ∷ copy (place i (field 1 ∷ [])) ∷ []))) (code ls))
code (refers d i σ ∷ ls) = seq (assign (place d []) (addr_of (place i (deref σ ∷ [])))) (code ls)
code (slices d e i n ∷ ls) = seq (assign (place d []) (addr_of (place i []))) (seq (assign (place e []) (aggregate (copy (place d []) ∷ int_big w64 n ∷ []))) (code ls))
code (asks f is d ∷ ls) = seq (call f (copies is) (place d [])) (code ls)

abbrev pub values : List Cell → List ℕ → List Val
values cs [] = []
values cs (i ∷ is) = value (cell cs i) ∷ values cs is

abbrev pub AllFull : List Cell → List ℕ → Type 0
AllFull cs [] = Unit {0}
AllFull cs (i ∷ is) = Full (cell cs i) × AllFull cs is

-- what the lines ask, as data: of memory that leaves and comes back, and of the calls, each with what follows its result
pub data Script : Type 0 where
  ends : Val → Script
  lends : Ty → ℕ → Val → Script → Script
  backs : Ty → ℕ → (Val → Script) → Script
  queries : Callee → List Val → Ty → (Val → Script) → Script
  stuck : Script

-- a slice in a local
abbrev pub sliced : Cell → (ℕ → ℕ → ℕ → Script) → Script
sliced empty K = stuck
sliced lent K = stuck
sliced (has v) K = stuck
sliced (slice b o n) K = K b o n
sliced (ref b o) K = stuck

abbrev pub referred : Cell → (ℕ → ℕ → Script) → Script
referred empty K = stuck
referred lent K = stuck
referred (has v) K = stuck
referred (slice b o n) K = stuck
referred (ref b o) K = K b o

-- shut, so that no comparison lays out a long list
unfoldable pub array : Width → ℕ → ℕ → Val
array w x n = vstruct (of_list (replicate n (vint w x)))

-- ---- what the lines ask
abbrev pub slicedly : Cell → (ℕ → ℕ → ℕ → Type 0) → Type 0
slicedly empty K = ⊥
slicedly lent K = ⊥
slicedly (has v) K = ⊥
slicedly (slice b o n) K = K b o n
slicedly (ref b o) K = ⊥

abbrev pub refers-so : Cell → (ℕ → ℕ → Type 0) → Type 0
refers-so empty K = ⊥
refers-so lent K = ⊥
refers-so (has v) K = ⊥
refers-so (slice b o n) K = ⊥
refers-so (ref b o) K = K b o

module _ {M : Type 1} (𝓤 : Ura M) (H : Heap 𝓤) (E : Env 𝓤 H) where
  abbrev pub ty : ℕ → Ty
  ty i = (local_at 𝓤 H E i).0

  -- the facts on locals and types, each of which computes
  abbrev pub Fine : List Line → List Cell → Type 0
  Fine [] cs = Full (cell cs 0) × AllBack 𝓤 H E cs
  Fine (fills d w x n ∷ ls) cs = T (ltb x (2 ^ bits w)) × Ready (cell cs d) × Typed (ty d) (array w x n) × Fine ls (put cs d (has (array w x n)))
  Fine (takes i ∷ ls) cs = Full (cell cs i) × Fine ls (put cs i lent)
  Fine (gives i ∷ ls) cs = (v : Val) → Fine ls (put cs i (has v))
  Fine (moves d i ∷ ls) cs = Full (cell cs i) × Ready (cell cs d) × (ty d ≡ ty i) × Fine ls (put cs d (has (value (cell cs i))))
  Fine (counts_of d i ℓ μ τ ∷ ls) cs = slicedly (cell cs i) (λ b o n. (cell cs i ≡ slice b o n) × (ty i ≡ slice_ty (ty_ref ℓ μ τ)) × Ready (cell cs d) × T (has_ty (ty d) (vint w64 n)) × Fine ls (put cs d (has (vint w64 n))))
  Fine (lends-on d e i ℓ μ τ σ ∷ ls) cs = slicedly (cell cs i) (λ b o n.
      let cs' : List Cell = put cs d (has (vptr b o)) in
      (cell cs i ≡ slice b o n) × (ty i ≡ slice_ty (ty_ref ℓ μ τ)) × Ready (cell cs d) × T (has_ty (ty d) (vptr b o)) × (cell cs' d ≡ has (vptr b o)) × (cell cs' i ≡ slice b o n) × Ready (cell cs' e) × T (has_ty (ty e) (slice_val (b, o) n)) × Fine ls (put cs' e (slice b o n)))
  Fine (refers d i σ ∷ ls) cs = refers-so (cell cs i) (λ b o. (cell cs i ≡ ref b o) × Ready (cell cs d) × T (has_ty (ty d) (vptr b o)) × Fine ls (put cs d (ref b o)))
  Fine (slices d e i n ∷ ls) cs =
      let v : Val = vptr (local_at 𝓤 H E i).1 0 in let cs' : List Cell = put cs d (has v) in let c : Cell = slice (local_at 𝓤 H E i).1 0 n in
      Fits w64 n × Ready (cell cs d) × T (has_ty (ty d) v) × (cell cs' d ≡ has v) × Ready (cell cs' e) × T (has_ty (ty e) (value c)) × Fine ls (put cs' e c)
  Fine (asks f is d ∷ ls) cs = AllFull cs is × Ready (cell cs d) × ((r : Val) → Fine ls (put cs d (has r)))

  abbrev pub script : List Line → List Cell → Script
  script [] cs = ends (value (cell cs 0))
  script (fills d w x n ∷ ls) cs = script ls (put cs d (has (array w x n)))
  script (takes i ∷ ls) cs = lends (ty i) (local_at 𝓤 H E i).1 (value (cell cs i)) (script ls (put cs i lent))
  script (gives i ∷ ls) cs = backs (ty i) (local_at 𝓤 H E i).1 (λ v. script ls (put cs i (has v)))
  script (moves d i ∷ ls) cs = script ls (put cs d (has (value (cell cs i))))
  script (counts_of d i ℓ μ τ ∷ ls) cs = sliced (cell cs i) (λ b o n. script ls (put cs d (has (vint w64 n))))
  script (lends-on d e i ℓ μ τ σ ∷ ls) cs = sliced (cell cs i) (λ b o n. script ls (put (put cs d (has (vptr b o))) e (slice b o n)))
  script (refers d i σ ∷ ls) cs = referred (cell cs i) (λ b o. script ls (put cs d (ref b o)))
  script (slices d e i n ∷ ls) cs = script ls (put (put cs d (has (vptr (local_at 𝓤 H E i).1 0))) e (slice (local_at 𝓤 H E i).1 0 n))
  script (asks f is d ∷ ls) cs = queries f (values cs is) (ty d) (λ r. script ls (put cs d (has r)))

unfoldable pub meaning : {M : Type 1} (𝓤 : Ura M) (H : Heap 𝓤) → Calls 𝓤 H → (Val → SProp 𝓤) → Script → SProp 𝓤
meaning 𝓤 H C Q (ends v) = Q v
meaning 𝓤 H C Q (lends τ b v s) = wand 𝓤 (H.at full_share τ b 0 v) (meaning 𝓤 H C Q s)
meaning 𝓤 H C Q (backs τ b s) = ex 𝓤 (λ (v : Val). sep 𝓤 (H.at full_share τ b 0 v) (meaning 𝓤 H C Q (s v)))
meaning 𝓤 H C Q (queries f vs τ s) = H.⇛ (C f vs (λ r. H.⇛ (guard 𝓤 (Typed τ r) (meaning 𝓤 H C Q (s r)))))
meaning 𝓤 H C Q stuck = never 𝓤

module _ {M : Type 1} {𝓤 : Ura M} (𝓛 : Logic 𝓤) (C : Calls 𝓤 𝓛.H) (Λ : Loops 𝓤 𝓛.H) (fm : FmC 𝓤 𝓛.H 𝓛.laws C) (E : Env 𝓤 𝓛.H) (Q : Val → SProp 𝓤) (q : Post 𝓤 𝓛.H) (ret : post 𝓤 𝓛.H q returned ≡ at_return 𝓤 𝓛.H E Q returned) where
  open 𝓛 use {H}

  abbrev Sim : List Line → List Cell → SProp 𝓤
  Sim ls cs = meaning 𝓤 H C Q (script 𝓤 H E ls cs)

  abbrev At' : ℕ → Val → SProp 𝓤
  At' i v = H.at full_share (ty 𝓤 H E i) (local_at 𝓤 H E i).1 0 v

  abbrev Rest : List Line → List Cell → List (Item 𝓤)
  Rest ls cs = ‵ (deaths 𝓤 H E) ∷ raw (Sim ls cs) ∷ []

  freed : (F : Env 𝓤 H) (cs : List Cell) (P : SProp 𝓤) → AllBack 𝓤 H F cs → ent 𝓤 (sep 𝓤 (sem 𝓛 (cells 𝓤 H F cs)) (sep 𝓤 (sem 𝓛 (deaths 𝓤 H F)) P)) (release 𝓤 H F P)
  freed [] cs P all = qed 𝓛 (raw (sem 𝓛 (cells 𝓤 H [] cs)) ∷ ‵ ftrue ∷ raw P ∷ []) ∵ drop ! $ drop ! $ done !
  freed (e ∷ F) [] P all = absurd all
  freed (e ∷ F) (c ∷ cs) P all =
      qed 𝓛 (‵ (fsep (holds e c) (cells 𝓤 H F cs)) ∷ ‵ (fsep (fdies e.0 e.1) (deaths 𝓤 H F)) ∷ raw P ∷ []) ∵ fsplit ! $ use1 𝓛 (‵ (froom e.0 e.1 0)) (room_out 𝓛 e c all.0) $ move ! (2 ∷ []) $ fsplit ! $
      move ! (2 ∷ 0 ∷ []) $ join ! $ frame ! $ by ! (via 𝓤 _ (qed 𝓛 (‵ (deaths 𝓤 H F) ∷ ‵ (cells 𝓤 H F cs) ∷ raw P ∷ []) ∵ move ! (1 ∷ 0 ∷ []) $ done !) (freed F cs P all.1))

  operands : (K : Type 0) (g : K) (Γ : List (Item 𝓤)) (cs : List Cell) (is : List ℕ) → AllFull cs is → Opds K 𝓛 (‵ (cells 𝓤 H E cs) ∷ Γ) E (copies is) (values cs is)
  operands K g Γ cs [] f = no_more g
  operands K g Γ cs (i ∷ is) f = and_then g (loads 𝓛 K Γ E cs g i f.0) (operands K g Γ cs is f.1)

  swapped : {K : Type 0} {i j : Item 𝓤} {Γ : List (Item 𝓤)} {xs : List Operand} {vs : List Val} → Opds K 𝓛 (i ∷ j ∷ Γ) E xs vs → Opds K 𝓛 (j ∷ i ∷ Γ) E xs vs
  swapped {K} {i} {j} {Γ} {xs} {vs} os = record { go = λ Kt h. via 𝓤 _ (qed 𝓛 (j ∷ i ∷ Γ) ∵ move ! (1 ∷ 0 ∷ []) $ done !) (os.go Kt (via 𝓤 _ (qed 𝓛 (i ∷ j ∷ Γ) ∵ move ! (1 ∷ 0 ∷ []) $ done !) h)) }

  pub known : {K : Type 0} {Γ : List (Item 𝓤)} → K → (cs : List Cell) (i : ℕ) (v : Val) → cell cs i ≡ has v → Opd K 𝓛 (‵ (cells 𝓤 H E cs) ∷ Γ) E (copy (place i [])) v
  known {K} {Γ} g cs i v e = subst (λ (c : Cell). Opd K 𝓛 (‵ (cells 𝓤 H E cs) ∷ Γ) E (copy (place i [])) (value c)) e (loads 𝓛 K Γ E cs g i (subst (λ (c : Cell). Full c) (sym e) tt))

  at_ref : {K : Type 0} {Γ : List (Item 𝓤)} → K → (cs : List Cell) (i b o : ℕ) → cell cs i ≡ ref b o → Reads K 𝓛 (‵ (cells 𝓤 H E cs) ∷ Γ) (ty 𝓤 H E i) (local_at 𝓤 H E i).1 0 (vptr b o)
  at_ref {K} {Γ} g cs i b o e = subst (λ (c : Cell). Reads K 𝓛 (‵ (cells 𝓤 H E cs) ∷ Γ) (ty 𝓤 H E i) (local_at 𝓤 H E i).1 0 (value c)) e (reads_as 𝓛 K Γ E cs i (ty 𝓤 H E i) refl (subst (λ (c : Cell). Full c) (sym e) tt) (look g 0 refl))

  -- what a local holds is of its type
  pub typed-in : {K : Type 0} {Γ : List (Item 𝓤)} {G : Goal 𝓤 H} → K → (cs : List Cell) (i : ℕ) → Full (cell cs i) → (Typed (ty 𝓤 H E i) (value (cell cs i)) → Seq K 𝓛 (‵ (cells 𝓤 H E cs) ∷ Γ) G) → Seq K 𝓛 (‵ (cells 𝓤 H E cs) ∷ Γ) G
  typed-in {K} {Γ} g cs i f k =
      use1 𝓛 (given (Typed (ty 𝓤 H E i) (value (cell cs i))) (‵ (cells 𝓤 H E cs)))
      (via 𝓤 _ (apart 𝓛 K [] E cs i (ty 𝓤 H E i) refl f) (qed 𝓛 (‵ (fat full_share (ty 𝓤 H E i) (local_at 𝓤 H E i).1 0 (value (cell cs i))) ∷ ‵ (cells 𝓤 H E (put cs i lent)) ∷ []) ∵
      use1 𝓛 (given (Typed (ty 𝓤 H E i) (value (cell cs i))) (‵ (fat full_share (ty 𝓤 H E i) (local_at 𝓤 H E i).1 0 (value (cell cs i))))) (𝓛.laws.at_wt full_share (ty 𝓤 H E i) (local_at 𝓤 H E i).1 0 (value (cell cs i))) $
      learn ! (λ t. check ! t $ by ! (closed 𝓛 K [] E cs i (ty 𝓤 H E i) refl f)))) $ learn g k

  abbrev Goes : List Line → List Cell → Type 1
  Goes ls cs = Sq 𝓛 (‵ (cells 𝓤 H E cs) ∷ Rest ls cs) (runs C Λ E (code ls) q)

  counted : (d i : ℕ) (ℓ : Lifetime) (μ : Mutability) (τ : Ty) (ls : List Line) (cs : List Cell) (c : Cell) → cell cs i ≡ c
      → slicedly c (λ b o n. (cell cs i ≡ slice b o n) × (ty 𝓤 H E i ≡ slice_ty (ty_ref ℓ μ τ)) × Ready (cell cs d) × T (has_ty (ty 𝓤 H E d) (vint w64 n)) × Fine 𝓤 H E ls (put cs d (has (vint w64 n))))
      → ((b o n : ℕ) → Fine 𝓤 H E ls (put cs d (has (vint w64 n))) → Goes ls (put cs d (has (vint w64 n))))
      → Sq 𝓛 (‵ (cells 𝓤 H E cs) ∷ ‵ (deaths 𝓤 H E) ∷ raw (meaning 𝓤 H C Q (sliced c (λ b o n. script 𝓤 H E ls (put cs d (has (vint w64 n)))))) ∷ []) (runs C Λ E (seq (assign (place d []) (rv_opd (copy (place i (field 1 ∷ []))))) (code ls)) q)
  unfolding meaning
  counted d i ℓ μ τ ls cs empty e h k = absurd h
  counted d i ℓ μ τ ls cs lent e h k = absurd h
  counted d i ℓ μ τ ls cs (has v) e h k = absurd h
  counted d i ℓ μ τ ls cs (ref b o) e h k = absurd h
  counted d i ℓ μ τ ls cs (slice b o n) e h k =
      typed-in ! cs i (subst (λ (c : Cell). Full c) (sym h.0) tt) (λ t.
      assigns ! (of_opd ! (counts 𝓛 _ _ E cs i b o n ℓ μ τ h.0 h.1 !)) (from ! (stop !)) (sets 𝓛 _ _ E cs ! d (has (vint w64 n)) h.2 tt (h.3, (subst (λ (c : Cell). WT (value c)) h.0 t.1).1.0)) $ k b o n h.4)

  lent-on : (d e' i : ℕ) (ℓ : Lifetime) (μ : Mutability) (τ σ : Ty) (ls : List Line) (cs : List Cell) (c : Cell) → cell cs i ≡ c
      → slicedly c (λ b o n. (cell cs i ≡ slice b o n) × (ty 𝓤 H E i ≡ slice_ty (ty_ref ℓ μ τ)) × Ready (cell cs d) × T (has_ty (ty 𝓤 H E d) (vptr b o)) × (cell (put cs d (has (vptr b o))) d ≡ has (vptr b o)) × (cell (put cs d (has (vptr b o))) i ≡ slice b o n)
      × Ready (cell (put cs d (has (vptr b o))) e') × T (has_ty (ty 𝓤 H E e') (slice_val (b, o) n)) × Fine 𝓤 H E ls (put (put cs d (has (vptr b o))) e' (slice b o n)))
      → ((b o n : ℕ) → Fine 𝓤 H E ls (put (put cs d (has (vptr b o))) e' (slice b o n)) → Goes ls (put (put cs d (has (vptr b o))) e' (slice b o n)))
      → Sq 𝓛 (‵ (cells 𝓤 H E cs) ∷ ‵ (deaths 𝓤 H E) ∷ raw (meaning 𝓤 H C Q (sliced c (λ b o n. script 𝓤 H E ls (put (put cs d (has (vptr b o))) e' (slice b o n))))) ∷ [])
      (runs C Λ E (seq (assign (place d []) (addr_of (place i (field 0 ∷ deref σ ∷ [])))) (seq (assign (place e' []) (aggregate (copy (place d []) ∷ copy (place i (field 1 ∷ [])) ∷ []))) (code ls))) q)
  unfolding meaning
  lent-on d e' i ℓ μ τ σ ls cs empty e h k = absurd h
  lent-on d e' i ℓ μ τ σ ls cs lent e h k = absurd h
  lent-on d e' i ℓ μ τ σ ls cs (has v) e h k = absurd h
  lent-on d e' i ℓ μ τ σ ls cs (ref b o) e h k = absurd h
  lent-on d e' i ℓ μ τ σ ls cs (slice b o n) e h k =
      typed-in ! cs i (subst (λ (c : Cell). Full c) (sym h.0) tt) (λ t. let cs' : List Cell = put cs d (has (vptr b o)) in
      assigns ! (addr ! (points 𝓛 _ _ E cs i b o n ℓ μ τ h.0 h.1 ! σ)) (from ! (stop !)) (sets 𝓛 _ _ E cs ! d (has (vptr b o)) h.2 tt (h.3, tt)) $
      assigns ! (agg ! (and_then ! (known ! cs' d (vptr b o) h.4) (and_then ! (counts 𝓛 _ _ E cs' i b o n ℓ μ τ h.5 h.1 !) (no_more !)))) (from ! (stop !))
      (sets 𝓛 _ _ E cs' ! e' (slice b o n) h.6 tt (h.7, subst (λ (c : Cell). WT (value c)) h.0 t.1)) $ k b o n h.8)

  lent_ref : (d i : ℕ) (σ : Ty) (ls : List Line) (cs : List Cell) (c : Cell) → cell cs i ≡ c → refers-so c (λ b o. (cell cs i ≡ ref b o) × Ready (cell cs d) × T (has_ty (ty 𝓤 H E d) (vptr b o)) × Fine 𝓤 H E ls (put cs d (ref b o)))
      → ((b o : ℕ) → Fine 𝓤 H E ls (put cs d (ref b o)) → Goes ls (put cs d (ref b o)))
      → Sq 𝓛 (‵ (cells 𝓤 H E cs) ∷ ‵ (deaths 𝓤 H E) ∷ raw (meaning 𝓤 H C Q (referred c (λ b o. script 𝓤 H E ls (put cs d (ref b o))))) ∷ []) (runs C Λ E (seq (assign (place d []) (addr_of (place i (deref σ ∷ [])))) (code ls)) q)
  unfolding meaning
  lent_ref d i σ ls cs empty e h k = absurd h
  lent_ref d i σ ls cs lent e h k = absurd h
  lent_ref d i σ ls cs (has v) e h k = absurd h
  lent_ref d i σ ls cs (slice b o n) e h k = absurd h
  lent_ref d i σ ls cs (ref b o) e h k =
      assigns ! (addr ! (from ! (hop ! (at_ref ! cs i b o h.0) (stop !)))) (from ! (stop !)) (sets 𝓛 _ _ E cs ! d (ref b o) h.1 tt (h.2, tt)) $ k b o h.3

  -- each line is a step from its own script to that of the rest
  pub straight : (ls : List Line) (cs : List Cell) → Fine 𝓤 H E ls cs → Goes ls cs
  unfolding array meaning
  straight [] cs h = move ! (0 ∷ 1 ∷ 2 ∷ []) $ returns_within ! Q ret (reads_as 𝓛 _ _ E cs 0 (ty 𝓤 H E 0) refl h.0 (look ! 0 refl)) $ by ! (freed E cs (Q (value (cell cs 0))) h.1)
  straight (fills d w x n ∷ ls) cs h =
      assigns ! (rep ! n (lit ! h.0)) (from ! (stop !)) (sets 𝓛 _ _ E cs ! d (has (array w x n)) h.1 tt h.2) $ straight ls (put cs d (has (array w x n))) h.3
  straight (takes i ∷ ls) cs h =
      use1 𝓛 (‵ (fat full_share (ty 𝓤 H E i) (local_at 𝓤 H E i).1 0 (value (cell cs i))) ⊛ ‵ (cells 𝓤 H E (put cs i lent))) (parted 𝓛 E cs i _ (full-out 𝓛 (local_at 𝓤 H E i) (cell cs i) h.0)) $ split ! $
      move ! (0 ∷ 3 ∷ []) $ use2 𝓛 (raw (Sim ls (put cs i lent))) (apply∗ 𝓤 (At' i (value (cell cs i))) (Sim ls (put cs i lent))) $ move ! (1 ∷ 2 ∷ 0 ∷ []) $ straight ls (put cs i lent) h.1
  straight (gives i ∷ ls) cs h =
      move ! (2 ∷ []) $ use1 𝓛 (some (λ (v : Val). ‵ (fat full_share (ty 𝓤 H E i) (local_at 𝓤 H E i).1 0 v) ⊛ raw (Sim ls (put cs i (has v))))) (id⊢ 𝓤 _) $ pick ! (λ v. split ! $
      move ! (2 ∷ []) $ use1 𝓛 (‵ ftrue ⊛ ‵ (cells 𝓤 H E (put cs i lent))) (parted 𝓛 E cs i (emp 𝓤) (top 𝓤 _)) $ split ! $ drop ! $ move ! (1 ∷ 0 ∷ []) $
      use2 𝓛 (‵ (cells 𝓤 H E (put cs i (has v)))) (homed 𝓛 E cs i (has v) _ (id⊢ 𝓤 _)) $ move ! (0 ∷ 2 ∷ []) $ straight ls (put cs i (has v)) (h v))
  straight (moves d i ∷ ls) cs h =
      typed-in ! cs i h.0 (λ t. assigns ! (of_opd ! (loads 𝓛 _ _ E cs ! i h.0)) (from ! (stop !))
      (sets 𝓛 _ _ E cs ! d (has (value (cell cs i))) h.1 tt (subst (λ (τ : Ty). Typed τ (value (cell cs i))) (sym h.2) t)) $ straight ls (put cs d (has (value (cell cs i)))) h.3)
  straight (counts_of d i ℓ μ τ ∷ ls) cs h = counted d i ℓ μ τ ls cs (cell cs i) refl h (λ b o n f. straight ls (put cs d (has (vint w64 n))) f)
  straight (lends-on d e i ℓ μ τ σ ∷ ls) cs h = lent-on d e i ℓ μ τ σ ls cs (cell cs i) refl h (λ b o n f. straight ls (put (put cs d (has (vptr b o))) e (slice b o n)) f)
  straight (refers d i σ ∷ ls) cs h = lent_ref d i σ ls cs (cell cs i) refl h (λ b o f. straight ls (put cs d (ref b o)) f)
  straight (slices d e i n ∷ ls) cs h =
      let v : Val = vptr (local_at 𝓤 H E i).1 0 in let cs' : List Cell = put cs d (has v) in let c : Cell = slice (local_at 𝓤 H E i).1 0 n in
      assigns ! (addr ! (from ! (stop !))) (from ! (stop !)) (sets 𝓛 _ _ E cs ! d (has v) h.1 tt (h.2, tt)) $
      assigns ! (agg ! (and_then ! (known ! cs' d v h.3) (and_then ! (big-lit ! h.0) (no_more !)))) (from ! (stop !)) (sets 𝓛 _ _ E cs' ! e c h.4 tt (h.5, (tt, (h.0, tt)))) $ straight ls (put cs' e c) h.6
  straight (asks f is d ∷ ls) cs h =
      move ! (2 ∷ []) $ use1 𝓛 (later (raw (C f (values cs is) (λ r. H.⇛ (guard 𝓤 (Typed (ty 𝓤 H E d) r) (Sim ls (put cs d (has r)))))))) (id⊢ 𝓤 _) $ await ! tt $
      move ! (0 ∷ 1 ∷ []) $ calls ! fm (λ r. later (given (Typed (ty 𝓤 H E d) r) (raw (Sim ls (put cs d (has r)))))) (swapped (operands _ ! _ cs is h.0)) (λ r. await ! tt $ learn ! (λ t.
      move ! (1 ∷ 2 ∷ 0 ∷ []) $ land ! (from ! (stop !)) (sets 𝓛 _ _ E cs ! d (has r) h.1 tt t) $ straight ls (put cs d (has r)) (h.2 r)))
