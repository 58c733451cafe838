-- What the locals of a function hold, as one entry of a context: a list of cells, one for each local. A cell is taken out of the list
-- and put back, read and written.
--     Cell             what a local holds: nothing yet, nothing that the function owns (it is lent), a value, a slice or a reference
--     cells E cs       the locals of E hold cs
-- Assumes `Logic`.
use mathlib.Core.Path.{◌≡◌, refl, sym, ap, subst}
use Prim.Native.Nat.{ℕ, zero, suc}
use mathlib.Core.List.{List, [], ◌∷◌}
use lib.Dec.{T}
use lib.ListN.{get_or}
use seplogic.Ra.Ura.{Ura}
use base.Fraction.{full_share}
use mir.Syntax.{Ty, Lifetime, Mutability, place, field, deref, copy, w64, ty_ref}
use mir.Val.{Val, vunit, vint, vptr, WT, has_ty}
use base.Logic.{SProp, ent, sep, never, id⊢, via, mono_l, snd∗, emp∗, emp, never_e}
use base.Fml.{Fml, ftrue, ffalse, fsep, fat, froom, fdies}
use prog.Memory.{field_of}
use prog.Wp.{Heap, Env, no_local}
use types.Logic.{Logic, sem}
use types.Kit.{Item, ‵, raw, ◌⊛◌, ⋆, ◌$◌, ◌∵◌, !, qed, move, use1, use2, split, drop, fsplit, frame, done}
use types.Part.{whole, sub, look_in}
use types.Run.{Reads, Writes, Finds, Opd, look, init, hop, stop, fld, from, load}
use denote.Slice.{slice_ty, slice_val}
use denote.Steps.{nothing}

pub data Cell : Type 0 where
  empty : Cell
  lent : Cell
  has : Val → Cell
  slice : ℕ → ℕ → ℕ → Cell
  ref : ℕ → ℕ → Cell

abbrev pub value : Cell → Val
value empty = vunit
value lent = vunit
value (has v) = v
value (slice b o n) = slice_val (b, o) n
value (ref b o) = vptr b o

abbrev pub Full : Cell → Type 0
Full empty = ⊥
Full lent = ⊥
Full (has v) = Unit {0}
Full (slice b o n) = Unit {0}
Full (ref b o) = Unit {0}

-- it can be written
abbrev pub Ready : Cell → Type 0
Ready empty = Unit {0}
Ready lent = ⊥
Ready (has v) = Unit {0}
Ready (slice b o n) = Unit {0}
Ready (ref b o) = Unit {0}

abbrev pub cell : List Cell → ℕ → Cell
cell [] i = lent
cell (c ∷ cs) zero = c
cell (c ∷ cs) (suc i) = cell cs i

abbrev pub put : List Cell → ℕ → Cell → List Cell
put [] i c = []
put (d ∷ cs) zero c = c ∷ cs
put (d ∷ cs) (suc i) c = d ∷ put cs i c

abbrev pub holds : Ty × ℕ → Cell → Fml
holds e empty = froom e.0 e.1 0
holds e lent = ftrue
holds e (has v) = fat full_share e.0 e.1 0 v
holds e (slice b o n) = fat full_share e.0 e.1 0 (slice_val (b, o) n)
holds e (ref b o) = fat full_share e.0 e.1 0 (vptr b o)

abbrev pub Typed : Ty → Val → Type 0
Typed τ v = T (has_ty τ v) × WT v

module _ {M : Type 1} (𝓤 : Ura M) (H : Heap 𝓤) where
  abbrev pub cells : Env 𝓤 H → List Cell → Fml
  cells [] [] = ftrue
  cells [] (c ∷ cs) = ffalse
  cells (e ∷ E) [] = ftrue
  cells (e ∷ E) (c ∷ cs) = fsep (holds e c) (cells E cs)

  abbrev pub deaths : Env 𝓤 H → Fml
  deaths [] = ftrue
  deaths (e ∷ E) = fsep (fdies e.0 e.1) (deaths E)

  abbrev pub local_at : Env 𝓤 H → ℕ → Ty × ℕ
  local_at E i = get_or E i (no_local 𝓤 H)

  abbrev pub AllBack : Env 𝓤 H → List Cell → Type 0
  AllBack [] cs = Unit {0}
  AllBack (e ∷ E) [] = ⊥
  AllBack (e ∷ E) (c ∷ cs) = Ready c × AllBack E cs

-- ---- a cell is taken out of the list, and put back
module _ {M : Type 1} {𝓤 : Ura M} (𝓛 : Logic 𝓤) where
  open 𝓛 use {H}

  abbrev pub ⟦◌⟧ : Fml → SProp 𝓤
  ⟦ P ⟧ = sem 𝓛 P

  abbrev pub At : Ty × ℕ → Val → SProp 𝓤
  At e v = H.at full_share e.0 e.1 0 v

  pub full-out : (e : Ty × ℕ) (c : Cell) → Full c → ent 𝓤 ⟦ holds e c ⟧ (At e (value c))
  full-out e empty f = absurd f
  full-out e lent f = absurd f
  full-out e (has v) f = id⊢ 𝓤 _
  full-out e (slice b o n) f = id⊢ 𝓤 _
  full-out e (ref b o) f = id⊢ 𝓤 _

  pub full-in : (e : Ty × ℕ) (c : Cell) → Full c → ent 𝓤 (At e (value c)) ⟦ holds e c ⟧
  full-in e empty f = absurd f
  full-in e lent f = absurd f
  full-in e (has v) f = id⊢ 𝓤 _
  full-in e (slice b o n) f = id⊢ 𝓤 _
  full-in e (ref b o) f = id⊢ 𝓤 _

  pub room_out : (e : Ty × ℕ) (c : Cell) → Ready c → ent 𝓤 ⟦ holds e c ⟧ (H.room e.0 e.1 0)
  room_out e empty f = id⊢ 𝓤 _
  room_out e lent f = absurd f
  room_out e (has v) f = 𝓛.laws.at_room e.0 e.1 0 v
  room_out e (slice b o n) f = 𝓛.laws.at_room e.0 e.1 0 (slice_val (b, o) n)
  room_out e (ref b o) f = 𝓛.laws.at_room e.0 e.1 0 (vptr b o)

  -- what an entry gives is taken out, and the local is lent
  pub parted : (E : Env 𝓤 H) (cs : List Cell) (i : ℕ) (P : SProp 𝓤) → ent 𝓤 ⟦ holds (local_at 𝓤 H E i) (cell cs i) ⟧ P → ent 𝓤 ⟦ cells 𝓤 H E cs ⟧ (sep 𝓤 P ⟦ cells 𝓤 H E (put cs i lent) ⟧)
  parted [] [] i P h = via 𝓤 (sep 𝓤 (emp 𝓤) (emp 𝓤)) (emp∗ 𝓤 (emp 𝓤)) (mono_l 𝓤 (emp 𝓤) h)
  parted [] (c ∷ cs) i P h = never_e 𝓤 _
  parted (e ∷ E) [] i P h = via 𝓤 (sep 𝓤 (emp 𝓤) (emp 𝓤)) (emp∗ 𝓤 (emp 𝓤)) (mono_l 𝓤 (emp 𝓤) h)
  parted (e ∷ E) (c ∷ cs) zero P h = qed 𝓛 (‵ (holds e c) ∷ ‵ (cells 𝓤 H E cs) ∷ []) ∵ use1 𝓛 (raw P) h $ frame ! $ nothing ! $ done !
  parted (e ∷ E) (c ∷ cs) (suc i) P h = qed 𝓛 (‵ (holds e c) ∷ ‵ (cells 𝓤 H E cs) ∷ []) ∵ move ! (1 ∷ []) $ use1 𝓛 (raw P ⊛ ‵ (cells 𝓤 H E (put cs i lent))) (parted E cs i P h) $ split ! $ frame ! $ move ! (1 ∷ []) $ done !

  -- a lent local is given something to hold
  pub homed : (E : Env 𝓤 H) (cs : List Cell) (i : ℕ) (c : Cell) (P : SProp 𝓤) → ent 𝓤 P ⟦ holds (local_at 𝓤 H E i) c ⟧ → ent 𝓤 (sep 𝓤 P ⟦ cells 𝓤 H E (put cs i lent) ⟧) ⟦ cells 𝓤 H E (put cs i c) ⟧
  homed [] [] i c P h = snd∗ 𝓤 P (emp 𝓤)
  homed [] (d ∷ cs) zero c P h = via 𝓤 (never 𝓤) (snd∗ 𝓤 P (never 𝓤)) (never_e 𝓤 _)
  homed [] (d ∷ cs) (suc i) c P h = via 𝓤 (never 𝓤) (snd∗ 𝓤 P (never 𝓤)) (never_e 𝓤 _)
  homed (e ∷ E) [] i c P h = snd∗ 𝓤 P (emp 𝓤)
  homed (e ∷ E) (d ∷ cs) zero c P h = qed 𝓛 (raw P ∷ ‵ (fsep ftrue (cells 𝓤 H E cs)) ∷ []) ∵ use1 𝓛 (‵ (holds e c)) h $ frame ! $ fsplit ! $ drop ! $ done !
  homed (e ∷ E) (d ∷ cs) (suc i) c P h = qed 𝓛 (raw P ∷ ‵ (fsep (holds e d) (cells 𝓤 H E (put cs i lent))) ∷ []) ∵ move ! (1 ∷ []) $ fsplit ! $ frame ! $ move ! (1 ∷ 0 ∷ []) $ use2 𝓛 (‵ (cells 𝓤 H E (put cs i c))) (homed E cs i c P h) $ done !

  again-as : (cs : List Cell) (i : ℕ) → put cs i (cell cs i) ≡ cs
  again-as [] i = refl
  again-as (c ∷ cs) zero = refl
  again-as (c ∷ cs) (suc i) = ap (λ ds. c ∷ ds) (again-as cs i)

  module _ (K : Type 0) (Γ : List (Item 𝓤)) (E : Env 𝓤 H) (cs : List Cell) where
    -- a judgement about the local's own cell beside the rest of the list is one about the list
    abbrev pub Apart : (i : ℕ) → Ty → List (Item 𝓤)
    Apart i τ = ‵ (fat full_share τ (local_at 𝓤 H E i).1 0 (value (cell cs i))) ∷ ‵ (cells 𝓤 H E (put cs i lent)) ∷ Γ

    module _ (i : ℕ) (τ : Ty) (e : (local_at 𝓤 H E i).0 ≡ τ) (f : Full (cell cs i)) where
      abbrev pub Whole : List (Item 𝓤)
      Whole = ‵ (cells 𝓤 H E cs) ∷ Γ

      pub apart : ent 𝓤 (⋆ 𝓛 Whole) (⋆ 𝓛 (Apart i τ))
      apart = qed 𝓛 Whole ∵ use1 𝓛 (‵ (fat full_share τ (local_at 𝓤 H E i).1 0 (value (cell cs i))) ⊛ ‵ (cells 𝓤 H E (put cs i lent)))
          (parted E cs i _ (subst (λ (σ : Ty). ent 𝓤 ⟦ holds (local_at 𝓤 H E i) (cell cs i) ⟧ (H.at full_share σ (local_at 𝓤 H E i).1 0 (value (cell cs i)))) e (full-out (local_at 𝓤 H E i) (cell cs i) f))) $ split ! $ done !

      pub closed : ent 𝓤 (⋆ 𝓛 (Apart i τ)) (⋆ 𝓛 Whole)
      closed = qed 𝓛 (Apart i τ) ∵ use2 𝓛 (‵ (cells 𝓤 H E cs))
          (subst (λ ds. ent 𝓤 (sep 𝓤 (H.at full_share τ (local_at 𝓤 H E i).1 0 (value (cell cs i))) ⟦ cells 𝓤 H E (put cs i lent) ⟧) ⟦ cells 𝓤 H E ds ⟧) (again-as cs i)
          (homed E cs i (cell cs i) _ (subst (λ (σ : Ty). ent 𝓤 (H.at full_share σ (local_at 𝓤 H E i).1 0 (value (cell cs i))) ⟦ holds (local_at 𝓤 H E i) (cell cs i) ⟧) e (full-in (local_at 𝓤 H E i) (cell cs i) f)))) $ done !

      pub reads_as : {σ : Ty} {b o : ℕ} {v : Val} → Reads K 𝓛 (Apart i τ) σ b o v → Reads K 𝓛 Whole σ b o v
      reads_as r = record { go = λ Kt h. via 𝓤 _ apart (r.go Kt (via 𝓤 _ closed h)) }

    -- a whole local is read, and written
    pub loads : K → (i : ℕ) → Full (cell cs i) → Opd K 𝓛 (‵ (cells 𝓤 H E cs) ∷ Γ) E (copy (place i [])) (value (cell cs i))
    loads g i f = load g (from g (stop g)) (reads_as i (local_at 𝓤 H E i).0 refl f (look g 0 refl))

    pub sets : K → (i : ℕ) (c : Cell) → Ready (cell cs i) → Full c → Typed (local_at 𝓤 H E i).0 (value c) → Writes K 𝓛 (‵ (cells 𝓤 H E cs) ∷ Γ) (local_at 𝓤 H E i).0 (local_at 𝓤 H E i).1 0 (value c) (‵ (cells 𝓤 H E (put cs i c)) ∷ Γ)
    sets g i c ready f wt =
        let e : Ty × ℕ = local_at 𝓤 H E i in
        let w : Writes K 𝓛 (‵ (froom e.0 e.1 0) ∷ ‵ (cells 𝓤 H E (put cs i lent)) ∷ Γ) e.0 e.1 0 (value c) (‵ (fat full_share e.0 e.1 0 (value c)) ∷ ‵ (cells 𝓤 H E (put cs i lent)) ∷ Γ) = init g 0 refl wt in
        record {
          go = λ P h. via 𝓤 _
              (qed 𝓛 (‵ (cells 𝓤 H E cs) ∷ Γ) ∵ use1 𝓛 (‵ (froom e.0 e.1 0) ⊛ ‵ (cells 𝓤 H E (put cs i lent))) (parted E cs i _ (room_out e (cell cs i) ready)) $ split ! $ done !)
              (w.go P (via 𝓤 _ (qed 𝓛 (‵ (fat full_share e.0 e.1 0 (value c)) ∷ ‵ (cells 𝓤 H E (put cs i lent)) ∷ Γ) ∵ use2 𝓛 (‵ (cells 𝓤 H E (put cs i c))) (homed E cs i c _ (full-in e c f)) $ done !) h));
        }

    -- a slice's pointer and its count
    module _ (i b o n : ℕ) (ℓ : Lifetime) (μ : Mutability) (τ : Ty) (is : cell cs i ≡ slice b o n) (ty : (local_at 𝓤 H E i).0 ≡ slice_ty (ty_ref ℓ μ τ)) where
      here : Full (cell cs i)
      here = subst (λ (c : Cell). Full c) (sym is) tt

      read-part : {σ : Ty} {b' o' : ℕ} {v : Val} → ((Δ : List (Item 𝓤)) → Reads K 𝓛 (‵ (fat full_share (slice_ty (ty_ref ℓ μ τ)) (local_at 𝓤 H E i).1 0 (slice_val (b, o) n)) ∷ Δ) σ b' o' v) → Reads K 𝓛 (‵ (cells 𝓤 H E cs) ∷ Γ) σ b' o' v
      read-part {σ} {b'} {o'} {v} r = reads_as i (slice_ty (ty_ref ℓ μ τ)) ty here
          (subst (λ (c : Cell). Reads K 𝓛 (‵ (fat full_share (slice_ty (ty_ref ℓ μ τ)) (local_at 𝓤 H E i).1 0 (value c)) ∷ ‵ (cells 𝓤 H E (put cs i lent)) ∷ Γ) σ b' o' v) (sym is) (r _))

      pub counts : K → Opd K 𝓛 (‵ (cells 𝓤 H E cs) ∷ Γ) E (copy (place i (field 1 ∷ []))) (vint w64 n)
      counts g = load g (from g (fld g (ap (λ (σ : Ty). field_of σ 1) ty) (stop g))) (read-part (λ Δ. look_in g 0 (sub g 1 refl (whole g))))

      pub points : K → (σ : Ty) → Finds K 𝓛 (‵ (cells 𝓤 H E cs) ∷ Γ) E (place i (field 0 ∷ deref σ ∷ [])) (σ, b, o)
      points g σ = from g (fld g (ap (λ (ρ : Ty). field_of ρ 0) ty) (hop g (read-part (λ Δ. look_in g 0 (sub g 0 refl (whole g)))) (stop g)))
