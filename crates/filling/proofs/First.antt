-- The law at a function whose first parameter is the pool and whose second is the table, whatever follows them: the covered function
-- has the pool, the table's length, the list and the rest.
--     made             the function itself, at a list of N numbers, by the types of its locals
--     fills_first      the function meets its contract
-- Assumes `Logic`.
use mathlib.Core.Path.{◌≡◌}
use Prim.Native.Nat.{ℕ, suc}
use mathlib.Core.List.{List, [], ◌∷◌, ◌++◌}
use lib.ListN.{length, replicate}
use seplogic.Ra.Ura.{Ura}
use mir.Syntax.{Callee, Ty, Fn, Local, local, value_local, memory_slot, named, erased, mut, imm, w16, w64, ty_int, ty_unit, ty_ref, ty_array}
use base.Logic.{SProp, ent, emp}
use base.Fml.{ftrue}
use prog.Wp.{Calls, Loops, WpFn}
use types.Logic.{Logic}
use contract.Monad.{fact}
use contract.Lifetimes.{Lfts, Shares}
use sound.WpLaws.{FmC}
use denote.RattleType.{RattleType, Denots, owns}
use denote.Memory.{pointee}
use denote.Laws.{Ises, Tellss, valss}
use denote.Builtin.{u8, u16, usize}
use denote.Slice.{slice_ty, Room, shr_slice_Tells, mut_slice_Tells}
use denote.Signature.{Slot, plain, types_at, mut_slice_of}
use denote.Triple.Entry.{Args}
use denote.Triple.Spec.{Meets}
use denote.Triple.Statement.{Triple}
use denote.Triple.End.{Kepts, Fins, Outs, outs}
use denote.Triple.Clauses.{AtExit, closing}
use denote.Exit.{yes}
use Rattle.filling.proofs.Straight.{Line, code}
use Rattle.filling.proofs.Parameters.{Holds, spells}
use Rattle.filling.proofs.Calls.{Unary, PoolFilling, pool-copied}
use Rattle.filling.proofs.Carried.{Carried}
use Rattle.filling.proofs.Law.{Coded, Are-all, Core-known, pool-slot, shared-cell, fills-table}
use Rattle.filling.proofs.Choice.{passing, stating}

abbrev pub values : List Ty → List Local
values [] = []
values (τ ∷ τs) = local τ value_local ∷ values τs

-- a function of so many lifetimes and parameters: the types of its result, its parameters, the covered function's answer, and the locals
-- by which the rest is lent on
abbrev pub made : RattleType → ℕ → ℕ → Ty → List Ty → Ty → List Ty → ℕ → List Line → Fn
made R n k rt τs dt lent N ls = record {
  lifetimes = n;
  outlives = [];
  ty_params = [];
  givens = 0;
  params = k;
  locals =
      values (rt ∷ τs) ++ (local (ty_array (ty_int w16) N) memory_slot ∷ values (dt ∷ ty_int w64 ∷ ty_ref erased mut (ty_array (ty_int w16) N) ∷ slice_ty (ty_ref erased mut (ty_int w16)) ∷ (lent
      ++ (ty_unit ∷ ty_ref erased imm (ty_array (ty_int w16) N) ∷ slice_ty (ty_ref erased imm (ty_int w16)) ∷ ty_ref erased mut (pointee R.written) ∷ slice_ty (ty_ref erased mut (pointee R.written)) ∷ []))));
  body = code ls;
}

abbrev pub over : RattleType → (m : ℕ) → List (Slot (suc (suc m))) → List (Slot (suc (suc m)))
over R m ss = pool-slot ∷ mut_slice_of (1 ∷ []) tt (plain (λ _. R)) ∷ ss

module _ {M : Type 1} {𝓤 : Ura M} (𝓛 : Logic 𝓤) (R : RattleType) (D T : Carried 𝓛) (m : ℕ) (ss : List (Slot (suc (suc m)))) (ks : Kepts ss)
    -- the function's contract, the covered function's, and the filling's
    (Asks : List ℕ → SProp 𝓤) (Says : (κs : Lfts (suc (suc m))) → Args (passing (suc (suc m)) (over R m ss) T.row) κs → T.row.Denot → AtExit (record { signature = passing (suc (suc m)) (over R m ss) T.row; kept = (yes, (yes, ks)) }) κs → SProp 𝓤)
    (Needs : List ℕ → List ℕ → Type 0) (Tells : (κs : Lfts (suc (suc m))) → List ℕ → ℕ → Denots (types_at ss κs) → D.row.Denot → List ℕ → Outs κs ss ks → Type 0)
    (count_of : D.row.Denot → ℕ) (answers : D.row.Denot → T.row.Denot → Type 0) (Wants : List ℕ → List ℕ → ℕ → List R.Denot → Type 0) (after : List ℕ → List ℕ → ℕ → List R.Denot → List R.Denot) where
  -- the filling has what it asks for, and what is said holds of the table that is filled
  open 𝓛 use {H}

  abbrev pub Right : Type 1
  Right = (κs : Lfts (suc (suc m))) (a : Args (passing (suc (suc m)) (over R m ss) T.row) κs) (d : D.row.Denot) (zs : List ℕ) (ws : Fins κs ss ks a.1.1) → Tells κs a.0.now (length a.1.0.now) a.1.1 d zs (outs κs ss ks a.1.1 ws)
      → Wants a.0.now zs (count_of d) a.1.0.now × ((r : T.row.Denot) → answers d r → ent 𝓤 (emp 𝓤) (Says κs a r (outs κs (over R m ss) (yes, (yes, ks)) a (tt, (after a.0.now zs (count_of d) a.1.0.now, ws)))))

  module _ (C : Calls 𝓤 H) (Λ : Loops 𝓤 H) (fm : FmC 𝓤 H 𝓛.laws C) (N : ℕ) (cs : (κs : Lfts (suc (suc m))) → Holds (types_at ss κs)) where
    abbrev pub Coded-so : Fn → Callee → Callee → Callee → Callee → List Line → Type 0
    Coded-so f #core #count #fill #answer ls = (κs : Lfts (suc (suc m))) (qs : Shares (suc (suc m))) (a : Args (passing (suc (suc m)) (over R m ss) T.row) κs)
        → Are-all 𝓛 C Λ fm R N D T (suc m) 0 tt (pool-slot ∷ []) (yes, tt) ss ks (λ κs. (shared-cell, tt)) cs (λ κs a. Asks a.0.now) Says (λ κs a zs. Needs zs a.0.now) (λ κs a d w zs ws. Tells κs a.0.now (length a.1.0.now) a.1.1 d zs (outs κs ss ks a.1.1 ws)) count_of answers (λ κs a. a.0) Wants after κs a
        → Coded 𝓛 C Λ fm R N D T (suc m) 0 tt (pool-slot ∷ []) (yes, tt) ss ks (λ κs. (shared-cell, tt)) cs (λ κs a. Asks a.0.now) Says (λ κs a zs. Needs zs a.0.now) (λ κs a d w zs ws. Tells κs a.0.now (length a.1.0.now) a.1.1 d zs (outs κs ss ks a.1.1 ws)) count_of answers (λ κs a. a.0) Wants after κs qs a f #core #count #fill #answer ls

    abbrev pub Core-so : Callee → Type 1
    Core-so = Core-known 𝓛 C Λ fm R N D T (suc m) 0 tt (pool-slot ∷ []) (yes, tt) ss ks (λ κs. (shared-cell, tt)) cs (λ κs a. Asks a.0.now) Says (λ κs a zs. Needs zs a.0.now) (λ κs a d w zs ws. Tells κs a.0.now (length a.1.0.now) a.1.1 d zs (outs κs ss ks a.1.1 ws)) count_of answers (λ κs a. a.0) Wants after

    pub fills_first : (f : Fn) (#core #count #fill #answer : Callee) (ls : List Line) → f.body ≡ code ls → Coded-so f #core #count #fill #answer ls → Room u16 N
        → ((κs : Lfts (suc (suc m))) → Tellss (types_at ss κs) (Ises (types_at ss κs)) (spells (types_at ss κs) (cs κs))) → ((p : List ℕ) → ent 𝓤 (Asks p) (fact 𝓤 (Needs (replicate N 0) p)))
        → Core-so #core
        → Triple 𝓤 (C #count) (Unary 𝓛 D.row usize (λ d n. n ≡ count_of d)) → Triple 𝓤 (C #answer) (Unary 𝓛 D.row T.row answers) → Triple 𝓤 (C #fill) (PoolFilling 𝓛 R Wants after) → Right
        → Meets 𝓛 (passing (suc (suc m)) (over R m ss) T.row) (WpFn 𝓤 H C Λ f) (closing 𝓛 (record { signature = passing (suc (suc m)) (over R m ss) T.row; kept = (yes, (yes, ks)) }) (stating 𝓛 T (suc (suc m)) (over R m ss) (yes, (yes, ks)) Says (λ κs a. Asks a.0.now)))
    fills_first f #core #count #fill #answer ls e coded big tells need core count answer fill right =
        fills-table 𝓛 C Λ fm R N D T (suc m) 0 tt (pool-slot ∷ []) (yes, tt) ss ks (λ κs. (shared-cell, tt)) cs (λ κs a. Asks a.0.now) Says (λ κs a zs. Needs zs a.0.now) (λ κs a d w zs ws. Tells κs a.0.now (length a.1.0.now) a.1.1 d zs (outs κs ss ks a.1.1 ws)) count_of answers (λ κs a. a.0) Wants after
        f #core #count #fill #answer ls e coded big (λ κs. (shr_slice_Tells (named 0) κs.0 u8, (mut_slice_Tells (named 1) κs.1.0 R, tells κs))) (λ κs a. need a.0.now)
        core count answer fill (λ κs qs a. pool-copied 𝓛 κs.0 a.0 ftrue (owns (types_at ss κs) a.1.1 (valss (types_at ss κs) (spells (types_at ss κs) (cs κs)) a.1.1))) (λ κs qs a d w e φ. right κs a d w.1.1.0 w.1.1.1 φ)
