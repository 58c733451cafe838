-- One law for every function over the working table that fills it from a covered function's list, whatever its other parameters are
-- and whichever parameter the table is.
--     lines            the code: the list, its length and the table's, the covered function, the count in its answer, the filling, the answer's own part
--     fills-table      a function of that code meets a contract. The covered function has the table's length and the list where the function has the table
-- Assumes `Logic`.
use mathlib.Core.Path.{◌≡◌, refl, sym, subst}
use Prim.Native.Nat.{ℕ, suc, ◌+◌}
use mathlib.Core.List.{List, [], ◌∷◌, ◌++◌, map}
use lib.Dec.{lit<}
use lib.ListN.{length, replicate}
use seplogic.Ra.Ura.{Ura}
use base.Fraction.{full_share}
use mir.Syntax.{Callee, Ty, Fn, named, mut, w16, w64, ty_int, ty_array}
use mir.Val.{Val, vint}
use base.Logic.{SProp, ent, sep, wand, ex, emp, id⊢, via, comm∗, assoc∗, mono_l, mono_r, snd∗, wand_i, apply∗}
use base.Fml.{GName, Fml, ftrue, fsep}
use prog.Wp.{Calls, Loops, WpFn}
use types.Logic.{Logic, sem}
use contract.Monad.{fact}
use contract.Lifetimes.{Lfts, Shares, Within, lft_at, toks}
use sound.WpLaws.{FmC}
use denote.RattleType.{RattleType, Denots, Valss, owns, flat}
use denote.Memory.{pointee}
use denote.Laws.{Are, Ises, valss, Tellss}
use denote.Builtin.{u8, u16, usize}
use denote.Plain.{uint_Lawful}
use denote.Ref.{Bor, MutBor}
use denote.Slice.{slice_val, MutSlice, Room}
use denote.Signature.{Slot, Signature, plain, types_at, mut_slice_of, shr_slice_of}
use denote.Steps.{said}
use denote.Triple.Entry.{Args, Vals}
use denote.Triple.Spec.{Meets}
use denote.Triple.Statement.{Triple}
use denote.Triple.End.{Kepts, Fins, outs, lasts_of}
use denote.Triple.Clauses.{Clauses, Ended, AtExit, closing}
use denote.Exit.{yes}
use Rattle.filling.proofs.Local.{repeats-typed}
use Rattle.filling.proofs.Cells.{Cell, slice, value, Typed}
use Rattle.filling.proofs.Straight.{array, Line, Script, fills, takes, gives, counts_of, lends-on, slices, asks, code, script, meaning, Fine}
use Rattle.filling.proofs.Entry.{begun, Passed, Everywhere, mapped, goes-straight}
use Rattle.filling.proofs.Parameters.{Holds, spells, held, flat-held, kapp, happ, fore, aft, are-aft, fins, Fins-to, fore-w, aft-w, lasts_to, owns-to, share_at, swaps, toks-with, toks-but, toks-out, toks-in, toks-at, owns-apart, lasts-apart, lasts-joined, owns-joined}
use Rattle.filling.proofs.Carried.{Carried}
use Rattle.filling.proofs.Calls.{Unary, slice_left, Fills, PoolFilling, POwn, by-pool}
use Rattle.filling.proofs.Filling.{Orders, filled-as, fill-script}

-- k parameters, of which the table is local t at the lifetime c; what stands before it and behind it is lent on by lines with i and j
-- locals of their own, the covered function gets the locals `fore` and `aft`, and the filling `also`. An entry's type is σ
abbrev pub lines : RattleType → Ty → ℕ → ℕ → ℕ → ℕ → ℕ → List Line → List Line → List ℕ → List ℕ → List ℕ → Callee → Callee → Callee → Callee → ℕ → List Line
lines R σ k t c i j before after fore aft also #core #count #fill #answer N =
    fills (1 + k) w16 0 N ∷ (before ++ (counts_of (3 + k + i) t (named c) mut (pointee R.written) ∷ slices (4 + k + i) (5 + k + i) (1 + k) N
    ∷ (after ++ (takes (1 + k) ∷ asks #core (fore ++ ((3 + k + i) ∷ (5 + k + i) ∷ aft)) (2 + k)
    ∷ slices (7 + k + i + j) (8 + k + i + j) (1 + k) N ∷ asks #count ((2 + k) ∷ []) (3 + k + i) ∷ lends-on (9 + k + i + j) (10 + k + i + j) t (named c) mut (pointee R.written) σ
    ∷ asks #fill (also ++ ((8 + k + i + j) ∷ (3 + k + i) ∷ (10 + k + i + j) ∷ [])) (6 + k + i + j) ∷ gives (1 + k) ∷ asks #answer ((2 + k) ∷ []) 0 ∷ []))))

-- the pool's slot, and what the local of a slice that is lent by `&mut` holds, and of one that is lent by `&`
abbrev pub pool-slot : {m : ℕ} → Slot (suc m)
pool-slot = shr_slice_of (0 ∷ []) tt (plain (λ _. u8))

abbrev pub slice-cell : {X : Type 0} → MutBor (List X) → Cell
slice-cell x = slice x.ref_ptr.0 x.ref_ptr.1 (length x.now)

abbrev pub shared-cell : {X : Type 0} → Bor (List X) → Cell
shared-cell x = slice x.ref_ptr.0 x.ref_ptr.1 (length x.now)

pub list-typed : {M : Type 1} {𝓤 : Ura M} (𝓛 : Logic 𝓤) → (N : ℕ) → Typed (ty_array (ty_int w16) N) (array w16 0 N)
unfolding array
list-typed 𝓛 N = repeats-typed u16 0 (vint w16 0) (refl, lit< tt) (uint_Lawful 𝓛 w16).typed N

-- n lifetimes, of which the table's is j
module _ (R : RattleType) (n j : ℕ) (ok : Within n j) (bs : List (Slot n)) (ks₀ : Kepts bs) (ss : List (Slot n)) (ks : Kepts ss) (RT : RattleType) where
  abbrev from-table : List (Slot n)
  from-table = mut_slice_of (j ∷ []) ok (plain (λ _. R)) ∷ ss

  abbrev pub taking : Signature
  taking = record { lifetimes = n; outlives = []; params = bs ++ from-table; result = plain (λ _. RT) }

  abbrev pub ending : Ended
  ending = record { signature = taking; kept = kapp bs from-table ks₀ (yes, ks) }

  -- a contract: what is asked, and what is said
  abbrev pub stating : {M : Type 1} (𝓤 : Ura M) → ((κs : Lfts n) → Args taking κs → SProp 𝓤) → ((κs : Lfts n) → Args taking κs → RT.Denot → AtExit ending κs → SProp 𝓤) → Clauses 𝓤 ending
  stating 𝓤 Asks Says κs a = record { ghost = Unit {0}; requires = λ _. Asks κs a; ensures = λ _. Says κs a }

-- the law. The table's lifetime is not the first: that is the pool's
module _ {M : Type 1} {𝓤 : Ura M} (𝓛 : Logic 𝓤) (C : Calls 𝓤 𝓛.H) (Λ : Loops 𝓤 𝓛.H) (fm : FmC 𝓤 𝓛.H 𝓛.laws C) (R : RattleType) (N : ℕ)
    -- what the covered function answers, and the function; the parameters beside the table: their slots, and what a local holds of each
    (D T : Carried 𝓛) (n j : ℕ) (ok : Within n j) (bs : List (Slot (suc n))) (ks₀ : Kepts bs) (ss : List (Slot (suc n))) (ks : Kepts ss) (cs₀ : (κs : Lfts (suc n)) → Holds (types_at bs κs)) (cs : (κs : Lfts (suc n)) → Holds (types_at ss κs))
    -- the function's contract, and the covered function's
    (Asks : (κs : Lfts (suc n)) → Args (taking R (suc n) (suc j) ok bs ks₀ ss ks T.row) κs → SProp 𝓤) (Says : (κs : Lfts (suc n)) → Args (taking R (suc n) (suc j) ok bs ks₀ ss ks T.row) κs → T.row.Denot → AtExit (ending R (suc n) (suc j) ok bs ks₀ ss ks T.row) κs → SProp 𝓤)
    (Needs : (κs : Lfts (suc n)) → Args (taking R (suc n) (suc j) ok bs ks₀ ss ks T.row) κs → List ℕ → Type 0)
    (Tells : (κs : Lfts (suc n)) (a : Args (taking R (suc n) (suc j) ok bs ks₀ ss ks T.row) κs) → D.row.Denot → Fins κs bs ks₀ (fore κs bs (from-table R (suc n) (suc j) ok bs ks₀ ss ks T.row) a) → List ℕ → Fins κs ss ks (aft κs bs (from-table R (suc n) (suc j) ok bs ks₀ ss ks T.row) a).1 → Type 0)
    (count_of : D.row.Denot → ℕ) (answers : D.row.Denot → T.row.Denot → Type 0)
    -- the pool, which the filling gets once more; what the filling asks of it, of the list, of the count and of the table; and how it leaves
    -- the table
    (pool : (κs : Lfts (suc n)) → Args (taking R (suc n) (suc j) ok bs ks₀ ss ks T.row) κs → Bor (List ℕ)) (Wants : List ℕ → List ℕ → ℕ → List R.Denot → Type 0) (after : List ℕ → List ℕ → ℕ → List R.Denot → List R.Denot) where
  open 𝓛 use {H, A}

  abbrev S : Signature
  S = taking R (suc n) (suc j) ok bs ks₀ ss ks T.row

  abbrev us : List (Slot (suc n))
  us = from-table R (suc n) (suc j) ok bs ks₀ ss ks T.row

  abbrev all_held : (κs : Lfts (suc n)) → Holds (types_at S.params κs)
  all_held κs = happ κs bs us (cs₀ κs) (slice-cell, cs κs)

  module _ (κs : Lfts (suc n)) (qs : Shares (suc n)) (a : Args S κs) where
    abbrev a₀ : Denots (types_at bs κs)
    a₀ = fore κs bs us a

    abbrev t : MutBor (List R.Denot)
    t = (aft κs bs us a).0

    abbrev a₁ : Denots (types_at ss κs)
    a₁ = (aft κs bs us a).1

    abbrev zeros : List ℕ
    zeros = replicate N 0

    abbrev vss₀ : Valss (types_at bs κs)
    vss₀ = valss (types_at bs κs) (spells (types_at bs κs) (cs₀ κs)) a₀

    abbrev B : Fml
    B = owns (types_at bs κs) a₀ vss₀

    abbrev X : Fml
    X = owns (types_at ss κs) a₁ (valss (types_at ss κs) (spells (types_at ss κs) (cs κs)) a₁)

    abbrev vs₀ : List Val
    vs₀ = map value (held (types_at bs κs) (cs₀ κs) a₀)

    abbrev vs₁ : List Val
    vs₁ = map value (held (types_at ss κs) (cs κs) a₁)

    abbrev ps : List Val
    ps = slice_val (pool κs a).ref_ptr (length (pool κs a).now) ∷ []

    abbrev Copied : Fml
    Copied = POwn κs.0 (pool κs a)

    abbrev wants-so : List ℕ → ℕ → Type 0
    wants-so zs k = Wants (pool κs a).now zs k t.now

    abbrev filled-so : List ℕ → ℕ → List R.Denot
    filled-so zs k = after (pool κs a).now zs k t.now

    -- the covered function's parameters
    abbrev TC : ℕ → SProp 𝓤
    TC ν = toks-with 𝓛 (A.lft (ν ∷ []) full_share) (suc n) (suc j) ok κs qs

    abbrev Room-own : Fml
    Room-own = usize.own_val (length t.now) (vint w64 (length t.now) ∷ [])

    abbrev Rows-own : ℕ → ℕ → GName → Fml
    Rows-own l ν δ = (MutSlice (named 1) (ν ∷ []) u16).own_val (record { ref_ptr = (l, 0); ghost_name = δ; now = zeros }) (slice_val (l, 0) N ∷ [])

    abbrev OC : ℕ → ℕ → GName → Fml
    OC l ν δ = owns-to (fsep Room-own (fsep (Rows-own l ν δ) X)) (types_at bs κs) a₀ vss₀

    abbrev Rest : Type 0
    Rest = Unit {0} × (List ℕ × Fins κs ss ks a₁)

    abbrev pub WC : Type 0
    WC = Fins-to κs Rest bs ks₀ a₀

    abbrev w₀ : WC → Fins κs bs ks₀ a₀
    w₀ w = fore-w κs Rest bs ks₀ a₀ w

    abbrev w₁ : WC → Rest
    w₁ w = aft-w κs Rest bs ks₀ a₀ w

    abbrev Rows-left : ℕ → ℕ → GName → List ℕ → Fml
    Rows-left l ν δ zs = slice_left u16 (ν ∷ []) l 0 δ (length zeros) zs

    abbrev left-on : ℕ → ℕ → GName → Rest → Fml
    left-on l ν δ w = fsep ftrue (fsep (Rows-left l ν δ w.1.0) (lasts_of κs ss ks a₁ w.1.1))

    abbrev leftsC : ℕ → ℕ → GName → WC → Fml
    leftsC l ν δ = lasts_to κs Rest (left-on l ν δ) bs ks₀ a₀

    abbrev others : WC → Fml
    others w = fsep (lasts_of κs bs ks₀ a₀ (w₀ w)) (lasts_of κs ss ks a₁ (w₁ w).1.1)

    abbrev Core-says : D.row.Denot → WC → Type 0
    Core-says d w = Tells κs a d (w₀ w) (w₁ w).1.0 (w₁ w).1.1

    abbrev pub Core-pre : ℕ → ℕ → GName → SProp 𝓤
    Core-pre l ν δ = sep 𝓤 (sep 𝓤 (TC ν) (sem 𝓛 (OC l ν δ))) (fact 𝓤 (Needs κs a zeros))

    abbrev pub Core-post : ℕ → ℕ → GName → Val → SProp 𝓤
    Core-post l ν δ v = H.⇛ (ex 𝓤 (λ (d : D.row.Denot). sep 𝓤 (sep 𝓤 (TC ν) (sem 𝓛 (D.row.own_val d (v ∷ [])))) (ex 𝓤 (λ (w : WC). sep 𝓤 (sem 𝓛 (leftsC l ν δ w)) (fact 𝓤 (Core-says d w))))))

    -- the function's
    abbrev WF : Type 0
    WF = Fins κs (bs ++ us) (kapp bs us ks₀ (yes, ks)) a

    abbrev exit-of : WC → List R.Denot → WF
    exit-of w zs = fins κs bs us ks₀ (yes, ks) a (w₀ w) (zs, (w₁ w).1.1)

    abbrev Fn-says : T.row.Denot → WF → SProp 𝓤
    Fn-says r w = Says κs a r (outs κs (bs ++ us) (kapp bs us ks₀ (yes, ks)) a w)

    abbrev leftsF : WF → Fml
    leftsF = lasts_of κs (bs ++ us) (kapp bs us ks₀ (yes, ks)) a

    abbrev Fn-post : Val → SProp 𝓤
    Fn-post v = H.⇛ (ex 𝓤 (λ (r : T.row.Denot). sep 𝓤 (sep 𝓤 (toks 𝓛 (suc n) κs qs) (sem 𝓛 (T.row.own_val r (v ∷ [])))) (ex 𝓤 (λ (w : WF). sep 𝓤 (sem 𝓛 (leftsF w)) (Fn-says r w)))))

    abbrev pub Is-right : Type 1
    Is-right = (d : D.row.Denot) (w : WC) → length (w₁ w).1.0 ≡ length zeros → Core-says d w → wants-so (w₁ w).1.0 (count_of d) × ((r : T.row.Denot) → answers d r → ent 𝓤 (emp 𝓤) (Fn-says r (exit-of w (filled-so (w₁ w).1.0 (count_of d)))))

    abbrev Owned : Fml
    Owned = owns (types_at (bs ++ us) κs) a (valss (types_at (bs ++ us) κs) (spells (types_at (bs ++ us) κs) (all_held κs)) a)

    abbrev Tok : SProp 𝓤
    Tok = A.lft (lft_at (suc n) (suc j) ok κs) (share_at (suc n) (suc j) ok qs)

    abbrev Toks : SProp 𝓤
    Toks = toks-but 𝓛 (suc n) (suc j) ok κs qs

    abbrev TOwn : Fml
    TOwn = (MutSlice (named 1) (lft_at (suc n) (suc j) ok κs) R).own_val t (value (slice-cell t) ∷ [])

    abbrev pub Copies : Type 1
    Copies = ent 𝓤 (sem 𝓛 (fsep B X)) (sem 𝓛 (fsep Copied (fsep B X)))

    ordered : Copies → Orders 𝓛 C R N (lft_at (suc n) (suc j) ok κs) (share_at (suc n) (suc j) ok qs) t.ref_ptr.0 t.ref_ptr.1 t.ghost_name t.now vs₀ vs₁ ps Copied wants-so filled-so (toks-but 𝓛 (suc n) (suc j) ok κs qs) (toks 𝓛 (suc n) κs qs) TC (fsep B X) Owned OC WC WF (λ w. (w₁ w).1.0) others exit-of leftsC leftsF D.row T.row D.mir T.mir (λ zs. fact 𝓤 (Needs κs a zs)) Core-says count_of answers Fn-says
    ordered copies = record {
      copied = copies;
      tokens-out = subst (λ (P : SProp 𝓤). ent 𝓤 P (sep 𝓤 Tok Toks)) (toks-at 𝓛 (suc n) (suc j) ok κs qs) (toks-out 𝓛 Tok (suc n) (suc j) ok κs qs);
      tokens-in = subst (λ (P : SProp 𝓤). ent 𝓤 (sep 𝓤 Tok Toks) P) (toks-at 𝓛 (suc n) (suc j) ok κs qs) (toks-in 𝓛 Tok (suc n) (suc j) ok κs qs);
      core-tokens-out = λ ν. toks-out 𝓛 (A.lft (ν ∷ []) full_share) (suc n) (suc j) ok κs qs;
      core-tokens-in = λ ν. toks-in 𝓛 (A.lft (ν ∷ []) full_share) (suc n) (suc j) ok κs qs;
      owns-out = via 𝓤 (sep 𝓤 (sem 𝓛 B) (sep 𝓤 (sem 𝓛 TOwn) (sem 𝓛 X))) (owns-apart 𝓛 κs bs us (cs₀ κs) (slice-cell, cs κs) a) (swaps 𝓛 (sem 𝓛 B) (sem 𝓛 TOwn) (sem 𝓛 X));
      core-owns-in = λ l ν δ. let P : SProp 𝓤 = sem 𝓛 Room-own in let Q : SProp 𝓤 = sem 𝓛 (Rows-own l ν δ) in
          via 𝓤 (sep 𝓤 (sem 𝓛 B) (sep 𝓤 (sep 𝓤 P Q) (sem 𝓛 X))) (swaps 𝓛 (sep 𝓤 P Q) (sem 𝓛 B) (sem 𝓛 X))
          (via 𝓤 (sep 𝓤 (sem 𝓛 B) (sep 𝓤 P (sep 𝓤 Q (sem 𝓛 X)))) (mono_r 𝓤 (sem 𝓛 B) (assoc∗ 𝓤 P Q (sem 𝓛 X))) (owns-joined 𝓛 (fsep Room-own (fsep (Rows-own l ν δ) X)) (types_at bs κs) a₀ vss₀));
      core-lefts-out = λ l ν δ w. let P : SProp 𝓤 = sem 𝓛 (lasts_of κs bs ks₀ a₀ (w₀ w)) in let Q : SProp 𝓤 = sem 𝓛 (Rows-left l ν δ (w₁ w).1.0) in let Z : SProp 𝓤 = sem 𝓛 (lasts_of κs ss ks a₁ (w₁ w).1.1) in
          via 𝓤 (sep 𝓤 P (sep 𝓤 (emp 𝓤) (sep 𝓤 Q Z))) (lasts-apart 𝓛 κs Rest (left-on l ν δ) bs ks₀ a₀ w) (via 𝓤 (sep 𝓤 P (sep 𝓤 Q Z)) (mono_r 𝓤 P (snd∗ 𝓤 (emp 𝓤) (sep 𝓤 Q Z))) (swaps 𝓛 P Q Z));
      lefts_in = λ w zs. let P : SProp 𝓤 = sem 𝓛 (lasts_of κs bs ks₀ a₀ (w₀ w)) in let Q : SProp 𝓤 = sem 𝓛 (slice_left R (lft_at (suc n) (suc j) ok κs) t.ref_ptr.0 t.ref_ptr.1 t.ghost_name (length t.now) zs) in let Z : SProp 𝓤 = sem 𝓛 (lasts_of κs ss ks a₁ (w₁ w).1.1) in
          via 𝓤 (sep 𝓤 P (sep 𝓤 Q Z)) (swaps 𝓛 Q P Z) (lasts-joined 𝓛 κs bs us ks₀ (yes, ks) a (w₀ w) (zs, (w₁ w).1.1));
    }

    abbrev Asked : Callee → Callee → Callee → Callee → ℕ → Script
    Asked #core #count #fill #answer l = fill-script #core #count #fill #answer N l D.mir T.mir vs₀ vs₁ ps t.ref_ptr.0 t.ref_ptr.1 (length t.now)

    abbrev Entry : SProp 𝓤
    Entry = sep 𝓤 (sep 𝓤 (toks 𝓛 (suc n) κs qs) (sem 𝓛 Owned)) (fact 𝓤 (Needs κs a zeros))

    abbrev Held : List Cell
    Held = held (types_at (bs ++ us) κs) (all_held κs) a

    filling : (#fill : Callee) → Triple 𝓤 (C #fill) (PoolFilling 𝓛 R Wants after) → Fills 𝓛 R (lft_at (suc n) (suc j) ok κs) (share_at (suc n) (suc j) ok qs) t.ref_ptr.0 t.ref_ptr.1 t.ghost_name t.now Toks C #fill ps Copied wants-so filled-so
    filling = by-pool 𝓛 R (lft_at n j ok κs.1) (share_at n j ok qs.1) t.ref_ptr.0 t.ref_ptr.1 t.ghost_name t.now Toks C fm κs.0 qs.0 (pool κs a) (toks-but 𝓛 n j ok κs.1 qs.1) (id⊢ 𝓤 Toks) (id⊢ 𝓤 Toks) Wants after

    -- what a function's own code owes: that its locals are of the types that the lines need, and that the lines ask what is asked here
    abbrev pub Coded : Fn → Callee → Callee → Callee → Callee → List Line → Type 0
    Coded f #core #count #fill #answer ls = Everywhere 𝓤 H f.locals (λ E. Passed 𝓤 H E Held × Fine 𝓤 H E ls (begun 𝓤 H E Held) × ((l : ℕ) × (Asked #core #count #fill #answer l ≡ script 𝓤 H E ls (begun 𝓤 H E Held))))

  abbrev pub Core-known : Callee → Type 1
  Core-known #core = (κs : Lfts (suc n)) (qs : Shares (suc n)) (a : Args S κs) (l ν : ℕ) (δ : GName)
      → ent 𝓤 (Core-pre κs qs a l ν δ) (C #core (vs₀ κs qs a ++ (vint w64 (length (t κs qs a).now) ∷ slice_val (l, 0) N ∷ vs₁ κs qs a)) (Core-post κs qs a l ν δ))

  abbrev pub Are-all : (κs : Lfts (suc n)) → Args S κs → Type 0
  Are-all κs a = Are (types_at (bs ++ us) κs) (Ises (types_at (bs ++ us) κs)) a (valss (types_at (bs ++ us) κs) (spells (types_at (bs ++ us) κs) (all_held κs)) a)

  pub fills-table : (f : Fn) (#core #count #fill #answer : Callee) (ls : List Line) → f.body ≡ code ls
      → ((κs : Lfts (suc n)) (qs : Shares (suc n)) (a : Args S κs) → Are-all κs a → Coded κs qs a f #core #count #fill #answer ls)
      → Room u16 N → ((κs : Lfts (suc n)) → Tellss (types_at (bs ++ us) κs) (Ises (types_at (bs ++ us) κs)) (spells (types_at (bs ++ us) κs) (all_held κs)))
      → ((κs : Lfts (suc n)) (a : Args S κs) → ent 𝓤 (Asks κs a) (fact 𝓤 (Needs κs a (replicate N 0))))
      → Core-known #core → Triple 𝓤 (C #count) (Unary 𝓛 D.row usize (λ d n. n ≡ count_of d)) → Triple 𝓤 (C #answer) (Unary 𝓛 D.row T.row answers) → Triple 𝓤 (C #fill) (PoolFilling 𝓛 R Wants after)
      → ((κs : Lfts (suc n)) (qs : Shares (suc n)) (a : Args S κs) → Copies κs qs a) → ((κs : Lfts (suc n)) (qs : Shares (suc n)) (a : Args S κs) → Is-right κs qs a)
      → Meets 𝓛 S (WpFn 𝓤 H C Λ f) (closing 𝓛 (ending R (suc n) (suc j) ok bs ks₀ ss ks T.row) (stating R (suc n) (suc j) ok bs ks₀ ss ks T.row 𝓤 Asks Says))
  fills-table f #core #count #fill #answer ls e coded big tells need core count answer fill copies right y =
      let κs : Lfts (suc n) = y.0.0 in let qs : Shares (suc n) = y.0.1 in let a : Args S κs = y.0.3 in let Given-all : SProp 𝓤 = sep 𝓤 (toks 𝓛 (suc n) κs qs) (sem 𝓛 (Owned κs qs a)) in
      let Q : Vals S κs → SProp 𝓤 = λ us. wand 𝓤 (Asks κs a) (WpFn 𝓤 H C Λ f (flat (types_at S.params κs) us) (Fn-post κs qs a)) in
      via 𝓤 (sep 𝓤 (Q y.0.4) (Asks κs a))
      (mono_l 𝓤 (Asks κs a) (said 𝓛 S κs qs (spells (types_at (bs ++ us) κs) (all_held κs)) (tells κs) a Q y.0.4
      (λ are. wand_i 𝓤 Given-all (Asks κs a) _ (via 𝓤 (Entry κs qs a) (mono_r 𝓤 Given-all (need κs a))
      (subst (λ (us : List Val). ent 𝓤 (Entry κs qs a) (WpFn 𝓤 H C Λ f us (Fn-post κs qs a))) (sym (flat-held (types_at (bs ++ us) κs) (all_held κs) a))
      (goes-straight 𝓛 C Λ fm (Fn-post κs qs a) f ls (Held κs qs a) (Entry κs qs a) e (mapped 𝓤 H _ _ f.locals (λ E h. (
        h.0,
        h.1,
        subst (λ (s : Script). ent 𝓤 (Entry κs qs a) (meaning 𝓤 H C (Fn-post κs qs a) s)) h.2.1
            (filled-as 𝓛 C R N (lft_at (suc n) (suc j) ok κs) (share_at (suc n) (suc j) ok qs) (t κs qs a).ref_ptr.0 (t κs qs a).ref_ptr.1 (t κs qs a).ghost_name (t κs qs a).now (vs₀ κs qs a) (vs₁ κs qs a) (ps κs qs a) (Copied κs qs a) (wants-so κs qs a) (filled-so κs qs a) (Toks κs qs a) (toks 𝓛 (suc n) κs qs) (TC κs qs a) (fsep (B κs qs a) (X κs qs a)) (Owned κs qs a) (OC κs qs a)
            (WC κs qs a) (WF κs qs a) (λ w. (w₁ κs qs a w).1.0) (others κs qs a) (exit-of κs qs a) (leftsC κs qs a) (leftsF κs qs a) D.row T.row D.mir T.mir (λ zs. fact 𝓤 (Needs κs a zs)) (Core-says κs qs a) count_of answers (Fn-says κs qs a)
            fm big (are-aft κs bs us (cs₀ κs) (slice-cell, cs κs) a are).0.0.1 D.makes T.makes D.typed T.typed #core #count #fill #answer (ordered κs qs a (copies κs qs a)) (core κs qs a) count answer (filling κs qs a #fill fill) (right κs qs a) h.2.0),
      )) (coded κs qs a are))))))))
      (via 𝓤 _ (comm∗ 𝓤 (Q y.0.4) (Asks κs a)) (apply∗ 𝓤 (Asks κs a) _))
