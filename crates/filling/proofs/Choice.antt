-- A function that tests a slice's length and calls one of two functions with its parameters. These have its contract, except that the one
-- for a short slice may assume what was tested.
--     Asked            a contract, by what is asked
--     picks            such a function meets it
-- Assumes `Logic`.
use mathlib.Core.Path.{◌≡◌, sym, subst}
use Prim.Native.Nat.{ℕ, ◌≤◌}
use mathlib.Core.List.{List, [], ◌∷◌, map}
use lib.Dec.{T, leb, leb→le}
use seplogic.Ra.Ura.{Ura}
use mir.Syntax.{Callee, Ty, Fn, Lifetime, Mutability, w64, ty_ref}
use mir.Val.{Val, Fits, vint, vbool, has_ty}
use base.Logic.{SProp, ent, sep, ex, guard, emp, id⊢, via, mono_r, mono_l, comm∗, wand, wand_i, apply∗}
use prog.Wp.{Calls, Loops, WpFn}
use types.Logic.{Logic, sem}
use contract.Monad.{fact, fact_i}
use contract.Lifetimes.{Lfts, Shares, toks}
use sound.WpLaws.{FmC}
use types.Kit.{‵, raw, ◌⊛◌, some, later, ◌$◌, ◌∵◌, !, qed, move, use1, split, join, pick, await, done, check, show, updating, now as at_once}
use denote.RattleType.{RattleType, flat, owns}
use denote.Laws.{Is, Are, Ises, valss, shows, Tellss}
use denote.Slice.{slice_ty}
use denote.Signature.{Slot, Signature, plain, types_at}
use denote.Steps.{said, peeks}
use denote.Triple.Entry.{Args, Vals}
use denote.Triple.Spec.{Meets, triple_of}
use denote.Triple.Statement.{Contract, Triple}
use denote.Triple.End.{Kepts, Fins, outs, lasts_of}
use denote.Triple.Clauses.{Clauses, Ended, AtExit, closing}
use Rattle.filling.proofs.Cells.{Cell, has, slice, value, Ready, Typed, cell, put}
use Rattle.filling.proofs.Straight.{Line, Script, ends, queries, script, meaning, Fine, ty}
use Rattle.filling.proofs.Entry.{begun, Passed, Everywhere, mapped, choice, goes-either}
use Rattle.filling.proofs.Parameters.{Holds, spells, held, flat-held}
use Rattle.filling.proofs.Calls.{asking}
use Rattle.filling.proofs.Carried.{Carried}

abbrev pub passing : (n : ℕ) → List (Slot n) → RattleType → Signature
passing n us R = record { lifetimes = n; outlives = []; params = us; result = plain (λ _. R) }

module _ {M : Type 1} {𝓤 : Ura M} (𝓛 : Logic 𝓤) (X : Carried 𝓛) (n : ℕ) (us : List (Slot n)) (ks : Kepts us) where
  open 𝓛 use {H}

  abbrev S : Signature
  S = passing n us X.row

  abbrev ended : Ended
  ended = record { signature = S; kept = ks }

  module _ (Says : (κs : Lfts n) → Args S κs → X.row.Denot → AtExit ended κs → SProp 𝓤) where
    abbrev pub stating : ((κs : Lfts n) → Args S κs → SProp 𝓤) → Clauses 𝓤 ended
    stating Asks κs a = record { ghost = Unit {0}; requires = λ _. Asks κs a; ensures = λ _. Says κs a }

    abbrev pub Asked : ((κs : Lfts n) → Args S κs → SProp 𝓤) → Contract 𝓤
    Asked Asks = triple_of 𝓛 S (closing 𝓛 ended (stating Asks))

    module _ (C : Calls 𝓤 H) (Λ : Loops 𝓤 H) (fm : FmC 𝓤 H 𝓛.laws C) (cs : (κs : Lfts n) → Holds (types_at us κs)) (κs : Lfts n) (qs : Shares n) (a : Args S κs) where
      abbrev Given-all : SProp 𝓤
      Given-all = sep 𝓤 (toks 𝓛 n κs qs) (sem 𝓛 (owns (types_at us κs) a (valss (types_at us κs) (spells (types_at us κs) (cs κs)) a)))

      abbrev Held : List Cell
      Held = held (types_at us κs) (cs κs) a

      abbrev Ends : X.row.Denot → SProp 𝓤
      Ends r = ex 𝓤 (λ (w : Fins κs us ks a). sep 𝓤 (sem 𝓛 (lasts_of κs us ks a w)) (Says κs a r (outs κs us ks a w)))

      abbrev Gave : Val → X.row.Denot → SProp 𝓤
      Gave v r = sep 𝓤 (sep 𝓤 (toks 𝓛 n κs qs) (sem 𝓛 (X.row.own_val r (v ∷ [])))) (Ends r)

      abbrev Post : Val → SProp 𝓤
      Post v = H.⇛ (ex 𝓤 (Gave v))

      abbrev Handed : Callee → Script
      Handed #f = queries #f (map value Held) X.mir ends

      -- one of the two answers for the function
      answers-for : (#f : Callee) (Asks : (κs : Lfts n) → Args S κs → SProp 𝓤) → Triple 𝓤 (C #f) (Asked Asks) → ent 𝓤 (emp 𝓤) (Asks κs a) → ent 𝓤 (sep 𝓤 Given-all (emp 𝓤)) (meaning 𝓤 H C Post (Handed #f))
      unfolding meaning
      answers-for #f Asks known met = let vss : Vals S κs = valss (types_at us κs) (spells (types_at us κs) (cs κs)) a in
          qed 𝓛 (raw (sep 𝓤 Given-all (emp 𝓤)) ∷ []) ∵ use1 𝓛 (raw (sep 𝓤 Given-all (Asks κs a))) (mono_r 𝓤 Given-all met) $ updating ! $ at_once ! $
          asking 𝓛 C fm ! #f (map value Held) (sep 𝓤 Given-all (Asks κs a)) Post _ (subst (λ (vs : List Val). ent 𝓤 (sep 𝓤 Given-all (Asks κs a)) (C #f vs Post)) (flat-held (types_at us κs) (cs κs) a) (known ((κs, qs, tt, a, vss), tt))) (λ v. updating {P = guard 𝓤 (Typed X.mir v) (Post v)} ! $
          use1 𝓛 (later (some (λ (r : X.row.Denot). (raw (toks 𝓛 n κs qs) ⊛ ‵ (X.row.own_val r (v ∷ []))) ⊛ raw (Ends r)))) (id⊢ 𝓤 _) $ await ! tt $ pick ! (λ r. split ! $ split ! $ move ! (1 ∷ []) $ peeks ! X.row (Is X.row) (shows 𝓛 X.row) r (v ∷ []) (λ is.
          at_once {P = guard 𝓤 (Typed X.mir v) (Post v)} ! $ check {P = Post v} ! (X.typed r v is) $ updating {P = ex 𝓤 (Gave v)} ! $ at_once {P = ex 𝓤 (Gave v)} ! $ show ! (Gave v) r $ move ! (1 ∷ 0 ∷ []) $ join ! $ done !)))

      -- what the function's own code owes: its locals are of the types that the lines need, and each code hands the parameters on
      abbrev pub Hands-on : Fn → Callee → Callee → ℕ → ℕ → ℕ → ℕ → Lifetime → Mutability → Ty → List Line → List Line → ℕ → ℕ → ℕ → Type 0
      Hands-on f #short #long limit d c i ℓ μ τ ls₁ ls₂ b o k = Everywhere 𝓤 H f.locals (λ E.
          let cs : List Cell = begun 𝓤 H E Held in let cs' : List Cell = put cs d (has (vint w64 k)) in let cs'' : List Cell = put cs' c (has (vbool (leb k limit))) in
          Passed 𝓤 H E Held × (cell cs i ≡ slice b o k) × (ty 𝓤 H E i ≡ slice_ty (ty_ref ℓ μ τ)) × Ready (cell cs d) × T (has_ty (ty 𝓤 H E d) (vint w64 k)) × (cell cs' d ≡ has (vint w64 k)) × Ready (cell cs' c) × T (has_ty (ty 𝓤 H E c) (vbool (leb k limit))) × (cell cs'' c ≡ has (vbool (leb k limit)))
          × Fine 𝓤 H E ls₁ cs'' × Fine 𝓤 H E ls₂ cs'' × (Handed #short ≡ script 𝓤 H E ls₁ cs'') × (Handed #long ≡ script 𝓤 H E ls₂ cs''))

    module _ (C : Calls 𝓤 H) (Λ : Loops 𝓤 H) (fm : FmC 𝓤 H 𝓛.laws C) (cs : (κs : Lfts n) → Holds (types_at us κs)) where
      pub picks : (f : Fn) (#short #long : Callee) (limit d c i : ℕ) (ℓ : Lifetime) (μ : Mutability) (τ : Ty) (ls₁ ls₂ : List Line) (at : (κs : Lfts n) → Args S κs → ℕ × ℕ × ℕ) → f.body ≡ choice d c i limit ls₁ ls₂ → Fits w64 limit
          → ((κs : Lfts n) → Tellss (types_at us κs) (Ises (types_at us κs)) (spells (types_at us κs) (cs κs)))
          → ((κs : Lfts n) (qs : Shares n) (a : Args S κs) → Are (types_at us κs) (Ises (types_at us κs)) a (valss (types_at us κs) (spells (types_at us κs) (cs κs)) a) → Hands-on C Λ fm cs κs qs a f #short #long limit d c i ℓ μ τ ls₁ ls₂ (at κs a).0 (at κs a).1 (at κs a).2)
          → Triple 𝓤 (C #short) (Asked (λ κs a. fact 𝓤 ((at κs a).2 ≤ limit))) → Triple 𝓤 (C #long) (Asked (λ κs a. emp 𝓤))
          → Meets 𝓛 S (WpFn 𝓤 H C Λ f) (closing 𝓛 ended (stating (λ κs a. emp 𝓤)))
      picks f #short #long limit d c i ℓ μ τ ls₁ ls₂ at e fits tells coded short long y =
          let κs : Lfts n = y.0.0 in let qs : Shares n = y.0.1 in let a : Args S κs = y.0.3 in let All : SProp 𝓤 = sep 𝓤 (Given-all C Λ fm cs κs qs a) (emp 𝓤) in
          let Q : Vals S κs → SProp 𝓤 = λ vss. wand 𝓤 (emp 𝓤) (WpFn 𝓤 H C Λ f (flat (types_at us κs) vss) (Post C Λ fm cs κs qs a)) in
          via 𝓤 (sep 𝓤 (Q y.0.4) (emp 𝓤))
          (mono_l 𝓤 (emp 𝓤) (said 𝓛 S κs qs (spells (types_at us κs) (cs κs)) (tells κs) a Q y.0.4
          (λ are. wand_i 𝓤 (Given-all C Λ fm cs κs qs a) (emp 𝓤) _ (subst (λ (vs : List Val). ent 𝓤 All (WpFn 𝓤 H C Λ f vs (Post C Λ fm cs κs qs a))) (sym (flat-held (types_at us κs) (cs κs) a))
          (goes-either 𝓛 C Λ fm (Post C Λ fm cs κs qs a) d c i ℓ μ τ limit ls₁ ls₂ (at κs a).0 (at κs a).1 (at κs a).2 fits f (Held C Λ fm cs κs qs a) All e (mapped 𝓤 H _ _ f.locals (λ E h. (
            h.0,
            (
              h.1,
              h.2,
              h.3,
              h.4,
              h.5,
              h.6,
              h.7,
              h.8,
              h.9,
              h.10,
              (λ less. subst (λ (s : Script). ent 𝓤 All (meaning 𝓤 H C (Post C Λ fm cs κs qs a) s)) h.11 (answers-for C Λ fm cs κs qs a #short (λ κs a. fact 𝓤 ((at κs a).2 ≤ limit)) short (fact_i 𝓤 _ (emp 𝓤) (leb→le (at κs a).2 limit less)))),
              (λ more. subst (λ (s : Script). ent 𝓤 All (meaning 𝓤 H C (Post C Λ fm cs κs qs a) s)) h.12 (answers-for C Λ fm cs κs qs a #long (λ κs a. emp 𝓤) long (id⊢ 𝓤 (emp 𝓤)))),
            ),
          )) (coded κs qs a are)))))))
          (via 𝓤 _ (comm∗ 𝓤 (Q y.0.4) (emp 𝓤)) (apply∗ 𝓤 (emp 𝓤) _))
