-- `records::record_extent` meets its contract.
use mathlib.Core.Path.{◌≡◌, sym, ap, ◌∙◌}
use mathlib.Core.List.{List}
use Prim.Native.Nat.{ℕ, ◌+◌, ◌≤◌}
use native.Mathlib.Omega.{arith}
use lib.ListN.{length}
use Rattle.std.specs.Prelude.{Option, Some, None, Result, Err, ok_or}
use Rattle.std.proofs.lemmas.Result.{err_from_is_err_and}
use Rattle.records.specs.Layout.{mark_of, three}
use Rattle.records.specs.Extents.{marked_end, extent_of}
use Rattle.records.specs.Answer.{extent_answer}
use Rattle.records.specs.declared.Kind.{Kind}
use Rattle.records.specs.declared.Flaw.{Flaw}
use Rattle.records.specs.declared.Flaw.TheVariants.{NoMark}
use Rattle.records.proofs.Ends.{mark-cut, mark-whole}
use Rattle.records.proofs.record_extent.Goals as goal

-- an extent, and by the numbers
told : (at : ℕ) {x y : Result ℕ Flaw} → x ≡ y → (x ≡ y) × (extent_answer at x ≡ extent_answer at y)
told at e = (e, ap (extent_answer at) e)

-- the extent by the mark that was read
by-mark : (p : List ℕ) (at : ℕ) → at + 3 ≤ length p → (m mark : Option Kind) → m ≡ mark_of (three p at) → m ≡ mark → marked_end mark p (at + 3) ≡ extent_of p at
by-mark p at h m mark is e = ap (λ (k : Option Kind). marked_end k p (at + 3)) (sym e ∙ is) ∙ sym (mark-whole p at h)

unmarked : (m : Option Kind) (flaw : Flaw) → m ≡ None → ◌≡◌ {A = Result Kind Flaw} (Err flaw) (ok_or m NoMark) → flaw ≡ NoMark
unmarked m flaw none e = let is : ◌≡◌ {A = Result Kind Flaw} (Err flaw) (Err NoMark) = rw none at e in cc

pub returns-then-p-at : goal.returns-then-p-at
returns-then-p-at c = told c.args.at (sym (mark-cut c.args.p.now c.args.at (omega arith)))

pub returns-in_err-kind : goal.returns-in_err-kind
returns-in_err-kind c =
    let a = c.args in
    let q = err_from_is_err_and c.from_residual.result c.from_residual.ensures.1 in
    let none = c.in_err-kind.ensures.ok_part in
    let flaw = unmarked c.mark_of.result _ none c.in_err-kind.ensures.value in
    told a.at (rw (q.1, q.2, flaw) (by-mark a.p.now a.at (omega arith) c.mark_of.result None c.mark_of.ensures none))

pub returns : goal.returns
returns c =
    let a = c.args in
    told a.at (c.marked.ensures.exact ∙ by-mark a.p.now a.at (omega arith) c.mark_of.result (Some c.in_ok-kind.kind) c.mark_of.ensures c.in_ok-kind.ensures.ok_part)
