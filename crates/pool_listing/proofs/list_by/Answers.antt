-- `pool_listing::list_by` meets its contract: the parts written one after the other are the listing.
use mathlib.Core.Path.{◌≡◌, sym, ap, ◌∙◌}
use mathlib.Core.List.{List, ◌++◌}
use Prim.Native.Nat.{ℕ, ◌+◌, ◌≤◌}
use native.Mathlib.Omega.{arith}
use lib.ListN.{length, take}
use Rattle.pool.specs.Answer.{Answer, answer}
use Rattle.pool.proofs.Judged.{refused-number}
use Rattle.pool.specs.Walk.{entries_of}
use Rattle.checker.specs.Checking.{reported}
use Rattle.checker.specs.Checking.{check_of}
use Rattle.listing.specs.Lines.{count_line, refused_line}
use Rattle.pool_listing.specs.Listing.{record_lines, findings}
use Rattle.pool_listing.proofs.Parts.{adds_then, adds_same, line-adds}
use Rattle.pool_listing.proofs.Lengths.{count-short, refused-short}
use Rattle.pool_listing.proofs.Whole.{refused, room, long, divided, few, whole, found, held}
use Rattle.pool_listing.proofs.list_by.Goals as goal

-- a pool that is listed is read
read : (n : ℕ) (a : Answer) → answer 0 n ≡ a → a.number ≡ 0
read n a e = sym (ap (λ (x : Answer). x.number) e)

pub returns-in-Err : goal.returns-in-Err
returns-in-Err c =
    let a = c.args in
    let n = c.from.result in
    let v = c.place-place.result in
    let answered = c.in-Err.ensures.0 in
    let short : length (refused_line n v) ≤ 50 = refused-short n v (omega arith) (omega arith) in
    let next = line-adds a.out.now 0 (refused_line n v) (omega arith) c.put_refused.ensures in
    (adds_same (refused a.p.now n v (λ z. refused-number c.in-Err.refusal (sym c.from.ensures ∙ z)) (c.from.ensures ∙ ap (λ (x : Answer). x.number) answered) (c.place-place.ensures ∙ ap (λ (x : Answer). x.value) answered)) next, omega (arith, next.place))

pub overflow_add-records : goal.overflow_add-records
overflow_add-records c = let k = c.in-Ok.ensures in omega (arith, few c.args.p.now c.check_by.new.starts (read _ _ k.0) k.2 c.in-Ok.checked.records k.1)

pub slice_bounds-records-end : goal.slice_bounds-records-end
slice_bounds-records-end c = let k = c.in-Ok.ensures in room c.args.p.now c.check_by.new.starts (read _ _ k.0) k.2 c.in-Ok.checked.records k.1

pub slice_bounds-records-end-in-Ok : goal.slice_bounds-records-end-in-Ok
slice_bounds-records-end-in-Ok c = let k = c.in-Ok.ensures in long c.args.p.now c.check_by.new.starts (read _ _ k.0) k.2 c.in-Ok.checked.records k.1

pub invariant_of-records : goal.invariant_of-records
invariant_of-records c = let k = c.in-Ok.ensures in record { divided = divided c.args.p.now c.check_by.new.starts (read _ _ k.0) k.2 c.in-Ok.checked.records k.1 }

pub put_records-next-requires : goal.put_records-next-requires
put_records-next-requires c =
    let a = c.args in
    let k = c.in-Ok.ensures in
    let starts : List ℕ = c.check_by.new.starts in
    let n = c.in-Ok.checked.records in
    let small = few a.p.now starts (read _ _ k.0) k.2 n k.1 in
    let size = long a.p.now starts (read _ _ k.0) k.2 n k.1 in
    let short : length (count_line n) ≤ 13 = count-short n small in
    let first = line-adds a.out.now 0 (count_line n) (omega arith) c.put_count-first.ensures in
    omega (arith, first.place, size, c.put_count-first.auto)

pub put_findings-requires : goal.put_findings-requires
put_findings-requires c =
    let a = c.args in
    let k = c.in-Ok.ensures in
    let starts : List ℕ = c.check_by.new.starts in
    let n = c.in-Ok.checked.records in
    let small = few a.p.now starts (read _ _ k.0) k.2 n k.1 in
    let size = long a.p.now starts (read _ _ k.0) k.2 n k.1 in
    let short : length (count_line n) ≤ 13 = count-short n small in
    let first = line-adds a.out.now 0 (count_line n) (omega arith) c.put_count-first.ensures in
    (omega (arith, c.check_by.auto), omega (arith, first.place, size, c.put_count-first.auto, c.put_records-next.auto, c.put_records-next.ensures.1))

pub returns-in-Ok : goal.returns-in-Ok
returns-in-Ok c =
    let a = c.args in
    let p : List ℕ = a.p.now in
    let k = c.in-Ok.ensures in
    let starts : List ℕ = c.check_by.new.starts in
    let n = c.in-Ok.checked.records in
    let v = c.in-Ok.checked.faults in
    let z : (check_of p 2048).number ≡ 0 = read _ _ k.0 in
    let small = few p starts z k.2 n k.1 in
    let size = long p starts z k.2 n k.1 in
    let short : length (count_line n) ≤ 13 = count-short n small in
    let first = line-adds a.out.now 0 (count_line n) (omega (arith, c.requires.2)) c.put_count-first.ensures in
    let lines : List ℕ = record_lines (entries_of p (take (n + 1) starts)) in
    let last = c.put_findings.ensures.0 (reported p) (held p starts z k.2 n k.1 a.faults.now _ c.requires.1 k.3) (found p starts z k.2 n k.1 v (ap (λ (x : Answer). x.value) k.0)) in (
      adds_same (whole p starts z k.2 n k.1) (adds_then (count_line n ++ lines) (findings (reported p)) (adds_then (count_line n) lines first c.put_records-next.ensures.0) last),
      omega (arith, first.place, size, c.put_records-next.ensures.1, c.put_findings.ensures.1),
    )
