-- `pool_listing::put_records` meets its contract: the lines of the records passed so far are written.
use mathlib.Core.Path.{◌≡◌, sym, ap, ◌∙◌}
use mathlib.Core.List.{List, [], ◌∷◌, ◌++◌}
use Prim.Native.Nat.{ℕ, ◌+◌, ◌-◌, ◌≤◌, ◌<◌}
use native.Mathlib.Omega.{arith}
use native.Mathlib.Numerals.{add-one}
use lib.ListN.{length, length-append, get_or, take, drop}
use Rattle.std.proofs.lemmas.Slice.Zip.{zip_turn, zip_end}
use Rattle.records.specs.Layout.{mark_code, mark_of, three}
use Rattle.records.specs.Places.{id_of}
use Rattle.pool.specs.Walk.{entries_of}
use Rattle.pool.proofs.Starts.{starts-stretch, starts-marked}
use Rattle.listing.specs.Lines.{record_line}
use Rattle.pool_listing.specs.Listing.{record_lines}
use Rattle.pool_listing.proofs.Parts.{adds_none, adds_then, adds_same, line-adds}
use Rattle.pool_listing.proofs.Lengths.{record-short}
use Rattle.pool_listing.proofs.Records.{no-records, record-more, record-all, rest-at, rest-long}
use Rattle.pool_listing.proofs.put_records.Goals as goal
use Rattle.pool_listing.proofs.put_records.Goals.{In-Some}

pub loop-start-init : goal.loop-start-init
loop-start-init c =
    let a = c.args in
    (adds_same (sym (no-records (entries_of a.records.now.pool.now a.records.now.starts.now))) (adds_none a.out.now a.from), omega arith)

-- what a turn passes: the start of a record, and that of the next one
turn : (c : In-Some) → (length c.loop-start.yielded + 1 < length c.args.records.now.starts.now)
    × (c.in-Some.start.now ≡ get_or c.args.records.now.starts.now (length c.loop-start.yielded) 0)
    × (c.in-Some.end.now ≡ get_or c.args.records.now.starts.now (length c.loop-start.yielded + 1) 0)
turn c =
    let i : ℕ = length c.loop-start.yielded in
    let starts : List ℕ = c.args.records.now.starts.now in
    let rest : List ℕ = take (length starts - 1) (drop 1 starts) in
    let first : c.into_iter-start-iterator.result.a.rest.now ≡ starts = cc in
    let second : c.into_iter-start-iterator.result.b.rest.now ≡ rest = cc (c.zip-start-items.ensures.second.0) in
    let t = zip_turn starts rest c.loop-start.yielded c.into_iter-start-iterator.result c.loop-start.start-iterator c.next.new.self c.next.result first second c.loop-start.yielded_by (c.in-Some.start, c.in-Some.end) c.in-Some.is c.next.ensures.steps in
    let long = rest-long c.args.records.now.pool.now starts in
    let within : i < length starts - 1 = omega (arith, t.1) in
    (omega arith, t.2 0, t.3 0 ∙ rest-at c.args.records.now.pool.now starts i within)

pub overflow_sub-end : goal.overflow_sub-end
overflow_sub-end c =
    let records = c.args.records.now in
    let i : ℕ = length c.loop-start.yielded in
    let t = turn (goal.at.overflow_sub-end c).In-Some in
    rw (t.1, t.2, add-one i) (omega (arith, (starts-stretch records.pool.now records.starts.now records.divided i (omega (arith, t.0))).later))

pub kind_number-requires : goal.kind_number-requires
kind_number-requires c =
    let records = c.args.records.now in
    let t = turn (goal.at.kind_number-requires c).In-Some in
    rw t.1 (starts-marked records.pool.now records.starts.now records.divided (length c.loop-start.yielded) (omega (arith, t.0)))

pub loop-start-preserved : goal.loop-start-preserved
loop-start-preserved c =
    let records = c.args.records.now in
    let p : List ℕ = records.pool.now in
    let starts : List ℕ = records.starts.now in
    let l = c.loop-start in
    let i : ℕ = length l.yielded in
    let t = turn (goal.at.loop-start-preserved c).In-Some in
    let start : ℕ = get_or starts i 0 in
    let size : ℕ = get_or starts (i + 1) 0 - start in
    let kind = c.kind_number.result in
    let id = c.id.result in
    let line : List ℕ = record_line kind id start size in
    let kind-is = rw t.1 at c.kind_number.ensures in
    let id-is = rw t.1 at c.id.ensures in
    let is : line ≡ record_line (mark_code (mark_of (three p start))) (id_of p start) start size = ap (λ (k : ℕ). record_line k id start size) kind-is ∙ ap (λ (x : ℕ). record_line (mark_code (mark_of (three p start))) x start size) id-is in
    let stretch = starts-stretch p starts records.divided i (omega (arith, t.0)) in
    let bounded = records.divided.short in
    let short : length line ≤ 32 = record-short kind id start size (omega arith) (omega (arith, stretch.later, stretch.within)) (omega (arith, add-one i, stretch.later, stretch.within)) in
    let put = rw (t.1, t.2) at c.put_record-at.ensures in
    let next = line-adds l.out l.at line (omega (arith, t.0)) put in
    let n : length (l.yielded ++ (c.in-Some.start, c.in-Some.end) ∷ []) ≡ i + 1 = length-append l.yielded _ in
    rw n (
      adds_same (ap (λ (x : List ℕ). record_lines (take i (entries_of p starts)) ++ x) is ∙ sym (record-more p starts i t.0)) (adds_then (record_lines (take i (entries_of p starts))) line l.invariant.0 next),
      omega (arith, next.place),
    )

pub returns : goal.returns
returns c =
    let l = c.loop-start in
    let i : ℕ = length l.yielded in
    let starts : List ℕ = c.args.records.now.starts.now in
    let rest : List ℕ = take (length starts - 1) (drop 1 starts) in
    let first : c.into_iter-start-iterator.result.a.rest.now ≡ starts = cc in
    let second : c.into_iter-start-iterator.result.b.rest.now ≡ rest = cc (c.zip-start-items.ensures.second.0) in
    let long = rest-long c.args.records.now.pool.now starts in
    let end = zip_end starts rest l.yielded c.into_iter-start-iterator.result l.start-iterator c.next.new.self c.next.result first second l.yielded_by c.in-None.is c.next.ensures.steps in
    (adds_same (record-all c.args.records.now.pool.now starts i (omega arith)) l.invariant.0, omega (arith, c.args.records.now.divided.some))
