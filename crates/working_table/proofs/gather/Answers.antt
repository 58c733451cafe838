-- `working_table::gather`: a turn fills one more entry of the part that is lent on, and the entries behind that part stay.
use Rattle.std.proofs.Common.{arith, sym, ◌∙◌, ap, add-one, ◌++◌, ◌≡◌}
use Rattle.std.proofs.lemmas.List.{length-take-le, take-append-drop}
use Rattle.std.proofs.Math.ListN.{set, take, drop}
use Rattle.working_table.specs.Rows.{gathered}
use Rattle.working_table.proofs.Gathered.{gathered_none, gathered_next, gathered-front}
use Rattle.working_table.proofs.gather.Goals as goal

pub loop-i-init : goal.loop-i-init
loop-i-init c = sym (gathered_none c.args.p.now c.args.starts.now (take c.args.count c.args.table.now))

pub loop-i-preserved : goal.loop-i-preserved
loop-i-preserved c =
    let a = c.args in
    let i = c.loop-i.i in
    rw add-one (ap (λ t. set t i c.row_at.result) c.loop-i.invariant ∙ ap (set _ i) c.row_at.ensures ∙ sym (gathered_next a.p.now a.starts.now i (take a.count a.table.now)))

pub returns : goal.returns
returns c =
    let a = c.args in
    let long = length-take-le a.count a.table.now c.requires.room in
    let all : c.loop-i.i ≡ a.count = omega (arith, long, c.loop-i-test.false, c.loop-i.auto.i-end) in
    ap (λ t. t ++ drop a.count a.table.now) (c.loop-i.invariant ∙ ap (λ n. gathered a.p.now a.starts.now n (take a.count a.table.now)) all)
    ∙ sym (gathered-front a.p.now a.starts.now a.count (take a.count a.table.now) (drop a.count a.table.now) (omega (arith, long)))
    ∙ ap (gathered a.p.now a.starts.now a.count) (take-append-drop a.count a.table.now)
