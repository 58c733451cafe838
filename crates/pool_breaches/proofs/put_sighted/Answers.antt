-- `pool_breaches::put_sighted` meets its contract.
use Rattle.std.proofs.Common.{rules}
use Rattle.pool_breaches.proofs.put_sighted.Goals as goal

pub put_records-requires : goal.put_records-requires
put_records-requires c =
    let r = c.requires in
    rw c.new-pool.ensures (
      record {
        room = r.room;
        again_room = r.again_room;
        endless_room = r.endless_room;
        marked = r.marked;
        blank = r.blank;
        noted = r.noted;
        falling = r.falling;
      },
      c.put_pool-found.ensures.few,
    )

pub returns : goal.returns
returns c =
    let kept = c.put_records.ensures.0 in
    let held = c.put_pool-found.ensures.same in
    let all = c.put_records.ensures.1 c.args.faults.now c.put_pool-found.ensures.puts in
    search rules
