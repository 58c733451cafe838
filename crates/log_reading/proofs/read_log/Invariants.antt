-- `log_reading::read_log` meets its contract: the walk over the bytes that are left gives the answer of the whole walk.
use Rattle.std.proofs.Common.{◌≡◌, ◌-◌, ◌≤◌, length}
use Rattle.log_reading.specs.Logs.{walk, log_of}
use Rattle.log_reading.proofs.read_log.Given as goal

abbrev pub invariant-records : goal.invariant-records
invariant-records l =
    record {
      inside : length l.rest ≤ length l.bytes;
      counted : l.count ≤ length l.bytes - length l.rest;
      walked : walk l.layout l.logged (length l.bytes - l.count) (length l.bytes - length l.rest) l.count l.rest ≡ log_of l.layout l.logged l.bytes;
    }

abbrev pub decreases-records : goal.decreases-records
decreases-records l = length l.rest
