-- `log_reading::take_pairs` meets its contract: the lists with the pairs that are still to be taken are the final ones.
use Rattle.std.proofs.Common.{◌≡◌, ◌+◌, ◌*◌, ◌-◌}
use Rattle.std.proofs.lemmas.List.Edits.{sets}
use Rattle.time_log.specs.Contents.{spaced, signed_from}
use Rattle.log_reading.proofs.take_pairs.Given as goal

abbrev pub invariant-loop-k : goal.invariant-loop-k
invariant-loop-k l =
    (sets l.ordinals l.k (spaced 5 (l.n - l.k) l.bytes (l.at + 5 * l.k)) ≡ sets l.initial.ordinals 0 (spaced 5 l.n l.bytes l.at))
    × (sets l.values l.k (signed_from (l.n - l.k) l.bytes (l.at + 5 * l.k + 1)) ≡ sets l.initial.values 0 (signed_from l.n l.bytes (l.at + 1)))
