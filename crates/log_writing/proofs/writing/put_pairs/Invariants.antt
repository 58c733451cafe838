-- `log_writing::writing::put_pairs` meets its contract: the bytes with the pairs that are still to be written are the final ones.
use Rattle.std.proofs.Common.{◌≡◌, ◌+◌, ◌*◌, ◌-◌}
use Rattle.std.proofs.lemmas.List.Edits.{sets}
use Rattle.log_writing.specs.Writing.{pairs_from}
use Rattle.log_writing.proofs.writing.put_pairs.Given as goal

abbrev pub invariant-loop-k : goal.invariant-loop-k
invariant-loop-k l =
    sets l.to (l.at + 5 * l.k) (pairs_from l.ordinals l.values l.k (l.n - l.k)) ≡ sets l.initial.to l.at (pairs_from l.ordinals l.values 0 l.n)
