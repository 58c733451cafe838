-- `text::is_few` meets its contract: the characters passed so far and those still to be counted make up the whole count.
use mathlib.Core.Path.{◌≡◌}
use Rattle.text.specs.Characters.{characters_in, plus}
use Rattle.text.proofs.is_few.Given as goal

abbrev pub invariant-loop : goal.invariant-loop
invariant-loop l = plus l.counter (characters_in 0 l.rest) ≡ characters_in 0 l.s
