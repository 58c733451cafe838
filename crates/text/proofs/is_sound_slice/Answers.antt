-- `text::is_sound_slice` meets its contract.
use mathlib.Core.Path.{refl, sym, ◌∙◌}
use Rattle.text.proofs.Examining.{sound-marked, sound-counted, sound-ascii}
use Rattle.text.proofs.is_sound_slice.Goals as goal

pub returns-then-is_ascii : goal.returns-then-is_ascii
returns-then-is_ascii c = sym (sound-ascii c.args.s.now c.if-is_ascii.ensures.cases c.if-s-le-MOST.true)

pub returns-then-is_marked : goal.returns-then-is_marked
returns-then-is_marked c = sym (sound-marked c.args.s.now (sym c.is_marked.ensures ∙ c.if-is_marked.true))

pub returns : goal.returns
returns c = c.is_few.ensures ∙ sym (sound-counted c.args.s.now _ (sym c.is_marked.ensures ∙ c.if-is_marked.false) refl)
