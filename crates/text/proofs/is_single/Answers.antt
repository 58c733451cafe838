-- `text::is_single` meets its contract.
use Rattle.wire.proofs.Either.{both}
use Rattle.text.proofs.Words.{covered}
use Rattle.text.proofs.is_single.Goals as goal

pub returns : goal.returns
returns c e =
    let a = c.args in
    let three = both _ _ e in
    let two = both _ _ three.0 in
    let one = both _ _ two.0 in
    covered a.p.now a.from a.n c.requires.1
    (c.is_single_word.ensures one.0)
    (c.is_single_word-2.ensures one.1)
    (c.is_single_word-3.ensures two.1)
    (c.is_single_word-4.ensures three.1)
