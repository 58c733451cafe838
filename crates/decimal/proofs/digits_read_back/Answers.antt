-- `decimal::digits_read_back` meets its contract.
use Rattle.decimal.proofs.Reading.{digits-figures, figures-digits}
use Rattle.decimal.proofs.digits_read_back.Goals as goal

pub returns : goal.returns
returns c = (digits-figures, figures-digits)
