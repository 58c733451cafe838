-- `queries::text_in` meets its contract: each arm is a case of the definition.
use Rattle.queries.specs.Queries.{asked_text}
use Rattle.queries.proofs.text_in.Goals as goal

pub returns-in-Some-Dvc : goal.returns-in-Some-Dvc
unfolding asked_text
returns-in-Some-Dvc c = rw (← c.mark.ensures, c.in-Some-Dvc.is, c.in-Some-Dvc.field-0-is, c.device.ensures)

pub returns-in-Some-Det : goal.returns-in-Some-Det
unfolding asked_text
returns-in-Some-Det c = rw (← c.mark.ensures, c.in-Some-Det.is, c.in-Some-Det.field-0-is, c.device_element.ensures)

pub returns-in-Some-Dpd : goal.returns-in-Some-Dpd
unfolding asked_text
returns-in-Some-Dpd c = rw (← c.mark.ensures, c.in-Some-Dpd.is, c.in-Some-Dpd.field-0-is, c.process_data.ensures)

pub returns-in-Some-Dpt : goal.returns-in-Some-Dpt
unfolding asked_text
returns-in-Some-Dpt c = rw (← c.mark.ensures, c.in-Some-Dpt.is, c.in-Some-Dpt.field-0-is, c.property.ensures)

pub returns-in-Some-Dvp : goal.returns-in-Some-Dvp
unfolding asked_text
returns-in-Some-Dvp c = rw (← c.mark.ensures, c.in-Some-Dvp.is, c.in-Some-Dvp.field-0-is, c.value_presentation.ensures)

pub returns-in-None : goal.returns-in-None
unfolding asked_text
returns-in-None c = rw (← c.mark.ensures, c.in-None.is)
