-- A session call's step as the numbers that a C caller gets. Definitions only.
use Rattle.faults.specs.Faults.{fault_entry}
use Rattle.session.specs.Calls.{Told}
use Rattle.c_answers.specs.declared.StepFields.{StepFields}

-- the session value is the same; number, place and first fault are those of the reply
abbrev pub step_in : StepFields → Told
step_in r =
    record {
      session = r.session;
      reply = record { number = r.number; place = r.place; first = fault_entry r.«record» r.rule r.item r.id r.parent };
    }
