-- A message that is read, as the numbers that a C caller gets. Definitions only.
use Rattle.messages.specs.Reading.{Fields}
use Rattle.c_answers.specs.declared.MessageFields.{MessageFields}

-- the fields of a C caller's message, as the record that reading is defined by
abbrev pub fields_in : MessageFields → Fields
fields_in m =
    record {
      number = m.number;
      command = m.command;
      element = m.element;
      ddi = m.ddi;
      value = m.value;
      errors = m.errors;
      answered = m.answered;
    }
