-- What the claims take as the promise of a contract is the whole of it, and the contract asks nothing of its caller.
use Rattle.book.specs.Says.{Exactly}
use Rattle.terminal.specs.contracts.lachsbrille_read as read-c
use Rattle.terminal.specs.contracts.lachsbrille_check as check-c
use Rattle.terminal.specs.contracts.lachsbrille_text_is_sound as sound-c
use Rattle.terminal.specs.contracts.lachsbrille_text as text-c
use Rattle.terminal.specs.contracts.lachsbrille_labels as labels-c
use Rattle.terminal.specs.contracts.exchange.lachsbrille_judge as judge-c
use Rattle.c_functions.specs.Pools.{read_says, read_promises, check_says, check_promises, sound_says, sound_promises, text_says, text_promises, labels_says, labels_promises, judge_says, judge_promises}
use Rattle.terminal.specs.contracts.lachsbrille_version as version-c
use Rattle.terminal.specs.contracts.objects.lachsbrille_read_device as device-c
use Rattle.terminal.specs.contracts.objects.lachsbrille_read_element as element-c
use Rattle.terminal.specs.contracts.objects.lachsbrille_read_entry as entry-c
use Rattle.terminal.specs.contracts.objects.lachsbrille_read_process_data as data-c
use Rattle.terminal.specs.contracts.objects.lachsbrille_read_property as property-c
use Rattle.terminal.specs.contracts.objects.lachsbrille_read_presentation as presentation-c
use Rattle.c_functions.specs.Objects.{version_says, version_promises, device_says, device_promises, element_says, element_promises, entry_says, entry_promises, data_says, data_promises, property_says, property_promises, presentation_says, presentation_promises}
use Rattle.terminal.specs.contracts.exchange.lachsbrille_message_read as message-c
use Rattle.terminal.specs.contracts.exchange.lachsbrille_message_write_value as value-c
use Rattle.terminal.specs.contracts.exchange.lachsbrille_message_write_acknowledge as acknowledge-c
use Rattle.terminal.specs.contracts.display.lachsbrille_displayed as displayed-c
use Rattle.c_functions.specs.Exchange.{message_says, message_promises, value_says, value_promises, acknowledge_says, acknowledge_promises, displayed_says, displayed_promises}
use Rattle.terminal.specs.contracts.logs.lachsbrille_log_optional_fields as fields-c
use Rattle.terminal.specs.contracts.logs.lachsbrille_log_read_record as record-c
use Rattle.terminal.specs.contracts.logs.lachsbrille_log_write_record as written-c
use Rattle.terminal.specs.contracts.logs.lachsbrille_log_read as log-c
use Rattle.c_functions.specs.Logs.{fields_says, fields_promises, record_says, record_promises, written_says, written_promises, log_says, log_promises}

pub read-exact : Exactly read-c.ended (λ M 𝓤 𝓛. read-c.clauses 𝓛) read_promises
read-exact = read_says.exact

pub check-exact : Exactly check-c.ended (λ M 𝓤 𝓛. check-c.clauses 𝓛) check_promises
check-exact = check_says.exact

pub sound-exact : Exactly sound-c.ended (λ M 𝓤 𝓛. sound-c.clauses 𝓛) sound_promises
sound-exact = sound_says.exact

pub text-exact : Exactly text-c.ended (λ M 𝓤 𝓛. text-c.clauses 𝓛) text_promises
text-exact = text_says.exact

pub labels-exact : Exactly labels-c.ended (λ M 𝓤 𝓛. labels-c.clauses 𝓛) labels_promises
labels-exact = labels_says.exact

pub judge-exact : Exactly judge-c.ended (λ M 𝓤 𝓛. judge-c.clauses 𝓛) judge_promises
judge-exact = judge_says.exact

pub version-exact : Exactly version-c.ended (λ M 𝓤 𝓛. version-c.clauses 𝓛) version_promises
version-exact = version_says.exact

pub device-exact : Exactly device-c.ended (λ M 𝓤 𝓛. device-c.clauses 𝓛) device_promises
device-exact = device_says.exact

pub element-exact : Exactly element-c.ended (λ M 𝓤 𝓛. element-c.clauses 𝓛) element_promises
element-exact = element_says.exact

pub entry-exact : Exactly entry-c.ended (λ M 𝓤 𝓛. entry-c.clauses 𝓛) entry_promises
entry-exact = entry_says.exact

pub data-exact : Exactly data-c.ended (λ M 𝓤 𝓛. data-c.clauses 𝓛) data_promises
data-exact = data_says.exact

pub property-exact : Exactly property-c.ended (λ M 𝓤 𝓛. property-c.clauses 𝓛) property_promises
property-exact = property_says.exact

pub presentation-exact : Exactly presentation-c.ended (λ M 𝓤 𝓛. presentation-c.clauses 𝓛) presentation_promises
presentation-exact = presentation_says.exact

pub message-exact : Exactly message-c.ended (λ M 𝓤 𝓛. message-c.clauses 𝓛) message_promises
message-exact = message_says.exact

pub value-exact : Exactly value-c.ended (λ M 𝓤 𝓛. value-c.clauses 𝓛) value_promises
value-exact = value_says.exact

pub acknowledge-exact : Exactly acknowledge-c.ended (λ M 𝓤 𝓛. acknowledge-c.clauses 𝓛) acknowledge_promises
acknowledge-exact = acknowledge_says.exact

pub displayed-exact : Exactly displayed-c.ended (λ M 𝓤 𝓛. displayed-c.clauses 𝓛) displayed_promises
displayed-exact = displayed_says.exact

pub fields-exact : Exactly fields-c.ended (λ M 𝓤 𝓛. fields-c.clauses 𝓛) fields_promises
fields-exact = fields_says.exact

pub record-exact : Exactly record-c.ended (λ M 𝓤 𝓛. record-c.clauses 𝓛) record_promises
record-exact = record_says.exact

pub written-exact : Exactly written-c.ended (λ M 𝓤 𝓛. written-c.clauses 𝓛) written_promises
written-exact = written_says.exact

pub log-exact : Exactly log-c.ended (λ M 𝓤 𝓛. log-c.clauses 𝓛) log_promises
log-exact = log_says.exact
