-- The worked cases, by computation. Assumes nothing.
use mathlib.Core.Path.{refl}
use Rattle.wire.specs.Bytes.{le_of, number_in, signed_of}
use Rattle.records.specs.Layout.{mark, layout, mark_of}
use Rattle.records.specs.Extents.{field_end, extent_of}
use Rattle.records.specs.Places.{field_at, id_of, parent_id_of}
use Rattle.views.specs.Fields.{device_of, element_of, entry_of, process_data_of, property_of, presentation_of}
use Rattle.pool.specs.Reading.{scan_from, scan_of, read_of}
use Rattle.text.specs.Octets.{width}
use Rattle.text.specs.Characters.{characters_in}
use Rattle.text.specs.Examined.{sound_text}
use Rattle.faults.specs.Rows.{up_to, faults_of_rows, in_records}
use Rattle.naming.specs.Naming.{first_of, named, parent_of, climb, tag_of, among}
use Rattle.rules.specs.Table.{repeats, unsound, doubled, kind_rows, breaches_in, breaches_of}
use Rattle.faults.specs.Faults.{written}
use Rattle.checker.specs.Checking.{check_of, reported, faults_after}
use Rattle.working_table.specs.Table.{records_after}
use Rattle.book.specs.Book.{noted, book_of, said_of}
use Rattle.queries.specs.Queries.{acceptance}
use Rattle.messages.specs.Reading as messages
use Rattle.judging.specs.Judging.{element_for, entry_for, error_of_object, error_of, judge_number, judge_error}
use Rattle.cases.specs.Starred.{cases, Hold}
use Rattle.cases.specs.Worked.{Worked}
use Rattle.cases.specs.Objects.{Objects}

pub computed : Hold cases × Worked × Objects
unfolding le_of number_in signed_of mark layout mark_of field_end extent_of field_at id_of parent_id_of device_of element_of entry_of process_data_of property_of presentation_of scan_from scan_of read_of width characters_in sound_text up_to faults_of_rows in_records first_of named parent_of climb tag_of among repeats unsound doubled kind_rows breaches_in breaches_of written check_of reported faults_after records_after noted book_of said_of acceptance messages.read_of element_for entry_for error_of_object error_of judge_number judge_error
computed = ((refl, (refl, (refl, (refl, (refl, (refl, (refl, (refl, (refl, (refl, (refl, (refl, (refl, (refl, (refl, (refl, tt)))))))))))))))), record { told = refl; kept = refl; still = refl; gone = refl }, record { element = refl; whole_pool = refl; own_parent = refl; device = refl; one = refl; none = refl; table = refl; entry = refl; faults = refl })
