-- The worked listings, by computation. Assumes nothing.
use mathlib.Core.Path.{refl}
use Rattle.wire.specs.Bytes.{le_of, number_in}
use Rattle.records.specs.Layout.{mark, layout, mark_of}
use Rattle.records.specs.Extents.{field_end, extent_of}
use Rattle.records.specs.Places.{field_at, id_of, parent_id_of}
use Rattle.views.specs.Fields.{device_of, element_of, entry_of, process_data_of, property_of, presentation_of}
use Rattle.pool.specs.Reading.{scan_from, scan_of, read_of}
use Rattle.text.specs.Octets.{width}
use Rattle.text.specs.Characters.{characters_in}
use Rattle.text.specs.Examined.{sound_text}
use Rattle.faults.specs.Rows.{up_to, faults_of_rows, in_records}
use Rattle.naming.specs.Naming.{first_of, named, parent_of, climb, tag_of, among}
use Rattle.rules.specs.Table.{repeats, unsound, doubled, kind_rows, breaches_in, breaches_of}
use Rattle.checker.specs.Checking.{check_of, reported}
use Rattle.decimal.specs.Digits.{digits_in, digits}
use Rattle.listing.specs.Lines.{letters, count_line, record_line, accepted_line, fault_line, refused_line}
use Rattle.pool_listing.specs.Listing.{record_lines, fault_lines, findings, read_listing, listing_of}
use Rattle.cases.specs.Listings.{Listings}

pub listed : Listings
unfolding le_of number_in mark layout mark_of field_end extent_of field_at id_of parent_id_of device_of element_of entry_of process_data_of property_of presentation_of scan_from scan_of read_of width characters_in sound_text up_to faults_of_rows in_records first_of named parent_of climb tag_of among repeats unsound doubled kind_rows breaches_in breaches_of check_of reported digits_in digits letters count_line record_line accepted_line fault_line refused_line record_lines fault_lines findings read_listing listing_of
listed = record { accepted = refl; faulty = refl; refused = refl }
