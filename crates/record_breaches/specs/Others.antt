-- Where a record that is not a device element stands, and its rows. Definitions only.
use Rattle.std.specs.Prelude.{ℕ, List}
use Rattle.faults.specs.Rows.{Row}
use Rattle.pool.specs.Reading.{Entry}
use Rattle.naming.specs.Entries.{entries_in}
use Rattle.rules.specs.Table.{record_rows}
use Rattle.record_breaches.specs.declared.other.OtherRecord.{OtherRecord}

-- the pool that the record is in
abbrev pub pool_around : OtherRecord → List ℕ
pool_around r = r.pool.now.names.records.pool.now

-- the records of that pool
abbrev pub records_around : OtherRecord → List Entry
records_around r = entries_in r.pool.now.names.records

-- its rows
abbrev pub other_rows : OtherRecord → List Row
other_rows r = record_rows (pool_around r) (records_around r) r.i
