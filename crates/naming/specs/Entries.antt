-- The records of a pool as entries, by the list of their starts. Definitions only.
use Rattle.std.specs.Prelude.{List}
use Rattle.pool.specs.Reading.{Entry}
use Rattle.pool.specs.Walk.{entries_of}
use Rattle.naming.specs.declared.RecordList.{RecordList}

-- the entries of the records in a list
abbrev pub entries_in : RecordList → List Entry
entries_in records = entries_of records.pool.now records.starts.now
