-- The listing of a pool as bytes, by the pool's bytes alone: document 01, "Lister and worked lines". Definitions only.
use Rattle.std.specs.Prelude.{ℕ, cond, List, [], ◌∷◌, ◌++◌, eqb, length, take}
use Rattle.faults.specs.Faults.{FaultEntry}
use Rattle.pool.specs.Reading.{Entry, scan_of, entries_in}
use Rattle.checker.specs.Checking.{check_of, reported}
use Rattle.listing.specs.Lines.{count_line, record_line, accepted_line, fault_line, refused_line}

-- a line for each record
unfoldable pub record_lines : List Entry → List ℕ
record_lines [] = []
record_lines (e ∷ es) = record_line e.kind e.id e.start e.size ++ record_lines es

-- a line for each fault
unfoldable pub fault_lines : List FaultEntry → List ℕ
fault_lines [] = []
fault_lines (e ∷ es) = fault_line e.fault.number e.fault.rule e.fault.item e.id e.parent ++ fault_lines es

-- the lines about faults: that there are none, or the first 1,024
unfoldable pub findings : List FaultEntry → List ℕ
findings [] = accepted_line
findings (f ∷ fs) = fault_lines (take 1024 (f ∷ fs))

-- the listing of a pool that is read: the count of its records, a line for each, and the lines about faults
unfoldable pub read_listing : List Entry → List FaultEntry → List ℕ
read_listing es fs = count_line (length es) ++ record_lines es ++ findings fs

-- the whole listing, for a table of 2,048 entries; a refusal is one line
unfoldable pub listing_of : List ℕ → List ℕ
listing_of p =
    cond (eqb (check_of p 2048).number 0) (read_listing (entries_in (scan_of p)) (reported p)) (refused_line (check_of p 2048).number (check_of p 2048).value)
