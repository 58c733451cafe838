-- Worked pools whose faults and table entries name the object: document 02, request One. Definitions only.
use Rattle.std.specs.Prelude.{ℕ, ◌≡◌, List, [], ◌∷◌, take, replicate}
use Rattle.working_table.specs.declared.Record.{Record}
use Rattle.working_table.specs.Table.{blank, records_after}
use Rattle.faults.specs.Faults.{fault_entry}
use Rattle.checker.specs.Checking.{reported, faults_after}
use Rattle.cases.specs.Pools.{pool_with, pool_p, pool_q, named}

-- an entry of the table by its five numbers
abbrev row : ℕ → ℕ → ℕ → ℕ → ℕ → Record
row start size kind id parent = record { start = start; length = size; kind = kind; id = id; parent = parent }

-- a device element of which no two numbers are alike: ID 0x0605, type 7, a designator of two letters, number 0x0201, parent 0x0403
abbrev pub distinct : List ℕ
distinct = 0x44 ∷ 0x45 ∷ 0x54 ∷ 5 ∷ 6 ∷ 7 ∷ 2 ∷ 0x61 ∷ 0x62 ∷ 1 ∷ 2 ∷ 3 ∷ 4 ∷ 0 ∷ 0 ∷ []

-- what these pools give
pub record Objects : Type 0 where
  -- Q's first 59 bytes: the fault is of device element 2, whose parent is 1
  pub element : reported (take 59 pool_q) ≡ fault_entry 3 6 2 2 1 ∷ []
  -- P's first 31 bytes: a fault of the whole pool has no object
  pub whole_pool : reported (take 31 pool_p) ≡ fault_entry 0 11 1 65535 65535 ∷ []
  -- P with the parent 1: the element is its own parent
  pub own_parent : reported (pool_with 1) ≡ fault_entry 2 9 1 1 1 ∷ []
  -- a device with a designator of 33 characters: a device has the ID 0 and no parent
  pub device : reported (named 33) ≡ fault_entry 0 11 1 65535 65535 ∷ fault_entry 1 4 1 0 65535 ∷ []
  -- a buffer of seven words has room for one fault, and one of four words for none: the words behind the last whole entry stay
  pub one : faults_after (take 59 pool_q) 2048 (replicate 7 9) ≡ 3 ∷ 6 ∷ 2 ∷ 2 ∷ 1 ∷ 9 ∷ 9 ∷ []
  pub none : faults_after (take 59 pool_q) 2048 (replicate 4 9) ≡ replicate 4 9
  -- the table of Q: the parent of an element is the ID that its field has, and the other kinds have 65535
  pub table : records_after pool_q (replicate 5 blank) ≡ row 0 31 1 0 65535 ∷ row 31 13 2 1 0 ∷ row 44 15 2 2 1 ∷ row 59 12 3 3 65535 ∷ blank ∷ []
  -- the table of the element alone, and its faults, of which the first two are of the whole pool: its parent names nothing
  pub entry : records_after distinct (replicate 1 blank) ≡ row 0 15 2 0x0605 0x0403 ∷ []
  pub faults : reported distinct ≡ fault_entry 0 10 1 65535 65535 ∷ fault_entry 0 11 1 65535 65535 ∷ fault_entry 1 6 1 0x0605 0x0403 ∷ []
