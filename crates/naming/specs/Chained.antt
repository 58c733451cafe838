-- Records by slots of their keys: a head for each slot, and a link from each record to an earlier one. No contract of a call rests on
-- these. Definitions only.
use Rattle.std.specs.Prelude.{ℕ, zero, suc, ◌-◌, ◌≤◌, ◌<◌, ◌≡◌, Bool, true, cond, ◌&&◌, List, eqb, length, get_or}
use Rattle.std.specs.Int.Bits.{bit_and}
use Rattle.pool.specs.Walk.{Divided}
use Rattle.pool.specs.Reading.{Entry}
use Rattle.naming.specs.Records.{id_at, kind_at}
use Rattle.naming.specs.Naming.{first_of}
use Rattle.naming.specs.Lists.{id_in}

-- the slot of a key among m, a power of two: the lowest bits of the key, so that consecutive keys have different slots. At most 65,536 / m
-- keys of 16 bits share a slot
unfoldable pub slot : ℕ → ℕ → ℕ
slot m x = bit_and x (m - 1)

-- whether no record before record i has its key
unfoldable pub opens : (ℕ → ℕ) → ℕ → Bool
opens key i = eqb (first_of key (key i) i) 0

-- the number, from 1, of the last of n records that is the first with its key and whose key has the slot b; 0 for none
unfoldable pub last_of : (ℕ → ℕ) → ℕ → ℕ → ℕ → ℕ
last_of key m b zero = 0
last_of key m b (suc n) = cond (opens key n && eqb (slot m (key n)) b) (suc n) (last_of key m b n)

-- the link of record i: the last such record before it, or 65535 as a mark that an earlier record has its key
unfoldable pub link_of : (ℕ → ℕ) → ℕ → ℕ → ℕ
link_of key m i = cond (opens key i) (last_of key m (slot m (key i)) i) 65535

-- the heads and links of the first n records
pub record Chained (key : ℕ → ℕ) (n : ℕ) (heads next : List ℕ) : Type 0 where
  pub some : 0 < length heads
  pub top : (b : ℕ) → b < length heads → get_or heads b 0 ≡ last_of key (length heads) b n
  pub below : (i : ℕ) → i < n → get_or next (suc i) 0 ≡ link_of key (length heads) i

-- the lists are those of a pool's records, by their IDs
pub record Linked (p starts heads next : List ℕ) : Type 0 where
  pub divided : Divided p starts
  pub room : length starts ≤ length next
  pub chained : Chained (id_in p starts) (length starts - 1) heads next

-- the same as an opaque definition: the laws say what follows from it
unfoldable pub Names : List ℕ → List ℕ → List ℕ → List ℕ → Type 0
Names p starts heads next = Linked p starts heads next

-- no record has the ID of an earlier one
abbrev pub Distinct : List ℕ → List ℕ → Type 0
Distinct p starts = (i : ℕ) → i < length starts - 1 → opens (id_in p starts) i ≡ true

-- every record other than a device has an ID of its own: it is neither 0 nor 65535, and the record is the first that has it
abbrev pub Owned : List Entry → Type 0
Owned es = (i : ℕ) → i < length es → (kind_at es i ≡ 1 → ⊥) → (id_at es i ≡ 0 → ⊥) × (id_at es i ≡ 65535 → ⊥) × (first_of (id_at es) (id_at es i) (length es) ≡ suc i)
