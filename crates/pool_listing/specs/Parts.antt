-- Parts of a listing, written one after the other, for private functions: no public contract rests on these. Definitions only.
use Rattle.std.specs.Prelude.{ℕ, zero, suc, ◌+◌, ◌≡◌, List, [], ◌∷◌, length, get_or, drop}
use Rattle.std.proofs.lemmas.List.Edits.{sets}
use Rattle.faults.specs.Faults.{FaultEntry, fault_entry, width, written}

-- bytes were copied into a buffer at a place, and next is the place after them
pub record Adds (before : List ℕ) (at : ℕ) (bs after : List ℕ) (next : ℕ) : Type 0 where
  pub laid : after ≡ sets before at bs
  pub place : next ≡ at + length bs

-- the first n faults that a buffer holds
unfoldable pub faults_in : ℕ → List ℕ → List FaultEntry
faults_in zero buffer = []
faults_in (suc n) buffer = fault_entry (get_or buffer 0 0) (get_or buffer 1 0) (get_or buffer 2 0) (get_or buffer 3 0) (get_or buffer 4 0) ∷ faults_in n (drop width buffer)

-- a buffer with room for 1,024 faults holds the first of these faults, as checking writes them
pub record Held (buffer : List ℕ) (fs : List FaultEntry) : Type 0 where
  pub before : List ℕ
  pub long : length before ≡ 5120
  pub is : buffer ≡ written before fs
