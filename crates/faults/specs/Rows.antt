-- A rule table as rows of tests, and the faults that it gives. Definitions only.
use Rattle.std.specs.Prelude.{ℕ, zero, suc, ◌+◌, ◌<◌, ◌≡◌, Bool, true, false, ◌&&◌, ◌||◌, eqb, ltb, leb}
use mathlib.Core.List.{List, [], ◌∷◌, ◌++◌, Memᴰ}
use Rattle.faults.specs.Faults.{Fault, fault}

-- a row: the rule, its first item, how many items there are, and which of them, counted from 0, are breaches
pub record Row : Type 0 where
  pub rule : ℕ
  pub first : ℕ
  pub size : ℕ
  pub breach : ℕ → Bool

-- a row of a rule with n items from item k on, and a test for each
abbrev pub many : ℕ → ℕ → ℕ → (ℕ → Bool) → Row
many u k n t = record { rule = u; first = k; size = n; breach = t }

-- a row with a single item
abbrev pub one : ℕ → ℕ → Bool → Row
one u k b = many u k 1 (λ m. b)

-- a list with the fault, if its test holds
abbrev pub if_so : Bool → Fault → List Fault
if_so true f = f ∷ []
if_so false f = []

-- the faults of the first m items of a row, in record n
unfoldable pub up_to : ℕ → Row → ℕ → List Fault
up_to n w zero = []
up_to n w (suc m) = up_to n w m ++ if_so (w.breach m) (fault n w.rule (w.first + m))

-- the faults of a record's rows, one row after the other
unfoldable pub faults_of_rows : ℕ → List Row → List Fault
unfolding up_to
faults_of_rows n [] = []
faults_of_rows n (w ∷ ws) = up_to n w w.size ++ faults_of_rows n ws

-- the faults of the records below n, each with its rows
unfoldable pub in_records : (ℕ → List Row) → ℕ → List Fault
in_records rows zero = []
in_records rows (suc n) = in_records rows n ++ faults_of_rows n (rows n)

-- every fault of a row comes before every fault of another
abbrev pub precedes : Row → Row → Bool
precedes w v = ltb w.rule v.rule || (eqb w.rule v.rule && leb (w.first + w.size) v.first)

-- a row precedes all rows of a list
abbrev pub precedes_all : Row → List Row → Bool
precedes_all w [] = true
precedes_all w (v ∷ vs) = precedes w v && precedes_all w vs

-- the rows are in the order of their faults
abbrev pub in_order : List Row → Bool
in_order [] = true
in_order (w ∷ ws) = precedes_all w ws && in_order ws

-- rows with the same tests, item by item
pub record Alike (w v : Row) : Type 0 where
  pub rule : w.rule ≡ v.rule
  pub first : w.first ≡ v.first
  pub size : w.size ≡ v.size
  pub breach : (m : ℕ) → m < w.size → w.breach m ≡ v.breach m

-- two tables with the same tests, row by row
abbrev pub AllAlike : List Row → List Row → Type 0
AllAlike [] [] = Unit {0}
AllAlike [] (v ∷ vs) = ⊥
AllAlike (w ∷ ws) [] = ⊥
AllAlike (w ∷ ws) (v ∷ vs) = Alike w v × AllAlike ws vs

-- a row without a breach
abbrev pub Clear : Row → Type 0
Clear w = (m : ℕ) → m < w.size → w.breach m ≡ false

-- rows none of which has a breach
abbrev pub AllClear : List Row → Type 0
AllClear [] = Unit {0}
AllClear (w ∷ ws) = Clear w × AllClear ws

-- a fault that is found by one of the rows of the first n records
pub record Found (rows : ℕ → List Row) (n : ℕ) (f : Fault) : Type 0 where
  pub row : Row
  pub offset : ℕ
  pub below : f.number < n
  pub listed : Memᴰ row (rows f.number)
  pub inside : offset < row.size
  pub same_rule : f.rule ≡ row.rule
  pub same_item : f.item ≡ row.first + offset
  pub broken : row.breach offset ≡ true
