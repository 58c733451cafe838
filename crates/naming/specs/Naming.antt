-- The first record with a key, what an ID names, and chains of parents, as functions. Definitions only.
use Rattle.std.specs.Prelude.{ℕ, zero, suc, ◌+◌, Bool, false, cond, ◌&&◌, ◌||◌, List, eqb, length}
use Rattle.wire.specs.Bytes.{number_in}
use Rattle.views.specs.Fields.{element_of}
use Rattle.pool.specs.Reading.{Entry}
use Rattle.naming.specs.Records.{start_at, id_at, kind_at}

-- the first number, or the second if the first is 0
abbrev pub or_else : ℕ → ℕ → ℕ
or_else zero b = b
or_else (suc a) b = suc a

-- the number, from 1, of the first of n records whose key is x; 0 if there is none
unfoldable pub first_of : (ℕ → ℕ) → ℕ → ℕ → ℕ
first_of key x zero = 0
first_of key x (suc n) = or_else (first_of key x n) (cond (eqb (key n) x) (suc n) 0)

-- a device element's element number plus 1; 0 for any other record, so that it never equals the key of a device element
abbrev pub element_key : List ℕ → List Entry → ℕ → ℕ
element_key p es i = cond (eqb (kind_at es i) 2) (suc (element_of p (start_at es i)).number) 0

-- a device element's type; for any other record 256, which no byte is
abbrev pub type_key : List ℕ → List Entry → ℕ → ℕ
type_key p es i = cond (eqb (kind_at es i) 2) (element_of p (start_at es i)).element_type 256

-- the number, from 1, of the record that an ID names, 0 for none
unfoldable pub named : List Entry → ℕ → ℕ
named es x = cond (eqb x 65535) 0 (first_of (id_at es) x (length es))

-- the kind of the record with a number from 1, 0 for none
abbrev pub kind_of : List Entry → ℕ → ℕ
kind_of es zero = 0
kind_of es (suc i) = kind_at es i

-- the number, from 1, of the device element that the parent of a device element names; 0 where the chain ends
unfoldable pub parent_of : List ℕ → List Entry → ℕ → ℕ
parent_of p es zero = 0
parent_of p es (suc i) =
    let r = named es (element_of p (start_at es i)).parent in
    cond (eqb (kind_at es i) 2 && eqb (kind_of es r) 2) r 0

-- where n steps of f lead from r
unfoldable pub climb : (ℕ → ℕ) → ℕ → ℕ → ℕ
climb f zero r = r
climb f (suc n) r = climb f n (f r)

-- the DDI of the record with a number from 1, for process data and properties
abbrev pub ddi_of : List ℕ → List Entry → ℕ → ℕ
ddi_of p es zero = 0
ddi_of p es (suc i) = number_in 2 p (start_at es i + 5)

-- a kind that an entry of a list may name: process data or a property
abbrev pub is_data_kind : ℕ → Bool
is_data_kind k = eqb k 3 || eqb k 4

-- the tag of the record with number r: its DDI plus 1 if it is process data or a property, else 0
unfoldable pub tag_of : List ℕ → List Entry → ℕ → ℕ
tag_of p es r = cond (is_data_kind (kind_of es r)) (suc (ddi_of p es r)) 0

-- whether x is among the first n values of f
unfoldable pub among : (ℕ → ℕ) → ℕ → ℕ → Bool
among f x zero = false
among f x (suc n) = among f x n || eqb (f n) x
