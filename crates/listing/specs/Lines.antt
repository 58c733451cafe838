-- The lines of a listing as bytes: document 01, "Lister and worked lines". Numbers are in decimal digits. Definitions only.
use Rattle.std.specs.Prelude.{ℕ, List, [], ◌∷◌, ◌++◌, get_or}
use Rattle.records.specs.Layout.{mark}
use Rattle.records.specs.declared.Kind.TheVariants.{Dvc, Det, Dpd, Dpt, Dvp}
use Rattle.decimal.specs.Digits.{digits}

-- a space
abbrev pub space : List ℕ
space = 0x20 ∷ []

-- the end of a line
abbrev pub newline : List ℕ
newline = 0x0A ∷ []

-- "records ": this word and those below include the spaces that separate them from their numbers
abbrev pub records_word : List ℕ
records_word = 0x72 ∷ 0x65 ∷ 0x63 ∷ 0x6F ∷ 0x72 ∷ 0x64 ∷ 0x73 ∷ 0x20 ∷ []

-- " at "
abbrev pub at_word : List ℕ
at_word = 0x20 ∷ 0x61 ∷ 0x74 ∷ 0x20 ∷ []

-- " length "
abbrev pub length_word : List ℕ
length_word = 0x20 ∷ 0x6C ∷ 0x65 ∷ 0x6E ∷ 0x67 ∷ 0x74 ∷ 0x68 ∷ 0x20 ∷ []

-- "fault "
abbrev pub fault_word : List ℕ
fault_word = 0x66 ∷ 0x61 ∷ 0x75 ∷ 0x6C ∷ 0x74 ∷ 0x20 ∷ []

-- "refused "
abbrev pub refused_word : List ℕ
refused_word = 0x72 ∷ 0x65 ∷ 0x66 ∷ 0x75 ∷ 0x73 ∷ 0x65 ∷ 0x64 ∷ 0x20 ∷ []

-- the mark of a kind by the kind's number, which counts from 1; no letters for a number that no kind has
unfoldable pub letters : ℕ → List ℕ
unfolding mark
letters kind = get_or ([] ∷ mark Dvc ∷ mark Det ∷ mark Dpd ∷ mark Dpt ∷ mark Dvp ∷ []) kind []

-- the line for the count of records
unfoldable pub count_line : ℕ → List ℕ
count_line count = records_word ++ digits count ++ newline

-- the line for a record: mark, ID, start and length
unfoldable pub record_line : ℕ → ℕ → ℕ → ℕ → List ℕ
record_line kind id start size = letters kind ++ space ++ digits id ++ at_word ++ digits start ++ length_word ++ digits size ++ newline

-- the line for a pool without faults: "accepted"
unfoldable pub accepted_line : List ℕ
accepted_line = 0x61 ∷ 0x63 ∷ 0x63 ∷ 0x65 ∷ 0x70 ∷ 0x74 ∷ 0x65 ∷ 0x64 ∷ newline

-- the line for a fault: the record's number, the rule, the item, and the object ID and the parent ID of the record
unfoldable pub fault_line : ℕ → ℕ → ℕ → ℕ → ℕ → List ℕ
fault_line number rule item id parent =
    fault_word ++ digits number ++ space ++ digits rule ++ space ++ digits item ++ space ++ digits id ++ space ++ digits parent ++ newline

-- the line for a refusal: its number and its place
unfoldable pub refused_line : ℕ → ℕ → List ℕ
refused_line number place = refused_word ++ digits number ++ space ++ digits place ++ newline
