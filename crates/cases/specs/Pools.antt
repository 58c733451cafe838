-- The pools of document 01's worked lines. Definitions only.
use Rattle.std.specs.Prelude.{ℕ, List, [], ◌∷◌, ◌++◌, replicate}

-- P's device: empty texts, a NAME of zeros, a structure label of seven ones, a localization label
abbrev pub device : List ℕ
device =
    0x44 ∷ 0x56 ∷ 0x43 ∷ 0 ∷ 0 ∷ 0 ∷ 0 ∷ []
    ++ replicate 8 0 ++ 0 ∷ []
    ++ replicate 7 1 ++ 0x65 ∷ 0x6E ∷ 0 ∷ 0 ∷ 0 ∷ 0 ∷ 0xFF ∷ 0 ∷ []

-- P with a given parent ID of its device element
abbrev pub pool_with : ℕ → List ℕ
pool_with parent = device ++ 0x44 ∷ 0x45 ∷ 0x54 ∷ 1 ∷ 0 ∷ 1 ∷ 0 ∷ 0 ∷ 0 ∷ parent ∷ 0 ∷ 0 ∷ 0 ∷ []

-- P of document 01: a device and a device element
abbrev pub pool_p : List ℕ
pool_p = pool_with 0

-- Q of document 01: P, a device element with one entry, and the process data that it names
abbrev pub pool_q : List ℕ
pool_q =
    pool_p
    ++ 0x44 ∷ 0x45 ∷ 0x54 ∷ 2 ∷ 0 ∷ 4 ∷ 0 ∷ 1 ∷ 0 ∷ 1 ∷ 0 ∷ 1 ∷ 0 ∷ 3 ∷ 0 ∷ []
    ++ 0x44 ∷ 0x50 ∷ 0x44 ∷ 3 ∷ 0 ∷ 0x8D ∷ 0 ∷ 1 ∷ 9 ∷ 0 ∷ 0xFF ∷ 0xFF ∷ []

-- a device whose designator length is n, with that many bytes of text
abbrev pub named : ℕ → List ℕ
named n =
    0x44 ∷ 0x56 ∷ 0x43 ∷ 0 ∷ 0 ∷ n ∷ []
    ++ replicate n 0x61 ++ 0 ∷ []
    ++ replicate 8 0 ++ 0 ∷ []
    ++ replicate 7 1 ++ 0x65 ∷ 0x6E ∷ 0 ∷ 0 ∷ 0 ∷ 0 ∷ 0xFF ∷ 0 ∷ []
