-- The first record with an ID, found over the numbers of all records. Assumes nothing.
use Rattle.std.proofs.Common.{◌≡◌, ℕ, ◌-◌, ◌<◌, List, length, get_or, sym, ◌∙◌, subst, arith}
use Rattle.std.specs.Prelude.{Option, None, Some}
use Rattle.std.specs.Option.{MatchOption}
use Rattle.std.specs.List.{AllWithin, HoldsAt, range_with_len}
use Rattle.std.proofs.lemmas.List.FromFn.{length-range_with_len, get_or-range_with_len}
use Rattle.pool.specs.Walk.{entries_of, Divided}
use Rattle.pool.proofs.Starts.{entries-long}
use Rattle.naming.specs.Records.{id_at}
use Rattle.naming.specs.Lists.{id_in}
use Rattle.naming.proofs.First.{to_none}
use Rattle.naming.proofs.Looking.{first_found}
use Rattle.naming.proofs.Starts.{id-read}
use Rattle.queries.specs.Queries.{carrier}
use Rattle.queries.specs.Parts.{numbered}

module _ (p starts : List ℕ) (h : Divided p starts) (id : ℕ) where
  abbrev pub Has : ℕ → Type 0
  Has i = id_in p starts i ≡ id

  abbrev pub Lacks : ℕ → Type 0
  Lacks i = id_in p starts i ≡ id → ⊥

  abbrev all : List ℕ
  all = range_with_len 0 (length starts - 1)

  count : length (entries_of p starts) ≡ length starts - 1
  count = omega (arith, entries-long p starts)

  item : (i : ℕ) → i < length starts - 1 → get_or all i 0 ≡ i
  item i l = get_or-range_with_len 0 (length starts - 1) i 0 l ∙ omega arith

  lacking : (n : ℕ) → n < length starts → AllWithin Lacks all 0 n → (j : ℕ) → j < n → id_at (entries_of p starts) j ≡ id → ⊥
  lacking n b f j l e =
      let k : j < length starts - 1 = omega arith in
      let lacks : Lacks j = rw (item j k) at (f j 0 (omega arith) l) in
      lacks (sym (id-read p starts j (omega arith)) ∙ e)

  pub first-with : (r : Option ℕ) → MatchOption r (AllWithin Lacks all 0 (length all)) (λ i. (i < length all) × HoldsAt Has all i × AllWithin Lacks all 0 i) → numbered r ≡ carrier (entries_of p starts) id
  first-with None f =
      let n : length all ≡ length starts - 1 = length-range_with_len 0 (length starts - 1) in
      sym (to_none (id_at (entries_of p starts)) id (length (entries_of p starts)) (lacking (length (entries_of p starts)) (omega (arith, count, h.some)) (subst (AllWithin Lacks all 0) (n ∙ sym count) f)))
  first-with (Some i) f =
      let n : length all ≡ length starts - 1 = length-range_with_len 0 (length starts - 1) in
      let b : i < length starts - 1 = omega (arith, f.0) in
      let has : Has i = rw (item i b) at (f.1 0) in
      omega (arith, first_found (id_at (entries_of p starts)) id (length (entries_of p starts)) i (omega (arith, count)) (lacking i (omega arith) f.2) (id-read p starts i (omega arith) ∙ has))
