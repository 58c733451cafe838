-- What `device_pool::text` gives: a text as a slice of the pool that was lent, tied to the whole of its contract. Definitions only.
use Rattle.std.specs.Prelude.{ℕ, ◌≡◌, refl, List, ◌++◌, length}
use denote.Bor.{Bor}
use denote.MutBor.{MutBor, at_last}
use contract.Lifetimes.{Lfts}
use Rattle.wire.specs.Parts.{place_in}
use Rattle.working_table.specs.declared.Record.{Record}
use Rattle.claims.specs.Reads.{Filled}
use Rattle.queries.specs.Queries.{text_number, text_span, text_of}
use Rattle.book.specs.Says.{Claim, Says}
use Rattle.device_pool.specs.contracts.text as text-rattle

-- what the contract says: its own text, which `refl` holds to the whole of the contract, so it asks nothing of its caller and no
-- clause can be left out
abbrev pub text_says : Says text-rattle.ended (λ M 𝓤 𝓛. text-rattle.clauses 𝓛)
text_says = record { Learnt = _; exact = λ w. refl }

abbrev pub text_promises : Claim text-rattle.ended
text_promises = text_says.Learnt

-- a slice is a part of another, in the same memory: it points behind the bytes that stand before its own
pub record PartOf (p r : Bor (List ℕ)) : Type 0 where
  pub before : List ℕ
  pub after : List ℕ
  pub bytes : p.now ≡ before ++ (r.now ++ after)
  pub place : r.ref_ptr ≡ place_in p (length before)

-- a text given: the number and the bytes, of which `QueriesAreParts` says by the division what they mean; it points to where the
-- text stands, after a refusal to the pool's start, and lies in the pool that was lent
pub record TextGiven (p : Bor (List ℕ)) (before : List Record) (id : ℕ) (r : Bor (List ℕ)) (number : ℕ) (left : List Record) : Type 0 where
  pub answered : number ≡ text_number p.now (length before) id
  pub bytes : r.now ≡ text_of p.now (length before) id
  pub place : r.ref_ptr ≡ place_in p (text_span p.now (length before) id).from
  pub part : PartOf p r
  pub table : Filled p.now before left

-- of whatever is given
abbrev pub TextsLent : Type 0
TextsLent =
    (κs : Lfts 3) (p : Bor (List ℕ)) (t : MutBor (List Record)) (id : ℕ) (n : MutBor ℕ) (r : Bor (List ℕ)) (t' : List Record) (n' : ℕ)
    → text_promises κs (p, (t, (id, (n, tt)))) r (p, (at_last t t', (id, (at_last n n', tt)))) → TextGiven p t.now id r n' t'
