-- The session calls of Rattle. Each call's outcome is one that the contract of its function allows: `Asked` and `Learnt` are what the
-- contract asks of a caller and what it promises, read off its own text, so no contract is repeated here. Definitions only.
use Rattle.std.specs.Prelude.{refl, List, [], ℕ, ⊤, Result}
use denote.Bor.{Bor}
use denote.MutBor.{MutBor}
use denote.Ref.{at_last}
use contract.Lifetimes.{Lfts}
use Rattle.session.specs.Answers.{reply_of}
use Rattle.session.specs.declared.Refusal.{Refusal}
use Rattle.session.specs.declared.Session.{Session}
use Rattle.session.specs.declared.Step.{Step}
use Rattle.session.specs.contracts.new as new-contract
use Rattle.session.specs.contracts.offer as offer-contract
use Rattle.session.specs.contracts.transfer as transfer-contract
use Rattle.activation.specs.contracts.activate as activate-contract
use Rattle.session.specs.contracts.deactivate as deactivate-contract
use Rattle.session.specs.contracts.delete as delete-contract
use Rattle.session.specs.contracts.lost as lost-contract
use Rattle.working_table.specs.declared.Record.{Record}
use Rattle.book.specs.Says.{Claim, Says, Reading, Asked, nothing}
use Rattle.book.specs.Book.{Said, Call, offer, transfer, activate, deactivate, delete, lost}
use Rattle.book.specs.Run.{Functions}

-- what activating promises: the contract's own text, and `refl` checks that it is the whole contract. It asks nothing of its caller
abbrev pub activate_says : Says activate-contract.ended (λ M 𝓤 𝓛. activate-contract.clauses 𝓛)
activate_says = record { Learnt = _; exact = λ w. refl }

abbrev pub activate_promises : Claim activate-contract.ended
activate_promises = activate_says.Learnt

-- what each of the other functions asks of its caller and promises: the contract's own text, likewise
abbrev pub new_reads : Reading new-contract.ended (λ M 𝓤 𝓛. new-contract.clauses 𝓛)
new_reads = record { asks = λ κs a. nothing; Learnt = _; exact = λ w. refl }

abbrev pub offer_reads : Reading offer-contract.ended (λ M 𝓤 𝓛. offer-contract.clauses 𝓛)
offer_reads = record { asks = λ κs a. nothing; Learnt = _; exact = λ w. refl }

abbrev pub transfer_reads : Reading transfer-contract.ended (λ M 𝓤 𝓛. transfer-contract.clauses 𝓛)
transfer_reads = record { asks = λ κs a. nothing; Learnt = _; exact = λ w. refl }

abbrev pub deactivate_reads : Reading deactivate-contract.ended (λ M 𝓤 𝓛. deactivate-contract.clauses 𝓛)
deactivate_reads = record { asks = λ κs a. nothing; Learnt = _; exact = λ w. refl }

abbrev pub delete_reads : Reading delete-contract.ended (λ M 𝓤 𝓛. delete-contract.clauses 𝓛)
delete_reads = record { asks = λ κs a. nothing; Learnt = _; exact = λ w. refl }

abbrev pub lost_reads : Reading lost-contract.ended (λ M 𝓤 𝓛. lost-contract.clauses 𝓛)
lost_reads = record { asks = λ κs a. nothing; Learnt = _; exact = λ w. refl }

-- one call, from a session value, staging and the kept area: the step that it returns, and the areas and the table afterwards
pub data Does : Session → List ℕ → List ℕ → Call → Step → List ℕ → List ℕ → List Record → Type 0 where
  does_offer : (κs : Lfts 2) (s : Session) (n : ℕ) (st k : Bor (List ℕ)) (r : Step)
      → Asked offer_reads κs (s, (n, (st, (k, tt)))) → offer_reads.Learnt κs (s, (n, (st, (k, tt)))) r (s, (n, (st, (k, tt))))
      → Does s st.now k.now (offer n) r st.now k.now []
  does_transfer : (κs : Lfts 2) (s : Session) (p : Bor (List ℕ)) (st : MutBor (List ℕ)) (k : List ℕ) (r : Step) (st' : List ℕ)
      → Asked transfer_reads κs (s, (p, (st, tt))) → transfer_reads.Learnt κs (s, (p, (st, tt))) r (s, (p, (at_last st st', tt)))
      → Does s st.now k (transfer p.now) r st' k []
  does_activate : (κs : Lfts 3) (s : Session) (st : Bor (List ℕ)) (k : MutBor (List ℕ)) (t : MutBor (List Record)) (r : Step) (k' : List ℕ) (t' : List Record)
      → activate_promises κs (s, (st, (k, (t, tt)))) r (s, (st, (at_last k k', (at_last t t', tt))))
      → Does s st.now k.now (activate t.now) r st.now k' t'
  does_deactivate : (κs : Lfts 0) (s : Session) (st k : List ℕ) (r : Step)
      → Asked deactivate_reads κs (s, tt) → deactivate_reads.Learnt κs (s, tt) r (s, tt) → Does s st k deactivate r st k []
  does_delete : (κs : Lfts 0) (s : Session) (st k : List ℕ) (r : Step)
      → Asked delete_reads κs (s, tt) → delete_reads.Learnt κs (s, tt) r (s, tt) → Does s st k delete r st k []
  does_lost : (κs : Lfts 0) (s : Session) (st k : List ℕ) (r : Step)
      → Asked lost_reads κs (s, tt) → lost_reads.Learnt κs (s, tt) r (s, tt) → Does s st k lost r st k []

-- a new session, as `new` gives it
pub data New : Session → Type 0 where
  is_new : (κs : Lfts 0) (s : Session) → Asked new_reads κs tt → new_reads.Learnt κs tt s tt → New s

-- no call asks anything of its caller; for activating, this is part of `activate_says`
pub record Free : Type 0 where
  pub of_new : (κs : Lfts 0) → Asked new_reads κs tt
  pub of_offer : (κs : Lfts 2) (s : Session) (n : ℕ) (st k : Bor (List ℕ)) → Asked offer_reads κs (s, (n, (st, (k, tt))))
  pub of_transfer : (κs : Lfts 2) (s : Session) (p : Bor (List ℕ)) (st : MutBor (List ℕ)) → Asked transfer_reads κs (s, (p, (st, tt)))
  pub of_deactivate : (κs : Lfts 0) (s : Session) → Asked deactivate_reads κs (s, tt)
  pub of_delete : (κs : Lfts 0) (s : Session) → Asked delete_reads κs (s, tt)
  pub of_lost : (κs : Lfts 0) (s : Session) → Asked lost_reads κs (s, tt)

-- what an answer tells a client: the numbers that `reply_of` gives for it
abbrev pub told : Result ⊤ Refusal → Said
told a = record { number = (reply_of a).number; place = (reply_of a).place; first = (reply_of a).first }

-- the functions of Rattle, in the form that the claim takes
abbrev pub in_rattle : Functions
in_rattle = record { Step = Step; session = λ r. r.session; told = λ r. told r.answer; New = New; Does = Does; Free = Free }
