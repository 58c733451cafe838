-- What the C functions over a pool promise: read, check, one text examined, texts, labels, a command judged. Definitions only.
use Rattle.std.specs.Prelude.{ℕ, ◌≤◌, ◌<◌, ◌≡◌, refl, Bool, true, ◌↔◌, List, ℤ, length}
use denote.Bor.{Bor}
use denote.MutBor.{MutBor, at_last}
use contract.Lifetimes.{Lfts}
use Rattle.division.specs.Division.{Division}
use Rattle.pool.specs.Answer.{answer}
use Rattle.pool.specs.Reading.{read_of}
use Rattle.working_table.specs.declared.Record.{Record}
use Rattle.text.specs.Examined.{Sound}
use Rattle.checker.specs.Checking.{check_of, faults_after}
use Rattle.claims.specs.Reads.{Sized, Filled, Reads}
use Rattle.claims.specs.Checks.{Checked}
use Rattle.queries.specs.Queries.{Labelled}
use Rattle.queries.specs.declared.DeviceLabels.{DeviceLabels}
use Rattle.judging.specs.Judging.{judge_number, judge_error}
use Rattle.terminal.specs.Texts.{Gives}
use Rattle.book.specs.Says.{Claim, Says}
use Rattle.terminal.specs.contracts.lachsbrille_read as read-c
use Rattle.terminal.specs.contracts.lachsbrille_check as check-c
use Rattle.terminal.specs.contracts.lachsbrille_text_is_sound as sound-c
use Rattle.terminal.specs.contracts.lachsbrille_text as text-c
use Rattle.terminal.specs.contracts.lachsbrille_labels as labels-c
use Rattle.terminal.specs.contracts.exchange.lachsbrille_judge as judge-c

-- Below, each contract is given by its own text, and `refl` checks that this is the whole contract: no function asks anything of its
-- caller, and no clause can be left out.

-- what the contract of `lachsbrille_read` says
abbrev pub read_says : Says read-c.ended (λ M 𝓤 𝓛. read-c.clauses 𝓛)
read_says = record { Learnt = _; exact = λ w. refl }

abbrev pub read_promises : Claim read-c.ended
read_promises = read_says.Learnt

-- what the contract of `lachsbrille_check` says
abbrev pub check_says : Says check-c.ended (λ M 𝓤 𝓛. check-c.clauses 𝓛)
check_says = record { Learnt = _; exact = λ w. refl }

abbrev pub check_promises : Claim check-c.ended
check_promises = check_says.Learnt

-- what the contract of `lachsbrille_text_is_sound` says
abbrev pub sound_says : Says sound-c.ended (λ M 𝓤 𝓛. sound-c.clauses 𝓛)
sound_says = record { Learnt = _; exact = λ w. refl }

abbrev pub sound_promises : Claim sound-c.ended
sound_promises = sound_says.Learnt

-- what the contract of `lachsbrille_text` says
abbrev pub text_says : Says text-c.ended (λ M 𝓤 𝓛. text-c.clauses 𝓛)
text_says = record { Learnt = _; exact = λ w. refl }

abbrev pub text_promises : Claim text-c.ended
text_promises = text_says.Learnt

-- what the contract of `lachsbrille_labels` says
abbrev pub labels_says : Says labels-c.ended (λ M 𝓤 𝓛. labels-c.clauses 𝓛)
labels_says = record { Learnt = _; exact = λ w. refl }

abbrev pub labels_promises : Claim labels-c.ended
labels_promises = labels_says.Learnt

-- what the contract of `lachsbrille_judge` says
abbrev pub judge_says : Says judge-c.ended (λ M 𝓤 𝓛. judge-c.clauses 𝓛)
judge_says = record { Learnt = _; exact = λ w. refl }

abbrev pub judge_promises : Claim judge-c.ended
judge_promises = judge_says.Learnt

-- a pool read: number and value are reading's answer; `Reads` says what the answer means, by the division alone
pub record ReadInto (p : List ℕ) (before : List Record) (number value : ℕ) (left : List Record) : Type 0 where
  pub answered : answer number value ≡ read_of p (length before)
  pub means : Reads p (length before)
  pub table : Filled p before left

-- a pool checked: the same for checking, and the fault buffer
pub record CheckedInto (p : List ℕ) (before : List Record) (faults : List ℕ) (number value : ℕ) (left : List Record) (written : List ℕ) : Type 0 where
  pub answered : answer number value ≡ check_of p (length before)
  pub means : (rs : List (List ℕ)) (d : Division p rs) → Sized p → length rs ≤ length before → Checked p rs d (length before)
  pub table : Filled p before left
  pub buffer : written ≡ faults_after p (length before) faults

-- a command judged: for an element number over 4,095 the pool is not looked at
pub record JudgedInto (p : List ℕ) (before : List Record) (command element ddi : ℕ) (value : ℤ) (number byte : ℕ) (left : List Record) : Type 0 where
  pub answered : number ≡ judge_number p (length before) element
  pub error : byte ≡ judge_error p (length before) command element ddi value
  pub table : element ≤ 4095 → Filled p before left
  pub stays : 4095 < element → left ≡ before

-- for all arguments: a pool is read, checked and queried and a command judged as the definitions say, which also give the lent memory
pub record PoolsAnswered : Type 0 where
  pub read : (κs : Lfts 3) (p : Bor (List ℕ)) (t : MutBor (List Record)) (v : MutBor ℕ) (r : ℕ) (t' : List Record) (v' : ℕ)
      → read_promises κs (p, (t, (v, tt))) r (p, (at_last t t', (at_last v v', tt))) → ReadInto p.now t.now r v' t'
  pub check : (κs : Lfts 4) (p : Bor (List ℕ)) (t : MutBor (List Record)) (b : MutBor (List ℕ)) (v : MutBor ℕ) (r : ℕ) (t' : List Record) (b' : List ℕ) (v' : ℕ)
      → check_promises κs (p, (t, (b, (v, tt)))) r (p, (at_last t t', (at_last b b', (at_last v v', tt)))) → CheckedInto p.now t.now b.now r v' t' b'
  pub sound : (κs : Lfts 1) (s : Bor (List ℕ)) (r : Bool) → sound_promises κs (s, tt) r (s, tt) → (r ≡ true) ↔ Sound s.now
  pub text : (κs : Lfts 4) (p : Bor (List ℕ)) (t : MutBor (List Record)) (id : ℕ) (from to : MutBor ℕ) (r : ℕ) (t' : List Record) (from' to' : ℕ)
      → text_promises κs (p, (t, (id, (from, (to, tt))))) r (p, (at_last t t', (id, (at_last from from', (at_last to to', tt)))))
      → Gives p.now (length t.now) id r from' to' × Filled p.now t.now t'
  pub labels : (κs : Lfts 2) (p : Bor (List ℕ)) (t : MutBor (List Record)) (r : DeviceLabels) (t' : List Record)
      → labels_promises κs (p, (t, tt)) r (p, (at_last t t', tt)) → Labelled p.now (length t.now) r × Filled p.now t.now t'
  pub judge : (κs : Lfts 3) (p : Bor (List ℕ)) (t : MutBor (List Record)) (command element ddi : ℕ) (value : ℤ) (e : MutBor ℕ) (r : ℕ) (t' : List Record) (e' : ℕ)
      → judge_promises κs (p, (t, (command, (element, (ddi, (value, (e, tt))))))) r (p, (at_last t t', (command, (element, (ddi, (value, (at_last e e', tt)))))))
      → JudgedInto p.now t.now command element ddi value r e' t'
