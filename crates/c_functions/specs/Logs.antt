-- What the C functions for the time log promise. Definitions only.
use Rattle.std.specs.Prelude.{ℕ, ◌≡◌, refl, cond, List, ltb, ℤ, length}
use denote.Bor.{Bor}
use denote.MutBor.{MutBor, at_last}
use contract.Lifetimes.{Lfts}
use Rattle.time_log.specs.Layout.{marks_set, record_length}
use Rattle.time_log.specs.declared.Fields.{Fields}
use Rattle.time_log.specs.declared.Marks.{Marks}
use Rattle.log_reading.specs.Reading.{read_of, ordinals_after, values_after}
use Rattle.log_reading.specs.Logs.{log_of}
use Rattle.log_reading.specs.declared.Record.{Record}
use Rattle.log_reading.specs.declared.Log.{Log}
use Rattle.log_writing.specs.Writing.{write_refusal, written_as, bytes_after}
use Rattle.log_writing.specs.declared.Written.{Written}
use Rattle.book.specs.Says.{Claim, Says}
use Rattle.terminal.specs.contracts.logs.lachsbrille_log_optional_fields as fields-c
use Rattle.terminal.specs.contracts.logs.lachsbrille_log_read_record as record-c
use Rattle.terminal.specs.contracts.logs.lachsbrille_log_write_record as written-c
use Rattle.terminal.specs.contracts.logs.lachsbrille_log_read as log-c

-- Below, each contract is given by its own text, and `refl` checks that this is the whole contract: no function asks anything of its
-- caller, and no clause can be left out.

-- what the contract of `lachsbrille_log_optional_fields` says
abbrev pub fields_says : Says fields-c.ended (λ M 𝓤 𝓛. fields-c.clauses 𝓛)
fields_says = record { Learnt = _; exact = λ w. refl }

abbrev pub fields_promises : Claim fields-c.ended
fields_promises = fields_says.Learnt

-- what the contract of `lachsbrille_log_read_record` says
abbrev pub record_says : Says record-c.ended (λ M 𝓤 𝓛. record-c.clauses 𝓛)
record_says = record { Learnt = _; exact = λ w. refl }

abbrev pub record_promises : Claim record-c.ended
record_promises = record_says.Learnt

-- what the contract of `lachsbrille_log_write_record` says
abbrev pub written_says : Says written-c.ended (λ M 𝓤 𝓛. written-c.clauses 𝓛)
written_says = record { Learnt = _; exact = λ w. refl }

abbrev pub written_promises : Claim written-c.ended
written_promises = written_says.Learnt

-- what the contract of `lachsbrille_log_read` says
abbrev pub log_says : Says log-c.ended (λ M 𝓤 𝓛. log-c.clauses 𝓛)
log_says = record { Learnt = _; exact = λ w. refl }

abbrev pub log_promises : Claim log-c.ended
log_promises = log_says.Learnt

-- for all arguments: layouts, records and logs are read, and records written, as the definitions say, which also give the lent memory
pub record LogsKept : Type 0 where
  pub fields : (κs : Lfts 0) (layout : ℕ) (r : Marks) → fields_promises κs (layout, tt) r (layout, tt)
      → (r.number ≡ cond (ltb 511 layout) 47 0) × (r.count ≡ cond (ltb 511 layout) 0 (marks_set layout))
  pub read : (κs : Lfts 3) (s : Bor (List ℕ)) (layout logged : ℕ) (os : MutBor (List ℕ)) (vs : MutBor (List ℤ)) (r : Record) (os' : List ℕ) (vs' : List ℤ)
      → record_promises κs (s, (layout, (logged, (os, (vs, tt))))) r (s, (layout, (logged, (at_last os os', (at_last vs vs', tt)))))
      → (r ≡ read_of layout logged s.now (length os.now) (length vs.now)) × (os' ≡ ordinals_after layout logged s.now os.now vs.now) × (vs' ≡ values_after layout logged s.now os.now vs.now)
  pub written : (κs : Lfts 4) (to : MutBor (List ℕ)) (layout : ℕ) (f : Bor Fields) (logged : ℕ) (os : Bor (List ℕ)) (vs : Bor (List ℤ)) (n : ℕ) (r : Written) (to' : List ℕ)
      → written_promises κs (to, (layout, (f, (logged, (os, (vs, (n, tt))))))) r (at_last to to', (layout, (f, (logged, (os, (vs, (n, tt)))))))
      → (r ≡ written_as (write_refusal layout f.now logged os.now vs.now n (length to.now)) (record_length layout n)) × (to' ≡ bytes_after to.now layout f.now logged os.now vs.now n)
  pub log : (κs : Lfts 1) (s : Bor (List ℕ)) (layout logged : ℕ) (r : Log) → log_promises κs (s, (layout, (logged, tt))) r (s, (layout, (logged, tt))) → r ≡ log_of layout logged s.now
