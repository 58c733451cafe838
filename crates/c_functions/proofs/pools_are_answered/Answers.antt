-- `c_functions::pools_are_answered` meets its contract, which is the claim itself: what each contract says, in the claim's words.
use mathlib.Core.Path.{◌≡◌, sym, ap₂, ◌∙◌}
use mathlib.Core.List.{List}
use Prim.Native.Nat.{ℕ, ◌≤◌, ◌<◌}
use borrow.Author.Tests.{lt-ltb, le-ltb}
use lib.ListN.{length}
use Rattle.pool.specs.Answer.{answer}
use Rattle.working_table.specs.declared.Record.{Record}
use Rattle.working_table.specs.Table.{records_after}
use Rattle.text.proofs.Examining.{examined}
use Rattle.claims.proofs.Verdict.{reading}
use Rattle.claims.proofs.Checking.{checking}
use Rattle.commands.specs.Tables.{records_judged}
use Rattle.claims.specs.Reads.{Filled}
use lib.IntN.{ℤ}
use Rattle.pool.specs.Reading.{read_of}
use Rattle.checker.specs.Checking.{check_of, faults_after}
use Rattle.queries.specs.Queries.{Labelled}
use Rattle.queries.specs.declared.DeviceLabels.{DeviceLabels}
use Rattle.judging.specs.Judging.{judge_number, judge_error}
use Rattle.c_answers.specs.Numbers.{Says}
use Rattle.terminal.specs.Texts.{Gives}
use Rattle.c_functions.specs.Pools.{ReadInto, CheckedInto, JudgedInto}
use Rattle.c_functions.proofs.pools_are_answered.Goals as goal

filled : (p : List ℕ) (table left : List Record) → left ≡ records_after p table → Filled p table left
filled p table left e = rw e ((reading p (length table)).table table)

looked : (p : List ℕ) (table : List Record) (element : ℕ) → element ≤ 4095 → records_judged p table element ≡ records_after p table
unfolding records_judged
looked p table element h = rw (le-ltb 4095 element h)

unlooked : (p : List ℕ) (table : List Record) (element : ℕ) → 4095 < element → records_judged p table element ≡ table
unfolding records_judged
unlooked p table element h = rw (lt-ltb 4095 element h)

-- each claim, from what the contract promises
read-into : (p : List ℕ) (t t' : List Record) (r v' : ℕ) → Says (read_of p (length t)) r v' × (t' ≡ records_after p t) → ReadInto p t r v' t'
read-into p t t' r v' h = record { answered = ap₂ answer h.0.number h.0.value; means = reading p (length t); table = filled p t t' h.1 }

check-into : (p : List ℕ) (t : List Record) (b : List ℕ) (t' : List Record) (b' : List ℕ) (r v' : ℕ)
    → Says (check_of p (length t)) r v' × (t' ≡ records_after p t) × (b' ≡ faults_after p (length t) b) → CheckedInto p t b r v' t' b'
check-into p t b t' b' r v' h = record {
  answered = ap₂ answer h.0.number h.0.value;
  means = λ rs d sized fits. checking p rs d (length t) sized fits;
  table = filled p t t' h.1;
  buffer = h.2;
}

text-into : (p : List ℕ) (t t' : List Record) (id r from to : ℕ) → Gives p (length t) id r from to × (t' ≡ records_after p t)
    → Gives p (length t) id r from to × Filled p t t'
text-into p t t' id r from to h = (h.0, filled p t t' h.1)

labels-into : (p : List ℕ) (t t' : List Record) (r : DeviceLabels) → Labelled p (length t) r × (t' ≡ records_after p t) → Labelled p (length t) r × Filled p t t'
labels-into p t t' r h = (h.0, filled p t t' h.1)

judge-into : (p : List ℕ) (t t' : List Record) (command element ddi : ℕ) (value : ℤ) (r e' : ℕ)
    → (r ≡ judge_number p (length t) element) × (e' ≡ judge_error p (length t) command element ddi value) × (t' ≡ records_judged p t element)
    → JudgedInto p t command element ddi value r e' t'
judge-into p t t' command element ddi value r e' h = record {
  answered = h.0;
  error = h.1;
  table = λ few. filled p t t' (h.2 ∙ looked p t element few);
  stays = λ many. h.2 ∙ unlooked p t element many;
}

pub returns : goal.returns
returns c =
    record {
      read = λ κs p t v r t' v' h. read-into p.now t.now t' r v' h;
      check = λ κs p t b v r t' b' v' h. check-into p.now t.now b.now t' b' r v' h;
      sound = λ κs s r h. (let e = examined s.now in ((λ z. e.0 (sym h ∙ z)), (λ w. h ∙ e.1 w)));
      text = λ κs p t id from to r t' from' to' h. text-into p.now t.now t' id r from' to' h;
      labels = λ κs p t r t' h. labels-into p.now t.now t' r h;
      judge = λ κs p t command element ddi value e r t' e' h. judge-into p.now t.now t' command element ddi value r e' h;
    }
