-- What a core answers that is lent the records with the lists by ID: no contract of a call rests on this. Definitions only.
use Rattle.std.specs.Prelude.{ℕ, ◌≡◌, List}
use denote.Param.Members.{Once}
use denote.Ref.{Bor, MutBor}
use Rattle.naming.specs.declared.RecordList.{RecordList}
use Rattle.naming.specs.declared.NamedRecords.{NamedRecords}

-- a call of f may give r for these records with lists by which their IDs name them, and leave `after` in the buffer that held `before`
pub record AnswersFor {F T : Type 0} (g : Once F (Bor NamedRecords × (MutBor (List ℕ) × Unit {0})) (T × (MutBor (List ℕ) × Unit {0}))) (f : F) (records : RecordList) (before : List ℕ) (r : T) (after : List ℕ) : Type 0 where
  pub names : Bor NamedRecords
  pub same : names.now.records ≡ records
  pub shown : MutBor (List ℕ)
  pub shows : shown.now ≡ before
  pub left : MutBor (List ℕ)
  pub met : g.post f (names, (shown, tt)) (r, (left, tt))
  pub leaves : left.now ≡ after
