-- Functions that do as the session's definitions say: what the claim needs to know of them. Assumes nothing.
use mathlib.Core.Path.{◌≡◌}
use mathlib.Core.List.{List, []}
use Prim.Native.Nat.{ℕ}
use lib.ListN.{length}
use Rattle.session.specs.Answers.{Reply}
use Rattle.session.specs.Calls as S
use Rattle.activation.specs.Activating as Act
use Rattle.session.specs.declared.Session.{Session}
use Rattle.working_table.specs.declared.Record.{Record}
use Rattle.book.specs.Book.{Said, Call, offer, transfer, activate, deactivate, delete, lost}
use Rattle.book.specs.Run.{Functions}

-- a reply as the client is told it
abbrev pub said_in : Reply → Said
said_in q = record { number = q.number; place = q.place; first = q.first }

-- what a call tells, and what it leaves in staging, in the kept area and in the table
abbrev pub told_by : Session → List ℕ → List ℕ → Call → S.Told
told_by s st k (offer n) = S.offer_of s n (length st) (length k)
told_by s st k (transfer p) = S.transfer_of s p (length st)
told_by s st k (activate t) = Act.activate_of s st (length k) (length t)
told_by s st k deactivate = S.deactivate_of s
told_by s st k delete = S.delete_of s
told_by s st k lost = S.lost_of s

abbrev pub staging_by : Session → List ℕ → Call → List ℕ
staging_by s st (offer n) = st
staging_by s st (transfer p) = S.staging_after s p st
staging_by s st (activate t) = st
staging_by s st deactivate = st
staging_by s st delete = st
staging_by s st lost = st

abbrev pub kept_by : Session → List ℕ → List ℕ → Call → List ℕ
kept_by s st k (offer n) = k
kept_by s st k (transfer p) = k
kept_by s st k (activate t) = Act.kept_after s st k (length t)
kept_by s st k deactivate = k
kept_by s st k delete = k
kept_by s st k lost = k

abbrev pub table_by : Session → List ℕ → List ℕ → Call → List Record
table_by s st k (offer n) = []
table_by s st k (transfer p) = []
table_by s st k (activate t) = Act.records_activated s st (length k) t
table_by s st k deactivate = []
table_by s st k delete = []
table_by s st k lost = []

-- one call that did so
pub record Did (F : Functions) (s : Session) (st k : List ℕ) (c : Call) (r : F.Step) (st' k' : List ℕ) (t' : List Record) : Type 0 where
  pub said : F.told r ≡ said_in (told_by s st k c).reply
  pub session : F.session r ≡ (told_by s st k c).session
  pub staging : st' ≡ staging_by s st c
  pub area : k' ≡ kept_by s st k c
  pub table : t' ≡ table_by s st k c

-- one call that can be made
pub record One (F : Functions) (s : Session) (st k : List ℕ) (c : Call) : Type 0 where
  pub step : F.Step
  pub staging : List ℕ
  pub area : List ℕ
  pub table : List Record
  pub does : F.Does s st k c step staging area table

pub record Follows (F : Functions) : Type 0 where
  pub free : F.Free
  pub begins : (s : Session) × F.New s
  pub new : {s : Session} → F.New s → s ≡ S.new_session
  pub does : {s : Session} {st k st' k' : List ℕ} {t' : List Record} {c : Call} {r : F.Step} → F.Does s st k c r st' k' t' → Did F s st k c r st' k' t'
  pub one : (c : Call) (s : Session) (st k : List ℕ) → One F s st k c
