-- For every outcome of a call that the definitions give there is a step of Rattle. Assumes nothing.
use mathlib.Core.Path.{◌≡◌, refl}
use mathlib.Core.Bool.{Bool, true, false, cond, not, ◌||◌}
use mathlib.Core.List.{List}
use Rattle.std.specs.Prelude.{Ok, Err}
use Prim.Native.Nat.{ℕ, ◌-◌, ◌≤◌}
use borrow.Author.Tests.{not-false}
use lib.Dec.{eqb, ltb}
use lib.ListN.{length, take}
use Rattle.pool.specs.Answer.{Answer, answer}
use Rattle.pool.specs.Reading.{Scan, records, refused, counted, scan_of}
use Rattle.pool.proofs.Steps.{BadRecord, unmarked, cut, over, Proper, scan-proper}
use Rattle.pool.proofs.Judged.{read_walk}
use Rattle.rules.specs.Table.{breaches_of}
use Rattle.checker.specs.Checking.{check_of, reported}
use Rattle.session.specs.Calls as S
use Rattle.activation.specs.Activating as Act
use Rattle.pool.specs.declared.Refusal.TheVariants.{NoMark, Cut, LengthOver, TooMany, TableShort}
use Rattle.session.specs.declared.Refusal.TheVariants.{Unread, BadSize, NotOffered, BadPiece, Incomplete, Faulty, NotActive, NoRoom, CannotArise}
use Rattle.session.specs.declared.Session.{Session}
use Rattle.session.specs.declared.Step.{Step}
use Rattle.session.proofs.Arising.{sized}
use Rattle.book.specs.Book.{Call, offer, transfer, activate, deactivate, delete, lost}
use Rattle.book.proofs.Follows.{told_by}

-- a step by which something is told
pub record Real (t : S.Told) : Type 0 where
  pub step : Step
  pub tells : S.step_of step ≡ t

either : (b : Bool) {x y : S.Told} → (b ≡ true → Real x) → (b ≡ false → Real y) → Real (cond b x y)
either true f g = f refl
either false f g = g refl

-- what checking can say of a pool that is neither empty nor too long
data Shape : Answer → Type 0 where
  shape-read : (n : ℕ) → Shape (answer 0 n)
  shape-mark : (at : ℕ) → Shape (answer 3 at)
  shape-cut : (at : ℕ) → Shape (answer 4 at)
  shape-over : (at : ℕ) → Shape (answer 5 at)
  shape-many : Shape (answer 6 0)
  shape-short : (n : ℕ) → Shape (answer 7 n)

shape-refused : {a : Answer} → BadRecord a → Shape a
shape-refused (unmarked at) = shape-mark at
shape-refused (cut at) = shape-cut at
shape-refused (over at) = shape-over at

shape-counted : (room : ℕ) (s : Scan) → Proper s → Shape (counted room s)
shape-counted room (refused a) r = shape-refused r
shape-counted room (records es) r = go (ltb 8192 (length es)) (ltb room (length es))
  where
    go : (a b : Bool) → Shape (cond a (answer 6 0) (cond b (answer 7 (length es)) (answer 0 (length es))))
    go true b = shape-many
    go false true = shape-short (length es)
    go false false = shape-read (length es)

shape-picked : (n : ℕ) {a : Answer} → Shape a → Shape (cond (eqb a.number 0) (answer 0 n) a)
shape-picked n (shape-read m) = shape-read n
shape-picked n (shape-mark at) = shape-mark at
shape-picked n (shape-cut at) = shape-cut at
shape-picked n (shape-over at) = shape-over at
shape-picked n shape-many = shape-many
shape-picked n (shape-short m) = shape-short m

shape-checked : (p : List ℕ) (room : ℕ) → 1 ≤ length p → length p ≤ 65535 → Shape (check_of p room)
unfolding check_of
shape-checked p room some few = rw (read_walk p room some few) (shape-picked (length (breaches_of p)) (shape-counted room (scan_of p) (scan-proper p)))

real-decided : (s : Session) (p : List ℕ) (a : Answer) → Shape a → Real (Act.decided s p a)
real-decided s p a (shape-read n) =
    either (not (eqb n 0))
    (λ e. let f = Act.first_in (reported p) in record { step = record { session = S.ended s; answer = Err (Faulty (record { «record» = f.fault.number; rule = f.fault.rule; item = f.fault.item; id = f.id; parent = f.parent })) }; tells = refl })
    (λ e. record { step = record { session = record { announced = 0; received = 0; kept = length p; stage = 0; active = 1 }; answer = Ok tt }; tells = refl })
real-decided s p a (shape-mark at) = record { step = record { session = S.ended s; answer = Err (Unread (NoMark at)) }; tells = refl }
real-decided s p a (shape-cut at) = record { step = record { session = S.ended s; answer = Err (Unread (Cut at)) }; tells = refl }
real-decided s p a (shape-over at) = record { step = record { session = S.ended s; answer = Err (Unread (LengthOver at)) }; tells = refl }
real-decided s p a shape-many = record { step = record { session = S.ended s; answer = Err (Unread TooMany) }; tells = refl }
real-decided s p a (shape-short n) = record { step = record { session = s; answer = Err (Unread (TableShort n)) }; tells = refl }

impossible-told : (s : Session) → Real (S.refused s 27)
impossible-told s = record { step = record { session = s; answer = Err CannotArise }; tells = refl }

real-offer : (s : Session) (n ls lk : ℕ) → Real (S.offer_of s n ls lk)
unfolding S.offer_of
real-offer s n ls lk =
    either (S.impossible s) (λ e. impossible-told s) (λ e.
    either (eqb n 0 || ltb 65535 n) (λ e. record { step = record { session = s; answer = Err BadSize }; tells = refl }) (λ e.
    either (ltb ls n || ltb lk n) (λ e. record { step = record { session = s; answer = Err NoRoom }; tells = refl })
    (λ e. record { step = record { session = record { announced = n; received = 0; kept = s.kept; stage = 1; active = s.active }; answer = Ok tt }; tells = refl })))

real-transfer : (s : Session) (piece : List ℕ) (ls : ℕ) → Real (S.transfer_of s piece ls)
unfolding S.transfer_of
real-transfer s piece ls =
    either (S.impossible s) (λ e. impossible-told s) (λ e.
    either (not (S.is_offered s)) (λ e. record { step = record { session = s; answer = Err NotOffered }; tells = refl }) (λ e.
    either (eqb (length piece) 0 || ltb (s.announced - s.received) (length piece)) (λ e. record { step = record { session = s; answer = Err BadPiece }; tells = refl }) (λ e.
    either (ltb ls s.announced) (λ e. record { step = record { session = s; answer = Err NoRoom }; tells = refl })
    (λ e. record { step = record { session = _; answer = Ok tt }; tells = refl }))))

real-activate : (s : Session) (staging kept : List ℕ) (room : ℕ) → Real (Act.activate_of s staging (length kept) room)
unfolding Act.activate_of Act.kept_activated Act.settled
real-activate s staging kept room =
    either (S.impossible s) (λ e. impossible-told s) (λ e.
    either (not (S.is_offered s))
    (λ o.
    either (eqb s.kept 0) (λ e. record { step = record { session = s; answer = Err NotOffered }; tells = refl }) (λ z.
    either (ltb (length kept) s.kept) (λ e. record { step = record { session = s; answer = Err NoRoom }; tells = refl })
    (λ z. record { step = record { session = _; answer = Ok tt }; tells = refl })))
    (λ o.
    either (ltb s.received s.announced) (λ z. record { step = record { session = s; answer = Err Incomplete }; tells = refl }) (λ z.
    either (ltb (length staging) s.announced || ltb (length kept) s.announced) (λ z. record { step = record { session = s; answer = Err NoRoom }; tells = refl }) (λ h.
    let w = sized s staging kept e (not-false (S.is_offered s) o) h in
    real-decided s (take s.announced staging) (check_of (take s.announced staging) room)
    (shape-checked (take s.announced staging) room w.1 w.2)))))

real-deactivate : (s : Session) → Real (S.deactivate_of s)
unfolding S.deactivate_of
real-deactivate s =
    either (S.impossible s) (λ e. impossible-told s) (λ e.
    either (eqb s.active 0) (λ e. record { step = record { session = s; answer = Err NotActive }; tells = refl })
    (λ e. record { step = record { session = _; answer = Ok tt }; tells = refl }))

real-delete : (s : Session) → Real (S.delete_of s)
unfolding S.delete_of
real-delete s = either (S.impossible s) (λ e. impossible-told s) (λ e. record { step = record { session = _; answer = Ok tt }; tells = refl })

real-lost : (s : Session) → Real (S.lost_of s)
unfolding S.lost_of
real-lost s = either (S.impossible s) (λ e. impossible-told s) (λ e. record { step = record { session = _; answer = Ok tt }; tells = refl })

pub real : (s : Session) (st k : List ℕ) (c : Call) → Real (told_by s st k c)
real s st k (offer n) = real-offer s n (length st) (length k)
real s st k (transfer p) = real-transfer s p (length st)
real s st k (activate t) = real-activate s st k (length t)
real s st k deactivate = real-deactivate s
real s st k delete = real-delete s
real s st k lost = real-lost s
