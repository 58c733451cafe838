-- The book keeps a pool exactly if it is accepted. Assumes nothing.
use mathlib.Core.Path.{◌≡◌, refl, sym, ap, ap₂, ◌∙◌}
use mathlib.Core.Logic.{◌↔◌}
use mathlib.Core.List.Memᴰ
use mathlib.Core.List.{List, [], ◌∷◌, Memᴰ}
use Prim.Native.Nat.{ℕ, suc, ◌≤◌}
use native.Mathlib.Omega.{arith}
use borrow.Author.Tests.{eqb-true, eqb-false}
use lib.Dec.{eqb}
use lib.ListN.{length}
use Rattle.wire.proofs.Either.{by-case}
use Rattle.pool.proofs.Judged.{as_read}
use Rattle.pool.specs.Answer.{Answer, answer}
use Rattle.pool.specs.Reading.{read_of}
use Rattle.faults.specs.Faults.{Fault, fault}
use Rattle.checker.specs.Checking.{check_of}
use Rattle.claims.specs.Reads.{Sized}
use Rattle.claims.specs.Checks.{Checked}
use Rattle.claims.proofs.Verdict.{reading}
use Rattle.claims.proofs.Checking.{checking}
use Rattle.activation.proofs.Settled.{check-number}
use Rattle.book.specs.Book.{Book, checked}
use Rattle.book.specs.Claim.{Accepted}

-- the book takes a pool exactly if checking says 0 and 0
taken : (b : Book) (a : Answer) → (checked b a).told.number ≡ 0 → a ≡ answer 0 0
taken b a h =
    by-case (eqb a.number 0)
    (λ e0. by-case (eqb a.value 0)
    (λ e1. both (eqb-true a.number 0 e0) (eqb-true a.value 0 e1))
    (λ e1. absurd (let z = rw (e0, e1) at h in omega (arith, z))))
    (λ e0. absurd (eqb-false a.number 0 e0 (rw e0 at h)))
  where
    both : a.number ≡ 0 → a.value ≡ 0 → a ≡ answer 0 0
    both n v = ap₂ answer n v

takes : (b : Book) (a : Answer) → a ≡ answer 0 0 → (checked b a).told.number ≡ 0
takes b a e = rw e

none_left : (fs : List Fault) → length fs ≡ 0 → fs ≡ []
none_left [] e = refl
none_left (f ∷ fs) e = absurd (let z : suc (length fs) ≡ 0 = e in omega arith)

module _ (p : List ℕ) (room : ℕ) (sized : Sized p) where
  -- read and without a fault: it divides, the table holds it and nothing is a breach
  accepted-of : check_of p room ≡ answer 0 0 → Accepted p room
  accepted-of e =
      let zero_number : (read_of p room).number ≡ 0 = sym (check-number p room) ∙ ap (λ (a : Answer). a.number) e in
      let r : read_of p room ≡ answer 0 (read_of p room).value = as_read (read_of p room) zero_number in
      let d = (((reading p room).read (read_of p room).value).0 r).1 in
      let fits : length d.0.parts ≤ room = omega (arith, d.1, d.2) in
      let c : Checked p d.0.parts d.0.division room = checking p d.0.parts d.0.division room sized fits in
      let none : c.faults ≡ [] = none_left c.faults (ap (λ (a : Answer). a.value) (sym c.count ∙ e)) in
      record {
        parts = d.0.parts;
        divides = d.0.division;
        holds = fits;
        clean = λ number rule item h. Memᴰ.not-nil (rw none at ((c.exact (fault number rule item)).1 h));
      }

  of-accepted : Accepted p room → check_of p room ≡ answer 0 0
  of-accepted a =
      let c : Checked p a.parts a.divides room = checking p a.parts a.divides room sized a.holds in
      c.count ∙ ap (answer 0) (empty c.faults (λ (f : Fault) (m : Memᴰ f c.faults). a.clean f.number f.rule f.item ((c.exact f).0 m)))
    where
      empty : (fs : List Fault) → ((f : Fault) → Memᴰ f fs → ⊥) → length fs ≡ 0
      empty [] h = refl
      empty (f ∷ fs) h = absurd (h f (Memᴰ.head refl))

  pub exactly-accepted : (b : Book) → ((checked b (check_of p room)).told.number ≡ 0) ↔ Accepted p room
  exactly-accepted b = ((λ h. accepted-of (taken b (check_of p room) h)), (λ a. takes b (check_of p room) (of-accepted a)))
