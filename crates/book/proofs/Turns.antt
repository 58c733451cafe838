-- What one more call does to the kept area and to the pool kept before. Assumes nothing.
use mathlib.Core.Path.{◌≡◌, refl, sym, ap, ◌∙◌}
use mathlib.Core.Bool.{true, false, cond, ◌||◌, true≢false}
use mathlib.Core.Logic.{◌↔◌, ◌⊎◌, inl, inr, ⊎_elim}
use mathlib.Core.List.{List, ◌++◌}
use Prim.Native.Nat.{ℕ, ◌-◌, ◌≤◌}
use native.Mathlib.Omega.{arith}
use native.Mathlib.Nat.{zero-add}
use borrow.Author.Tests.{ltb-true, ltb-false, le-ltb}
use lib.Dec.{eqb, ltb}
use lib.ListN.{length, take, drop}
use lib.Seq.{sets, sets-eq}
use Rattle.wire.proofs.Either.{by-case}
use Rattle.pool.specs.Answer.{Answer}
use Rattle.working_table.specs.declared.Record.{Record}
use Rattle.checker.specs.Checking.{check_of, reported}
use Rattle.activation.specs.Activating as Act
use Rattle.activation.proofs.Settled.{check-low}
use Rattle.session.specs.declared.Session.{Session}
use Rattle.book.specs.Book.{said, Book, Noted, noted, note, tabled, checked, first_in, Call, offer, transfer, activate, deactivate, delete, lost}
use Rattle.book.specs.Run.{Functions, session_of}
use Rattle.book.specs.Claim.{Accepted, Turn, won, deleted, stays}
use Rattle.book.proofs.Good.{Good, possible, is_one}
use Rattle.book.proofs.Follows.{kept_by, table_by, Did}
use Rattle.book.proofs.Acceptance.{exactly-accepted}

-- the calls apart from activating
tag : Call → ℕ
tag (offer n) = 0
tag (transfer p) = 0
tag (activate t) = 1
tag deactivate = 0
tag delete = 0
tag lost = 0

-- a call that is no activation
other : (c : Call) → tag c ≡ 0 → {P : Type 0} → (t : List Record) → c ≡ activate t → P
unfolding tag
other c z t e = absurd (let y : tag c ≡ 1 = ap tag e in omega arith)

-- a pool laid over the kept area
laid-over : (p k : List ℕ) → length p ≤ length k → sets k 0 p ≡ p ++ drop (length p) k
laid-over p k h = sets-eq p k 0 (omega arith) ∙ rw (zero-add (length p))

module _ (ls lk : ℕ) (b : Book) (st k : List ℕ) (g : Good ls lk b st k) where
  offer-kept : (n : ℕ) → (noted ls lk b (offer n)).book.kept ≡ b.kept
  unfolding noted
  offer-kept n =
      by-case (eqb n 0 || ltb 65535 n) (λ e1. rw e1) (λ e1. by-case (ltb ls n || ltb lk n) (λ e2. rw (e1, e2)) (λ e2. rw (e1, e2)))

  transfer-kept : (piece : List ℕ) → (noted ls lk b (transfer piece)).book.kept ≡ b.kept
  unfolding noted
  transfer-kept piece =
      by-case b.offered (λ o.
      by-case (eqb (length piece) 0 || ltb (b.announced - length b.arrived) (length piece)) (λ e1. simp (o, e1)) (λ e1. simp (o, e1, le-ltb ls b.announced g.in-st)))
      (λ o. simp o)

  deactivate-kept : (noted ls lk b deactivate).book.kept ≡ b.kept
  unfolding noted
  deactivate-kept = by-case b.active (λ a. simp a) (λ a. simp a)

  checked-turn : (t : List Record) → b.offered ≡ true → length b.arrived ≤ length k → (a : Answer)
      → Turn b (checked b a).book k (activate t) (checked b a).told (cond (Act.accepted a) (sets k 0 b.arrived) k)
  checked-turn t o room a =
      by-case (eqb a.number 0)
      (λ e0. by-case (eqb a.value 0)
      (λ e1. simp (e0, e1) (rw (laid-over b.arrived k room) (won t o refl)))
      (λ e1. simp (e0, e1) (stays (activate t) (record { number = 24; place = 0; first = first_in (reported b.arrived) }) (λ u v w z. omega arith) refl)))
      (λ e0.
      let high : a.number ≡ 0 → ⊥ = λ (z : a.number ≡ 0). true≢false (sym (eq-zero z) ∙ e0) in
      by-case (eqb a.number 7)
      (λ e1. simp (e0, e1) (stays (activate t) (said a.number a.value) (λ u v w z. high z) refl))
      (λ e1. simp (e0, e1) (stays (activate t) (said a.number a.value) (λ u v w z. high z) refl)))
    where
      eq-zero : a.number ≡ 0 → eqb a.number 0 ≡ true
      eq-zero z = rw z

  -- what is noted and what is in the area, given by equations
  noted-as : (c : Call) {m m' : Noted} {x x' : List ℕ} → m ≡ m' → x ≡ x' → Turn b m'.book k c m'.told x' → Turn b m.book k c m.told x
  noted-as c e f h = rw (e, f) h

  -- the area where checking is not reached
  untouched : (room : ℕ) → (b.offered ≡ false) ⊎ (ltb (length b.arrived) b.announced ≡ true) → Act.kept_after (session_of b) st k room ≡ k
  unfolding Act.kept_after Act.is_checked
  untouched room =
      rw (possible ls lk b st k g, is_one b.offered)
      (⊎_elim (λ (o : b.offered ≡ false). rw o) (λ (e : ltb (length b.arrived) b.announced ≡ true). by-case b.offered (λ o. rw (o, e)) (λ o. rw o)))

  reached : (room : ℕ) → b.offered ≡ true → ltb (length b.arrived) b.announced ≡ false
      → Act.kept_after (session_of b) st k room ≡ cond (Act.accepted (check_of b.arrived room)) (sets k 0 b.arrived) k
  unfolding Act.kept_after Act.is_checked Act.kept_settled
  reached room o e1 =
      let q : length b.arrived ≡ b.announced = omega (arith, g.part, ltb-false (length b.arrived) b.announced e1) in
      let p : take b.announced st ≡ b.arrived = ap (λ (n : ℕ). take n st) (sym q) ∙ g.staged in
      rw (possible ls lk b st k g, is_one b.offered, g.long-st, g.long-k, o, e1, le-ltb ls b.announced g.in-st, le-ltb lk b.announced g.in-k, p)

  activate-turn : (t : List Record) → Turn b (noted ls lk b (activate t)).book k (activate t) (noted ls lk b (activate t)).told (Act.kept_after (session_of b) st k (length t))
  unfolding noted
  activate-turn t =
      by-case b.offered
      (λ o.
      by-case (ltb (length b.arrived) b.announced)
      (λ e1. noted-as (activate t) {m' = note b 23} (simp (o, e1)) (untouched (length t) (inr e1)) (stays (activate t) (said 23 0) (λ u v w z. omega arith) refl))
      (λ e1. noted-as (activate t) {m' = checked b (check_of b.arrived (length t))} (simp (o, e1, le-ltb ls b.announced g.in-st, le-ltb lk b.announced g.in-k)) (reached (length t) o e1)
      (checked-turn t o (omega (arith, g.part, g.in-k, g.long-k)) (check_of b.arrived (length t)))))
      (λ o.
      by-case (eqb (length b.kept) 0)
      (λ e1. noted-as (activate t) {m' = note b 21} (simp (o, e1)) (untouched (length t) (inl o)) (stays (activate t) (said 21 0) (λ u v w z. omega arith) refl))
      (λ e1. noted-as (activate t) {m' = note (record { offered = false; announced = b.announced; arrived = b.arrived; kept = b.kept; active = true }) 0} (simp (o, e1, le-ltb lk (length b.kept) g.kept_in)) (untouched (length t) (inl o))
      (stays (activate t) (said 0 0) (λ u v w z. absurd (true≢false (sym w ∙ o))) refl)))

  -- activating an offered pool succeeds exactly when all of it arrived and it is accepted
  pub exactly-book : (t : List Record) → b.offered ≡ true
      → ((noted ls lk b (activate t)).told.number ≡ 0) ↔ ((length b.arrived ≡ b.announced) × Accepted b.arrived (length t))
  unfolding noted
  exactly-book t o =
      by-case (ltb (length b.arrived) b.announced)
      (λ e1. simp (o, e1) ((λ z. absurd (omega (arith, z))), (λ h. absurd (let l = ltb-true (length b.arrived) b.announced e1 in omega (arith, h.0)))))
      (λ e1.
      let q : length b.arrived ≡ b.announced = omega (arith, g.part, ltb-false (length b.arrived) b.announced e1) in
      let n = g.some o in
      let w = exactly-accepted b.arrived (length t) (omega (arith, q), omega (arith, q, g.size)) b in
      simp (o, e1, le-ltb ls b.announced g.in-st, le-ltb lk b.announced g.in-k)
      ((λ z. (q, w.0 z)), (λ h. w.1 h.1)))

lost-kept : (ls lk : ℕ) (b : Book) → (noted ls lk b lost).book.kept ≡ b.kept
unfolding noted
lost-kept ls lk b = refl

kept-turn : {ls lk : ℕ} {b : Book} {st k : List ℕ} (c : Call) → Good ls lk b st k → Turn b (noted ls lk b c).book k c (noted ls lk b c).told (kept_by (session_of b) st k c)
unfolding tag noted
kept-turn {ls} {lk} {b} {st} {k} (offer n) g = stays (offer n) _ (λ t z. other (offer n) refl t z) (offer-kept ls lk b st k g n)
kept-turn {ls} {lk} {b} {st} {k} (transfer p) g = stays (transfer p) _ (λ t z. other (transfer p) refl t z) (transfer-kept ls lk b st k g p)
kept-turn {ls} {lk} {b} {st} {k} (activate t) g = activate-turn ls lk b st k g t
kept-turn {ls} {lk} {b} {st} {k} deactivate g = stays deactivate _ (λ t z. other deactivate refl t z) (deactivate-kept ls lk b st k g)
kept-turn delete g = deleted _ refl
kept-turn {ls} {lk} {b} lost g = stays lost _ (λ t z. other lost refl t z) (lost-kept ls lk b)

pub turn : (F : Functions) {ls lk : ℕ} {b : Book} {s : Session} {st k st' k' : List ℕ} {t' : List Record} {c : Call} {r : F.Step}
    → Did F s st k c r st' k' t' → s ≡ session_of b → Good ls lk b st k → Turn b (noted ls lk b c).book k c (noted ls lk b c).told k'
turn F {st = st} {k = k} {c = c} d e g = rw (d.area ∙ ap (λ (x : Session). kept_by x st k c) e) (kept-turn c g)

-- the table that a call leaves
table-noted : {ls lk : ℕ} {b : Book} {st k : List ℕ} (c : Call) → Good ls lk b st k → table_by (session_of b) st k c ≡ tabled ls lk b c
unfolding tabled Act.records_activated Act.is_checked
table-noted (offer n) g = refl
table-noted (transfer p) g = refl
table-noted {ls} {lk} {b} {st} {k} (activate t) g =
    rw (possible ls lk b st k g, is_one b.offered, g.long-st, g.long-k)
    (by-case b.offered
    (λ o.
    by-case (ltb (length b.arrived) b.announced) (λ e1. rw (o, e1)) (λ e1.
    let q : length b.arrived ≡ b.announced = omega (arith, g.part, ltb-false (length b.arrived) b.announced e1) in
    let p : take b.announced st ≡ b.arrived = ap (λ (n : ℕ). take n st) (sym q) ∙ g.staged in
    rw (o, e1, le-ltb ls b.announced g.in-st, le-ltb lk b.announced g.in-k, p)))
    (λ o. rw o))
table-noted deactivate g = refl
table-noted delete g = refl
table-noted lost g = refl

pub tables : (F : Functions) {ls lk : ℕ} {b : Book} {s : Session} {st k st' k' : List ℕ} {t' : List Record} {c : Call} {r : F.Step}
    → Did F s st k c r st' k' t' → s ≡ session_of b → Good ls lk b st k → t' ≡ tabled ls lk b c
tables F {st = st} {k = k} {c = c} d e g = d.table ∙ ap (λ (x : Session). table_by x st k c) e ∙ table-noted c g

-- the book never tells 27
checked-possible : (b : Book) (p : List ℕ) (room : ℕ) → (checked b (check_of p room)).told.number ≡ 27 → ⊥
checked-possible b p room h = go (check_of p room) (check-low p room) h
  where
    go : (a : Answer) → a.number ≤ 7 → (checked b a).told.number ≡ 27 → ⊥
    go a l h =
        by-case (eqb a.number 0)
        (λ e0. by-case (eqb a.value 0) (λ e1. omega (arith, rw (e0, e1) at h)) (λ e1. omega (arith, rw (e0, e1) at h)))
        (λ e0. omega (arith, l, rw e0 at h))

pub never-impossible : (ls lk : ℕ) (b : Book) (c : Call) → (noted ls lk b c).told.number ≡ 27 → ⊥
unfolding noted
never-impossible ls lk b (offer n) h =
    by-case (eqb n 0 || ltb 65535 n) (λ e1. omega (arith, rw e1 at h)) (λ e1. by-case (ltb ls n || ltb lk n) (λ e2. omega (arith, rw (e1, e2) at h)) (λ e2. omega (arith, rw (e1, e2) at h)))
never-impossible ls lk b (transfer piece) h =
    by-case b.offered (λ o.
    by-case (eqb (length piece) 0 || ltb (b.announced - length b.arrived) (length piece)) (λ e1. omega (arith, rw (o, e1) at h)) (λ e1.
    by-case (ltb ls b.announced) (λ e2. omega (arith, rw (o, e1, e2) at h)) (λ e2. omega (arith, rw (o, e1, e2) at h))))
    (λ o. omega (arith, rw o at h))
never-impossible ls lk b (activate t) h =
    by-case b.offered (λ o.
    by-case (ltb (length b.arrived) b.announced) (λ e1. omega (arith, rw (o, e1) at h)) (λ e1.
    by-case (ltb ls b.announced || ltb lk b.announced) (λ e2. omega (arith, rw (o, e1, e2) at h)) (λ e2.
    checked-possible b b.arrived (length t) (simp (o, e1, e2) at h))))
    (λ o.
    by-case (eqb (length b.kept) 0) (λ e1. omega (arith, rw (o, e1) at h)) (λ e1.
    by-case (ltb lk (length b.kept)) (λ e2. omega (arith, rw (o, e1, e2) at h)) (λ e2. omega (arith, rw (o, e1, e2) at h))))
never-impossible ls lk b deactivate h = by-case b.active (λ a. omega (arith, rw a at h)) (λ a. omega (arith, rw a at h))
never-impossible ls lk b delete h = omega (arith, h)
never-impossible ls lk b lost h = omega (arith, h)
