-- Each call does as the book says. Assumes nothing.
use mathlib.Core.Path.{◌≡◌, refl, sym, ap, ◌∙◌}
use mathlib.Core.Bool.{true, false, cond, ◌||◌, true≢false}
use mathlib.Core.List.{List, [], ◌∷◌, ◌++◌}
use Prim.Native.Nat.{ℕ, ◌+◌, ◌-◌, ◌≤◌, ◌<◌}
use native.Mathlib.Omega.{arith}
use borrow.Author.Tests.{ltb-false, le-ltb, eqb-true, eqb-false, ne_eqb}
use lib.Dec.{eqb, ltb}
use lib.ListN.{length, take, drop, length-append}
use lib.Seq.{sets, sets-eq, length-sets, take-append_seam}
use Rattle.pool.specs.Answer.{Answer}
use Rattle.working_table.specs.declared.Record.{Record}
use Rattle.faults.specs.Faults.{FaultEntry}
use Rattle.checker.specs.Checking.{check_of, reported}
use Rattle.session.specs.Calls as S
use Rattle.activation.specs.Activating as Act
use Rattle.session.specs.declared.Session.{Session}
use Rattle.wire.proofs.Either.{neither, by-case}
use Rattle.book.specs.Book.{Book, Noted, noted, note, checked, first_in, Call, offer, transfer, activate, deactivate, delete, lost}
use Rattle.book.specs.Run.{Functions, session_of, Starts}
use Rattle.book.proofs.Good.{Good, possible, is_one, blank-good, over-good}
use Rattle.book.proofs.Follows.{said_in, told_by, staging_by, kept_by, Did}

-- what a call tells and returns is what the book notes, and the book stays good
pub record Ok (ls lk : ℕ) (t : S.Told) (m : Noted) (st k : List ℕ) : Type 0 where
  pub said : said_in t.reply ≡ m.told
  pub session : t.session ≡ session_of m.book
  pub good : Good ls lk m.book st k

same_first : (fs : List FaultEntry) → Act.first_in fs ≡ first_in fs
same_first [] = refl
same_first (f ∷ fs) = refl

module _ (ls lk : ℕ) (b : Book) (st k : List ℕ) (g : Good ls lk b st k) where
  -- a refusal leaves the book
  refusal : (n : ℕ) → Ok ls lk (S.refused (session_of b) n) (note b n) st k
  refusal n = record { said = refl; session = refl; good = g }

  offer-ok : (n : ℕ) → Ok ls lk (S.offer_of (session_of b) n (length st) (length k)) (noted ls lk b (offer n)) st k
  unfolding S.offer_of noted
  offer-ok n =
      rw (possible ls lk b st k g, g.long-st, g.long-k)
      (by-case (eqb n 0 || ltb 65535 n) (λ e1. rw e1 (refusal 20)) (λ e1.
      by-case (ltb ls n || ltb lk n) (λ e2. rw (e1, e2) (refusal 26)) (λ e2.
      let size = neither (eqb n 0) (ltb 65535 n) e1 in
      let room = neither (ltb ls n) (ltb lk n) e2 in
      rw (e1, e2)
      (record {
        said = refl;
        session = refl;
        good = record {
          long-st = g.long-st;
          long-k = g.long-k;
          size = ltb-false 65535 n size.1;
          kept-size = g.kept-size;
          part = omega arith;
          in-st = ltb-false ls n room.0;
          in-k = ltb-false lk n room.1;
          kept_in = g.kept_in;
          some = λ o. positive n (eqb-false n 0 size.0);
          none = λ o. absurd (true≢false o);
          live = g.live;
          staged = refl;
          stored = g.stored;
        };
      }))))
    where
      positive : (n : ℕ) → (n ≡ 0 → ⊥) → 0 < n
      positive n h = omega arith

  -- the piece stands behind what arrived before
  joined : (piece : List ℕ) → length b.arrived + length piece ≤ length st → Starts (sets st (length b.arrived) piece) (b.arrived ++ piece)
  joined piece h =
      rw (sets-eq piece st (length b.arrived) h, g.staged)
      (take-append_seam (b.arrived ++ piece) (drop (length b.arrived + length piece) st))

  transfer-ok : (piece : List ℕ) → Ok ls lk (S.transfer_of (session_of b) piece (length st)) (noted ls lk b (transfer piece)) (S.staging_after (session_of b) piece st) k
  unfolding S.transfer_of S.staging_after noted
  transfer-ok piece =
      rw (possible ls lk b st k g, is_one b.offered, g.long-st)
      (by-case b.offered
      (λ o.
      by-case (eqb (length piece) 0 || ltb (b.announced - length b.arrived) (length piece)) (λ e1. simp (o, e1) (record { said = refl; session = rw o; good = g })) (λ e1.
      let left = neither (eqb (length piece) 0) (ltb (b.announced - length b.arrived) (length piece)) e1 in
      let l : length piece ≤ b.announced - length b.arrived = ltb-false (b.announced - length b.arrived) (length piece) left.1 in
      let room : length b.arrived + length piece ≤ length st = omega (arith, g.part, g.in-st, g.long-st) in
      simp (o, e1, le-ltb ls b.announced g.in-st)
      (record {
        said = refl;
        session = rw (length-append b.arrived piece);
        good = record {
          long-st = length-sets st (length b.arrived) piece ∙ g.long-st;
          long-k = g.long-k;
          size = g.size;
          kept-size = g.kept-size;
          part = rw (length-append b.arrived piece) (omega (arith, g.part));
          in-st = g.in-st;
          in-k = g.in-k;
          kept_in = g.kept_in;
          some = λ z. g.some o;
          none = λ z. absurd (true≢false z);
          live = g.live;
          staged = joined piece room;
          stored = g.stored;
        };
      })))
      (λ o. simp o (record { said = refl; session = rw o; good = g })))

  -- the pool that arrived is kept: the area starts with it
  kept-good : b.offered ≡ true → length b.arrived ≡ b.announced
      → Good ls lk (record { offered = false; announced = 0; arrived = []; kept = b.arrived; active = true }) st (sets k 0 b.arrived)
  kept-good o q =
      record {
        long-st = g.long-st;
        long-k = length-sets k 0 b.arrived ∙ g.long-k;
        size = omega arith;
        kept-size = omega (arith, g.size);
        part = omega arith;
        in-st = omega arith;
        in-k = omega arith;
        kept_in = omega (arith, g.in-k);
        some = λ z. absurd (true≢false (sym z));
        none = λ z. refl;
        live = λ z. (let n = g.some o in omega arith);
        staged = refl;
        stored = rw (sets-eq b.arrived k 0 (omega (arith, g.in-k, g.long-k))) (take-append_seam b.arrived (drop (0 + length b.arrived) k));
      }

  -- what follows from what checking says
  decided-ok : b.offered ≡ true → length b.arrived ≡ b.announced → (a : Answer)
      → Ok ls lk (Act.decided (record { announced = b.announced; received = length b.arrived; kept = length b.kept; stage = 1; active = cond b.active 1 0 }) b.arrived a)
      (checked b a) st (cond (Act.accepted a) (sets k 0 b.arrived) k)
  decided-ok o q a =
      by-case (eqb a.number 0)
      (λ e0.
      let seven : eqb a.number 7 ≡ false = ne_eqb a.number 7 (λ (z : a.number ≡ 7). let y = eqb-true a.number 0 e0 in omega arith) in
      by-case (eqb a.value 0)
      (λ e1. simp (seven, e0, e1) (record { said = refl; session = refl; good = kept-good o q }))
      (λ e1. simp (seven, e0, e1, same_first (reported b.arrived)) (record { said = refl; session = refl; good = over-good ls lk b st k g })))
      (λ e0.
      by-case (eqb a.number 7)
      (λ e1. simp (e0, e1) (record { said = refl; session = rw o; good = g }))
      (λ e1. simp (e0, e1) (record { said = refl; session = refl; good = over-good ls lk b st k g })))

  activate-ok : (t : List Record) → Ok ls lk (Act.activate_of (session_of b) st (length k) (length t)) (noted ls lk b (activate t)) st (Act.kept_after (session_of b) st k (length t))
  unfolding Act.activate_of Act.kept_after Act.is_checked Act.kept_activated Act.settled Act.kept_settled noted
  activate-ok t =
      rw (possible ls lk b st k g, is_one b.offered, g.long-st, g.long-k)
      (by-case b.offered
      (λ o.
      by-case (ltb (length b.arrived) b.announced) (λ e1. simp (o, e1) (record { said = refl; session = rw o; good = g })) (λ e1.
      let q : length b.arrived ≡ b.announced = omega (arith, g.part, ltb-false (length b.arrived) b.announced e1) in
      let p : take b.announced st ≡ b.arrived = ap (λ (n : ℕ). take n st) (sym q) ∙ g.staged in
      simp (o, e1, le-ltb ls b.announced g.in-st, le-ltb lk b.announced g.in-k, p) (decided-ok o q (check_of b.arrived (length t)))))
      (λ o.
      by-case (eqb (length b.kept) 0) (λ e1. simp (o, e1) (record { said = refl; session = rw o; good = g })) (λ e1.
      simp (o, e1, le-ltb lk (length b.kept) g.kept_in) (record { said = refl; session = refl; good = active-good o (eqb-false (length b.kept) 0 e1) }))))
    where
      active-good : b.offered ≡ false → (length b.kept ≡ 0 → ⊥)
          → Good ls lk (record { offered = false; announced = b.announced; arrived = b.arrived; kept = b.kept; active = true }) st k
      active-good o h =
          record {
            long-st = g.long-st;
            long-k = g.long-k;
            size = g.size;
            kept-size = g.kept-size;
            part = g.part;
            in-st = g.in-st;
            in-k = g.in-k;
            kept_in = g.kept_in;
            some = λ z. absurd (true≢false (sym z));
            none = λ z. g.none o;
            live = λ z. positive (length b.kept) h;
            staged = g.staged;
            stored = g.stored;
          }
        where
          positive : (n : ℕ) → (n ≡ 0 → ⊥) → 0 < n
          positive n h = omega arith

  deactivate-ok : Ok ls lk (S.deactivate_of (session_of b)) (noted ls lk b deactivate) st k
  unfolding S.deactivate_of noted
  deactivate-ok =
      rw (possible ls lk b st k g)
      (by-case b.active
      (λ a. simp a (record {
        said = refl;
        session = refl;
        good = record {
          long-st = g.long-st;
          long-k = g.long-k;
          size = g.size;
          kept-size = g.kept-size;
          part = g.part;
          in-st = g.in-st;
          in-k = g.in-k;
          kept_in = g.kept_in;
          some = g.some;
          none = g.none;
          live = λ z. absurd (true≢false (sym z));
          staged = g.staged;
          stored = g.stored;
        };
      }))
      (λ a. simp a (record { said = refl; session = rw a; good = g })))

  delete-ok : Ok ls lk (S.delete_of (session_of b)) (noted ls lk b delete) st k
  unfolding S.delete_of noted
  delete-ok =
      rw (possible ls lk b st k g)
      (record { said = refl; session = refl; good = rw (← g.long-st, ← g.long-k) (blank-good st k) })

  lost-ok : Ok ls lk (S.lost_of (session_of b)) (noted ls lk b lost) st k
  unfolding S.lost_of noted
  lost-ok =
      rw (possible ls lk b st k g)
      (record {
        said = refl;
        session = refl;
        good = record {
          long-st = g.long-st;
          long-k = g.long-k;
          size = omega arith;
          kept-size = g.kept-size;
          part = omega arith;
          in-st = omega arith;
          in-k = omega arith;
          kept_in = g.kept_in;
          some = λ z. absurd (true≢false (sym z));
          none = λ z. refl;
          live = λ z. absurd (true≢false (sym z));
          staged = refl;
          stored = g.stored;
        };
      })

-- one call of functions that do as the definitions say
called-ok : {ls lk : ℕ} {b : Book} {st k : List ℕ} (c : Call) → Good ls lk b st k → Ok ls lk (told_by (session_of b) st k c) (noted ls lk b c) (staging_by (session_of b) st c) (kept_by (session_of b) st k c)
called-ok {ls} {lk} {b} {st} {k} (offer n) g = offer-ok ls lk b st k g n
called-ok {ls} {lk} {b} {st} {k} (transfer p) g = transfer-ok ls lk b st k g p
called-ok {ls} {lk} {b} {st} {k} (activate t) g = activate-ok ls lk b st k g t
called-ok {ls} {lk} {b} {st} {k} deactivate g = deactivate-ok ls lk b st k g
called-ok {ls} {lk} {b} {st} {k} delete g = delete-ok ls lk b st k g
called-ok {ls} {lk} {b} {st} {k} lost g = lost-ok ls lk b st k g

-- what such a call tells and leaves is what the book notes
pub record Done (F : Functions) (ls lk : ℕ) (m : Noted) (r : F.Step) (st k : List ℕ) : Type 0 where
  pub said : F.told r ≡ m.told
  pub session : F.session r ≡ session_of m.book
  pub good : Good ls lk m.book st k

pub did-ok : (F : Functions) {ls lk : ℕ} {b : Book} {s : Session} {st k st' k' : List ℕ} {t' : List Record} {c : Call} {r : F.Step}
    → Did F s st k c r st' k' t' → s ≡ session_of b → Good ls lk b st k → Done F ls lk (noted ls lk b c) r st' k'
did-ok F {ls} {lk} {b} {s} {st} {k} {st'} {k'} {c = c} d e g =
    let o = called-ok c g in
    record {
      said = d.said ∙ ap (λ (x : Session). said_in (told_by x st k c).reply) e ∙ o.said;
      session = d.session ∙ ap (λ (x : Session). (told_by x st k c).session) e ∙ o.session;
      good = rw (d.staging ∙ ap (λ (x : Session). staging_by x st c) e, d.area ∙ ap (λ (x : Session). kept_by x st k c) e) o.good;
    }
