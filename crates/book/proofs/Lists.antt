-- Lists of calls: the claim, for any functions that do as the session's definitions say. Assumes nothing.
use mathlib.Core.Path.{◌≡◌, refl, sym, ap, ap₂, ◌∙◌}
use mathlib.Core.Logic.{⊎_elim}
use mathlib.Core.List.Memᴰ
use mathlib.Core.List.{List, [], ◌∷◌, map, Memᴰ}
use Prim.Native.Nat.{ℕ}
use lib.ListN.{length}
use Rattle.session.specs.declared.Session.{Session}
use Rattle.book.specs.Book.{Said, Book, blank, noted, book_of, said_of, Call}
use Rattle.book.specs.Run.{Functions, Runs, ends, goes, session_of}
use Rattle.book.specs.Claim.{After, Outcome, Booked}
use Rattle.book.proofs.Follows.{Follows}
use Rattle.book.proofs.Good.{Good, blank-good}
use Rattle.book.proofs.Steps.{did-ok}
use Rattle.book.proofs.Turns.{turn, tables, exactly-book, never-impossible}

-- a run from a good book: its answers and fields are the book's, and the book stays good
record Ran (F : Functions) (ls lk : ℕ) (b : Book) (cs : List Call) (qs : List F.Step) (s : Session) (st k : List ℕ) : Type 0 where
  answers : map F.told qs ≡ said_of ls lk b cs
  fields : s ≡ session_of (book_of ls lk b cs)
  good : Good ls lk (book_of ls lk b cs) st k
  possible : (q : F.Step) → Memᴰ q qs → (F.told q).number ≡ 27 → ⊥

module _ (F : Functions) (f : Follows F) where
  runs-ok : {ls lk : ℕ} {s s' : Session} {st k st' k' : List ℕ} {cs : List Call} {qs : List F.Step} → Runs F s st k cs qs s' st' k' → (b : Book) → s ≡ session_of b
      → Good ls lk b st k → Ran F ls lk b cs qs s' st' k'
  unfolding said_of book_of
  runs-ok (ends s st k) b e g = record { answers = refl; fields = e; good = g; possible = λ q m z. Memᴰ.not-nil m }
  runs-ok {ls} {lk} (goes {c = c} {r = r} d ds) b e g =
      let o = did-ok F (f.does d) e g in
      let w = runs-ok ds (noted ls lk b c).book o.session o.good in
      record {
        answers = ap₂ ◌∷◌ o.said w.answers;
        fields = w.fields;
        good = w.good;
        possible = λ q m z. ⊎_elim (λ (h : q ≡ r). never-impossible ls lk b c (ap (λ (x : Said). x.number) (sym o.said) ∙ ap (λ (x : F.Step). (F.told x).number) (sym h) ∙ z)) (λ (h : Memᴰ q _). w.possible q h z) (Memᴰ.cases_cons m);
      }

  runs_on : (cs : List Call) (s : Session) (st k : List ℕ) → Outcome F s st k cs
  runs_on [] s st k = record { steps = []; session = s; staging_left = st; kept_left = k; run = ends s st k }
  runs_on (c ∷ cs) s st k =
      let d = f.one c s st k in
      let o = runs_on cs (F.session d.step) d.staging d.area in
      record { steps = d.step ∷ o.steps; session = o.session; staging_left = o.staging_left; kept_left = o.kept_left; run = goes d.does o.run }

  pub booked : (staging kept : List ℕ) (cs : List Call) → Booked F staging kept cs
  booked staging kept cs =
      record {
        free = f.free;
        begins = f.begins;
        runs = λ s n. runs_on cs s staging kept;
        answers = λ s n o. (ran (f.new n) o).answers;
        possible = λ s n o. (ran (f.new n) o).possible;
        after = λ s n o. left o.session o.staging_left o.kept_left (ran (f.new n) o).fields (ran (f.new n) o).good;
      }
    where
      ran : {s : Session} → s ≡ session_of blank → (o : Outcome F s staging kept cs) → Ran F (length staging) (length kept) blank cs o.steps o.session o.staging_left o.kept_left
      ran e o = runs-ok o.run blank e (blank-good staging kept)

      left : (s : Session) (st k : List ℕ) → s ≡ session_of (book_of (length staging) (length kept) blank cs) → Good (length staging) (length kept) (book_of (length staging) (length kept) blank cs) st k
          → After F (length staging) (length kept) (book_of (length staging) (length kept) blank cs) s st k
      left s st k e g =
          record {
            fields = e;
            arrived = g.staged;
            stored = g.stored;
            next = λ c r st' k' t' d. (rw (did-ok F (f.does d) e g).said (turn F (f.does d) e g));
            table = λ c r st' k' t' d. tables F (f.does d) e g;
            exactly = λ t r st' k' t' d offered. (
                let number = ap (λ (x : Said). x.number) (did-ok F (f.does d) e g).said in
                let w = exactly-book (length staging) (length kept) (book_of (length staging) (length kept) blank cs) st k g t offered in
                ((λ z. w.0 (sym number ∙ z)), (λ h. number ∙ w.1 h)));
          }
