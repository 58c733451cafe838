-- A list of session calls, whichever functions answer them. Definitions only.
use Rattle.std.specs.Prelude.{◌≡◌, cond, List, [], ◌∷◌, ℕ, length, take}
use Rattle.session.specs.declared.Session.{Session}
use Rattle.working_table.specs.declared.Record.{Record}
use Rattle.book.specs.Book.{Said, Book, Call}

-- a set of functions for the calls of a session, for which the claim is stated. Those of Rattle are in `InRattle`, those that C calls in
-- `InC` of the crate `c_sessions`
pub record Functions : Type 1 where
  -- what a call returns: the session value after it, and what the client is told
  pub Step : Type 0
  pub session : Step → Session
  pub told : Step → Said
  -- a new session value
  pub New : Session → Type 0
  -- one call, from a session value, staging and the kept area: the step that it may return, and what the two areas and its table may
  -- hold afterwards
  pub Does : Session → List ℕ → List ℕ → Call → Step → List ℕ → List ℕ → List Record → Type 0
  -- no call asks anything of its caller
  pub Free : Type 0

-- a run of a list of calls: each call gets the session value and the areas as the call before left them
pub data Runs (F : Functions) : Session → List ℕ → List ℕ → List Call → List F.Step → Session → List ℕ → List ℕ → Type 0 where
  ends : (s : Session) (st k : List ℕ) → Runs F s st k [] [] s st k
  goes : {s s' : Session} {st k st' k' st'' k'' : List ℕ} {t' : List Record} {c : Call} {cs : List Call} {r : F.Step} {qs : List F.Step}
      → F.Does s st k c r st' k' t' → Runs F (F.session r) st' k' cs qs s' st'' k'' → Runs F s st k (c ∷ cs) (r ∷ qs) s' st'' k''

-- the session value that corresponds to a book, field by field
abbrev pub session_of : Book → Session
session_of b =
    record {
      announced = b.announced;
      received = length b.arrived;
      kept = length b.kept;
      stage = cond b.offered 1 0;
      active = cond b.active 1 0;
    }

-- an area starts with a list of bytes
abbrev pub Starts : List ℕ → List ℕ → Type 0
Starts area l = take (length l) area ≡ l
