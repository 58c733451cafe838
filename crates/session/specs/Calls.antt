-- The session calls except activating: document 01, "One client's session". For each call the session value it returns and its reply,
-- and what it leaves in the memory it was lent. Definitions only.
use Rattle.std.specs.Prelude.{ℕ, ◌+◌, ◌-◌, Bool, false, cond, not, ◌&&◌, ◌||◌, List, [], ◌∷◌, eqb, ltb, length}
use Rattle.std.proofs.lemmas.List.Edits.{sets}
use Rattle.session.specs.Answers.{Reply, reply, reply_of}
use Rattle.session.specs.declared.Session.{Session}
use Rattle.session.specs.declared.Step.{Step}

-- a new value: nothing offered, kept or active
abbrev pub new_session : Session
new_session = record { announced = 0; received = 0; kept = 0; stage = 0; active = 0 }

-- a pool is offered: the stage is 1
abbrev pub is_offered : Session → Bool
is_offered s = eqb s.stage 1

-- a pool is active
abbrev pub is_active : Session → Bool
is_active s = eqb s.active 1

-- the end of a stage: the announced size and the count of received bytes become 0, too
abbrev pub ended : Session → Session
ended s = record { announced = 0; received = 0; kept = s.kept; stage = 0; active = s.active }

-- whether at least one of the tests holds
abbrev pub any_of : List Bool → Bool
any_of [] = false
any_of (t ∷ ts) = t || any_of ts

-- what makes a value impossible: a stage or active mark other than 0 and 1; a size over 65,535; an offer of size 0; more bytes received
-- than announced; active with no pool kept; bytes announced or received though nothing is offered
abbrev pub causes : Session → List Bool
causes s =
    ltb 1 s.stage
    ∷ ltb 1 s.active
    ∷ ltb 65535 s.announced
    ∷ ltb 65535 s.kept
    ∷ (is_offered s && eqb s.announced 0)
    ∷ ltb s.announced s.received
    ∷ (is_active s && eqb s.kept 0)
    ∷ (not (is_offered s) && not (eqb s.announced 0))
    ∷ (not (is_offered s) && not (eqb s.received 0))
    ∷ []

-- an impossible session value, which is refused with 27: one of the causes holds
unfoldable pub impossible : Session → Bool
impossible s = any_of (causes s)

-- the value that a call returns, and its reply
pub record Told : Type 0 where
  pub session : Session
  pub reply : Reply

-- a step as its session value and its answer's reply
abbrev pub step_of : Step → Told
step_of r = record { session = r.session; reply = reply_of r.answer }

-- a refusal with its number; the session value is as it was
abbrev pub refused : Session → ℕ → Told
refused s n = record { session = s; reply = reply n 0 }

-- a call that succeeds, with the session value that it returns
abbrev pub done : Session → Told
done s = record { session = s; reply = reply 0 0 }

-- any call: 27 for an impossible session value comes before everything else
abbrev pub judged : Session → Told → Told
judged s t = cond (impossible s) (refused s 27) t

-- offering a size, over areas of ls and lk bytes
unfoldable pub offer_of : Session → ℕ → ℕ → ℕ → Told
offer_of s size ls lk =
    judged s
    (cond (eqb size 0 || ltb 65535 size) (refused s 20)
    (cond (ltb ls size || ltb lk size) (refused s 26)
    (done (record { announced = size; received = 0; kept = s.kept; stage = 1; active = s.active }))))

-- transferring a piece into staging of ls bytes
unfoldable pub transfer_of : Session → List ℕ → ℕ → Told
transfer_of s piece ls =
    judged s
    (cond (not (is_offered s)) (refused s 21)
    (cond (eqb (length piece) 0 || ltb (s.announced - s.received) (length piece)) (refused s 22)
    (cond (ltb ls s.announced) (refused s 26)
    (done (record { announced = s.announced; received = s.received + length piece; kept = s.kept; stage = 1; active = s.active })))))

-- staging afterwards: the piece follows the bytes already received, unless it was refused
unfoldable pub staging_after : Session → List ℕ → List ℕ → List ℕ
staging_after s piece staging =
    cond (eqb (transfer_of s piece (length staging)).reply.number 0)
    (sets staging s.received piece)
    staging

-- deactivating: 25 if nothing is active
unfoldable pub deactivate_of : Session → Told
deactivate_of s =
    judged s
    (cond (eqb s.active 0) (refused s 25)
    (done (record { announced = s.announced; received = s.received; kept = s.kept; stage = s.stage; active = 0 })))

-- deleting: the session value is that of a new session
unfoldable pub delete_of : Session → Told
delete_of s = judged s (done new_session)

-- a lost connection: nothing is offered or active, and the pool stays kept
unfoldable pub lost_of : Session → Told
lost_of s = judged s (done (record { announced = 0; received = 0; kept = s.kept; stage = 0; active = 0 }))
