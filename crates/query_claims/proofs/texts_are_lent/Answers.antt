-- `query_claims::texts_are_lent` meets its contract, which is the claim itself: what the contract of `device_pool::text` says, in the
use mathlib.Core.Path.{◌≡◌, sym, ap, ◌∙◌}
use mathlib.Core.List.{List, ◌++◌}
use Prim.Native.Nat.{ℕ, ◌-◌}
use denote.Ref.{Bor}
use lib.ListN.{length, take, drop, take-append-drop}
use lib.Seq.{length-take-le}
use Rattle.records.specs.declared.Span.{Span}
use Rattle.wire.specs.Parts.{place_in}
use Rattle.claims.proofs.Verdict.{reading}
use Rattle.queries.specs.Queries.{text_span, text_of}
use Rattle.query_claims.specs.Lent.{PartOf}
use Rattle.query_claims.proofs.Queries.{text-begins}
use Rattle.query_claims.proofs.texts_are_lent.Goals as goal

-- claim's words. Assumes nothing.
-- the bytes before a text, its own, and those behind it
around : (p : List ℕ) (room id : ℕ)
    → p ≡ take (text_span p room id).from p ++ (text_of p room id ++ drop ((text_span p room id).to - (text_span p room id).from) (drop (text_span p room id).from p))
unfolding text_of
around p room id =
    let s : Span = text_span p room id in
    sym (take-append-drop s.from p) ∙ ap (λ (l : List ℕ). take s.from p ++ l) (sym (take-append-drop (s.to - s.from) (drop s.from p)))

part : (p r : Bor (List ℕ)) (room id : ℕ) → r.now ≡ text_of p.now room id → r.ref_ptr ≡ place_in p (text_span p.now room id).from → PartOf p r
part p r room id e a =
    record {
      before = take (text_span p.now room id).from p.now;
      after = drop ((text_span p.now room id).to - (text_span p.now room id).from) (drop (text_span p.now room id).from p.now);
      bytes = rw e (around p.now room id);
      place = rw (length-take-le (text_span p.now room id).from p.now (text-begins p.now room id)) a;
    }

pub returns : goal.returns
returns c = λ κs p t id n r t' n' h. record {
  answered = h.2;
  bytes = h.0;
  place = h.1;
  part = part p r (length t.now) id h.0 h.1;
  table = rw h.3 ((reading p.now (length t.now)).table t.now);
}
