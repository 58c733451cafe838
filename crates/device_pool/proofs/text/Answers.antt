-- `device_pool::text`: the text that was found stands where the span says, and so do the bytes that are returned.
use Rattle.std.proofs.Common.{◌≡◌, ℕ, List, ◌∙◌, ap, length}
use Rattle.std.specs.Borrow.{Bor}
use Rattle.std.specs.Prelude.{Result, Ok, Err}
use Rattle.records.specs.declared.Span.{Span}
use native.Mathlib.Nat.{le_trans, min-eq_left}
use Rattle.wire.specs.Parts.{place_in}
use Rattle.views.specs.Fields.{part_of, start_in}
use Rattle.queries.specs.Queries.{span_of, text_of, text_span, Finds}
use Rattle.queries.specs.declared.Refusal.{Refusal}
use Rattle.device_pool.proofs.text.Goals as goal

-- the part of p at the place that was found is the text
text-found : (p : List ℕ) (room id : ℕ) (r : Result Span Refusal) → Finds p room id r → part_of p (span_of r) ≡ text_of p room id
unfolding text_of
text-found p room id r f = rw (f.from, f.to)

-- it starts where the text stands, which is within p
start-found : (x : Bor (List ℕ)) (room id : ℕ) (r : Result Span Refusal) → Finds x.now room id r → place_in x (start_in x.now (span_of r)) ≡ place_in x (text_span x.now room id).from
start-found x room id r f = ap (place_in x) (min-eq_left (le_trans f.ordered f.within) ∙ f.from)

pub returns-in-Ok : goal.returns-in-Ok
returns-in-Ok c =
    let a = c.args in
    let room = length a.table.now in
    let f = rw c.in-Ok.is at c.find_text.ensures.0 in (
      c.text_at.ensures.0 ∙ text-found a.p.now room a.id (Ok c.in-Ok.span) f,
      c.text_at.ensures.2 ∙ start-found a.p room a.id (Ok c.in-Ok.span) f,
      c.text_at.ensures.1 ∙ f.number,
      c.find_text.ensures.1,
    )

pub returns-in-Err : goal.returns-in-Err
returns-in-Err c =
    let a = c.args in
    let room = length a.table.now in
    let r = c.in-Err.refusal in
    let f = rw c.in-Err.is at c.find_text.ensures.0 in (
      c.text_at-in-Err.ensures.0 ∙ text-found a.p.now room a.id (Err r) f,
      c.text_at-in-Err.ensures.2 ∙ start-found a.p room a.id (Err r) f,
      c.text_at-in-Err.ensures.1 ∙ c.into.ensures ∙ f.number,
      c.find_text.ensures.1,
    )
