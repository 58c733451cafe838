-- The functions of C do as the session's definitions say. Assumes nothing.
use mathlib.Core.Path.{◌≡◌, refl, ap}
use mathlib.Core.List.{List, []}
use Prim.Native.Nat.{ℕ}
use denote.Bor.{Bor}
use denote.MutBor.{MutBor}
use lib.ListN.{length}
use Rattle.session.specs.Calls as S
use Rattle.activation.specs.Activating as Act
use Rattle.session.specs.declared.Session.{Session}
use Rattle.c_answers.specs.Steps.{step_in}
use Rattle.c_answers.specs.declared.StepFields.{StepFields}
use Rattle.working_table.specs.declared.Record.{Record}
use Rattle.book.specs.Book.{Call, offer, transfer, activate, deactivate, delete, lost}
use Rattle.c_sessions.specs.InC.{in_c, Does, does_offer, does_transfer, does_activate, does_deactivate, does_delete, does_lost, New, is_new}
use Rattle.book.proofs.Follows.{said_in, Did, One, Follows}

new_is : {s : Session} → New s → s ≡ S.new_session
new_is (is_new κs s ask post) = post

-- a step tells what its definition says
says : (r : StepFields) (t : S.Told) → step_in r ≡ t → (in_c.told r ≡ said_in t.reply) × (r.session ≡ t.session)
says r t e = (ap (λ (x : S.Told). said_in x.reply) e, ap (λ (x : S.Told). x.session) e)

did : {s : Session} {st k st' k' : List ℕ} {t' : List Record} {c : Call} {r : StepFields} → Does s st k c r st' k' t' → Did in_c s st k c r st' k' t'
did (does_offer κs s n st k r ask post) = let w = says r (S.offer_of s n (length st.now) (length k.now)) post in record { said = w.0; session = w.1; staging = refl; area = refl; table = refl }
did (does_transfer κs s p st k r st' ask post) = let w = says r (S.transfer_of s p.now (length st.now)) post.0 in record { said = w.0; session = w.1; staging = post.1; area = refl; table = refl }
did (does_activate κs s st k t r k' t' post) = let w = says r (Act.activate_of s st.now (length k.now) (length t.now)) post.0 in record { said = w.0; session = w.1; staging = refl; area = post.1; table = post.2 }
did (does_deactivate κs s st k r ask post) = let w = says r (S.deactivate_of s) post in record { said = w.0; session = w.1; staging = refl; area = refl; table = refl }
did (does_delete κs s st k r ask post) = let w = says r (S.delete_of s) post in record { said = w.0; session = w.1; staging = refl; area = refl; table = refl }
did (does_lost κs s st k r ask post) = let w = says r (S.lost_of s) post in record { said = w.0; session = w.1; staging = refl; area = refl; table = refl }

-- the step of what is told
given : S.Told → StepFields
given t = record { session = t.session; place = t.reply.place; number = t.reply.number; «record» = t.reply.first.fault.number; rule = t.reply.first.fault.rule; item = t.reply.first.fault.item; id = t.reply.first.id; parent = t.reply.first.parent }

-- one call, over a reference to each list
ref : {A : Type 0} → List A → Bor (List A)
ref l = record { ref_ptr = (0, 0); now = l }

mut : {A : Type 0} → List A → MutBor (List A)
mut l = record { ref_ptr = (0, 0); ghost_name = 0; now = l }

one : (c : Call) (s : Session) (st k : List ℕ) → One in_c s st k c
unfolding ref mut given
one (offer n) s st k = record { step = _; staging = st; area = k; table = []; does = does_offer ([], ([], tt)) s n (ref st) (ref k) (given (S.offer_of s n (length st) (length k))) tt refl }
one (transfer p) s st k = record { step = _; staging = _; area = k; table = []; does = does_transfer ([], ([], tt)) s (ref p) (mut st) k (given (S.transfer_of s p (length st))) (S.staging_after s p st) tt (refl, refl) }
one (activate t) s st k = record { step = _; staging = st; area = _; table = _; does = does_activate ([], ([], ([], tt))) s (ref st) (mut k) (mut t) (given (Act.activate_of s st (length k) (length t))) (Act.kept_after s st k (length t)) (Act.records_activated s st (length k) t) (refl, refl, refl) }
one deactivate s st k = record { step = _; staging = st; area = k; table = []; does = does_deactivate tt s st k (given (S.deactivate_of s)) tt refl }
one delete s st k = record { step = _; staging = st; area = k; table = []; does = does_delete tt s st k (given (S.delete_of s)) tt refl }
one lost s st k = record { step = _; staging = st; area = k; table = []; does = does_lost tt s st k (given (S.lost_of s)) tt refl }

pub follows : Follows in_c
follows =
    record {
      free = record {
        of_new = λ κs. tt;
        of_offer = λ κs s n x y. tt;
        of_transfer = λ κs s p x. tt;
        of_deactivate = λ κs s. tt;
        of_delete = λ κs s. tt;
        of_lost = λ κs s. tt;
      };
      begins = (S.new_session, is_new tt S.new_session tt refl);
      new = new_is;
      does = did;
      one = one;
    }
