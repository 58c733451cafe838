-- The functions of Rattle do as the session's definitions say. Assumes nothing.
use mathlib.Core.Path.{◌≡◌, refl, sym, ap, subst}
use mathlib.Core.List.{List, []}
use Prim.Native.Nat.{ℕ}
use denote.Bor.{Bor}
use denote.MutBor.{MutBor}
use lib.ListN.{length}
use Rattle.session.specs.Calls as S
use Rattle.activation.specs.Activating as Act
use Rattle.activation.proofs.Settled.{answer-sized}
use Rattle.session.specs.declared.Session.{Session}
use Rattle.session.specs.declared.Step.{Step}
use Rattle.working_table.specs.declared.Record.{Record}
use Rattle.book.specs.Book.{Call, offer, transfer, activate, deactivate, delete, lost}
use Rattle.book.specs.InRattle.{in_rattle, Does, does_offer, does_transfer, does_activate, does_deactivate, does_delete, does_lost, New, is_new}
use Rattle.book.proofs.Follows.{said_in, Did, One, Follows}
use Rattle.book.proofs.Exists.{real}

new_is : {s : Session} → New s → s ≡ S.new_session
new_is (is_new κs s ask post) = post

-- a step tells what its definition says
says : (r : Step) (t : S.Told) → S.step_of r ≡ t → (in_rattle.told r ≡ said_in t.reply) × (r.session ≡ t.session)
says r t e = (ap (λ (x : S.Told). said_in x.reply) e, ap (λ (x : S.Told). x.session) e)

did : {s : Session} {st k st' k' : List ℕ} {t' : List Record} {c : Call} {r : Step} → Does s st k c r st' k' t' → Did in_rattle s st k c r st' k' t'
did (does_offer κs s n st k r ask post) = let w = says r (S.offer_of s n (length st.now) (length k.now)) post in record { said = w.0; session = w.1; staging = refl; area = refl; table = refl }
did (does_transfer κs s p st k r st' ask post) = let w = says r (S.transfer_of s p.now (length st.now)) post.0 in record { said = w.0; session = w.1; staging = post.1; area = refl; table = refl }
did (does_activate κs s st k t r k' t' post) = let w = says r (Act.activate_of s st.now (length k.now) (length t.now)) post.0 in record { said = w.0; session = w.1; staging = refl; area = post.1; table = post.2 }
did (does_deactivate κs s st k r ask post) = let w = says r (S.deactivate_of s) post in record { said = w.0; session = w.1; staging = refl; area = refl; table = refl }
did (does_delete κs s st k r ask post) = let w = says r (S.delete_of s) post in record { said = w.0; session = w.1; staging = refl; area = refl; table = refl }
did (does_lost κs s st k r ask post) = let w = says r (S.lost_of s) post in record { said = w.0; session = w.1; staging = refl; area = refl; table = refl }

-- one call, over a reference to each list
ref : {A : Type 0} → List A → Bor (List A)
ref l = record { ref_ptr = (0, 0); now = l }

mut : {A : Type 0} → List A → MutBor (List A)
mut l = record { ref_ptr = (0, 0); ghost_name = 0; now = l }

one : (c : Call) (s : Session) (st k : List ℕ) → One in_rattle s st k c
unfolding ref mut
one (offer n) s st k =
    let r = real s st k (offer n) in
    record { step = r.step; staging = st; area = k; table = []; does = does_offer ([], ([], tt)) s n (ref st) (ref k) r.step tt r.tells }
one (transfer p) s st k =
    let r = real s st k (transfer p) in
    record { step = r.step; staging = S.staging_after s p st; area = k; table = []; does = does_transfer ([], ([], tt)) s (ref p) (mut st) k r.step (S.staging_after s p st) tt (r.tells, refl) }
one (activate t) s st k =
    let r = real s st k (activate t) in
    record { step = r.step; staging = st; area = Act.kept_after s st k (length t); table = Act.records_activated s st (length k) t; does = does_activate ([], ([], ([], tt))) s (ref st) (mut k) (mut t) r.step (Act.kept_after s st k (length t)) (Act.records_activated s st (length k) t) (r.tells, refl, refl, subst (λ (x : S.Told). Act.Sized x) (sym r.tells) (answer-sized s st k (length t))) }
one deactivate s st k = let r = real s st k deactivate in record { step = r.step; staging = st; area = k; table = []; does = does_deactivate tt s st k r.step tt r.tells }
one delete s st k = let r = real s st k delete in record { step = r.step; staging = st; area = k; table = []; does = does_delete tt s st k r.step tt r.tells }
one lost s st k = let r = real s st k lost in record { step = r.step; staging = st; area = k; table = []; does = does_lost tt s st k r.step tt r.tells }

pub follows : Follows in_rattle
follows =
    record {
      free = record {
        of_new = λ κs. tt;
        of_offer = λ κs s n x y. tt;
        of_transfer = λ κs s p x. tt;
        of_deactivate = λ κs s. tt;
        of_delete = λ κs s. tt;
        of_lost = λ κs s. tt;
      };
      begins = (S.new_session, is_new tt S.new_session tt refl);
      new = new_is;
      does = did;
      one = one;
    }
