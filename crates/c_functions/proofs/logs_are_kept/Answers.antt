-- `c_functions::logs_are_kept` meets its contract, which is the claim itself: what each contract says, in the claim's words.
use Rattle.c_functions.proofs.logs_are_kept.Goals as goal

pub returns : goal.returns
returns c =
    record {
      fields = λ κs layout r h. h;
      read = λ κs s layout logged os vs r os' vs' h. h;
      written = λ κs to layout f logged os vs n r to' h. h;
      log = λ κs s layout logged r h. h;
    }
