-- `c_functions::messages_are_exchanged` meets its contract, which is the claim itself: what each contract says, in the claim's words.
use Rattle.c_functions.proofs.messages_are_exchanged.Goals as goal

pub returns : goal.returns
returns c =
    record {
      read = λ κs s r h. h;
      value = λ κs to command element ddi value r to' h. h;
      acknowledge = λ κs to element ddi errors answered r to' h. h;
      displayed = λ κs value offset scale decimals x r x' h. h;
    }
