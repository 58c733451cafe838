-- `c_functions::objects_are_read` meets its contract, which is the claim itself: what each contract says, in the claim's words.
use Rattle.c_functions.proofs.objects_are_read.Goals as goal

pub returns : goal.returns
returns c =
    record {
      version = λ κs r h. h;
      device = λ κs p start r h. h;
      element = λ κs p start r h. h;
      entry = λ κs p start n r h. h;
      process_data = λ κs p start r h. h;
      property = λ κs p start r h. h;
      presentation = λ κs p start r h. h;
    }
