-- `log_reading::worked_records_hold` meets its contract: each follows by computation.
use mathlib.Core.Path.{refl}
use Rattle.wire.specs.Bytes.{le_of, bytes_of, number_in, signed_of, bits_of}
use Rattle.time_log.specs.Layout.{part_width, place_of, record_length}
use Rattle.time_log.specs.Contents.{part_at, spaced, signed_from}
use Rattle.time_log.specs.Judging.{one_over, refusal_of_fields, record_refusal}
use Rattle.log_reading.specs.Reading.{read_refusal, read_of, ordinals_after, values_after}
use Rattle.log_reading.specs.Logs.{walk, log_of}
use Rattle.log_reading.specs.Worked.{RecordsRead, LimitsJudged}
use Rattle.log_reading.proofs.worked_records_hold.Goals as goal

read : RecordsRead
unfolding le_of number_in signed_of part_width place_of record_length part_at spaced signed_from one_over refusal_of_fields record_refusal read_refusal read_of ordinals_after values_after walk log_of
read =
    record {
      example_read = refl;
      example_ordinals = refl;
      example_values = refl;
      full_read = refl;
      full_ordinals = refl;
      full_values = refl;
      log_read = refl;
      log_cut = refl;
    }

limits : LimitsJudged
unfolding le_of bytes_of number_in signed_of bits_of part_width place_of record_length part_at spaced one_over refusal_of_fields record_refusal
limits =
    record {
      upper = refl;
      lower = refl;
      other_status = (refl, refl);
      time = refl;
      north = (refl, refl);
      east = (refl, refl);
      status = (refl, refl, refl);
      ordinal = refl;
    }

pub returns : goal.returns
returns c = record { read = read; limits = limits }
