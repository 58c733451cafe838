-- Document 01's numbers for the refusals. Definitions only.
use Rattle.std.specs.Prelude.{ℕ, Result, Ok, Err}
use Rattle.time_log.specs.declared.Refusal.{Refusal}
use Rattle.time_log.specs.declared.Refusal.TheVariants.{CutRecord, BadTime, BadNorth, BadEast, BadStatus, OrdinalOver, NoRoom, BadLayout, BadCounts}
use Rattle.time_log.specs.declared.Marks.{Marks}

-- the number of each refusal
abbrev pub refusal_number : Refusal → ℕ
refusal_number CutRecord = 40
refusal_number BadTime = 41
refusal_number BadNorth = 42
refusal_number BadEast = 43
refusal_number BadStatus = 44
refusal_number OrdinalOver = 45
refusal_number NoRoom = 46
refusal_number BadLayout = 47
refusal_number BadCounts = 48

-- the number of an answer: 0 if nothing is refused
abbrev pub number_of : {A : Type 0} → Result A Refusal → ℕ
number_of (Ok x) = 0
number_of (Err refusal) = refusal_number refusal

-- how C is told how many optional fields a layout has
abbrev pub marks_of : Result ℕ Refusal → Marks
marks_of (Ok n) = record { number = 0; count = n }
marks_of (Err refusal) = record { number = refusal_number refusal; count = 0 }
