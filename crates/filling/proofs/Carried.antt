-- Types whose values own nothing, so that ownership of a value always holds. A covered function's answer has such a type, and so has the
-- answer of a function over the table.
--     Carried                      a type's row, its type in MIR, and these laws
--     struct-of, enum-of, uint-of  a declared struct, a declared enum and a number are such types
-- Assumes `Logic`.
use mathlib.Core.List.{[], ◌∷◌}
use seplogic.Ra.Ura.{Ura}
use mir.Syntax.{Ty, Width, ty_int}
use mir.Val.{Val}
use types.Logic.{Logic}
use denote.RattleType.{RattleType}
use denote.Memory.{lone}
use denote.Laws.{Is, Makes}
use denote.Plain.{UInt, uint_Makes, uint_Lawful}
use denote.Struct.Struct.{Plains}
use denote.Struct.Declared as SD
use denote.Struct.Laws as SL
use denote.Enum.Enum.{Plainss, Few}
use denote.Enum.Declared as ED
use denote.Enum.Laws as EL
use Rattle.filling.proofs.Cells.{Typed}

pub record Carried {M : Type 1} {𝓤 : Ura M} (𝓛 : Logic 𝓤) : Type 2 where
  pub row : RattleType
  pub mir : Ty
  pub makes : Makes 𝓛 row (Is row)
  pub typed : (x : row.Denot) (w : Val) → Is row x (w ∷ []) → Typed mir w

module _ {M : Type 1} {𝓤 : Ura M} (𝓛 : Logic 𝓤) where
  abbrev pub struct-of : (T : SD.Declared) (L : SL.Laws T) → Plains (SD.fields T) → Carried 𝓛
  struct-of T L plain = record { row = SD.row T; mir = lone (SD.row T).mir; makes = SL.makes T plain 𝓛; typed = λ x w is. ((SL.lawful T L 𝓛).typed x _ is).0 }

  abbrev pub enum-of : (T : ED.Declared) (L : EL.Laws T) → Plainss (ED.variants T) → Few (ED.shape T) → Carried 𝓛
  enum-of T L plain few = record { row = ED.row T; mir = lone (ED.row T).mir; makes = EL.makes T plain 𝓛; typed = λ x w is. ((EL.lawful T L 𝓛 few).typed x _ is).0 }

  abbrev pub uint-of : Width → Carried 𝓛
  uint-of w = record { row = UInt w; mir = ty_int w; makes = uint_Makes 𝓛 w; typed = λ x v is. ((uint_Lawful 𝓛 w).typed x _ is).0 }
