-- An optional field as a number of its width. Assumes nothing.
use mathlib.Core.Path.{◌≡◌, ap, ◌∙◌}
use mathlib.Core.List.{List}
use Prim.Native.Nat.{ℕ}
use Rattle.wire.specs.Bytes.{le_of, number_in}
use Rattle.time_log.specs.Layout.{part_width, place_of}
use Rattle.time_log.specs.Contents.{part_at}

-- what is read in the part's width at the part's place
pub read-part : (layout k w at : ℕ) (s : List ℕ) (x : ℕ) → w ≡ part_width layout k → at ≡ place_of layout k → x ≡ number_in w s at → x ≡ part_at layout s k
unfolding part_at
read-part layout k w at s x e f g = g ∙ ap (λ (v : ℕ). number_in v s at) e ∙ ap (number_in (part_width layout k) s) f

pub absent : (layout k : ℕ) (s : List ℕ) → part_width layout k ≡ 0 → 0 ≡ part_at layout s k
unfolding part_at number_in le_of
absent layout k s e = rw e
