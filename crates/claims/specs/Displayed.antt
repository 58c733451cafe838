-- The displayed value refuses a presentation exactly if the rule table does. Definitions only.
use Rattle.std.specs.Prelude.{ℕ, suc, ◌≡◌, ◌↔◌, List, ℤ}
use Rattle.std.specs.Float.{binary32}
use Rattle.std.specs.Float.Ieee.{of_bits}
use Rattle.wire.specs.Bytes.{Octets}
use Rattle.presentation.specs.Display.{shown_of}
use Rattle.presentation.specs.declared.Presentation.{Presentation}
use Rattle.records.specs.declared.Kind.TheVariants.{Dvp}
use Rattle.views.specs.Fields.{presentation_of}
use Rattle.pool.specs.Reading.{Entry}
use Rattle.naming.specs.Records.{start_at}
use Rattle.rules.specs.Breach.{Is, Breach}

-- the presentation that a record holds; its scale is the f32 with the record's bits
abbrev pub presentation_at : List ℕ → ℕ → Presentation
presentation_at p at =
    record { offset = (presentation_of p at).offset; scale = of_bits binary32 (presentation_of p at).scale; decimals = (presentation_of p at).decimals }

-- 50 is given for a value presentation of a pool, whatever the value, exactly if the record has a breach of rule 5
abbrev pub FiftyIsABreach : Type 0
FiftyIsABreach = (p : List ℕ) (es : List Entry) (i : ℕ) (v : ℤ) → Octets p → Is es Dvp i
    → ((shown_of v (presentation_at p (start_at es i))).number ≡ 50) ↔ ((item : ℕ) × Breach p es (suc i) 5 item)
