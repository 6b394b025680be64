-- The first three fields of an edge's line: FROM, ACT and TO.
use Rattle.std.specs.Prelude.{ℕ, Bool, true, false, ◌&&◌, ◌||◌, pos, leb, ltb, Option, Some, None}
use Rattle.model.specs.Bounds.{max_actions, last_location}
use Rattle.line_order.specs.declared.Counts.{Counts}
use Rattle.format.specs.Bytes.{Bytes}
use Rattle.format.specs.Number.{within, natural_of}
use Rattle.read_form.specs.Form.{field_in}
use Rattle.read_edge.specs.declared.Ends.{Ends}

-- row 3 of FROM, ACT and TO
unfoldable pub ends_sound : Bytes → Bool
ends_sound v =
    within (pos 0) (pos last_location) (field_in 0 v) &&
    (within (pos 0) (pos max_actions) (field_in 1 v) &&
    within (pos 0) (pos last_location) (field_in 2 v))

-- the three numbers
unfoldable pub ends_of : Bytes → Ends
ends_of v =
    record { from = natural_of (field_in 0 v); action = natural_of (field_in 1 v); to = natural_of (field_in 2 v) }

unfoldable pub ends_in : Bytes → Option Ends
ends_in v = elim (ends_sound v) [ true ↦ Some (ends_of v) | false ↦ None ]

-- row 12, by what has been counted
unfoldable pub astray : Counts → (from action to : ℕ) → Bool
astray c from action to = leb c.locations from || (ltb c.actions action || leb c.locations to)
