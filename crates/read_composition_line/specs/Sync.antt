-- The line `sync=LIST` as the code reads it. It breaks the rows of `fault` and says what `entry` says: the laws
-- sync_faulty and sync_sound.
use Rattle.std.specs.Prelude.{ℕ, Bool, not, List, [], ◌∷◌, Result}
use Rattle.std.proofs.Math.Option.{Option, none}
use Rattle.model.specs.Limits.{broken}
use Rattle.line_order.specs.declared.Counts.{Counts}
use Rattle.line_order.specs.Counts.{capped}
use Rattle.format.specs.Bytes.{Bytes, bytes}
use Rattle.format.specs.Rows.{list_items}
use Rattle.read_composition.specs.declared.list.Listed.{Listed}
use Rattle.read_composition.specs.List.{list_of}
use Rattle.read_form.specs.declared.LineRead.{LineRead}
use Rattle.model.specs.declared.Row.{Row}
use Rattle.table_append.specs.Append.{next_place, put}
use Rattle.read_form.specs.Form.{value_after, misformed}
use Rattle.read_form.specs.Outcome.{said, answered, written}

-- the list, judged with A or 63
unfoldable pub sync_listed : Bytes → Counts → Listed
sync_listed s c = list_of (capped c.actions) (list_items (value_after (bytes "sync=") s))

unfoldable pub sync_fault : Bytes → (ended : Bool) → Counts → Option ℕ
sync_fault s ended c =
    broken 2 (misformed (bytes "sync=") 0 s ended)
    (broken 3 (not (sync_listed s c).sound)
    (broken 5 (not (sync_listed s c).rising)
    none))

unfoldable pub sync_read : Bytes → (ended : Bool) → Counts → (at : ℕ) → Result LineRead Row
sync_read s ended c at = answered (sync_fault s ended c) (said 0 0 (next_place at 2))

unfoldable pub sync_after : Bytes → (ended : Bool) → Counts → (words : List ℕ) (at : ℕ) → List ℕ
sync_after s ended c words at =
    written (sync_fault s ended c) (put at ((sync_listed s c).low ∷ (sync_listed s c).high ∷ []) words) words
