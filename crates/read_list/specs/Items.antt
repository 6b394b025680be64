-- A list of numbers as the code reads it: item after item. What it says of a list is in the laws items_sound,
-- items_listed, items_rising, items_outside and items_rest.
use Rattle.std.specs.Prelude.{ℕ, ◌+◌, true, false, ◌&&◌, ◌||◌, List, [], ◌∷◌, leb, pos, Option, Some, None}
use Rattle.format.specs.Bytes.{Bytes}
use Rattle.format.specs.Number.{within, natural_of}
use Rattle.table_writes.specs.Sets.{clear}
use Rattle.read_list.specs.declared.Asked.{Asked}
use Rattle.read_list.specs.declared.Listed.{Listed}
use Rattle.read_list.specs.declared.Items.{Items}

-- one number more
unfoldable pub with_item : Asked → Items → ℕ → Items
with_item q x k =
    record {
      least = k + 1;
      rising = x.rising && leb x.least k;
      outside = x.outside || leb q.below k;
      rest = clear x.rest k;
    }

unfoldable pub no_items : Asked → Items
no_items q = record { least = q.least; rising = true; outside = false; rest = q.all }

-- the items after the numbers x; where one is no number that is sound, nothing is said of them
unfoldable pub items_from : Asked → Items → List Bytes → Option Listed
items_from q x [] = Some (record { rising = x.rising; outside = x.outside; rest = x.rest })
items_from q x (s ∷ ss) =
    elim (within (pos 0) (pos q.most) s) [
      | true ↦ items_from q (with_item q x (natural_of s)) ss
      | false ↦ None
    ]

unfoldable pub items_of : Asked → List Bytes → Option Listed
items_of q items = items_from q (no_items q) items
