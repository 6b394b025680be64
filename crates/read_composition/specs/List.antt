-- A list of actions as the code reads it. What it says of sound and rising lists is in the laws list_sound, list_rising
-- and list_set.
use Rattle.std.specs.Prelude.{ℕ, ◌+◌, ◌-◌, ◌%◌, ◌/◌, true, false, not, ◌&&◌, List, Option, Some, None}
use Rattle.model.specs.Bounds.{max_actions}
use Rattle.format.specs.Bytes.{Bytes}
use Rattle.read_list.specs.declared.Asked.{Asked}
use Rattle.read_list.specs.declared.Listed as Read
use Rattle.read_list.specs.Items.{items_of}
use Rattle.read_composition.specs.declared.list.Listed.{Listed}

-- all numbers from 0 to 63
abbrev pub all_actions : ℕ
all_actions = 18446744073709551615

-- what is asked of a list of actions, of which A is the highest
unfoldable pub asked_of : (A : ℕ) → Asked
asked_of A = record { most = max_actions; least = 1; below = A + 1; all = all_actions }

-- the set as two words; row 5 is also about actions above the highest. A list that is not sound does not rise, and its
-- set has all numbers
unfoldable pub words_of : Option Read.Listed → Listed
words_of (Some l) =
    record {
      sound = true;
      rising = l.rising && not l.outside;
      low = (all_actions - l.rest) % 4294967296;
      high = (all_actions - l.rest) / 4294967296;
    }
words_of None =
    record { sound = false; rising = false; low = all_actions % 4294967296; high = all_actions / 4294967296 }

unfoldable pub list_of : (A : ℕ) → List Bytes → Listed
list_of A items = words_of (items_of (asked_of A) items)
