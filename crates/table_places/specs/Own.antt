-- The automata's own synchronising sets, each as one word. On a sheet's words they are the model's: the law own_agrees.
use Rattle.std.specs.Prelude.{List, map, ℕ}
use Rattle.table_tree.specs.Sets.{one_word}
use Rattle.table_places.specs.Outline.{set_low, set_high}

unfoldable pub own_set : (t : List ℕ) (at : ℕ) → ℕ
own_set t at = one_word (set_low t at) (set_high t at)

-- of the automata at these places
unfoldable pub own_sets : (t places : List ℕ) → List ℕ
own_sets t places = map (own_set t) places
