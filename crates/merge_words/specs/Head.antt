-- The words of the merged sheet before its automaton. A layout says where the automata stand.
use Rattle.std.specs.Prelude.{List, [], ◌∷◌, ◌++◌, ℕ, zero, suc, ◌+◌, ◌-◌, get_or}
use Rattle.model.specs.Bounds.{bias}
use Rattle.model.specs.Table.{owner_word, owner_from}
use Rattle.model.specs.Linear.{merged_owner, pointer_owner}
use Rattle.table_places.specs.declared.layout.Layout.{Layout}
use Rattle.table_places.specs.Outline.{location_count, range_at, low_at, high_at, owner_at}
use Rattle.table_places.specs.Layout.{automata_of, variables_of}
use Rattle.merge_append.specs.NodeWords.{upward, pointer_of}

-- the format, the first word
abbrev pub format_in : List ℕ → ℕ
format_in t = get_or t 0 0

-- a pointer's greatest value: the last location of the automaton at a place
unfoldable pub last_location_at : (t : List ℕ) (at : ℕ) → ℕ
last_location_at t at = location_count t at - 1

-- an owner's word in the merged sheet, from its word in the sheet; and the word of the pointers' owner
unfoldable pub merged_owner_word : ℕ → ℕ
merged_owner_word w = owner_word (merged_owner (owner_from w))

unfoldable pub pointer_owner_word : (format : ℕ) → ℕ
pointer_owner_word f = owner_word (pointer_owner f)

-- the variable at a place: its range, and its owner
unfoldable pub variable_at : (t : List ℕ) (at : ℕ) → List ℕ
variable_at t at = low_at t at ∷ high_at t at ∷ merged_owner_word (owner_at t at) ∷ []

-- n variables, from variable k on
unfoldable pub variables_from : (t : List ℕ) (k n : ℕ) → List ℕ
variables_from t k zero = []
variables_from t k (suc n) = variable_at t (range_at t k) ++ variables_from t (k + 1) n

-- n pointers, from automaton i's on, each with its range and its owner; `places` says where the automata stand
unfoldable pub pointers_from : (t places : List ℕ) (i n : ℕ) → List ℕ
pointers_from t places i zero = []
pointers_from t places i (suc n) =
    bias ∷ upward (last_location_at t (get_or places i 0)) ∷ pointer_owner_word (format_in t) ∷
    pointers_from t places (i + 1) n

-- format, actions, V + N, the model's variables, the pointers, and one automaton
unfoldable pub head_words : (t : List ℕ) (x : Layout) → List ℕ
head_words t x =
    format_in t ∷ x.actions ∷ pointer_of x.variables x.automata ∷
    (variables_from t 0 (variables_of x) ++ (pointers_from t x.sets 0 (automata_of x) ++ (1 ∷ [])))
