-- Where the edges of a merged edge stand, from what each automaton takes. A layout says where the automata's edges are.
use Rattle.std.specs.Prelude.{Bool, true, false, not, ◌&&◌, List, [], ◌∷◌, ℕ, zero, suc, ◌+◌, ◌-◌, get_or, length}
use Rattle.std.specs.Prelude.{replicate, eqb}
use Rattle.std.proofs.lemmas.List.Edits.{sets}
use Rattle.model.specs.Bounds.{max_automata}
use Rattle.table_places.specs.declared.layout.Layout.{Layout}
use Rattle.table_places.specs.Outline.{after_predicate, edge_action, update_place, first_edge}
use Rattle.table_places.specs.Layout.{automata_of}

-- is the edge at a place under an action?
unfoldable pub is_under : (t : List ℕ) (action at : ℕ) → Bool
is_under t action at = eqb (edge_action t at) action

-- how many edges under the action are still to be passed, after one that may be under it
unfoldable pub still : (here : Bool) (j : ℕ) → ℕ
still here j = elim (here && not (eqb j 0)) [ true ↦ j - 1 | false ↦ j ]

-- where edge j under an action stands, among n edges of which the first stands at a place; the end, if there is none
unfoldable pub edge_under : (t : List ℕ) (action j n at : ℕ) → ℕ
edge_under t action j zero at = length t
edge_under t action j (suc n) at =
    elim (is_under t action at && eqb j 0) [
      | true ↦ at
      | false ↦ edge_under t action (still (is_under t action at) j) n (after_predicate t (update_place t at))
    ]

-- where the edge stands that an automaton takes, whose count of edges stands at `edges`: none by 0, edge j under the
-- action by 1 + j
unfoldable pub taken_at : (t : List ℕ) (action pick edges : ℕ) → ℕ
taken_at t action pick edges =
    elim (eqb pick 0) [
      | true ↦ 0
      | false ↦ edge_under t action (pick - 1) (get_or t edges 0) (first_edge t edges)
    ]

-- the edges of n automata, from automaton i on; `edges` says where their counts of edges stand
unfoldable pub taken_from : (t edges : List ℕ) (action : ℕ) (picks : List ℕ) (i n : ℕ) → List ℕ
taken_from t edges action picks i zero = []
taken_from t edges action picks i (suc n) =
    taken_at t action (get_or picks i 0) (get_or edges i 0) ∷ taken_from t edges action picks (i + 1) n

-- for each automaton where its edge stands, 0 if it takes none
unfoldable pub takers : (t : List ℕ) (x : Layout) (action : ℕ) (picks : List ℕ) → List ℕ
takers t x action picks = sets (replicate max_automata 0) 0 (taken_from t x.edges action picks 0 (automata_of x))
