-- The edges of an automaton that repeat no earlier one, by their places in a table.
use Rattle.std.specs.Prelude.{◌≡◌, Bool, true, false, List, [], ◌∷◌, ◌++◌, ℕ, zero, suc, ◌+◌, ◌≤◌, length, get_or, take}
use Rattle.std.specs.Prelude.{leb}
use Rattle.model.specs.Basic.{exists}
use Rattle.model.specs.Bounds.{max_edges}
use Rattle.table_places.specs.AtMost.{at_most}
use Rattle.table_places.specs.Outline.{after_predicate, update_place, first_edge}
use Rattle.merge_distinct.specs.Equality.{same_edge_at}

-- as many edges as the word says, and no more than a sheet can have
unfoldable pub edges_of : (t : List ℕ) (edges : ℕ) → ℕ
edges_of t edges = at_most max_edges (get_or t edges 0)

module _ (t : List ℕ) where
  -- an edge is equal to one of n places of an array, from place i on
  unfoldable pub listed_in : (at : ℕ) (firsts : List ℕ) (i n : ℕ) → Bool
  listed_in at firsts i zero = false
  listed_in at firsts i (suc n) =
      elim (leb max_edges i) [
        | true ↦ false
        | false ↦
            elim (same_edge_at t at (get_or firsts i 0)) [ true ↦ true | false ↦ listed_in at firsts (i + 1) n ]
      ]

  unfoldable pub repeats_by : (at : ℕ) (seen : Bool) (firsts : List ℕ) (n : ℕ) → Bool
  repeats_by at seen firsts n = elim seen [ true ↦ listed_in at firsts 0 n | false ↦ false ]

  -- with an edge that equals none of those before it
  unfoldable pub with_edge : (at : ℕ) (firsts : List ℕ) → List ℕ
  with_edge at firsts = elim (exists (same_edge_at t at) firsts) [ true ↦ firsts | false ↦ firsts ++ at ∷ [] ]

  -- of n edges, from a place on
  unfoldable pub firsts_from : (n at : ℕ) (firsts : List ℕ) → List ℕ
  firsts_from zero at firsts = firsts
  firsts_from (suc n) at firsts = firsts_from n (after_predicate t (update_place t at)) (with_edge at firsts)

  unfoldable pub first_ones : (edges : ℕ) → List ℕ
  first_ones edges = firsts_from (edges_of t edges) (first_edge t edges) []

-- an array begins with a list, of this length
pub record Gathered (list array : List ℕ) (n : ℕ) : Type 0 where
  pub count : n ≡ length list
  pub fits : n ≤ max_edges
  pub stands : take n array ≡ list
