-- When the edges at two places are equal, over the words of a table. On a sheet's words they are equal exactly when the
-- edges are: the law same_at_is of crate `merge_table`.
use Rattle.std.specs.Prelude.{Bool, true, false, List, [], ◌∷◌, ℕ, zero, suc, ◌+◌, ◌*◌, ◌%◌, get_or, eqb}
use Rattle.table_places.specs.Outline.{reach, update_place}
use Rattle.merge_append.specs.Runs.{run}
use Rattle.merge_append.specs.NodeWords.{capped}

-- the words of an edge: FROM, ACT, TO, the number of its update's nodes, and the nodes
unfoldable pub edge_length : (t : List ℕ) (at : ℕ) → ℕ
edge_length t at = capped (4 + get_or t (update_place t at) 0)

-- n words from one place on are those from another
unfoldable pub same_run : (t : List ℕ) (at other n : ℕ) → Bool
same_run t at other zero = true
same_run t at other (suc n) =
    elim (eqb (get_or t at 0) (get_or t other 0)) [
      | true ↦ same_run t (reach t at 1) (reach t other 1) n
      | false ↦ false
    ]

unfoldable pub same_edge_at : (t : List ℕ) (at other : ℕ) → Bool
same_edge_at t at other = same_run t at other (edge_length t at)

-- A number of an edge's words, which saves most comparisons. Nothing but time depends on it.
unfoldable pub mixed : (sum word : ℕ) → ℕ
mixed sum word = (sum % 4093 * 31 + word % 4294967296) % 4093

unfoldable pub hash_from : (sum : ℕ) → List ℕ → ℕ
hash_from sum [] = sum
hash_from sum (w ∷ ws) = hash_from (mixed sum w) ws

unfoldable pub hash_at : (t : List ℕ) (at : ℕ) → ℕ
hash_at t at = hash_from 0 (run t at (edge_length t at))
