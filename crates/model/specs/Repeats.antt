-- Sheets in which an automaton has an edge twice: the sheet without repeats, and the merged sheet with them, as it was
-- before equal edges stood once.
use Rattle.std.specs.Prelude.{ℕ, suc, Bool, List, map, ltb}
use Rattle.std.proofs.Math.Option.{Option, none}
use Rattle.model.specs.Basic.{exists, once, sum, count_up}
use Rattle.model.specs.Bounds.{max_edges, max_nodes}
use Rattle.model.specs.Predicate.{Pred, node_count}
use Rattle.model.specs.Model.{Model, Automaton}
use Rattle.model.specs.Limits.{is_too_deep, broken}
use Rattle.model.specs.Equal.{same_edge}
use Rattle.model.specs.Moves.{move_count}
use Rattle.model.specs.Linear.{edges_with_repeats, sheet_with, preds_with, row31}

-- the automaton with each of its edges once
unfoldable pub distinct_edges : Automaton → Automaton
distinct_edges x = record { sync = x.sync; locations = x.locations; edges = once same_edge x.edges }

-- The sheet with such automata. Its merged sheet with repeats is the merged sheet: the law linear_distinct.
unfoldable pub distinct : Model → Model
distinct m =
    record {
      format = m.format;
      actions = m.actions;
      variables = m.variables;
      owners = m.owners;
      automata = map distinct_edges m.automata;
      tree = m.tree;
    }

-- The merged sheet in which equal edges stand as often as they come about, and the rows that counted them so.
module _ (m : Model) where
  unfoldable pub count_with_repeats : ℕ
  count_with_repeats = sum (map (λ a. move_count m a m.tree) (count_up 0 (suc m.actions)))

  unfoldable pub linear_with_repeats : Model
  linear_with_repeats = sheet_with m (edges_with_repeats m)

  unfoldable pub preds_with_repeats : List Pred
  preds_with_repeats = preds_with m (edges_with_repeats m)

  unfoldable pub row32_with_repeats : Bool
  row32_with_repeats = ltb max_edges count_with_repeats

  unfoldable pub row33_with_repeats : Bool
  row33_with_repeats = exists is_too_deep preds_with_repeats

  unfoldable pub row34_with_repeats : Bool
  row34_with_repeats = ltb max_nodes (sum (map node_count preds_with_repeats))

  unfoldable pub fault_with_repeats : Option ℕ
  fault_with_repeats =
      broken 31 (row31 m)
      (broken 32 row32_with_repeats
      (broken 33 row33_with_repeats
      (broken 34 row34_with_repeats none)))
