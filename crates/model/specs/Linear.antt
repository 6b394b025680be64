-- "The merged text": Definition 4 of source document 003, the linearization. The format departs from it once: the
-- pointers' ranges say what its second conjunct of `init` says.
use Rattle.std.specs.Prelude.{ℕ, suc, pred, ◌+◌, Bool, true, false, pos, length, leb, ltb}
use mathlib.Core.List.{List, [], ◌∷◌, ◌++◌, map, flat_map}
use Rattle.std.proofs.Math.Option.{Option, none, some}
use Rattle.model.specs.Basic.{exists, keep, once, sum, count_up}
use Rattle.model.specs.Bounds.{max_variables, max_edges, max_nodes, owners_format}
use Rattle.model.specs.Predicate.{Pred, all, imp, eq, num, old, new, preds, Range, range, node_count}
use Rattle.model.specs.Composition.{leaf, starts}
use Rattle.model.specs.Model.{Model, Location, Edge, Automaton, in_set}
use Rattle.model.specs.Limits.{is_too_deep, broken}
use Rattle.model.specs.Rules.{Taker}
use Rattle.model.specs.Equal.{same_edge}
use Rattle.model.specs.Moves.{moves, distinct_count}

-- a pointer's values are its automaton's locations
unfoldable pub pointer_range : Automaton → Range
pointer_range x = range (pos 0) (pos (pred (length x.locations)))

-- the merged automaton, which is automaton 0, owns what has an owner; and from format 3 on the pointers (request (k))
unfoldable pub merged_owner : Option ℕ → Option ℕ
merged_owner none = none
merged_owner (some k) = some 0

unfoldable pub pointer_owner : (format : ℕ) → Option ℕ
pointer_owner f = elim (leb owners_format f) [ true ↦ some 0 | false ↦ none ]

module _ (m : Model) where
  -- automaton I's pointer is variable V + I
  unfoldable pub pointer : ℕ → ℕ
  pointer i = length m.variables + i

  -- `imp eq vI J` with the init (or inv) of location J of automaton I, from J and from I on
  unfoldable pub at_locations : (Location → Pred) → ℕ → ℕ → List Location → List Pred
  at_locations part i j [] = []
  at_locations part i j (l ∷ ls) = imp (eq (old (pointer i)) (num (pos j))) (part l) ∷ at_locations part i (suc j) ls

  unfoldable pub at_automata : (Location → Pred) → ℕ → List Automaton → List Pred
  at_automata part i [] = []
  at_automata part i (x ∷ xs) = at_locations part i 0 x.locations ++ at_automata part (suc i) xs

  -- the implications, and after them the P of each `ini` (request (a))
  unfoldable pub merged_init : Pred
  merged_init = all (preds (at_automata (λ l. l.init) 0 m.automata ++ starts m.tree))

  unfoldable pub merged_inv : Pred
  merged_inv = all (preds (at_automata (λ l. l.inv) 0 m.automata))

  -- for each taker: its pointer was FROM and becomes TO
  unfoldable pub pointer_moves : List Taker → List Pred
  pointer_moves [] = []
  pointer_moves (x ∷ xs) =
      eq (old (pointer x.automaton)) (num (pos x.edge.from)) ∷
      eq (new (pointer x.automaton)) (num (pos x.edge.to)) ∷ pointer_moves xs

  -- `all 3m`: the takers' updates, then their pointers
  unfoldable pub merged_edge : ℕ → List Taker → Edge
  merged_edge a takers =
      record {
        from = 0;
        action = a;
        to = 0;
        update = all (preds (map (λ x. x.edge.update) takers ++ pointer_moves takers));
      }

  -- an edge for each choice of takers, the silent action's first, those of action A last; where an automaton has an
  -- edge twice, they come twice
  unfoldable pub edges_with_repeats : List Edge
  edges_with_repeats = flat_map (λ a. map (merged_edge a) (moves m a m.tree)) (count_up 0 (suc m.actions))

  -- E is a set: equal edges stand once, at the first one's place
  unfoldable pub merged_edges : List Edge
  merged_edges = once same_edge edges_with_repeats

  -- how many they are, without listing them: the law count_is
  unfoldable pub merged_count : ℕ
  merged_count = sum (map (λ a. distinct_count m a m.tree) (count_up 0 (suc m.actions)))

  -- the merged sheet, and its predicates, with these edges
  abbrev pub sheet_with : List Edge → Model
  sheet_with edges =
      record {
        format = m.format;
        actions = m.actions;
        variables = m.variables ++ map pointer_range m.automata;
        owners = map merged_owner m.owners ++ map (λ x. pointer_owner m.format) m.automata;
        automata = record {
          sync = keep (λ a. in_set m a m.tree) (count_up 1 m.actions);
          locations = record { init = merged_init; inv = merged_inv } ∷ [];
          edges = edges;
        } ∷ [];
        tree = leaf 0;
      }

  abbrev pub preds_with : List Edge → List Pred
  preds_with edges = merged_init ∷ merged_inv ∷ map (λ e. e.update) edges

  unfoldable pub linear : Model
  linear = sheet_with merged_edges

  -- Rows 31 to 34: when there is no merged text.
  unfoldable pub merged_preds : List Pred
  merged_preds = preds_with merged_edges

  -- too many variables
  unfoldable pub row31 : Bool
  row31 = ltb max_variables (length m.variables + length m.automata)

  -- too many merged edges
  unfoldable pub row32 : Bool
  row32 = ltb max_edges merged_count

  -- a merged predicate is too deep
  unfoldable pub row33 : Bool
  row33 = exists is_too_deep merged_preds

  -- too many merged nodes
  unfoldable pub row34 : Bool
  row34 = ltb max_nodes (sum (map node_count merged_preds))

  unfoldable pub merge_fault : Option ℕ
  merge_fault = broken 31 row31 (broken 32 row32 (broken 33 row33 (broken 34 row34 none)))
