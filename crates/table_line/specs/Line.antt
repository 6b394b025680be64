-- What the words of one line say, on any words: `line_at`. That it is exact is the law line_exact.
use Rattle.std.specs.Prelude.{ℕ, zero, suc, ◌+◌, ◌-◌, ◌*◌, Bool, true, false, not, ◌&&◌, ◌||◌, List, map, length}
use Rattle.std.specs.Prelude.{Option, Some, None, Result, Ok, Err, get_or, take, drop, eqb, leb, ltb}
use Rattle.model.specs.Basic.{every}
use Rattle.model.specs.Bounds.{first_format, last_format, max_actions, max_variables, max_automata, max_locations}
use Rattle.model.specs.Bounds.{max_edges}
use Rattle.model.specs.Bounds.{max_nodes, last_location, last_biased, owners_format}
use Rattle.model.specs.Predicate.{names_outside, names_new}
use Rattle.model.specs.Limits.{rises}
use Rattle.model.specs.Table.{word_of, set_of}
use Rattle.line_order.specs.declared.Key.{Key}
use Rattle.line_order.specs.declared.Key.TheVariants.{Format, Actions, Variables, Variable, Automata, Sync, Locations}
use Rattle.line_order.specs.declared.Key.TheVariants.{Init, Inv, Edges, Edge, Compose, End}
use Rattle.line_order.specs.declared.Counts.{Counts}
use Rattle.line_order.specs.Counts.{with_nodes, capped}
use Rattle.table_writes.specs.Sets.{all_variables, rest_of}
use Rattle.table_owners.specs.Owners.{beyond_in, foreign_in}
use Rattle.table_predicate.specs.declared.Ended.{Ended}
use Rattle.table_predicate.specs.declared.Walked.{Walked}
use Rattle.table_predicate.specs.Walk.{walk_at}
use Rattle.table_predicate.specs.Scan.{is_coded}
use Rattle.table_tree.specs.declared.checked.TreeEnd.{TreeEnd}
use Rattle.table_tree.specs.Checked.{tree_check}
use Rattle.table_line.specs.declared.Line.{Line}

-- what is read of a line: its number, the nodes of its predicates, and where the next line's words begin
abbrev pub a_line : (number nodes next : ℕ) → Option Line
a_line number nodes next = Some (record { number = number; nodes = nodes; next = next })

-- a line, if the test holds
unfoldable pub when : Bool → Option Line → Option Line
when true l = l
when false l = None

-- the walk over a predicate went well and came there
unfoldable pub walked_to : Result Walked Ended → (next : ℕ) → Bool
walked_to (Ok w) next = not w.leaves && eqb w.next next
walked_to (Err why) next = false

-- an edge's ends and action: numbers of the format, and of this automaton and model
unfoldable pub ends_sound : Counts → (from action to : ℕ) → Bool
ends_sound c from action to =
    (leb from last_location && (leb action max_actions && leb to last_location)) &&
    (ltb from c.locations && (leb action c.actions && ltb to c.locations))

-- an owner's word: nobody's, or from the format with owners on one that an automaton can have
unfoldable pub owner_sound : (format word : ℕ) → Bool
owner_sound f w = leb w max_automata && (eqb w 0 || leb owners_format f)

unfoldable pub variable_sound : (format low high owner : ℕ) → Bool
variable_sound f low high owner = leb high last_biased && (leb low high && owner_sound f owner)

-- on behind a predicate, with its nodes and the place after it
unfoldable pub behind_pred : (ℕ → ℕ → Option Line) → Option Line → Option Line
behind_pred go (Some line) = go line.nodes line.next
behind_pred go None = None

module _ (t : List ℕ) where
  abbrev pub word : ℕ → ℕ
  word at = get_or t at 0

  -- a number from least to most
  unfoldable pub number_at : (at least most : ℕ) → Option Line
  number_at at least most =
      when (ltb at (length t) && (leb least (word at) && leb (word at) most)) (a_line (word at) 0 (at + 1))

  unfoldable pub variable_at : (at format : ℕ) → Option Line
  variable_at at f =
      when (ltb (at + 2) (length t) && variable_sound f (word at) (word (at + 1)) (word (at + 2))) (a_line 0 0 (at + 3))

  unfoldable pub sync_at : (at A : ℕ) → Option Line
  sync_at at A =
      when (ltb (at + 1) (length t) && rises (capped A) 0 (set_of (word at) (word (at + 1)))) (a_line 0 0 (at + 2))

  -- the words of the first variables, so many
  unfoldable pub ranges_in : (vs : ℕ) → List ℕ
  ranges_in vs = take (3 * vs) (drop 3 t)

  -- the number of automata: row 50 too
  unfoldable pub automata_at : (at : ℕ) → Counts → Option Line
  automata_at at c = when (not (beyond_in (ranges_in c.variables) (word at))) (number_at at 1 max_automata)

  -- n nodes from `start` on: rows 3, 7, 6 with 9 and 10, and 11
  unfoldable pub nodes_sound : Counts → (start n : ℕ) → Bool
  nodes_sound c start n =
      every is_coded (take n (drop start t)) &&
      (not (names_outside c.variables (map word_of (take n (drop start t)))) &&
      (walked_to (walk_at t (ranges_in c.variables) start) (start + n) &&
      leb (c.nodes + n) max_nodes))

  unfoldable pub predicate_at : (at : ℕ) → Counts → Option Line
  predicate_at at c =
      when (ltb at (length t) && (leb (word at) (length t - (at + 1)) && nodes_sound c (at + 1) (word at)))
      (a_line 0 (word at) (at + 1 + word at))

  -- init, inv, and the P of an `ini`: row 8 too
  unfoldable pub location_at : (at : ℕ) → Counts → Option Line
  location_at at c = when (not (names_new (map word_of (take (word at) (drop (at + 1) t))))) (predicate_at at c)

  unfoldable pub edges_at : (at : ℕ) → Counts → Option Line
  edges_at at c = when (ltb at (length t) && leb (c.edges + word at) max_edges) (a_line (word at) 0 (at + 1))

  -- row 51, from the format with owners on, of an edge whose update stands at a place and has so many nodes
  unfoldable pub owns_at : Counts → (at nodes : ℕ) → Bool
  owns_at c at nodes =
      ltb c.format owners_format ||
      (ltb at (length t) &&
      not (foreign_in (ranges_in c.variables) c.automata (rest_of all_variables (take nodes (drop (at + 1) t)))))

  unfoldable pub owning : Counts → (at : ℕ) → Option Line → Option Line
  owning c at (Some line) = when (owns_at c at line.nodes) (Some line)
  owning c at None = None

  unfoldable pub edge_at : (at : ℕ) → Counts → Option Line
  edge_at at c =
      when (ltb (at + 2) (length t) && ends_sound c (word at) (word (at + 1)) (word (at + 2)))
      (owning c (at + 3) (predicate_at (at + 3) c))

  -- so many P from `at` on, each as an init line has it, if those before them have `total` nodes
  unfoldable pub starts_from : Counts → (count at total : ℕ) → Option Line
  starts_from c zero at total = a_line 0 total at
  starts_from c (suc n) at total =
      behind_pred (λ nodes next. starts_from c n next (total + nodes)) (location_at at (with_nodes c total))

  -- behind a tree with so many `ini`: their number again, and their P
  unfoldable pub starts_at : Counts → (at inis : ℕ) → Option Line
  starts_at c at inis = when (ltb at (length t) && eqb (word at) inis) (starts_from c inis (at + 1) 0)

  unfoldable pub of_tree : Counts → Option TreeEnd → Option Line
  of_tree c (Some tree) = starts_at c tree.next tree.inis
  of_tree c None = None

  unfoldable pub compose_at : (at : ℕ) → Counts → Option Line
  compose_at at c =
      when (leb c.automata max_automata && leb c.nodes max_nodes)
      (of_tree c (tree_check t at (capped c.actions) c.automata))

  unfoldable pub line_at : (at : ℕ) → Key → Counts → Option Line
  line_at at Format c = number_at at first_format last_format
  line_at at Actions c = number_at at 0 max_actions
  line_at at Variables c = number_at at 0 max_variables
  line_at at Variable c = variable_at at c.format
  line_at at Automata c = automata_at at c
  line_at at Sync c = sync_at at c.actions
  line_at at Locations c = number_at at 1 max_locations
  line_at at Init c = location_at at c
  line_at at Inv c = location_at at c
  line_at at Edges c = edges_at at c
  line_at at Edge c = edge_at at c
  line_at at Compose c = compose_at at c
  line_at at End c = None
