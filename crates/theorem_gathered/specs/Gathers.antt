-- What the merger gathers of a sheet, in the order of Definition 4 of source document 003: what each part holds, in the
-- terms of Table 3. The law `gathers` says that it does.
use Rattle.std.specs.Prelude.{◌≡◌, true, false, ◌↔◌, ℕ, ◌*◌, ◌≤◌, ◌<◌, length, get_or, take, drop, eqb}
use mathlib.Core.List.{List, [], ◌++◌, map, flat_map, Memᴰ}
use Rattle.model.specs.Bounds.{max_edges}
use Rattle.model.specs.Predicate.{Pred, all, none, preds, words_all}
use Rattle.model.specs.Model.{Model, Location, automaton}
use Rattle.model.specs.Lines.{automaton_lines}
use Rattle.model.specs.Table.{code, pred_words, line_words, set_of, sheet_words}
use Rattle.model.specs.Repeats.{distinct}
use Rattle.table_places.specs.Layout.{layout_of}
use Rattle.table_places.specs.Outline.{edge_from, edge_to}
use Rattle.merge_append.specs.Runs.{run}
use Rattle.merge_predicates.specs.declared.functions.Functions.{Functions}
use Rattle.merge_predicates.specs.declared.starts.Starts.{Starts}
use Rattle.merge_edges.specs.Edge.{updates_at}
use Rattle.merge_edges.specs.Edges.{action_at}
use Rattle.merge_words.specs.declared.gathering.Gathered.{Gathered}
use Rattle.merge_words.specs.Linearize.{gathered_in, takers_for}
use Rattle.merge_table.specs.Linearization.{distinct_table}
use Rattle.theorem_definition4.specs.Table3.{Position, wild, at, WildCards, Leads, StartConditions, Syncs}
use Rattle.theorem_definition4.specs.Table3.{Transition}

-- the values of functions, one function's after the other's
abbrev pub all_values : List (List Pred) → List Pred
all_values fs = flat_map (λ f. f) fs

-- Gathered functions are these: each has as many values as its automaton has locations, and each value's words stand in
-- the table at its place.
pub record Holds (t : List ℕ) (f : Functions) (fs : List (List Pred)) : Type 0 where
  pub domains : (i : ℕ) → i < length fs → get_or f.domains i 0 ≡ length (get_or fs i [])
  pub total : f.total ≡ length (all_values fs)
  pub values : (k : ℕ) → k < length (all_values fs)
      → (rest : List ℕ) × (drop (get_or f.places k 0) t ≡ pred_words (get_or (all_values fs) k (all none)) ++ rest)

-- Gathered start conditions are these: so many, and their words stand in the table one after the other, from the place
-- of the first on.
pub record HoldsStarts (t : List ℕ) (s : Starts) (us : List Pred) : Type 0 where
  pub count : s.count ≡ length us
  pub values : (rest : List ℕ) × (drop s.first t ≡ flat_map pred_words us ++ rest)

-- what an automaton's place says: 0 is the wild-card; elsewhere its edge stands there, and f reads FROM, or TO
unfoldable pub position_at : (f : ℕ → ℕ) (place : ℕ) → Position
position_at f place = elim (eqb place 0) [ true ↦ wild | false ↦ at (f place) ]

-- The places of n automata are those of a transition ⟨vs⟩ —a,r→ ⟨vs'⟩.
pub record Labelled (t places : List ℕ) (n a : ℕ) (vs : List Position) (r : List Pred) (vs' : List Position)
    : Type 0 where
  pub action : action_at t places ≡ a
  pub source : map (position_at (edge_from t)) (take n places) ≡ vs
  pub target : map (position_at (edge_to t)) (take n places) ≡ vs'
  pub update : updates_at t places ≡ map code (words_all (preds r))

-- what is gathered of sheet m, whose words are t; `takers` has sixteen places for each action transition
pub record Gathers (m : Model) (t : List ℕ) (g : Gathered) (takers : List ℕ) : Type 0 where
  -- the wild-cards: one for each automaton, and each automaton's words stand at its place
  pub xs : List Position
  pub leads_xs : WildCards m.tree xs
  pub as_many : g.wildcards.automata ≡ length xs
  pub standing : (i : ℕ) → i < length xs
      → (rest : List ℕ)
      × (drop (get_or g.wildcards.sets i 0) t ≡ flat_map line_words (automaton_lines (automaton m i)) ++ rest)
  -- the initial predicates
  pub fs : List (List Pred)
  pub leads_fs : Leads m (λ l. l.init) m.tree fs
  pub inits : Holds t g.inits fs
  -- the start conditions
  pub us : List Pred
  pub leads_us : StartConditions m.tree us
  pub starts : HoldsStarts t g.starts us
  -- the invariants
  pub gs : List (List Pred)
  pub leads_gs : Leads m (λ l. l.inv) m.tree gs
  pub invs : Holds t g.invs gs
  -- the synchronising set
  pub A : List ℕ
  pub leads_A : Syncs m m.tree A
  pub set : (a : ℕ) → Memᴰ a (set_of g.sets.low g.sets.high) ↔ Memᴰ a A
  -- the edges, if they are no more than a sheet can have (row 32): the places of each are those of a transition, and
  -- every transition has its places
  pub transition : g.edges ≤ max_edges → (k : ℕ) → k < g.edges
      → (a : ℕ) × (vs : List Position) × (r : List Pred) × (vs' : List Position)
      × Labelled t (run takers (16 * k) 16) (length xs) a vs r vs' × Transition m a m.tree vs r vs'
  pub each_transition : g.edges ≤ max_edges → (a : ℕ) (vs : List Position) (r : List Pred) (vs' : List Position)
      → Transition m a m.tree vs r vs'
      → (k : ℕ) × (k < g.edges) × Labelled t (run takers (16 * k) 16) (length xs) a vs r vs'

-- The merger is handed the sheet in which each automaton has equal edges once (`distinct`), and gathers that. It has
-- this sheet's tree, functions, sets and transitions, so what is gathered of it is what Definition 4 needs of this
-- sheet.
pub record GathersOnce (m : Model) (t : List ℕ) : Type 0 where
  pub rest : List ℕ
  pub handed : distinct_table t ≡ sheet_words (distinct m) ++ rest
  pub gathered : let d = distinct_table t in
      Gathers (distinct m) d (gathered_in d (layout_of d)) (takers_for d (layout_of d))
  pub same_tree : (distinct m).tree ≡ m.tree
  pub same_functions : (part : Location → Pred) (fs : List (List Pred))
      → Leads (distinct m) part m.tree fs ↔ Leads m part m.tree fs
  pub same_sets : (A : List ℕ) → Syncs (distinct m) m.tree A ↔ Syncs m m.tree A
  pub same_transitions : (a : ℕ) (vs : List Position) (r : List Pred) (vs' : List Position)
      → Transition (distinct m) a m.tree vs r vs' ↔ Transition m a m.tree vs r vs'
