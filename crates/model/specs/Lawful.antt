-- What an accepted model meets, part by part. The law lawful_is says that these are exactly the models within `limits`.
use Rattle.std.specs.Prelude.{◌≡◌, true, false, ℕ, suc, ◌+◌, ◌≤◌, ◌<◌, length}
use mathlib.Core.List.{List, map, Memᴰ}
use Rattle.std.proofs.Math.Option.{Option, some}
use Rattle.std.specs.Int.Signed.{le_z}
use Rattle.model.specs.Basic.{between, every, sum, count_up}
use Rattle.model.specs.Bounds.{first_format, last_format, max_actions, max_variables, max_automata, max_locations}
use Rattle.model.specs.Bounds.{max_edges, max_depth, max_nodes, max_tree_nodes, least_number, greatest_number}
use Rattle.model.specs.Bounds.{owners_format}
use Rattle.model.specs.Predicate.{Pred, Range, words, depth, all_stay, names_outside, names_new, node_count, written}
use Rattle.model.specs.Composition.{Tree, leaves, starts, start_nodes, tree_size}
use Rattle.model.specs.Model.{Location, Edge, Automaton, Model, automaton, edge_total}
use Rattle.model.specs.Limits.{in_range, rises, tree_rises, lists_filled, writes_foreign}

-- the nodes of all predicates
unfoldable pub location_nodes : Location → ℕ
location_nodes l = node_count l.init + node_count l.inv

unfoldable pub automaton_nodes : Automaton → ℕ
automaton_nodes x = sum (map location_nodes x.locations) + sum (map (λ e. node_count e.update) x.edges)

unfoldable pub node_total : List Automaton → ℕ
node_total xs = sum (map automaton_nodes xs)

-- rows 3 and 4
pub record LawfulRange (x : Range) : Type 0 where
  pub low : between least_number greatest_number x.low ≡ true
  pub high : between least_number greatest_number x.high ≡ true
  pub ordered : le_z x.low x.high ≡ true

-- row 50, and that an owner takes a format that says it; N automata
pub record LawfulOwner (format N : ℕ) (o : Option ℕ) : Type 0 where
  pub said : (k : ℕ) → o ≡ some k → owners_format ≤ format
  pub below : (k : ℕ) → o ≡ some k → k < N

-- rows 3, 7, 9 and 10
pub record LawfulPred (declared : List Range) (p : Pred) : Type 0 where
  pub ranged : every in_range (words p) ≡ true
  pub named : names_outside (length declared) (words p) ≡ false
  pub shallow : depth p ≤ max_depth
  pub spanned : all_stay declared p ≡ true

-- row 8
pub record LawfulLocation (declared : List Range) (l : Location) : Type 0 where
  pub init : LawfulPred declared l.init
  pub init_old : names_new (words l.init) ≡ false
  pub inv : LawfulPred declared l.inv
  pub inv_old : names_new (words l.inv) ≡ false

-- row 8 for the P of an `ini`
pub record LawfulStart (declared : List Range) (p : Pred) : Type 0 where
  pub pred : LawfulPred declared p
  pub old : names_new (words p) ≡ false

-- row 12; A actions, L locations
pub record LawfulEdge (declared : List Range) (A L : ℕ) (e : Edge) : Type 0 where
  pub from : e.from < L
  pub action : e.action ≤ A
  pub to : e.to < L
  pub update : LawfulPred declared e.update

-- rows 3 and 5
pub record LawfulAutomaton (declared : List Range) (A : ℕ) (x : Automaton) : Type 0 where
  pub sync : rises A 0 x.sync ≡ true
  pub some_location : 1 ≤ length x.locations
  pub few_locations : length x.locations ≤ max_locations
  pub locations : (l : Location) → Memᴰ l x.locations → LawfulLocation declared l
  pub edges : (e : Edge) → Memᴰ e x.edges → LawfulEdge declared A (length x.locations) e

-- rows 5, 13, 14 and 16; N automata
pub record LawfulTree (A N : ℕ) (c : Tree) : Type 0 where
  pub lists : tree_rises A c ≡ true
  pub filled : lists_filled c ≡ true
  pub in_order : leaves c ≡ count_up 0 N
  pub size : tree_size c ≤ max_tree_nodes

-- rows 3, 11, 15 and 51
pub record Lawful (m : Model) : Type 0 where
  pub format_from : first_format ≤ m.format
  pub format_to : m.format ≤ last_format
  pub few_actions : m.actions ≤ max_actions
  pub few_variables : length m.variables ≤ max_variables
  pub ranges : (x : Range) → Memᴰ x m.variables → LawfulRange x
  pub owners_are : length m.owners ≡ length m.variables
  pub owners : (o : Option ℕ) → Memᴰ o m.owners → LawfulOwner m.format (length m.automata) o
  pub some_automaton : 1 ≤ length m.automata
  pub few_automata : length m.automata ≤ max_automata
  pub automata : (x : Automaton) → Memᴰ x m.automata → LawfulAutomaton m.variables m.actions x
  pub own : (i : ℕ) → i < length m.automata → (e : Edge) → Memᴰ e (automaton m i).edges
      → writes_foreign m.format m.owners (suc i) (written e.update) ≡ false
  pub few_edges : edge_total m.automata ≤ max_edges
  pub few_nodes : node_total m.automata + start_nodes m.tree ≤ max_nodes
  pub starts : (p : Pred) → Memᴰ p (starts m.tree) → LawfulStart m.variables p
  pub tree : LawfulTree m.actions (length m.automata) m.tree
