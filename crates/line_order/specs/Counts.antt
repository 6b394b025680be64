-- What has been read and counted, as the code keeps it, and of which reading it is the count.
use Rattle.std.specs.Prelude.{ℕ, ◌+◌, ◌≤◌, ◌≡◌, cond, length, leb, ltb}
use Rattle.model.specs.Predicate.{node_count}
use Rattle.model.specs.Composition.{start_nodes}
use Rattle.model.specs.Model.{edge_total}
use Rattle.model.specs.Lines.{Entry, format_line, actions_line, variables_line, variable_line, automata_line, sync_line}
use Rattle.model.specs.Lines.{locations_line, init_line, inv_line, edges_line, edge_line, compose_line, Reading}
use Rattle.model.specs.Bounds.{max_actions}
use Rattle.model.specs.Limits.{variable_count, location_count}
use Rattle.line_order.specs.declared.Key.{Key}
use Rattle.line_order.specs.declared.Key.TheVariants.{Format, Actions, Variables, Variable, Automata, Sync}
use Rattle.line_order.specs.declared.Key.TheVariants.{Locations, Init, Inv, Edges, Edge, Compose, End}
use Rattle.line_order.specs.declared.Counts.{Counts}

abbrev pub most_count : ℕ
most_count = 65536

unfoldable pub add_up_to : ℕ → ℕ → ℕ
add_up_to x y = cond (leb (x + y) most_count) (x + y) most_count

abbrev pub counts : (f a v n l e p : ℕ) → Counts
counts f a v n l e p =
    record { format = f; actions = a; variables = v; automata = n; locations = l; edges = e; nodes = p }

abbrev pub counts_none : Counts
counts_none = counts 0 0 0 0 0 0 0

-- the nodes of one more predicate
abbrev pub with_nodes : Counts → ℕ → Counts
with_nodes c p =
    counts c.format c.actions c.variables c.automata c.locations c.edges (add_up_to c.nodes p)

-- after a line with this key and number, whose predicates have p nodes
unfoldable pub counts_after : Counts → Key → (n p : ℕ) → Counts
counts_after c Format n p =
    counts n c.actions c.variables c.automata c.locations c.edges c.nodes
counts_after c Actions n p =
    counts c.format n c.variables c.automata c.locations c.edges c.nodes
counts_after c Variables n p = c
counts_after c Variable n p =
    counts c.format c.actions (add_up_to c.variables 1) c.automata c.locations c.edges c.nodes
counts_after c Automata n p = c
counts_after c Sync n p =
    counts c.format c.actions c.variables (add_up_to c.automata 1) 0 c.edges c.nodes
counts_after c Locations n p = c
counts_after c Init n p = with_nodes c p
counts_after c Inv n p =
    with_nodes
    (counts c.format c.actions c.variables c.automata (add_up_to c.locations 1) c.edges c.nodes) p
counts_after c Edges n p = c
counts_after c Edge n p =
    with_nodes
    (counts c.format c.actions c.variables c.automata c.locations (add_up_to c.edges 1) c.nodes) p
counts_after c Compose n p = with_nodes c p
counts_after c End n p = c

-- the nodes of a line's predicate, or of all that stand in the composition
unfoldable pub nodes_of : Entry → ℕ
nodes_of (format_line n) = 0
nodes_of (actions_line n) = 0
nodes_of (variables_line n) = 0
nodes_of (variable_line x o) = 0
nodes_of (automata_line n) = 0
nodes_of (sync_line list) = 0
nodes_of (locations_line n) = 0
nodes_of (init_line p) = node_count p
nodes_of (inv_line p) = node_count p
nodes_of (edges_line n) = 0
nodes_of (edge_line e) = node_count e.update
nodes_of (compose_line c) = start_nodes c

-- the counts are those of what has been read
pub record Counted (r : Reading) (c : Counts) : Type 0 where
  pub format : c.format ≡ r.model.format
  pub actions : c.actions ≡ r.model.actions
  pub variables : c.variables ≡ variable_count r
  pub automata : c.automata ≡ length r.model.automata
  pub locations : c.locations ≡ location_count r
  pub edges : c.edges ≡ edge_total r.model.automata
  pub nodes : c.nodes ≡ r.nodes

-- there is room to count one more line, whose predicates have p nodes
pub record Room (c : Counts) (p : ℕ) : Type 0 where
  pub variables : c.variables + 1 ≤ most_count
  pub automata : c.automata + 1 ≤ most_count
  pub locations : c.locations + 1 ≤ most_count
  pub edges : c.edges + 1 ≤ most_count
  pub nodes : c.nodes + p ≤ most_count

-- no count of lines is above n, which may be the number of lines, words or bytes that have been read
pub record Paced (n : ℕ) (c : Counts) : Type 0 where
  pub variables : c.variables ≤ n
  pub automata : c.automata ≤ n
  pub locations : c.locations ≤ n
  pub edges : c.edges ≤ n

-- the highest action of a list: A, or 63, since no list holds more
unfoldable pub capped : ℕ → ℕ
capped A = cond (ltb A max_actions) A max_actions
