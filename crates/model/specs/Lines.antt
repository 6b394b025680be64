-- "The sheet text", its lines in order: what each line says, apart from how it is spelled. The text spells these
-- entries with bytes, and the table with words.
use Rattle.std.specs.Prelude.{ℕ, zero, suc, ◌+◌, length}
use mathlib.Core.List.{List, [], ◌∷◌, ◌++◌, map, flat_map}
use Rattle.std.proofs.Math.Option as O
use Rattle.std.proofs.Math.Option.{Option}
use Rattle.model.specs.Predicate.{Pred, all, none, Range, node_count}
use Rattle.model.specs.Composition.{Tree, leaf, start_nodes}
use Rattle.model.specs.Model.{Location, Edge, Automaton, Model, nobody}

-- the twelve keys
pub data Key : Type 0 where
  format actions variables variable automata sync locations init inv edges edge compose : Key

-- what a line says
pub data Entry : Type 0 where
  format_line actions_line variables_line automata_line locations_line edges_line : ℕ → Entry
  variable_line : Range → (owner : Option ℕ) → Entry
  sync_line : List ℕ → Entry
  init_line inv_line : Pred → Entry
  edge_line : Edge → Entry
  compose_line : Tree → Entry

unfoldable pub key_of : Entry → Key
key_of (format_line n) = format
key_of (actions_line n) = actions
key_of (variables_line n) = variables
key_of (variable_line x o) = variable
key_of (automata_line n) = automata
key_of (sync_line list) = sync
key_of (locations_line n) = locations
key_of (init_line p) = init
key_of (inv_line p) = inv
key_of (edges_line n) = edges
key_of (edge_line e) = edge
key_of (compose_line c) = compose

-- the lines of a model, in order
unfoldable pub location_lines : Location → List Entry
location_lines l = init_line l.init ∷ inv_line l.inv ∷ []

unfoldable pub automaton_lines : Automaton → List Entry
automaton_lines x =
    sync_line x.sync ∷ locations_line (length x.locations) ∷
    (flat_map location_lines x.locations ++
    (edges_line (length x.edges) ∷ map edge_line x.edges))

-- a variable with its owner; a sheet has as many of the one as of the other
unfoldable pub variable_lines : List Range → List (Option ℕ) → List Entry
variable_lines [] os = []
variable_lines (x ∷ xs) [] = variable_line x O.none ∷ variable_lines xs []
variable_lines (x ∷ xs) (o ∷ os) = variable_line x o ∷ variable_lines xs os

unfoldable pub lines : Model → List Entry
lines m =
    format_line m.format ∷ actions_line m.actions ∷ variables_line (length m.variables) ∷
    (variable_lines m.variables m.owners ++
    (automata_line (length m.automata) ∷
    (flat_map automaton_lines m.automata ++
    (compose_line m.tree ∷ []))))

-- Reading them back. What is due is the list of the keys to come: at first these, and a line that counts puts the keys
-- of what it counts in front. Which these are may depend on the format.
unfoldable pub due_at_first : List Key
due_at_first = format ∷ actions ∷ variables ∷ automata ∷ compose ∷ []

unfoldable pub repeat : ℕ → List Key → List Key
repeat zero ks = []
repeat (suc n) ks = ks ++ repeat n ks

unfoldable pub then_due : (format : ℕ) → Entry → List Key
then_due f (format_line n) = []
then_due f (actions_line n) = []
then_due f (variables_line n) = repeat n (variable ∷ [])
then_due f (variable_line x o) = []
then_due f (automata_line n) = repeat n (sync ∷ locations ∷ [])
then_due f (sync_line list) = []
then_due f (locations_line n) = repeat n (init ∷ inv ∷ []) ++ edges ∷ []
then_due f (init_line p) = []
then_due f (inv_line p) = []
then_due f (edges_line n) = repeat n (edge ∷ [])
then_due f (edge_line e) = []
then_due f (compose_line c) = []

-- what has been read: the model so far, the latest predicate of any line (at an inv line that is the init of its
-- location), and the nodes of all predicates so far
pub record Reading : Type 0 where
  pub model : Model
  pub latest : Pred
  pub nodes : ℕ

unfoldable pub at_first : Reading
at_first =
    record {
      model = record { format = 0; actions = 0; variables = []; owners = []; automata = []; tree = leaf 0 };
      latest = all none;
      nodes = 0;
    }

-- the automaton that is being read is the last one
unfoldable pub last_of : List Automaton → Automaton
last_of [] = nobody
last_of (x ∷ []) = x
last_of (x ∷ y ∷ rest) = last_of (y ∷ rest)

unfoldable pub on_last : (Automaton → Automaton) → List Automaton → List Automaton
on_last f [] = []
on_last f (x ∷ []) = f x ∷ []
on_last f (x ∷ y ∷ rest) = x ∷ on_last f (y ∷ rest)

unfoldable pub add_location : Location → Automaton → Automaton
add_location l x = record { sync = x.sync; locations = x.locations ++ l ∷ []; edges = x.edges }

unfoldable pub add_edge : Edge → Automaton → Automaton
add_edge e x = record { sync = x.sync; locations = x.locations; edges = x.edges ++ e ∷ [] }

unfoldable pub with_model : Reading → (format actions : ℕ) → List Range → List (Option ℕ) → List Automaton → Tree
    → Reading
with_model r f a vs os xs c =
    record {
      model = record { format = f; actions = a; variables = vs; owners = os; automata = xs; tree = c };
      latest = r.latest;
      nodes = r.nodes;
    }

unfoldable pub with_automata : Reading → List Automaton → Reading
with_automata r xs =
    with_model r r.model.format r.model.actions r.model.variables r.model.owners xs r.model.tree

unfoldable pub with_pred : Reading → Pred → Reading
with_pred r p = record { model = r.model; latest = p; nodes = r.nodes + node_count p }

unfoldable pub with_nodes : Reading → ℕ → Reading
with_nodes r n = record { model = r.model; latest = r.latest; nodes = r.nodes + n }

-- an owner for the last variable, which has been noted with none: the line behind it says one (request (k))
unfoldable pub last_owner : Option ℕ → List (Option ℕ) → List (Option ℕ)
last_owner o [] = []
last_owner o (p ∷ []) = o ∷ []
last_owner o (p ∷ q ∷ rest) = p ∷ last_owner o (q ∷ rest)

unfoldable pub with_owner : Reading → Option ℕ → Reading
with_owner r o =
    with_model r r.model.format r.model.actions r.model.variables (last_owner o r.model.owners)
    r.model.automata r.model.tree

-- what a line adds
unfoldable pub noted : Reading → Entry → Reading
noted r (format_line n) =
    with_model r n r.model.actions r.model.variables r.model.owners r.model.automata r.model.tree
noted r (actions_line n) =
    with_model r r.model.format n r.model.variables r.model.owners r.model.automata r.model.tree
noted r (variables_line n) = r
noted r (variable_line x o) =
    with_model r r.model.format r.model.actions (r.model.variables ++ x ∷ []) (r.model.owners ++ o ∷ [])
    r.model.automata r.model.tree
noted r (automata_line n) = r
noted r (sync_line list) = with_automata r (r.model.automata ++ record { sync = list; locations = []; edges = [] } ∷ [])
noted r (locations_line n) = r
noted r (init_line p) = with_pred r p
noted r (inv_line p) =
    with_automata (with_pred r p) (on_last (add_location (record { init = r.latest; inv = p })) r.model.automata)
noted r (edges_line n) = r
noted r (edge_line e) = with_automata (with_pred r e.update) (on_last (add_edge e) r.model.automata)
noted r (compose_line c) =
    with_nodes
    (with_model r r.model.format r.model.actions r.model.variables r.model.owners r.model.automata c)
    (start_nodes c)
