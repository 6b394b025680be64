-- Which line is due, as the code keeps it, and the whole list of the keys to come that it stands for.
use Rattle.std.specs.Prelude.{ℕ, zero, suc, ◌-◌, ◌≤◌, ◌≡◌, Bool, true, false, ◌&&◌, List, [], ◌∷◌, ◌++◌, length, leb}
use Rattle.model.specs.Bounds.{writes_format, owners_format}
use Rattle.model.specs.Lines.{Key as LineKey, format, actions, variables, variable, automata, sync, locations, init}
use Rattle.model.specs.Lines.{inv, edges, edge, compose, repeat, Entry, format_line, actions_line, variables_line}
use Rattle.model.specs.Lines.{variable_line, automata_line, sync_line, locations_line, init_line, inv_line, edges_line}
use Rattle.model.specs.Lines.{edge_line, compose_line, Reading}
use Rattle.line_order.specs.declared.Key.{Key}
use Rattle.line_order.specs.declared.Key.TheVariants.{Format, Actions, Variables, Variable, Automata, Sync}
use Rattle.line_order.specs.declared.Key.TheVariants.{Locations, Init, Inv, Edges, Edge, Compose, End}
use Rattle.line_order.specs.declared.Due.{Due}

-- no line is due any more
unfoldable pub is_end : Key → Bool
is_end Format = false
is_end Actions = false
is_end Variables = false
is_end Variable = false
is_end Automata = false
is_end Sync = false
is_end Locations = false
is_end Init = false
is_end Inv = false
is_end Edges = false
is_end Edge = false
is_end Compose = false
is_end End = true

unfoldable pub is_edge : Key → Bool
is_edge Format = false
is_edge Actions = false
is_edge Variables = false
is_edge Variable = false
is_edge Automata = false
is_edge Sync = false
is_edge Locations = false
is_edge Init = false
is_edge Inv = false
is_edge Edges = false
is_edge Edge = true
is_edge Compose = false
is_edge End = false

unfoldable pub is_variable : Key → Bool
is_variable Format = false
is_variable Actions = false
is_variable Variables = false
is_variable Variable = true
is_variable Automata = false
is_variable Sync = false
is_variable Locations = false
is_variable Init = false
is_variable Inv = false
is_variable Edges = false
is_variable Edge = false
is_variable Compose = false
is_variable End = false

-- a list stands behind the line that is due (request (f))
unfoldable pub is_listed : Due → Bool
is_listed d = is_edge d.key && leb writes_format d.format

-- an owner does (request (k))
unfoldable pub is_owned : Due → Bool
is_owned d = is_variable d.key && leb owners_format d.format

-- The code's own steps, for a format f. `a` automata are to come or under way, and then `l` locations or `e` edges of
-- the one under way.
abbrev pub due : Key → (f v a l e : ℕ) → Due
due k f v a l e = record { key = k; format = f; variables = v; automata = a; locations = l; edges = e }

-- the one if n is 0, otherwise the other
unfoldable pub if_none : ℕ → Due → Due → Due
if_none zero d f = d
if_none (suc n) d f = f

abbrev pub due_only : ℕ → Key → Due
due_only f k = due k f 0 0 0 0

abbrev pub due_first : Due
due_first = due_only 0 Format

unfoldable pub due_variables : (f n : ℕ) → Due
due_variables f n = if_none n (due_only f Automata) (due Variable f n 0 0 0)

unfoldable pub due_automata : (f n : ℕ) → Due
due_automata f n = if_none n (due_only f Compose) (due Sync f 0 n 0 0)

unfoldable pub due_locations : (f a n : ℕ) → Due
due_locations f a n = if_none n (due Edges f 0 a 0 0) (due Init f 0 a n 0)

unfoldable pub due_edges : (f a n : ℕ) → Due
due_edges f a n = if_none n (due_automata f (a - 1)) (due Edge f 0 a 0 n)

-- after a line with this key and number
unfoldable pub due_after_key : Key → Due → ℕ → Due
due_after_key Format d n = due_only n Actions
due_after_key Actions d n = due_only d.format Variables
due_after_key Variables d n = due_variables d.format n
due_after_key Variable d n = due_variables d.format (d.variables - 1)
due_after_key Automata d n = due_automata d.format n
due_after_key Sync d n = due Locations d.format 0 d.automata 0 0
due_after_key Locations d n = due_locations d.format d.automata n
due_after_key Init d n = due Inv d.format 0 d.automata d.locations 0
due_after_key Inv d n = due_locations d.format d.automata (d.locations - 1)
due_after_key Edges d n = due_edges d.format d.automata n
due_after_key Edge d n = due_edges d.format d.automata (d.edges - 1)
due_after_key Compose d n = due_only d.format End
due_after_key End d n = due_only d.format End

unfoldable pub due_after : Due → ℕ → Due
due_after d n = due_after_key d.key d n

-- What it stands for: the key that is due, if any, and the keys after it.
unfoldable pub key_named : Key → List LineKey
key_named Format = format ∷ []
key_named Actions = actions ∷ []
key_named Variables = variables ∷ []
key_named Variable = variable ∷ []
key_named Automata = automata ∷ []
key_named Sync = sync ∷ []
key_named Locations = locations ∷ []
key_named Init = init ∷ []
key_named Inv = inv ∷ []
key_named Edges = edges ∷ []
key_named Edge = edge ∷ []
key_named Compose = compose ∷ []
key_named End = []

-- n automata to begin, and the end
unfoldable pub automata_from : ℕ → List LineKey
automata_from n = repeat n (sync ∷ locations ∷ []) ++ compose ∷ []

-- n locations to begin, and the rest of the automaton and of the sheet
unfoldable pub locations_from : ℕ → ℕ → List LineKey
locations_from a n = repeat n (init ∷ inv ∷ []) ++ edges ∷ automata_from (a - 1)

unfoldable pub later_keys : Key → Due → List LineKey
later_keys Format d = actions ∷ variables ∷ automata ∷ compose ∷ []
later_keys Actions d = variables ∷ automata ∷ compose ∷ []
later_keys Variables d = automata ∷ compose ∷ []
later_keys Variable d = repeat (d.variables - 1) (variable ∷ []) ++ automata ∷ compose ∷ []
later_keys Automata d = compose ∷ []
later_keys Sync d = locations ∷ automata_from (d.automata - 1)
later_keys Locations d = automata_from (d.automata - 1)
later_keys Init d = inv ∷ locations_from d.automata (d.locations - 1)
later_keys Inv d = locations_from d.automata (d.locations - 1)
later_keys Edges d = automata_from (d.automata - 1)
later_keys Edge d = repeat (d.edges - 1) (edge ∷ []) ++ automata_from (d.automata - 1)
later_keys Compose d = []
later_keys End d = []

unfoldable pub later_due : Due → List LineKey
later_due d = later_keys d.key d

unfoldable pub keys_due : Due → List LineKey
keys_due d = key_named d.key ++ later_due d

-- the code's name of a key, and the number of the format's line or of one that counts
unfoldable pub code_of : LineKey → Key
code_of format = Format
code_of actions = Actions
code_of variables = Variables
code_of variable = Variable
code_of automata = Automata
code_of sync = Sync
code_of locations = Locations
code_of init = Init
code_of inv = Inv
code_of edges = Edges
code_of edge = Edge
code_of compose = Compose

unfoldable pub number_of : Entry → ℕ
number_of (format_line n) = n
number_of (actions_line n) = n
number_of (variables_line n) = n
number_of (variable_line x o) = 0
number_of (automata_line n) = n
number_of (sync_line list) = 0
number_of (locations_line n) = n
number_of (init_line p) = 0
number_of (inv_line p) = 0
number_of (edges_line n) = n
number_of (edge_line e) = 0
number_of (compose_line c) = 0

-- a line with this key belongs to an automaton that has been begun
unfoldable pub is_inside : Key → Bool
is_inside Format = false
is_inside Actions = false
is_inside Variables = false
is_inside Variable = false
is_inside Automata = false
is_inside Sync = false
is_inside Locations = true
is_inside Init = true
is_inside Inv = true
is_inside Edges = true
is_inside Edge = true
is_inside Compose = false
is_inside End = false

-- where such a line is due, an automaton has been begun
pub record Begun (d : Due) (r : Reading) : Type 0 where
  pub begun : is_inside d.key ≡ true → 1 ≤ length r.model.automata
