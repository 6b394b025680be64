-- The lines of a model: taken one after the other they give the model back, and they stand in the order that is due.
use Prim.Native.Nat.{ℕ, suc}
use native.Mathlib.Omega.{arith}
use mathlib.Core.Path.{◌≡◌, refl, sym, ◌∙◌, ap, ap₂}
use mathlib.Core.Bool.{Bool, true, false}
use mathlib.Core.List.{List, [], ◌∷◌, ◌++◌, append_assoc, append-nil, map, flat_map}
use mathlib.Core.Option as O
use mathlib.Core.Option.{Option}
use lib.ListN.{length}
use Rattle.model.specs.Basic.{every}
use Rattle.model.specs.Predicate.{Range}
use Rattle.model.specs.Composition.{Tree, leaf}
use Rattle.model.specs.Model.{Location, Edge, Automaton, Model}
use Rattle.model.specs.Lines.{Key, variable, automata, sync, locations, init, inv, edges, edge, compose, Entry, format_line, actions_line, variables_line, variable_line, automata_line, sync_line, locations_line, init_line, inv_line, edges_line, edge_line, compose_line, key_of, location_lines, automaton_lines, variable_lines, lines, due_at_first, repeat, then_due, Reading, at_first, with_model, with_automata, with_pred, with_nodes, on_last, add_location, add_edge, last_owner, with_owner, noted}
use Rattle.model.proofs.Tests.{and_intro, and_left, and_right, every_append, never}

-- the lines of a block, and what they are taken to
abbrev pub noted_all : Reading → List Entry → Reading
noted_all r [] = r
noted_all r (e ∷ es) = noted_all (noted r e) es

pub noted_append : (r : Reading) (a b : List Entry) → noted_all r (a ++ b) ≡ noted_all (noted_all r a) b
noted_append r [] b = refl
noted_append r (e ∷ a) b = noted_append (noted r e) a b

abbrev pub sheet : (format actions : ℕ) → List Range → List (Option ℕ) → List Automaton → Tree → Model
sheet f a rs os l c = record { format = f; actions = a; variables = rs; owners = os; automata = l; tree = c }

-- what the lines of a model are taken to
pub noted_ranges : (xs : List Range) (ws : List (Option ℕ)) → length ws ≡ length xs → (r : Reading) (f a : ℕ) (rs : List Range) (os : List (Option ℕ)) (l : List Automaton) (c : Tree) → r.model ≡ sheet f a rs os l c → (noted_all r (variable_lines xs ws)).model ≡ sheet f a (rs ++ xs) (os ++ ws) l c
unfolding noted with_model variable_lines
noted_ranges [] [] n r f a rs os l c h = h ∙ ap₂ (λ q p. sheet f a q p l c) (sym (append-nil rs)) (sym (append-nil os))
noted_ranges [] (w ∷ ws) n r f a rs os l c h = absurd (omega arith)
noted_ranges (x ∷ xs) [] n r f a rs os l c h = absurd (omega arith)
noted_ranges (x ∷ xs) (w ∷ ws) n r f a rs os l c h =
    noted_ranges xs ws (omega arith) (noted r (variable_line x w)) f a (rs ++ x ∷ []) (os ++ w ∷ []) l c (ap (λ (q : Model). sheet q.format q.actions (q.variables ++ x ∷ []) (q.owners ++ w ∷ []) q.automata q.tree) h) ∙
    ap₂ (λ q p. sheet f a q p l c) (append_assoc rs (x ∷ []) xs) (append_assoc os (w ∷ []) ws)

-- an owner that is said behind its variable is noted as if it had been said with it
last_owner_lem : (o p : Option ℕ) (os : List (Option ℕ)) → last_owner o (os ++ p ∷ []) ≡ os ++ o ∷ []
unfolding last_owner
last_owner_lem o p [] = refl
last_owner_lem o p (q ∷ []) = refl
last_owner_lem o p (q ∷ s ∷ os) = ap (λ l. q ∷ l) (last_owner_lem o p (s ∷ os))

pub owner_noted : (r : Reading) (x : Range) (p o : Option ℕ) → with_owner (noted r (variable_line x p)) o ≡ noted r (variable_line x o)
unfolding noted with_model with_owner
owner_noted r x p o = rw (last_owner_lem o p r.model.owners)

last_law : (f : Automaton → Automaton) (done : List Automaton) (a : Automaton) → on_last f (done ++ a ∷ []) ≡ done ++ f a ∷ []
unfolding on_last
last_law f [] a = refl
last_law f (b ∷ []) a = refl
last_law f (b ∷ d ∷ done) a = ap (λ l. b ∷ l) (last_law f (d ∷ done) a)

pub length_on_last : (f : Automaton → Automaton) (xs : List Automaton) → length (on_last f xs) ≡ length xs
unfolding on_last
length_on_last f [] = refl
length_on_last f (x ∷ []) = refl
length_on_last f (x ∷ y ∷ xs) = ap suc (length_on_last f (y ∷ xs))

abbrev pub auto : List ℕ → List Location → List Edge → Automaton
auto s l e = record { sync = s; locations = l; edges = e }

module _ (f a : ℕ) (rs : List Range) (os : List (Option ℕ)) (done : List Automaton) (c : Tree) where
  pub noted_locations : (xs : List Location) (r : Reading) (s : List ℕ) (ls : List Location) (es : List Edge) → r.model ≡ sheet f a rs os (done ++ auto s ls es ∷ []) c → (noted_all r (flat_map location_lines xs)).model ≡ sheet f a rs os (done ++ auto s (ls ++ xs) es ∷ []) c
  unfolding noted with_model with_automata with_pred flat_map location_lines add_location
  noted_locations [] r s ls es h = h ∙ ap (λ q. sheet f a rs os (done ++ auto s q es ∷ []) c) (sym (append-nil ls))
  noted_locations (x ∷ xs) r s ls es h =
      noted_locations xs (noted (noted r (init_line x.init)) (inv_line x.inv)) s (ls ++ x ∷ []) es
      (ap (λ (q : Model). sheet q.format q.actions q.variables q.owners (on_last (add_location x) q.automata) q.tree) h ∙
      ap (λ q. sheet f a rs os q c) (last_law (add_location x) done (auto s ls es))) ∙
      ap (λ q. sheet f a rs os (done ++ auto s q es ∷ []) c) (append_assoc ls (x ∷ []) xs)

  noted_edges : (xs : List Edge) (r : Reading) (s : List ℕ) (ls : List Location) (es : List Edge) → r.model ≡ sheet f a rs os (done ++ auto s ls es ∷ []) c → (noted_all r (map edge_line xs)).model ≡ sheet f a rs os (done ++ auto s ls (es ++ xs) ∷ []) c
  unfolding noted with_model with_automata with_pred add_edge
  noted_edges [] r s ls es h = h ∙ ap (λ q. sheet f a rs os (done ++ auto s ls q ∷ []) c) (sym (append-nil es))
  noted_edges (x ∷ xs) r s ls es h =
      noted_edges xs (noted r (edge_line x)) s ls (es ++ x ∷ [])
      (ap (λ (q : Model). sheet q.format q.actions q.variables q.owners (on_last (add_edge x) q.automata) q.tree) h ∙
      ap (λ q. sheet f a rs os q c) (last_law (add_edge x) done (auto s ls es))) ∙
      ap (λ q. sheet f a rs os (done ++ auto s ls q ∷ []) c) (append_assoc es (x ∷ []) xs)

  pub noted_automaton : (x : Automaton) (r : Reading) → r.model ≡ sheet f a rs os done c → (noted_all r (automaton_lines x)).model ≡ sheet f a rs os (done ++ x ∷ []) c
  unfolding noted with_model with_automata automaton_lines
  noted_automaton x r h =
      let r₁ = noted r (sync_line x.sync) in
      let h₁ : r₁.model ≡ sheet f a rs os (done ++ auto x.sync [] [] ∷ []) c = ap (λ (q : Model). sheet q.format q.actions q.variables q.owners (q.automata ++ auto x.sync [] [] ∷ []) q.tree) h in
      let h₂ : (noted_all r₁ (flat_map location_lines x.locations)).model ≡ sheet f a rs os (done ++ auto x.sync x.locations [] ∷ []) c = noted_locations x.locations r₁ x.sync [] [] h₁ in
      ap (λ (q : Reading). q.model) (noted_append r₁ (flat_map location_lines x.locations) (edges_line (length x.edges) ∷ map edge_line x.edges)) ∙
      noted_edges x.edges (noted_all r₁ (flat_map location_lines x.locations)) x.sync x.locations [] h₂

pub noted_automata : (xs : List Automaton) (r : Reading) (f a : ℕ) (rs : List Range) (os : List (Option ℕ)) (done : List Automaton) (c : Tree) → r.model ≡ sheet f a rs os done c → (noted_all r (flat_map automaton_lines xs)).model ≡ sheet f a rs os (done ++ xs) c
unfolding flat_map
noted_automata [] r f a rs os done c h = h ∙ ap (λ q. sheet f a rs os q c) (sym (append-nil done))
noted_automata (x ∷ xs) r f a rs os done c h =
    ap (λ (q : Reading). q.model) (noted_append r (automaton_lines x) (flat_map automaton_lines xs)) ∙
    noted_automata xs (noted_all r (automaton_lines x)) f a rs os (done ++ x ∷ []) c (noted_automaton f a rs os done c x r h) ∙
    ap (λ q. sheet f a rs os q c) (append_assoc done (x ∷ []) xs)

pub noted_lines : (m : Model) → length m.owners ≡ length m.variables → (noted_all at_first (lines m)).model ≡ m
unfolding lines noted with_model with_nodes at_first
noted_lines m n =
    let vs = variable_lines m.variables m.owners in
    let r₂ = noted (noted at_first (format_line m.format)) (actions_line m.actions) in
    let h₁ : (noted_all r₂ (variable_lines m.variables m.owners)).model ≡ sheet m.format m.actions m.variables m.owners [] (leaf 0) = noted_ranges m.variables m.owners n r₂ m.format m.actions [] [] [] (leaf 0) refl in
    let r₃ = noted_all r₂ vs in
    let h₂ : (noted_all r₃ (flat_map automaton_lines m.automata)).model ≡ sheet m.format m.actions m.variables m.owners m.automata (leaf 0) = noted_automata m.automata r₃ m.format m.actions m.variables m.owners [] (leaf 0) h₁ in
    ap (λ (q : Reading). q.model) (noted_append r₂ vs (automata_line (length m.automata) ∷ (flat_map automaton_lines m.automata ++ (compose_line m.tree ∷ [])))) ∙
    ap (λ (q : Reading). q.model) (noted_append r₃ (flat_map automaton_lines m.automata) (compose_line m.tree ∷ [])) ∙
    ap (λ (q : Model). sheet q.format q.actions q.variables q.owners q.automata m.tree) h₂

-- Only its own line sets the format, and no other line of a model is one.
unfoldable pub keeps_format : Entry → Bool
keeps_format (format_line n) = false
keeps_format (actions_line n) = true
keeps_format (variables_line n) = true
keeps_format (variable_line x o) = true
keeps_format (automata_line n) = true
keeps_format (sync_line list) = true
keeps_format (locations_line n) = true
keeps_format (init_line p) = true
keeps_format (inv_line p) = true
keeps_format (edges_line n) = true
keeps_format (edge_line e) = true
keeps_format (compose_line c) = true

pub format_kept : (r : Reading) (e : Entry) → keeps_format e ≡ true → (noted r e).model.format ≡ r.model.format
unfolding keeps_format noted with_model with_automata with_pred with_nodes
format_kept r (format_line n) h = never h
format_kept r (actions_line n) h = refl
format_kept r (variables_line n) h = refl
format_kept r (variable_line x o) h = refl
format_kept r (automata_line n) h = refl
format_kept r (sync_line list) h = refl
format_kept r (locations_line n) h = refl
format_kept r (init_line p) h = refl
format_kept r (inv_line p) h = refl
format_kept r (edges_line n) h = refl
format_kept r (edge_line e) h = refl
format_kept r (compose_line c) h = refl

all_kept : {A : Type 0} (f : A → List Entry) → ((x : A) → every keeps_format (f x) ≡ true) → (xs : List A) → every keeps_format (flat_map f xs) ≡ true
unfolding every flat_map
all_kept f h [] = refl
all_kept f h (x ∷ xs) = rw (every_append keeps_format (f x) (flat_map f xs)) (and_intro (h x) (all_kept f h xs))

each_kept : {A : Type 0} (f : A → Entry) → ((x : A) → keeps_format (f x) ≡ true) → (xs : List A) → every keeps_format (map f xs) ≡ true
unfolding every
each_kept f h [] = refl
each_kept f h (x ∷ xs) = and_intro (h x) (each_kept f h xs)

variables_kept : (xs : List Range) (os : List (Option ℕ)) → every keeps_format (variable_lines xs os) ≡ true
unfolding every keeps_format variable_lines
variables_kept [] os = refl
variables_kept (x ∷ xs) [] = variables_kept xs []
variables_kept (x ∷ xs) (o ∷ os) = variables_kept xs os

automaton_kept : (x : Automaton) → every keeps_format (automaton_lines x) ≡ true
unfolding every keeps_format automaton_lines location_lines
automaton_kept x =
    rw (every_append keeps_format (flat_map location_lines x.locations) (edges_line (length x.edges) ∷ map edge_line x.edges))
    (and_intro (all_kept location_lines (λ l. refl) x.locations) (each_kept edge_line (λ e. refl) x.edges))

pub lines_keep : (m : Model) → (rest : List Entry) × (lines m ≡ format_line m.format ∷ rest) × (every keeps_format rest ≡ true)
unfolding lines every keeps_format
lines_keep m =
    let tail = flat_map automaton_lines m.automata ++ (compose_line m.tree ∷ []) in
    let later : every keeps_format tail ≡ true = rw (every_append keeps_format (flat_map automaton_lines m.automata) (compose_line m.tree ∷ [])) (and_intro (all_kept automaton_lines automaton_kept m.automata) refl) in
    (_, refl, rw (every_append keeps_format (variable_lines m.variables m.owners) (automata_line (length m.automata) ∷ tail)) (and_intro (variables_kept m.variables m.owners) later))

-- What g gives for an entry in a format, along the reading of entries: for the lines of a model it is by the model's
-- format, if g does not ask for the format at the line that says it.
module _ {A : Type 0} (g : (format : ℕ) → Entry → List A) where
  abbrev pub along : Reading → List Entry → List A
  along r [] = []
  along r (e ∷ es) = g r.model.format e ++ along (noted r e) es

  along_kept : (es : List Entry) (r : Reading) → every keeps_format es ≡ true → along r es ≡ flat_map (g r.model.format) es
  unfolding every flat_map
  along_kept [] r h = refl
  along_kept (e ∷ es) r h =
      let same = format_kept r e (and_left (keeps_format e) _ h) in
      ap (λ (l : List A). g r.model.format e ++ l) (along_kept es (noted r e) (and_right (keeps_format e) _ h) ∙ ap (λ (f : ℕ). flat_map (g f) es) same)

  pub along_lines : ((f h n : ℕ) → g f (format_line n) ≡ g h (format_line n)) → (m : Model) → along at_first (lines m) ≡ flat_map (g m.format) (lines m)
  unfolding flat_map noted with_model
  along_lines free m =
      let k = lines_keep m in
      let n = m.format in
      ap (along at_first) k.1 ∙
      ap (λ (l : List A). g at_first.model.format (format_line m.format) ++ l) (along_kept k.0 (noted at_first (format_line m.format)) k.2) ∙
      ap (λ (l : List A). l ++ flat_map (g m.format) k.0) (free at_first.model.format m.format m.format) ∙
      ap (flat_map (g m.format)) (sym k.1)

-- the lines of a model stand in the order that is due
abbrev pub Follows : List Entry → Reading → List Key → Model → Type 0
Follows [] r [] m = r.model ≡ m
Follows [] r (k ∷ ks) m = ⊥
Follows (e ∷ es) r [] m = ⊥
Follows (e ∷ es) r (k ∷ ks) m = (key_of e ≡ k) × Follows es (noted r e) (then_due r.model.format e ++ ks) m

follow_variables : (xs : List Range) (os : List (Option ℕ)) (es : List Entry) (r : Reading) (ks : List Key) (m : Model) → Follows es (noted_all r (variable_lines xs os)) ks m → Follows (variable_lines xs os ++ es) r (repeat (length xs) (variable ∷ []) ++ ks) m
unfolding key_of then_due repeat variable_lines
follow_variables [] os es r ks m h = h
follow_variables (x ∷ xs) [] es r ks m h = (refl, follow_variables xs [] es (noted r (variable_line x O.none)) ks m h)
follow_variables (x ∷ xs) (o ∷ os) es r ks m h = (refl, follow_variables xs os es (noted r (variable_line x o)) ks m h)

follow_edges : (xs : List Edge) (es : List Entry) (r : Reading) (ks : List Key) (m : Model) → Follows es (noted_all r (map edge_line xs)) ks m → Follows (map edge_line xs ++ es) r (repeat (length xs) (edge ∷ []) ++ ks) m
unfolding key_of then_due repeat
follow_edges [] es r ks m h = h
follow_edges (x ∷ xs) es r ks m h = (refl, follow_edges xs es (noted r (edge_line x)) ks m h)

follow_locations : (xs : List Location) (es : List Entry) (r : Reading) (ks : List Key) (m : Model) → Follows es (noted_all r (flat_map location_lines xs)) ks m → Follows (flat_map location_lines xs ++ es) r (repeat (length xs) (init ∷ inv ∷ []) ++ ks) m
unfolding key_of then_due repeat flat_map location_lines
follow_locations [] es r ks m h = h
follow_locations (x ∷ xs) es r ks m h = (refl, (refl, follow_locations xs es (noted (noted r (init_line x.init)) (inv_line x.inv)) ks m h))

follow_automaton : (x : Automaton) (es : List Entry) (r : Reading) (ks : List Key) (m : Model) → Follows es (noted_all r (automaton_lines x)) ks m → Follows (automaton_lines x ++ es) r (sync ∷ locations ∷ ks) m
unfolding key_of then_due automaton_lines
follow_automaton x es r ks m h =
    let r₂ = noted (noted r (sync_line x.sync)) (locations_line (length x.locations)) in
    let a = flat_map location_lines x.locations in
    let b = map edge_line x.edges in
    let n = length x.edges in
    let g : Follows es (noted_all (noted_all r₂ (flat_map location_lines x.locations)) (edges_line (length x.edges) ∷ map edge_line x.edges)) ks m = rw (← noted_append r₂ (flat_map location_lines x.locations) (edges_line (length x.edges) ∷ map edge_line x.edges)) h in
    let e : Follows ((edges_line (length x.edges) ∷ map edge_line x.edges) ++ es) (noted_all r₂ (flat_map location_lines x.locations)) (edges ∷ ks) m = (refl, follow_edges x.edges es (noted (noted_all r₂ (flat_map location_lines x.locations)) (edges_line (length x.edges))) ks m g) in
    let l = follow_locations x.locations ((edges_line (length x.edges) ∷ map edge_line x.edges) ++ es) r₂ (edges ∷ ks) m e in
    (refl, (refl, rw (append_assoc (flat_map location_lines x.locations) (edges_line (length x.edges) ∷ map edge_line x.edges) es, append_assoc (repeat (length x.locations) (init ∷ inv ∷ [])) (edges ∷ []) ks) l))

follow_automata : (xs : List Automaton) (es : List Entry) (r : Reading) (ks : List Key) (m : Model) → Follows es (noted_all r (flat_map automaton_lines xs)) ks m → Follows (flat_map automaton_lines xs ++ es) r (repeat (length xs) (sync ∷ locations ∷ []) ++ ks) m
unfolding repeat flat_map
follow_automata [] es r ks m h = h
follow_automata (x ∷ xs) es r ks m h =
    let g : Follows es (noted_all (noted_all r (automaton_lines x)) (flat_map automaton_lines xs)) ks m = rw (← noted_append r (automaton_lines x) (flat_map automaton_lines xs)) h in
    rw (append_assoc (automaton_lines x) (flat_map automaton_lines xs) es)
    (follow_automaton x (flat_map automaton_lines xs ++ es) r (repeat (length xs) (sync ∷ locations ∷ []) ++ ks) m (follow_automata xs es (noted_all r (automaton_lines x)) ks m g))

pub follow_lines : (m : Model) → length m.owners ≡ length m.variables → Follows (lines m) at_first due_at_first m
unfolding lines key_of then_due due_at_first
follow_lines m n =
    let r₃ = noted (noted (noted at_first (format_line m.format)) (actions_line m.actions)) (variables_line (length m.variables)) in
    let la = variable_lines m.variables m.owners in
    let lb = flat_map automaton_lines m.automata in
    let lc = compose_line m.tree ∷ [] in
    let q : (noted_all (noted (noted_all r₃ (variable_lines m.variables m.owners)) (automata_line (length m.automata))) (flat_map automaton_lines m.automata ++ (compose_line m.tree ∷ []))).model ≡ m = ap (λ (x : Reading). x.model) (sym (noted_append r₃ (variable_lines m.variables m.owners) (automata_line (length m.automata) ∷ (flat_map automaton_lines m.automata ++ (compose_line m.tree ∷ []))))) ∙ noted_lines m n in
    let p : (noted (noted_all (noted (noted_all r₃ (variable_lines m.variables m.owners)) (automata_line (length m.automata))) (flat_map automaton_lines m.automata)) (compose_line m.tree)).model ≡ m = ap (λ (x : Reading). x.model) (sym (noted_append (noted (noted_all r₃ (variable_lines m.variables m.owners)) (automata_line (length m.automata))) (flat_map automaton_lines m.automata) (compose_line m.tree ∷ []))) ∙ q in (
      refl,
      (
        refl,
        (
          refl,
          follow_variables m.variables m.owners (automata_line (length m.automata) ∷ (flat_map automaton_lines m.automata ++ (compose_line m.tree ∷ []))) r₃ (automata ∷ compose ∷ []) m (
            refl,
            follow_automata m.automata (compose_line m.tree ∷ []) (noted (noted_all r₃ (variable_lines m.variables m.owners)) (automata_line (length m.automata))) (compose ∷ []) m (refl, p),
          ),
        ),
      ),
    )
