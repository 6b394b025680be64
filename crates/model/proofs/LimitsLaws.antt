-- The limits, tried line by line, are the record of specs/Lawful.
use Prim.Native.Nat.{ℕ, zero, suc, ◌+◌, ◌≤◌, ◌<◌}
use mathlib.Core.Path.{◌≡◌, refl, sym, ◌∙◌, ap, subst}
use mathlib.Core.Bool.{true, false, ◌&&◌, and-eq-true_iff, and_assoc}
use mathlib.Core.List.Memᴰ
use mathlib.Core.List.{List, [], ◌∷◌, ◌++◌, map, flat_map, Memᴰ}
use mathlib.Core.Logic.{◌↔◌}
use native.Mathlib.Omega.{arith}
use native.Mathlib.Nat.{zero-add, add-zero, add-suc, suc-add}
use mathlib.Core.Option as O
use mathlib.Core.Option.{Option}
use lib.ListN.{length, get_or}
use Rattle.model.specs.Basic.{sum}
use Rattle.model.specs.Bounds.{max_nodes, max_actions, max_locations, max_edges}
use Rattle.model.specs.Predicate.{Range, node_count, written}
use Rattle.model.specs.Composition.{leaf}
use Rattle.model.specs.Model.{Location, Edge, Automaton, Model, nobody, edge_total}
use Rattle.model.specs.Lines.{Entry, format_line, actions_line, variable_line, automata_line, sync_line, init_line, inv_line, edges_line, edge_line, compose_line, location_lines, automaton_lines, variable_lines, lines, Reading, at_first, last_of, on_last, add_edge, with_model, with_automata, with_pred, noted}
use Rattle.model.specs.Limits.{numbers_in_range, location_count, is_beyond, is_foreign, writes_foreign, content_fault, fault_of, within_limits, limits}
use Rattle.model.specs.Lawful.{location_nodes, automaton_nodes, node_total, LawfulRange, LawfulLocation, LawfulEdge, LawfulAutomaton, Lawful}
use Rattle.model.proofs.Tests.{eq_of, of_eq, exists_none, none_exists}
use Rattle.model.proofs.LinesLaws.{noted_all, noted_append, sheet, auto, noted_ranges, noted_locations, noted_automaton, noted_automata, length_on_last}
use Rattle.model.proofs.LimitLines.{format_line_lem, actions_line_lem, variables_line_lem, variable_line_lem, Said, owner_lawful, lawful_owner, automata_line_lem, sync_line_lem, locations_line_lem, state_line, edges_line_lem, edge_line_lem, tree_line}

-- every item of a list
abbrev pub Members : {A : Type 0} → (A → Type 0) → List A → Type 0
Members {A} P l = (x : A) → Memᴰ x l → P x

pub members : {A : Type 0} (P : A → Type 0) (x : A) (l : List A) → P x → Members P l → Members P (x ∷ l)
members P x l p h y (Memᴰ.head e) = subst P (sym e) p
members P x l p h y (Memᴰ.tail m) = h y m

pub no_members : {A : Type 0} (P : A → Type 0) → Members P []
no_members P x m = absurd (Memᴰ.not-nil m)

-- the lines of some variables with their owners
within_variables : (xs : List Range) (os : List (Option ℕ)) → length os ≡ length xs → (r : Reading) → (within_limits r (variable_lines xs os) ≡ true) ↔ (Members LawfulRange xs × Members (Said r.model.format) os)
unfolding within_limits variable_lines noted with_model
within_variables [] [] n r = (λ h. (no_members LawfulRange, no_members (Said r.model.format)), λ h. refl)
within_variables [] (o ∷ os) n r = absurd (omega arith)
within_variables (x ∷ xs) [] n r = absurd (omega arith)
within_variables (x ∷ xs) (o ∷ os) n r =
    let f = r.model.format in
    let line = variable_line_lem r x o in
    let ih = within_variables xs os (omega arith) (noted r (variable_line x o)) in (
      λ h. let g = simp and-eq-true_iff at h in let p = line.0 g.0 in let q = ih.0 g.1 in (members LawfulRange x xs p.0 q.0, members (Said r.model.format) o os p.1 q.1),
      λ h. simp and-eq-true_iff (line.1 (h.0 x (Memᴰ.head refl), h.1 o (Memᴰ.head refl)), ih.1 (λ y m. h.0 y (Memᴰ.tail m), λ y m. h.1 y (Memᴰ.tail m))),
    )

nodes_variables : (xs : List Range) (os : List (Option ℕ)) (r : Reading) → (noted_all r (variable_lines xs os)).nodes ≡ r.nodes
unfolding noted with_model variable_lines
nodes_variables [] os r = refl
nodes_variables (x ∷ xs) [] r = nodes_variables xs [] (noted r (variable_line x O.none))
nodes_variables (x ∷ xs) (o ∷ os) r = nodes_variables xs os (noted r (variable_line x o))

-- a block is within the limits, and so are the nodes before it
abbrev Fits : Reading → List Entry → Type 0
Fits r es = (r.nodes ≤ max_nodes) × (within_limits r es ≡ true)

-- the lines of some locations
within_locations : (xs : List Location) (r : Reading) → Fits r (flat_map location_lines xs) ↔ (Members (LawfulLocation r.model.variables) xs × (r.nodes + sum (map location_nodes xs) ≤ max_nodes))
unfolding within_limits flat_map location_lines noted with_model with_automata with_pred sum location_nodes fault_of numbers_in_range content_fault
within_locations [] r = (λ h. (no_members (LawfulLocation r.model.variables), omega (arith, h.0)), λ h. (omega (arith, h.1), refl))
within_locations (x ∷ xs) r =
    let r₁ = noted r (init_line x.init) in
    let line = state_line r x.init in
    let next = state_line r₁ x.inv in
    let ih = within_locations xs (noted r₁ (inv_line x.inv)) in (
      λ h.
          let g = simp and-eq-true_iff at h.1 in
          let p = line.0 g.0 in
          let q = next.0 g.1.0 in
          let w = ih.0 (omega (arith, q.2), g.1.1) in
          (members (LawfulLocation r.model.variables) x xs (record { init = p.0; init_old = p.1; inv = q.0; inv_old = q.1 }) w.0, omega (arith, w.1)),
      λ h.
          let p = h.0 x (Memᴰ.head refl) in
          let w = ih.1 (λ y m. h.0 y (Memᴰ.tail m), omega (arith, h.1)) in
          (omega (arith, h.1), simp and-eq-true_iff (line.1 (p.init, p.init_old, omega (arith, h.1)), (next.1 (p.inv, p.inv_old, omega (arith, h.1)), w.1))),
    )

nodes_locations : (xs : List Location) (r : Reading) → (noted_all r (flat_map location_lines xs)).nodes ≡ r.nodes + sum (map location_nodes xs)
unfolding flat_map location_lines noted with_model with_automata with_pred sum location_nodes
nodes_locations [] r = omega arith
nodes_locations (x ∷ xs) r = let ih = nodes_locations xs (noted (noted r (init_line x.init)) (inv_line x.inv)) in omega arith

-- the lines of some edges: an edge leaves the locations of the last automaton
edge_keeps : (e : Edge) (l : List Automaton) → (last_of (on_last (add_edge e) l)).locations ≡ (last_of l).locations
unfolding last_of on_last add_edge
edge_keeps e [] = refl
edge_keeps e (x ∷ []) = refl
edge_keeps e (x ∷ y ∷ []) = refl
edge_keeps e (x ∷ y ∷ z ∷ l) = edge_keeps e (y ∷ z ∷ l)

-- an edge of the last of n automata writes what that one owns
abbrev pub Own : (format : ℕ) → List (Option ℕ) → (n : ℕ) → Edge → Type 0
Own f os n e = writes_foreign f os n (written e.update) ≡ false

within_edges : (xs : List Edge) (r : Reading) (n L : ℕ) → length r.model.automata ≡ n → location_count r ≡ L → r.model.actions ≤ max_actions → L ≤ max_locations → Fits r (map edge_line xs) ↔ (Members (LawfulEdge r.model.variables r.model.actions L) xs × (r.nodes + sum (map (λ e. node_count e.update) xs) ≤ max_nodes) × Members (Own r.model.format r.model.owners n) xs)
unfolding within_limits noted with_model with_automata with_pred sum location_count is_foreign
within_edges [] r n L c e a l = (λ h. (no_members (LawfulEdge r.model.variables r.model.actions L), omega (arith, h.0), no_members (Own r.model.format r.model.owners n)), λ h. (omega (arith, h.1), refl))
within_edges (x ∷ xs) r n L c e a l =
    let line = rw (e, c) at (edge_line_lem r x a (rw e l)) in
    let ih = within_edges xs (noted r (edge_line x)) n L (length_on_last (add_edge x) r.model.automata ∙ c) (ap (length {A = Location}) (edge_keeps x r.model.automata) ∙ e) a l in (
      λ h.
          let g = simp and-eq-true_iff at h.1 in
          let p = line.0 g.0 in
          let w = ih.0 (p.1, g.1) in
          (members (LawfulEdge r.model.variables r.model.actions L) x xs p.0 w.0, omega (arith, w.1), members (Own r.model.format r.model.owners n) x xs p.2 w.2),
      λ h.
          let w = ih.1 (λ y m. h.0 y (Memᴰ.tail m), omega (arith, h.1), λ y m. h.2 y (Memᴰ.tail m)) in
          (omega (arith, h.1), simp and-eq-true_iff (line.1 (h.0 x (Memᴰ.head refl), omega (arith, h.1), h.2 x (Memᴰ.head refl)), w.1)),
    )

nodes_edges : (xs : List Edge) (r : Reading) → (noted_all r (map edge_line xs)).nodes ≡ r.nodes + sum (map (λ e. node_count e.update) xs)
unfolding noted with_model with_automata with_pred sum
nodes_edges [] r = omega arith
nodes_edges (x ∷ xs) r = let ih = nodes_edges xs (noted r (edge_line x)) in omega arith

-- the lines of an automaton, which is the last one
pub last_is : (done : List Automaton) (x : Automaton) → last_of (done ++ x ∷ []) ≡ x
unfolding last_of
last_is [] x = refl
last_is (a ∷ []) x = refl
last_is (a ∷ b ∷ done) x = last_is (b ∷ done) x

edges_append : (done : List Automaton) (x : Automaton) → edge_total (done ++ x ∷ []) ≡ edge_total done + length x.edges
unfolding edge_total
edges_append [] x = omega arith
edges_append (a ∷ done) x = let ih = edges_append done x in omega arith

within_append : (r : Reading) (a b : List Entry) → within_limits r (a ++ b) ≡ (within_limits r a && within_limits (noted_all r a) b)
unfolding within_limits
within_append r [] b = refl
within_append r (e ∷ a) b = simp (within_append (noted r e) a b, and_assoc)

automata_append : (done : List Automaton) (x : Automaton) → length (done ++ x ∷ []) ≡ suc (length done)
automata_append [] x = refl
automata_append (a ∷ done) x = ap suc (automata_append done x)

within_automaton : (x : Automaton) (r : Reading) → r.model.actions ≤ max_actions → Fits r (automaton_lines x) ↔ (LawfulAutomaton r.model.variables r.model.actions x × (edge_total r.model.automata + length x.edges ≤ max_edges) × (r.nodes + automaton_nodes x ≤ max_nodes) × Members (Own r.model.format r.model.owners (suc (length r.model.automata))) x.edges)
unfolding within_limits automaton_lines noted with_model with_automata automaton_nodes location_count
within_automaton x r a =
    let A = r.model.actions in
    let vs = r.model.variables in
    let os = r.model.owners in
    let r₁ = noted r (sync_line x.sync) in
    let r₂ = noted_all r₁ (flat_map location_lines x.locations) in
    let m : r₂.model ≡ sheet r.model.format A vs os (r.model.automata ++ auto x.sync x.locations [] ∷ []) r.model.tree = noted_locations r.model.format A vs os r.model.automata r.model.tree x.locations r₁ x.sync [] [] refl in
    let n = nodes_locations x.locations r₁ in
    let e : edge_total r₂.model.automata ≡ edge_total r.model.automata + 0 = ap (λ (q : Model). edge_total q.automata) m ∙ edges_append r.model.automata (auto x.sync x.locations []) in
    let c : location_count r₂ ≡ length x.locations = ap (λ (q : Model). length (last_of q.automata).locations) m ∙ ap (λ (q : Automaton). length q.locations) (last_is r.model.automata (auto x.sync x.locations [])) in
    let k : length r₂.model.automata ≡ suc (length r.model.automata) = ap (λ (q : Model). length q.automata) m ∙ automata_append r.model.automata (auto x.sync x.locations []) in
    let es = rw (ap (λ (q : Model). q.variables) m, ap (λ (q : Model). q.actions) m, ap (λ (q : Model). q.format) m, ap (λ (q : Model). q.owners) m) at (within_edges x.edges r₂ (suc (length r.model.automata)) (length x.locations) k c) in
    let split = within_append r₁ (flat_map location_lines x.locations) (edges_line (length x.edges) ∷ map edge_line x.edges) in
    let first = sync_line_lem r x.sync a in
    let second = locations_line_lem r₁ (length x.locations) in
    let ls = within_locations x.locations r₁ in
    let third = edges_line_lem r₂ (length x.edges) in (
      λ h.
          let g = simp (and-eq-true_iff, split) at h.1 in
          let p = second.0 g.1.0 in
          let q = ls.0 (h.0, g.1.1.0) in
          let t = third.0 g.1.1.1.0 in
          let w = (es a p.1).0 (omega (arith, q.1), g.1.1.1.1) in
          (record { sync = first.0 g.0; some_location = p.0; few_locations = p.1; locations = q.0; edges = w.0 }, omega arith, omega (arith, w.1), w.2),
      λ h.
          let q = ls.1 (h.0.locations, omega (arith, h.2)) in
          let w = (es a h.0.few_locations).1 (h.0.edges, omega (arith, h.2), h.3) in
          (omega (arith, h.2), simp (and-eq-true_iff, split) (first.1 h.0.sync, (second.1 (h.0.some_location, h.0.few_locations), (q.1, (third.1 (omega (arith, h.1)), w.1))))),
    )

nodes_automaton : (x : Automaton) (r : Reading) → (noted_all r (automaton_lines x)).nodes ≡ r.nodes + automaton_nodes x
unfolding automaton_lines noted with_model with_automata automaton_nodes
nodes_automaton x r =
    let r₁ = noted r (sync_line x.sync) in
    let r₂ = noted_all r₁ (flat_map location_lines x.locations) in
    let p = nodes_locations x.locations r₁ in
    let q = nodes_edges x.edges r₂ in
    rw (noted_append r₁ (flat_map location_lines x.locations) (edges_line (length x.edges) ∷ map edge_line x.edges)) (omega arith)

-- the automata from number n on write what they own
abbrev OwnFrom : (format : ℕ) → List (Option ℕ) → (n : ℕ) → List Automaton → Type 0
OwnFrom f os n xs = (i : ℕ) → i < length xs → Members (Own f os (suc (n + i))) (get_or xs i nobody).edges

own_more : (f : ℕ) (os : List (Option ℕ)) (n : ℕ) (x : Automaton) (xs : List Automaton) → Members (Own f os (suc n)) x.edges → OwnFrom f os (suc n) xs → OwnFrom f os n (x ∷ xs)
own_more f os n x xs h k zero l = rw (add-zero n) h
own_more f os n x xs h k (suc i) l = rw (add-suc n i, ← suc-add n i) (k i (omega arith))

own_first : (f : ℕ) (os : List (Option ℕ)) (n : ℕ) (x : Automaton) (xs : List Automaton) → OwnFrom f os n (x ∷ xs) → Members (Own f os (suc n)) x.edges
own_first f os n x xs h = rw (add-zero n) at (h zero (omega arith))

own_rest : (f : ℕ) (os : List (Option ℕ)) (n : ℕ) (x : Automaton) (xs : List Automaton) → OwnFrom f os n (x ∷ xs) → OwnFrom f os (suc n) xs
own_rest f os n x xs h i l = rw (suc-add n i, ← add-suc n i) (h (suc i) (omega arith))

-- the lines of some automata, and of a model
within_automata : (xs : List Automaton) (r : Reading) → r.model.actions ≤ max_actions → ((edge_total r.model.automata ≤ max_edges) × Fits r (flat_map automaton_lines xs)) ↔ (Members (LawfulAutomaton r.model.variables r.model.actions) xs × (edge_total r.model.automata + edge_total xs ≤ max_edges) × (r.nodes + node_total xs ≤ max_nodes) × OwnFrom r.model.format r.model.owners (length r.model.automata) xs)
unfolding flat_map edge_total node_total sum within_limits
within_automata [] r a = (
  λ h. (no_members (LawfulAutomaton r.model.variables r.model.actions), omega (arith, h.0), omega (arith, h.1.0), λ i l. absurd (omega arith)),
  λ h. (omega (arith, h.1), (omega (arith, h.2), refl)),
)
within_automata (x ∷ xs) r a =
    let A = r.model.actions in
    let vs = r.model.variables in
    let os = r.model.owners in
    let f = r.model.format in
    let N = length r.model.automata in
    let r₁ = noted_all r (automaton_lines x) in
    let m : r₁.model ≡ sheet r.model.format A vs os (r.model.automata ++ x ∷ []) r.model.tree = noted_automaton r.model.format A vs os r.model.automata r.model.tree x r refl in
    let n = nodes_automaton x r in
    let e : edge_total r₁.model.automata ≡ edge_total r.model.automata + length x.edges = ap (λ (q : Model). edge_total q.automata) m ∙ edges_append r.model.automata x in
    let k : length r₁.model.automata ≡ suc (length r.model.automata) = ap (λ (q : Model). length q.automata) m ∙ automata_append r.model.automata x in
    let split = within_append r (automaton_lines x) (flat_map automaton_lines xs) in
    let one = within_automaton x r a in
    let ih = rw (k, ap (λ (q : Model). q.variables) m, ap (λ (q : Model). q.actions) m, ap (λ (q : Model). q.format) m, ap (λ (q : Model). q.owners) m) at (within_automata xs r₁) in (
      λ h.
          let g = simp (and-eq-true_iff, split) at h.1.1 in
          let p = one.0 (h.1.0, g.0) in
          let w = (ih a).0 (omega (arith, p.1), (omega (arith, p.2), g.1)) in
          (members (LawfulAutomaton vs A) x xs p.0 w.0, omega (arith, w.1), omega (arith, w.2), own_more f os N x xs p.3 w.3),
      λ h.
          let p = one.1 (h.0 x (Memᴰ.head refl), omega (arith, h.1), omega (arith, h.2), own_first f os N x xs h.3) in
          let w = (ih a).1 (λ y k. h.0 y (Memᴰ.tail k), omega (arith, h.1), omega (arith, h.2), own_rest f os N x xs h.3) in
          (omega (arith, h.1), (omega (arith, h.2), simp (and-eq-true_iff, split) (p.1, w.1.1))),
    )

nodes_automata : (xs : List Automaton) (r : Reading) → (noted_all r (flat_map automaton_lines xs)).nodes ≡ r.nodes + node_total xs
unfolding flat_map node_total sum
nodes_automata [] r = omega arith
nodes_automata (x ∷ xs) r =
    let ih = nodes_automata xs (noted_all r (automaton_lines x)) in
    let n = nodes_automaton x r in
    rw (noted_append r (automaton_lines x) (flat_map automaton_lines xs)) (omega arith)

lines_lawful : (m : Model) → length m.owners ≡ length m.variables → (within_limits at_first (lines m) ≡ true) ↔ Lawful m
unfolding lines within_limits noted with_model at_first edge_total
lines_lawful m same =
    let r₀ = noted at_first (format_line m.format) in
    let r₁ = noted r₀ (actions_line m.actions) in
    let r₂ = noted_all r₁ (variable_lines m.variables m.owners) in
    let r₃ = noted_all r₂ (flat_map automaton_lines m.automata) in
    let h₂ : r₂.model ≡ sheet m.format m.actions m.variables m.owners [] (leaf 0) = noted_ranges m.variables m.owners same r₁ m.format m.actions [] [] [] (leaf 0) refl in
    let h₃ : r₃.model ≡ sheet m.format m.actions m.variables m.owners m.automata (leaf 0) = noted_automata m.automata r₂ m.format m.actions m.variables m.owners [] (leaf 0) h₂ in
    let k : r₂.nodes ≡ 0 = nodes_variables m.variables m.owners r₁ in
    let split = within_append r₁ (variable_lines m.variables m.owners) (automata_line (length m.automata) ∷ (flat_map automaton_lines m.automata ++ (compose_line m.tree ∷ []))) in
    let split₂ = within_append r₂ (flat_map automaton_lines m.automata) (compose_line m.tree ∷ []) in
    let e : edge_total r₂.model.automata ≡ 0 = ap (λ (q : Model). edge_total q.automata) h₂ in
    let block = within_variables m.variables m.owners same r₁ in
    let c : length r₂.model.automata ≡ 0 = ap (λ (q : Model). length q.automata) h₂ in
    let parts = rw (c, ap (λ (q : Model). q.variables) h₂, ap (λ (q : Model). q.actions) h₂, ap (λ (q : Model). q.format) h₂, ap (λ (q : Model). q.owners) h₂) at (within_automata m.automata r₂) in
    let count = rw (ap (λ (q : Model). q.owners) h₂) at (automata_line_lem r₂ (length m.automata)) in
    let n₃ = nodes_automata m.automata r₂ in
    let whole = rw (ap (λ (q : Model). q.actions) h₃, ap (λ (q : Model). q.automata) h₃, ap (λ (q : Model). q.variables) h₃) at (tree_line r₃ m.tree) in (
      λ h.
          let g = simp (and-eq-true_iff, split, split₂) at h in
          let f = (format_line_lem at_first m.format).0 g.0 in
          let a = (actions_line_lem r₀ m.actions).0 g.1.0 in
          let n = count.0 g.1.1.1.1.0 in
          let p = (parts a).0 (omega arith, (omega arith, g.1.1.1.1.1.0)) in
          let t = (whole a n.1).0 g.1.1.1.1.1.1.0 in
          record {
            format_from = f.0;
            format_to = f.1;
            few_actions = a;
            few_variables = (variables_line_lem r₁ (length m.variables)).0 g.1.1.0;
            ranges = (block.0 g.1.1.1.0).0;
            owners_are = same;
            owners = λ o i. owner_lawful m.format (length m.automata) o ((block.0 g.1.1.1.0).1 o i).1 (exists_none (is_beyond (length m.automata)) m.owners n.2 o i);
            some_automaton = n.0;
            few_automata = n.1;
            automata = p.0;
            own = λ i l. rw (zero-add i) at (p.3 i l);
            few_edges = omega (arith, p.1);
            few_nodes = omega (arith, t.1.1);
            starts = t.1.0;
            tree = t.0;
          },
      λ h.
          let p = (parts h.few_actions).1 (h.automata, omega (arith, h.few_edges), omega (arith, h.few_nodes), λ i l. rw (zero-add i) (h.own i l)) in
          let said : (o : Option ℕ) → Memᴰ o m.owners → Said m.format o × (is_beyond (length m.automata) o ≡ false) = λ o i. lawful_owner m.format (length m.automata) o h.few_automata (h.owners o i) in
          simp (and-eq-true_iff, split, split₂) (
            (format_line_lem at_first m.format).1 (h.format_from, h.format_to),
            (
              (actions_line_lem r₀ m.actions).1 h.few_actions,
              (
                (variables_line_lem r₁ (length m.variables)).1 h.few_variables,
                (
                  block.1 (h.ranges, λ o i. (said o i).0),
                  (
                    count.1 (h.some_automaton, h.few_automata, none_exists (is_beyond (length m.automata)) m.owners (λ o i. (said o i).1)),
                    (p.1.1, ((whole h.few_actions h.few_automata).1 (h.tree, (h.starts, omega (arith, h.few_nodes))), refl)),
                  ),
                ),
              ),
            ),
          ),
    )

pub lawful_is : (m : Model) → (limits m ≡ true) ↔ Lawful m
unfolding limits
lawful_is m = (
  λ h.
      let g = simp and-eq-true_iff at h in
      let n = eq_of _ _ g.0 in
      (lines_lawful m n).0 g.1,
  λ h. simp and-eq-true_iff (of_eq _ _ h.owners_are, (lines_lawful m h.owners_are).1 h),
)
