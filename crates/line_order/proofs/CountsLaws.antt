-- The counts are those of what has been read, line by line.
use Prim.Native.Nat.{ℕ, zero, suc, ◌+◌, ◌-◌, ◌≤◌, ◌<◌}
use mathlib.Core.Path.{◌≡◌, refl, sym, ◌∙◌, ap}
use mathlib.Core.Bool.{Bool, true, false, cond, true≢false}
use mathlib.Core.List.{List, [], ◌∷◌, ◌++◌}
use mathlib.Core.Option.{Option}
use native.Mathlib.Omega.{arith}
use borrow.Author.Tests.{le-leb, lt-leb, leb-false}
use lib.ListN.{length, length-append}
use lib.Dec.{leb}
use Rattle.model.specs.Model.{Automaton, Location, edge_total}
use Rattle.model.specs.Predicate.{node_count}
use Rattle.model.specs.Composition.{start_nodes}
use Rattle.model.specs.Lines.{Key as LineKey, Entry, format_line, actions_line, variables_line, variable_line, automata_line, sync_line, locations_line, init_line, inv_line, edges_line, edge_line, compose_line, key_of, Reading, at_first, last_of, on_last, add_location, add_edge, with_model, with_automata, with_pred, with_nodes, with_owner, noted}
use Rattle.model.specs.Limits.{variable_count, location_count}
use Rattle.model.proofs.LinesLaws.{length_on_last}
use Rattle.model.proofs.LimitsLaws.{last_is}
use Rattle.line_order.specs.declared.Key.{Key}
use Rattle.line_order.specs.declared.Key.TheVariants.{Format, Actions, Variables, Variable, Automata, Sync, Locations, Init, Inv, Edges, Edge, Compose, End}
use Rattle.line_order.specs.declared.Due.{Due}
use Rattle.line_order.specs.declared.Counts.{Counts}
use Rattle.line_order.specs.Due.{if_none, due_first, due_variables, due_automata, due_after_key, due_after, keys_due, code_of, number_of, is_inside, Begun}
use Rattle.line_order.specs.Counts.{most_count, add_up_to, counts_none, counts_after, nodes_of, Counted, Room, Paced}
use Rattle.line_order.proofs.DueLaws.{due_key}

-- the sum, as the code makes it
pub add_fits : (x y : ℕ) → x + y ≤ most_count → add_up_to x y ≡ x + y
unfolding add_up_to
add_fits x y h = rw (le-leb (x + y) most_count h)

pub add_stops : (x y : ℕ) → most_count < x + y → add_up_to x y ≡ most_count
unfolding add_up_to
add_stops x y h = rw (lt-leb (x + y) most_count h)

add_most : (x y : ℕ) → add_up_to x y ≤ x + y
unfolding add_up_to
add_most x y = go (leb (x + y) most_count) refl
  where
    go : (b : Bool) → leb (x + y) most_count ≡ b → cond b (x + y) most_count ≤ x + y
    go true h = omega arith
    go false h = omega (arith, leb-false (x + y) most_count h)

-- Each count grows by at most one with a line, so there is room while few lines have been read.
pub paced_first : Paced 0 counts_none
paced_first = record { variables = omega arith; automata = omega arith; locations = omega arith; edges = omega arith }

pub paced_more : (n m : ℕ) (c : Counts) → n ≤ m → Paced n c → Paced m c
paced_more n m c l h = record { variables = omega arith; automata = omega arith; locations = omega arith; edges = omega arith }

pub paced_after : (n : ℕ) (c : Counts) (k : Key) (m p : ℕ) → Paced n c → Paced (n + 1) (counts_after c k m p)
unfolding counts_after
paced_after n c Format m p h = record { variables = omega arith; automata = omega arith; locations = omega arith; edges = omega arith }
paced_after n c Actions m p h = record { variables = omega arith; automata = omega arith; locations = omega arith; edges = omega arith }
paced_after n c Variables m p h = paced_more n (n + 1) c (omega arith) h
paced_after n c Variable m p h = record { variables = omega (arith, add_most c.variables 1); automata = omega arith; locations = omega arith; edges = omega arith }
paced_after n c Automata m p h = paced_more n (n + 1) c (omega arith) h
paced_after n c Sync m p h = record { variables = omega arith; automata = omega (arith, add_most c.automata 1); locations = omega arith; edges = omega arith }
paced_after n c Locations m p h = paced_more n (n + 1) c (omega arith) h
paced_after n c Init m p h = record { variables = omega arith; automata = omega arith; locations = omega arith; edges = omega arith }
paced_after n c Inv m p h = record { variables = omega arith; automata = omega arith; locations = omega (arith, add_most c.locations 1); edges = omega arith }
paced_after n c Edges m p h = paced_more n (n + 1) c (omega arith) h
paced_after n c Edge m p h = record { variables = omega arith; automata = omega arith; locations = omega arith; edges = omega (arith, add_most c.edges 1) }
paced_after n c Compose m p h = record { variables = omega arith; automata = omega arith; locations = omega arith; edges = omega arith }
paced_after n c End m p h = paced_more n (n + 1) c (omega arith) h

pub paced_room : (n : ℕ) (c : Counts) (p : ℕ) → n < most_count → c.nodes + p ≤ most_count → Paced n c → Room c p
paced_room n c p l q h = record { variables = omega arith; automata = omega arith; locations = omega arith; edges = omega arith; nodes = q }

-- the automaton that is being read
module _ (f : Automaton → Automaton) where
  last_on_last : (xs : List Automaton) → 1 ≤ length xs → last_of (on_last f xs) ≡ f (last_of xs)
  unfolding on_last last_of
  last_on_last [] h = absurd (omega arith)
  last_on_last (x ∷ []) h = refl
  last_on_last (x ∷ y ∷ []) h = refl
  last_on_last (x ∷ y ∷ z ∷ xs) h = last_on_last (y ∷ z ∷ xs) (omega arith)

  -- f adds n edges
  edges_on_last : (n : ℕ) → ((x : Automaton) → length (f x).edges ≡ length x.edges + n) → (xs : List Automaton) → 1 ≤ length xs → edge_total (on_last f xs) ≡ edge_total xs + n
  unfolding on_last edge_total
  edges_on_last n g [] h = absurd (omega arith)
  edges_on_last n g (x ∷ []) h = omega (arith, g x)
  edges_on_last n g (x ∷ y ∷ xs) h = omega (arith, edges_on_last n g (y ∷ xs) (omega arith))

edges_begun : (xs : List Automaton) (x : Automaton) → length x.edges ≡ 0 → edge_total (xs ++ x ∷ []) ≡ edge_total xs
unfolding edge_total
edges_begun [] x h = omega arith
edges_begun (y ∷ xs) x h = omega (arith, edges_begun xs x h)

pub counted_first : Counted at_first counts_none
unfolding at_first variable_count location_count last_of edge_total
counted_first = record { format = refl; actions = refl; variables = refl; automata = refl; locations = refl; edges = refl; nodes = refl }

pub counted_after : (r : Reading) (c : Counts) (e : Entry) → Counted r c → Room c (nodes_of e) → (is_inside (code_of (key_of e)) ≡ true → 1 ≤ length r.model.automata) → Counted (noted r e) (counts_after c (code_of (key_of e)) (number_of e) (nodes_of e))
unfolding noted with_model with_automata with_pred with_nodes variable_count location_count key_of code_of number_of nodes_of counts_after is_inside add_location add_edge
counted_after r c (format_line n) h room begun = record { format = refl; actions = h.actions; variables = h.variables; automata = h.automata; locations = h.locations; edges = h.edges; nodes = h.nodes }
counted_after r c (actions_line n) h room begun = record { format = h.format; actions = refl; variables = h.variables; automata = h.automata; locations = h.locations; edges = h.edges; nodes = h.nodes }
counted_after r c (variables_line n) h room begun = h
counted_after r c (variable_line x o) h room begun =
    record {
      format = h.format;
      actions = h.actions;
      variables = add_fits c.variables 1 room.variables ∙ omega (arith, h.variables, length-append r.model.variables (x ∷ []));
      automata = h.automata;
      locations = h.locations;
      edges = h.edges;
      nodes = h.nodes;
    }
counted_after r c (automata_line n) h room begun = h
counted_after r c (sync_line list) h room begun =
    let x : Automaton = record { sync = list; locations = []; edges = [] } in
    record {
      format = h.format;
      actions = h.actions;
      variables = h.variables;
      automata = add_fits c.automata 1 room.automata ∙ omega (arith, h.automata, length-append r.model.automata (x ∷ []));
      locations = ap (λ (y : Automaton). length y.locations) (sym (last_is r.model.automata x));
      edges = h.edges ∙ sym (edges_begun r.model.automata x refl);
      nodes = h.nodes;
    }
counted_after r c (locations_line n) h room begun = h
counted_after r c (init_line p) h room begun =
    record {
      format = h.format;
      actions = h.actions;
      variables = h.variables;
      automata = h.automata;
      locations = h.locations;
      edges = h.edges;
      nodes = add_fits c.nodes (node_count p) room.nodes ∙ ap (λ (n : ℕ). n + node_count p) h.nodes;
    }
counted_after r c (inv_line p) h room begun =
    let l : Location = record { init = r.latest; inv = p } in
    record {
      format = h.format;
      actions = h.actions;
      variables = h.variables;
      automata = h.automata ∙ sym (length_on_last (add_location l) r.model.automata);
      locations = add_fits c.locations 1 room.locations ∙ omega (arith, h.locations, length-append (last_of r.model.automata).locations (l ∷ [])) ∙ ap (λ (y : Automaton). length y.locations) (sym (last_on_last (add_location l) r.model.automata (begun refl)));
      edges = h.edges ∙ omega (arith, edges_on_last (add_location l) 0 (λ x. omega arith) r.model.automata (begun refl));
      nodes = add_fits c.nodes (node_count p) room.nodes ∙ ap (λ (n : ℕ). n + node_count p) h.nodes;
    }
counted_after r c (edges_line n) h room begun = h
counted_after r c (edge_line e) h room begun =
    record {
      format = h.format;
      actions = h.actions;
      variables = h.variables;
      automata = h.automata ∙ sym (length_on_last (add_edge e) r.model.automata);
      locations = h.locations ∙ ap (λ (y : Automaton). length y.locations) (sym (last_on_last (add_edge e) r.model.automata (begun refl)));
      edges = add_fits c.edges 1 room.edges ∙ omega (arith, h.edges, edges_on_last (add_edge e) 1 (λ x. length-append x.edges (e ∷ [])) r.model.automata (begun refl));
      nodes = add_fits c.nodes (node_count e.update) room.nodes ∙ ap (λ (n : ℕ). n + node_count e.update) h.nodes;
    }
counted_after r c (compose_line t) h room begun =
    record {
      format = h.format;
      actions = h.actions;
      variables = h.variables;
      automata = h.automata;
      locations = h.locations;
      edges = h.edges;
      nodes = add_fits c.nodes (start_nodes t) room.nodes ∙ ap (λ (n : ℕ). n + start_nodes t) h.nodes;
    }

-- an owner that is said behind a variable changes no count
pub counted_owner : (r : Reading) (c : Counts) (o : Option ℕ) → Counted r c → Counted (with_owner r o) c
unfolding with_owner with_model variable_count location_count
counted_owner r c o h = record { format = h.format; actions = h.actions; variables = h.variables; automata = h.automata; locations = h.locations; edges = h.edges; nodes = h.nodes }

-- Where a line inside an automaton is due, an automaton has been begun.
pub begun_first : Begun due_first at_first
unfolding is_inside
begun_first = record { begun = λ h. absurd (true≢false (sym h)) }

pub begun_at : (d : Due) (r : Reading) (e : Entry) (ks : List LineKey) → keys_due d ≡ key_of e ∷ ks → Begun d r → is_inside (code_of (key_of e)) ≡ true → 1 ≤ length r.model.automata
begun_at d r e ks h b i = b.begun (ap is_inside (due_key d (key_of e) ks h) ∙ i)

outside : (n : ℕ) (d f : Due) → is_inside d.key ≡ false → is_inside f.key ≡ false → is_inside (if_none n d f).key ≡ false
unfolding if_none
outside zero d f p q = p
outside (suc n) d f p q = q

neither : {A : Type 0} {b : Bool} → b ≡ false → b ≡ true → A
neither p q = absurd (true≢false (sym q ∙ p))

begun_next : (d : Due) (r : Reading) (e : Entry) → (is_inside (code_of (key_of e)) ≡ true → 1 ≤ length r.model.automata) → is_inside (due_after_key (code_of (key_of e)) d (number_of e)).key ≡ true → 1 ≤ length (noted r e).model.automata
unfolding due_after_key due_variables due_automata code_of key_of number_of is_inside noted with_model with_automata with_pred with_nodes
begun_next d r (format_line n) b i = neither refl i
begun_next d r (actions_line n) b i = neither refl i
begun_next d r (variables_line n) b i = neither (outside n _ _ refl refl) i
begun_next d r (variable_line x o) b i = neither (outside (d.variables - 1) _ _ refl refl) i
begun_next d r (automata_line n) b i = neither (outside n _ _ refl refl) i
begun_next d r (sync_line list) b i = simp length-append (omega arith)
begun_next d r (locations_line n) b i = b refl
begun_next d r (init_line p) b i = b refl
begun_next d r (inv_line p) b i = rw length_on_last (b refl)
begun_next d r (edges_line n) b i = b refl
begun_next d r (edge_line e) b i = rw length_on_last (b refl)
begun_next d r (compose_line c) b i = neither refl i

pub begun_after : (d : Due) (r : Reading) (e : Entry) (ks : List LineKey) → keys_due d ≡ key_of e ∷ ks → Begun d r → Begun (due_after d (number_of e)) (noted r e)
unfolding due_after
begun_after d r e ks h b =
    record {
      begun = λ i. begun_next d r e (begun_at d r e ks h b) (ap (λ (k : Key). is_inside (due_after_key k d (number_of e)).key) (sym (due_key d (key_of e) ks h)) ∙ i);
    }
