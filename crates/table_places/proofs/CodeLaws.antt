-- Each way out of the code of src/lib.rt and src/parts.rt.
use mathlib.Core.Path.{◌≡◌, refl, sym, ap, ◌∙◌}
use mathlib.Core.List.{List}
use Prim.Native.Nat.{ℕ, suc, ◌+◌, ◌-◌, ◌≤◌, ◌<◌}
use native.Mathlib.Omega.{arith}
use lib.ListN.{length, get_or}
use borrow.Author.Tests.{le-leb, lt-leb}
use Rattle.table_places.specs.AtMost.{at_most}
use Rattle.table_places.specs.Outline.{reach, nodes_place, after_predicate, owner_at, edge_from, edge_action, edge_to, update_place, set_low, set_high, location_count, first_location, first_edge, location_at, edge_at, edges_at, after_automaton, actions_in, variables_in, range_at, low_at, high_at, count_at, automata_in, first_automaton}

-- `at_most`
module _ (most n : ℕ) where
  pub at_most_all : n ≤ most → n ≡ at_most most n
  unfolding at_most
  at_most_all h = rw (le-leb n most h, at_most)

  pub at_most_cut : most < n → most ≡ at_most most n
  unfolding at_most
  at_most_cut h = rw (lt-leb n most h, at_most)

-- `step`
module _ (t : List ℕ) (at n : ℕ) where
  pub step_short : at ≤ length t → length t - at < n → length t ≡ reach t at n
  unfolding reach
  step_short h l = rw (lt-leb (at + n) (length t) (omega arith), reach)

-- the parts of a sheet
module _ (t : List ℕ) (r : ℕ) where
  pub actions_is : r ≡ get_or t 1 0 → r ≡ actions_in t
  unfolding actions_in
  actions_is e = e

  pub variables_is : r ≡ get_or t 2 0 → r ≡ variables_in t
  unfolding variables_in
  variables_is e = e

  pub automata_is : (c : ℕ) → c ≡ count_at t → r ≡ get_or t c 0 → r ≡ automata_in t
  unfolding automata_in
  automata_is c e f = rw (f, e)

  pub first_automaton_is : (c : ℕ) → c ≡ count_at t → r ≡ reach t c 1 → r ≡ first_automaton t
  unfolding first_automaton
  first_automaton_is c e f = rw (f, e)

  pub range_is : (k a b c : ℕ) → a ≡ reach t 0 3 → b ≡ reach t a k → c ≡ reach t b k → r ≡ reach t c k → r ≡ range_at t k
  unfolding range_at
  range_is k a b c e f g h = rw (h, g, f, e)

  module _ (at : ℕ) where
    module _ (e : r ≡ get_or t at 0) where
      pub low_is : r ≡ low_at t at
      unfolding low_at
      low_is = e

      pub set_low_is : r ≡ set_low t at
      unfolding set_low
      set_low_is = e

      pub edge_from_is : r ≡ edge_from t at
      unfolding edge_from
      edge_from_is = e

    module _ (a : ℕ) (f : a ≡ reach t at 1) (e : r ≡ get_or t a 0) where
      pub high_is : r ≡ high_at t at
      unfolding high_at
      high_is = rw (e, f)

      pub set_high_is : r ≡ set_high t at
      unfolding set_high
      set_high_is = rw (e, f)

      pub edge_action_is : r ≡ edge_action t at
      unfolding edge_action
      edge_action_is = rw (e, f)

    module _ (a : ℕ) (f : a ≡ reach t at 2) (e : r ≡ get_or t a 0) where
      pub owner_is : r ≡ owner_at t at
      unfolding owner_at
      owner_is = rw (e, f)

      pub location_count_is : r ≡ location_count t at
      unfolding location_count
      location_count_is = rw (e, f)

      pub edge_to_is : r ≡ edge_to t at
      unfolding edge_to
      edge_to_is = rw (e, f)

    pub first_edge_is : r ≡ reach t at 1 → r ≡ first_edge t at
    unfolding first_edge
    first_edge_is e = e

    pub nodes_is : r ≡ reach t at 1 → r ≡ nodes_place t at
    unfolding nodes_place
    nodes_is e = e

    pub first_location_is : r ≡ reach t at 3 → r ≡ first_location t at
    unfolding first_location
    first_location_is e = e

    pub update_is : r ≡ reach t at 3 → r ≡ update_place t at
    unfolding update_place
    update_is e = e

pub ruleset part_laws = (actions_is, variables_is, automata_is, first_automaton_is, range_is, low_is, set_low_is, edge_from_is, high_is, owner_is, set_high_is, edge_action_is, location_count_is, edge_to_is, first_edge_is, nodes_is, first_location_is, update_is)

-- A walk of so many steps, as a loop makes it: after one of them it goes on to the same end.
module _ (walk : (at k : ℕ) → ℕ) (step : ℕ → ℕ) (later : (at k : ℕ) → walk at (suc k) ≡ walk (step at) k) (next left whole : ℕ) (inv : walk next left ≡ whole) where
  pub one_on : (rest : ℕ) → left ≡ suc rest → (b : ℕ) → b ≡ step next → walk b rest ≡ whole
  one_on rest y b e = rw e (sym (later next rest) ∙ (rw y at inv))

-- `location_at`
module _ (t : List ℕ) (next left whole : ℕ) (inv : location_at t next left ≡ whole) where
  pub location_done : left ≡ 0 → next ≡ whole
  unfolding location_at
  location_done z = rw z at inv

  pub location_step : (rest : ℕ) → left ≡ suc rest → (a b : ℕ) → a ≡ after_predicate t next → b ≡ after_predicate t a → location_at t b rest ≡ whole
  unfolding location_at
  location_step rest y a b e f = one_on (location_at t) (λ at. after_predicate t (after_predicate t at)) (λ at k. refl) next left whole inv rest y b (f ∙ ap (after_predicate t) e)

pub ruleset location_laws = (location_done, location_step)

-- `edge_at`
module _ (t : List ℕ) (next left whole : ℕ) (inv : edge_at t next left ≡ whole) where
  pub edge_done : left ≡ 0 → next ≡ whole
  unfolding edge_at
  edge_done z = rw z at inv

  pub edge_step : (rest : ℕ) → left ≡ suc rest → (a b : ℕ) → a ≡ update_place t next → b ≡ after_predicate t a → edge_at t b rest ≡ whole
  unfolding edge_at
  edge_step rest y a b e f = one_on (edge_at t) (λ at. after_predicate t (update_place t at)) (λ at k. refl) next left whole inv rest y b (f ∙ ap (after_predicate t) e)

pub ruleset edge_laws = (edge_done, edge_step)

-- past an automaton, by the place of its edges
pub automaton_is : (t : List ℕ) (at p a n r : ℕ) → p ≡ edges_at t at → a ≡ first_edge t p → n ≡ get_or t p 0 → r ≡ edge_at t a n → r ≡ after_automaton t at
unfolding after_automaton
automaton_is t at p a n r e f g h = rw (h, f, g, e)
