-- No predicate of a lawful model has more nodes than the evaluator is given.
use mathlib.Core.Path.{◌≡◌, ap}
use mathlib.Core.List.Memᴰ
use mathlib.Core.List.{List, [], ◌∷◌, map, Memᴰ}
use Prim.Native.Nat.{ℕ, ◌≤◌}
use native.Mathlib.Omega.{arith}
use Rattle.model.specs.Basic.{sum}
use Rattle.model.specs.Bounds.{max_nodes}
use Rattle.model.specs.Predicate.{node_count}
use Rattle.model.specs.Model.{Location, Edge, Automaton, Model}
use Rattle.model.specs.Lawful.{location_nodes, automaton_nodes, node_total, Lawful}

one_of_all : {A : Type 0} (count : A → ℕ) (xs : List A) (x : A) → Memᴰ x xs → count x ≤ sum (map count xs)
unfolding sum
one_of_all count [] x i = absurd (Memᴰ.not-nil i)
one_of_all count (y ∷ xs) x (Memᴰ.head e) = let c : count x ≡ count y = ap count e in omega arith
one_of_all count (y ∷ xs) x (Memᴰ.tail i) = let l = one_of_all count xs x i in omega arith

module _ (m : Model) (law : Lawful m) (x : Automaton) (i : Memᴰ x m.automata) where
  automaton_nodes_lem : automaton_nodes x ≤ max_nodes
  unfolding node_total
  automaton_nodes_lem = omega (arith, law.few_nodes, one_of_all automaton_nodes m.automata x i)

  location_nodes_lem : (l : Location) → Memᴰ l x.locations → location_nodes l ≤ max_nodes
  unfolding automaton_nodes
  location_nodes_lem l j = omega (arith, automaton_nodes_lem, one_of_all location_nodes x.locations l j)

  pub init_nodes : (l : Location) → Memᴰ l x.locations → node_count l.init ≤ max_nodes
  unfolding location_nodes
  init_nodes l j = omega (arith, location_nodes_lem l j)

  pub inv_nodes : (l : Location) → Memᴰ l x.locations → node_count l.inv ≤ max_nodes
  unfolding location_nodes
  inv_nodes l j = omega (arith, location_nodes_lem l j)

  pub update_nodes : (e : Edge) → Memᴰ e x.edges → node_count e.update ≤ max_nodes
  unfolding automaton_nodes
  update_nodes e j = omega (arith, automaton_nodes_lem, one_of_all (λ (d : Edge). node_count d.update) x.edges e j)
