-- What the merged sheet allows is what it allows with repeats: the same edges are there.
use mathlib.Core.Path.{◌≡◌, refl, sym, ap, ◌∙◌}
use mathlib.Core.Bool.{Bool, false}
use mathlib.Core.List.{List, map, map-map, Memᴰ}
use mathlib.Core.Option.{none}
use Prim.Native.Nat.{ℕ, zero, suc}
use native.Mathlib.Omega.{arith}
use borrow.Author.Tests.{ltb-false, le-ltb}
use lib.IntN.{ℤ}
use Rattle.model.specs.Basic.{exists, sum}
use Rattle.model.specs.Bounds.{max_edges, max_nodes}
use Rattle.model.specs.Predicate.{node_count}
use Rattle.model.specs.Composition.{Tree, par, syn, ini, leaf}
use Rattle.model.specs.Model.{Model, Edge, in_set}
use Rattle.model.specs.Limits.{is_too_deep, broken}
use Rattle.model.specs.Lawful.{Lawful}
use Rattle.model.specs.Rules.{State, Taker, Takes, Still, Rests, rule_1, rule_2, rule_3, rule_4_left, rule_4_right, rule_5, rule_6, rule_7, ini_rests, ini_moves, Moves, Step, Environment}
use Rattle.model.specs.Equal.{same_edge}
use Rattle.model.specs.Linear.{sheet_with, linear, edges_with_repeats, merged_edges, merged_count, merged_preds, row31, row32, row33, row34, merge_fault}
use Rattle.model.specs.Repeats.{linear_with_repeats, count_with_repeats, preds_with_repeats, row32_with_repeats, row33_with_repeats, row34_with_repeats, fault_with_repeats}
use Rattle.model.proofs.Once.{once_in, once_out, exists_once, length_once, sum_once}
use Rattle.model.proofs.Tests.{exists_map}
use Rattle.model.proofs.EqualLaws.{same_edge_is}
use Rattle.model.proofs.Count.{repeats_counted}
use Rattle.model.proofs.Distinct.{count_is}
use Rattle.model.proofs.Decode.{unbroken}
use Rattle.theorem_runs.specs.AsBefore.{AsBefore}

-- The merged sheet with edges that are all among others allows no more than with those.
module _ (m : Model) (es fs : List Edge) (among : (e : Edge) → Memᴰ e es → Memᴰ e fs) where
  abbrev one : Model
  one = sheet_with m es

  abbrev other : Model
  other = sheet_with m fs

  set_same : (a : ℕ) (c : Tree) → in_set one a c ≡ in_set other a c
  unfolding in_set
  set_same a (par c d) = rw (set_same a c, set_same a d)
  set_same a (syn list c) = rw (set_same a c)
  set_same a (ini p c) = set_same a c
  set_same a (leaf zero) = refl
  set_same a (leaf (suc k)) = refl

  takes_too : (s : State) (a : ℕ) (t : State) (k : ℕ) (e : Edge) → Takes one s a t k e → Takes other s a t k e
  takes_too s a t zero e h = record { listed = among e h.listed; action = h.action; from = h.from; to = h.to; init = h.init; inv = h.inv; inv' = h.inv'; update = h.update }
  takes_too s a t (suc k) e h = record { listed = h.listed; action = h.action; from = h.from; to = h.to; init = h.init; inv = h.inv; inv' = h.inv'; update = h.update }

  still_too : (s t : State) (k : ℕ) → Still one s t k → Still other s t k
  still_too s t zero h = record { stays = h.stays; init = h.init; inv = h.inv; inv' = h.inv' }
  still_too s t (suc k) h = record { stays = h.stays; init = h.init; inv = h.inv; inv' = h.inv' }

  rests_too : {s t : State} {c : Tree} → Rests one s t c → Rests other s t c
  rests_too {s} {t} (rule_2 {k = k} h) = rule_2 (still_too s t k h)
  rests_too (rule_5 g h) = rule_5 (rests_too g) (rests_too h)
  rests_too (rule_7 h) = rule_7 (rests_too h)
  rests_too (ini_rests g h) = ini_rests g (rests_too h)

  moves_too : {s : State} {a : ℕ} {t : State} {c : Tree} {x : List Taker} → Moves one s a t c x → Moves other s a t c x
  moves_too {s} {a} {t} (rule_1 {k = k} {e = e} h) = rule_1 (takes_too s a t k e h)
  moves_too {a = a} (rule_3 {c = c} {d = d} p q g h) = rule_3 (sym (set_same a c) ∙ p) (sym (set_same a d) ∙ q) (moves_too g) (moves_too h)
  moves_too {a = a} (rule_4_left {d = d} g r q) = rule_4_left (moves_too g) (rests_too r) (sym (set_same a d) ∙ q)
  moves_too {a = a} (rule_4_right {c = c} r h q) = rule_4_right (rests_too r) (moves_too h) (sym (set_same a c) ∙ q)
  moves_too (rule_6 h) = rule_6 (moves_too h)
  moves_too (ini_moves g h) = ini_moves g (moves_too h)

  steps_too : (s : State) (a : ℕ) (t : State) (mark : Bool) → Step one s a t mark → Step other s a t mark
  steps_too s a t mark q = record { takers = q.takers; moves = moves_too q.moves; ended = q.ended; frame = q.frame; marked = q.marked ∙ set_same a (leaf 0) }

  environments_too : (s : State) (values : List ℤ) → Environment one s values → Environment other s values
  environments_too s values h = record { still = rests_too h.still; owned = h.owned }

module _ (m : Model) (lawful : Lawful m) where
  repeated : (e : Edge) → Memᴰ e (merged_edges m) → Memᴰ e (edges_with_repeats m)
  unfolding merged_edges
  repeated e i = once_out same_edge (edges_with_repeats m) i

  listed_once : (e : Edge) → Memᴰ e (edges_with_repeats m) → Memᴰ e (merged_edges m)
  unfolding merged_edges
  listed_once e i = once_in same_edge same_edge_is (edges_with_repeats m) i

  -- with repeats there are no fewer edges and no fewer nodes, and the same depths
  few_edges : row32_with_repeats m ≡ false → row32 m ≡ false
  unfolding row32 merged_edges row32_with_repeats
  few_edges h = let n = ltb-false max_edges (count_with_repeats m) h in let l = length_once same_edge (edges_with_repeats m) in le-ltb max_edges (merged_count m) (omega (arith, count_is m lawful, repeats_counted m))

  same_depths : row33 m ≡ row33_with_repeats m
  unfolding row33 merged_preds merged_edges row33_with_repeats preds_with_repeats exists
  same_depths = rw (exists_map is_too_deep (λ (e : Edge). e.update) (merged_edges m), exists_map is_too_deep (λ (e : Edge). e.update) (edges_with_repeats m), exists_once same_edge same_edge_is (λ (e : Edge). is_too_deep e.update) (edges_with_repeats m))

  few_nodes : row34_with_repeats m ≡ false → row34 m ≡ false
  unfolding row34 merged_preds merged_edges row34_with_repeats preds_with_repeats sum
  few_nodes h =
      let n = ltb-false max_nodes (sum (map node_count (preds_with_repeats m))) h in
      let l = sum_once same_edge (λ (e : Edge). node_count e.update) (edges_with_repeats m) in
      let e = ap sum (map-map node_count (λ (e : Edge). e.update) (merged_edges m)) in
      let f = ap sum (map-map node_count (λ (e : Edge). e.update) (edges_with_repeats m)) in
      le-ltb max_nodes (sum (map node_count (merged_preds m))) (omega arith)

  merges_now : fault_with_repeats m ≡ none → merge_fault m ≡ none
  unfolding fault_with_repeats merge_fault broken
  merges_now h =
      let r31 = unbroken 31 (row31 m) _ h in
      let r32 = unbroken 32 (row32_with_repeats m) _ r31.1 in
      let r33 = unbroken 33 (row33_with_repeats m) _ r32.1 in
      let r34 = unbroken 34 (row34_with_repeats m) _ r33.1 in
      rw (r31.0, broken, few_edges r32.0, broken, same_depths ∙ r33.0, broken, few_nodes r34.0, broken)

-- so equal edges standing once changes nothing that the oven can do
pub as_before : (m : Model) → Lawful m → AsBefore m
unfolding linear linear_with_repeats
as_before m lawful = record {
  merges = merges_now m lawful;
  steps = λ s a t mark. (steps_too m (edges_with_repeats m) (merged_edges m) (listed_once m lawful) s a t mark, steps_too m (merged_edges m) (edges_with_repeats m) (repeated m lawful) s a t mark);
  environments = λ s values. (environments_too m (edges_with_repeats m) (merged_edges m) (listed_once m lawful) s values, environments_too m (merged_edges m) (edges_with_repeats m) (repeated m lawful) s values);
}
