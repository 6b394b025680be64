-- The walk over an automaton's edges, where their words stand: it stores the masks of the candidates, in file order.
use mathlib.Core.Path.{◌≡◌, refl, sym, ap, ◌∙◌}
use mathlib.Core.Bool.{Bool, true, false, ◌&&◌}
use mathlib.Core.List.{List, [], ◌∷◌, ◌++◌, append_assoc, append-nil, map, flat_map, Memᴰ}
use Prim.Native.Nat.{ℕ, suc, ◌+◌, ◌≤◌, ◌<◌}
use native.Mathlib.Omega.{arith}
use native.Mathlib.Numerals.{add-one}
use lib.ListN.{length, get_or, take, drop, set, length-set, length-map}
use lib.Seq.{take_at, take-suc-set}
use lib.Dec.{eqb}
use borrow.Author.Tests.{eqb-true, eqb-false, eq-eqb, ne_eqb}
use Rattle.model.specs.Basic.{keep, every}
use Rattle.model.specs.Limits.{in_range}
use Rattle.model.specs.Bounds.{max_edges}
use Rattle.model.specs.Predicate.{words, holds, node_count}
use Rattle.model.specs.Model.{Edge, Automaton, Model}
use Rattle.model.specs.Lines.{edge_line}
use Rattle.model.specs.Table.{code, line_words}
use Rattle.model.specs.Rules.{State, at}
use Rattle.model.specs.Moves.{under}
use Rattle.model.specs.Judge.{updated, led}
use Rattle.evaluator.specs.Evaluate.{evaluate}
use Rattle.table_places.specs.Outline.{nodes_place, after_predicate, update_place, first_edge}
use Rattle.table_places.proofs.OutlineLaws.{node_count_lem, nodes_stand, from_stands, action_stands, to_stands, update_stands, next_edge, edge_words}
use Rattle.judge_search.specs.Search.{is_candidate}
use Rattle.judge_search.specs.Masks.{rest_mask}
use Rattle.judge_candidates.specs.declared.edges.Leg.{Leg}
use Rattle.judge_candidates.specs.Walk.{Walk, walk, Kept, fits_at, rest_at, leg_of, takes_at, edge_on, edges_from, automaton_on}
use Rattle.judge_candidates.proofs.MaskLaws.{rest_mask_lem}
use Rattle.judge_candidates.proofs.WalkLaws.{edge_not, edge_taken}

-- what stands at the words of an edge
module _ (w rest : List ℕ) (e : Edge) (at : ℕ) (d : drop at w ≡ line_words (edge_line e) ++ rest) where
  -- its nodes
  update_nodes : drop (nodes_place w (update_place w at)) w ≡ map code (words e.update) ++ rest
  update_nodes = nodes_stand w (update_place w at) e.update rest (update_stands w rest e at d)

  -- so these are what the code finds there
  pub fits_edge : (leg : Leg) → fits_at w leg at ≡ ((eqb e.from leg.from && eqb e.action leg.action) && eqb e.to leg.to)
  unfolding fits_at
  fits_edge leg = rw (from_stands w rest e at d, action_stands w rest e at d, to_stands w rest e at d)

  pub rest_edge : every in_range (words e.update) ≡ true → rest_at w at ≡ rest_mask e
  unfolding rest_at node_count
  rest_edge ranged =
      let ws = words e.update in
      let n : get_or w (update_place w at) 0 ≡ length ws = node_count_lem w (update_place w at) e.update rest (update_stands w rest e at d) in
      rw (n, update_nodes, take_at (map code ws) rest (length ws) (simp length-map)) (rest_mask_lem e ranged)

eqb_swap : (a b : ℕ) → eqb a b ≡ eqb b a
eqb_swap a b = go (eqb b a) refl
  where
    go : (c : Bool) → eqb b a ≡ c → eqb a b ≡ eqb b a
    go true e = eq-eqb a b (sym (eqb-true b a e)) ∙ sym e
    go false e = ne_eqb a b (λ q. eqb-false b a e (sym q)) ∙ sym e

-- the four tests, in the code's order and in the definition's
four_tests : (f a t h : Bool) → (((f && a) && t) && h) ≡ (a && (h && (f && t)))
four_tests true true true true = refl
four_tests true true true false = refl
four_tests true true false true = refl
four_tests true true false false = refl
four_tests true false t h = refl
four_tests false true t true = refl
four_tests false true t false = refl
four_tests false false t h = refl

-- For a step from s to t under an action, automaton k's edges, in a table where each update's words say what it means.
module _ (w : List ℕ) (m : Model) (s : State) (a : ℕ) (t : State) (k : ℕ) where
  pub record Said (e : Edge) : Type 0 where
    pub means : (place : ℕ) (rest : List ℕ) → drop place w ≡ map code (words e.update) ++ rest
        → evaluate w s.values t.values place ≡ holds s.values t.values e.update
    pub ranged : every in_range (words e.update) ≡ true

  abbrev leg : Leg
  leg = leg_of s.locations t.locations a k

  -- an edge of the action that is a candidate
  abbrev is_offered : Edge → Bool
  is_offered e = eqb e.action a && is_candidate m s a t k e

  takes_edge : (rest : List ℕ) (e : Edge) (place : ℕ) → drop place w ≡ line_words (edge_line e) ++ rest → Said e
      → takes_at w s.values t.values leg place ≡ is_offered e
  unfolding takes_at leg_of is_candidate updated led
  takes_edge rest e place d said =
      rw (fits_edge w rest e place d leg, said.means (nodes_place w (update_place w place)) rest (update_nodes w rest e place d), eqb_swap e.from (at s k), eqb_swap e.to (at t k))
      (four_tests (eqb (at s k) e.from) (eqb e.action a) (eqb (at t k) e.to) (holds s.values t.values e.update))

  abbrev offered_of : List Edge → List Edge
  offered_of es = keep (is_candidate m s a t k) (under a es)

  offered_in : (e : Edge) (es : List Edge) → is_offered e ≡ true → offered_of (e ∷ es) ≡ e ∷ offered_of es
  unfolding under keep
  offered_in e es h = go (eqb e.action a) refl (is_candidate m s a t k e) refl h
    where
      go : (b : Bool) → eqb e.action a ≡ b → (c : Bool) → is_candidate m s a t k e ≡ c → (b && c) ≡ true → offered_of (e ∷ es) ≡ e ∷ offered_of es
      go true p true q h = rw (p, keep, q)
      go true p false q h = cc
      go false p c q h = cc

  offered_out : (e : Edge) (es : List Edge) → is_offered e ≡ false → offered_of (e ∷ es) ≡ offered_of es
  unfolding under keep
  offered_out e es h = go (eqb e.action a) refl (is_candidate m s a t k e) refl h
    where
      go : (b : Bool) → eqb e.action a ≡ b → (c : Bool) → is_candidate m s a t k e ≡ c → (b && c) ≡ false → offered_of (e ∷ es) ≡ offered_of es
      go true p true q h = cc
      go true p false q h = rw (p, keep, q)
      go false p c q h = rw (p, keep)

  -- from one walk to a later one, these masks were stored
  pub record Stored (found : List ℕ) (rest : List ℕ) (x y : Walk) : Type 0 where
    pub masks : take y.count y.masks ≡ take x.count x.masks ++ found
    pub count : y.count ≡ x.count + length found
    pub long : length y.masks ≡ length x.masks
    pub stands : drop y.next w ≡ rest

  abbrev on : Walk → Walk
  on = edge_on w s.values t.values leg

  abbrev from : ℕ → Walk → Walk
  from = edges_from w s.values t.values leg

  -- one edge more, before those of which it is known
  module _ (rest : List ℕ) (e : Edge) (es : List Edge) (x : Walk) (room : x.count + suc (length es) ≤ max_edges) (long : max_edges ≤ length x.masks)
      (said : Said e) (d : drop x.next w ≡ line_words (edge_line e) ++ (edge_words es ++ rest))
      (later : (y : Walk) → y.count + length es ≤ max_edges → max_edges ≤ length y.masks → drop y.next w ≡ edge_words es ++ rest
      → Stored (map rest_mask (offered_of es)) rest y (from (length es) y)) where
    abbrev next : ℕ
    next = after_predicate w (update_place w x.next)

    step_in : is_offered e ≡ true → Stored (map rest_mask (offered_of (e ∷ es))) rest x (from (length es) (on x))
    step_in h =
        let others = edge_words es ++ rest in
        let r = rest_mask e in
        let found = map rest_mask (offered_of es) in
        let c = x.count in
        let l : c < max_edges = omega arith in
        let y = walk (set x.masks c r) next (c + 1) in
        let is : y ≡ on x =
        edge_taken w s.values t.values leg x.masks x.next c (update_place w x.next) next refl refl l (is_offered e)
        (sym (takes_edge others e x.next d said)) h r (sym (rest_edge w others e x.next d said.ranged)) in
        let size : length (set x.masks c r) ≡ length x.masks = length-set x.masks c r in
        let z = later y (omega arith) (omega arith) (next_edge w others e x.next d) in
        let one : take (c + 1) (set x.masks c r) ≡ take c x.masks ++ (r ∷ []) = rw (add-one c) (take-suc-set x.masks c r (omega arith)) in
        rw (offered_in e es h, ← is)
        (record {
          masks = z.masks ∙ ap (λ (v : List ℕ). v ++ found) one ∙ append_assoc (take c x.masks) (r ∷ []) found;
          count = omega (arith, z.count);
          long = z.long ∙ size;
          stands = z.stands;
        })

    step_out : is_offered e ≡ false → Stored (map rest_mask (offered_of (e ∷ es))) rest x (from (length es) (on x))
    step_out h =
        let others = edge_words es ++ rest in
        let l : x.count < max_edges = omega arith in
        let y = walk x.masks next x.count in
        let is : y ≡ on x =
        edge_not w s.values t.values leg x.masks x.next x.count (update_place w x.next) next refl refl l (is_offered e)
        (sym (takes_edge others e x.next d said)) h in
        let z = later y (omega arith) long (next_edge w others e x.next d) in
        rw (offered_out e es h, ← is) (record { masks = z.masks; count = z.count; long = z.long; stands = z.stands })

    step_stored : Stored (map rest_mask (offered_of (e ∷ es))) rest x (from (length es) (on x))
    step_stored = go (is_offered e) refl
      where
        go : (b : Bool) → is_offered e ≡ b → Stored (map rest_mask (offered_of (e ∷ es))) rest x (from (length es) (on x))
        go true h = step_in h
        go false h = step_out h

  edges_stored : (rest : List ℕ) (es : List Edge) (x : Walk) → x.count + length es ≤ max_edges → max_edges ≤ length x.masks
      → ((e : Edge) → Memᴰ e es → Said e) → drop x.next w ≡ edge_words es ++ rest
      → Stored (map rest_mask (offered_of es)) rest x (from (length es) x)
  unfolding edges_from flat_map under keep
  edges_stored rest [] x room long said d =
      record { masks = sym (append-nil (take x.count x.masks)); count = omega arith; long = refl; stands = d }
  edges_stored rest (e ∷ es) x room long said d =
      step_stored rest e es x room long (said e (Memᴰ.head refl)) (d ∙ append_assoc (line_words (edge_line e)) (edge_words es) rest)
      (λ y r l f. edges_stored rest es y r l (λ v i. said v (Memᴰ.tail i)) f)

  -- the same between two automata
  pub record Added (found : List ℕ) (x y : Kept) : Type 0 where
    pub masks : take y.count y.masks ≡ take x.count x.masks ++ found
    pub count : y.count ≡ x.count + length found
    pub long : length y.masks ≡ length x.masks

  -- an automaton's edges, by the place of their number
  pub automaton_added : (rest : List ℕ) (x : Automaton) (place : ℕ) (g : Kept) → g.count + length x.edges ≤ max_edges → max_edges ≤ length g.masks
      → ((e : Edge) → Memᴰ e x.edges → Said e) → get_or w place 0 ≡ length x.edges → drop (first_edge w place) w ≡ edge_words x.edges ++ rest
      → Added (map rest_mask (offered_of x.edges)) g (automaton_on w s.values t.values leg place g)
  unfolding automaton_on
  automaton_added rest x place g room long said n d =
      let r = edges_stored rest x.edges (walk g.masks (first_edge w place) g.count) room long said d in
      rw n (record { masks = r.masks; count = r.count; long = r.long })
