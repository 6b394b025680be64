-- Each way out of the code of src/edges.rt.
use mathlib.Core.Path.{◌≡◌, refl, sym, ap, ◌∙◌}
use mathlib.Core.Bool.{Bool, true, false, ◌&&◌}
use mathlib.Core.List.{List}
use Prim.Native.Nat.{ℕ, zero, suc, ◌+◌, ◌-◌, ◌≤◌, ◌<◌}
use native.Mathlib.Omega.{arith}
use native.Mathlib.Nat.{sub-zero}
use lib.IntN.{ℤ}
use lib.ListN.{length, get_or, take, drop, set, length-set}
use lib.Dec.{eqb, ltb}
use borrow.Author.Tests.{lt-ltb, le-ltb}
use Rattle.model.specs.Bounds.{max_edges}
use Rattle.evaluator.specs.Evaluate.{evaluate}
use Rattle.table_places.specs.declared.layout.Layout.{Layout}
use Rattle.table_places.specs.Outline.{nodes_place, after_predicate, edge_from, edge_action, edge_to, update_place, first_edge}
use Rattle.table_places.specs.Layout.{automata_of}
use Rattle.table_writes.specs.Sets.{all_variables, rest_of}
use Rattle.judge_candidates.specs.declared.edges.Leg.{Leg}
use Rattle.judge_candidates.specs.Walk.{Walk, walk, Kept, kept, Gathering, gathering, fits_at, rest_at, leg_of, takes_at, edge_on, edges_from, automaton_on, automaton_next, automata_from, gather_from, masks_after, first_after}

-- `fits`
pub fits_is : (t : List ℕ) (leg : Leg) (at x y z : ℕ) → x ≡ edge_from t at → y ≡ edge_action t at → z ≡ edge_to t at
    → ((eqb x leg.from && eqb y leg.action) && eqb z leg.to) ≡ fits_at t leg at
unfolding fits_at
fits_is t leg at x y z f g h = rw (f, g, h)

-- `leg_of`
pub leg_is : (old new : List ℕ) (action k a b c : ℕ) → a ≡ get_or old k 0 → b ≡ action → c ≡ get_or new k 0
    → ◌≡◌ {A = Leg} (record { from = a; action = b; to = c }) (leg_of old new action k)
unfolding leg_of
leg_is old new action k a b c e f g = rw (e, f, g)

-- `rest_at`
pub rest_at_is : (t : List ℕ) (at a b n r : ℕ) → a ≡ update_place t at → n ≡ get_or t a 0 → b ≡ nodes_place t a
    → r ≡ rest_of all_variables (take n (drop b t)) → r ≡ rest_at t at
unfolding rest_at
rest_at_is t at a b n r e f g h = rw (h, f, g, e)

module _ (t : List ℕ) (before after : List ℤ) (leg : Leg) where
  -- `takes`
  module _ (at : ℕ) (f : Bool) (e : f ≡ fits_at t leg at) where
    pub takes_fits : f ≡ true → (a p : ℕ) → a ≡ update_place t at → p ≡ nodes_place t a → (r : Bool) → r ≡ evaluate t before after p → r ≡ takes_at t before after leg at
    unfolding takes_at
    takes_fits h a p j g r i = rw (sym e ∙ h, i, g, j)

    pub takes_not : f ≡ false → false ≡ takes_at t before after leg at
    unfolding takes_at
    takes_not h = rw (sym e ∙ h)

  -- `edge`
  module _ (masks : List ℕ) (at count a next : ℕ) (e : a ≡ update_place t at) (g : next ≡ after_predicate t a) where
    pub edge_full : max_edges ≤ count → walk masks next count ≡ edge_on t before after leg (walk masks at count)
    unfolding edge_on
    edge_full h = rw (le-ltb count max_edges h, edge_on, g, e)

    module _ (h : count < max_edges) (b : Bool) (i : b ≡ takes_at t before after leg at) where
      pub edge_not : b ≡ false → walk masks next count ≡ edge_on t before after leg (walk masks at count)
      unfolding edge_on
      edge_not j = rw (lt-ltb count max_edges h, sym i ∙ j, edge_on, g, e)

      pub edge_taken : b ≡ true → (r : ℕ) → r ≡ rest_at t at → walk (set masks count r) next (count + 1) ≡ edge_on t before after leg (walk masks at count)
      unfolding edge_on
      edge_taken j r k = rw (lt-ltb count max_edges h, sym i ∙ j, edge_on, g, e, k)

  -- `edges`: edge i of n is next, and the walk goes on to the same end
  pub edges_first : (n : ℕ) (w : Walk) → edges_from t before after leg (n - 0) w ≡ edges_from t before after leg n w
  edges_first n w = ap (λ (k : ℕ). edges_from t before after leg k w) (sub-zero n)

  module _ (n i : ℕ) (w whole : Walk) (inv : edges_from t before after leg (n - i) w ≡ whole) where
    pub edges_done : n ≤ i → w ≡ whole
    unfolding edges_from
    edges_done h =
        let z : n - i ≡ 0 = omega arith in
        rw z at inv

    pub edges_step : i < n → (v : Walk) → v ≡ edge_on t before after leg w → edges_from t before after leg (n - (i + 1)) v ≡ whole
    unfolding edges_from
    edges_step h v e =
        let z : n - i ≡ suc (n - (i + 1)) = omega arith in
        rw e (rw z at inv)

  -- `automaton`
  pub automaton_is : (masks : List ℕ) (place count n a : ℕ) → n ≡ get_or t place 0 → a ≡ first_edge t place
      → (after-masks : List ℕ) (next c : ℕ) → walk after-masks next c ≡ edges_from t before after leg n (walk masks a count)
      → kept after-masks c ≡ automaton_on t before after leg place (kept masks count)
  unfolding automaton_on
  automaton_is masks place count n a f g ms next c h = ap (λ (w : Walk). kept w.masks w.count) (rw (f, g) at h)

-- `gather`: k automata have been passed
module _ (t : List ℕ) (before after : List ℤ) (edges old new : List ℕ) (action : ℕ) where
  pub record Passing (whole : Gathering) (n k : ℕ) (g : Gathering) : Type 0 where
    pub goes : automata_from t before after edges old new action (n - k) k g ≡ whole

  pub passing_first : (masks first : List ℕ) (n : ℕ)
      → Passing (gather_from t before after edges old new action n masks first) n 0 (gathering (kept masks 0) first)
  unfolding gather_from
  passing_first masks first n = record { goes = rw (sub-zero n) }

  pub passing_next : (whole : Gathering) (n k count : ℕ) (masks first : List ℕ) → Passing whole n k (gathering (kept masks count) first) → k < n
      → (leg : Leg) → leg ≡ leg_of old new action k → (ms : List ℕ) (c : ℕ) → kept ms c ≡ automaton_on t before after leg (get_or edges k 0) (kept masks count)
      → Passing whole n (k + 1) (gathering (kept ms c) (set first (k + 1) c))
  unfolding automata_from automaton_next
  passing_next whole n k count masks first p h leg d ms c e =
      let z : n - k ≡ suc (n - (k + 1)) = omega arith in
      let same : kept ms c ≡ automaton_on t before after (leg_of old new action k) (get_or edges k 0) (kept masks count) = rw (← d) e in
      let next : Kept → Gathering = λ v. automata_from t before after edges old new action (n - (k + 1)) (k + 1) (gathering v (set first (k + 1) v.count)) in
      record { goes = let q = p.goes in ap next same ∙ rw z at q }

  pub passing_done : (whole : Gathering) (n k : ℕ) (g : Gathering) → Passing whole n k g → n ≤ k → g ≡ whole
  unfolding automata_from
  passing_done whole n k g p h = let z : n - k ≡ 0 = omega arith in rw z at p.goes

-- at the end the walk has all
module _ (t : List ℕ) (before after : List ℤ) (x : Layout) (old new : List ℕ) (action n k count : ℕ) (masks first masks₀ first₀ : List ℕ)
    (p : Passing t before after x.edges old new action
    (gather_from t before after x.edges old new action n masks₀ (set first₀ 0 0)) n k (gathering (kept masks count) first))
    (e : n ≡ automata_of x) (h : n ≤ k) where
  pub gather_masks : masks ≡ masks_after t before after x old new action masks₀ first₀
  unfolding masks_after
  gather_masks =
      ap (λ (g : Gathering). g.on.masks) (passing_done t before after x.edges old new action _ n k _ p h) ∙
      ap (λ (i : ℕ). (gather_from t before after x.edges old new action i masks₀ (set first₀ 0 0)).on.masks) e

  pub gather_first : first ≡ first_after t before after x old new action masks₀ first₀
  unfolding first_after
  gather_first =
      ap (λ (g : Gathering). g.first) (passing_done t before after x.edges old new action _ n k _ p h) ∙
      ap (λ (i : ℕ). (gather_from t before after x.edges old new action i masks₀ (set first₀ 0 0)).first) e

-- the lists stay as long as they are
module _ (t : List ℕ) (before after : List ℤ) where
  edge_long : (leg : Leg) (w : Walk) → length (edge_on t before after leg w).masks ≡ length w.masks
  unfolding edge_on
  edge_long leg w = go (ltb w.count max_edges && takes_at t before after leg w.next) refl
    where
      go : (b : Bool) → (ltb w.count max_edges && takes_at t before after leg w.next) ≡ b → length (edge_on t before after leg w).masks ≡ length w.masks
      go true e = rw (e, edge_on) (length-set w.masks w.count (rest_at t w.next))
      go false e = rw (e, edge_on)

  edges_long : (leg : Leg) (left : ℕ) (w : Walk) → length (edges_from t before after leg left w).masks ≡ length w.masks
  unfolding edges_from
  edges_long leg zero w = refl
  edges_long leg (suc n) w = edges_long leg n (edge_on t before after leg w) ∙ edge_long leg w

  module _ (edges old new : List ℕ) (action : ℕ) where
    automata_long : (left k : ℕ) (g : Gathering) → length (automata_from t before after edges old new action left k g).on.masks ≡ length g.on.masks
    unfolding automata_from automaton_next automaton_on
    automata_long zero k g = refl
    automata_long (suc n) k g =
        let place = get_or edges k 0 in
        automata_long n (k + 1) (automaton_next t before after edges old new action k g) ∙
        edges_long (leg_of old new action k) (get_or t place 0) (walk g.on.masks (first_edge t place) g.on.count)

    automata_first_long : (left k : ℕ) (g : Gathering) → length (automata_from t before after edges old new action left k g).first ≡ length g.first
    unfolding automata_from automaton_next
    automata_first_long zero k g = refl
    automata_first_long (suc n) k g =
        let h = automaton_next t before after edges old new action k g in
        automata_first_long n (k + 1) h ∙ length-set g.first (k + 1) h.on.count

  module _ (x : Layout) (old new : List ℕ) (action : ℕ) where
    pub masks_long : (masks first : List ℕ) → length (masks_after t before after x old new action masks first) ≡ length masks
    unfolding masks_after gather_from
    masks_long masks first = automata_long x.edges old new action (automata_of x) 0 (gathering (kept masks 0) (set first 0 0))

    pub first_long : (masks first : List ℕ) → length (first_after t before after x old new action masks first) ≡ length first
    unfolding first_after gather_from
    first_long masks first = automata_first_long x.edges old new action (automata_of x) 0 (gathering (kept masks 0) (set first 0 0)) ∙ length-set first 0 0

pub ruleset walk_laws = (
  fits_is,
  leg_is,
  rest_at_is,
  takes_fits,
  takes_not,
  edge_full,
  edge_not,
  edge_taken,
  edges_first,
  edges_done,
  edges_step,
  automaton_is,
  passing_first,
  passing_next,
  gather_masks,
  gather_first,
)
