-- The moves at a point: a composition at a state and its merged automaton beside it can do the same.
use Prim.Native.Nat.{ℕ, zero, suc, ◌+◌, ◌≤◌, ◌<◌}
use mathlib.Core.Path.{◌≡◌, refl, sym, ap, ◌∙◌, subst}
use mathlib.Core.Bool.{Bool, true, false}
use mathlib.Core.List.Memᴰ
use mathlib.Core.List.{List, ◌++◌, map, flat_map, Memᴰ}
use mathlib.Core.Logic.{◌↔◌, ◌⊎◌, inl, inr}
use native.Mathlib.Omega.{arith}
use lib.IntN.{ℤ, pos}
use lib.ListN.{length, take, take-append-drop}
use lib.Seq.{drop_at, length-take-le}
use Rattle.model.specs.Basic.{count_up}
use Rattle.model.specs.Composition.{Tree}
use Rattle.model.specs.Model.{Model, Edge, automaton}
use Rattle.model.specs.Lawful.{Lawful}
use Rattle.model.specs.Rules.{State, changed, Taker, Moves, rule_1, rule_3, rule_4_left, rule_4_right, rule_6, ini_moves, Step, Environment}
use Rattle.model.specs.Moves.{moves}
use Rattle.model.specs.Equal.{same_edge}
use Rattle.model.specs.Linear.{linear, merged_edge, edges_with_repeats, merged_edges}
use Rattle.model.proofs.Once.{once_out}
use Rattle.model.specs.Judge.{has_values, row22}
use Rattle.model.specs.Runs.{IsState, beside}
use Rattle.model.proofs.Alike.{right_21}
use Rattle.model.proofs.Tests.{of_eq}
use Rattle.model.proofs.Merged.{shaped, automaton_at_lem, steps_alike, environments_alike}
use Rattle.theorem_runs.specs.Demand.{IsPlace, pointers_in, MovesAlike}
use Rattle.theorem_runs.proofs.Beside.{beside_state, state_of, values_count, beside_of}

-- every edge's action is at most `last`, so every step's is
abbrev Bounded : Model → ℕ → Type 0
Bounded m last = (k : ℕ) (e : Edge) → Memᴰ e (automaton m k).edges → e.action ≤ last

moves_bounded : (m : Model) (last : ℕ) → Bounded m last → (s : State) (a : ℕ) (t : State) {c : Tree} {x : List Taker} → Moves m s a t c x → a ≤ last
moves_bounded m last h s a t (rule_1 {k = k} {e = e} p) = subst (λ (b : ℕ). b ≤ last) p.action (h k e p.listed)
moves_bounded m last h s a t (rule_3 i j p q) = moves_bounded m last h s a t p
moves_bounded m last h s a t (rule_4_left p r i) = moves_bounded m last h s a t p
moves_bounded m last h s a t (rule_4_right r p i) = moves_bounded m last h s a t p
moves_bounded m last h s a t (rule_6 p) = moves_bounded m last h s a t p
moves_bounded m last h s a t (ini_moves i p) = moves_bounded m last h s a t p

-- row 12: of a lawful model no edge's action is above A
lawful_bounded : (m : Model) → Lawful m → Bounded m m.actions
lawful_bounded m lawful k e =
    automaton_at_lem m lawful (λ x. Memᴰ e x.edges → e.action ≤ m.actions) (λ i. absurd (Memᴰ.not-nil i)) (λ x h i. (h.edges e i).action) k

-- and the merged edges are made for the actions 0 to A
module _ (m : Model) where
  abbrev edges_of : ℕ → List Edge
  edges_of a = map (merged_edge m a) (moves m a m.tree)

  edges_bounded : (n count : ℕ) (e : Edge) → Memᴰ e (flat_map edges_of (count_up n count)) → e.action < n + count
  unfolding flat_map count_up merged_edge
  edges_bounded n zero e h = absurd (Memᴰ.not-nil h)
  edges_bounded n (suc count) e h = go (λ k. edges_bounded (suc n) count e k) (Memᴰ.append_cases (edges_of n) h)
    where
      go : (Memᴰ e (flat_map edges_of (count_up (suc n) count)) → e.action < suc n + count)
          → Memᴰ e (edges_of n) ⊎ Memᴰ e (flat_map edges_of (count_up (suc n) count)) → e.action < n + suc count
      go ih (inl k) =
          let r = Memᴰ.of_map (merged_edge m n) (moves m n m.tree) k in
          let q : n ≡ e.action = ap (λ (x : Edge). x.action) r.2 in
          omega arith
      go ih (inr k) = let l = ih k in omega arith

  linear_bounded : Bounded (linear m) m.actions
  unfolding linear merged_edges edges_with_repeats
  linear_bounded zero e h = let l = edges_bounded 0 (suc m.actions) e (once_out same_edge _ h) in omega arith
  linear_bounded (suc k) e h = absurd (Memᴰ.not-nil h)

-- the pointers beside a state name its locations
pointers_beside : (m : Model) (s : State) (values : List ℤ) → length values ≡ length m.variables → pointers_in m (values ++ map pos s.locations) ≡ map pos s.locations
unfolding pointers_in
pointers_beside m s values l = drop_at values _ _ l

-- an environment step keeps the locations, so the sheet's shape is the new values' length
changed_22 : (m : Model) (s : State) (values : List ℤ) → IsState m s → row22 m (changed s values) ≡ false
unfolding row22
changed_22 m s values g = g.no_22

module _ (m : Model) (lawful : Lawful m) (s : State) (g : IsState m s) where
  same_steps : (a : ℕ) (t : State) (mark : Bool) → IsPlace m t → Step m s a t mark ↔ Step (linear m) (beside s) a (beside t) mark
  same_steps a t mark p = (λ q. (alike (bounded q)).0 q, λ q. (alike (bounded' q)).1 q)
    where
      alike : a ≤ m.actions → Step m s a t mark ↔ Step (linear m) (beside s) a (beside t) mark
      alike l = steps_alike m lawful s t g.no_21 g.no_22 p.no_21 p.no_22 a l mark

      bounded : Step m s a t mark → a ≤ m.actions
      bounded q = moves_bounded m m.actions (lawful_bounded m lawful) s a t q.moves

      bounded' : Step (linear m) (beside s) a (beside t) mark → a ≤ m.actions
      bounded' q = moves_bounded (linear m) m.actions (linear_bounded m) (beside s) a (beside t) q.moves

  kept_pointers : pointers_in m (beside s).values ≡ map pos s.locations
  unfolding beside
  kept_pointers = pointers_beside m s s.values (shaped m s g.no_21 g.no_22).values_are

  same_environments : (values : List ℤ) → has_values m values ≡ true → Environment m s values ↔ Environment (linear m) (beside s) (values ++ pointers_in m (beside s).values)
  same_environments values e = rw kept_pointers (environments_alike m lawful s values g.no_21 g.no_22 (right_21 m s values g.no_21 e))

  same_can_step : (a : ℕ) (mark : Bool) → ((t : State) × IsState m t × Step m s a t mark) ↔ ((w : State) × IsState (linear m) w × Step (linear m) (beside s) a w mark)
  same_can_step a mark = (there, back)
    where
      place : (t : State) → IsState m t → IsPlace m t
      place t h = record { no_21 = h.no_21; no_22 = h.no_22 }

      there : ((t : State) × IsState m t × Step m s a t mark) → (w : State) × IsState (linear m) w × Step (linear m) (beside s) a w mark
      there (t, h, q) = (beside t, beside_state m t h, (same_steps a t mark (place t h)).0 q)

      back : ((w : State) × IsState (linear m) w × Step (linear m) (beside s) a w mark) → (t : State) × IsState m t × Step m s a t mark
      back (w, h, q) =
          let r = beside_of m lawful w h in
          (r.0, r.1, (same_steps a r.0 mark (place r.0 r.1)).1 (subst (λ (x : State). Step (linear m) (beside s) a x mark) (sym r.2) q))

  same_can_change : ((values : List ℤ) × IsState m (changed s values) × Environment m s values)
      ↔ ((values : List ℤ) × IsState (linear m) (changed (beside s) values) × (pointers_in m values ≡ pointers_in m (beside s).values) × Environment (linear m) (beside s) values)
  unfolding beside has_values pointers_in
  same_can_change = (there, back)
    where
      -- the change beside a change of the composition
      onto : (values : List ℤ) → changed (beside s) (values ++ pointers_in m (beside s).values) ≡ beside (changed s values)
      onto values = ap (λ (zs : List ℤ). changed (beside s) (values ++ zs)) kept_pointers

      there : ((values : List ℤ) × IsState m (changed s values) × Environment m s values)
          → (values : List ℤ) × IsState (linear m) (changed (beside s) values) × (pointers_in m values ≡ pointers_in m (beside s).values) × Environment (linear m) (beside s) values
      there (values, h, q) =
          let l = (shaped m (changed s values) h.no_21 h.no_22).values_are in (
            values ++ pointers_in m (beside s).values,
            subst (IsState (linear m)) (sym (onto values)) (beside_state m (changed s values) h),
            drop_at values _ _ l,
            (same_environments values (of_eq _ _ l)).0 q,
          )

      back : ((values : List ℤ) × IsState (linear m) (changed (beside s) values) × (pointers_in m values ≡ pointers_in m (beside s).values) × Environment (linear m) (beside s) values)
          → (values : List ℤ) × IsState m (changed s values) × Environment m s values
      back (values, h, e, q) =
          let count = length m.variables in
          let n = values_count m (changed (beside s) values) h in
          let l : has_values m (take count values) ≡ true = of_eq _ _ (length-take-le count values (omega arith)) in
          let w : values ≡ take count values ++ pointers_in m (beside s).values = sym (take-append-drop count values) ∙ ap (λ (zs : List ℤ). take count values ++ zs) e in (
            take count values,
            state_of m (changed s (take count values)) (right_21 m s (take count values) g.no_21 l) (changed_22 m s (take count values) g)
                (subst (IsState (linear m)) (ap (changed (beside s)) w ∙ onto (take count values)) h),
            (same_environments (take count values) l).1 (subst (Environment (linear m) (beside s)) w q),
          )

-- where the merged automaton stands beside a state, both can do the same
pub moves_alike : (m : Model) → Lawful m → (s u : State) → IsState m s → u ≡ beside s → MovesAlike m s u
moves_alike m lawful s u g e =
    subst (MovesAlike m s) (sym e) (record {
      stands = refl;
      steps = same_steps m lawful s g;
      environments = same_environments m lawful s g;
      can_step = same_can_step m lawful s g;
      can_change = same_can_change m lawful s g;
    })
