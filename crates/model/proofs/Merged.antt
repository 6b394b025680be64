-- A composition and its merged automaton pass the same tests, so the rules allow both the same steps.
use mathlib.Core.Path.{◌≡◌, refl, sym, ap, ◌∙◌, subst}
use mathlib.Core.Bool.{Bool, true, false, ◌&&◌, ◌||◌, true≢false, and-true, and-false, or-false, and_assoc, and_comm}
use mathlib.Core.List.Memᴰ
use mathlib.Core.List.{List, [], ◌∷◌, ◌++◌, map, flat_map, append-nil, Memᴰ}
use mathlib.Core.Logic.{◌↔◌, ◌≢◌}
use Prim.Native.Nat.{ℕ, zero, suc, ◌+◌, ◌≤◌, ◌<◌}
use native.Mathlib.Omega.{arith}
use native.Mathlib.Nat.{zero-add}
use lib.IntN.{ℤ, pos}
use lib.ListN.{length, get_or, length-append, length-map, get_or-append}
use lib.Dec.{eqb, leb, ltb}
use Rattle.model.specs.Basic.{eq_z, each, every, exists, keep, once, member, lacks, count_up}
use Rattle.model.specs.Predicate.{Pred, holds, words, named, is_outside, names_outside, mentions}
use Rattle.model.specs.Composition.{Tree, par, syn, ini, leaf, leaves, starts}
use Rattle.model.specs.Model.{Model, Location, Edge, Automaton, automaton, location, owner_of, nobody, nowhere, in_set}
use Rattle.model.specs.Limits.{rises, tree_rises}
use Rattle.model.specs.Lawful.{Lawful, LawfulAutomaton}
use Rattle.model.specs.Rules.{State, at, val, holds_in, Taker, mentioned, Step, Environment, changed}
use Rattle.model.specs.Moves.{under, alone, moves}
use Rattle.model.specs.Linear.{pointer, pointer_range, pointer_owner, at_automata, pointer_moves, merged_init, merged_inv, merged_edge, edges_with_repeats, merged_edges, linear}
use Rattle.model.specs.Equal.{same_edge}
use Rattle.model.specs.Judge.{has_values, row21, row22, inits, starts_hold, invs, settled, is_taker, updated, led, kept, framed, fits, step_holds, owned_keep, environment_holds}
use Rattle.model.specs.Runs.{beside}
use Rattle.model.proofs.Tests.{not-false, each_intro, each_elim, or_right, and_left, and_right, and_same, or_none, eq_of, of_eq, not_eq, eq_self, lt_of, each_ext, each_add, exists_append, exists_map, exists_ext, every_append, every_ext}
use Rattle.model.proofs.Lists.{keep_append, keep_all, keep_none, all_at, every_map, member_keep, member_count}
use Rattle.model.proofs.Once.{exists_once, keep_once}
use Rattle.model.proofs.EqualLaws.{same_edge_is}
use Rattle.model.proofs.Numbered.{leaves_all}
use Rattle.model.proofs.Takers.{of_takers}
use Rattle.model.proofs.ByRules.{holds_step, step_holds_lem, holds_environment, environment_holds_lem}
use Rattle.model.proofs.Pointers.{same_p, takers_quiet, preds_hold, preds_mention, automata_hold, pointers_lead, pointers_mention, no_pointer, pointer_takers, pointer_value}
use Rattle.model.proofs.Owners.{variable_owner, pointer_owner_lem, lacks_merged}

-- the merged edges under an action are those that its moves gave
module _ (m : Model) (a : ℕ) where
  abbrev edges_of : ℕ → List Edge
  edges_of b = map (merged_edge m b) (moves m b m.tree)

  under_other : (b : ℕ) → b ≢ a → under a (edges_of b) ≡ []
  unfolding under merged_edge
  under_other b n = keep_none (λ (e : Edge). eqb e.action a) (merged_edge m b) (λ x. not_eq b a n) (moves m b m.tree)

  under_same : under a (edges_of a) ≡ edges_of a
  unfolding under merged_edge
  under_same = keep_all (λ (e : Edge). eqb e.action a) (merged_edge m a) (λ x. eq_self a) (moves m a m.tree)

  under_append : (k l : List Edge) → under a (k ++ l) ≡ under a k ++ under a l
  unfolding under
  under_append k l = keep_append (λ (e : Edge). eqb e.action a) k l

  under_later : (n count : ℕ) → a < n → under a (flat_map edges_of (count_up n count)) ≡ []
  unfolding flat_map count_up under keep
  under_later n zero l = refl
  under_later n (suc count) l = under_append (edges_of n) (flat_map edges_of (count_up (suc n) count)) ∙ rw (under_other n (λ e. omega arith), under_later (suc n) count (omega arith))

  under_merged : (n count : ℕ) → n ≤ a → a < n + count → under a (flat_map edges_of (count_up n count)) ≡ edges_of a
  unfolding flat_map count_up
  under_merged n zero l h = absurd (omega arith)
  under_merged n (suc count) l h = under_append (edges_of n) (flat_map edges_of (count_up (suc n) count)) ∙ go (eqb n a) refl (λ i. under_merged (suc n) count i (omega arith))
    where
      go : (b : Bool) → eqb n a ≡ b → (suc n ≤ a → under a (flat_map edges_of (count_up (suc n) count)) ≡ edges_of a)
          → under a (edges_of n) ++ under a (flat_map edges_of (count_up (suc n) count)) ≡ edges_of a
      go true e ih =
          let q : n ≡ a = eq_of n a e in
          rw (under_later (suc n) count (omega arith)) (append-nil _ ∙ subst (λ (k : ℕ). under a (edges_of k) ≡ edges_of a) (sym q) under_same)
      go false e ih =
          let ne : n ≢ a = λ q. true≢false (sym (of_eq n a q) ∙ e) in
          rw (under_other n ne) (ih (omega arith))

-- a list that rises from above `last` has nothing up to there
rises_above : (A last : ℕ) (ks : List ℕ) → rises A last ks ≡ true → (a : ℕ) → a ≤ last → member a ks ≡ false
unfolding rises member exists
rises_above A last [] h a l = refl
rises_above A last (k ∷ ks) h a l = go (ltb last k && leb k A) refl h (λ p i. rises_above A k ks p a i)
  where
    go : (b : Bool) → (ltb last k && leb k A) ≡ b → elim b as (λ c. Bool) [ true ↦ rises A k ks | false ↦ false ] ≡ true
        → (rises A k ks ≡ true → a ≤ k → member a ks ≡ false) → member a (k ∷ ks) ≡ false
    go true e p ih =
        let i : last < k = lt_of last k (and_left (ltb last k) (leb k A) e) in
        or_none (not_eq a k (λ q. omega arith)) (ih p (omega arith))
    go false e p ih = absurd (true≢false (sym p))

-- the two orders of the tests
shuffle : (u l f k : Bool) → ((u && l) && (true && (true && (f && k)))) ≡ (u && (l && (k && f)))
shuffle u l f k = and_assoc u l (f && k) ∙ ap (λ (b : Bool). u && (l && b)) (and_comm f k)

-- a state that has the sheet's shape: rows 21 and 22 do not hold of it
pub record Shaped (m : Model) (s : State) : Type 0 where
  pub values_are : length s.values ≡ length m.variables
  pub locations_are : length s.locations ≡ length m.automata
  pub placed : (k : ℕ) → k < length m.automata → at s k < length (automaton m k).locations

-- rows 21 and 22 do not hold: the state has the model's shape
pub shaped : (m : Model) (s : State) → row21 m s ≡ false → row22 m s ≡ false → Shaped m s
unfolding row21 row22 has_values
shaped m s p q =
    let h = not-false _ p in
    record {
      values_are = eq_of _ _ (and_right (eqb (length s.locations) (length m.automata)) _ h);
      locations_are = eq_of _ _ (and_left (eqb (length s.locations) (length m.automata)) (has_values m s.values) h);
      placed = λ k l. lt_of _ _ (each_elim _ (λ i. ltb (at s i) (length (automaton m i).locations)) (not-false _ q) k l);
    }

module _ (m : Model) where
  -- P names no variable that the model does not declare (row 7)
  abbrev Named : Pred → Type 0
  Named p = names_outside (length m.variables) (words p) ≡ false

  -- the merged init and inv mean each automaton's at its location
  wrapped : (part : Location → Pred) → ((k j : ℕ) → Named (part (location m k j))) → (s : State) → Shaped m s
      → every (holds_in (beside s)) (at_automata m part 0 m.automata) ≡ each (length m.automata) (λ k. holds_in s (part (location m k (at s k))))
  unfolding beside
  wrapped part names s g =
      automata_hold m (beside s).values (beside s).values part 0 m.automata (at s) (λ k l. rw (zero-add k) (pointer_value m s.values s.locations g.values_are k)) g.placed
      ∙ each_ext _ _ _ (λ k l. same_p s.values s.values (map pos s.locations) (map pos s.locations) (length m.variables) g.values_are g.values_are (part (location m k (at s k))) (names k (at s k)))

  -- a merged edge's update means its takers' updates, and their pointers' moves
  merged_holds : (s t : State) → Shaped m s → Shaped m t → (a : ℕ) (x : List Taker) → ((y : Taker) → Memᴰ y x → Named y.edge.update)
      → holds (beside s).values (beside t).values (merged_edge m a x).update ≡ (every (updated s t) x && every (led s t) x)
  unfolding merged_edge beside updated
  merged_holds s t g h a x names =
      preds_hold (beside s).values (beside t).values (map (λ y. y.edge.update) x ++ pointer_moves m x)
      ∙ every_append _ (map (λ y. y.edge.update) x) (pointer_moves m x)
      ∙ and_same
      (every_map _ (λ y. y.edge.update) x
      ∙ every_ext _ _ x (λ y e. same_p s.values t.values (map pos s.locations) (map pos t.locations) (length m.variables) g.values_are h.values_are y.edge.update (names y e)))
      (pointers_lead m (beside s).values (beside t).values s t (pointer_value m s.values s.locations g.values_are) (pointer_value m t.values t.locations h.values_are) x)

  -- it mentions what its takers mention, and its takers' pointers
  pub merged_mentions : (a k : ℕ) (x : List Taker) → mentioned k (alone 0 (merged_edge m a x)) ≡ (mentioned k x || exists (λ y. eqb k (pointer m y.automaton)) x)
  unfolding merged_edge mentioned exists
  merged_mentions a k x =
      or-false _
      ∙ preds_mention k (map (λ y. y.edge.update) x ++ pointer_moves m x)
      ∙ exists_append (mentions k) (map (λ y. y.edge.update) x) (pointer_moves m x)
      ∙ rw (exists_map (mentions k) (λ (y : Taker). y.edge.update) x, pointers_mention m k x)

  module _ (s t : State) (g : Shaped m s) (h : Shaped m t) (a : ℕ) (x : List Taker) (names : (y : Taker) → Memᴰ y x → Named y.edge.update) where
    -- the frame of the merged automaton: of a variable the composition's frame, of a pointer that its automaton keeps its location
    variable_framed : (k : ℕ) → k < length m.variables
        → (mentioned k (alone 0 (merged_edge m a x)) || eq_z (val (beside s) k) (val (beside t) k)) ≡ (mentioned k x || eq_z (val s k) (val t k))
    unfolding beside
    variable_framed k l = rw (
      merged_mentions a k x,
      no_pointer m k x l,
      or-false (mentioned k x),
      get_or-append s.values (map pos s.locations) (pos 0) k (omega (arith, g.values_are)),
      get_or-append t.values (map pos t.locations) (pos 0) k (omega (arith, h.values_are)),
    )

    pointer_framed : (k : ℕ)
        → (mentioned (pointer m k) (alone 0 (merged_edge m a x)) || eq_z (val (beside s) (pointer m k)) (val (beside t) (pointer m k))) ≡ (is_taker k x || eqb (at s k) (at t k))
    unfolding beside eq_z
    pointer_framed k = rw (
      merged_mentions a (pointer m k) x,
      takers_quiet m k x names,
      pointer_takers m k x,
      pointer_value m s.values s.locations g.values_are k,
      pointer_value m t.values t.locations h.values_are k,
    )

    merged_framed : framed (linear m) (beside s) (beside t) (alone 0 (merged_edge m a x)) ≡ (framed m s t x && kept m s t x)
    unfolding framed kept linear pointer
    merged_framed =
        rw (length-append m.variables (map pointer_range m.automata), length-map m.automata pointer_range)
        (each_add (length m.variables) (length m.automata) _ ∙ and_same (each_ext (length m.variables) _ _ variable_framed) (each_ext (length m.automata) _ _ (λ k l. pointer_framed k)))

    merged_updated : every (updated (beside s) (beside t)) (alone 0 (merged_edge m a x)) ≡ (every (updated s t) x && every (led s t) x)
    unfolding every updated
    merged_updated = and-true _ ∙ merged_holds s t g h a x names

    merged_led : every (led (beside s) (beside t)) (alone 0 (merged_edge m a x)) ≡ true
    unfolding every led merged_edge beside
    merged_led = refl

    merged_kept : kept (linear m) (beside s) (beside t) (alone 0 (merged_edge m a x)) ≡ true
    unfolding kept linear each is_taker exists
    merged_kept = refl

    -- the merged edge fits exactly when its takers do
    fits_same : fits (linear m) (beside s) (beside t) (alone 0 (merged_edge m a x)) ≡ fits m s t x
    unfolding fits
    fits_same = rw (merged_updated, merged_led, merged_kept, merged_framed) (shuffle (every (updated s t) x) (every (led s t) x) (framed m s t x) (kept m s t x))

  -- the merged edges under an action, with repeats, are those of its moves, one by one
  moves_same : (a : ℕ) → a ≤ m.actions → under a (edges_with_repeats m) ≡ map (merged_edge m a) (moves m a m.tree)
  unfolding edges_with_repeats
  moves_same a l = under_merged m a 0 (suc m.actions) (omega arith) (omega arith)

  -- the moves of the merged automaton are the same, each once
  moves_once : (a : ℕ) → a ≤ m.actions → moves (linear m) a (linear m).tree ≡ map (alone 0) (once same_edge (map (merged_edge m a) (moves m a m.tree)))
  unfolding linear moves merged_edges under
  moves_once a l = ap (map (alone 0)) (keep_once same_edge same_edge_is (λ e. eqb e.action a) (edges_with_repeats m) ∙ ap (once same_edge) (moves_same a l))

module _ (m : Model) (lawful : Lawful m) where
  -- what a lawful automaton meets, and one that says nothing, every automaton meets
  pub automaton_at_lem : (P : Automaton → Type 0) → P nobody → ((x : Automaton) → LawfulAutomaton m.variables m.actions x → P x) → (k : ℕ) → P (automaton m k)
  automaton_at_lem P e h k = all_at P nobody e m.automata (λ x i. h x (lawful.automata x i)) k

  -- so row 7 holds of no predicate
  inits_named : (k j : ℕ) → Named m (location m k j).init
  unfolding names_outside words exists named is_outside
  inits_named k j =
      automaton_at_lem (λ x. Named m (get_or x.locations j nowhere).init) refl
      (λ x h. all_at (λ l. Named m l.init) nowhere refl x.locations (λ l i. (h.locations l i).init.named) j) k

  invs_named : (k j : ℕ) → Named m (location m k j).inv
  unfolding names_outside words exists named is_outside
  invs_named k j =
      automaton_at_lem (λ x. Named m (get_or x.locations j nowhere).inv) refl
      (λ x h. all_at (λ l. Named m l.inv) nowhere refl x.locations (λ l i. (h.locations l i).inv.named) j) k

  updates_named : (k : ℕ) (e : Edge) → Memᴰ e (automaton m k).edges → Named m e.update
  updates_named k e = automaton_at_lem (λ x. Memᴰ e x.edges → Named m e.update) (λ i. absurd (Memᴰ.not-nil i)) (λ x h i. (h.edges e i).update.named) k

  -- the P of every `ini` is the same, where pointers follow
  starts_same : (s : State) → Shaped m s → every (holds_in (beside s)) (starts m.tree) ≡ starts_hold m s
  unfolding starts_hold beside
  starts_same s g =
      every_ext _ _ (starts m.tree) (λ p i.
      same_p s.values s.values (map pos s.locations) (map pos s.locations) (length m.variables) g.values_are g.values_are p (lawful.starts p i).pred.named)

  -- the tests of every automaton, and of the start, are the same
  begun_same : (s : State) → Shaped m s → (inits (linear m) (beside s) && starts_hold (linear m) (beside s)) ≡ (inits m s && starts_hold m s)
  unfolding inits linear merged_init each starts_hold starts every beside
  begun_same s g =
      and-true _
      ∙ and-true _
      ∙ preds_hold (beside s).values (beside s).values (at_automata m (λ l. l.init) 0 m.automata ++ starts m.tree)
      ∙ every_append _ (at_automata m (λ l. l.init) 0 m.automata) (starts m.tree)
      ∙ and_same (wrapped m (λ l. l.init) inits_named s g) (starts_same s g)

  invs_same : (s : State) → Shaped m s → invs (linear m) (beside s) ≡ invs m s
  unfolding invs linear merged_inv each beside
  invs_same s g =
      and-true _
      ∙ preds_hold (beside s).values (beside s).values (at_automata m (λ l. l.inv) 0 m.automata)
      ∙ wrapped m (λ l. l.inv) invs_named s g

  pub settled_same : (s t : State) → Shaped m s → Shaped m t → settled (linear m) (beside s) (beside t) ≡ settled m s t
  unfolding settled beside
  settled_same s t g h = rw (begun_same s g, invs_same s g, invs_same t h)

  -- and so are the tests of a step
  pub step_same : (s t : State) → Shaped m s → Shaped m t → (a : ℕ) → a ≤ m.actions → step_holds (linear m) (beside s) a (beside t) ≡ step_holds m s a t
  unfolding step_holds
  step_same s t g h a l =
      and_same (settled_same s t g h) (
      ap (exists (fits (linear m) (beside s) (beside t))) (moves_once m a l)
      ∙ exists_map _ (alone 0) _
      ∙ exists_once same_edge same_edge_is _ _
      ∙ exists_map _ (merged_edge m a) _
      ∙ exists_ext _ (fits m s t) _ (λ x e. fits_same m s t g h a x (of_takers m a (λ y. Named m y.edge.update) m.tree (leaves_all updates_named m.tree) e)))

  -- action 0 is in no set
  silent_free : (c : Tree) → tree_rises m.actions c ≡ true → in_set m 0 c ≡ false
  unfolding tree_rises in_set member exists
  silent_free (par c d) h = or_none (silent_free c (and_left (tree_rises m.actions c) (tree_rises m.actions d) h)) (silent_free d (and_right (tree_rises m.actions c) (tree_rises m.actions d) h))
  silent_free (syn list c) h =
      or_none
      (rises_above m.actions 0 list (and_left (rises m.actions 0 list) (tree_rises m.actions c) h) 0 (omega arith))
      (silent_free c (and_right (rises m.actions 0 list) (tree_rises m.actions c) h))
  silent_free (ini p c) h = silent_free c h
  silent_free (leaf k) h = automaton_at_lem (λ x. member 0 x.sync ≡ false) refl (λ x p. rises_above m.actions 0 x.sync p.sync 0 (omega arith)) k

  -- the merged automaton's set is the composition's
  pub marks_same : (a : ℕ) → a ≤ m.actions → in_set (linear m) a (linear m).tree ≡ in_set m a m.tree
  unfolding linear in_set
  marks_same zero l =
      let z : in_set m 0 m.tree ≡ false = silent_free m.tree lawful.tree.lists in
      member_keep (λ a. in_set m a m.tree) 0 (count_up 1 m.actions) ∙ rw (z, and-false)
  marks_same (suc a) l =
      member_keep (λ a. in_set m a m.tree) (suc a) (count_up 1 m.actions)
      ∙ rw (member_count (suc a) 1 m.actions (omega arith) (omega arith))

-- the merged automaton is one leaf
linear_ordered : (m : Model) → leaves (linear m).tree ≡ count_up 0 (length (linear m).automata)
unfolding linear leaves count_up
linear_ordered m = refl

-- a step of the composition, exactly when one of the merged automaton, with the same mark
pub steps_alike : (m : Model) → Lawful m → (s t : State) → row21 m s ≡ false → row22 m s ≡ false → row21 m t ≡ false → row22 m t ≡ false → (a : ℕ) → a ≤ m.actions → (b : Bool)
    → Step m s a t b ↔ Step (linear m) (beside s) a (beside t) b
unfolding beside
steps_alike m lawful s t p q p' q' a l b = (there, back)
  where
    marked_by : {c : Bool} (k : Model) (u w : State) → b ≡ c → Step k u a w c → Step k u a w b
    marked_by k u w e q = rw e q

    g : Shaped m s
    g = shaped m s p q

    h : Shaped m t
    h = shaped m t p' q'

    there : Step m s a t b → Step (linear m) (beside s) a (beside t) b
    there q = marked_by (linear m) (beside s) (beside t) (q.marked ∙ sym (marks_same m lawful a l))
        (holds_step (linear m) (linear_ordered m) (beside s) a (beside t) q.ended (step_same m lawful s t g h a l ∙ step_holds_lem m lawful.tree.in_order s a t q))

    back : Step (linear m) (beside s) a (beside t) b → Step m s a t b
    back q = marked_by m s t (q.marked ∙ marks_same m lawful a l)
        (holds_step m lawful.tree.in_order s a t q.ended (sym (step_same m lawful s t g h a l) ∙ step_holds_lem (linear m) (linear_ordered m) (beside s) a (beside t) q))

-- The merged automaton's variables with owners keep their values exactly if the composition's do, and if the pointers
-- keep theirs, where they have an owner.
module _ (m : Model) (lawful : Lawful m) (s t : State) (g : Shaped m s) (h : Shaped m t) where
  abbrev pub pointers_keep : Bool
  pointers_keep = each (length m.automata) (λ k. lacks (pointer_owner m.format) || eqb (at s k) (at t k))

  variable_keeps : (k : ℕ) → k < length m.variables → (lacks (owner_of (linear m) k) || eq_z (val (beside s) k) (val (beside t) k)) ≡ (lacks (owner_of m k) || eq_z (val s k) (val t k))
  unfolding beside linear
  variable_keeps k l = rw (
    variable_owner m lawful.owners_are k l,
    lacks_merged (owner_of m k),
    get_or-append s.values (map pos s.locations) (pos 0) k (omega (arith, g.values_are)),
    get_or-append t.values (map pos t.locations) (pos 0) k (omega (arith, h.values_are)),
  )

  pointer_keeps : (k : ℕ) → k < length m.automata → (lacks (owner_of (linear m) (pointer m k)) || eq_z (val (beside s) (pointer m k)) (val (beside t) (pointer m k))) ≡ (lacks (pointer_owner m.format) || eqb (at s k) (at t k))
  unfolding beside eq_z linear
  pointer_keeps k l = rw (
    pointer_owner_lem m lawful.owners_are k l,
    pointer_value m s.values s.locations g.values_are k,
    pointer_value m t.values t.locations h.values_are k,
  )

  size_same : length (linear m).variables ≡ length m.variables + length m.automata
  unfolding linear
  size_same = simp (length-append, length-map)

  pub owned_same : owned_keep (linear m) (beside s) (beside t) ≡ (owned_keep m s t && pointers_keep)
  unfolding owned_keep pointer
  owned_same =
      ap (λ (n : ℕ). each n (λ k. lacks (owner_of (linear m) k) || eq_z (val (beside s) k) (val (beside t) k))) size_same
      ∙ each_add (length m.variables) (length m.automata) _
      ∙ and_same (each_ext (length m.variables) _ _ variable_keeps) (each_ext (length m.automata) _ _ pointer_keeps)

  pub environment_same : environment_holds (linear m) (beside s) (beside t) ≡ (environment_holds m s t && pointers_keep)
  unfolding environment_holds
  environment_same = rw (settled_same m lawful s t g h, owned_same, and_assoc (settled m s t) (owned_keep m s t) pointers_keep)

-- they do where the locations stay, whatever the format
stays_kept : (m : Model) (s : State) (values : List ℤ) → each (length m.automata) (λ k. lacks (pointer_owner m.format) || eqb (at s k) (at (changed s values) k)) ≡ true
stays_kept m s values = each_intro _ _ (λ k l. or_right (lacks (pointer_owner m.format)) (eq_self (at s k)))

pub environment_stays : (m : Model) → Lawful m → (s : State) (values : List ℤ) → Shaped m s → Shaped m (changed s values)
    → environment_holds (linear m) (beside s) (beside (changed s values)) ≡ environment_holds m s (changed s values)
environment_stays m lawful s values g h = environment_same m lawful s (changed s values) g h ∙ rw (stays_kept m s values) (and-true _)

-- an environment step likewise, the pointers kept
pub environments_alike : (m : Model) → Lawful m → (s : State) (values : List ℤ) → row21 m s ≡ false → row22 m s ≡ false → row21 m (changed s values) ≡ false
    → Environment m s values ↔ Environment (linear m) (beside s) (values ++ map pos s.locations)
unfolding beside
environments_alike m lawful s values p q p' = (
  λ e. holds_environment (linear m) (linear_ordered m) (beside s) (values ++ map pos s.locations) (environment_stays m lawful s values g h ∙ environment_holds_lem m lawful.tree.in_order s values e),
  λ e. holds_environment m lawful.tree.in_order s values (sym (environment_stays m lawful s values g h) ∙ environment_holds_lem (linear m) (linear_ordered m) (beside s) (values ++ map pos s.locations) e),
)
  where
    g : Shaped m s
    g = shaped m s p q

    h : Shaped m (changed s values)
    h = shaped m (changed s values) p' (unfold row22 in q)
