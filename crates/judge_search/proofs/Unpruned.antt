-- The search without pruning, and what it says of the composition's moves.
use mathlib.Core.Path.{◌≡◌, refl, sym, ap, ◌∙◌}
use mathlib.Core.Bool.{Bool, true, false, not, ◌&&◌, ◌||◌, and_assoc, and-true, or-false, or_comm, not-not}
use mathlib.Core.List.{List, [], ◌∷◌, ◌++◌, map, Memᴰ}
use Prim.Native.Nat.{ℕ, zero, suc, ◌+◌, ◌≤◌, ◌<◌}
use native.Mathlib.Omega.{arith}
use lib.ListN.{length}
use Rattle.model.specs.Basic.{every, exists, keep, count_up, eq_z, each}
use Rattle.model.specs.Predicate.{mentions}
use Rattle.model.specs.Composition.{Tree, par, syn, ini, leaf, leaves}
use Rattle.model.specs.Model.{Model, Edge, automaton, in_set}
use Rattle.model.specs.Rules.{State, Taker, val, mentioned}
use Rattle.model.specs.Moves.{pairs, sides, under, alone, moves}
use Rattle.model.specs.Judge.{is_taker, updated, led, kept, framed, fits}
use Rattle.model.proofs.Tests.{and_same, or_same, eq_self, exists_append, exists_ext, exists_map, every_append, each_ext, every_ext}
use Rattle.model.proofs.Numbered.{size, Numbered, numbered}
use Rattle.model.proofs.Takers.{Within, within}
use Rattle.judge_cover.proofs.CoverLaws.{exists_keep}
use Rattle.judge_search.specs.Search.{uncovered, unmoved, all_unmoved, is_candidate, candidates, is_covered, changed_in}

-- `exists` beside another test, and over pairs
pub exists_and : {A : Type 0} (b : Bool) (f : A → Bool) (l : List A) → (b && exists f l) ≡ exists (λ x. b && f x) l
unfolding exists
exists_and true f l = refl
exists_and false f [] = refl
exists_and false f (x ∷ l) = exists_and false f l

exists_pairs : (f : List Taker → Bool) (xs ys : List (List Taker)) → exists f (pairs xs ys) ≡ exists (λ x. exists (λ y. f (x ++ y)) ys) xs
unfolding exists pairs
exists_pairs f [] ys = refl
exists_pairs f (x ∷ xs) ys = exists_append f (map (λ y. x ++ y) ys) (pairs xs ys) ∙ or_same (exists_map f (λ y. x ++ y) ys) (exists_pairs f xs ys)

and_swap : (a b c d : Bool) → ((a && b) && (c && d)) ≡ ((a && c) && (b && d))
and_swap true true c d = refl
and_swap true false true d = refl
and_swap true false false d = refl
and_swap false b c d = refl

and_turn : (a b c : Bool) → (a && (b && c)) ≡ (b && (a && c))
and_turn true b c = refl
and_turn false true c = refl
and_turn false false c = refl

-- `each` and `every` over the numbers from i on
each_every : (n i : ℕ) (f : ℕ → Bool) → each n (λ k. f (i + k)) ≡ every f (count_up i n)
unfolding each every count_up
each_every zero i f = refl
each_every (suc n) i f =
    let here : i + 0 ≡ i = omega arith in
    and_same (ap f here) (each_ext n _ _ (λ k l. let e : i + suc k ≡ suc i + k = omega arith in ap f e) ∙ each_every n (suc i) f)

each_count : (n : ℕ) (f : ℕ → Bool) → each n f ≡ every f (count_up 0 n)
each_count n f = each_ext n f (λ k. f (0 + k)) (λ k l. let e : k ≡ 0 + k = omega arith in ap f e) ∙ each_every n 0 f

-- `every` over what is kept, and of two tests
every_keep : {A : Type 0} (f p : A → Bool) (l : List A) → every f (keep p l) ≡ every (λ x. not (p x) || f x) l
unfolding every keep
every_keep f p [] = refl
every_keep {A} f p (x ∷ l) = go (p x) (every_keep f p l)
  where
    go : (b : Bool) → every f (keep p l) ≡ every (λ y. not (p y) || f y) l
        → every f (elim b as (λ c. List A) [ true ↦ x ∷ keep p l | false ↦ keep p l ]) ≡ ((not b || f x) && every (λ y. not (p y) || f y) l)
    go true e = ap (λ b. f x && b) e
    go false e = e

every_both : {A : Type 0} (f g : A → Bool) (l : List A) → every (λ x. f x && g x) l ≡ (every f l && every g l)
unfolding every
every_both f g [] = refl
every_both f g (x ∷ l) = ap (λ b. (f x && g x) && b) (every_both f g l) ∙ and_swap (f x) (g x) (every f l) (every g l)

-- what agrees on the numbers of a composition's leaves agrees on its leaves
every_leaves : (f g : ℕ → Bool) (c : Tree) (i : ℕ) → Numbered i c → ((k : ℕ) → i ≤ k → k < i + size c → f k ≡ g k) → every f (leaves c) ≡ every g (leaves c)
unfolding every leaves Numbered size
every_leaves f g (par c d) i w h =
    every_append f (leaves c) (leaves d)
    ∙ and_same (every_leaves f g c i w.0 (λ k l u. h k l (omega arith))) (every_leaves f g d (i + size c) w.1 (λ k l u. h k (omega arith) (omega arith)))
    ∙ sym (every_append g (leaves c) (leaves d))
every_leaves f g (syn list c) i w h = every_leaves f g c i w h
every_leaves f g (ini p c) i w h = every_leaves f g c i w h
every_leaves f g (leaf k) i w h = and_same (h k (omega arith) (omega arith)) refl

-- one of three tests, by whether the action is in the left's set and in the right's
unfoldable pub alternatives : Bool → Bool → Bool → Bool → Bool → Bool
alternatives true true both left right = both
alternatives true false both left right = left
alternatives false true both left right = right
alternatives false false both left right = left || right

alternatives_sides : (b e : Bool) (f : List Taker → Bool) (xs ys : List (List Taker)) {both left right : Bool}
    → both ≡ exists f (pairs xs ys) → left ≡ exists f xs → right ≡ exists f ys → alternatives b e both left right ≡ exists f (sides b e xs ys)
unfolding alternatives sides
alternatives_sides true true f xs ys p q r = p
alternatives_sides true false f xs ys p q r = q
alternatives_sides false true f xs ys p q r = r
alternatives_sides false false f xs ys p q r = or_same q r ∙ sym (exists_append f xs ys)

-- what some takers leave uncovered
unfoldable left_by : List Taker → List ℕ → List ℕ
left_by [] u = u
left_by (y ∷ x) u = left_by x (uncovered u y.edge)

left_by_append : (x y : List Taker) (u : List ℕ) → left_by (x ++ y) u ≡ left_by y (left_by x u)
unfolding left_by
left_by_append [] y u = refl
left_by_append (z ∷ x) y u = left_by_append x y (uncovered u z.edge)

-- takers leave nothing uncovered exactly when they mention every variable
left_by_covered : (x : List Taker) (u : List ℕ) → is_covered (left_by x u) ≡ every (λ k. mentioned k x) u
unfolding left_by is_covered every mentioned exists
left_by_covered [] [] = refl
left_by_covered [] (k ∷ u) = refl
left_by_covered (y ∷ x) u =
    left_by_covered x (uncovered u y.edge)
    ∙ unfold uncovered in every_keep (λ k. mentioned k x) (λ k. not (mentions k y.edge.update)) u
    ∙ every_ext _ _ u (λ k h. ap (λ b. b || mentioned k x) (not-not (mentions k y.edge.update)))

module _ (s t : State) where
  -- the composition rests, and `on` holds of what is uncovered
  abbrev pub rests_on : Tree → (List ℕ → Bool) → List ℕ → Bool
  rests_on c on u = all_unmoved s t c && on u

  -- the takers are candidates, and every other automaton of the composition keeps its location
  unfoldable chosen : List Taker → Bool
  chosen x = every (λ y. updated s t y && led s t y) x

  unfoldable kept_by : List Taker → ℕ → Bool
  kept_by x k = is_taker k x || unmoved s t k

  unfoldable keeps : Tree → List Taker → Bool
  keeps c x = every (kept_by x) (leaves c)

  abbrev fit : Tree → List Taker → Bool
  fit c x = chosen x && keeps c x

  -- takers who differ outside a composition only keep the same there
  keeps_same : (c : Tree) (i : ℕ) → Numbered i c → (x y : List Taker) → ((k : ℕ) → i ≤ k → k < i + size c → is_taker k x ≡ is_taker k y) → keeps c x ≡ keeps c y
  unfolding keeps kept_by
  keeps_same c i w x y h = every_leaves (kept_by x) (kept_by y) c i w (λ k l u. ap (λ b. b || unmoved s t k) (h k l u))

  keeps_par : (c d : Tree) (x : List Taker) → keeps (par c d) x ≡ (keeps c x && keeps d x)
  unfolding keeps leaves
  keeps_par c d x = every_append (kept_by x) (leaves c) (leaves d)

  keeps_none : (c : Tree) → keeps c [] ≡ all_unmoved s t c
  unfolding keeps kept_by is_taker exists all_unmoved
  keeps_none c = refl

module _ (m : Model) (s t : State) where
  -- the parts of `fits`, and the whole
  framed_is : (x : List Taker) → framed m s t x ≡ is_covered (left_by x (changed_in m s t))
  unfolding framed changed_in
  framed_is x =
      each_count (length m.variables) (λ k. mentioned k x || eq_z (val s k) (val t k))
      ∙ every_ext _ _ (count_up 0 (length m.variables)) (λ k h.
      or_comm (mentioned k x) (eq_z (val s k) (val t k)) ∙ ap (λ b. b || mentioned k x) (sym (not-not (eq_z (val s k) (val t k)))))
      ∙ sym (left_by_covered x (changed_in m s t) ∙ every_keep (λ k. mentioned k x) (λ k. not (eq_z (val s k) (val t k))) (count_up 0 (length m.variables)))

  kept_is : leaves m.tree ≡ count_up 0 (length m.automata) → (x : List Taker) → kept m s t x ≡ keeps s t m.tree x
  unfolding kept keeps kept_by unmoved
  kept_is e x = each_count (length m.automata) (kept_by s t x) ∙ ap (every (kept_by s t x)) (sym e)

  fits_is : leaves m.tree ≡ count_up 0 (length m.automata) → (x : List Taker) → fits m s t x ≡ (fit s t m.tree x && is_covered (left_by x (changed_in m s t)))
  unfolding fits chosen
  fits_is e x =
      let u = every (updated s t) x in
      let l = every (led s t) x in
      let k = keeps s t m.tree x in
      let f = is_covered (left_by x (changed_in m s t)) in
      rw (kept_is e x, framed_is x, every_both (updated s t) (led s t) x) (sym (and_assoc (u && l) k f ∙ and_assoc u l (k && f)))

module _ (m : Model) (s : State) (a : ℕ) (t : State) where
  -- the composition takes the action, and `on` holds of what is then uncovered
  unfoldable pub takes_on : Tree → (List ℕ → Bool) → List ℕ → Bool
  takes_on (leaf k) on u = exists (λ e. on (uncovered u e)) (candidates m s a t k)
  takes_on (syn list c) on u = takes_on c on u
  takes_on (ini p c) on u = takes_on c on u
  takes_on (par c d) on u =
      alternatives (in_set m a c) (in_set m a d)
      (takes_on c (λ v. takes_on d on v) u)
      (takes_on c (λ v. rests_on s t d on v) u)
      (rests_on s t c (λ v. takes_on d on v) u)

  fit_alone : (k : ℕ) (e : Edge) → fit s t (leaf k) (alone k e) ≡ is_candidate m s a t k e
  unfolding chosen keeps every leaves kept_by is_taker exists is_candidate
  fit_alone k e = simp (eq_self k, and-true)

  -- an automaton outside a composition takes nothing in its moves
  no_taker : (c : Tree) (i : ℕ) → Numbered i c → {x : List Taker} → Memᴰ x (moves m a c) → (k : ℕ) → (Within i (size c) k → ⊥) → is_taker k x ≡ false
  no_taker c i w {x} h k n = go (is_taker k x) refl
    where
      go : (b : Bool) → is_taker k x ≡ b → b ≡ false
      go true e = absurd (n (within m a c i w h k e))
      go false e = refl

  module _ (c d : Tree) (i : ℕ) (w : Numbered i c) (z : Numbered (i + size c) d) where
    keeps_left : {x : List Taker} → Memᴰ x (moves m a c) → keeps s t d x ≡ all_unmoved s t d
    unfolding is_taker exists
    keeps_left {x} h = keeps_same s t d (i + size c) z x [] (λ k l u. no_taker c i w h k (λ r. omega (arith, r.high))) ∙ keeps_none s t d

    keeps_right : {y : List Taker} → Memᴰ y (moves m a d) → keeps s t c y ≡ all_unmoved s t c
    unfolding is_taker exists
    keeps_right {y} h = keeps_same s t c i w y [] (λ k l u. no_taker d (i + size c) z h k (λ r. omega (arith, r.low))) ∙ keeps_none s t c

    fit_left : {x : List Taker} → Memᴰ x (moves m a c) → fit s t (par c d) x ≡ (fit s t c x && all_unmoved s t d)
    fit_left {x} h = rw (keeps_par s t c d x, keeps_left h) (sym (and_assoc (chosen s t x) (keeps s t c x) (all_unmoved s t d)))

    fit_right : {y : List Taker} → Memᴰ y (moves m a d) → fit s t (par c d) y ≡ (all_unmoved s t c && fit s t d y)
    fit_right {y} h = rw (keeps_par s t c d y, keeps_right h) (and_turn (chosen s t y) (all_unmoved s t c) (keeps s t d y))

    fit_both : {x y : List Taker} → Memᴰ x (moves m a c) → Memᴰ y (moves m a d) → fit s t (par c d) (x ++ y) ≡ (fit s t c x && fit s t d y)
    unfolding chosen is_taker
    fit_both {x} {y} h g =
        let in_c = keeps_same s t c i w (x ++ y) x (λ k l u. exists_append _ x y ∙ ap (λ b. is_taker k x || b) (no_taker d (i + size c) z g k (λ r. omega (arith, r.low))) ∙ or-false (is_taker k x)) in
        let in-d = keeps_same s t d (i + size c) z (x ++ y) y (λ k l u. exists_append _ x y ∙ ap (λ b. b || is_taker k y) (no_taker c i w h k (λ r. omega (arith, r.high)))) in
        let all_chosen : chosen s t (x ++ y) ≡ (chosen s t x && chosen s t y) = every_append _ x y in
        rw (keeps_par s t c d (x ++ y), in_c, in-d, all_chosen) (and_swap (chosen s t x) (chosen s t y) (keeps s t c x) (keeps s t d y))

  -- The search without pruning succeeds exactly when some move fits and `on` holds of what it leaves uncovered.
  abbrev Is : Tree → Type 0
  Is c = (on : List ℕ → Bool) (u : List ℕ) → takes_on c on u ≡ exists (λ x. fit s t c x && on (left_by x u)) (moves m a c)

  module _ (c d : Tree) (i : ℕ) (w : Numbered i c) (z : Numbered (i + size c) d) (is_c : Is c) (is_d : Is d) (on : List ℕ → Bool) (u : List ℕ) where
    abbrev goal : List Taker → Bool
    goal x = fit s t (par c d) x && on (left_by x u)

    both_take : takes_on c (λ v. takes_on d on v) u ≡ exists goal (pairs (moves m a c) (moves m a d))
    both_take =
        is_c (λ v. takes_on d on v) u
        ∙ exists_ext _ _ (moves m a c) (λ x h.
        ap (λ b. fit s t c x && b) (is_d on (left_by x u))
        ∙ exists_and (fit s t c x) (λ y. fit s t d y && on (left_by y (left_by x u))) (moves m a d)
        ∙ exists_ext _ _ (moves m a d) (λ y g. rw (fit_both c d i w z h g, left_by_append x y u) (sym (and_assoc (fit s t c x) (fit s t d y) (on (left_by y (left_by x u)))))))
        ∙ sym (exists_pairs goal (moves m a c) (moves m a d))

    left_takes : takes_on c (λ v. rests_on s t d on v) u ≡ exists goal (moves m a c)
    left_takes =
        is_c (λ v. rests_on s t d on v) u
        ∙ exists_ext _ _ (moves m a c) (λ x h. rw (fit_left c d i w z h) (sym (and_assoc (fit s t c x) (all_unmoved s t d) (on (left_by x u)))))

    right_takes : rests_on s t c (λ v. takes_on d on v) u ≡ exists goal (moves m a d)
    right_takes =
        ap (λ b. all_unmoved s t c && b) (is_d on u)
        ∙ exists_and (all_unmoved s t c) (λ y. fit s t d y && on (left_by y u)) (moves m a d)
        ∙ exists_ext _ _ (moves m a d) (λ y h. rw (fit_right c d i w z h) (sym (and_assoc (all_unmoved s t c) (fit s t d y) (on (left_by y u)))))

  takes_is : (c : Tree) (i : ℕ) → Numbered i c → Is c
  unfolding takes_on moves Numbered left_by candidates keeps leaves
  takes_is (par c d) i w on u =
      let is_c : Is c = takes_is c i w.0 in
      let is_d : Is d = takes_is d (i + size c) w.1 in
      alternatives_sides (in_set m a c) (in_set m a d) _ (moves m a c) (moves m a d)
      (both_take c d i w.0 w.1 is_c is_d on u)
      (left_takes c d i w.0 w.1 is_c is_d on u)
      (right_takes c d i w.0 w.1 is_c is_d on u)
  takes_is (syn list c) i w on u = takes_is c i w on u
  takes_is (ini p c) i w on u = takes_is c i w on u
  takes_is (leaf k) i w on u =
      exists_keep (λ e. on (uncovered u e)) (is_candidate m s a t k) (under a (automaton m k).edges)
      ∙ exists_ext _ _ (under a (automaton m k).edges) (λ e h. ap (λ b. b && on (uncovered u e)) (sym (fit_alone k e)))
      ∙ sym (exists_map (λ x. fit s t (leaf k) x && on (left_by x u)) (alone k) (under a (automaton m k).edges))

  -- For the whole composition and the changed variables this is the definition of the step.
  pub unpruned_is : leaves m.tree ≡ count_up 0 (length m.automata) → takes_on m.tree is_covered (changed_in m s t) ≡ exists (fits m s t) (moves m a m.tree)
  unpruned_is e =
      takes_is m.tree 0 (numbered m.tree _ e) is_covered (changed_in m s t)
      ∙ exists_ext _ _ (moves m a m.tree) (λ x h. sym (fits_is m s t e x))
