-- The sets of takers that a tree allows: to choose among the candidates of some of them is to choose among the composition's moves.
use mathlib.Core.Path.{◌≡◌, refl, sym, ap, ◌∙◌}
use mathlib.Core.Bool.{Bool, true, false, ◌&&◌, or-false}
use mathlib.Core.List.{List, [], ◌∷◌, ◌++◌, map, flat_map}
use Prim.Native.Nat.{ℕ}
use Rattle.model.specs.Basic.{exists}
use Rattle.model.specs.Composition.{Tree, par, syn, ini, leaf}
use Rattle.model.specs.Model.{Model, in_set}
use Rattle.model.specs.Lawful.{Lawful}
use Rattle.model.specs.Rules.{State}
use Rattle.model.specs.Moves.{moves}
use Rattle.model.specs.Judge.{fits}
use Rattle.model.proofs.Tests.{or_same, exists_append, exists_ext, exists_map}
use Rattle.judge_cover.proofs.CoverLaws.{exists_swap}
use Rattle.judge_search.specs.Search.{uncovered, changed_in, is_covered, all_unmoved, candidates, together, only_if, ways, taker_sets, choosing, search}
use Rattle.judge_search.proofs.Unpruned.{exists_and, alternatives, rests_on, takes_on, unpruned_is}

-- `exists` over the ways
pub exists_together : (f : List ℕ → Bool) (xs ys : List (List ℕ)) → exists f (together xs ys) ≡ exists (λ x. exists (λ y. f (x ++ y)) ys) xs
unfolding exists together flat_map
exists_together f [] ys = refl
exists_together f (x ∷ xs) ys =
    exists_append f (map (λ y. x ++ y) ys) (together xs ys) ∙ or_same (exists_map f (λ y. x ++ y) ys) (exists_together f xs ys)

pub exists_only : (f : List ℕ → Bool) (b : Bool) (xs : List (List ℕ)) → exists f (only_if b xs) ≡ (b && exists f xs)
unfolding exists only_if
exists_only f true xs = refl
exists_only f false xs = refl

pub exists_ways : (b e : Bool) (f : List ℕ → Bool) (xs ys zs : List (List ℕ)) {both left right : Bool}
    → both ≡ exists f xs → left ≡ exists f ys → right ≡ exists f zs → alternatives b e both left right ≡ exists f (ways b e xs ys zs)
unfolding alternatives ways
exists_ways true true f xs ys zs p q r = p
exists_ways true false f xs ys zs p q r = q
exists_ways false true f xs ys zs p q r = r
exists_ways false false f xs ys zs p q r = or_same q r ∙ sym (exists_append f ys zs)

module _ (m : Model) (s : State) (a : ℕ) (t : State) where
  abbrev C : List ℕ → (List ℕ → Bool) → List ℕ → Bool
  C = choosing m s a t

  choosing_ext : (ks : List ℕ) (f g : List ℕ → Bool) → ((v : List ℕ) → f v ≡ g v) → (u : List ℕ) → C ks f u ≡ C ks g u
  unfolding choosing
  choosing_ext [] f g h u = h u
  choosing_ext (k ∷ ks) f g h u = exists_ext _ _ (candidates m s a t k) (λ e i. choosing_ext ks f g h (uncovered u e))

  choosing_append : (ks ls : List ℕ) (f : List ℕ → Bool) (u : List ℕ) → C (ks ++ ls) f u ≡ C ks (λ v. C ls f v) u
  unfolding choosing
  choosing_append [] ls f u = refl
  choosing_append (k ∷ ks) ls f u = exists_ext _ _ (candidates m s a t k) (λ e i. choosing_append ks ls f (uncovered u e))

  choosing_exists : {A : Type 0} (ks : List ℕ) (f : A → List ℕ → Bool) (l : List A) (u : List ℕ) → C ks (λ v. exists (λ y. f y v) l) u ≡ exists (λ y. C ks (f y) u) l
  unfolding choosing
  choosing_exists [] f l u = refl
  choosing_exists (k ∷ ks) f l u =
      exists_ext _ _ (candidates m s a t k) (λ e i. choosing_exists ks f l (uncovered u e))
      ∙ exists_swap (λ e y. C ks (f y) (uncovered u e)) (candidates m s a t k) l

  choosing_and : (ks : List ℕ) (b : Bool) (f : List ℕ → Bool) (u : List ℕ) → C ks (λ v. b && f v) u ≡ (b && C ks f u)
  unfolding choosing
  choosing_and [] b f u = refl
  choosing_and (k ∷ ks) b f u =
      exists_ext _ _ (candidates m s a t k) (λ e i. choosing_and ks b f (uncovered u e)) ∙ sym (exists_and b (λ e. C ks f (uncovered u e)) (candidates m s a t k))

  -- The composition takes the action exactly when one of its sets of takers can choose.
  pub takes_sets : (c : Tree) (on : List ℕ → Bool) (u : List ℕ) → takes_on m s a t c on u ≡ exists (λ ks. C ks on u) (taker_sets m s a t c)
  unfolding takes_on taker_sets
  takes_sets (par c d) on u =
      let f : List ℕ → Bool = λ ks. C ks on u in
      let P = taker_sets m s a t c in
      let Q = taker_sets m s a t d in
      exists_ways (in_set m a c) (in_set m a d) f (together P Q) (only_if (all_unmoved s t d) P) (only_if (all_unmoved s t c) Q)
      (takes_sets c (λ v. takes_on m s a t d on v) u
      ∙ exists_ext _ _ P (λ x i.
      choosing_ext x (λ v. takes_on m s a t d on v) (λ v. exists (λ y. C y on v) Q) (λ v. takes_sets d on v) u
      ∙ choosing_exists x (λ y v. C y on v) Q u
      ∙ exists_ext _ _ Q (λ y j. sym (choosing_append x y on u)))
      ∙ sym (exists_together f P Q))
      (takes_sets c (λ v. rests_on s t d on v) u
      ∙ exists_ext _ _ P (λ x i. choosing_and x (all_unmoved s t d) on u)
      ∙ sym (exists_and (all_unmoved s t d) f P) ∙ sym (exists_only f (all_unmoved s t d) P))
      (ap (λ b. all_unmoved s t c && b) (takes_sets d on u) ∙ sym (exists_only f (all_unmoved s t c) Q))
  takes_sets (syn list c) on u = takes_sets c on u
  takes_sets (ini p c) on u = takes_sets c on u
  takes_sets (leaf k) on u = unfold choosing exists in sym (or-false (exists (λ e. on (uncovered u e)) (candidates m s a t k)))

-- The search says whether some move of the composition fits the step.
pub search_is : (m : Model) → Lawful m → (s : State) (a : ℕ) (t : State) → search m s a t ≡ exists (fits m s t) (moves m a m.tree)
unfolding search
search_is m lawful s a t = sym (takes_sets m s a t m.tree is_covered (changed_in m s t)) ∙ unpruned_is m s a t lawful.tree.in_order
