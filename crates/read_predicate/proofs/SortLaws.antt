-- The stack of sorts is the stack of `Parse` with the trees forgotten, so that it says whether the words are well-formed.
use Prim.Native.Nat.{ℕ, zero, suc}
use mathlib.Core.Path.{◌≡◌, refl, sym, ◌∙◌, ap}
use mathlib.Core.Bool.{Bool, true, false, not}
use mathlib.Core.List.{List, [], ◌∷◌, map}
use mathlib.Core.Option.{Option, none, some}
use lib.ListN.{drop}
use Rattle.model.specs.Basic.{on_some, lacks}
use Rattle.model.specs.Predicate as P
use Rattle.model.specs.Predicate.{Preds, Expr, Word, all, any, eq, le, more, add, sub, mul, choose, all_of, any_of, not_word, imp_word, eq_word, le_word, num_word, old_word, new_word, add_word, sub_word, mul_word, if_word, stray}
use Rattle.model.specs.Parse.{Item, predicate, expression, Stack, pop_pred, pop_expr, pop_preds, push, stack, sole_pred, read_pred}
use Rattle.read_predicate.specs.Formed.{arity_of, take_off, push_sort, sort_stack, sole}

-- the sort of what is on the stack
unfoldable pub sort_of : Item → Bool
sort_of (predicate p) = true
sort_of (expression x) = false

unfoldable pub sorts_of : Option Stack → Option (List Bool)
sorts_of none = none
sorts_of (some s) = some (map sort_of s)

-- the operands of `all` and `any`
preds_off : (k : ℕ) (s : Stack) (next : Preds → Stack → Option Stack) (g : List Bool → Option (List Bool))
    → ((ps : Preds) (s₁ : Stack) → sorts_of (next ps s₁) ≡ g (map sort_of s₁)) → sorts_of (pop_preds k s next) ≡ on_some g (take_off k true (map sort_of s))
unfolding pop_preds pop_pred take_off sort_of sorts_of on_some
preds_off zero s next g h = h P.none s
preds_off (suc k) [] next g h = refl
preds_off (suc k) (predicate p ∷ s) next g h = preds_off k s (λ ps s₁. next (more p ps) s₁) g (λ ps s₁. h (more p ps) s₁)
preds_off (suc k) (expression x ∷ s) next g h = refl

-- two expressions that make one item of a sort
module _ (f : Expr → Expr → Item) (sort : Bool) (h : (x y : Expr) → sort_of (f x y) ≡ sort) where
  exprs_off : (s : Stack) → sorts_of (pop_expr s (λ x s₁. pop_expr s₁ (λ y s₂. some (f x y ∷ s₂)))) ≡ on_some (λ s₂. some (sort ∷ s₂)) (take_off 2 false (map sort_of s))
  unfolding pop_expr take_off sort_of sorts_of on_some
  exprs_off [] = refl
  exprs_off (predicate p ∷ s) = refl
  exprs_off (expression x ∷ []) = refl
  exprs_off (expression x ∷ predicate p ∷ s) = refl
  exprs_off (expression x ∷ expression y ∷ s) = ap (λ (b : Bool). some (b ∷ map sort_of s)) (h x y)

push_sorts : (w : Word) (s : Stack) → sorts_of (push w s) ≡ push_sort (arity_of w) (map sort_of s)
unfolding push push_sort arity_of take_off sort_of sorts_of on_some pop_pred
push_sorts (all_of k) s = preds_off k s (λ ps s₁. some (predicate (all ps) ∷ s₁)) (λ s₁. some (true ∷ s₁)) (λ ps s₁. refl)
push_sorts (any_of k) s = preds_off k s (λ ps s₁. some (predicate (any ps) ∷ s₁)) (λ s₁. some (true ∷ s₁)) (λ ps s₁. refl)
push_sorts not_word [] = refl
push_sorts not_word (predicate p ∷ s) = refl
push_sorts not_word (expression x ∷ s) = refl
push_sorts imp_word [] = refl
push_sorts imp_word (predicate p ∷ []) = refl
push_sorts imp_word (predicate p ∷ predicate q ∷ s) = refl
push_sorts imp_word (predicate p ∷ expression x ∷ s) = refl
push_sorts imp_word (expression x ∷ s) = refl
push_sorts eq_word s = exprs_off (λ x y. predicate (eq x y)) true (λ x y. refl) s
push_sorts le_word s = exprs_off (λ x y. predicate (le x y)) true (λ x y. refl) s
push_sorts (num_word z) s = refl
push_sorts (old_word k) s = refl
push_sorts (new_word k) s = refl
push_sorts add_word s = exprs_off (λ x y. expression (add x y)) false (λ x y. refl) s
push_sorts sub_word s = exprs_off (λ x y. expression (sub x y)) false (λ x y. refl) s
push_sorts mul_word s = exprs_off (λ x y. expression (mul x y)) false (λ x y. refl) s
push_sorts if_word [] = refl
push_sorts if_word (predicate p ∷ s) = exprs_off (λ x y. expression (choose p x y)) false (λ x y. refl) s
push_sorts if_word (expression x ∷ s) = refl
push_sorts stray s = refl

pub sorts_are : (ws : List Word) → sort_stack ws ≡ sorts_of (stack ws)
unfolding sort_stack stack sorts_of
sorts_are [] = refl
sorts_are (w ∷ ws) = ap (on_some (push_sort (arity_of w))) (sorts_are ws) ∙ go (stack ws)
  where
    go : (o : Option Stack) → on_some (push_sort (arity_of w)) (sorts_of o) ≡ sorts_of (on_some (push w) o)
    go none = unfold on_some in refl
    go (some s) = unfold on_some in sym (push_sorts w s)

-- the words are well-formed exactly when the sort of one predicate is left
pub formed_by_sorts : (ws : List Word) → not (lacks (read_pred ws)) ≡ sole (sort_stack ws)
unfolding read_pred
formed_by_sorts ws = go (stack ws) ∙ ap sole (sym (sorts_are ws))
  where
    go : (o : Option Stack) → not (lacks (on_some sole_pred o)) ≡ sole (sorts_of o)
    go none = unfold on_some lacks sole sorts_of in refl
    go (some []) = unfold on_some lacks sole sorts_of sole_pred in refl
    go (some (predicate p ∷ [])) = unfold on_some lacks sole sorts_of sort_of sole_pred in refl
    go (some (predicate p ∷ i ∷ s)) = unfold on_some lacks sole sorts_of sort_of sole_pred in refl
    go (some (expression x ∷ [])) = unfold on_some lacks sole sorts_of sort_of sole_pred in refl
    go (some (expression x ∷ i ∷ s)) = unfold on_some lacks sole sorts_of sort_of sole_pred in refl

-- words before the first that fails cannot mend it
pub sorts_none : (f : ℕ → Word) (i : ℕ) (l : List ℕ) → sort_stack (map f (drop i l)) ≡ none → sort_stack (map f l) ≡ none
unfolding sort_stack on_some
sorts_none f zero l h = h
sorts_none f (suc i) [] h = h
sorts_none f (suc i) (w ∷ l) h = ap (on_some (push_sort (arity_of (f w)))) (sorts_none f i l h)
