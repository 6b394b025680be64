-- From words in prefix order back to a predicate, and from nodes back to a tree: the list is read from its right end,
-- and each word takes its operands off a stack and puts itself on. Well-formed is what leaves one predicate, one tree.
use Rattle.std.specs.Prelude.{ℕ, zero, suc, List, [], ◌∷◌}
use Rattle.std.proofs.Math.Option.{Option, none, some}
use Rattle.model.specs.Basic.{on_some}
use Rattle.model.specs.Predicate as P
use Rattle.model.specs.Predicate.{Pred, Preds, Expr, Word, all, any, negate, imp, eq, le, more, num, old, new}
use Rattle.model.specs.Predicate.{add, sub, mul, choose, all_of, any_of, not_word, imp_word, eq_word, le_word, num_word}
use Rattle.model.specs.Predicate.{old_word, new_word, add_word, sub_word, mul_word, if_word, stray}
use Rattle.model.specs.Composition.{Tree, Node, par, syn, ini, leaf, par_node, syn_node, ini_node, leaf_node}
use Rattle.model.specs.Composition.{stray_node}

pub data Item : Type 0 where
  predicate : Pred → Item
  expression : Expr → Item

abbrev pub Stack : Type 0
Stack = List Item

-- take one predicate, one expression, k predicates off the stack and go on with them
unfoldable pub pop_pred : Stack → (Pred → Stack → Option Stack) → Option Stack
pop_pred [] next = none
pop_pred (predicate p ∷ s) next = next p s
pop_pred (expression x ∷ s) next = none

unfoldable pub pop_expr : Stack → (Expr → Stack → Option Stack) → Option Stack
pop_expr [] next = none
pop_expr (predicate p ∷ s) next = none
pop_expr (expression x ∷ s) next = next x s

unfoldable pub pop_preds : ℕ → Stack → (Preds → Stack → Option Stack) → Option Stack
pop_preds zero s next = next P.none s
pop_preds (suc k) s next = pop_pred s (λ p s₁. pop_preds k s₁ (λ ps s₂. next (more p ps) s₂))

unfoldable pub push : Word → Stack → Option Stack
push (all_of k) s = pop_preds k s (λ ps s₁. some (predicate (all ps) ∷ s₁))
push (any_of k) s = pop_preds k s (λ ps s₁. some (predicate (any ps) ∷ s₁))
push not_word s = pop_pred s (λ p s₁. some (predicate (negate p) ∷ s₁))
push imp_word s = pop_pred s (λ p s₁. pop_pred s₁ (λ q s₂. some (predicate (imp p q) ∷ s₂)))
push eq_word s = pop_expr s (λ x s₁. pop_expr s₁ (λ y s₂. some (predicate (eq x y) ∷ s₂)))
push le_word s = pop_expr s (λ x s₁. pop_expr s₁ (λ y s₂. some (predicate (le x y) ∷ s₂)))
push (num_word z) s = some (expression (num z) ∷ s)
push (old_word k) s = some (expression (old k) ∷ s)
push (new_word k) s = some (expression (new k) ∷ s)
push add_word s = pop_expr s (λ x s₁. pop_expr s₁ (λ y s₂. some (expression (add x y) ∷ s₂)))
push sub_word s = pop_expr s (λ x s₁. pop_expr s₁ (λ y s₂. some (expression (sub x y) ∷ s₂)))
push mul_word s = pop_expr s (λ x s₁. pop_expr s₁ (λ y s₂. some (expression (mul x y) ∷ s₂)))
push if_word s = pop_pred s (λ p s₁. pop_expr s₁ (λ x s₂. pop_expr s₂ (λ y s₃. some (expression (choose p x y) ∷ s₃))))
push stray s = none

unfoldable pub stack : List Word → Option Stack
stack [] = some []
stack (w ∷ ws) = on_some (push w) (stack ws)

unfoldable pub sole_pred : Stack → Option Pred
sole_pred [] = none
sole_pred (predicate p ∷ []) = some p
sole_pred (predicate p ∷ i ∷ s) = none
sole_pred (expression x ∷ s) = none

unfoldable pub read_pred : List Word → Option Pred
read_pred ws = on_some sole_pred (stack ws)

-- the same for trees
unfoldable pub pop_tree : List Tree → (Tree → List Tree → Option (List Tree)) → Option (List Tree)
pop_tree [] next = none
pop_tree (c ∷ s) next = next c s

unfoldable pub push_node : Node → List Tree → Option (List Tree)
push_node par_node s = pop_tree s (λ c s₁. pop_tree s₁ (λ d s₂. some (par c d ∷ s₂)))
push_node (syn_node list) s = pop_tree s (λ c s₁. some (syn list c ∷ s₁))
push_node (ini_node p) s = pop_tree s (λ c s₁. some (ini p c ∷ s₁))
push_node (leaf_node k) s = some (leaf k ∷ s)
push_node stray_node s = none

unfoldable pub tree_stack : List Node → Option (List Tree)
tree_stack [] = some []
tree_stack (n ∷ ns) = on_some (push_node n) (tree_stack ns)

unfoldable pub sole_tree : List Tree → Option Tree
sole_tree [] = none
sole_tree (c ∷ []) = some c
sole_tree (c ∷ d ∷ s) = none

unfoldable pub read_tree : List Node → Option Tree
read_tree ns = on_some sole_tree (tree_stack ns)

-- Where an `ini` is read apart from its P, it has no P of its own yet; the P's are put in afterwards, in order. One for
-- which there is none is stray.
abbrev pub ini_alone : Node
ini_alone = ini_node (all P.none)

unfoldable pub with_starts : List Pred → List Node → List Node
with_starts ps [] = []
with_starts ps (par_node ∷ ns) = par_node ∷ with_starts ps ns
with_starts ps (syn_node list ∷ ns) = syn_node list ∷ with_starts ps ns
with_starts [] (ini_node q ∷ ns) = stray_node ∷ with_starts [] ns
with_starts (p ∷ ps) (ini_node q ∷ ns) = ini_node p ∷ with_starts ps ns
with_starts ps (leaf_node k ∷ ns) = leaf_node k ∷ with_starts ps ns
with_starts ps (stray_node ∷ ns) = stray_node ∷ with_starts ps ns
