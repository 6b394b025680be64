-- Predicates by their sorts alone: the stack of `Parse` with the trees forgotten. It is: the law sorts_are.
use Rattle.std.specs.Prelude as Std
use Rattle.std.specs.Prelude.{Some, None, ℕ, zero, suc, ◌≤◌, ◌+◌, ◌≡◌, Bool, true, false, List, [], ◌∷◌, get_or}
use Rattle.std.specs.Bool.{beq}
use Rattle.std.proofs.Math.Option.{Option, none, some}
use Rattle.model.specs.Basic.{on_some}
use Rattle.model.specs.Predicate.{Word, all_of, any_of, not_word, imp_word, eq_word, le_word, num_word}
use Rattle.model.specs.Predicate.{old_word, new_word, add_word, sub_word, mul_word, if_word, stray}
use Rattle.read_predicate.specs.declared.formed.Arity.{Arity}
use Rattle.read_predicate.specs.Scratch.{Scratch}

-- so many predicates, then so many expressions are its operands; and is it a predicate itself?
abbrev pub takes : (preds exprs : ℕ) (sort : Bool) → Std.Option Arity
takes p x sort = Some (record { preds = p; exprs = x; sort = sort })

unfoldable pub arity_of : Word → Std.Option Arity
arity_of (all_of k) = takes k 0 true
arity_of (any_of k) = takes k 0 true
arity_of not_word = takes 1 0 true
arity_of imp_word = takes 2 0 true
arity_of eq_word = takes 0 2 true
arity_of le_word = takes 0 2 true
arity_of (num_word z) = takes 0 0 false
arity_of (old_word k) = takes 0 0 false
arity_of (new_word k) = takes 0 0 false
arity_of add_word = takes 0 2 false
arity_of sub_word = takes 0 2 false
arity_of mul_word = takes 0 2 false
arity_of if_word = takes 1 2 false
arity_of stray = None

-- A stack of sorts, `true` for a predicate, the top first. Take so many of a sort off it.
unfoldable pub take_off : ℕ → Bool → List Bool → Option (List Bool)
take_off zero sort s = some s
take_off (suc k) sort [] = none
take_off (suc k) sort (x ∷ s) = elim (beq x sort) [ true ↦ take_off k sort s | false ↦ none ]

unfoldable pub push_sort : Std.Option Arity → List Bool → Option (List Bool)
push_sort (Some a) s =
    on_some (λ s₁. on_some (λ s₂. some (a.sort ∷ s₂)) (take_off a.exprs false s₁)) (take_off a.preds true s)
push_sort None s = none

unfoldable pub sort_stack : List Word → Option (List Bool)
sort_stack [] = some []
sort_stack (w ∷ ws) = on_some (push_sort (arity_of w)) (sort_stack ws)

-- one predicate is left, and nothing else
unfoldable pub sole : Option (List Bool) → Bool
sole none = false
sole (some []) = false
sole (some (x ∷ [])) = x
sole (some (x ∷ y ∷ s)) = false

-- As the code has the stack: the first `height` of a list of sorts, the top last.
unfoldable pub stacked : List Bool → (height : ℕ) → List Bool
stacked sorts zero = []
stacked sorts (suc h) = get_or sorts h false ∷ stacked sorts h

unfoldable pub stack_at : List Bool → Std.Option ℕ → Option (List Bool)
stack_at sorts (Some h) = some (stacked sorts h)
stack_at sorts None = none

unfoldable pub taken_from : List Bool → (sort : Bool) (count height : ℕ) → Std.Option ℕ
taken_from sorts sort zero h = Some h
taken_from sorts sort (suc k) zero = None
taken_from sorts sort (suc k) (suc h) =
    elim (beq (get_or sorts h false) sort) [ true ↦ taken_from sorts sort k h | false ↦ None ]

-- at most so high
unfoldable pub Below : ℕ → Std.Option ℕ → Type 0
Below n (Some h) = h ≤ n
Below n None = Unit

-- what a step leaves of the stack
pub record Pushed (a : Std.Option Arity) (old new : List Bool) (height : ℕ) (r : Std.Option ℕ) : Type 0 where
  pub stack : stack_at new r ≡ push_sort a (stacked old height)
  pub low : Below (height + 1) r
  pub kept : Scratch old new
