-- Where a lawful predicate's words stand in the table, the evaluator gives what the predicate means, and uses as many
-- nodes as the predicate has.
use mathlib.Core.Path.{◌≡◌, ap, ap₂, ◌∙◌}
use mathlib.Core.Bool.{Bool, true, false, ◌&&◌, ◌||◌, and-true, or-false, and_assoc, or_assoc}
use mathlib.Core.List.{List, [], ◌∷◌, ◌++◌, map}
use Prim.Native.Nat.{ℕ, zero, suc, ◌+◌, ◌-◌, ◌<◌, ◌≤◌}
use native.Mathlib.Omega.{arith}
use native.Mathlib.Nat.{add-zero}
use native.Mathlib.Numerals.{add-one, sub-one}
use lib.IntN.{ℤ, ◌+ℤ◌, ◌-ℤ◌, ◌*ℤ◌}
use lib.ListN.{length, get_or, take, drop, length-append, length-take, length-drop}
use lib.Seq.{drop-cons}
use borrow.Author.Tests.{lt-ltb}
use Rattle.model.specs.Basic.{every}
use Rattle.model.specs.Bounds.{max_depth, max_nodes}
use Rattle.model.specs.Predicate.{Pred, Preds, Expr, all, any, negate, imp, eq, le, none, more, num, old, new, add, sub, mul, choose, operands, holds, all_hold, any_holds, value, Word, all_of, any_of, not_word, imp_word, eq_word, le_word, num_word, old_word, new_word, add_word, sub_word, mul_word, if_word, words, words_all, words_of, node_count, depth, depth_all, depth_of, Range}
use Rattle.model.specs.Limits.{in_range}
use Rattle.model.specs.Lawful.{LawfulPred}
use Rattle.model.specs.Table.{code}
use Rattle.model.proofs.Tests.{and_left, and_right}
use Rattle.arithmetic.specs.Values.{Inside, Small, SmallAll, SmallIn}
use Rattle.model.proofs.Decode.{word_back}
use Rattle.arithmetic.proofs.CutLaws.{cut_fits}
use Rattle.arithmetic.proofs.Intervals.{all_small}
use Rattle.evaluator.specs.declared.nodes.Truth.{Truth}
use Rattle.evaluator.proofs.Steps.{deep_p}
use Rattle.evaluator.specs.Evaluate.{truth, valued, gathered, Predicates, Expressions, gather, implication, numbers, choice, predicate_by, expression_by, predicate_step, expression_step, predicate_within, expression_within, predicate_at, evaluate}

-- nodes' words stand in w from `at` on, each in its range
record Stand (x : Word) (w : List ℕ) (at : ℕ) : Type 0 where
  below : at < length w
  coded : get_or w at 0 ≡ code x
  ranged : in_range x ≡ true

unfoldable Stands : List Word → List ℕ → ℕ → Type 0
Stands [] w at = Unit {0}
Stands (x ∷ l) w at = Stand x w at × Stands l w (at + 1)

stands : (l : List Word) (w : List ℕ) (at : ℕ) → take (length l) (drop at w) ≡ map code l → every in_range l ≡ true → Stands l w at
unfolding Stands every
stands [] w at e h = tt
stands (x ∷ l) w at e h =
    let size : length (take (suc (length l)) (drop at w)) ≡ suc (length (map code l)) = ap length e in
    let below : at < length w = omega (arith, length-take (suc (length l)) (drop at w), length-drop at w) in
    let front : get_or w at 0 ∷ take (length l) (drop (suc at) w) ≡ code x ∷ map code l = rw (drop-cons w at 0 below) at e in (
      record { below = below; coded = ap (λ (k : List ℕ). get_or k 0 0) front; ranged = and_left _ _ h },
      stands l w (at + 1) (rw (add-one at) (ap (λ (k : List ℕ). drop 1 k) front)) (and_right (in_range x) _ h),
    )

-- what stands in a row stands part by part
stands_first : (k l : List Word) (w : List ℕ) (at : ℕ) → Stands (k ++ l) w at → Stands k w at
unfolding Stands
stands_first [] l w at s = tt
stands_first (x ∷ k) l w at s = (s.0, stands_first k l w (at + 1) s.1)

stands_next : (k l : List Word) (w : List ℕ) (at : ℕ) → Stands (k ++ l) w at → Stands l w (at + length k)
unfolding Stands
stands_next [] l w at s = rw (add-zero at) s
stands_next (x ∷ k) l w at s =
    let e : at + suc (length k) ≡ at + 1 + length k = omega arith in
    rw e (stands_next k l w (at + 1) s.1)

module _ (w : List ℕ) (before after : List ℤ) where
  abbrev P : ℕ → Predicates
  P = predicate_within w before after

  abbrev E : ℕ → Expressions
  E = expression_within w before after

  -- one node, by its word
  node_p : (x : Word) (d left at : ℕ) → 0 < d → 0 < left → Stand x w at → P d left at ≡ predicate_by (P (d - 1)) (E (d - 1)) x (left - 1) (at + 1)
  unfolding predicate_within expression_within predicate_step
  node_p x zero left at h z s = absurd (omega arith)
  node_p x (suc d) zero at h z s = absurd (omega arith)
  node_p x (suc d) (suc n) at h z s = rw (sub-one (suc d), sub-one (suc n), lt-ltb at (length w) s.below, predicate_step, s.coded, word_back x s.ranged)

  node_e : (x : Word) (d left at : ℕ) → 0 < d → 0 < left → Stand x w at → E d left at ≡ expression_by (P (d - 1)) (E (d - 1)) before after x (left - 1) (at + 1)
  unfolding predicate_within expression_within expression_step
  node_e x zero left at h z s = absurd (omega arith)
  node_e x (suc d) zero at h z s = absurd (omega arith)
  node_e x (suc d) (suc n) at h z s = rw (sub-one (suc d), sub-one (suc n), lt-ltb at (length w) s.below, expression_step, s.coded, word_back x s.ranged)

  mutual
    unfolding words depth Stands Small holds operands predicate_by expression_by gather implication numbers choice

    right_p : (p : Pred) (d left at : ℕ) → depth p ≤ d → length (words p) ≤ left → Small before after p → Stands (words p) w at
        → P d left at ≡ truth (holds before after p) (at + length (words p)) (left - length (words p))
    right_p (all ps) d left at h n r s =
        node_p (all_of (operands ps)) d left at (omega arith) (omega arith) s.0
        ∙ rw (right_ps ps (d - 1) (left - 1) (at + 1) true false (omega arith) (omega arith) r s.1) (ap₂ (truth _) (omega arith) (omega arith))
    right_p (any ps) d left at h n r s =
        node_p (any_of (operands ps)) d left at (omega arith) (omega arith) s.0
        ∙ rw (right_ps ps (d - 1) (left - 1) (at + 1) true false (omega arith) (omega arith) r s.1) (ap₂ (truth _) (omega arith) (omega arith))
    right_p (negate p) d left at h n r s =
        node_p not_word d left at (omega arith) (omega arith) s.0
        ∙ rw (right_p p (d - 1) (left - 1) (at + 1) (omega arith) (omega arith) r s.1) (ap₂ (truth _) (omega arith) (omega arith))
    right_p (imp p q) d left at h n r s =
        let k = words p in
        let l = words q in
        let z = length-append k l in
        node_p imp_word d left at (omega arith) (omega arith) s.0
        ∙ rw (
          right_p p (d - 1) (left - 1) (at + 1) (omega arith) (omega arith) r.0 (stands_first k l w (at + 1) s.1),
          right_p q (d - 1) (left - 1 - length k) (at + 1 + length k) (omega arith) (omega arith) r.1 (stands_next k l w (at + 1) s.1),
        )
        (ap₂ (truth _) (omega arith) (omega arith))
    right_p (eq x y) d left at h n r s =
        let k = words_of x in
        let l = words_of y in
        let z = length-append k l in
        node_p eq_word d left at (omega arith) (omega arith) s.0
        ∙ rw (
          right_e x (d - 1) (left - 1) (at + 1) (omega arith) (omega arith) r.0 (stands_first k l w (at + 1) s.1),
          right_e y (d - 1) (left - 1 - length k) (at + 1 + length k) (omega arith) (omega arith) r.1 (stands_next k l w (at + 1) s.1),
        )
        (ap₂ (truth _) (omega arith) (omega arith))
    right_p (le x y) d left at h n r s =
        let k = words_of x in
        let l = words_of y in
        let z = length-append k l in
        node_p le_word d left at (omega arith) (omega arith) s.0
        ∙ rw (
          right_e x (d - 1) (left - 1) (at + 1) (omega arith) (omega arith) r.0 (stands_first k l w (at + 1) s.1),
          right_e y (d - 1) (left - 1 - length k) (at + 1 + length k) (omega arith) (omega arith) r.1 (stands_next k l w (at + 1) s.1),
        )
        (ap₂ (truth _) (omega arith) (omega arith))

    right_ps : (ps : Preds) (d left at : ℕ) (a b : Bool) → depth_all ps ≤ d → length (words_all ps) ≤ left → SmallAll before after ps → Stands (words_all ps) w at
        → gather (P d) (operands ps) left at a b ≡ gathered (a && all_hold before after ps) (b || any_holds before after ps) (at + length (words_all ps)) (left - length (words_all ps))
    right_ps none d left at a b h n r s = rw (add-zero at, and-true a, or-false b) (ap (gathered a b at) (omega arith))
    right_ps (more p ps) d left at a b h n r s =
        let k = words p in
        let l = words_all ps in
        let z = length-append k l in
        rw (
          right_p p d left at (omega arith) (omega arith) r.0 (stands_first k l w at s),
          right_ps ps d (left - length k) (at + length k) (a && holds before after p) (b || holds before after p) (omega arith) (omega arith) r.1 (stands_next k l w at s),
          and_assoc a (holds before after p) (all_hold before after ps),
          or_assoc b (holds before after p) (any_holds before after ps),
          gather,
        )
        (ap₂ (gathered _ _) (omega arith) (omega arith))

    right_e : (x : Expr) (d left at : ℕ) → depth_of x ≤ d → length (words_of x) ≤ left → SmallIn before after x → Stands (words_of x) w at
        → E d left at ≡ valued (value before after x) (at + length (words_of x)) (left - length (words_of x))
    right_e (num z) d left at h n r s = node_e (num_word z) d left at (omega arith) (omega arith) s.0
    right_e (old k) d left at h n r s = node_e (old_word k) d left at (omega arith) (omega arith) s.0
    right_e (new k) d left at h n r s = node_e (new_word k) d left at (omega arith) (omega arith) s.0
    right_e (add x y) d left at h n r s =
        let k = words_of x in
        let l = words_of y in
        let z = length-append k l in
        node_e add_word d left at (omega arith) (omega arith) s.0
        ∙ rw (
          right_e x (d - 1) (left - 1) (at + 1) (omega arith) (omega arith) r.0 (stands_first k l w (at + 1) s.1),
          right_e y (d - 1) (left - 1 - length k) (at + 1 + length k) (omega arith) (omega arith) r.1 (stands_next k l w (at + 1) s.1),
          cut_fits (value before after x +ℤ value before after y) r.2,
        )
        (ap₂ (valued _) (omega arith) (omega arith))
    right_e (sub x y) d left at h n r s =
        let k = words_of x in
        let l = words_of y in
        let z = length-append k l in
        node_e sub_word d left at (omega arith) (omega arith) s.0
        ∙ rw (
          right_e x (d - 1) (left - 1) (at + 1) (omega arith) (omega arith) r.0 (stands_first k l w (at + 1) s.1),
          right_e y (d - 1) (left - 1 - length k) (at + 1 + length k) (omega arith) (omega arith) r.1 (stands_next k l w (at + 1) s.1),
          cut_fits (value before after x -ℤ value before after y) r.2,
        )
        (ap₂ (valued _) (omega arith) (omega arith))
    right_e (mul x y) d left at h n r s =
        let k = words_of x in
        let l = words_of y in
        let z = length-append k l in
        node_e mul_word d left at (omega arith) (omega arith) s.0
        ∙ rw (
          right_e x (d - 1) (left - 1) (at + 1) (omega arith) (omega arith) r.0 (stands_first k l w (at + 1) s.1),
          right_e y (d - 1) (left - 1 - length k) (at + 1 + length k) (omega arith) (omega arith) r.1 (stands_next k l w (at + 1) s.1),
          cut_fits (value before after x *ℤ value before after y) r.2,
        )
        (ap₂ (valued _) (omega arith) (omega arith))
    right_e (choose p x y) d left at h n r s =
        let j = words p in
        let k = words_of x in
        let l = words_of y in
        let t = stands_next j (k ++ l) w (at + 1) s.1 in
        let z = length-append k l in
        let u = length-append j (k ++ l) in
        node_e if_word d left at (omega arith) (omega arith) s.0
        ∙ rw (
          right_p p (d - 1) (left - 1) (at + 1) (omega arith) (omega arith) r.0 (stands_first j (k ++ l) w (at + 1) s.1),
          right_e x (d - 1) (left - 1 - length j) (at + 1 + length j) (omega arith) (omega arith) r.1 (stands_first k l w _ t),
          right_e y (d - 1) (left - 1 - length j - length k) (at + 1 + length j + length k) (omega arith) (omega arith) r.2 (stands_next k l w _ t),
        )
        (ap₂ (valued _) (omega arith) (omega arith))

module _ (declared : List Range) (before after : List ℤ) (olds : Inside declared before) (news : Inside declared after) (p : Pred) (w : List ℕ) (at : ℕ) where
  -- Nested as deep as the predicate is enough, so on a checked table the calls never go deeper than 24; and exactly the
  -- predicate's nodes are used.
  pub evaluate_shallow : (deep left : ℕ) → depth p ≤ deep → node_count p ≤ left → take (node_count p) (drop at w) ≡ map code (words p) → LawfulPred declared p
      → predicate_within w before after deep left at ≡ truth (holds before after p) (at + node_count p) (left - node_count p)
  unfolding node_count
  evaluate_shallow deep left shallow few stand h =
      right_p w before after p deep left at shallow few (all_small declared before after olds news p h.named h.spanned) (stands (words p) w at stand h.ranged)

  -- so, whatever is left besides, the predicate's nodes are enough
  pub evaluate_nodes : (left : ℕ) → node_count p ≤ left → take (node_count p) (drop at w) ≡ map code (words p) → LawfulPred declared p
      → predicate_at w before after left at ≡ truth (holds before after p) (at + node_count p) (left - node_count p)
  unfolding predicate_at
  evaluate_nodes left few stand h =
      let s : depth p ≤ max_depth = h.shallow in
      deep_p w before after left (left + max_depth) left at (omega arith) (omega arith)
      ∙ evaluate_shallow (left + max_depth) left (omega arith) few stand h

  pub evaluate_lawful : take (node_count p) (drop at w) ≡ map code (words p) → LawfulPred declared p → node_count p ≤ max_nodes → evaluate w before after at ≡ holds before after p
  unfolding evaluate
  evaluate_lawful stand h few = ap (λ (t : Truth). t.holds) (evaluate_nodes max_nodes few stand h)
