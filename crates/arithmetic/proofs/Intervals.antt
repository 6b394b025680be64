-- Row 10 is what the evaluator needs: an expression's value lies in its interval, so in a predicate whose intervals all stay
-- in the span no number on the way leaves the range of an i64.
use mathlib.Core.Path.{◌≡◌, sym, ◌∙◌}
use mathlib.Core.Bool.{true, false, ◌||◌}
use mathlib.Core.List.{List, ◌++◌}
use Prim.Native.Nat.{ℕ}
use borrow.Author.Tests.{leb-false}
use lib.IntN.{ℤ, pos}
use lib.ListN.{length, get_or}
use lib.Dec.{leb}
use Rattle.model.specs.Basic.{between, exists}
use Rattle.model.specs.Bounds.{least_value, greatest_value}
use Rattle.model.specs.Predicate.{Pred, Preds, Expr, Word, all, any, negate, imp, eq, le, none, more, num, old, new, add, sub, mul, choose, holds, value, words, words_all, words_of, named, is_outside, names_outside, Range, range, interval, stays, all_stay, all_stay_all, all_stay_in}
use Rattle.model.proofs.Tests.{and_left, and_right, exists_append, or_none_left, or_none_right}
use Rattle.arithmetic.specs.Values.{Inside, Small, SmallAll, SmallIn, Held}
use Rattle.arithmetic.proofs.Order.{Within, Le-refl, between_Within, Within-between, add_within, sub_within, times_within, hull_either, span_within, span_fits}

module _ (count : ℕ) (k l : List Word) (h : names_outside count (k ++ l) ≡ false) where
  pub named_first : names_outside count k ≡ false
  unfolding names_outside
  named_first = or_none_left _ (names_outside count l) (sym (exists_append _ k l) ∙ h)

  pub named_next : names_outside count l ≡ false
  unfolding names_outside
  named_next = or_none_right (names_outside count k) _ (sym (exists_append _ k l) ∙ h)

module _ (declared : List Range) (before after : List ℤ) (olds : Inside declared before) (news : Inside declared after) where
  abbrev count : ℕ
  count = length declared

  -- a named variable is declared, so its value lies in its range
  variable : (values : List ℤ) → Inside declared values → (k : ℕ) → (leb count k || false) ≡ false → Within (get_or values k (pos 0)) (get_or declared k (range (pos 0) (pos 0)))
  variable values inside k h = between_Within _ _ (inside k (leb-false count k (or_none_left _ false h)))

  within : (x : Expr) → names_outside count (words_of x) ≡ false → Within (value before after x) (interval declared x)
  unfolding value interval words_of names_outside exists named is_outside range
  within (num z) h = record { low = Le-refl z; high = Le-refl z }
  within (old k) h = variable before olds k h
  within (new k) h = variable after news k h
  within (add x y) h =
      add_within _ _ _ _ (within x (named_first count (words_of x) (words_of y) h)) (within y (named_next count (words_of x) (words_of y) h))
  within (sub x y) h =
      sub_within _ _ _ _ (within x (named_first count (words_of x) (words_of y) h)) (within y (named_next count (words_of x) (words_of y) h))
  within (mul x y) h =
      times_within _ _ _ _ (within x (named_first count (words_of x) (words_of y) h)) (within y (named_next count (words_of x) (words_of y) h))
  within (choose p x y) h =
      let t = named_next count (words p) (words_of x ++ words_of y) h in
      hull_either _ _ _ _ (within x (named_first count (words_of x) (words_of y) t)) (within y (named_next count (words_of x) (words_of y) t)) (holds before after p)

  pub value_within : (x : Expr) → names_outside count (words_of x) ≡ false → between (interval declared x).low (interval declared x).high (value before after x) ≡ true
  value_within x h = Within-between _ _ (within x h)

  -- the value of an expression that row 10 lets pass is in the span of row 10
  pub value_spans : (x : Expr) → names_outside count (words_of x) ≡ false → stays declared x ≡ true → between least_value greatest_value (value before after x) ≡ true
  unfolding stays range
  value_spans x h s = Within-between _ (range least_value greatest_value) (span_within _ _ (within x h) s)

  -- so an i64 holds it
  pub value_fits : (x : Expr) → names_outside count (words_of x) ≡ false → stays declared x ≡ true → Held before after x
  unfolding stays
  value_fits x h s = span_fits _ _ (within x h) s

  mutual
    unfolding Small all_stay words names_outside exists named is_outside

    -- no number on the way leaves the range of an i64
    pub all_small : (p : Pred) → names_outside count (words p) ≡ false → all_stay declared p ≡ true → Small before after p
    all_small (all ps) h s = smalls ps h s
    all_small (any ps) h s = smalls ps h s
    all_small (negate p) h s = all_small p h s
    all_small (imp p q) h s =
        (all_small p (named_first count (words p) (words q) h) (and_left _ _ s), all_small q (named_next count (words p) (words q) h) (and_right (all_stay declared p) _ s))
    all_small (eq x y) h s =
        (small_in x (named_first count (words_of x) (words_of y) h) (and_left _ _ s), small_in y (named_next count (words_of x) (words_of y) h) (and_right (all_stay_in declared x) _ s))
    all_small (le x y) h s =
        (small_in x (named_first count (words_of x) (words_of y) h) (and_left _ _ s), small_in y (named_next count (words_of x) (words_of y) h) (and_right (all_stay_in declared x) _ s))

    smalls : (ps : Preds) → names_outside count (words_all ps) ≡ false → all_stay_all declared ps ≡ true → SmallAll before after ps
    smalls none h s = tt
    smalls (more p ps) h s =
        (all_small p (named_first count (words p) (words_all ps) h) (and_left _ _ s), smalls ps (named_next count (words p) (words_all ps) h) (and_right (all_stay declared p) _ s))

    small_in : (x : Expr) → names_outside count (words_of x) ≡ false → all_stay_in declared x ≡ true → SmallIn before after x
    small_in (num z) h s = value_fits (num z) h s
    small_in (old k) h s = value_fits (old k) h s
    small_in (new k) h s = value_fits (new k) h s
    small_in (add x y) h s =
        let t = and_right (all_stay_in declared x) _ s in
        (small_in x (named_first count (words_of x) (words_of y) h) (and_left _ _ s), small_in y (named_next count (words_of x) (words_of y) h) (and_left _ _ t), value_fits (add x y) h (and_right (all_stay_in declared y) _ t))
    small_in (sub x y) h s =
        let t = and_right (all_stay_in declared x) _ s in
        (small_in x (named_first count (words_of x) (words_of y) h) (and_left _ _ s), small_in y (named_next count (words_of x) (words_of y) h) (and_left _ _ t), value_fits (sub x y) h (and_right (all_stay_in declared y) _ t))
    small_in (mul x y) h s =
        let t = and_right (all_stay_in declared x) _ s in
        (small_in x (named_first count (words_of x) (words_of y) h) (and_left _ _ s), small_in y (named_next count (words_of x) (words_of y) h) (and_left _ _ t), value_fits (mul x y) h (and_right (all_stay_in declared y) _ t))
    small_in (choose p x y) h s =
        let h₁ = named_next count (words p) (words_of x ++ words_of y) h in
        let t = and_right (all_stay declared p) _ s in
        let u = and_right (all_stay_in declared x) _ t in
        (all_small p (named_first count (words p) (words_of x ++ words_of y) h) (and_left _ _ s), small_in x (named_first count (words_of x) (words_of y) h₁) (and_left _ _ t), small_in y (named_next count (words_of x) (words_of y) h₁) (and_left _ _ u), value_fits (choose p x y) h (and_right (all_stay_in declared y) _ u))
