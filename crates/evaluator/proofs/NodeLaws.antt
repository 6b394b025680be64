-- Each way out of the code of src/lib.rt.
use mathlib.Core.Path.{◌≡◌, refl, sym, ap, ◌∙◌}
use mathlib.Core.Bool.{Bool, true, false, not, cond, ◌&&◌, ◌||◌, and-false, or-false}
use mathlib.Core.List.{List}
use native.Mathlib.Omega.{arith}
use Prim.Native.Nat.{ℕ, zero, suc, ◌+◌, ◌-◌, ◌<◌, ◌≤◌}
use native.Mathlib.Numerals.{sub-one}
use borrow.Author.Tests.{lt-ltb, le-ltb}
use lib.IntN.{ℤ, pos, ◌+ℤ◌, ◌-ℤ◌, ◌*ℤ◌}
use lib.Signed.{le_z}
use lib.ListN.{length, get_or}
use Rattle.model.specs.Basic.{eq_z}
use Rattle.model.specs.Table.{word_of, unbiased}
use Rattle.node_words.specs.declared.Node.{Node}
use Rattle.node_words.specs.declared.Node.TheVariants.{All, Any, Not, Imp, Eq, Le, Number, Old, New, Add, Sub, Mul, If}
use Rattle.node_words.specs.Nodes.{meant, node_of}
use Rattle.node_words.proofs.NodeLaws.{word_by, Other, by_others, begin_predicates, begin_expressions}
use Rattle.arithmetic.specs.Cut.{cut}
use Rattle.evaluator.specs.declared.nodes.Truth.{Truth}
use Rattle.evaluator.specs.declared.nodes.Value.{Value}
use Rattle.evaluator.specs.declared.nodes.Gathered.{Gathered}
use Rattle.evaluator.specs.declared.nodes.Pair.{Pair}
use Rattle.evaluator.specs.Evaluate.{truth, valued, gathered, paired, Predicates, Expressions, gather, implication, numbers, choice, predicate_by, expression_by, predicate_step, expression_step, predicate_at, expression_at}
use Rattle.evaluator.proofs.Steps.{predicate_is, expression_is}

module _ (words : List ℕ) (before after : List ℤ) where
  abbrev P : Predicates
  P = predicate_at words before after

  abbrev E : Expressions
  E = expression_at words before after

  -- `operands`
  pub gather_more : (n i left at : ℕ) (all any : Bool) → i < n
      → gather P (n - i) left at all any
      ≡ gather P (n - (i + 1)) (P left at).left (P left at).next (all && (P left at).holds) (any || (P left at).holds)
  unfolding gather
  gather_more n i left at all any l =
      let e : n - i ≡ suc (n - (i + 1)) = omega arith in
      ap (λ m. gather P m left at all any) e

  -- where no node is left, the next operand is none, and so are all after it
  no_node : (at : ℕ) → P 0 at ≡ truth false at 0
  unfolding predicate_step
  no_node at = predicate_is words before after 0 at

  gather_none : (n at : ℕ) (all any : Bool) → gather P (suc n) 0 at all any ≡ gathered false any at 0
  unfolding gather
  gather_none zero at all any = rw (no_node at, and-false all, or-false any)
  gather_none (suc n) at all any =
      ap (λ (t : Truth). gather P (suc n) t.left t.next (all && t.holds) (any || t.holds)) (no_node at)
      ∙ gather_none n at (all && false) (any || false)
      ∙ ap (λ (b : Bool). gathered false b at 0) (or-false any)

  pub gather_stops : (n i left at : ℕ) (all any : Bool) → i < n → left ≡ 0
      → gathered false any at left ≡ gather P (n - i) left at all any
  gather_stops n i left at all any l h =
      let e : n - i ≡ suc (n - (i + 1)) = omega arith in
      rw (h, e) (sym (gather_none (n - (i + 1)) at all any))

  module _ (left at : ℕ) where
    pub none_p : left ≡ 0 → (r : Truth) → r ≡ truth false at left → r ≡ P left at
    unfolding predicate_step
    none_p z r e = rw (predicate_is words before after left at, z) (rw z at e)

    pub none_e : left ≡ 0 → (r : Value) → r ≡ valued (pos 0) at left → r ≡ E left at
    unfolding expression_step
    none_e z r e = rw (expression_is words before after left at, z) (rw z at e)

    module _ (z : left ≡ 0 → ⊥) where
      pub past_p : length words ≤ at → (r : Truth) → r ≡ truth false at (left - 1) → r ≡ P left at
      unfolding predicate_step
      past_p h r e = go left z e
        where
          go : (n : ℕ) → (n ≡ 0 → ⊥) → r ≡ truth false at (n - 1) → r ≡ P n at
          go zero y f = absurd (y refl)
          go (suc n) y f = rw (predicate_is words before after (suc n) at, le-ltb at (length words) h, predicate_step) (rw (sub-one (suc n)) at f)

      pub past_e : length words ≤ at → (r : Value) → r ≡ valued (pos 0) at (left - 1) → r ≡ E left at
      unfolding expression_step
      past_e h r e = go left z e
        where
          go : (n : ℕ) → (n ≡ 0 → ⊥) → r ≡ valued (pos 0) at (n - 1) → r ≡ E n at
          go zero y f = absurd (y refl)
          go (suc n) y f = rw (expression_is words before after (suc n) at, le-ltb at (length words) h, expression_step) (rw (sub-one (suc n)) at f)

      -- the node at `at`, by its word
      module _ (h : at < length words) where
        abbrev w : ℕ
        w = get_or words at 0

        by_word_p : P left at ≡ predicate_by P E (word_of w) (left - 1) (at + 1)
        unfolding predicate_step
        by_word_p = go left z
          where
            go : (n : ℕ) → (n ≡ 0 → ⊥) → P n at ≡ predicate_by P E (word_of w) (n - 1) (at + 1)
            go zero y = absurd (y refl)
            go (suc n) y = predicate_is words before after (suc n) at ∙ rw (sub-one (suc n), lt-ltb at (length words) h, predicate_step)

        by_word_e : E left at ≡ expression_by P E before after (word_of w) (left - 1) (at + 1)
        unfolding expression_step
        by_word_e = go left z
          where
            go : (n : ℕ) → (n ≡ 0 → ⊥) → E n at ≡ expression_by P E before after (word_of w) (n - 1) (at + 1)
            go zero y = absurd (y refl)
            go (suc n) y = expression_is words before after (suc n) at ∙ rw (sub-one (suc n), lt-ltb at (length words) h, expression_step)

        -- by its node, one of a predicate's or of an expression's
        module _ (n : Node) (is : n ≡ node_of w) where
          by_node_p : (m : Node) → n ≡ m → P left at ≡ predicate_by P E (meant m) (left - 1) (at + 1)
          by_node_p m h = by_word_p ∙ rw (word_by w n m is h)

          by_node_e : (m : Node) → n ≡ m → E left at ≡ expression_by P E before after (meant m) (left - 1) (at + 1)
          by_node_e m h = by_word_e ∙ rw (word_by w n m is h)

          module _ (r : Truth) where
            pub all_p : (k : ℕ) → n ≡ All k → (i : ℕ) → i ≡ k → (g : Gathered) → g ≡ gather P i (left - 1) (at + 1) true false → r ≡ truth g.all g.next g.left → r ≡ P left at
            unfolding predicate_by meant
            all_p k h i hi g hg hr = rw (by_node_p (All k) h, ← hi, ← hg) hr

            pub any_p : (k : ℕ) → n ≡ Any k → (i : ℕ) → i ≡ k → (g : Gathered) → g ≡ gather P i (left - 1) (at + 1) true false → r ≡ truth g.any g.next g.left → r ≡ P left at
            unfolding predicate_by meant
            any_p k h i hi g hg hr = rw (by_node_p (Any k) h, ← hi, ← hg) hr

            pub not_p : n ≡ Not → (p : Truth) → p ≡ P (left - 1) (at + 1) → r ≡ truth (not p.holds) p.next p.left → r ≡ P left at
            unfolding predicate_by meant
            not_p h p hp hr = rw (by_node_p Not h, ← hp) hr

            pub imp_p : n ≡ Imp → r ≡ implication P (left - 1) (at + 1) → r ≡ P left at
            unfolding predicate_by meant
            imp_p h hr = rw (by_node_p Imp h) hr

            pub eq_p : n ≡ Eq → (x : Pair) → x ≡ numbers E (left - 1) (at + 1) → r ≡ truth (eq_z x.first x.second) x.next x.left → r ≡ P left at
            unfolding predicate_by meant
            eq_p h x hx hr = rw (by_node_p Eq h, ← hx) hr

            pub le_p : n ≡ Le → (x : Pair) → x ≡ numbers E (left - 1) (at + 1) → r ≡ truth (le_z x.first x.second) x.next x.left → r ≡ P left at
            unfolding predicate_by meant
            le_p h x hx hr = rw (by_node_p Le h, ← hx) hr

            pub stray_p : Other begin_predicates n → r ≡ truth false (at + 1) (left - 1) → r ≡ P left at
            unfolding predicate_by meant
            stray_p o hr =
                let said : Truth = truth false (at + 1) (left - 1) in
                let same : (k : ℕ) → said ≡ said = λ k. refl in
                rw (by_node_p n refl)
                (hr ∙ by_others (λ (m : Node). said ≡ predicate_by P E (meant m) (left - 1) (at + 1)) begin_predicates n o
                (tt, tt, tt, tt, tt, tt, same, same, same, refl, refl, refl, refl, refl))

          module _ (r : Value) where
            pub num_e : (k : ℕ) → n ≡ Number k → r ≡ valued (unbiased k) (at + 1) (left - 1) → r ≡ E left at
            unfolding expression_by meant
            num_e k h hr = rw (by_node_e (Number k) h) hr

            pub old_e : (k : ℕ) → n ≡ Old k → r ≡ valued (get_or before k (pos 0)) (at + 1) (left - 1) → r ≡ E left at
            unfolding expression_by meant
            old_e k h hr = rw (by_node_e (Old k) h) hr

            pub new_e : (k : ℕ) → n ≡ New k → r ≡ valued (get_or after k (pos 0)) (at + 1) (left - 1) → r ≡ E left at
            unfolding expression_by meant
            new_e k h hr = rw (by_node_e (New k) h) hr

            pub add_e : n ≡ Add → (x : Pair) → x ≡ numbers E (left - 1) (at + 1) → r ≡ valued (cut (x.first +ℤ x.second)) x.next x.left → r ≡ E left at
            unfolding expression_by meant
            add_e h x hx hr = rw (by_node_e Add h, ← hx) hr

            pub sub_e : n ≡ Sub → (x : Pair) → x ≡ numbers E (left - 1) (at + 1) → r ≡ valued (cut (x.first -ℤ x.second)) x.next x.left → r ≡ E left at
            unfolding expression_by meant
            sub_e h x hx hr = rw (by_node_e Sub h, ← hx) hr

            pub mul_e : n ≡ Mul → (x : Pair) → x ≡ numbers E (left - 1) (at + 1) → r ≡ valued (cut (x.first *ℤ x.second)) x.next x.left → r ≡ E left at
            unfolding expression_by meant
            mul_e h x hx hr = rw (by_node_e Mul h, ← hx) hr

            pub if_e : n ≡ If → r ≡ choice P E (left - 1) (at + 1) → r ≡ E left at
            unfolding expression_by meant
            if_e h hr = rw (by_node_e If h) hr

            pub stray_e : Other begin_expressions n → r ≡ valued (pos 0) (at + 1) (left - 1) → r ≡ E left at
            unfolding expression_by meant
            stray_e o hr =
                let said : Value = valued (pos 0) (at + 1) (left - 1) in
                let same : (k : ℕ) → said ≡ said = λ k. refl in
                rw (by_node_e n refl)
                (hr ∙ by_others (λ (m : Node). said ≡ expression_by P E before after (meant m) (left - 1) (at + 1)) begin_expressions n o
                (same, same, refl, refl, refl, refl, tt, tt, tt, tt, tt, tt, tt, refl))

pub ruleset predicate_laws = (none_p, past_p, all_p, any_p, not_p, imp_p, eq_p, le_p, stray_p)

pub ruleset expression_laws = (none_e, past_e, num_e, old_e, new_e, add_e, sub_e, mul_e, if_e, stray_e)

-- `implication`, `numbers`, `choice`
pub implication_by : (P : Predicates) (left at : ℕ) (p q : Truth) → p ≡ P left at → q ≡ P p.left p.next → (r : Truth) → r ≡ truth (not p.holds || q.holds) q.next q.left → r ≡ implication P left at
unfolding implication
implication_by P left at p q hp hq r hr = rw (← hp, ← hq) hr

pub numbers_by : (E : Expressions) (left at : ℕ) (x y : Value) → x ≡ E left at → y ≡ E x.left x.next → paired x.number y.number y.next y.left ≡ numbers E left at
unfolding numbers
numbers_by E left at x y hx hy = rw (← hx, ← hy)

pub choice_by : (P : Predicates) (E : Expressions) (left at : ℕ) (p : Truth) (n : Pair) → p ≡ P left at → n ≡ numbers E p.left p.next → (r : Value) → r ≡ valued (cond p.holds n.first n.second) n.next n.left → r ≡ choice P E left at
unfolding choice
choice_by P E left at p n hp hn r hr = rw (← hp, ← hn) hr
