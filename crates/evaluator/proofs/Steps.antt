-- One step of the definitions in specs/Evaluate.antt, as the code tests it.
use mathlib.Core.Path.{◌≡◌, refl, sym, ap, ◌∙◌}
use mathlib.Core.Bool.{Bool, true, false, not, cond, ◌&&◌, ◌||◌}
use mathlib.Core.List.{List}
use Prim.Native.Nat.{ℕ, zero, suc, ◌+◌, ◌-◌, ◌≤◌}
use native.Mathlib.Omega.{arith}
use lib.IntN.{ℤ, pos}
use lib.ListN.{length, get_or}
use lib.Dec.{ltb}
use Rattle.model.specs.Predicate.{Word, all_of, any_of, not_word, imp_word, eq_word, le_word, num_word, old_word, new_word, add_word, sub_word, mul_word, if_word, stray}
use Rattle.model.specs.Table.{word_of}
use Rattle.evaluator.specs.declared.nodes.Truth.{Truth}
use Rattle.evaluator.specs.declared.nodes.Value.{Value}
use Rattle.evaluator.specs.declared.nodes.Pair.{Pair}
use Rattle.evaluator.specs.Evaluate.{truth, valued, paired, Predicates, Expressions, gather, implication, numbers, choice, predicate_by, expression_by, predicate_step, expression_step, predicate_within, expression_within, predicate_at, expression_at}

-- No reader leaves more nodes than it was given.
pub record Falls (P : Predicates) (E : Expressions) : Type 0 where
  pub predicates : (left at : ℕ) → (P left at).left ≤ left
  pub expressions : (left at : ℕ) → (E left at).left ≤ left

module _ (P : Predicates) (E : Expressions) (f : Falls P E) where
  gather_falls : (count left at : ℕ) (all any : Bool) → (gather P count left at all any).left ≤ left
  unfolding gather
  gather_falls zero left at all any = omega arith
  gather_falls (suc n) left at all any =
      let p = P left at in
      omega (arith, f.predicates left at, gather_falls n p.left p.next (all && p.holds) (any || p.holds))

  numbers_falls : (left at : ℕ) → (numbers E left at).left ≤ left
  unfolding numbers
  numbers_falls left at =
      let x = E left at in
      omega (arith, f.expressions left at, f.expressions x.left x.next)

  step_falls_p : (x : Word) (left at : ℕ) → (predicate_by P E x left at).left ≤ left
  unfolding predicate_by implication
  step_falls_p (all_of k) left at = gather_falls k left at true false
  step_falls_p (any_of k) left at = gather_falls k left at true false
  step_falls_p not_word left at = f.predicates left at
  step_falls_p imp_word left at =
      let p = P left at in
      omega (arith, f.predicates left at, f.predicates p.left p.next)
  step_falls_p eq_word left at = numbers_falls left at
  step_falls_p le_word left at = numbers_falls left at
  step_falls_p (num_word z) left at = omega arith
  step_falls_p (old_word k) left at = omega arith
  step_falls_p (new_word k) left at = omega arith
  step_falls_p add_word left at = omega arith
  step_falls_p sub_word left at = omega arith
  step_falls_p mul_word left at = omega arith
  step_falls_p if_word left at = omega arith
  step_falls_p stray left at = omega arith

  step_falls_e : (before after : List ℤ) (x : Word) (left at : ℕ) → (expression_by P E before after x left at).left ≤ left
  unfolding expression_by choice
  step_falls_e before after (all_of k) left at = omega arith
  step_falls_e before after (any_of k) left at = omega arith
  step_falls_e before after not_word left at = omega arith
  step_falls_e before after imp_word left at = omega arith
  step_falls_e before after eq_word left at = omega arith
  step_falls_e before after le_word left at = omega arith
  step_falls_e before after (num_word z) left at = omega arith
  step_falls_e before after (old_word k) left at = omega arith
  step_falls_e before after (new_word k) left at = omega arith
  step_falls_e before after add_word left at = numbers_falls left at
  step_falls_e before after sub_word left at = numbers_falls left at
  step_falls_e before after mul_word left at = numbers_falls left at
  step_falls_e before after if_word left at =
      let p = P left at in
      omega (arith, f.predicates left at, numbers_falls p.left p.next)
  step_falls_e before after stray left at = omega arith

-- Readers that agree up to n nodes left give the same node.
record Agree (P Q : Predicates) (E F : Expressions) (n : ℕ) : Type 0 where
  predicates : (left at : ℕ) → left ≤ n → P left at ≡ Q left at
  expressions : (left at : ℕ) → left ≤ n → E left at ≡ F left at

module _ (P Q : Predicates) (E F : Expressions) (n : ℕ) (f : Falls P E) (same : Agree P Q E F n) where
  gather_same : (count left at : ℕ) (all any : Bool) → left ≤ n → gather P count left at all any ≡ gather Q count left at all any
  unfolding gather
  gather_same zero left at all any h = refl
  gather_same (suc k) left at all any h =
      let p = P left at in
      let l = f.predicates left at in
      gather_same k p.left p.next (all && p.holds) (any || p.holds) (omega arith)
      ∙ ap (λ (t : Truth). gather Q k t.left t.next (all && t.holds) (any || t.holds)) (same.predicates left at h)

  implication_same : (left at : ℕ) → left ≤ n → implication P left at ≡ implication Q left at
  unfolding implication
  implication_same left at h =
      let p = P left at in
      let l = f.predicates left at in
      ap (λ (q : Truth). truth (not p.holds || q.holds) q.next q.left) (same.predicates p.left p.next (omega arith))
      ∙ ap (λ (t : Truth). let q = Q t.left t.next in truth (not t.holds || q.holds) q.next q.left) (same.predicates left at h)

  numbers_same : (left at : ℕ) → left ≤ n → numbers E left at ≡ numbers F left at
  unfolding numbers
  numbers_same left at h =
      let x = E left at in
      let l = f.expressions left at in
      ap (λ (y : Value). paired x.number y.number y.next y.left) (same.expressions x.left x.next (omega arith))
      ∙ ap (λ (v : Value). let y = F v.left v.next in paired v.number y.number y.next y.left) (same.expressions left at h)

  choice_same : (left at : ℕ) → left ≤ n → choice P E left at ≡ choice Q F left at
  unfolding choice
  choice_same left at h =
      let p = P left at in
      let l = f.predicates left at in
      ap (λ (m : Pair). valued (cond p.holds m.first m.second) m.next m.left) (numbers_same p.left p.next (omega arith))
      ∙ ap (λ (t : Truth). let m = numbers F t.left t.next in valued (cond t.holds m.first m.second) m.next m.left) (same.predicates left at h)

  node_same_p : (x : Word) (left at : ℕ) → left ≤ n → predicate_by P E x left at ≡ predicate_by Q F x left at
  unfolding predicate_by
  node_same_p (all_of k) left at h = rw (gather_same k left at true false h)
  node_same_p (any_of k) left at h = rw (gather_same k left at true false h)
  node_same_p not_word left at h = rw (same.predicates left at h)
  node_same_p imp_word left at h = implication_same left at h
  node_same_p eq_word left at h = rw (numbers_same left at h)
  node_same_p le_word left at h = rw (numbers_same left at h)
  node_same_p (num_word z) left at h = refl
  node_same_p (old_word k) left at h = refl
  node_same_p (new_word k) left at h = refl
  node_same_p add_word left at h = refl
  node_same_p sub_word left at h = refl
  node_same_p mul_word left at h = refl
  node_same_p if_word left at h = refl
  node_same_p stray left at h = refl

  node_same_e : (before after : List ℤ) (x : Word) (left at : ℕ) → left ≤ n → expression_by P E before after x left at ≡ expression_by Q F before after x left at
  unfolding expression_by
  node_same_e before after (all_of k) left at h = refl
  node_same_e before after (any_of k) left at h = refl
  node_same_e before after not_word left at h = refl
  node_same_e before after imp_word left at h = refl
  node_same_e before after eq_word left at h = refl
  node_same_e before after le_word left at h = refl
  node_same_e before after (num_word z) left at h = refl
  node_same_e before after (old_word k) left at h = refl
  node_same_e before after (new_word k) left at h = refl
  node_same_e before after add_word left at h = rw (numbers_same left at h)
  node_same_e before after sub_word left at h = rw (numbers_same left at h)
  node_same_e before after mul_word left at h = rw (numbers_same left at h)
  node_same_e before after if_word left at h = choice_same left at h
  node_same_e before after stray left at h = refl

module _ (words : List ℕ) (before after : List ℤ) where
  abbrev PW : ℕ → Predicates
  PW = predicate_within words before after

  abbrev EW : ℕ → Expressions
  EW = expression_within words before after

  abbrev P : Predicates
  P = predicate_at words before after

  abbrev E : Expressions
  E = expression_at words before after

  -- a node uses one
  falls_step_p : (R : Predicates) (S : Expressions) → Falls R S → (left at : ℕ) → (predicate_step words before after R S left at).left ≤ left - 1
  unfolding predicate_step
  falls_step_p R S f zero at = omega arith
  falls_step_p R S f (suc n) at = go (ltb at (length words)) refl
    where
      go : (b : Bool) → ltb at (length words) ≡ b → (predicate_step words before after R S (suc n) at).left ≤ suc n - 1
      go false h = rw (h, predicate_step) (omega arith)
      go true h = rw (h, predicate_step) (omega (arith, step_falls_p R S f (word_of (get_or words at 0)) n (at + 1)))

  falls_step_e : (R : Predicates) (S : Expressions) → Falls R S → (left at : ℕ) → (expression_step words before after R S left at).left ≤ left - 1
  unfolding expression_step
  falls_step_e R S f zero at = omega arith
  falls_step_e R S f (suc n) at = go (ltb at (length words)) refl
    where
      go : (b : Bool) → ltb at (length words) ≡ b → (expression_step words before after R S (suc n) at).left ≤ suc n - 1
      go false h = rw (h, expression_step) (omega arith)
      go true h = rw (h, expression_step) (omega (arith, step_falls_e R S f before after (word_of (get_or words at 0)) n (at + 1)))

  within_falls : (deep : ℕ) → Falls (PW deep) (EW deep)
  unfolding predicate_within expression_within
  within_falls zero = record { predicates = λ left at. omega arith; expressions = λ left at. omega arith }
  within_falls (suc d) = record {
    predicates = λ left at. omega (arith, falls_step_p (PW d) (EW d) (within_falls d) left at);
    expressions = λ left at. omega (arith, falls_step_e (PW d) (EW d) (within_falls d) left at);
  }

  -- more depth than nodes changes nothing
  agree_step_p : (R S : Predicates) (X Y : Expressions) (n : ℕ) → Falls R X → Agree R S X Y n → (left at : ℕ) → left ≤ n + 1 → predicate_step words before after R X left at ≡ predicate_step words before after S Y left at
  unfolding predicate_step
  agree_step_p R S X Y n f same zero at h = refl
  agree_step_p R S X Y n f same (suc l) at h = go (ltb at (length words)) refl
    where
      go : (b : Bool) → ltb at (length words) ≡ b → predicate_step words before after R X (suc l) at ≡ predicate_step words before after S Y (suc l) at
      go false e = rw (e, predicate_step)
      go true e = rw (e, predicate_step) (node_same_p R S X Y n f same (word_of (get_or words at 0)) l (at + 1) (omega arith))

  agree_step_e : (R S : Predicates) (X Y : Expressions) (n : ℕ) → Falls R X → Agree R S X Y n → (left at : ℕ) → left ≤ n + 1 → expression_step words before after R X left at ≡ expression_step words before after S Y left at
  unfolding expression_step
  agree_step_e R S X Y n f same zero at h = refl
  agree_step_e R S X Y n f same (suc l) at h = go (ltb at (length words)) refl
    where
      go : (b : Bool) → ltb at (length words) ≡ b → expression_step words before after R X (suc l) at ≡ expression_step words before after S Y (suc l) at
      go false e = rw (e, expression_step)
      go true e = rw (e, expression_step) (node_same_e R S X Y n f same before after (word_of (get_or words at 0)) l (at + 1) (omega arith))

  -- no nodes are left, whatever the depth
  none_p : (deep at : ℕ) → PW deep 0 at ≡ truth false at 0
  unfolding predicate_within expression_within predicate_step
  none_p zero at = refl
  none_p (suc d) at = refl

  none_e : (deep at : ℕ) → EW deep 0 at ≡ valued (pos 0) at 0
  unfolding predicate_within expression_within expression_step
  none_e zero at = refl
  none_e (suc d) at = refl

  mutual
    unfolding predicate_within expression_within

    pub deep_p : (d e left at : ℕ) → left ≤ d → left ≤ e → PW d left at ≡ PW e left at
    deep_p zero e zero at h k = sym (none_p e at)
    deep_p zero e (suc l) at h k = absurd (omega arith)
    deep_p (suc d) zero zero at h k = none_p (suc d) at
    deep_p (suc d) zero (suc l) at h k = absurd (omega arith)
    deep_p (suc d) (suc e) zero at h k = none_p (suc d) at ∙ sym (none_p (suc e) at)
    deep_p (suc d) (suc e) (suc l) at h k = agree_step_p (PW d) (PW e) (EW d) (EW e) l (within_falls d) (record { predicates = λ m a i. deep_p d e m a (omega arith) (omega arith); expressions = λ m a i. deep_e d e m a (omega arith) (omega arith) }) (suc l) at (omega arith)

    pub deep_e : (d e left at : ℕ) → left ≤ d → left ≤ e → EW d left at ≡ EW e left at
    deep_e zero e zero at h k = sym (none_e e at)
    deep_e zero e (suc l) at h k = absurd (omega arith)
    deep_e (suc d) zero zero at h k = none_e (suc d) at
    deep_e (suc d) zero (suc l) at h k = absurd (omega arith)
    deep_e (suc d) (suc e) zero at h k = none_e (suc d) at ∙ sym (none_e (suc e) at)
    deep_e (suc d) (suc e) (suc l) at h k = agree_step_e (PW d) (PW e) (EW d) (EW e) l (within_falls d) (record { predicates = λ m a i. deep_p d e m a (omega arith) (omega arith); expressions = λ m a i. deep_e d e m a (omega arith) (omega arith) }) (suc l) at (omega arith)

  -- so each answer is a step of the answers with fewer nodes left
  at_falls : Falls P E
  unfolding predicate_at expression_at
  at_falls = record {
    predicates = λ left at. (within_falls left).predicates left at;
    expressions = λ left at. (within_falls left).expressions left at;
  }

  at_agrees : (n : ℕ) → Agree (PW n) P (EW n) E n
  unfolding predicate_at expression_at
  at_agrees n = record {
    predicates = λ left at h. deep_p n left left at h (omega arith);
    expressions = λ left at h. deep_e n left left at h (omega arith);
  }

  pub predicate_is : (left at : ℕ) → P left at ≡ predicate_step words before after P E left at
  unfolding predicate_at expression_at predicate_within expression_within predicate_step
  predicate_is zero at = refl
  predicate_is (suc n) at = agree_step_p (PW n) P (EW n) E n (within_falls n) (at_agrees n) (suc n) at (omega arith)

  pub expression_is : (left at : ℕ) → E left at ≡ expression_step words before after P E left at
  unfolding predicate_at expression_at predicate_within expression_within expression_step
  expression_is zero at = refl
  expression_is (suc n) at = agree_step_e (PW n) P (EW n) E n (within_falls n) (at_agrees n) (suc n) at (omega arith)

  -- each call, on any words, leaves at least one node fewer than it was given
  pub predicate_left : (left at : ℕ) (p : Truth) → p ≡ P left at → p.left ≤ left - 1
  predicate_left left at p e = rw (e, predicate_is left at) (falls_step_p P E at_falls left at)

  pub expression_left : (left at : ℕ) (x : Value) → x ≡ E left at → x.left ≤ left - 1
  expression_left left at x e = rw (e, expression_is left at) (falls_step_e P E at_falls left at)
