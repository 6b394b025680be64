-- Where the walk comes on, a predicate's words stand. What the walk found of it the forward law then says.
use mathlib.Core.Path.{◌≡◌, refl, sym, ap, ◌∙◌}
use mathlib.Core.Bool.{Bool, true, false}
use mathlib.Core.List.{List, ◌∷◌, ◌++◌, Memᴰ}
use Prim.Native.Nat.{ℕ, zero, suc, max, ◌+◌, ◌<◌, ◌≤◌}
use native.Mathlib.Omega.{arith}
use borrow.Author.Tests.{ltb-true, ltb-false}
use lib.Dec.{ltb}
use lib.ListN.{length, get_or}
use Rattle.model.specs.Predicate.{Pred, Preds, Expr, all, any, negate, imp, eq, le, none, more, num, old, new, add, sub, mul, choose, operands, Word, all_of, any_of, not_word, imp_word, eq_word, le_word, num_word, old_word, new_word, add_word, sub_word, mul_word, if_word, stray, words, words_all, words_of, depth, depth_all, depth_of, Range, hull, times}
use Rattle.model.specs.Lawful.{LawfulRange}
use Rattle.model.specs.Table.{word_of}
use Rattle.std.specs.Prelude.{Result, Ok, Err}
use Rattle.table_predicate.specs.declared.Ended.{Ended}
use Rattle.table_predicate.specs.declared.Walked.{Walked}
use Rattle.table_predicate.specs.Walk.{Reach, Fall, place, ended, fall, unreached, go_on, go_into, go_past, plus, minus, joined, joined_from, joined_to, gather, declared_of, predicate_by, expression_by, predicate_at, expression_at}
use Rattle.table_predicate.proofs.Steps.{enter_none}
use Rattle.table_predicate.proofs.Standing.{onward, onward_cons, First, link, next_p, next_e}
use Rattle.table_predicate.proofs.Forward.{went_p, came}

-- a predicate stands at a place, at most f deep; k predicates in a row; an expression; two in a row
pub record StandsP (ws : List ℕ) (f at : ℕ) : Type 0 where
  pub it : Pred
  pub rest : List Word
  pub here : onward ws at ≡ words it ++ rest
  pub shallow : depth it ≤ f

record StandPs (ws : List ℕ) (f k at : ℕ) : Type 0 where
  them : Preds
  rest : List Word
  here : onward ws at ≡ words_all them ++ rest
  many : operands them ≡ k
  shallow : depth_all them ≤ f

record StandsE (ws : List ℕ) (f at : ℕ) : Type 0 where
  it : Expr
  rest : List Word
  here : onward ws at ≡ words_of it ++ rest
  shallow : depth_of it ≤ f

record StandEs (ws : List ℕ) (f at : ℕ) : Type 0 where
  one : Expr
  two : Expr
  rest : List Word
  here : onward ws at ≡ (words_of one ++ words_of two) ++ rest
  shallow : max (depth_of one) (depth_of two) ≤ f

-- an end is no place
no_place : {A E : Type 0} (e : E) (v : A) → Err e ≡ Ok v → ⊥
no_place e v h = let z : ◌≡◌ {A = ℕ} 0 1 = cc in omega arith

-- a walk that came on came to what it went on from
module _ {A B : Type 0} where
  came_to : (r : Result A Ended) (Q : A → Result B Ended) (v : B) → go_on r Q ≡ Ok v → (a : A) × ((r ≡ Ok a) × (Q a ≡ Ok v))
  unfolding go_on
  came_to (Ok a) Q v h = (a, (refl, h))
  came_to (Err e) Q v h = absurd (no_place e v h)

  onto : (Q : A → Result B Ended) {r : Result A Ended} {a : A} {v : B} → r ≡ Ok a → go_on r Q ≡ Ok v → Q a ≡ Ok v
  unfolding go_on
  onto Q e h = rw e at h

same_reach : (r : Result Reach Fall) (x y : Reach) → r ≡ Ok x → r ≡ Ok y → x ≡ y
same_reach r x y e h = cc

-- and into an expression
came_into : (r : Result Walked Ended) (Q : Walked → Result Reach Fall) (v : Reach) → go_into r Q ≡ Ok v → (a : Walked) × ((r ≡ Ok a) × (Q a ≡ Ok v))
unfolding go_into
came_into (Ok a) Q v h = (a, (refl, h))
came_into (Err e) Q v h = absurd (no_place (fall e.why (unreached e.walk)) v h)

into : (Q : Walked → Result Reach Fall) {r : Result Walked Ended} {a : Walked} {v : Reach} → r ≡ Ok a → go_into r Q ≡ Ok v → Q a ≡ Ok v
unfolding go_into
into Q e h = rw e at h

-- a walk that came past two expressions came past each
record Both (F : Walked → Result Reach Fall) (r : Result Reach Fall) : Type 0 where
  one : Reach
  two : Reach
  one_is : r ≡ Ok one
  two_is : F one.walk ≡ Ok two

both_past : (F : Walked → Result Reach Fall) (r : Result Reach Fall) (v : Walked) → go_past r (λ x. go_past (F x.walk) (λ y. Ok y.walk)) ≡ Ok v → Both F r
unfolding go_past
both_past F (Err e) v h = absurd (no_place (ended e.why e.reach.walk) v h)
both_past F (Ok x) v h = go (F x.walk) refl h
  where
    go : (t : Result Reach Fall) → F x.walk ≡ t → go_past t (λ y. Ok y.walk) ≡ Ok v → Both F (Ok x)
    go (Ok y) e h = record { one = x; two = y; one_is = refl; two_is = e }
    go (Err e) i h = absurd (no_place (ended e.why e.reach.walk) v h)

both_joined : (F : Walked → Result Reach Fall) (f : Range → Range → Range) (r : Result Reach Fall) (v : Reach) → joined_from F f r ≡ Ok v → Both F r
unfolding joined_from joined_to
both_joined F f (Err e) v h = absurd (no_place _ v h)
both_joined F f (Ok x) v h = go (F x.walk) refl h
  where
    go : (t : Result Reach Fall) → F x.walk ≡ t → joined_to f x t ≡ Ok v → Both F (Ok x)
    go (Ok y) e h = record { one = x; two = y; one_is = refl; two_is = e }
    go (Err e) i h = absurd (no_place _ v h)

module _ (ws ranges : List ℕ) (lawful : (x : Range) → Memᴰ x (declared_of ranges) → LawfulRange x) where
  abbrev P : ℕ → Walked → Result Walked Ended
  P = predicate_at ws ranges

  abbrev E : ℕ → Walked → Result Reach Fall
  E = expression_at ws ranges

  -- one level of the law, by which the next is shown
  abbrev BackP : ℕ → Type 0
  BackP n = (leaves : Bool) (at : ℕ) (v : Walked) → P n (place leaves at) ≡ Ok v → StandsP ws n at

  abbrev BackE : ℕ → Type 0
  BackE n = (leaves : Bool) (at : ℕ) (v : Reach) → E n (place leaves at) ≡ Ok v → StandsE ws n at

  module _ (n : ℕ) (bp : BackP n) where
    back_ps : (k : ℕ) (leaves : Bool) (at : ℕ) (v : Walked) → gather (P n) k (place leaves at) ≡ Ok v → StandPs ws n k at
    unfolding gather words_all operands depth_all words depth
    back_ps zero leaves at v h = record { them = none; rest = onward ws at; here = refl; many = refl; shallow = omega arith }
    back_ps (suc k) leaves at v h =
        let g = came_to (P n (place leaves at)) (gather (P n) k) v h in
        let a = bp leaves at g.0 g.1.0 in
        let e = (went_p ws ranges lawful a.it n leaves at a.rest a.here).fine a.shallow in
        let b = back_ps k _ (at + length (words a.it)) v (onto (gather (P n) k) e h) in
        record {
          them = more a.it b.them;
          rest = b.rest;
          here = link ws at (words a.it) (words_all b.them) a.rest b.rest a.here b.here;
          many = ap suc b.many;
          shallow = omega (arith, a.shallow, b.shallow);
        }

  module _ (n : ℕ) (be : BackE n) where
    back_pair : (leaves : Bool) (at : ℕ) → Both (E n) (E n (place leaves at)) → StandEs ws n at
    back_pair leaves at t =
        let a = be leaves at t.one t.one_is in
        let c = (came ws ranges lawful a.it n leaves at a.rest a.here).fine a.shallow in
        let same = same_reach _ c.it t.one c.is t.one_is in
        let b = be _ (at + length (words_of a.it)) t.two (ap (E n) (sym c.past.walk ∙ ap (λ (x : Reach). x.walk) same) ∙ t.two_is) in
        record {
          one = a.it;
          two = b.it;
          rest = b.rest;
          here = link ws at (words_of a.it) (words_of b.it) a.rest b.rest a.here b.here;
          shallow = omega (arith, a.shallow, b.shallow);
        }

  -- the place of a node is one of the words
  below_p : (n : ℕ) (leaves : Bool) (at : ℕ) (v : Walked) → P (suc n) (place leaves at) ≡ Ok v → at < length ws
  unfolding predicate_at expression_at go_on
  below_p n leaves at v h = go (ltb at (length ws)) refl
    where
      go : (t : Bool) → ltb at (length ws) ≡ t → at < length ws
      go true e = ltb-true at (length ws) e
      go false e = absurd (no_place _ v (rw (← enter_none ws (place leaves at) (ltb-false at (length ws) e)) at h))

  below_e : (n : ℕ) (leaves : Bool) (at : ℕ) (v : Reach) → E (suc n) (place leaves at) ≡ Ok v → at < length ws
  unfolding predicate_at expression_at go_into
  below_e n leaves at v h = go (ltb at (length ws)) refl
    where
      go : (t : Bool) → ltb at (length ws) ≡ t → at < length ws
      go true e = ltb-true at (length ws) e
      go false e = absurd (no_place _ v (rw (← enter_none ws (place leaves at) (ltb-false at (length ws) e)) at h))

  -- the predicate, or the expression, that begins with a word
  module _ (n : ℕ) (bp : BackP n) (be : BackE n) (leaves : Bool) (at : ℕ) where
    abbrev w : Walked
    w = place leaves (at + 1)

    cons : (x : Word) {l : List Word} → onward ws at ≡ x ∷ onward ws (at + 1) → onward ws (at + 1) ≡ l → onward ws at ≡ x ∷ l
    cons x e f = e ∙ ap (λ (s : List Word). x ∷ s) f

    imp_stands : onward ws at ≡ imp_word ∷ onward ws (at + 1) → (a : StandsP ws n (at + 1)) → StandsP ws n (at + 1 + length (words a.it)) → StandsP ws (suc n) at
    unfolding words depth
    imp_stands e a b = record {
      it = imp a.it b.it;
      rest = b.rest;
      here = cons imp_word e (link ws (at + 1) (words a.it) (words b.it) a.rest b.rest a.here b.here);
      shallow = omega (arith, a.shallow, b.shallow);
    }

    if_stands : onward ws at ≡ if_word ∷ onward ws (at + 1) → (a : StandsP ws n (at + 1)) → StandEs ws n (at + 1 + length (words a.it)) → StandsE ws (suc n) at
    unfolding words_of depth_of
    if_stands e a b = record {
      it = choose a.it b.one b.two;
      rest = b.rest;
      here = cons if_word e (link ws (at + 1) (words a.it) (words_of b.one ++ words_of b.two) a.rest b.rest a.here b.here);
      shallow = omega (arith, a.shallow, b.shallow);
    }

    by_word_p : (x : Word) → onward ws at ≡ x ∷ onward ws (at + 1) → (v : Walked) → predicate_by (P n) (E n) x w ≡ Ok v → StandsP ws (suc n) at
    unfolding predicate_by words depth
    by_word_p (all_of k) e v h =
        let a = back_ps n bp k leaves (at + 1) v h in
        record { it = all a.them; rest = a.rest; here = rw a.many (cons (all_of k) e a.here); shallow = omega (arith, a.shallow) }
    by_word_p (any_of k) e v h =
        let a = back_ps n bp k leaves (at + 1) v h in
        record { it = any a.them; rest = a.rest; here = rw a.many (cons (any_of k) e a.here); shallow = omega (arith, a.shallow) }
    by_word_p not_word e v h =
        let a = bp leaves (at + 1) v h in
        record { it = negate a.it; rest = a.rest; here = cons not_word e a.here; shallow = omega (arith, a.shallow) }
    by_word_p imp_word e v h =
        let c = came_to (P n w) (P n) v h in
        let a = bp leaves (at + 1) c.0 c.1.0 in
        let g = (went_p ws ranges lawful a.it n leaves (at + 1) a.rest a.here).fine a.shallow in
        let b = bp _ (at + 1 + length (words a.it)) v (onto (P n) g h) in
        imp_stands e a b
    by_word_p eq_word e v h =
        let a = back_pair n be leaves (at + 1) (both_past (E n) (E n w) v h) in
        record { it = eq a.one a.two; rest = a.rest; here = cons eq_word e a.here; shallow = omega (arith, a.shallow) }
    by_word_p le_word e v h =
        let a = back_pair n be leaves (at + 1) (both_past (E n) (E n w) v h) in
        record { it = le a.one a.two; rest = a.rest; here = cons le_word e a.here; shallow = omega (arith, a.shallow) }
    by_word_p (num_word z) e v h = absurd (no_place _ v h)
    by_word_p (old_word k) e v h = absurd (no_place _ v h)
    by_word_p (new_word k) e v h = absurd (no_place _ v h)
    by_word_p add_word e v h = absurd (no_place _ v h)
    by_word_p sub_word e v h = absurd (no_place _ v h)
    by_word_p mul_word e v h = absurd (no_place _ v h)
    by_word_p if_word e v h = absurd (no_place _ v h)
    by_word_p stray e v h = absurd (no_place _ v h)

    by_word_e : (x : Word) → onward ws at ≡ x ∷ onward ws (at + 1) → (v : Reach) → expression_by (P n) (E n) (declared_of ranges) x w ≡ Ok v → StandsE ws (suc n) at
    unfolding expression_by words_of depth_of
    by_word_e (all_of k) e v h = absurd (no_place _ v h)
    by_word_e (any_of k) e v h = absurd (no_place _ v h)
    by_word_e not_word e v h = absurd (no_place _ v h)
    by_word_e imp_word e v h = absurd (no_place _ v h)
    by_word_e eq_word e v h = absurd (no_place _ v h)
    by_word_e le_word e v h = absurd (no_place _ v h)
    by_word_e (num_word z) e v h = record { it = num z; rest = onward ws (at + 1); here = e; shallow = omega arith }
    by_word_e (old_word k) e v h = record { it = old k; rest = onward ws (at + 1); here = e; shallow = omega arith }
    by_word_e (new_word k) e v h = record { it = new k; rest = onward ws (at + 1); here = e; shallow = omega arith }
    by_word_e add_word e v h =
        let a = back_pair n be leaves (at + 1) (both_joined (E n) plus (E n w) v h) in
        record { it = add a.one a.two; rest = a.rest; here = cons add_word e a.here; shallow = omega (arith, a.shallow) }
    by_word_e sub_word e v h =
        let a = back_pair n be leaves (at + 1) (both_joined (E n) minus (E n w) v h) in
        record { it = sub a.one a.two; rest = a.rest; here = cons sub_word e a.here; shallow = omega (arith, a.shallow) }
    by_word_e mul_word e v h =
        let a = back_pair n be leaves (at + 1) (both_joined (E n) times (E n w) v h) in
        record { it = mul a.one a.two; rest = a.rest; here = cons mul_word e a.here; shallow = omega (arith, a.shallow) }
    by_word_e if_word e v h =
        let c = came_into (P n w) (joined (E n) hull) v h in
        let a = bp leaves (at + 1) c.0 c.1.0 in
        let g = (went_p ws ranges lawful a.it n leaves (at + 1) a.rest a.here).fine a.shallow in
        let b = back_pair n be _ (at + 1 + length (words a.it)) (both_joined (E n) hull _ v (into (joined (E n) hull) g h)) in
        if_stands e a b
    by_word_e stray e v h = absurd (no_place _ v h)

  mutual
    unfolding predicate_at expression_at

    pub back_p : (n : ℕ) → BackP n
    back_p zero leaves at v h = absurd (no_place _ v h)
    back_p (suc n) leaves at v h =
        let l = below_p n leaves at v h in
        let f : First ws at (word_of (get_or ws at 0)) (onward ws (at + 1)) = record { below = l; word = refl; then = refl } in
        by_word_p n (λ a b c d. back_p n a b c d) (λ a b c d. back_e n a b c d) leaves at (word_of (get_or ws at 0)) (onward_cons ws at l) v (rw (next_p ws ranges n leaves f) at h)

    back_e : (n : ℕ) → BackE n
    back_e zero leaves at v h = absurd (no_place _ v h)
    back_e (suc n) leaves at v h =
        let l = below_e n leaves at v h in
        let f : First ws at (word_of (get_or ws at 0)) (onward ws (at + 1)) = record { below = l; word = refl; then = refl } in
        by_word_e n (λ a b c d. back_p n a b c d) (λ a b c d. back_e n a b c d) leaves at (word_of (get_or ws at 0)) (onward_cons ws at l) v (rw (next_e ws ranges n leaves f) at h)
