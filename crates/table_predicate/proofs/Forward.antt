-- Where a predicate's words stand, the walk finds what rows 9 and 10 ask of it.
use mathlib.Core.Path.{◌≡◌, refl, ap, ◌∙◌}
use mathlib.Core.Bool.{Bool, true, false, not, ◌&&◌, ◌||◌, or-false, and_assoc}
use mathlib.Core.List.{List, ◌++◌, append_assoc, Memᴰ}
use Prim.Native.Nat.{ℕ, zero, suc, max, ◌+◌, ◌<◌, ◌≤◌}
use native.Mathlib.Omega.{arith}
use native.Mathlib.Nat.{add-zero}
use borrow.Author.Tests.{ltb-true, ltb-false}
use lib.Dec.{ltb}
use lib.IntN.{ℤ, pos}
use lib.ListN.{length, get_or, length-append}
use Rattle.model.specs.Predicate.{Pred, Preds, Expr, all, any, negate, imp, eq, le, none, more, num, old, new, add, sub, mul, choose, operands, Word, all_of, any_of, not_word, imp_word, eq_word, le_word, num_word, old_word, new_word, add_word, sub_word, mul_word, if_word, words, words_all, words_of, depth, depth_all, depth_of, Range, range, hull, times, interval, stays, all_stay, all_stay_all, all_stay_in}
use Rattle.model.specs.Lawful.{LawfulRange}
use Rattle.model.proofs.Tests.{and_left, and_right}
use Rattle.model.proofs.Lists.{all_at}
use Rattle.arithmetic.specs.Cut.{cut}
use Rattle.arithmetic.proofs.Order.{Le, Le-refl, Le-trans, Within, le_z_Le, add_within, sub_within, times_within, hull_first, span_fits}
use Rattle.arithmetic.proofs.CutLaws.{cut_fits}
use Rattle.std.specs.Prelude.{Result, Ok, Err}
use Rattle.table_predicate.specs.declared.Stopped.TheVariants.{Deep}
use Rattle.table_predicate.specs.declared.Ended.{Ended}
use Rattle.table_predicate.specs.declared.Walked.{Walked}
use Rattle.table_predicate.specs.Walk.{Reach, Fall, place, ended, fall, unreached, go_on, go_into, go_past, in_span, reached, ends, plus, minus, couple, joined, joined_from, joined_to, gather, declared_of, predicate_by, expression_by, predicate_at, expression_at}
use Rattle.table_predicate.proofs.Standing.{onward, First, first, past_them, next_p, next_e}

-- What became of a walk from `at` on, with f levels left, past n words that are d deep: it came past them, and its interval
-- mark is set if theirs do not all stay (b); or it ended, too deep.
pub record Went (f d n : ℕ) (b leaves : Bool) (at : ℕ) (w : Result Walked Ended) : Type 0 where
  pub fine : d ≤ f → w ≡ Ok (place (leaves || not b) (at + n))
  pub dead : f < d → (v : Walked) × (w ≡ Err (ended Deep v))

-- the same past an expression with the interval r
pub record Past (n : ℕ) (b : Bool) (r : Range) (leaves : Bool) (at : ℕ) (x : Reach) : Type 0 where
  pub walk : x.walk ≡ place (leaves || not b) (at + n)
  pub exact : b ≡ true → ends x ≡ r

pub record Found (n : ℕ) (b : Bool) (r : Range) (leaves : Bool) (at : ℕ) (x : Result Reach Fall) : Type 0 where
  pub it : Reach
  pub is : x ≡ Ok it
  pub past : Past n b r leaves at it

pub record Came (f d n : ℕ) (b : Bool) (r : Range) (leaves : Bool) (at : ℕ) (x : Result Reach Fall) : Type 0 where
  pub fine : d ≤ f → Found n b r leaves at x
  pub dead : f < d → (y : Reach) × (x ≡ Err (fall Deep y))

or_and : (a b c : Bool) → ((a || not b) || not c) ≡ (a || not (b && c))
or_and true b c = refl
or_and false true c = refl
or_and false false c = refl

-- the place past two rows of words; and past a node's own word and others
further : (leaves b₁ b₂ : Bool) (at n₁ n₂ : ℕ) → place ((leaves || not b₁) || not b₂) (at + n₁ + n₂) ≡ place (leaves || not (b₁ && b₂)) (at + (n₁ + n₂))
further leaves b₁ b₂ at n₁ n₂ = let e : at + n₁ + n₂ ≡ at + (n₁ + n₂) = omega arith in rw (e, or_and leaves b₁ b₂)

one_more : (leaves : Bool) (at n : ℕ) → place leaves (at + 1 + n) ≡ place leaves (at + suc n)
one_more leaves at n = let e : at + 1 + n ≡ at + suc n = omega arith in ap (place leaves) e

module _ {f d₁ n₁ : ℕ} {b₁ : Bool} {d₂ n₂ : ℕ} {b₂ : Bool} {leaves : Bool} {at : ℕ} {w : Result Walked Ended} where
  -- one after the other
  both : (Q : Walked → Result Walked Ended) → Went f d₁ n₁ b₁ leaves at w
      → Went f d₂ n₂ b₂ (leaves || not b₁) (at + n₁) (Q (place (leaves || not b₁) (at + n₁)))
      → Went f (max d₁ d₂) (n₁ + n₂) (b₁ && b₂) leaves at (go_on w Q)
  unfolding go_on
  both Q x y = record {
    fine = λ h. rw (x.fine (omega arith)) (y.fine (omega arith) ∙ ap Ok (further leaves b₁ b₂ at n₁ n₂));
    dead = λ h. dead h (ltb f d₁) refl;
  }
    where
      dead : f < max d₁ d₂ → (t : Bool) → ltb f d₁ ≡ t → (v : Walked) × (go_on w Q ≡ Err (ended Deep v))
      dead h true t = let s = x.dead (ltb-true f d₁ t) in (s.0, rw s.1)
      dead h false t =
          let l = ltb-false f d₁ t in
          let s = y.dead (omega arith) in
          (s.0, rw (x.fine l) s.1)

  -- a predicate, and then an expression
  after : {r : Range} (F : Walked → Result Reach Fall) → Went f d₁ n₁ b₁ leaves at w
      → Came f d₂ n₂ b₂ r (leaves || not b₁) (at + n₁) (F (place (leaves || not b₁) (at + n₁)))
      → Came f (max d₁ d₂) (n₁ + n₂) (b₁ && b₂) r leaves at (go_into w F)
  unfolding go_into
  after {r} F x y = record { fine = fine; dead = λ h. dead h (ltb f d₁) refl }
    where
      fine : max d₁ d₂ ≤ f → Found (n₁ + n₂) (b₁ && b₂) r leaves at (go_into w F)
      fine h =
          let c = y.fine (omega arith) in
          record {
            it = c.it;
            is = rw (x.fine (omega arith)) c.is;
            past = record { walk = c.past.walk ∙ further leaves b₁ b₂ at n₁ n₂; exact = λ t. c.past.exact (and_right b₁ b₂ t) };
          }

      dead : f < max d₁ d₂ → (t : Bool) → ltb f d₁ ≡ t → (y : Reach) × (go_into w F ≡ Err (fall Deep y))
      dead h true t = let s = x.dead (ltb-true f d₁ t) in (unreached s.0, rw s.1)
      dead h false t =
          let l = ltb-false f d₁ t in
          let s = y.dead (omega arith) in
          (s.0, rw (x.fine l) s.1)

-- a cut leaves an interval in the span alone
cut_none : (r : Range) → Le r.low r.high → in_span r ≡ true → range (cut r.low) (cut r.high) ≡ r
unfolding in_span range
cut_none r h s =
    rw (
      cut_fits r.low (span_fits r.low r (record { low = Le-refl r.low; high = h }) s),
      cut_fits r.high (span_fits r.high r (record { low = h; high = Le-refl r.high }) s),
    )

-- past an expression, whose interval s is exact where the parts' all stay
module _ {n : ℕ} {b leaves : Bool} {at : ℕ} where
  reach : (w : Walked) → w ≡ place (leaves || not b) (at + n) → (s r : Range) → (b ≡ true → s ≡ r) → Le r.low r.high → Past n (b && in_span r) r leaves at (reached w s)
  unfolding reached
  reach w e s r same h = record {
    walk = rw (e, or_and leaves b (in_span s), spans b same);
    exact = λ t. rw (same (and_left b (in_span r) t)) (cut_none r h (and_right b (in_span r) t));
  }
    where
      spans : (c : Bool) → (c ≡ true → s ≡ r) → (c && in_span s) ≡ (c && in_span r)
      spans true e = ap in_span (e refl)
      spans false e = refl

-- one level up, past the node's own word
module _ {f d n : ℕ} {b leaves : Bool} {at : ℕ} where
  up : {w : Result Walked Ended} → Went f d n b leaves (at + 1) w → Went (suc f) (suc d) (suc n) b leaves at w
  up x = record { fine = λ h. x.fine (omega arith) ∙ ap Ok (one_more _ at n); dead = λ h. x.dead (omega arith) }

  up_e : {r : Range} {x : Result Reach Fall} → Came f d n b r leaves (at + 1) x → Came (suc f) (suc d) (suc n) b r leaves at x
  up_e x = record {
    fine = λ h. let c = x.fine (omega arith) in record { it = c.it; is = c.is; past = record { walk = c.past.walk ∙ one_more _ at n; exact = c.past.exact } };
    dead = λ h. x.dead (omega arith);
  }

-- nothing was walked
stand : (f : ℕ) (leaves : Bool) (at : ℕ) → Went f 0 0 true leaves at (Ok (place leaves at))
stand f leaves at = record { fine = λ h. rw (or-false leaves, add-zero at); dead = λ h. absurd (omega arith) }

-- a number, or a variable
leaf : (f : ℕ) (leaves : Bool) (at : ℕ) (r : Range) → Le r.low r.high → Came f 0 0 (in_span r) r leaves at (Ok (reached (place leaves at) r))
leaf f leaves at r o = record {
  fine = λ h. record { it = reached (place leaves at) r; is = refl; past = reach {b = true} (place leaves at) (rw (or-false leaves, add-zero at)) r r (λ t. refl) o };
  dead = λ h. absurd (omega arith);
}

-- a walk that ended too deep in the first or the second of two expressions
fell_first : (F : Walked → Result Reach Fall) (g : Range → Range → Range) (x : Result Reach Fall) (y : Reach) → x ≡ Err (fall Deep y) → (z : Reach) × (joined_from F g x ≡ Err (fall Deep z))
unfolding joined_from
fell_first F g x y e = (reached y.walk (g (ends y) (range (pos 0) (pos 0))), rw e)

fell_second : (F : Walked → Result Reach Fall) (g : Range → Range → Range) (x : Result Reach Fall) (a : Reach) → x ≡ Ok a → (y : Reach) → F a.walk ≡ Err (fall Deep y)
    → (z : Reach) × (joined_from F g x ≡ Err (fall Deep z))
unfolding joined_from joined_to
fell_second F g x a e y h = (reached y.walk (g (ends a) (ends y)), rw (e, h))

module _ {f d₁ n₁ : ℕ} {b₁ : Bool} {r₁ : Range} {d₂ n₂ : ℕ} {b₂ : Bool} {r₂ : Range} {leaves : Bool} {at : ℕ} {x : Result Reach Fall} (F : Walked → Result Reach Fall)
    (i : Came f d₁ n₁ b₁ r₁ leaves at x) (j : Came f d₂ n₂ b₂ r₂ (leaves || not b₁) (at + n₁) (F (place (leaves || not b₁) (at + n₁)))) where
  -- two expressions
  record Two : Type 0 where
    one : Reach
    two : Reach
    one_is : x ≡ Ok one
    two_is : F one.walk ≡ Ok two
    walk : two.walk ≡ place (leaves || not (b₁ && b₂)) (at + (n₁ + n₂))
    exact_one : (b₁ && b₂) ≡ true → ends one ≡ r₁
    exact_two : (b₁ && b₂) ≡ true → ends two ≡ r₂

  both_came : max d₁ d₂ ≤ f → Two
  both_came h =
      let a = i.fine (omega arith) in
      let c = j.fine (omega arith) in
      record {
        one = a.it;
        two = c.it;
        one_is = a.is;
        two_is = rw a.past.walk c.is;
        walk = c.past.walk ∙ further leaves b₁ b₂ at n₁ n₂;
        exact_one = λ t. a.past.exact (and_left b₁ b₂ t);
        exact_two = λ t. c.past.exact (and_right b₁ b₂ t);
      }

  -- in a row
  pair : Went f (max d₁ d₂) (n₁ + n₂) (b₁ && b₂) leaves at (go_past x (λ a. go_past (F a.walk) (λ y. Ok y.walk)))
  unfolding go_past
  pair = record { fine = λ h. let t = both_came h in rw (t.one_is, t.two_is) (ap Ok t.walk); dead = λ h. dead h (ltb f d₁) refl }
    where
      dead : f < max d₁ d₂ → (t : Bool) → ltb f d₁ ≡ t → (v : Walked) × (go_past x (λ a. go_past (F a.walk) (λ y. Ok y.walk)) ≡ Err (ended Deep v))
      dead h true t = let s = i.dead (ltb-true f d₁ t) in (s.0.walk, rw s.1)
      dead h false t =
          let a = i.fine (ltb-false f d₁ t) in
          let s = j.dead (let l = ltb-false f d₁ t in omega arith) in
          (s.0.walk, rw (a.is, a.past.walk, s.1))

  -- joined
  past_both : (t : Two) (g : Range → Range → Range) → joined_from F g x ≡ Ok (reached t.two.walk (g (ends t.one) (ends t.two)))
  unfolding joined_from joined_to
  past_both t g = rw (t.one_is, t.two_is)

  join : (g : Range → Range → Range) → Le (g r₁ r₂).low (g r₁ r₂).high
      → Came f (max d₁ d₂) (n₁ + n₂) (b₁ && (b₂ && in_span (g r₁ r₂))) (g r₁ r₂) leaves at (joined_from F g x)
  unfolding joined_from joined_to
  join g h = record { fine = fine; dead = λ h. dead h (ltb f d₁) refl }
    where
      fine : max d₁ d₂ ≤ f → Found (n₁ + n₂) (b₁ && (b₂ && in_span (g r₁ r₂))) (g r₁ r₂) leaves at (joined_from F g x)
      fine l =
          let t = both_came l in
          record {
            it = reached t.two.walk (g (ends t.one) (ends t.two));
            is = past_both t g;
            past =
                rw (← and_assoc b₁ b₂ (in_span (g r₁ r₂)))
                (reach t.two.walk t.walk (g (ends t.one) (ends t.two)) (g r₁ r₂) (λ q. rw (t.exact_one q, t.exact_two q)) h);
          }

      dead : f < max d₁ d₂ → (t : Bool) → ltb f d₁ ≡ t → (y : Reach) × (joined_from F g x ≡ Err (fall Deep y))
      dead h true t = let s = i.dead (ltb-true f d₁ t) in fell_first F g x s.0 s.1
      dead h false t =
          let a = i.fine (ltb-false f d₁ t) in
          let s = j.dead (let l = ltb-false f d₁ t in omega arith) in
          fell_second F g x a.it a.is s.0 (ap F a.past.walk ∙ s.1)

module _ (declared : List Range) (lawful : (x : Range) → Memᴰ x declared → LawfulRange x) where
  declared_within : (k : ℕ) → (z : ℤ) × Within z (get_or declared k (range (pos 0) (pos 0)))
  unfolding range
  declared_within k =
      all_at (λ r. (z : ℤ) × Within z r) (range (pos 0) (pos 0)) (pos 0, record { low = Le-refl (pos 0); high = Le-refl (pos 0) }) declared
      (λ r i. (r.low, record { low = Le-refl r.low; high = le_z_Le r.low r.high (lawful r i).ordered })) k

  -- a declared range is ordered, and so is 0 to 0; so some number lies in each interval, and each is ordered
  inhabited : (x : Expr) → (z : ℤ) × Within z (interval declared x)
  unfolding interval range
  inhabited (num z) = (z, record { low = Le-refl z; high = Le-refl z })
  inhabited (old k) = declared_within k
  inhabited (new k) = declared_within k
  inhabited (add x y) = let a = inhabited x in let b = inhabited y in (_, add_within _ _ _ _ a.1 b.1)
  inhabited (sub x y) = let a = inhabited x in let b = inhabited y in (_, sub_within _ _ _ _ a.1 b.1)
  inhabited (mul x y) = let a = inhabited x in let b = inhabited y in (_, times_within _ _ _ _ a.1 b.1)
  inhabited (choose p x y) = let a = inhabited x in let b = inhabited y in (_, hull_first _ _ _ _ a.1 b.1)

  ordered : (x : Expr) → Le (interval declared x).low (interval declared x).high
  ordered x = let a = inhabited x in Le-trans a.1.low a.1.high

module _ (ws ranges : List ℕ) where
  abbrev P : ℕ → Walked → Result Walked Ended
  P = predicate_at ws ranges

  abbrev E : ℕ → Walked → Result Reach Fall
  E = expression_at ws ranges

  -- a node, whose operands are walked with one level less
  module _ {x : Word} {l : List Word} {d k : ℕ} {b : Bool} {at : ℕ} (f : ℕ) (leaves : Bool) (here : First ws at x l) where
    node_p : ((n : ℕ) → Went n d k b leaves (at + 1) (predicate_by (P n) (E n) x (place leaves (at + 1)))) → Went f (suc d) (suc k) b leaves at (P f (place leaves at))
    unfolding predicate_at expression_at
    node_p h = go f
      where
        go : (f : ℕ) → Went f (suc d) (suc k) b leaves at (P f (place leaves at))
        go zero = record { fine = λ l. absurd (omega arith); dead = λ l. (place leaves at, refl) }
        go (suc n) = rw (next_p ws ranges n leaves here) (up (h n))

    node_e : {r : Range} → ((n : ℕ) → Came n d k b r leaves (at + 1) (expression_by (P n) (E n) (declared_of ranges) x (place leaves (at + 1)))) → Came f (suc d) (suc k) b r leaves at (E f (place leaves at))
    unfolding predicate_at expression_at
    node_e {r} h = go f
      where
        go : (f : ℕ) → Came f (suc d) (suc k) b r leaves at (E f (place leaves at))
        go zero = record { fine = λ l. absurd (omega arith); dead = λ l. (unreached (place leaves at), refl) }
        go (suc n) = rw (next_e ws ranges n leaves here) (up_e (h n))

  -- two rows of words, one after the other
  split : (at : ℕ) (k m l : List Word) → onward ws at ≡ (k ++ m) ++ l → (onward ws at ≡ k ++ (m ++ l)) × (onward ws (at + length k) ≡ m ++ l)
  split at k m l e =
      let e₁ = e ∙ append_assoc k m l in
      (e₁, past_them ws at k (m ++ l) e₁)

  module _ (lawful : (x : Range) → Memᴰ x (declared_of ranges) → LawfulRange x) where
    abbrev D : List Range
    D = declared_of ranges

    -- what is to be shown of an expression, and how two of them go
    abbrev CameAt : Expr → Type 0
    CameAt x = (f : ℕ) (leaves : Bool) (at : ℕ) (l : List Word) → onward ws at ≡ words_of x ++ l → Came f (depth_of x) (length (words_of x)) (all_stay_in D x) (interval D x) leaves at (E f (place leaves at))

    module _ (x y : Expr) (cx : CameAt x) (cy : CameAt y) (f : ℕ) (leaves : Bool) (at : ℕ) (l : List Word) (e : onward ws at ≡ (words_of x ++ words_of y) ++ l) where
      went_pair : Went f (max (depth_of x) (depth_of y)) (length (words_of x) + length (words_of y)) (all_stay_in D x && all_stay_in D y) leaves at (couple (E f) (place leaves at))
      went_pair =
          let s = split at (words_of x) (words_of y) l e in
          pair (E f) (cx f leaves at (words_of y ++ l) s.0) (cy f _ _ l s.1)

      came_two : (g : Range → Range → Range) → Le (g (interval D x) (interval D y)).low (g (interval D x) (interval D y)).high → Came f (max (depth_of x) (depth_of y)) (length (words_of x) + length (words_of y)) (all_stay_in D x && (all_stay_in D y && in_span (g (interval D x) (interval D y)))) (g (interval D x) (interval D y)) leaves at (joined (E f) g (place leaves at))
      came_two g o =
          let s = split at (words_of x) (words_of y) l e in
          join (E f) (cx f leaves at (words_of y ++ l) s.0) (cy f _ _ l s.1) g o

    mutual
      unfolding words operands depth all_stay interval stays in_span plus minus predicate_by expression_by gather

      pub went_p : (p : Pred) (f : ℕ) (leaves : Bool) (at : ℕ) (l : List Word) → onward ws at ≡ words p ++ l → Went f (depth p) (length (words p)) (all_stay D p) leaves at (P f (place leaves at))
      went_p (all ps) f leaves at l e =
          let h = first ws at (all_of (operands ps)) (words_all ps ++ l) e in
          node_p f leaves h (λ n. went_ps ps n leaves (at + 1) l h.then)
      went_p (any ps) f leaves at l e =
          let h = first ws at (any_of (operands ps)) (words_all ps ++ l) e in
          node_p f leaves h (λ n. went_ps ps n leaves (at + 1) l h.then)
      went_p (negate p) f leaves at l e =
          let h = first ws at not_word (words p ++ l) e in
          node_p f leaves h (λ n. went_p p n leaves (at + 1) l h.then)
      went_p (imp p q) f leaves at l e =
          let h = first ws at imp_word ((words p ++ words q) ++ l) e in
          let s = split (at + 1) (words p) (words q) l h.then in
          rw (length-append (words p) (words q))
          (node_p f leaves h (λ n. both (P n) (went_p p n leaves (at + 1) (words q ++ l) s.0) (went_p q n _ _ l s.1)))
      went_p (eq x y) f leaves at l e =
          let h = first ws at eq_word ((words_of x ++ words_of y) ++ l) e in
          rw (length-append (words_of x) (words_of y)) (node_p f leaves h (λ n. went_pair x y (λ f leaves at l e. came x f leaves at l e) (λ f leaves at l e. came y f leaves at l e) n leaves (at + 1) l h.then))
      went_p (le x y) f leaves at l e =
          let h = first ws at le_word ((words_of x ++ words_of y) ++ l) e in
          rw (length-append (words_of x) (words_of y)) (node_p f leaves h (λ n. went_pair x y (λ f leaves at l e. came x f leaves at l e) (λ f leaves at l e. came y f leaves at l e) n leaves (at + 1) l h.then))

      went_ps : (ps : Preds) (f : ℕ) (leaves : Bool) (at : ℕ) (l : List Word) → onward ws at ≡ words_all ps ++ l → Went f (depth_all ps) (length (words_all ps)) (all_stay_all D ps) leaves at (gather (P f) (operands ps) (place leaves at))
      went_ps none f leaves at l e = stand f leaves at
      went_ps (more p ps) f leaves at l e =
          let s = split at (words p) (words_all ps) l e in
          rw (length-append (words p) (words_all ps))
          (both (gather (P f) (operands ps)) (went_p p f leaves at (words_all ps ++ l) s.0) (went_ps ps f _ _ l s.1))

      pub came : (x : Expr) (f : ℕ) (leaves : Bool) (at : ℕ) (l : List Word) → onward ws at ≡ words_of x ++ l → Came f (depth_of x) (length (words_of x)) (all_stay_in D x) (interval D x) leaves at (E f (place leaves at))
      came (num z) f leaves at l e =
          node_e f leaves (first ws at (num_word z) l e) (λ n. leaf n leaves (at + 1) _ (ordered D lawful (num z)))
      came (old k) f leaves at l e =
          node_e f leaves (first ws at (old_word k) l e) (λ n. leaf n leaves (at + 1) _ (ordered D lawful (old k)))
      came (new k) f leaves at l e =
          node_e f leaves (first ws at (new_word k) l e) (λ n. leaf n leaves (at + 1) _ (ordered D lawful (new k)))
      came (add x y) f leaves at l e =
          let h = first ws at add_word ((words_of x ++ words_of y) ++ l) e in
          rw (length-append (words_of x) (words_of y)) (node_e f leaves h (λ n. came_two x y (λ f leaves at l e. came x f leaves at l e) (λ f leaves at l e. came y f leaves at l e) n leaves (at + 1) l h.then plus (ordered D lawful (add x y))))
      came (sub x y) f leaves at l e =
          let h = first ws at sub_word ((words_of x ++ words_of y) ++ l) e in
          rw (length-append (words_of x) (words_of y)) (node_e f leaves h (λ n. came_two x y (λ f leaves at l e. came x f leaves at l e) (λ f leaves at l e. came y f leaves at l e) n leaves (at + 1) l h.then minus (ordered D lawful (sub x y))))
      came (mul x y) f leaves at l e =
          let h = first ws at mul_word ((words_of x ++ words_of y) ++ l) e in
          rw (length-append (words_of x) (words_of y)) (node_e f leaves h (λ n. came_two x y (λ f leaves at l e. came x f leaves at l e) (λ f leaves at l e. came y f leaves at l e) n leaves (at + 1) l h.then times (ordered D lawful (mul x y))))
      came (choose p x y) f leaves at l e =
          let h = first ws at if_word ((words p ++ (words_of x ++ words_of y)) ++ l) e in
          let s = split (at + 1) (words p) (words_of x ++ words_of y) l h.then in
          rw (length-append (words p) (words_of x ++ words_of y), length-append (words_of x) (words_of y))
          (node_e f leaves h (λ n. after (joined (E n) hull) (went_p p n leaves (at + 1) ((words_of x ++ words_of y) ++ l) s.0)
          (came_two x y (λ f leaves at l e. came x f leaves at l e) (λ f leaves at l e. came y f leaves at l e) n _ _ l s.1 hull (ordered D lawful (choose p x y)))))
