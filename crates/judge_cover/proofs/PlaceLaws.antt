-- Where groups stand: one after the other, without one of them, and with one of them cut short; and each way out of
-- `places::laid` and `places::short`.
use mathlib.Core.Path.{◌≡◌, refl, sym, ap, ap₂, ◌∙◌}
use mathlib.Core.Bool.{Bool, true, false}
use mathlib.Core.List.{List, ◌∷◌, ◌++◌, map, map-append}
use mathlib.Core.Logic.{◌⊎◌, inl, inr}
use Prim.Native.Nat.{ℕ, zero, suc, ◌+◌, ◌-◌, ◌≤◌, ◌<◌}
use native.Mathlib.Omega.{arith}
use lib.ListN.{length, get_or, set}
use lib.Seq.{get_or-set_same, get_or-set_other}
use lib.Dec.{eqb, leb, ltb}
use borrow.Author.Tests.{eqb-true, eqb-false, lt-ltb, le-ltb, ltb-true, ltb-false, leb-true}
use Rattle.model.specs.Basic.{count_up}
use Rattle.model.proofs.Tests.{every_elim}
use Rattle.model.proofs.Lists.{count_split}
use Rattle.judge_cover.specs.Cover.{past, all_filled}
use Rattle.judge_cover.specs.Steps.{Without, InRow, Laid, Spans, Last}
use Rattle.judge_cover.proofs.Counting.{map_count, member_of}
use Rattle.judge_cover.proofs.CodeLaws.{other}

-- `laid`
pub record Rowing (starts ends : List ℕ) (size least k : ℕ) : Type 0 where
  pub last : (j : ℕ) → suc j ≡ k → least ≡ get_or ends j 0
  pub next : (j : ℕ) → suc j < k → get_or ends j 0 ≤ get_or starts (suc j) 0
  pub inside : (j : ℕ) → j < k → get_or ends j 0 ≤ size
  pub low : (j : ℕ) → j < k → get_or ends j 0 ≤ 512

-- `covered`: groups in a row that all have an edge
module _ (starts ends : List ℕ) (n size : ℕ) (b : Bool) (e : b ≡ all_filled starts ends n) (h : b ≡ true) (r : InRow starts ends n size) where
  has_edge : (k : ℕ) → k < n → get_or starts k 0 < get_or ends k 0
  unfolding all_filled
  has_edge k l = ltb-true (get_or starts k 0) (get_or ends k 0) (every_elim (λ j. ltb (get_or starts j 0) (get_or ends j 0)) (sym e ∙ h) (member_of n 0 k (omega arith) (omega arith)))

  pub laid_in : Laid starts ends n size
  laid_in = record { some = has_edge; next = r.next; inside = r.inside }

  pub laid_low : Laid starts ends n 512
  laid_low = record { some = has_edge; next = r.next; inside = r.low }

module _ (starts ends : List ℕ) (n size : ℕ) (s : Laid starts ends n size) where
  pub laid_more : (m : ℕ) → size ≤ m → Laid starts ends n m
  laid_more m h = record { some = s.some; next = s.next; inside = λ k l. omega (arith, s.inside k l) }

  -- every group stands before the later ones
  pub laid_before : (j k : ℕ) → j < k → k < n → get_or ends j 0 ≤ get_or starts k 0
  laid_before j zero l h = absurd (omega arith)
  laid_before j (suc k) l h = go (λ m. laid_before j k m (omega arith)) (other j k (omega arith))
    where
      go : (j < k → get_or ends j 0 ≤ get_or starts k 0) → (j ≡ k) ⊎ (j < k) → get_or ends j 0 ≤ get_or starts (suc k) 0
      go ih (inl e) = omega (arith, ap (λ i. get_or ends i 0) e, s.next k h)
      go ih (inr m) = omega (arith, ih m, s.some k (omega arith), s.next k h)

  laid_last : (k : ℕ) → k < n → get_or ends k 0 ≤ get_or ends (n - 1) 0
  laid_last k l = go (other k (n - 1) (omega arith))
    where
      go : (k ≡ n - 1) ⊎ (k < n - 1) → get_or ends k 0 ≤ get_or ends (n - 1) 0
      go (inl e) = omega (arith, ap (λ i. get_or ends i 0) e)
      go (inr m) = omega (arith, laid_before k (n - 1) m (omega arith), s.some (n - 1) (omega arith))

  pub last_inside : (end : ℕ) → Last ends n end → end ≤ size
  last_inside end e = go n refl
    where
      go : (m : ℕ) → n ≡ m → end ≤ size
      go zero z = omega (arith, e.none z)
      go (suc m) z = omega (arith, e.some (omega arith), s.inside (n - 1) (omega arith))

  -- the end of a group
  pub end_inside : (k : ℕ) → k < n → (b : ℕ) → b ≡ get_or ends k 0 → b ≤ size
  end_inside k l b e = omega (arith, s.inside k l)

  -- `short`
  pub short_is : (end x a : ℕ) → Last ends n end → x ≡ end - 128 → a ≡ get_or starts 0 0 → leb x a ≡ true
      → Spans starts ends n 128
  short_is end x a e ex ea t = record {
    near = λ k l. omega (arith, laid_last k l, e.some (omega arith), leb-true x a t);
  }

pub spans_all : (starts ends : List ℕ) (n : ℕ) → Laid starts ends n 512 → Spans starts ends n 512
spans_all starts ends n s = record { near = λ k l. omega (arith, s.inside k l) }

pub spans_size : (starts ends : List ℕ) (n : ℕ) (l : List ℕ) (m : ℕ) → length l ≡ m → Spans starts ends n m → Spans starts ends n (length l)
spans_size starts ends n l m e s = rw e s

-- without group k
past_low : (k i : ℕ) → i < k → past k i ≡ i
unfolding past
past_low k i h = rw (lt-ltb i k h, past)

past_high : (k i : ℕ) → k ≤ i → past k i ≡ suc i
unfolding past
past_high k i h = rw (le-ltb i k h, past) (omega arith)

pub past_some : (P : ℕ → Type 0) (n k i : ℕ) → ((j : ℕ) → j < n → P j) → i < n - 1 → P (past k i)
past_some P n k i h l = go (ltb i k) refl
  where
    go : (b : Bool) → ltb i k ≡ b → P (past k i)
    go true e = rw (past_low k i (ltb-true i k e)) (h i (omega arith))
    go false e = rw (past_high k i (ltb-false i k e)) (h (suc i) (omega arith))

map_shift : {A : Type 0} (f g : ℕ → A) (c k : ℕ) → ((i : ℕ) → k ≤ i → i < k + c → f i ≡ g (suc i)) → map f (count_up k c) ≡ map g (count_up (suc k) c)
unfolding count_up
map_shift f g zero k h = refl
map_shift f g (suc c) k h = ap₂ (λ x l. x ∷ l) (h k (omega arith) (omega arith)) (map_shift f g c (suc k) (λ i x y. h i (omega arith) (omega arith)))

-- a list of all but item k
pub map_past : {A : Type 0} (f g : ℕ → A) (n k : ℕ) → k < n → ((i : ℕ) → i < n - 1 → f i ≡ g (past k i))
    → map f (count_up 0 (n - 1)) ≡ map g (count_up 0 k) ++ map g (count_up (suc k) (n - suc k))
map_past f g n k l h =
    let c = n - suc k in
    let e : n - 1 ≡ k + c = omega arith in
    let z : 0 + k ≡ k = omega arith in
    ap (λ m. map f (count_up 0 m)) e ∙ ap (map f) (count_split 0 k c) ∙ map-append f (count_up 0 k) (count_up (0 + k) c)
    ∙ ap₂ (λ p q. p ++ q)
    (map_count f g k 0 (λ i a b. h i (omega arith) ∙ ap g (past_low k i (omega arith))))
    (ap (λ m. map f (count_up m c)) z ∙ map_shift f g c k (λ i a b. h i (omega arith) ∙ ap g (past_high k i a)))

module _ (starts ends from to : List ℕ) (n k size : ℕ) (few : n ≤ 16) (l : k < n) (f : Without k starts from) (g : Without k ends to) where
  pub laid_without : Laid starts ends n size → Laid from to (n - 1) size
  laid_without s = record {
    some = λ i m. rw (f.each i (omega arith), g.each i (omega arith)) (past_some (λ j. get_or starts j 0 < get_or ends j 0) n k i s.some m);
    next = λ i m. rw (f.each (suc i) (omega arith), g.each i (omega arith)) (near i m (ltb (suc i) k) (ltb i k) refl refl);
    inside = λ i m. rw (g.each i (omega arith)) (past_some (λ j. get_or ends j 0 ≤ size) n k i s.inside m);
  }
    where
      near : (i : ℕ) → suc i < n - 1 → (p q : Bool) → ltb (suc i) k ≡ p → ltb i k ≡ q → get_or ends (past k i) 0 ≤ get_or starts (past k (suc i)) 0
      near i m true q x y =
          let a = ltb-true (suc i) k x in
          rw (past_low k i (omega arith), past_low k (suc i) a) (s.next i (omega arith))
      near i m false true x y =
          let a = ltb-false (suc i) k x in
          rw (past_low k i (ltb-true i k y), past_high k (suc i) a) (laid_before starts ends n size s i (suc (suc i)) (omega arith) (omega arith))
      near i m false false x y =
          let a = ltb-false (suc i) k x in
          rw (past_high k i (ltb-false i k y), past_high k (suc i) a) (s.next (suc i) (omega arith))

-- with group k cut short
pub laid_cut : (starts ends : List ℕ) (n k end size : ℕ) → Laid starts ends n size → k < n → k < length ends → get_or starts k 0 < end → end ≤ get_or ends k 0
    → Laid starts (set ends k end) n size
laid_cut starts ends n k end size s l m x y = record {
  some = λ j h. some j h (same j);
  next = λ j h. omega (arith, shorter j, s.next j h);
  inside = λ j h. omega (arith, shorter j, s.inside j h);
}
  where
    same : (j : ℕ) → (j ≡ k) ⊎ (get_or (set ends k end) j 0 ≡ get_or ends j 0)
    same j = go (eqb j k) refl
      where
        go : (b : Bool) → eqb j k ≡ b → (j ≡ k) ⊎ (get_or (set ends k end) j 0 ≡ get_or ends j 0)
        go true e = inl (eqb-true j k e)
        go false e = inr (get_or-set_other ends k j end 0 (eqb-false j k e))

    here : (j : ℕ) → j ≡ k → get_or (set ends k end) j 0 ≡ end
    here j e = ap (λ i. get_or (set ends k end) i 0) e ∙ get_or-set_same ends k end 0 m

    some : (j : ℕ) → j < n → (j ≡ k) ⊎ (get_or (set ends k end) j 0 ≡ get_or ends j 0) → get_or starts j 0 < get_or (set ends k end) j 0
    some j h (inl e) = omega (arith, here j e, ap (λ i. get_or starts i 0) e)
    some j h (inr e) = omega (arith, e, s.some j h)

    shorter : (j : ℕ) → get_or (set ends k end) j 0 ≤ get_or ends j 0
    shorter j = go (same j)
      where
        go : (j ≡ k) ⊎ (get_or (set ends k end) j 0 ≡ get_or ends j 0) → get_or (set ends k end) j 0 ≤ get_or ends j 0
        go (inl e) = omega (arith, here j e, ap (λ i. get_or ends i 0) e)
        go (inr e) = omega (arith, e)
