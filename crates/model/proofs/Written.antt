-- The list of the variables that an update writes rises and stays in its range, and a list that does both is given by
-- its members.
use mathlib.Core.Path.{◌≡◌, refl, sym, ap, ◌∙◌}
use mathlib.Core.Bool.{Bool, true, false, ◌&&◌, ◌||◌}
use mathlib.Core.List.{List, [], ◌∷◌, Memᴰ}
use Prim.Native.Nat.{ℕ, zero, suc, ◌+◌, ◌-◌, ◌≤◌, ◌<◌}
use native.Mathlib.Omega.{arith}
use lib.Dec.{leb}
use borrow.Author.Tests.{leb-true, leb-false, le-leb, eq-eqb, ne_eqb}
use Rattle.model.specs.Basic.{every, exists, keep, member, count_up}
use Rattle.model.specs.Bounds.{max_variables, last_variable}
use Rattle.model.specs.Limits.{ascends}
use Rattle.model.specs.Predicate.{Pred, Word, words, Named, nothing, the_old, the_new, named, is_outside, is_new_of, names_outside, mentions, written}
use Rattle.model.proofs.Tests.{and_intro, and_left, and_right, or_left, or_none, never, eq_of, exists_elim, exists_none, none_exists}
use Rattle.model.proofs.Lists.{keep_first, keep_skip, keep_out}

pub ascends_cons : (n k : ℕ) (ks : List ℕ) → ascends n (k ∷ ks) ≡ (leb n k && ascends (suc k) ks)
unfolding ascends
ascends_cons n k ks = go (leb n k) refl
  where
    go : (b : Bool) → leb n k ≡ b → ascends n (k ∷ ks) ≡ (leb n k && ascends (suc k) ks)
    go true e = rw (e, ascends)
    go false e = rw (e, ascends)

-- what is kept of the numbers from n on rises, and stays in the range that they stay in
module _ (f : ℕ → Bool) where
  pub kept_ascends : (n c low : ℕ) → low ≤ n → ascends low (keep f (count_up n c)) ≡ true
  unfolding count_up keep ascends
  kept_ascends n zero low l = refl
  kept_ascends n (suc c) low l = go (f n) refl (kept_ascends (suc n) c (suc n) (omega arith)) (kept_ascends (suc n) c low (omega arith))
    where
      go : (b : Bool) → f n ≡ b → ascends (suc n) (keep f (count_up (suc n) c)) ≡ true → ascends low (keep f (count_up (suc n) c)) ≡ true
          → ascends low (keep f (n ∷ count_up (suc n) c)) ≡ true
      go true e here later =
          rw (keep_first f n (count_up (suc n) c) e, ascends_cons low n (keep f (count_up (suc n) c))) (and_intro (le-leb low n l) here)
      go false e here later = rw (keep_skip f n (count_up (suc n) c) e) later

  pub kept_ranged : (n c top : ℕ) → n + c ≤ suc top → every (λ k. leb k top) (keep f (count_up n c)) ≡ true
  unfolding count_up keep every
  kept_ranged n zero top l = refl
  kept_ranged n (suc c) top l = go (f n) refl (kept_ranged (suc n) c top (omega arith))
    where
      go : (b : Bool) → f n ≡ b → every (λ k. leb k top) (keep f (count_up (suc n) c)) ≡ true → every (λ k. leb k top) (keep f (n ∷ count_up (suc n) c)) ≡ true
      go true e later = rw (keep_first f n (count_up (suc n) c) e) (and_intro (le-leb n top (omega arith)) later)
      go false e later = rw (keep_skip f n (count_up (suc n) c) e) later

pub written_ascends : (p : Pred) → ascends 0 (written p) ≡ true
unfolding written
written_ascends p = kept_ascends (λ k. mentions k p) 0 max_variables 0 (omega arith)

pub written_ranged : (p : Pred) → every (λ k. leb k last_variable) (written p) ≡ true
unfolding written
written_ranged p = kept_ranged (λ k. mentions k p) 0 max_variables last_variable (omega arith)

-- a variable that words mention is the model's, where all that they name are (row 7)
pub mention_inside : (count k : ℕ) (ws : List Word) → names_outside count ws ≡ false → exists (λ w. is_new_of k (named w)) ws ≡ true → leb count k ≡ false
unfolding names_outside is_outside is_new_of
mention_inside count k ws h e =
    let x = exists_elim (λ w. is_new_of k (named w)) ws e in
    go (named x.0) (exists_none (λ w. is_outside count (named w)) ws h x.0 x.1) x.2
  where
    go : (n : Named) → is_outside count n ≡ false → is_new_of k n ≡ true → leb count k ≡ false
    go nothing o i = never i
    go (the_old j) o i = never i
    go (the_new j) o i = ap (leb count) (eq_of k j i) ∙ o

pub written_inside : (count : ℕ) (p : Pred) → names_outside count (words p) ≡ false → exists (λ k. leb count k) (written p) ≡ false
unfolding written mentions
written_inside count p h = none_exists (λ k. leb count k) (written p) (λ k m. mention_inside count k (words p) h (keep_out (λ j. mentions j p) (count_up 0 max_variables) m).1)

-- what is in the list is mentioned
pub written_mentions : (p : Pred) (k : ℕ) → Memᴰ k (written p) → mentions k p ≡ true
unfolding written
written_mentions p k m = (keep_out (λ j. mentions j p) (count_up 0 max_variables) m).1

-- what is below a rising list is not in it
pub below_ascending : (low : ℕ) (list : List ℕ) → ascends low list ≡ true → (j : ℕ) → j < low → member j list ≡ false
unfolding member exists
below_ascending low [] h j l = refl
below_ascending low (k ∷ ks) h j l =
    let q = sym (ascends_cons low k ks) ∙ h in
    let m : low ≤ k = leb-true low k (and_left (leb low k) _ q) in
    or_none (ne_eqb j k (λ e. absurd (omega arith))) (below_ascending (suc k) ks (and_right (leb low k) _ q) j (omega arith))

-- A test that holds of a rising list's items alone keeps the list.
pub kept_list : (f : ℕ → Bool) (c n top : ℕ) (list : List ℕ) → ascends n list ≡ true → every (λ k. leb k top) list ≡ true → suc top ≤ n + c
    → ((k : ℕ) → n ≤ k → f k ≡ member k list) → keep f (count_up n c) ≡ list
unfolding count_up keep every member exists ascends
kept_list f zero n top [] a r l h = refl
kept_list f zero n top (k ∷ ks) a r l h =
    let q = sym (ascends_cons n k ks) ∙ a in
    let m : n ≤ k = leb-true n k (and_left (leb n k) _ q) in
    let t : k ≤ top = leb-true k top (and_left (leb k top) _ r) in
    absurd (omega arith)
kept_list f (suc c) n top [] a r l h =
    keep_skip f n (count_up (suc n) c) (h n (omega arith)) ∙ kept_list f c (suc n) top [] refl refl (omega arith) (λ j m. h j (omega arith))
kept_list f (suc c) n top (k ∷ ks) a r l h =
    go (leb k n) refl (λ s t. kept_list f c (suc n) top ks s (and_right (leb k top) _ r) (omega arith) t)
    (λ s t. kept_list f c (suc n) top (k ∷ ks) s r (omega arith) t)
  where
    -- n is the list's first item, or below all
    go : (b : Bool) → leb k n ≡ b
        → (ascends (suc n) ks ≡ true → ((j : ℕ) → suc n ≤ j → f j ≡ member j ks) → keep f (count_up (suc n) c) ≡ ks)
        → (ascends (suc n) (k ∷ ks) ≡ true → ((j : ℕ) → suc n ≤ j → f j ≡ member j (k ∷ ks)) → keep f (count_up (suc n) c) ≡ k ∷ ks)
        → keep f (n ∷ count_up (suc n) c) ≡ k ∷ ks
    go true e here later =
        let q = sym (ascends_cons n k ks) ∙ a in
        let m : n ≤ k = leb-true n k (and_left (leb n k) _ q) in
        let u = leb-true k n e in
        let z : n ≡ k = omega arith in
        let first : f n ≡ true = h n (omega arith) ∙ or_left (member n ks) (eq-eqb n k z) in
        let rest : keep f (count_up (suc n) c) ≡ ks = here (ap (λ i. ascends (suc i) ks) z ∙ and_right (leb n k) _ q) (λ j i. h j (omega arith) ∙ ap (λ b. b || member j ks) (ne_eqb j k (λ y. absurd (omega arith)))) in
        keep_first f n (count_up (suc n) c) first ∙ ap (λ (x : List ℕ). n ∷ x) rest ∙ ap (λ i. i ∷ ks) z
    go false e here later =
        let q = sym (ascends_cons n k ks) ∙ a in
        let above : ascends (suc n) (k ∷ ks) ≡ true = ascends_cons (suc n) k ks ∙ and_intro (le-leb (suc n) k (leb-false k n e)) (and_right (leb n k) _ q) in
        keep_skip f n (count_up (suc n) c) (h n (omega arith) ∙ below_ascending (suc n) (k ∷ ks) above n (omega arith)) ∙
        later above (λ j i. h j (omega arith))

pub ascending_kept : (n : ℕ) (list : List ℕ) → ascends n list ≡ true → every (λ k. leb k last_variable) list ≡ true
    → list ≡ keep (λ k. member k list) (count_up n (max_variables - n))
ascending_kept n list a r = sym (kept_list (λ k. member k list) (max_variables - n) n last_variable list a r (omega arith) (λ k l. refl))
