-- Each way out of the code of src/places.rt, src/edges.rt, src/bounds.rt and src/choice.rt.
use mathlib.Core.Path.{◌≡◌, refl, sym, ap, ap₂, ◌∙◌, subst}
use mathlib.Core.Bool.{Bool, true, false, not, ◌&&◌, ◌||◌, true≢false}
use mathlib.Core.List.Memᴰ
use mathlib.Core.List.{List, map, Memᴰ}
use mathlib.Core.Logic.{◌⊎◌, inl, inr}
use Prim.Native.Nat.{ℕ, zero, suc, ◌+◌, ◌-◌, ◌/◌, ◌%◌, ◌^◌, ◌≤◌, ◌<◌, min}
use native.Mathlib.Omega.{arith}
use native.Mathlib.Numerals.{add-one}
use native.Mathlib.Nat.{pow-succ'}
use lib.ListN.{length, get_or}
use lib.Bits.{bit_and, and_self}
use lib.Count.{ones, ones-le, count_trailing_zeros, under}
use lib.Dec.{eqb, leb, ltb}
use borrow.Author.Tests.{eqb-true, eq-eqb, lt-ltb, le-ltb, ltb-true, ltb-false, le-leb, leb-true}
use Rattle.model.specs.Basic.{every, exists, count_up}
use Rattle.model.specs.Table.{bit}
use Rattle.model.proofs.Tests.{both_ways, eq_self, exists_elim, exists_map}
use Rattle.judge_cover.specs.Cover.{within, left_by, dominated, skipped_at, worth, named_in, useful, past, all_filled, group}
use Rattle.judge_cover.specs.Steps.{advanced, CoversAtMost, PartOf}
use mir.Val.{bool_byte}
use Rattle.judge_cover.proofs.BitLaws.{bit_and_lem, bit_next, bit_first, and_assoc, and_swap}
use Rattle.judge_cover.proofs.Counting.{found}
use Rattle.judge_cover.proofs.CoverLaws.{within_is, is_within}

-- a number is another one, or below it
pub other : (j i : ℕ) → j < i + 1 → (j ≡ i) ⊎ (j < i)
other j i h = go (ltb j i) refl
  where
    go : (b : Bool) → ltb j i ≡ b → (j ≡ i) ⊎ (j < i)
    go true e = inr (ltb-true j i e)
    go false e = let l = ltb-false j i e in inl (omega arith)

-- sets and edges
pub inside_is : (w u : ℕ) → eqb (bit_and w u) w ≡ within w u
unfolding within
inside_is w u = refl

pub left_is : (masks : List ℕ) (u i x : ℕ) → x ≡ get_or masks i 0 → bit_and u x ≡ left_by masks u i
unfolding left_by
left_is masks u i x e = ap (bit_and u) e

pub dominated_is : (masks : List ℕ) (u i j v w : ℕ) (p q : Bool) → v ≡ left_by masks u i → w ≡ left_by masks u j → p ≡ within w v → q ≡ within v w
    → (p && (ltb j i || not q)) ≡ dominated masks u i j
unfolding dominated
dominated_is masks u i j v w p q ev ew ep eq = rw (ep, eq, ev, ew)

-- a loop that looks for a number between two of which f holds
module _ (f : ℕ → Bool) (i to : ℕ) where
  some_step : i < to → exists f (count_up i (to - i)) ≡ (f i || exists f (count_up (i + 1) (to - (i + 1))))
  unfolding exists count_up
  some_step l =
      let e : to - i ≡ suc (to - (i + 1)) = omega arith in
      ap (λ n. exists f (count_up i n)) e ∙ ap (λ n. f i || exists f (count_up n (to - (i + 1)))) (sym (add-one i))

  pub some_here : i < to → f i ≡ true → true ≡ exists f (count_up i (to - i))
  some_here l h = sym (some_step l ∙ rw h)

  pub some_later : i < to → f i ≡ false → exists f (count_up (i + 1) (to - (i + 1))) ≡ exists f (count_up i (to - i))
  some_later l h = sym (some_step l ∙ rw h)

  pub some_none : to ≤ i → false ≡ exists f (count_up i (to - i))
  unfolding exists count_up
  some_none l =
      let e : to - i ≡ 0 = omega arith in
      sym (ap (λ n. exists f (count_up i n)) e)

-- `skipped`
module _ (masks : List ℕ) (from to u i j : ℕ) (inv : exists (dominated masks u i) (count_up j (to - j)) ≡ skipped_at masks from to u i) where
  pub skipped_end : to ≤ j → false ≡ skipped_at masks from to u i
  skipped_end l = some_none (dominated masks u i) j to l ∙ inv

  module _ (l : j < to) (b : Bool) (e : b ≡ dominated masks u i j) where
    pub skipped_here : b ≡ true → true ≡ skipped_at masks from to u i
    skipped_here h = some_here (dominated masks u i) j to l (sym e ∙ h) ∙ inv

    pub skipped_later : b ≡ false → exists (dominated masks u i) (count_up (j + 1) (to - (j + 1))) ≡ skipped_at masks from to u i
    skipped_later h = some_later (dominated masks u i) j to l (sym e ∙ h) ∙ inv

pub skipped_start : (masks : List ℕ) (from to u i : ℕ) → exists (dominated masks u i) (count_up from (to - from)) ≡ skipped_at masks from to u i
unfolding skipped_at
skipped_start masks from to u i = refl

pub ruleset skipped_laws = (skipped_start, skipped_end, skipped_here, skipped_later)

-- `worth`
module _ (masks : List ℕ) (from to u v i x : ℕ) (e : x ≡ get_or masks i 0) (p : Bool) (ep : p ≡ bit x v) where
  pub worth_unnamed : p ≡ true → false ≡ worth masks from to u v i
  unfolding worth
  worth_unnamed h = rw (← e, ← ep, h)

  pub worth_named : p ≡ false → (s : Bool) → s ≡ skipped_at masks from to u i → not s ≡ worth masks from to u v i
  unfolding worth
  worth_named h s es = rw (← e, ← ep, h, es)

pub ruleset worth_laws = (worth_unnamed, worth_named)

-- `names`: the edge at a place mentions v
abbrev pub mentions_at : (masks : List ℕ) (v i : ℕ) → Bool
mentions_at masks v i = not (bit (get_or masks i 0) v)

module _ (masks : List ℕ) (from to v i : ℕ) (inv : exists (mentions_at masks v) (count_up i (to - i)) ≡ named_in masks from to v) where
  pub names_end : to ≤ i → false ≡ named_in masks from to v
  names_end l = some_none (mentions_at masks v) i to l ∙ inv

  module _ (l : i < to) (x : ℕ) (e : x ≡ get_or masks i 0) (b : Bool) (eb : b ≡ bit x v) where
    is_named : mentions_at masks v i ≡ not b
    is_named = ap (λ y. not (bit y v)) (sym e) ∙ ap not (sym eb)

    pub names_here : not b ≡ true → true ≡ named_in masks from to v
    names_here h = some_here (mentions_at masks v) i to l (is_named ∙ h) ∙ inv

    pub names_later : not b ≡ false → exists (mentions_at masks v) (count_up (i + 1) (to - (i + 1))) ≡ named_in masks from to v
    names_later h = some_later (mentions_at masks v) i to l (is_named ∙ h) ∙ inv

pub names_start : (masks : List ℕ) (from to v : ℕ) → exists (mentions_at masks v) (count_up from (to - from)) ≡ named_in masks from to v
unfolding named_in
names_start masks from to v = refl

pub ruleset names_laws = (names_start, names_end, names_here, names_later)

-- `useful`
pub useful_is : (u total gain r x : ℕ) → gain ≤ total → x ≡ ones (bit_and u r) → leb x (total - gain) ≡ useful u total gain r
unfolding useful
useful_is u total gain r x h e =
    ap (λ y. leb y (total - gain)) e
    ∙ both_ways (leb (ones (bit_and u r)) (total - gain)) (leb (ones (bit_and u r) + gain) total)
    (λ l. let g = leb-true (ones (bit_and u r)) (total - gain) l in le-leb (ones (bit_and u r) + gain) total (omega arith))
    (λ l. let g = leb-true (ones (bit_and u r) + gain) total l in le-leb (ones (bit_and u r)) (total - gain) (omega arith))

-- one more where a test holds
pub advanced_is : (n : ℕ) (b : Bool) (x : ℕ) → x ≡ bool_byte b → n + x ≡ advanced n b
unfolding advanced
advanced_is n true x e = omega (arith, e)
advanced_is n false x e = omega (arith, e)

-- `past`
pub past_before : (k i : ℕ) → i < k → i ≡ past k i
unfolding past
past_before k i h = rw (lt-ltb i k h, past)

pub past_after : (k i : ℕ) → k ≤ i → i + 1 ≡ past k i
unfolding past
past_after k i h = rw (le-ltb i k h, past)

pub ruleset step_laws = (past_before, past_after)

-- `without`
pub record Removing (k : ℕ) (list all : List ℕ) (i : ℕ) : Type 0 where
  pub size : length all ≡ 16
  pub each : (j : ℕ) → j < i → get_or all j 0 ≡ get_or list (past k j) 0

-- `all_filled`
module _ (starts ends : List ℕ) where
  abbrev pub has_edge : ℕ → Bool
  has_edge k = ltb (get_or starts k 0) (get_or ends k 0)

  pub all_first : (n : ℕ) → every has_edge (count_up 0 (n - 0)) ≡ all_filled starts ends n
  unfolding all_filled
  all_first n =
      let e : n - 0 ≡ n = omega arith in
      rw e

  module _ (n k : ℕ) (inv : every has_edge (count_up k (n - k)) ≡ all_filled starts ends n) where
    pub all_end : n ≤ k → true ≡ all_filled starts ends n
    unfolding every count_up
    all_end l =
        let e : n - k ≡ 0 = omega arith in
        rw e at inv

    module _ (l : k < n) (a b : ℕ) (ea : a ≡ get_or ends k 0) (eb : b ≡ get_or starts k 0) where
      next : (has_edge k && every has_edge (count_up (k + 1) (n - (k + 1)))) ≡ all_filled starts ends n
      unfolding every count_up
      next =
          let e : n - k ≡ suc (n - (k + 1)) = omega arith in
          ap (λ j. has_edge k && every has_edge (count_up j (n - (k + 1)))) (add-one k) ∙ ap (λ m. every has_edge (count_up k m)) (sym e) ∙ inv

      pub all_not : a ≤ b → false ≡ all_filled starts ends n
      all_not h = sym (sym next ∙ ap (λ t. t && every has_edge (count_up (k + 1) (n - (k + 1)))) (le-ltb (get_or starts k 0) (get_or ends k 0) (omega (arith, ea, eb))))

      pub all_more : b < a → every has_edge (count_up (k + 1) (n - (k + 1))) ≡ all_filled starts ends n
      all_more h = sym (ap (λ t. t && every has_edge (count_up (k + 1) (n - (k + 1)))) (lt-ltb (get_or starts k 0) (get_or ends k 0) (omega (arith, ea, eb)))) ∙ next

pub ruleset filled_laws = (all_first, all_end, all_not, all_more)

-- the edges of a group, by their places
pub record Placed (masks : List ℕ) (a n r : ℕ) : Type 0 where
  pub at : ℕ
  pub low : a ≤ at
  pub high : at < a + n
  pub is : r ≡ get_or masks at 0

pub placed : (masks : List ℕ) (n a r : ℕ) → Memᴰ r (map (λ i. get_or masks i 0) (count_up a n)) → Placed masks a n r
unfolding count_up
placed masks zero a r h = absurd (Memᴰ.not-nil h)
placed masks (suc n) a r h = go (λ i. placed masks n (suc a) r i) (Memᴰ.cases_cons h)
  where
    go : (Memᴰ r (map (λ i. get_or masks i 0) (count_up (suc a) n)) → Placed masks (suc a) n r)
        → (r ≡ get_or masks a 0) ⊎ Memᴰ r (map (λ i. get_or masks i 0) (count_up (suc a) n)) → Placed masks a (suc n) r
    go ih (inl e) = record { at = a; low = omega arith; high = omega arith; is = e }
    go ih (inr i) =
        let p = ih i in
        let l = p.low in
        let h = p.high in
        record { at = p.at; low = omega arith; high = omega arith; is = p.is }

pub edge_at_lem : (masks : List ℕ) (a b i : ℕ) → a ≤ i → i < b → Memᴰ (get_or masks i 0) (group masks a b)
unfolding group
edge_at_lem masks a b i l h =
    let x = get_or masks i 0 in
    let e = exists_elim (λ r. eqb r x) (map (λ j. get_or masks j 0) (count_up a (b - a)))
    (exists_map (λ r. eqb r x) (λ j. get_or masks j 0) (count_up a (b - a)) ∙ found (λ j. eqb (get_or masks j 0) x) (b - a) a i l (omega arith) (eq_self x)) in
    subst (λ r. Memᴰ r (map (λ j. get_or masks j 0) (count_up a (b - a)))) (eqb-true e.0 x e.2) e.1

-- `gain`
pub record Least (masks : List ℕ) (from u all least i : ℕ) : Type 0 where
  pub most : least ≤ all
  pub each : (j : ℕ) → from ≤ j → j < i → least ≤ ones (bit_and u (get_or masks j 0))

pub least_first : (masks : List ℕ) (from u all : ℕ) → Least masks from u all all from
least_first masks from u all = record { most = omega arith; each = λ j a b. absurd (omega arith) }

pub least_more : (masks : List ℕ) (from u all least i left next : ℕ) → Least masks from u all least i → left ≡ ones (bit_and u (get_or masks i 0)) → next ≡ min least left
    → Least masks from u all next (i + 1)
least_more masks from u all least i left next s e m = record {
  most = omega (arith, s.most);
  each = λ j l h. elim (other j i h) [
    | inl z ↦ omega (arith, e, ap (λ y. ones (bit_and u (get_or masks y 0))) z)
    | inr z ↦ omega (arith, s.each j l z)
  ];
}

pub gain_is : (masks : List ℕ) (from to u all least i : ℕ) → Least masks from u all least i → to ≤ i → all ≡ ones u → CoversAtMost u (group masks from to) (all - least)
unfolding group
gain_is masks from to u all least i s h e r m =
    let p = placed masks (to - from) from r m in
    let l = p.low in
    let g = p.high in
    omega (arith, s.most, s.each p.at l (omega arith), ap (λ x. ones (bit_and u x)) p.is)

pub ruleset gain_laws = (least_first, least_more, gain_is)

pub gain_small : (u all least : ℕ) → u < 2 ^ 64 → all ≡ ones u → all - least ≤ 64
gain_small u all least h e = omega (arith, ones-le 64 u h)

-- `fewer`, `rarest`
pub part_self : (u : ℕ) → PartOf u u
part_self u = record { inside = is_within u u (and_self u); some = λ h. h }

and_within : (u r : ℕ) → bit_and (bit_and u r) u ≡ bit_and u r
and_within u r = and_swap u r u ∙ ap (λ x. bit_and x r) (and_self u)

pub part_and : (u r : ℕ) → (bit_and u r ≡ 0 → ⊥) → PartOf (bit_and u r) u
part_and u r h = record { inside = is_within (bit_and u r) u (and_within u r); some = λ l. omega (arith, h) }

pub part_part : (w x u : ℕ) → PartOf w x → PartOf x u → PartOf w u
part_part w x u p q = record {
  inside = is_within w u (ap (λ y. bit_and y u) (sym (within_is w x p.inside)) ∙ and_assoc w x u ∙ ap (bit_and w) (within_is x u q.inside) ∙ within_is w x p.inside);
  some = λ h. p.some (q.some h);
}

pub ruleset part_laws = (part_self, part_and, part_part)

-- `first`
pub first_is : (k u : ℕ) → u < 2 ^ k → 0 < u → bit u (count_trailing_zeros k u) ≡ true
unfolding count_trailing_zeros
first_is zero u small some = absurd (omega arith)
first_is (suc k) u small some = go (first_is k (u / 2)) (u % 2) refl
  where
    go : (u / 2 < 2 ^ k → 0 < u / 2 → bit (u / 2) (count_trailing_zeros k (u / 2)) ≡ true) → (d : ℕ) → u % 2 ≡ d → bit u (under d (count_trailing_zeros k (u / 2))) ≡ true
    go ih zero e = let p = pow-succ' 2 k in bit_next u (count_trailing_zeros k (u / 2)) ∙ ih (omega arith) (omega arith)
    go ih (suc d) e = bit_first u ∙ eq-eqb (u % 2) 1 (omega arith)

pub chosen : (w u r : ℕ) → PartOf w u → (0 < w → bit w r ≡ true) → 0 < u → bit u r ≡ true
chosen w u r p f h = go (bit u r) refl
  where
    both : (bit w r && bit u r) ≡ true
    both = sym (bit_and_lem w u r) ∙ ap (λ x. bit x r) (within_is w u p.inside) ∙ f (p.some h)

    go : (b : Bool) → bit u r ≡ b → b ≡ true
    go true e = refl
    go false e = absurd (true≢false (sym both ∙ ap₂ (λ x y. x && y) (f (p.some h)) e))
