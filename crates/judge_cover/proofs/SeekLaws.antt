-- Each way out of the code of src/seek.rt, src/plain.rt and of `covered`.
use mathlib.Core.Path.{◌≡◌, refl, sym, ap, ap₂, ◌∙◌}
use mathlib.Core.Bool.{Bool, true, false, not, ◌&&◌}
use mathlib.Core.List.{List, [], ◌∷◌, ◌++◌, map, map-append}
use mathlib.Core.Logic.{◌⊎◌, inl, inr}
use Prim.Native.Nat.{ℕ, suc, ◌+◌, ◌-◌, ◌≤◌, ◌<◌}
use native.Mathlib.Omega.{arith}
use native.Mathlib.Numerals.{add-one}
use lib.ListN.{length, get_or, set, length-set}
use lib.Seq.{get_or-set_same, get_or-set_other}
use lib.Bits.{bit_and}
use lib.Count.{ones}
use lib.Dec.{eqb, ltb}
use borrow.Author.Tests.{lt-ltb, ltb-true, ltb-false}
use Rattle.std.specs.Prelude.{None}
use Rattle.model.specs.Basic.{every, exists, keep, count_up, sum}
use Rattle.model.specs.Table.{bit}
use Rattle.model.proofs.Tests.{exists_map, every_ext, not-true}
use Rattle.model.proofs.Lists.{every_map, sum_append}
use Rattle.judge_cover.specs.Cover.{coverable, group, groups, groups_of, left_by, worth, named_in, spares, all_filled}
use Rattle.judge_cover.specs.Steps.{Without, Laid, CoversAtMost, BoundsOf, SiftedTo, NarrowedTo}
use Rattle.judge_cover.specs.Steps.{groups_from, others_at, through_at, tries_at}
use Rattle.judge_cover.proofs.Counting.{map_count, count_at_lem, every_count}
use Rattle.judge_cover.proofs.CoverLaws.{exists_keep, exists_dropped, filled, nothing_left, one_empty, coverable_falls, above_part, above_kept}
use Rattle.judge_cover.proofs.Branching.{group_out, through_covers, unnamed_uncovered, worth_is_enough}
use Rattle.judge_cover.proofs.CodeLaws.{other, some_here, some_later, some_none}
use Rattle.judge_cover.proofs.PlaceLaws.{laid_before, laid_cut, past_some, map_past, laid_in, laid_low, laid_more, spans_all, spans_size, last_inside, end_inside}
use Rattle.judge_cover.proofs.GroupLaws.{group_cons, group_none, group_same}
use Rattle.judge_cover.proofs.NarrowLaws.{bounded, too_few, from_cons, from_first, from_none}

-- a group has an edge exactly when its places are some
filled_group : (masks : List ℕ) (a b : ℕ) → filled (group masks a b) ≡ ltb a b
unfolding exists
filled_group masks a b = go (ltb a b) refl
  where
    go : (t : Bool) → ltb a b ≡ t → filled (group masks a b) ≡ ltb a b
    go true e = ap filled (group_cons masks a b (ltb-true a b e)) ∙ sym e
    go false e = ap filled (group_none masks a b (ltb-false a b e)) ∙ sym e

all_filled_lem : (masks starts ends : List ℕ) (n : ℕ) → all_filled starts ends n ≡ every filled (groups masks starts ends n)
unfolding all_filled groups
all_filled_lem masks starts ends n =
    every_ext _ _ (count_up 0 n) (λ k i. sym (filled_group masks (get_or starts k 0) (get_or ends k 0)))
    ∙ sym (every_map filled (λ k. group masks (get_or starts k 0) (get_or ends k 0)) (count_up 0 n))

-- `seek`
module _ (masks starts ends : List ℕ) (n u : ℕ) where
  pub seek_covered : (size : ℕ) → Laid starts ends n size → u ≡ 0 → true ≡ coverable (groups masks starts ends n) u
  unfolding all_filled
  seek_covered size s z =
      let all : all_filled starts ends n ≡ true = every_count _ n 0 (λ k x y. lt-ltb (get_or starts k 0) (get_or ends k 0) (s.some k (omega arith))) in
      sym (ap (coverable (groups masks starts ends n)) z ∙ nothing_left (groups masks starts ends n) ∙ sym (all_filled_lem masks starts ends n) ∙ all)

  pub seek_short : (gains : List ℕ) (total x : ℕ) → BoundsOf masks starts ends n u gains total → x ≡ ones u → total < x → false ≡ coverable (groups masks starts ends n) u
  seek_short gains total x s e l =
      sym (too_few (groups masks starts ends n) (map (λ k. get_or gains k 0) (count_up 0 n)) u (bounded masks starts ends n u gains total s) (omega (arith, s.all, e)))

pub ruleset seek_laws = (seek_covered, seek_short, spans_all, spans_size)

-- `narrowed`
module _ (masks from to : List ℕ) (n u : ℕ) (before kept starts ends gains : List ℕ) where
  pub narrowed_short : NarrowedTo masks from to n u before kept starts ends gains None
      → false ≡ coverable (groups masks from to n) u
  narrowed_short s = sym s.outcome

-- `tried`: without group k
module _ (masks starts ends : List ℕ) (n k : ℕ) (few : n ≤ 16) (l : k < n) (from to : List ℕ) (f : Without k starts from) (g : Without k ends to) where
  other_groups : groups masks from to (n - 1) ≡ others_at masks starts ends n k
  unfolding groups others_at groups_from
  other_groups = map_past (λ i. group masks (get_or from i 0) (get_or to i 0)) (λ j. group masks (get_or starts j 0) (get_or ends j 0)) n k l
      (λ i m. ap₂ (group masks) (f.each i (omega arith)) (g.each i (omega arith)))

  module _ (u : ℕ) (gains less : List ℕ) (total : ℕ) (h : Without k gains less) (s : BoundsOf masks starts ends n u gains total) (b : ℕ) (eb : b ≡ get_or gains k 0) where
    sums : total ≡ sum (map (λ j. get_or gains j 0) (count_up 0 k)) + (b + sum (map (λ j. get_or gains j 0) (count_up (suc k) (n - suc k))))
    unfolding sum
    sums =
        s.all ∙ ap (λ m. sum (map (λ j. get_or gains j 0) m)) (count_at_lem n k l)
        ∙ ap sum (map-append (λ j. get_or gains j 0) (count_up 0 k) (k ∷ count_up (suc k) (n - suc k)))
        ∙ sum_append (map (λ j. get_or gains j 0) (count_up 0 k)) (get_or gains k 0 ∷ map (λ j. get_or gains j 0) (count_up (suc k) (n - suc k)))
        ∙ ap (λ x. sum (map (λ j. get_or gains j 0) (count_up 0 k)) + (x + sum (map (λ j. get_or gains j 0) (count_up (suc k) (n - suc k))))) (sym eb)

    pub gain_part : b ≤ total
    gain_part = omega (arith, sums)

    -- what an edge leaves is covered no better
    pub bounds_without : (i x : ℕ) → x ≡ left_by masks u i → BoundsOf masks from to (n - 1) x less (total - b)
    unfolding left_by
    bounds_without i x e = record {
      each = λ j m. rw (e, f.each j (omega arith), g.each j (omega arith), h.each j (omega arith))
          (past_some (λ p. CoversAtMost (bit_and u (get_or masks i 0)) (group masks (get_or starts p 0) (get_or ends p 0)) (get_or gains p 0)) n k j
          (λ p q. above_part u (get_or masks i 0) (group masks (get_or starts p 0) (get_or ends p 0)) (get_or gains p 0) (s.each p q)) m);
      all = omega (
        arith,
        sums,
        ap sum (map_past (λ i. get_or less i 0) (λ j. get_or gains j 0) n k l (λ i m. h.each i (omega arith))),
        sum_append (map (λ j. get_or gains j 0) (count_up 0 k)) (map (λ j. get_or gains j 0) (count_up (suc k) (n - suc k))),
      );
    }

  module _ (u v a b : ℕ) (uncovered : bit u v ≡ true) (ea : a ≡ get_or starts k 0) (eb : b ≡ get_or ends k 0) where
    abbrev T : Bool
    T = through_at masks starts ends n u v k

    abbrev tries : ℕ → Bool
    tries = tries_at masks a b from to (n - 1) u v

    pub tried_start : exists tries (count_up a (b - a)) ≡ T
    unfolding through_at group left_by
    tried_start =
        let R = groups masks from to (n - 1) in
        worth_is_enough masks a b u v uncovered (coverable R) (coverable_falls R)
        ∙ sym (exists_map (λ r. not (bit r v) && coverable R (bit_and u r)) (λ i. get_or masks i 0) (count_up a (b - a)))
        ∙ ap (λ S. exists (λ r. not (bit r v) && coverable S (bit_and u r)) (group masks a b)) other_groups
        ∙ ap₂ (λ x y. exists (λ r. not (bit r v) && coverable (others_at masks starts ends n k) (bit_and u r)) (group masks x y)) ea eb

module _ (masks starts ends : List ℕ) (n u v k : ℕ) (a b : ℕ) (from to : List ℕ) (m i : ℕ)
    (inv : exists (tries_at masks a b from to m u v) (count_up i (b - i)) ≡ through_at masks starts ends n u v k) where
  abbrev at : ℕ → Bool
  at = tries_at masks a b from to m u v

  pub tried_end : b ≤ i → false ≡ through_at masks starts ends n u v k
  tried_end l = some_none at i b l ∙ inv

  module _ (l : i < b) (w : Bool) (ew : w ≡ worth masks a b u v i) where
    pub tried_skip : w ≡ false → exists at (count_up (i + 1) (b - (i + 1))) ≡ through_at masks starts ends n u v k
    tried_skip h = some_later at i b l (rw (← ew, h)) ∙ inv

    module _ (h : w ≡ true) (x : ℕ) (ex : x ≡ left_by masks u i) (c : Bool) (ec : c ≡ coverable (groups masks from to m) x) where
      is_covered : at i ≡ c
      is_covered = rw (← ew, h, ← ex, ec)

      pub tried_here : c ≡ true → true ≡ through_at masks starts ends n u v k
      tried_here y = some_here at i b l (is_covered ∙ y) ∙ inv

      pub tried_later : c ≡ false → exists at (count_up (i + 1) (b - (i + 1))) ≡ through_at masks starts ends n u v k
      tried_later y = some_later at i b l (is_covered ∙ y) ∙ inv

pub ruleset tried_laws = (tried_start, tried_end, tried_skip, tried_here, tried_later, end_inside)

-- `branch`
named_is : (masks : List ℕ) (a b v : ℕ) → named_in masks a b v ≡ exists (λ r. not (bit r v)) (group masks a b)
unfolding named_in group
named_is masks a b v = sym (exists_map (λ r. not (bit r v)) (λ i. get_or masks i 0) (count_up a (b - a)))

never_both : (v : ℕ) (g : List ℕ) → exists (λ r. not (bit r v)) (keep (spares v) g) ≡ false
unfolding spares exists
never_both v g = exists_keep (λ r. not (bit r v)) (spares v) g ∙ go g
  where
    neither : (b : Bool) → (b && not b) ≡ false
    neither true = refl
    neither false = refl

    go : (g : List ℕ) → exists (λ r. bit r v && not (bit r v)) g ≡ false
    go [] = refl
    go (r ∷ g) = rw (neither (bit r v), go g)

pub record Branching (before starts first gains : List ℕ) (n u total v : ℕ) (kept ends : List ℕ) (k : ℕ) : Type 0 where
  pub size : length kept ≡ length before
  pub ends_size : length ends ≡ 16
  pub laid : Laid starts ends n (length kept)
  pub bounds : BoundsOf kept starts ends n u gains total
  pub unnamed : (j : ℕ) → j < k → named_in kept (get_or starts j 0) (get_or ends j 0) v ≡ false
  pub same : coverable (groups kept starts ends n) u ≡ coverable (groups before starts first n) u

module _ (before starts first gains : List ℕ) (n u total v : ℕ) where
  abbrev answer : Bool
  answer = coverable (groups before starts first n) u

  pub branching_first : length first ≡ 16 → Laid starts first n (length before) → BoundsOf before starts first n u gains total
      → Branching before starts first gains n u total v before first 0
  branching_first len s b = record {
    size = refl;
    ends_size = len;
    laid = s;
    bounds = b;
    unnamed = λ j l. absurd (omega arith);
    same = refl;
  }

  module _ (kept ends : List ℕ) (k : ℕ) (s : Branching before starts first gains n u total v kept ends k) where
    pub branching_end : n ≤ k → bit u v ≡ true → false ≡ answer
    unfolding groups
    branching_end l b = sym (sym s.same ∙ unnamed_uncovered (λ j. group kept (get_or starts j 0) (get_or ends j 0)) v n 0 u b
        (λ j x y. sym (named_is kept (get_or starts j 0) (get_or ends j 0) v) ∙ s.unnamed j (omega arith)))

    pub branching_places : k < n → (a b : ℕ) → a ≡ get_or starts k 0 → b ≡ get_or ends k 0 → length before ≤ 512 → (a ≤ b) × (b ≤ length kept) × (b ≤ 512)
    branching_places l a b ea eb low =
        let inside = s.laid.inside k l in
        (omega (arith, s.laid.some k l), omega arith, omega (arith, s.size))

    module _ (l : k < n) (t : Bool) (et : t ≡ through_at kept starts ends n u v k) where
      pub branching_here : t ≡ true → true ≡ answer
      branching_here h = sym (sym s.same ∙ through_covers kept starts ends n u v k l (sym et ∙ h))

      module _ (h : t ≡ false) (few : n ≤ 16) (a b : ℕ) (ea : a ≡ get_or starts k 0) (eb : b ≡ get_or ends k 0) (after : List ℕ) (end : ℕ)
          (f : SiftedTo (spares v) kept a b kept after a end) where
        abbrev ends⁺ : List ℕ
        ends⁺ = set ends k end

        end_here : get_or ends⁺ k 0 ≡ end
        end_here = get_or-set_same ends k end 0 (omega (arith, s.ends_size))

        end_other : (j : ℕ) → (j ≡ k → ⊥) → get_or ends⁺ j 0 ≡ get_or ends j 0
        end_other j w = get_or-set_other ends k j end 0 w

        group_before : (j : ℕ) → j < k → group after (get_or starts j 0) (get_or ends⁺ j 0) ≡ group kept (get_or starts j 0) (get_or ends j 0)
        group_before j m =
            ap (group after (get_or starts j 0)) (end_other j (λ w. omega arith))
            ∙ group_same after kept (get_or starts j 0) (get_or ends j 0) (λ i x y. f.same i (omega (arith, laid_before starts ends n (length kept) s.laid j k m l)))

        group_behind : (j : ℕ) → k < j → j < n → group after (get_or starts j 0) (get_or ends⁺ j 0) ≡ group kept (get_or starts j 0) (get_or ends j 0)
        group_behind j m o =
            ap (group after (get_or starts j 0)) (end_other j (λ w. omega arith))
            ∙ group_same after kept (get_or starts j 0) (get_or ends j 0)
            (λ i x y. f.rest i (omega (arith, laid_before starts ends n (length kept) s.laid k j m o)) (omega arith))

        group_here : group after (get_or starts k 0) (get_or ends⁺ k 0) ≡ keep (spares v) (group kept (get_or starts k 0) (get_or ends k 0))
        group_here = ap₂ (group after) (sym ea) end_here ∙ f.edges ∙ ap₂ (λ x y. keep (spares v) (group kept x y)) ea eb

        others_same : others_at after starts ends⁺ n k ≡ others_at kept starts ends n k
        unfolding others_at groups groups_from
        others_same = ap₂ (λ x y. x ++ y)
            (map_count _ _ k 0 (λ j x y. group_before j (omega arith)))
            (map_count _ _ (n - suc k) (suc k) (λ j x y. group_behind j (omega arith) (omega arith)))

        dropped : coverable (groups after starts ends⁺ n) u ≡ coverable (groups kept starts ends n) u
        unfolding through_at spares
        dropped =
            group_out after starts ends⁺ n k u l
            ∙ ap₂ (λ R g. exists (λ r. coverable R (bit_and u r)) g) others_same group_here
            ∙ exists_dropped (λ r. coverable (others_at kept starts ends n k) (bit_and u r)) (spares v) (group kept (get_or starts k 0) (get_or ends k 0)) (sym et ∙ h)
            ∙ sym (group_out kept starts ends n k u l)

        pub branching_none : end ≤ a → false ≡ answer
        unfolding exists
        branching_none m =
            sym (sym s.same ∙ sym dropped ∙ group_out after starts ends⁺ n k u l
            ∙ ap (λ g. exists (λ r. coverable (others_at after starts ends⁺ n k) (bit_and u r)) g)
            (ap₂ (group after) (sym ea) end_here ∙ group_none after a end m))

        bound_now : (j : ℕ) → j < n → (j < k) ⊎ ((j ≡ k) ⊎ (k < j)) → CoversAtMost u (group after (get_or starts j 0) (get_or ends⁺ j 0)) (get_or gains j 0)
        bound_now j o (inl m) = rw (group_before j m) (s.bounds.each j o)
        bound_now j o (inr (inl e)) = rw (e, group_here) (above_kept u (spares v) (group kept (get_or starts k 0) (get_or ends k 0)) (get_or gains k 0) (s.bounds.each k l))
        bound_now j o (inr (inr m)) = rw (group_behind j m o) (s.bounds.each j o)

        split : (j : ℕ) → (j < k) ⊎ ((j ≡ k) ⊎ (k < j))
        split j = go (ltb j k) (ltb k j) refl refl
          where
            go : (p q : Bool) → ltb j k ≡ p → ltb k j ≡ q → (j < k) ⊎ ((j ≡ k) ⊎ (k < j))
            go true q x y = inl (ltb-true j k x)
            go false true x y = inr (inr (ltb-true k j y))
            go false false x y = let p = ltb-false j k x in let q = ltb-false k j y in inr (inl (omega arith))

        spared_now : (j : ℕ) → (j ≡ k) ⊎ (j < k) → named_in after (get_or starts j 0) (get_or ends⁺ j 0) v ≡ false
        spared_now j (inr m) =
            named_is after (get_or starts j 0) (get_or ends⁺ j 0) v ∙ ap (exists (λ r. not (bit r v))) (group_before j m)
            ∙ sym (named_is kept (get_or starts j 0) (get_or ends j 0) v) ∙ s.unnamed j m
        spared_now j (inl e) =
            ap (λ i. named_in after (get_or starts i 0) (get_or ends⁺ i 0) v) e ∙ named_is after (get_or starts k 0) (get_or ends⁺ k 0) v
            ∙ ap (exists (λ r. not (bit r v))) group_here ∙ never_both v (group kept (get_or starts k 0) (get_or ends k 0))

        pub branching_laid : a < end → Laid starts ends⁺ n (length after)
        branching_laid m = rw f.size (laid_cut starts ends n k end (length kept) s.laid l (omega (arith, s.ends_size)) (omega arith) (omega (arith, f.slow)))

        pub branching_more : a < end → Branching before starts first gains n u total v after ends⁺ (k + 1)
        branching_more m = record {
          size = f.size ∙ s.size;
          ends_size = length-set ends k end ∙ s.ends_size;
          laid = branching_laid m;
          bounds = record { each = λ j o. bound_now j o (split j); all = s.bounds.all };
          unnamed = λ j o. spared_now j (other j k o);
          same = dropped ∙ s.same;
        }

pub ruleset branching_laws = (branching_first, branching_here, branching_none, branching_end, branching_places, last_inside, end_inside, laid_more)

-- `plain::cover`
abbrev pub chooses_at : (masks starts ends : List ℕ) (k n u i : ℕ) → Bool
chooses_at masks starts ends k n u i = coverable (groups_from masks starts ends (k + 1) n) (left_by masks u i)

module _ (masks starts ends : List ℕ) (k n u : ℕ) where
  abbrev all : Bool
  all = coverable (groups_from masks starts ends k n) u

  pub plain_none : n ≤ k → eqb u 0 ≡ all
  unfolding coverable
  plain_none h = sym (ap (λ l. coverable l u) (from_none masks starts ends k n h))

  pub plain_start : k < n → (a b : ℕ) → a ≡ get_or starts k 0 → b ≡ get_or ends k 0 → exists (chooses_at masks starts ends k n u) (count_up a (b - a)) ≡ all
  unfolding coverable group left_by
  plain_start l a b ea eb =
      ap (λ j. exists (λ i. coverable (groups_from masks starts ends j n) (bit_and u (get_or masks i 0))) (count_up a (b - a))) (add-one k)
      ∙ sym (exists_map (λ r. coverable (groups_from masks starts ends (suc k) n) (bit_and u r)) (λ i. get_or masks i 0) (count_up a (b - a)))
      ∙ ap₂ (λ x y. exists (λ r. coverable (groups_from masks starts ends (suc k) n) (bit_and u r)) (group masks x y)) ea eb
      ∙ sym (ap (λ m. coverable m u) (from_cons masks starts ends k n l))

  module _ (i to : ℕ) (inv : exists (chooses_at masks starts ends k n u) (count_up i (to - i)) ≡ all) where
    pub plain_end : to ≤ i → false ≡ all
    plain_end l = some_none (chooses_at masks starts ends k n u) i to l ∙ inv

    module _ (l : i < to) (x : ℕ) (ex : x ≡ left_by masks u i) (r : Bool) (er : r ≡ coverable (groups_from masks starts ends (k + 1) n) x) where
      pub plain_here : r ≡ true → true ≡ all
      plain_here h = some_here (chooses_at masks starts ends k n u) i to l (rw (← ex, ← er, h)) ∙ inv

      pub plain_later : r ≡ false → exists (chooses_at masks starts ends k n u) (count_up (i + 1) (to - (i + 1))) ≡ all
      plain_later h = some_later (chooses_at masks starts ends k n u) i to l (rw (← ex, ← er, h)) ∙ inv

pub ruleset plain_laws = (plain_none, plain_start, plain_end, plain_here, plain_later)

-- `covered`
module _ (masks first starts ends : List ℕ) (takers n changed : ℕ) (same : (l : List ℕ) → groups l starts ends n ≡ groups_of l first takers) where
  pub covered_by : (r : Bool) → r ≡ coverable (groups masks starts ends n) changed → r ≡ coverable (groups_of masks first takers) changed
  covered_by r e = e ∙ ap (λ l. coverable l changed) (same masks)

  pub covered_plain : (r : Bool) → r ≡ coverable (groups_from masks starts ends 0 n) changed → r ≡ coverable (groups_of masks first takers) changed
  covered_plain r e = covered_by r (e ∙ ap (λ l. coverable l changed) (from_first masks starts ends n))

  pub covered_empty : (b : Bool) → b ≡ all_filled starts ends n → not b ≡ true → false ≡ coverable (groups_of masks first takers) changed
  covered_empty b e h = covered_by false (sym (one_empty (groups masks starts ends n) changed (sym (all_filled_lem masks starts ends n) ∙ sym e ∙ not-true b h)))

pub ruleset covered_laws = (covered_by, covered_plain, covered_empty, laid_in, laid_low)
