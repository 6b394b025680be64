-- Groups by their places, and each way out of `narrow::sift`, `edges::drop_named`, `bounds::find` and `places::groups`.
use mathlib.Core.Path.{◌≡◌, refl, sym, ap, ap₂, ◌∙◌}
use mathlib.Core.Bool.{Bool, true, false}
use mathlib.Core.List.{List, [], ◌∷◌, ◌++◌, map, map-append, append_assoc, append-nil}
use mathlib.Core.Logic.{inl, inr}
use Prim.Native.Nat.{ℕ, suc, ◌+◌, ◌-◌, ◌*◌, ◌≤◌, ◌<◌, min}
use native.Mathlib.Omega.{arith}
use native.Mathlib.Numerals.{add-one}
use lib.ListN.{length, get_or, set, length-set}
use lib.Seq.{get_or-set_same, get_or-set_other}
use lib.Bits.{bit_and}
use lib.Count.{ones}
use lib.Dec.{leb}
use Rattle.model.specs.Basic.{keep, count_up, sum}
use Rattle.model.specs.Table.{bit}
use Rattle.model.proofs.Lists.{keep_append, keep_first, keep_skip, sum_append, count_split}
use Rattle.judge_cover.specs.Cover.{group, groups, groups_of, useful, spares}
use Rattle.judge_cover.specs.Steps.{advanced, CoversAtMost, BoundsOf, SiftedTo, Passed}
use Rattle.judge_cover.proofs.Counting.{map_count, count_last}
use Rattle.judge_cover.proofs.CodeLaws.{advanced_is, other, edge_at_lem, useful_is}
use Rattle.judge_cover.proofs.CodeLaws.{Least, least_first, least_more, gain_is}

-- a group's first edge, and its last
pub group_cons : (masks : List ℕ) (i to : ℕ) → i < to → group masks i to ≡ get_or masks i 0 ∷ group masks (i + 1) to
unfolding group count_up
group_cons masks i to h =
    let e : to - i ≡ suc (to - (i + 1)) = omega arith in
    ap (λ n. map (λ j. get_or masks j 0) (count_up i n)) e ∙ ap (λ k. get_or masks i 0 ∷ map (λ j. get_or masks j 0) (count_up k (to - (i + 1)))) (sym (add-one i))

pub group_none : (masks : List ℕ) (i to : ℕ) → to ≤ i → group masks i to ≡ []
unfolding group count_up
group_none masks i to h =
    let e : to - i ≡ 0 = omega arith in
    ap (λ n. map (λ j. get_or masks j 0) (count_up i n)) e

pub group_same : (l k : List ℕ) (a b : ℕ) → ((j : ℕ) → a ≤ j → j < b → get_or l j 0 ≡ get_or k j 0) → group l a b ≡ group k a b
unfolding group
group_same l k a b h = map_count (λ j. get_or l j 0) (λ j. get_or k j 0) (b - a) a (λ j x y. h j x (omega arith))

group_last : (l : List ℕ) (a b r : ℕ) → a ≤ b → b < length l → group (set l b r) a (b + 1) ≡ group l a b ++ r ∷ []
unfolding group count_up
group_last l a b r h len =
    let e : b + 1 - a ≡ (b - a) + 1 = omega arith in
    let z : a + (b - a) ≡ b = omega arith in
    let f : ℕ → ℕ = λ j. get_or (set l b r) j 0 in
    ap (λ n. map f (count_up a n)) e ∙ ap (map f) (count_split a (b - a) 1) ∙ map-append f (count_up a (b - a)) (count_up (a + (b - a)) 1)
    ∙ ap₂ (λ x y. x ++ y)
    (map_count f (λ j. get_or l j 0) (b - a) a (λ j x y. get_or-set_other l b j r 0 (λ w. omega arith)))
    (ap (λ y. y ∷ []) (ap f z ∙ get_or-set_same l b r 0 len))

-- `sift` and `drop_named`: edges that pass a test are copied
pub record Sifting (p : ℕ → Bool) (masks : List ℕ) (from to : ℕ) (before : List ℕ) (count : ℕ) (kept : List ℕ) (next i : ℕ) : Type 0 where
  pub low : from ≤ i
  pub high : i ≤ to
  pub size : length kept ≡ length before
  pub grown : count ≤ next
  pub slow : next + from ≤ count + i
  pub same : (j : ℕ) → j < count → get_or kept j 0 ≡ get_or before j 0
  pub rest : (j : ℕ) → i ≤ j → count ≤ from → get_or kept j 0 ≡ get_or before j 0
  pub edges : group kept count next ++ keep p (group masks i to) ≡ keep p (group masks from to)

module _ (p : ℕ → Bool) (masks : List ℕ) (from to : ℕ) (before : List ℕ) (count : ℕ) where
  pub sifting_first : from ≤ to → Sifting p masks from to before count before count from
  sifting_first h = record {
    low = omega arith;
    high = h;
    size = refl;
    grown = omega arith;
    slow = omega arith;
    same = λ j l. refl;
    rest = λ j l m. refl;
    edges = ap (λ l. l ++ keep p (group masks from to)) (group_none before count count (omega arith));
  }

  module _ (kept : List ℕ) (next i : ℕ) (s : Sifting p masks from to before count kept next i) where
    pub sifting_more : i < to → (r : ℕ) → r ≡ get_or masks i 0 → next < length kept → (b : Bool) → b ≡ p r → (n : ℕ) → n ≡ advanced next b
        → Sifting p masks from to before count (set kept next r) n (i + 1)
    unfolding advanced
    sifting_more l r er len b eb n en = go b eb n en
      where
        grown : count ≤ next
        grown = s.grown

        slow : next + from ≤ count + i
        slow = s.slow

        low : from ≤ i
        low = s.low

        size : length (set kept next r) ≡ length before
        size = length-set kept next r ∙ s.size

        same : (j : ℕ) → j < count → get_or (set kept next r) j 0 ≡ get_or before j 0
        same j m = get_or-set_other kept next j r 0 (λ w. omega arith) ∙ s.same j m

        rest : (j : ℕ) → i + 1 ≤ j → count ≤ from → get_or (set kept next r) j 0 ≡ get_or before j 0
        rest j m c = get_or-set_other kept next j r 0 (λ w. omega arith) ∙ s.rest j (omega arith) c

        whole : group kept count next ++ keep p (r ∷ group masks (i + 1) to) ≡ keep p (group masks from to)
        whole = ap (λ x. group kept count next ++ keep p (x ∷ group masks (i + 1) to)) er
            ∙ ap (λ l. group kept count next ++ keep p l) (sym (group_cons masks i to l)) ∙ s.edges

        go : (b : Bool) → b ≡ p r → (n : ℕ) → n ≡ advanced next b → Sifting p masks from to before count (set kept next r) n (i + 1)
        go true e n en = record {
          low = omega arith;
          high = omega arith;
          size = size;
          grown = omega arith;
          slow = omega arith;
          same = same;
          rest = rest;
          edges =
              ap (λ m. group (set kept next r) count m ++ keep p (group masks (i + 1) to)) en
              ∙ ap (λ l. l ++ keep p (group masks (i + 1) to)) (group_last kept count next r grown len)
              ∙ append_assoc (group kept count next) (r ∷ []) (keep p (group masks (i + 1) to))
              ∙ ap (λ l. group kept count next ++ l) (sym (keep_first p r (group masks (i + 1) to) (sym e))) ∙ whole;
        }
        go false e n en = record {
          low = omega arith;
          high = omega arith;
          size = size;
          grown = omega arith;
          slow = omega arith;
          same = same;
          rest = rest;
          edges =
              ap (λ m. group (set kept next r) count m ++ keep p (group masks (i + 1) to)) en
              ∙ ap (λ l. l ++ keep p (group masks (i + 1) to))
              (group_same (set kept next r) kept count next (λ j x y. get_or-set_other kept next j r 0 (λ w. omega arith)))
              ∙ ap (λ l. group kept count next ++ l) (sym (keep_skip p r (group masks (i + 1) to) (sym e))) ∙ whole;
        }

    pub sifting_done : to ≤ i → SiftedTo p masks from to before kept count next
    unfolding keep
    sifting_done h =
        let high = s.high in
        let e : i ≡ to = omega arith in
        record {
          size = s.size;
          grown = s.grown;
          slow = omega (arith, s.slow);
          same = s.same;
          rest = λ j l c. s.rest j (omega arith) c;
          edges = sym (append-nil (group kept count next)) ∙ ap (λ l. group kept count next ++ keep p l) (sym (group_none masks i to h)) ∙ s.edges;
        }

-- `drop_named`
module _ (before : List ℕ) (from to v : ℕ) where
  pub dropping_first : from ≤ to → Sifting (spares v) before from to before from before from from
  dropping_first h = sifting_first (spares v) before from to before from h

  module _ (kept : List ℕ) (next i : ℕ) (s : Sifting (spares v) before from to before from kept next i) where
    pub dropping_more : i < to → to ≤ length before → (b : Bool) → b ≡ bit (get_or kept i 0) v → (n : ℕ) → n ≡ advanced next b
        → Sifting (spares v) before from to before from (set kept next (get_or kept i 0)) n (i + 1)
    unfolding spares
    dropping_more l len b eb n en =
        sifting_more (spares v) before from to before from kept next i s l (get_or kept i 0) (s.rest i (omega arith) (omega arith)) (omega (arith, s.slow, s.size)) b eb n en

    pub dropping_done : to ≤ i → SiftedTo (spares v) before from to before kept from next
    dropping_done h = sifting_done (spares v) before from to before from kept next i s h

pub ruleset dropping_laws = (dropping_first, dropping_more, dropping_done, advanced_is)

-- `sift`
pub record Passing (masks : List ℕ) (from to u total gain : ℕ) (before : List ℕ) (count : ℕ) (kept : List ℕ) (next least i : ℕ) : Type 0 where
  pub sifting : Sifting (useful u total gain) masks from to before count kept next i
  pub below : Least masks from u (ones u) least i
  pub enough : ones u ≤ gain + least

module _ (masks : List ℕ) (from to u total gain : ℕ) (before : List ℕ) (count : ℕ) where
  pub passing_first : from ≤ to → (all : ℕ) → all ≡ ones u → Passing masks from to u total gain before count before count all from
  passing_first h all e = record {
    sifting = sifting_first (useful u total gain) masks from to before count h;
    below = rw e (least_first masks from u (ones u));
    enough = omega (arith, e);
  }

  module _ (kept : List ℕ) (next least i : ℕ) (s : Passing masks from to u total gain before count kept next least i) where
    pub passing_room : i < to → count + to ≤ from + length before → next < length kept
    passing_room l room = omega (arith, s.sifting.slow, s.sifting.size)

    pub passing_more : i < to → count + to ≤ from + length before → gain ≤ total → CoversAtMost u (group masks from to) gain
        → (left : ℕ) → left ≡ ones (bit_and u (get_or masks i 0)) → (n : ℕ) → n ≡ advanced next (leb left (total - gain)) → (m : ℕ) → m ≡ min least left
        → Passing masks from to u total gain before count (set kept next (get_or masks i 0)) n m (i + 1)
    passing_more l room h c left e n en m em = record {
      sifting = sifting_more (useful u total gain) masks from to before count kept next i s.sifting l (get_or masks i 0) refl (passing_room l room)
          (leb left (total - gain)) (useful_is u total gain (get_or masks i 0) left h e) n en;
      below = least_more masks from u (ones u) least i left m s.below e em;
      enough = omega (arith, s.enough, c (get_or masks i 0) (edge_at_lem masks from to i s.sifting.low l));
    }

    pub passing_done : to ≤ i → gain ≤ total → (all : ℕ) → all ≡ ones u
        → Passed masks from to u total gain before kept count next (all - least) ((total - gain) + (all - least))
    passing_done h l all e = record {
      sifted = sifting_done (useful u total gain) masks from to before count kept next i s.sifting h;
      bound = rw e (gain_is masks from to u (ones u) least i s.below h refl);
      all = omega arith;
    }

pub ruleset passing_laws = (passing_first, passing_more, passing_done, advanced_is)

-- one group more
module _ (masks starts ends : List ℕ) (n a b : ℕ) where
  groups_kept : groups masks (set starts n a) (set ends n b) n ≡ groups masks starts ends n
  unfolding groups
  groups_kept = map_count _ _ n 0 (λ j x y. ap₂ (group masks)
      (get_or-set_other starts n j a 0 (λ w. omega arith)) (get_or-set_other ends n j b 0 (λ w. omega arith)))

  pub groups_more : n < length starts → n < length ends → groups masks (set starts n a) (set ends n b) (n + 1) ≡ groups masks starts ends n ++ group masks a b ∷ []
  unfolding groups
  groups_more p q =
      let f : ℕ → List ℕ = λ k. group masks (get_or (set starts n a) k 0) (get_or (set ends n b) k 0) in
      ap (map f) (count_last n) ∙ map-append f (count_up 0 n) (n ∷ [])
      ∙ ap₂ (λ x y. x ++ y ∷ []) groups_kept (ap₂ (group masks) (get_or-set_same starts n a 0 p) (get_or-set_same ends n b 0 q))

-- `places::groups`
pub record Gathering (first : List ℕ) (takers : ℕ) (starts ends : List ℕ) (n k : ℕ) : Type 0 where
  pub few : n ≤ k
  pub low : k ≤ 16
  pub starts_size : length starts ≡ 16
  pub ends_size : length ends ≡ 16
  pub gathered : (masks : List ℕ) → groups masks starts ends n ≡ map (λ j. group masks (get_or first j 0) (get_or first (suc j) 0)) (keep (bit takers) (count_up 0 k))

module _ (first : List ℕ) (takers : ℕ) where
  pub gathering_first : (starts ends : List ℕ) → length starts ≡ 16 → length ends ≡ 16 → Gathering first takers starts ends 0 0
  unfolding groups keep count_up
  gathering_first starts ends p q = record { few = omega arith; low = omega arith; starts_size = p; ends_size = q; gathered = λ masks. refl }

  module _ (starts ends : List ℕ) (n k : ℕ) (s : Gathering first takers starts ends n k) where
    pub gathering_more : k < 16 → (a b : ℕ) → a ≡ get_or first k 0 → b ≡ get_or first (k + 1) 0 → (t : Bool) → t ≡ bit takers k → (m : ℕ) → m ≡ advanced n t
        → Gathering first takers (set starts n a) (set ends n b) m (k + 1)
    unfolding advanced keep
    gathering_more h a b ea eb t et m em = go t et m em
      where
        few : n ≤ k
        few = s.few

        kept : keep (bit takers) (count_up 0 (k + 1)) ≡ keep (bit takers) (count_up 0 k) ++ keep (bit takers) (k ∷ [])
        kept = ap (keep (bit takers)) (count_last k) ∙ keep_append (bit takers) (count_up 0 k) (k ∷ [])

        p : length (set starts n a) ≡ 16
        p = length-set starts n a ∙ s.starts_size

        q : length (set ends n b) ≡ 16
        q = length-set ends n b ∙ s.ends_size

        whole : (l : List ℕ) → keep (bit takers) (k ∷ []) ≡ l → keep (bit takers) (count_up 0 (k + 1)) ≡ keep (bit takers) (count_up 0 k) ++ l
        whole l z = kept ∙ ap (λ y. keep (bit takers) (count_up 0 k) ++ y) z

        go : (t : Bool) → t ≡ bit takers k → (m : ℕ) → m ≡ advanced n t → Gathering first takers (set starts n a) (set ends n b) m (k + 1)
        go true e m em = record {
          few = omega arith;
          low = omega arith;
          starts_size = p;
          ends_size = q;
          gathered = λ masks.
              let f : ℕ → List ℕ = λ j. group masks (get_or first j 0) (get_or first (suc j) 0) in
              ap (groups masks (set starts n a) (set ends n b)) em
              ∙ groups_more masks starts ends n a b (omega (arith, s.starts_size)) (omega (arith, s.ends_size))
              ∙ ap₂ (λ x y. x ++ y ∷ []) (s.gathered masks) (ap₂ (group masks) ea (eb ∙ ap (λ j. get_or first j 0) (add-one k)))
              ∙ sym (ap (map f) (whole (k ∷ []) (keep_first (bit takers) k [] (sym e)))
              ∙ map-append f (keep (bit takers) (count_up 0 k)) (k ∷ []));
        }
        go false e m em = record {
          few = omega arith;
          low = omega arith;
          starts_size = p;
          ends_size = q;
          gathered = λ masks.
              let f : ℕ → List ℕ = λ j. group masks (get_or first j 0) (get_or first (suc j) 0) in
              ap (groups masks (set starts n a) (set ends n b)) em
              ∙ groups_kept masks starts ends n a b ∙ s.gathered masks
              ∙ sym (ap (map f) (whole [] (keep_skip (bit takers) k [] (sym e)) ∙ append-nil (keep (bit takers) (count_up 0 k))));
        }

    pub gathering_few : n ≤ 16
    gathering_few = omega (arith, s.few, s.low)

    pub gathering_done : 16 ≤ k → (masks : List ℕ) → groups masks starts ends n ≡ groups_of masks first takers
    unfolding groups_of
    gathering_done h masks =
        let low = s.low in
        let e : k ≡ 16 = omega arith in
        s.gathered masks ∙ ap (λ j. map (λ j. group masks (get_or first j 0) (get_or first (suc j) 0)) (keep (bit takers) (count_up 0 j))) e

pub ruleset gathering_laws = (gathering_first, gathering_more, gathering_few, gathering_done)

-- `bounds::find`
pub record Bounding (masks starts ends : List ℕ) (n u : ℕ) (gains : List ℕ) (total k : ℕ) : Type 0 where
  pub few : k ≤ n
  pub size : length gains ≡ 16
  pub small : total ≤ 64 * k
  pub each : (j : ℕ) → j < k → CoversAtMost u (group masks (get_or starts j 0) (get_or ends j 0)) (get_or gains j 0)
  pub all : total ≡ sum (map (λ j. get_or gains j 0) (count_up 0 k))

module _ (masks starts ends : List ℕ) (n u : ℕ) where
  pub bounding_first : (gains : List ℕ) → length gains ≡ 16 → Bounding masks starts ends n u gains 0 0
  unfolding sum count_up
  bounding_first gains h = record { few = omega arith; size = h; small = omega arith; each = λ j l. absurd (omega arith); all = refl }

  module _ (gains : List ℕ) (total k : ℕ) (s : Bounding masks starts ends n u gains total k) where
    pub bounding_more : k < n → n ≤ 16 → (a b most : ℕ) → a ≡ get_or starts k 0 → b ≡ get_or ends k 0 → CoversAtMost u (group masks a b) most → most ≤ 64
        → Bounding masks starts ends n u (set gains k most) (total + most) (k + 1)
    unfolding sum
    bounding_more h g a b most ea eb c l =
        let z = s.size in
        let t = s.small in
        let f : ℕ → ℕ = λ j. get_or (set gains k most) j 0 in
        let last : get_or (set gains k most) k 0 ≡ most = get_or-set_same gains k most 0 (omega arith) in
        let sums : sum (map f (count_up 0 (k + 1))) ≡ total + most =
        ap (λ l. sum (map f l)) (count_last k) ∙ ap sum (map-append f (count_up 0 k) (k ∷ [])) ∙ sum_append (map f (count_up 0 k)) (f k ∷ [])
        ∙ ap₂ (λ x y. sum x + sum (y ∷ [])) (map_count f (λ j. get_or gains j 0) k 0 (λ j x y. get_or-set_other gains k j most 0 (λ w. omega arith))) last
        ∙ omega (arith, s.all) in
        record {
          few = omega arith;
          size = length-set gains k most ∙ z;
          small = omega arith;
          each = λ j m. elim (other j k m) [
            | inl e ↦ here j e last
            | inr e ↦ before j e
          ];
          all = sym sums;
        }
      where
        here : (j : ℕ) → j ≡ k → get_or (set gains k most) k 0 ≡ most → CoversAtMost u (group masks (get_or starts j 0) (get_or ends j 0)) (get_or (set gains k most) j 0)
        here j e last = rw (e, last, ← ea, ← eb) c

        before : (j : ℕ) → j < k → CoversAtMost u (group masks (get_or starts j 0) (get_or ends j 0)) (get_or (set gains k most) j 0)
        before j e =
            let x : get_or (set gains k most) j 0 ≡ get_or gains j 0 = get_or-set_other gains k j most 0 (λ w. omega arith) in
            rw x (s.each j e)

    pub bounding_done : n ≤ k → BoundsOf masks starts ends n u gains total
    bounding_done h =
        let few = s.few in
        let e : k ≡ n = omega arith in
        record { each = λ j l. s.each j (omega arith); all = s.all ∙ ap (λ m. sum (map (λ j. get_or gains j 0) (count_up 0 m))) e }

pub ruleset bounding_laws = (bounding_first, bounding_more, bounding_done)
