-- Each way out of `narrow::narrow`: group after group, edges that the others could not make up for are dropped, and the bounds fall.
use mathlib.Core.Path.{◌≡◌, refl, sym, ap, ap₂, ◌∙◌}
use mathlib.Core.Bool.{Bool, true, false}
use mathlib.Core.List.{List, [], ◌∷◌, ◌++◌, map, map-append, append_assoc, append-nil}
use mathlib.Core.Logic.{◌⊎◌, inl, inr}
use Prim.Native.Nat.{ℕ, zero, suc, ◌+◌, ◌-◌, ◌≤◌, ◌<◌}
use native.Mathlib.Omega.{arith}
use native.Mathlib.Numerals.{add-one}
use lib.ListN.{length, get_or, set, length-set}
use lib.Seq.{get_or-set_same, get_or-set_other}
use lib.Count.{ones}
use Rattle.std.specs.Prelude.{Some, None}
use Rattle.model.specs.Basic.{exists, keep, count_up, sum}
use Rattle.model.proofs.Lists.{sum_append}
use Rattle.judge_cover.specs.Cover.{coverable, group, groups, useful}
use Rattle.judge_cover.specs.Steps.{Laid, Spans, CoversAtMost, BoundsOf, SiftedTo, Passed, NarrowedTo, groups_from}
use Rattle.judge_cover.proofs.Counting.{map_count, count_last}
use Rattle.judge_cover.proofs.CoverLaws.{Bounded, none, one, bound, bounded_append, above_kept, sift_one, front}
use Rattle.judge_cover.proofs.CodeLaws.{other}
use Rattle.judge_cover.proofs.GroupLaws.{group_none, group_same, groups_more}

-- bounds as a list
bounded_count : (u : ℕ) (G : ℕ → List ℕ) (B : ℕ → ℕ) (n a : ℕ) → ((k : ℕ) → a ≤ k → k < a + n → CoversAtMost u (G k) (B k))
    → Bounded u (map G (count_up a n)) (map B (count_up a n))
unfolding count_up
bounded_count u G B zero a h = none
bounded_count u G B (suc n) a h = one (h a (omega arith) (omega arith)) (bounded_count u G B n (suc a) (λ k x y. h k (omega arith) (omega arith)))

-- the sum of the bounds from group k on
abbrev gains_from : (gains : List ℕ) (k n : ℕ) → List ℕ
gains_from gains k n = map (λ j. get_or gains j 0) (count_up k (n - k))

map_first : {A : Type 0} (f : ℕ → A) (k n : ℕ) → k < n → map f (count_up k (n - k)) ≡ f k ∷ map f (count_up (suc k) (n - suc k))
unfolding count_up
map_first f k n h =
    let e : n - k ≡ suc (n - suc k) = omega arith in
    ap (λ c. map f (count_up k c)) e

pub from_cons : (masks starts ends : List ℕ) (k n : ℕ) → k < n
    → groups_from masks starts ends k n ≡ group masks (get_or starts k 0) (get_or ends k 0) ∷ groups_from masks starts ends (suc k) n
unfolding groups_from
from_cons masks starts ends k n h = map_first (λ j. group masks (get_or starts j 0) (get_or ends j 0)) k n h

pub from_first : (masks starts ends : List ℕ) (n : ℕ) → groups_from masks starts ends 0 n ≡ groups masks starts ends n
unfolding groups_from groups
from_first masks starts ends n =
    let e : n - 0 ≡ n = omega arith in
    ap (λ m. map (λ j. group masks (get_or starts j 0) (get_or ends j 0)) (count_up 0 m)) e

pub from_none : (masks starts ends : List ℕ) (k n : ℕ) → n ≤ k → groups_from masks starts ends k n ≡ []
unfolding groups_from count_up
from_none masks starts ends k n h =
    let e : n - k ≡ 0 = omega arith in
    ap (λ m. map (λ j. group masks (get_or starts j 0) (get_or ends j 0)) (count_up k m)) e

-- Groups that have less to cover with than there is to cover have no cover.
pub too_few : (gs : List (List ℕ)) (bs : List ℕ) (u : ℕ) → Bounded u gs bs → sum bs < ones u → coverable gs u ≡ false
too_few gs bs u b l = go (coverable gs u) refl
  where
    go : (c : Bool) → coverable gs u ≡ c → c ≡ false
    go false h = refl
    go true h = absurd (omega (arith, bound gs bs u b h))

pub bounded : (masks starts ends : List ℕ) (n u : ℕ) (gains : List ℕ) (total : ℕ) → BoundsOf masks starts ends n u gains total
    → Bounded u (groups masks starts ends n) (map (λ k. get_or gains k 0) (count_up 0 n))
unfolding groups
bounded masks starts ends n u gains total s =
    bounded_count u (λ k. group masks (get_or starts k 0) (get_or ends k 0)) (λ k. get_or gains k 0) n 0 (λ k x y. s.each k (omega arith))

-- `narrow`: what is asked of it, and what holds before group k
pub record Asked (masks from to : List ℕ) (n u : ℕ) (gains before : List ℕ) (total : ℕ) : Type 0 where
  pub few : n ≤ 16
  pub laid : Laid from to n (length masks)
  pub low : Laid from to n 512
  pub near : Spans from to n (length before)
  pub room : length before ≤ 512
  pub bounds : BoundsOf masks from to n u gains total

pub record Narrowing (masks from to : List ℕ) (n u : ℕ) (gains before : List ℕ) (total : ℕ) (kept starts ends less : List ℕ) (t count k : ℕ) : Type 0 where
  pub asked : Asked masks from to n u gains before total
  pub few : k ≤ n
  pub size : length kept ≡ length before
  pub starts_size : length starts ≡ 16
  pub ends_size : length ends ≡ 16
  pub less_size : length less ≡ 16
  pub ahead : k < n → count + get_or from 0 0 ≤ get_or from k 0
  pub room : count ≤ length kept
  pub laid : Laid starts ends k count
  pub each : (j : ℕ) → j < k → CoversAtMost u (group kept (get_or starts j 0) (get_or ends j 0)) (get_or less j 0)
  pub all : t ≡ sum (map (λ j. get_or less j 0) (count_up 0 k)) + sum (gains_from gains k n)
  pub same : coverable (groups kept starts ends k ++ groups_from masks from to k n) u ≡ coverable (groups masks from to n) u

module _ (masks from to : List ℕ) (n u : ℕ) (gains before : List ℕ) (total : ℕ) where
  pub narrowing_first : n ≤ 16 → Laid from to n (length masks) → Laid from to n 512 → Spans from to n (length before)
      → length before ≤ 512
      → BoundsOf masks from to n u gains total
      → (starts ends less : List ℕ) → length starts ≡ 16 → length ends ≡ 16 → length less ≡ 16
      → Narrowing masks from to n u gains before total before starts ends less total 0 0
  unfolding groups count_up sum
  narrowing_first few laid low near room b starts ends less p q r = record {
    asked = record { few = few; laid = laid; low = low; near = near; room = room; bounds = b };
    few = omega arith;
    size = refl;
    starts_size = p;
    ends_size = q;
    less_size = r;
    ahead = λ l. omega arith;
    room = omega arith;
    laid = record { some = λ j l. absurd (omega arith); next = λ j l. absurd (omega arith); inside = λ j l. absurd (omega arith) };
    each = λ j l. absurd (omega arith);
    all = let e : n - 0 ≡ n = omega arith in b.all ∙ ap (λ m. sum (map (λ j. get_or gains j 0) (count_up 0 m))) (sym e) ∙ omega arith;
    same = ap (λ l. coverable l u) (from_first masks from to n);
  }

  module _ (kept starts ends less : List ℕ) (t count k : ℕ) (s : Narrowing masks from to n u gains before total kept starts ends less t count k) where
    -- what the next group's call asks
    module _ (h : k < n) (x y g : ℕ) (ex : x ≡ get_or from k 0) (ey : y ≡ get_or to k 0) (eg : g ≡ get_or gains k 0) where
      pub narrowing_places : (x ≤ y) × (y ≤ length masks) × (y ≤ 512)
      narrowing_places = (omega (arith, s.asked.laid.some k h), omega (arith, s.asked.laid.inside k h), omega (arith, s.asked.low.inside k h))

      pub narrowing_room : (count + y ≤ x + length kept) × (length kept ≤ 512)
      narrowing_room = (omega (arith, s.ahead h, s.asked.near.near k h, s.size), omega (arith, s.size, s.asked.room))

      pub narrowing_gain : g ≤ t
      unfolding sum
      narrowing_gain = omega (arith, s.all, ap sum (map_first (λ j. get_or gains j 0) k n h))

      pub narrowing_bound : CoversAtMost u (group masks x y) g
      narrowing_bound = rw (ex, ey, eg) (s.asked.bounds.each k h)

    module _ (l : k < n) (x y g : ℕ) (ex : x ≡ get_or from k 0) (ey : y ≡ get_or to k 0) (eg : g ≡ get_or gains k 0)
        (after : List ℕ) (next most t' : ℕ) (w : Passed masks x y u t g kept after count next most t') where
      few : n ≤ 16
      few = s.asked.few

      b : BoundsOf masks from to n u gains total
      b = s.asked.bounds

      f : SiftedTo (useful u t g) masks x y kept after count next
      f = w.sifted

      c : CoversAtMost u (group masks x y) most
      c = w.bound

      abbrev xs : List (List ℕ)
      xs = groups kept starts ends k

      abbrev cs : List ℕ
      cs = map (λ j. get_or less j 0) (count_up 0 k)

      abbrev ys : List (List ℕ)
      ys = groups_from masks from to (suc k) n

      abbrev bs : List ℕ
      bs = gains_from gains (suc k) n

      abbrev h : List ℕ
      h = keep (useful u t g) (group masks x y)

      before_them : Bounded u xs cs
      unfolding groups
      before_them = bounded_count u (λ j. group kept (get_or starts j 0) (get_or ends j 0)) (λ j. get_or less j 0) k 0 (λ j a m. s.each j (omega arith))

      behind_them : Bounded u ys bs
      unfolding groups_from
      behind_them = bounded_count u (λ j. group masks (get_or from j 0) (get_or to j 0)) (λ j. get_or gains j 0) (n - suc k) (suc k) (λ j a m. b.each j (omega arith))

      sums : t ≡ sum cs + (g + sum bs)
      unfolding sum
      sums = omega (arith, s.all, ap sum (map_first (λ j. get_or gains j 0) k n l), eg)

      sifted : coverable (xs ++ h ∷ ys) u ≡ coverable (groups masks from to n) u
      sifted =
          sift_one u (group masks x y) g t before_them behind_them sums
          ∙ ap (λ z. coverable (xs ++ z) u) (ap₂ (λ p q. group masks p q ∷ ys) ex ey ∙ sym (from_cons masks from to k n l)) ∙ s.same

      pub narrowing_none : next ≤ count → (starts' ends' less' : List ℕ) → length starts' ≡ 16 → length ends' ≡ 16 → length less' ≡ 16
          → NarrowedTo masks from to n u before after starts' ends' less' None
      unfolding exists
      narrowing_none m starts' ends' less' p q r = record {
        size = f.size ∙ s.size;
        starts_size = p;
        ends_size = q;
        gains_size = r;
        outcome = sym sifted
            ∙ ap (λ d. coverable (xs ++ d ∷ ys) u) (sym f.edges ∙ group_none after count next m) ∙ front xs [] ys u;
      }

      total_is : t' ≡ sum cs + (most + sum bs)
      total_is = omega (arith, sums, w.all)

      bounded_now : Bounded u (xs ++ h ∷ ys) (cs ++ most ∷ bs)
      bounded_now = bounded_append u before_them (one (above_kept u (useful u t g) (group masks x y) most c) behind_them)

      pub narrowing_short : (all : ℕ) → all ≡ ones u → t' < all → (starts' ends' less' : List ℕ) → length starts' ≡ 16 → length ends' ≡ 16 → length less' ≡ 16
          → NarrowedTo masks from to n u before after starts' ends' less' None
      unfolding sum
      narrowing_short all ea m starts' ends' less' p q r = record {
        size = f.size ∙ s.size;
        starts_size = p;
        ends_size = q;
        gains_size = r;
        outcome = sym sifted ∙ too_few (xs ++ h ∷ ys) (cs ++ most ∷ bs) u bounded_now
            (omega (arith, ea, total_is, sum_append cs (most ∷ bs)));
      }

      -- the groups before have not changed
      abbrev starts⁺ : List ℕ
      starts⁺ = set starts k count

      abbrev ends⁺ : List ℕ
      ends⁺ = set ends k next

      abbrev less⁺ : List ℕ
      less⁺ = set less k most

      start_here : get_or starts⁺ k 0 ≡ count
      start_here = get_or-set_same starts k count 0 (omega (arith, s.starts_size))

      end_here : get_or ends⁺ k 0 ≡ next
      end_here = get_or-set_same ends k next 0 (omega (arith, s.ends_size))

      less_here : get_or less⁺ k 0 ≡ most
      less_here = get_or-set_same less k most 0 (omega (arith, s.less_size))

      start_old : (j : ℕ) → j < k → get_or starts⁺ j 0 ≡ get_or starts j 0
      start_old j m = get_or-set_other starts k j count 0 (λ w. omega arith)

      end_old : (j : ℕ) → j < k → get_or ends⁺ j 0 ≡ get_or ends j 0
      end_old j m = get_or-set_other ends k j next 0 (λ w. omega arith)

      less_old : (j : ℕ) → j < k → get_or less⁺ j 0 ≡ get_or less j 0
      less_old j m = get_or-set_other less k j most 0 (λ w. omega arith)

      group_old : (j : ℕ) → j < k → group after (get_or starts j 0) (get_or ends j 0) ≡ group kept (get_or starts j 0) (get_or ends j 0)
      group_old j m = group_same after kept (get_or starts j 0) (get_or ends j 0) (λ i v w. f.same i (omega (arith, s.laid.inside j m)))

      groups_now : groups after starts⁺ ends⁺ (k + 1) ≡ xs ++ h ∷ []
      unfolding groups
      groups_now =
          groups_more after starts ends k count next (omega (arith, s.starts_size)) (omega (arith, s.ends_size))
          ∙ ap₂ (λ p q. p ++ q ∷ []) (map_count _ _ k 0 (λ j v w. group_old j (omega arith))) f.edges

      each_now : (j : ℕ) → (j ≡ k) ⊎ (j < k) → CoversAtMost u (group after (get_or starts⁺ j 0) (get_or ends⁺ j 0)) (get_or less⁺ j 0)
      each_now j (inl e) = rw (e, start_here, end_here, less_here, f.edges) (above_kept u (useful u t g) (group masks x y) most c)
      each_now j (inr m) = rw (start_old j m, end_old j m, less_old j m, group_old j m) (s.each j m)

      laid_now : count < next → Laid starts⁺ ends⁺ (k + 1) next
      laid_now m = record {
        some = λ j v. some j (other j k v);
        next = λ j v. follows j (other (suc j) k v);
        inside = λ j v. inside j (other j k v);
      }
        where
          some : (j : ℕ) → (j ≡ k) ⊎ (j < k) → get_or starts⁺ j 0 < get_or ends⁺ j 0
          some j (inl e) = rw (e, start_here, end_here) m
          some j (inr v) = omega (arith, start_old j v, end_old j v, s.laid.some j v)

          follows : (j : ℕ) → (suc j ≡ k) ⊎ (suc j < k) → get_or ends⁺ j 0 ≤ get_or starts⁺ (suc j) 0
          follows j (inl e) = omega (arith, end_old j (omega arith), s.laid.inside j (omega arith), start_here, ap (λ i. get_or starts⁺ i 0) e)
          follows j (inr v) = omega (arith, end_old j (omega arith), start_old (suc j) v, s.laid.next j v)

          inside : (j : ℕ) → (j ≡ k) ⊎ (j < k) → get_or ends⁺ j 0 ≤ next
          inside j (inl e) = omega (arith, end_here, ap (λ i. get_or ends⁺ i 0) e)
          inside j (inr v) = omega (arith, end_old j v, s.laid.inside j v, f.grown)

      pub narrowing_more : count < next → Narrowing masks from to n u gains before total after starts⁺ ends⁺ less⁺ t' next (k + 1)
      unfolding sum
      narrowing_more m =
          let sized = f.size ∙ s.size in
          record {
            asked = s.asked;
            few = omega arith;
            size = sized;
            starts_size = length-set starts k count ∙ s.starts_size;
            ends_size = length-set ends k next ∙ s.ends_size;
            less_size = length-set less k most ∙ s.less_size;
            ahead = λ v. omega (arith, f.slow, s.ahead l, s.asked.laid.next k (omega arith), ap (λ i. get_or from i 0) (add-one k));
            room = omega (arith, f.slow, s.ahead l, s.asked.near.near k l, sized);
            laid = laid_now m;
            each = λ j v. each_now j (other j k v);
            all = total_is ∙ sym (sums_now ∙ omega arith);
            same =
                ap₂ (λ p q. coverable (p ++ q) u) groups_now (ap (λ i. groups_from masks from to i n) (add-one k))
                ∙ ap (λ z. coverable z u) (append_assoc xs (h ∷ []) ys) ∙ sifted;
          }
        where
          sums_now : sum (map (λ j. get_or less⁺ j 0) (count_up 0 (k + 1))) + sum (gains_from gains (k + 1) n) ≡ sum cs + (most + 0) + sum bs
          sums_now =
              ap₂ (λ p q. sum p + sum (gains_from gains q n))
              (ap (map (λ j. get_or less⁺ j 0)) (count_last k) ∙ map-append (λ j. get_or less⁺ j 0) (count_up 0 k) (k ∷ [])
              ∙ ap₂ (λ p q. p ++ q ∷ []) (map_count _ _ k 0 (λ j v w. less_old j (omega arith))) less_here)
              (add-one k)
              ∙ ap (λ z. z + sum bs) (sum_append cs (most ∷ []))

    pub narrowing_done : n ≤ k → NarrowedTo masks from to n u before kept starts ends less (Some t)
    unfolding count_up sum
    narrowing_done h =
        let few = s.few in
        let e : k ≡ n = omega arith in
        let z : n - k ≡ 0 = omega arith in
        let sums : t ≡ sum (map (λ j. get_or less j 0) (count_up 0 n)) =
        s.all ∙ ap₂ (λ i j. sum (map (λ j. get_or less j 0) (count_up 0 i)) + sum (map (λ j. get_or gains j 0) (count_up k j))) e z ∙ omega arith in
        let now : BoundsOf kept starts ends n u less t = record { each = λ j l. s.each j (omega arith); all = sums } in
        let same : coverable (groups kept starts ends n) u ≡ coverable (groups masks from to n) u =
        sym (ap (λ l. coverable l u) (ap₂ (λ i l. groups kept starts ends i ++ l) e (from_none masks from to k n h) ∙ append-nil (groups kept starts ends n))) ∙ s.same in
        record {
          size = s.size;
          starts_size = s.starts_size;
          ends_size = s.ends_size;
          gains_size = s.less_size;
          outcome = record {
            laid = record {
              some = λ j l. s.laid.some j (omega arith);
              next = λ j l. s.laid.next j (omega arith);
              inside = λ j l. omega (arith, s.laid.inside j (omega arith), s.room);
            };
            bounds = now;
            same = same;
          };
        }

pub ruleset narrowing_laws = (narrowing_first, narrowing_none, narrowing_done)
