-- The search may branch on any uncovered variable, and try of each group only the edges that leave the least.
use mathlib.Core.Path.{◌≡◌, refl, sym, ap, ◌∙◌}
use mathlib.Core.Bool.{Bool, true, false, not, ◌&&◌, true≢false}
use mathlib.Core.List.{List, ◌∷◌, map, map-append, Memᴰ}
use mathlib.Core.Logic.{inl, inr}
use Prim.Native.Nat.{ℕ, zero, suc, ◌+◌, ◌-◌, ◌≤◌, ◌<◌}
use native.Mathlib.Omega.{arith}
use lib.ListN.{get_or}
use lib.Bits.{bit_and, and_le_r, and_self}
use lib.Dec.{eqb, ltb}
use borrow.Author.Tests.{eqb-true, ltb-true}
use Rattle.model.specs.Basic.{exists, count_up}
use Rattle.model.specs.Table.{bit}
use Rattle.model.proofs.Tests.{and_intro, and_left, and_right, or_cases, not-true, exists_intro, exists_elim, exists_ext, both_ways}
use Rattle.judge_cover.specs.Cover.{coverable, group, groups, within, left_by, dominated, skipped_at, worth}
use Rattle.judge_cover.specs.Steps.{groups_from, others_at, through_at}
use Rattle.judge_cover.proofs.BitLaws.{bit_and_lem, no_bits}
use Rattle.judge_cover.proofs.Counting.{count_at_lem, find, found}
use Rattle.judge_cover.proofs.CoverLaws.{exists_none, front, within_is, is_within}

-- Any group may be the first.
pub group_out : (masks starts ends : List ℕ) (n k u : ℕ) → k < n
    → coverable (groups masks starts ends n) u ≡ exists (λ r. coverable (others_at masks starts ends n k) (bit_and u r)) (group masks (get_or starts k 0) (get_or ends k 0))
unfolding groups groups_from others_at
group_out masks starts ends n k u l =
    let G : ℕ → List ℕ = λ j. group masks (get_or starts j 0) (get_or ends j 0) in
    ap (λ m. coverable (map G m) u) (count_at_lem n k l)
    ∙ ap (λ m. coverable m u) (map-append G (count_up 0 k) (k ∷ count_up (suc k) (n - suc k)))
    ∙ front (map G (count_up 0 k)) (G k) (map G (count_up (suc k) (n - suc k))) u

-- Where an edge that mentions v and the other groups cover all, there is a cover.
pub through_covers : (masks starts ends : List ℕ) (n u v k : ℕ) → k < n → through_at masks starts ends n u v k ≡ true → coverable (groups masks starts ends n) u ≡ true
unfolding through_at
through_covers masks starts ends n u v k l h =
    let e = exists_elim _ (group masks (get_or starts k 0) (get_or ends k 0)) h in
    group_out masks starts ends n k u l ∙ exists_intro _ e.1 (and_right (not (bit e.0 v)) _ e.2)

-- Where no edge mentions v, no choice covers v.
pub unnamed_uncovered : (G : ℕ → List ℕ) (v n a u : ℕ) → bit u v ≡ true → ((k : ℕ) → a ≤ k → k < a + n → exists (λ r. not (bit r v)) (G k) ≡ false)
    → coverable (map G (count_up a n)) u ≡ false
unfolding count_up coverable
unnamed_uncovered G v zero a u b h = go (eqb u 0) refl
  where
    go : (c : Bool) → eqb u 0 ≡ c → eqb u 0 ≡ false
    go false e = e
    go true e = absurd (true≢false (sym b ∙ ap (λ x. bit x v) (eqb-true u 0 e) ∙ no_bits v))
unnamed_uncovered G v (suc n) a u b h =
    exists_ext _ (λ r. false) (G a) (λ r i. unnamed_uncovered G v n (suc a) (bit_and u r) (bit_and_lem u r v ∙ and_intro b (spared r i (bit r v) refl))
    (λ k x y. h k (omega arith) (omega arith)))
    ∙ exists_none (G a)
  where
    spared : (r : ℕ) → Memᴰ r (G a) → (c : Bool) → bit r v ≡ c → bit r v ≡ true
    spared r i true e = e
    spared r i false e = absurd (true≢false (sym (exists_intro (λ s. not (bit s v)) i (ap not e)) ∙ h a (omega arith) (omega arith)))

-- Of the edges of a group that mention v, those that are skipped for others need not be tried.
module _ (masks : List ℕ) (a b u v : ℕ) (uncovered : bit u v ≡ true) (P : ℕ → Bool)
    (falls : (w x : ℕ) → bit_and w x ≡ w → P x ≡ true → P w ≡ true) where
  abbrev left : ℕ → ℕ
  left = left_by masks u

  abbrev pub tries : ℕ → Bool
  tries i = not (bit (get_or masks i 0) v) && P (left i)

  record Best : Type 0 where
    k : ℕ
    low : a ≤ k
    high : k < b
    holds : tries k ≡ true
    kept : skipped_at masks a b u k ≡ false

  left_bit : (i : ℕ) → bit (left i) v ≡ bit (get_or masks i 0) v
  unfolding left_by
  left_bit i = bit_and_lem u (get_or masks i 0) v ∙ rw uncovered

  smaller_tries : (i j : ℕ) → within (left j) (left i) ≡ true → tries i ≡ true → tries j ≡ true
  smaller_tries i j w h =
      let z = within_is (left j) (left i) w in
      and_intro (ap not (sym (left_bit j) ∙ clear (bit (left j) v) refl)) (falls (left j) (left i) z (and_right (not (bit (get_or masks i 0) v)) _ h))
    where
      none : bit (left i) v ≡ false
      none = left_bit i ∙ not-true (bit (get_or masks i 0) v) (and_left (not (bit (get_or masks i 0) v)) _ h)

      clear : (c : Bool) → bit (left j) v ≡ c → bit (left j) v ≡ false
      clear false e = e
      clear true e =
          absurd (true≢false (sym (and_right (bit (left j) v) (bit (left i) v)
          (sym (bit_and_lem (left j) (left i) v) ∙ ap (λ x. bit x v) (within_is (left j) (left i) w) ∙ e)) ∙ none))

  less : (w x : ℕ) → within w x ≡ true → not (within x w) ≡ true → w < x
  less w x p q =
      let e = within_is w x p in
      let l = and_le_r w x in
      let n : w ≡ x → ⊥ = λ z. true≢false (sym (is_within x w (ap (bit_and x) z ∙ and_self x)) ∙ not-true (within x w) q) in
      omega (arith, e, l, n)

  step : (i : ℕ) → a ≤ i → i < b → tries i ≡ true
      → ((j : ℕ) → left j < left i → a ≤ j → j < b → tries j ≡ true → Best)
      → ((j : ℕ) → left j ≤ left i → j < i → a ≤ j → j < b → tries j ≡ true → Best)
      → Best
  unfolding dominated skipped_at
  step i low high h smaller earlier = go (skipped_at masks a b u i) refl
    where
      below : (j : ℕ) → a ≤ j → j < b → dominated masks u i j ≡ true → Best
      below j l m d =
          let w = and_left (within (left j) (left i)) _ d in
          let t = smaller_tries i j w h in
          let e = within_is (left j) (left i) w in
          let n = and_le_r (left j) (left i) in
          elim (or_cases (ltb j i) (not (within (left i) (left j))) (and_right (within (left j) (left i)) _ d)) [
            | inl x ↦ earlier j (omega (arith, e, n)) (ltb-true j i x) l m t
            | inr x ↦ smaller j (less (left j) (left i) w x) l m t
          ]

      go : (c : Bool) → skipped_at masks a b u i ≡ c → Best
      go false e = record { k = i; low = low; high = high; holds = h; kept = e }
      go true e =
          let f = find (dominated masks u i) (b - a) a e in
          let hi = f.high in
          below f.at f.low (omega arith) f.holds

  least : (p q i : ℕ) → left i ≤ p → i ≤ q → a ≤ i → i < b → tries i ≡ true → Best
  least zero zero i x y l m h = step i l m h (λ j d e f g. absurd (omega arith)) (λ j c d e f g. absurd (omega arith))
  least zero (suc q) i x y l m h = step i l m h (λ j d e f g. absurd (omega arith)) (λ j c d e f g. least zero q j (omega arith) (omega arith) e f g)
  least (suc p) zero i x y l m h = step i l m h (λ j d e f g. least p b j (omega arith) (omega arith) e f g) (λ j c d e f g. absurd (omega arith))
  least (suc p) (suc q) i x y l m h =
      step i l m h (λ j d e f g. least p b j (omega arith) (omega arith) e f g) (λ j c d e f g. least (suc p) q j (omega arith) (omega arith) e f g)

  pub worth_is_enough : exists (λ i. worth masks a b u v i && P (left i)) (count_up a (b - a)) ≡ exists tries (count_up a (b - a))
  unfolding worth
  worth_is_enough = both_ways _ _ to from
    where
      to : exists (λ i. worth masks a b u v i && P (left i)) (count_up a (b - a)) ≡ true → exists tries (count_up a (b - a)) ≡ true
      to h =
          let f = find (λ i. worth masks a b u v i && P (left i)) (b - a) a h in
          let i = f.at in
          found tries (b - a) a i f.low f.high
          (and_intro (and_left (not (bit (get_or masks i 0) v)) _ (and_left (worth masks a b u v i) _ f.holds)) (and_right (worth masks a b u v i) _ f.holds))

      from : exists tries (count_up a (b - a)) ≡ true → exists (λ i. worth masks a b u v i && P (left i)) (count_up a (b - a)) ≡ true
      from h =
          let f = find tries (b - a) a h in
          let hi = f.high in
          let x = least (left f.at) b f.at (omega arith) (omega arith) f.low (omega arith) f.holds in
          let m = x.high in
          let k = x.k in
          let n = x.low in
          found (λ i. worth masks a b u v i && P (left i)) (b - a) a k x.low (omega arith)
          (and_intro (and_intro (and_left (not (bit (get_or masks k 0) v)) _ x.holds) (ap not x.kept)) (and_right (not (bit (get_or masks k 0) v)) _ x.holds))
