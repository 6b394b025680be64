-- Each way out of src/edges.rt and src/rounds.rt.
use mathlib.Core.Path.{◌≡◌, refl, sym, ap, ◌∙◌}
use mathlib.Core.Bool.{Bool, true, false}
use mathlib.Core.List.{List, [], ◌∷◌}
use mathlib.Core.Logic.{inl, inr}
use Prim.Native.Nat.{ℕ, zero, suc, ◌+◌, ◌*◌, ◌/◌, ◌%◌, ◌^◌, ◌≤◌, ◌<◌, max}
use native.Mathlib.Omega.{arith}
use lib.ListN.{length, get_or, length-append}
use lib.Bits.{bit_and, and_self, and_zero_r}
use lib.Count.{ones, ones_cat, ones-ones}
use lib.Pow.{pow_pos, mod-pow-add}
use native.Mathlib.Nat.{mod-lt}
use native.Mathlib.Numerals.{add-one, one-add}
use borrow.Author.Tests.{eqb-true, eqb-false}
use Rattle.model.specs.Basic.{keep, count_up}
use Rattle.model.specs.Table.{bit}
use Rattle.judge_cover.specs.Cover.{coverable, group, groups_of}
use Rattle.judge_cover.proofs.CodeLaws.{other}
use Rattle.judge_bounds.specs.Bounds.{takers_to, groups_to, weight, covers, TakesAtMost, TakerTakes}
use Rattle.judge_bounds.proofs.BoundLaws.{Lowered, lowered_none, lowered_one, lowered_append, lowered_done, takers_more, takers_same, groups_more, groups_same, groups_none, groups_all, each_edge}
use Rattle.judge_bounds.proofs.WeightLaws.{weight_zero, weight_lowers}

-- `count`
more_bits : (takers n : ℕ) → ones (takers % 2 ^ n) ≡ length (takers_to takers n) → (b : Bool) → bit takers n ≡ b
    → ones (takers % 2 ^ suc n) ≡ length (takers_to takers (suc n))
unfolding bit
more_bits takers n few true e =
    let high = takers / 2 ^ n % 2 in
    let h : high ≡ 1 = eqb-true high 1 e in
    let s = ap (λ k. ones (takers % 2 ^ k)) (sym (one-add n)) ∙ ap ones (mod-pow-add takers 1 n)
    ∙ ones_cat n high (takers % 2 ^ n) (mod-lt takers (pow_pos n)) in
    let t = ap length (takers_more takers n e) ∙ length-append (takers_to takers n) (n ∷ []) in
    omega (arith, few, s, ap ones h, ones-ones 1, t, ap (λ k. length (takers_to takers k)) (add-one n))
more_bits takers n few false e =
    let high = takers / 2 ^ n % 2 in
    let h : high ≡ 0 = omega (arith, eqb-false high 1 e) in
    let s = ap (λ k. ones (takers % 2 ^ k)) (sym (one-add n)) ∙ ap ones (mod-pow-add takers 1 n)
    ∙ ones_cat n high (takers % 2 ^ n) (mod-lt takers (pow_pos n)) in
    let t = ap length (takers_same takers n e) in
    omega (arith, few, s, ap ones h, ones-ones 0, t, ap (λ k. length (takers_to takers k)) (add-one n))

pub count_is : (takers n : ℕ) → ones (takers % 2 ^ n) ≡ length (takers_to takers n)
unfolding takers_to keep count_up
count_is takers zero =
    let z : takers % 2 ^ 0 ≡ 0 = omega arith in
    ap ones z ∙ ones-ones 0
count_is takers (suc n) = more_bits takers n (count_is takers n) (bit takers n) refl

-- `best`: no edge before place i covers more
pub record Choosing (masks : List ℕ) (from : ℕ) (ws : List ℕ) (u took i : ℕ) : Type 0 where
  pub small : took ≤ 8388480
  pub each : (j : ℕ) → from ≤ j → j < i → weight ws (covers u (get_or masks j 0)) ≤ took

module _ (masks : List ℕ) (from : ℕ) (ws : List ℕ) (u : ℕ) where
  pub choosing_first : Choosing masks from ws u 0 from
  choosing_first = record { small = omega arith; each = λ j l m. absurd (omega arith) }

  pub choosing_more : (took i : ℕ) → Choosing masks from ws u took i → (r w next : ℕ) → r ≡ get_or masks i 0 → w ≡ weight ws (covers u r) → w ≤ 8388480
      → next ≡ max took w → Choosing masks from ws u next (i + 1)
  choosing_more took i s r w next er ew lw e = record {
    small = omega (arith, s.small);
    each = λ j l m. elim (other j i m) [
      | inl z ↦ omega (arith, ew, ap (λ x. weight ws (covers u x)) er, ap (λ x. weight ws (covers u (get_or masks x 0))) z)
      | inr z ↦ omega (arith, s.each j l z)
    ];
  }

  pub choosing_done : (took i to : ℕ) → Choosing masks from ws u took i → to ≤ i → TakesAtMost ws u (group masks from to) took
  choosing_done took i to s h = each_edge (λ r. weight ws (covers u r) ≤ took) masks from to i h s.each

pub ruleset choosing_laws = (choosing_first, choosing_more, choosing_done)

-- `round`
pub record Summing (masks first : List ℕ) (takers : ℕ) (ws : List ℕ) (u total k : ℕ) : Type 0 where
  pub low : k ≤ 16
  pub small : total ≤ 8388480 * k
  pub lowered : Lowered (λ s. weight ws (bit_and u s)) (groups_to masks first takers k) total

module _ (masks first : List ℕ) (takers : ℕ) (ws : List ℕ) (u : ℕ) where
  pub summing_first : Summing masks first takers ws u 0 0
  summing_first = record {
    low = omega arith;
    small = omega arith;
    lowered = rw (groups_none masks first takers) (lowered_none (λ s. weight ws (bit_and u s)));
  }

  module _ (total k : ℕ) (s : Summing masks first takers ws u total k) where
    pub summing_more : k < 16 → (took : ℕ) → took ≤ 8388480 → TakerTakes masks first takers k ws u took → Summing masks first takers ws u (total + took) (k + 1)
    summing_more h took most t = record {
      low = omega arith;
      small = omega (arith, s.small);
      lowered = go (bit takers k) refl;
    }
      where
        go : (b : Bool) → bit takers k ≡ b → Lowered (λ s. weight ws (bit_and u s)) (groups_to masks first takers (k + 1)) (total + took)
        go true x = rw (groups_more masks first takers k x)
            (lowered_append (λ s. weight ws (bit_and u s)) (groups_to masks first takers k) _ total took s.lowered
            (lowered_one (λ s. weight ws (bit_and u s)) _ took (weight_lowers ws u _ took (t.each x))))
        go false x = rw (groups_same masks first takers k x) (record {
          each = λ hs v c.
              let a = s.lowered.each hs v c in
              record { at = a.at; covers = a.covers; less = omega (arith, a.less) };
        })

    pub summing_done : 16 ≤ k → (all : ℕ) → all ≡ weight ws u → total < all → coverable (groups_of masks first takers) u ≡ false
    summing_done h all e l = go (coverable (groups_of masks first takers) u) refl
      where
        low : k ≤ 16
        low = s.low

        whole : groups_to masks first takers k ≡ groups_of masks first takers
        whole = ap (groups_to masks first takers) (omega arith) ∙ groups_all masks first takers

        go : (b : Bool) → coverable (groups_of masks first takers) u ≡ b → b ≡ false
        go false x = refl
        go true x =
            let w = lowered_done (λ s. weight ws (bit_and u s)) (groups_to masks first takers k) total s.lowered
            (ap (weight ws) (and_zero_r u) ∙ weight_zero ws) u (ap (λ g. coverable g u) whole ∙ x) in
            absurd (omega (arith, w, ap (weight ws) (and_self u)))

pub ruleset summing_laws = (summing_first, summing_more, summing_done)
