-- What sets weigh: an edge takes no more off a part of a set than off the set; and each way out of src/weights.rt.
use mathlib.Core.Path.{◌≡◌, refl, sym, ap, ap₂, ◌∙◌}
use mathlib.Core.List.{List, [], ◌∷◌}
use Prim.Native.Nat.{ℕ, zero, suc, ◌+◌, ◌-◌, ◌*◌, ◌/◌, ◌%◌, ◌^◌, ◌≤◌, ◌<◌, min}
use native.Mathlib.Omega.{arith}
use native.Mathlib.Nat.{pow-succ', div-one, mul-one, zero-mul, one-mul, div-div-eq-div-mul, mul_left_comm, add-mul, mul-le-mul_right}
use lib.ListN.{length, get_or}
use lib.Pow.{pow_pos}
use lib.Bits.{bit_and, and_step, and_le_l, and_self}
use lib.Count.{count_trailing_zeros, under}
use Rattle.judge_cover.proofs.BitLaws.{halves, and_assoc}
use Rattle.judge_bounds.specs.Bounds.{weight, Lowest, covers, TakesAtMost}
use Rattle.judge_bounds.proofs.BoundLaws.{Lowers}

weight_step : (w : ℕ) (ws : List ℕ) (set : ℕ) → weight (w ∷ ws) set ≡ (set % 2) * w + weight ws (set / 2)
unfolding weight
weight_step w ws set = refl

weight_nil : (set : ℕ) → weight [] set ≡ 0
unfolding weight
weight_nil set = refl

pub weight_zero : (ws : List ℕ) → weight ws 0 ≡ 0
weight_zero [] = weight_nil 0
weight_zero (w ∷ ws) = weight_step w ws 0 ∙ ap₂ (λ x y. x + y) (zero-mul w) (weight_zero ws)

-- What s takes off u is no less than what it takes off a part of u: digit by digit, and so for the weights.
digits : (p q t w : ℕ) → p < 2 → q < 2 → t < 2 → min p q * w + min p t * w ≤ p * w + min (min p q) t * w
digits p q t w a b c =
    let l : min p q + min p t ≤ p + min (min p q) t = omega arith in
    omega (arith, mul-le-mul_right w l, add-mul (min p q) (min p t) w, add-mul p (min (min p q) t) w)

and_weight : (w : ℕ) (ws : List ℕ) (a b : ℕ) → weight (w ∷ ws) (bit_and a b) ≡ min (a % 2) (b % 2) * w + weight ws (bit_and (a / 2) (b / 2))
and_weight w ws a b =
    let h = halves a b in
    weight_step w ws (bit_and a b) ∙ ap₂ (λ x y. x * w + weight ws y) h.1 h.0

pub weight_less : (ws : List ℕ) (u r s : ℕ) → weight ws (bit_and u r) + weight ws (bit_and u s) ≤ weight ws u + weight ws (bit_and (bit_and u r) s)
weight_less [] u r s = rw (weight_nil (bit_and u r), weight_nil (bit_and u s)) (omega arith)
weight_less (w ∷ ws) u r s =
    let h = halves u r in
    let both : weight (w ∷ ws) (bit_and (bit_and u r) s) ≡ min (min (u % 2) (r % 2)) (s % 2) * w + weight ws (bit_and (bit_and (u / 2) (r / 2)) (s / 2)) =
    and_weight w ws (bit_and u r) s ∙ ap₂ (λ x y. min x (s % 2) * w + weight ws (bit_and y (s / 2))) h.1 h.0 in
    omega (
      arith,
      weight_less ws (u / 2) (r / 2) (s / 2),
      and_weight w ws u r,
      and_weight w ws u s,
      both,
      weight_step w ws u,
      digits (u % 2) (r % 2) (s % 2) w (omega arith) (omega arith) (omega arith),
    )

-- what an edge covers and what it leaves
digit : (p q w : ℕ) → min p q * w + (p - min p q) * w ≡ p * w
digit p q w =
    let e : min p q + (p - min p q) ≡ p = omega arith in
    sym (add-mul (min p q) (p - min p q) w) ∙ ap (λ x. x * w) e

pub weight_apart : (ws : List ℕ) (u r : ℕ) → weight ws (bit_and u r) + weight ws (covers u r) ≡ weight ws u
weight_apart [] u r = omega (arith, weight_nil u, weight_nil (bit_and u r), weight_nil (covers u r))
weight_apart (w ∷ ws) u r =
    let d : covers u r / 2 ≡ covers (u / 2) (r / 2) = omega (arith, and_step u r, and_le_l (u / 2) (r / 2)) in
    let m : covers u r % 2 ≡ u % 2 - min (u % 2) (r % 2) = omega (arith, and_step u r, and_le_l (u / 2) (r / 2)) in
    let e : weight (w ∷ ws) (covers u r) ≡ (u % 2 - min (u % 2) (r % 2)) * w + weight ws (covers (u / 2) (r / 2)) =
    weight_step w ws (covers u r) ∙ ap₂ (λ x y. x * w + weight ws y) m d in
    omega (arith, weight_apart ws (u / 2) (r / 2), and_weight w ws u r, e, weight_step w ws u, digit (u % 2) (r % 2) w)

-- So none takes more off a part of u than the most that one covers of u.
pub weight_lowers : (ws : List ℕ) (u : ℕ) (g : List ℕ) (took : ℕ) → TakesAtMost ws u g took → Lowers (λ s. weight ws (bit_and u s)) g took
weight_lowers ws u g took h r i s =
    omega (arith, h r i, weight_apart ws u r, weight_less ws u s r, ap (weight ws) (and_assoc u s r))

-- `lowest`
lowest_split : (w u : ℕ) → u < 2 ^ w → 0 < u → (count_trailing_zeros w u < w) × (u ≡ (u / 2 ^ count_trailing_zeros w u / 2 * 2 + 1) * 2 ^ count_trailing_zeros w u)
unfolding count_trailing_zeros
lowest_split zero u small some = absurd (omega arith)
lowest_split (suc w) u small some = go (count_trailing_zeros w (u / 2)) (lowest_split w (u / 2)) (u % 2) refl
  where
    go : (k : ℕ) → (u / 2 < 2 ^ w → 0 < u / 2 → (k < w) × (u / 2 ≡ (u / 2 / 2 ^ k / 2 * 2 + 1) * 2 ^ k)) → (d : ℕ) → u % 2 ≡ d
        → (under d k < suc w) × (u ≡ (u / 2 ^ under d k / 2 * 2 + 1) * 2 ^ under d k)
    go k ih zero e =
        let p = pow-succ' 2 w in
        let x = ih (omega arith) (omega arith) in
        let v = u / 2 / 2 ^ k / 2 * 2 + 1 in
        let d : u / 2 / 2 ^ k ≡ u / 2 ^ suc k = div-div-eq-div-mul u 2 (2 ^ k) ∙ ap (λ n. u / n) (sym (pow-succ' 2 k)) in
        let twice : u ≡ 2 * (u / 2) = omega arith in
        let z : v * 2 ^ suc k ≡ 2 * (v * 2 ^ k) = ap (λ n. v * n) (pow-succ' 2 k) ∙ mul_left_comm v 2 (2 ^ k) in
        (omega (arith, x.0), twice ∙ ap (λ n. 2 * n) x.1 ∙ sym z ∙ ap (λ n. (n / 2 * 2 + 1) * 2 ^ suc k) d)
    go k ih (suc d) e =
        let h : u ≡ u / 2 * 2 + 1 = omega arith in
        (omega arith, h ∙ ap (λ n. n / 2 * 2 + 1) (sym (div-one u)) ∙ sym (mul-one (u / 1 / 2 * 2 + 1)))

pub lowest_is : (u : ℕ) → u < 2 ^ 64 → 0 < u → Lowest u (count_trailing_zeros 64 u)
lowest_is u small some =
    let x = lowest_split 64 u small some in
    record { small = x.0; split = x.1 }

-- `weigh`: the weight of a set is that of its first variable and of the others
weight_first : (k : ℕ) (ws : List ℕ) (q : ℕ) → weight ws ((q * 2 + 1) * 2 ^ k)
    ≡ get_or ws k 0 + weight ws (q * 2 * 2 ^ k)
weight_first zero [] q = omega (arith, weight_nil ((q * 2 + 1) * 2 ^ 0), weight_nil (q * 2 * 2 ^ 0))
weight_first (suc k) [] q = omega (arith, weight_nil ((q * 2 + 1) * 2 ^ suc k), weight_nil (q * 2 * 2 ^ suc k))
weight_first zero (w ∷ ws) q =
    let n : (q * 2 + 1) * 2 ^ 0 ≡ q * 2 + 1 = mul-one (q * 2 + 1) in
    let m : q * 2 * 2 ^ 0 ≡ q * 2 = mul-one (q * 2) in
    let a : (q * 2 + 1) % 2 ≡ 1 = omega arith in
    let b : (q * 2 + 1) / 2 ≡ q = omega arith in
    let c : (q * 2) % 2 ≡ 0 = omega arith in
    let d : (q * 2) / 2 ≡ q = omega arith in
    let e = ap (weight (w ∷ ws)) n ∙ weight_step w ws (q * 2 + 1) ∙ ap₂ (λ x y. x * w + weight ws y) a b in
    let f = ap (weight (w ∷ ws)) m ∙ weight_step w ws (q * 2) ∙ ap₂ (λ x y. x * w + weight ws y) c d in
    omega (arith, e, f, zero-mul w, one-mul w)
weight_first (suc k) (w ∷ ws) q =
    let e = even w ws k (q * 2 + 1) in
    let f = even w ws k (q * 2) in
    omega (arith, e, f, weight_first k ws q)
  where
    even : (w : ℕ) (ws : List ℕ) (k n : ℕ) → weight (w ∷ ws) (n * 2 ^ suc k) ≡ weight ws (n * 2 ^ k)
    even w ws k n =
        let x = n * 2 ^ k in
        let twice : n * 2 ^ suc k ≡ 2 * x = ap (λ p. n * p) (pow-succ' 2 k) ∙ mul_left_comm n 2 (2 ^ k) in
        let a : (2 * x) % 2 ≡ 0 = omega arith in
        let b : (2 * x) / 2 ≡ x = omega arith in
        ap (weight (w ∷ ws)) twice ∙ weight_step w ws (2 * x) ∙ ap₂ (λ x y. x * w + weight ws y) a b
        ∙ omega (arith, zero-mul w)

-- `x & (x - 1)` is x without its first variable
others : (k q : ℕ) → bit_and ((q * 2 + 1) * 2 ^ k) ((q * 2 + 1) * 2 ^ k - 1) ≡ q * 2 * 2 ^ k
others zero q =
    let n : (q * 2 + 1) * 2 ^ 0 ≡ q * 2 + 1 = mul-one (q * 2 + 1) in
    let m : q * 2 * 2 ^ 0 ≡ q * 2 = mul-one (q * 2) in
    let a : (q * 2 + 1) / 2 ≡ q = omega arith in
    let b : (q * 2 + 1 - 1) / 2 ≡ q = omega arith in
    let s = and_step (q * 2 + 1) (q * 2 + 1 - 1) in
    let h : bit_and ((q * 2 + 1) / 2) ((q * 2 + 1 - 1) / 2) ≡ q = ap₂ bit_and a b ∙ and_self q in
    ap (λ x. bit_and x (x - 1)) n ∙ omega (arith, s, h, m)
others (suc k) q =
    let y = (q * 2 + 1) * 2 ^ k in
    let z = q * 2 * 2 ^ k in
    let some : 0 < y = omega (arith, pow_pos k, mul-le-mul_right (2 ^ k) (one_up q)) in
    let n : (q * 2 + 1) * 2 ^ suc k ≡ 2 * y =
    ap (λ p. (q * 2 + 1) * p) (pow-succ' 2 k) ∙ mul_left_comm (q * 2 + 1) 2 (2 ^ k) in
    let m : q * 2 * 2 ^ suc k ≡ 2 * z = ap (λ p. q * 2 * p) (pow-succ' 2 k) ∙ mul_left_comm (q * 2) 2 (2 ^ k) in
    let a : (2 * y) / 2 ≡ y = omega arith in
    let b : (2 * y - 1) / 2 ≡ y - 1 = omega arith in
    let s = and_step (2 * y) (2 * y - 1) in
    let h : bit_and ((2 * y) / 2) ((2 * y - 1) / 2) ≡ z = ap₂ bit_and a b ∙ others k q in
    ap (λ x. bit_and x (x - 1)) n ∙ omega (arith, s, h, m)
  where
    one_up : (q : ℕ) → 1 ≤ q * 2 + 1
    one_up q = omega arith

pub record Weighing (ws : List ℕ) (set total rest : ℕ) : Type 0 where
  pub same : total + weight ws rest ≡ weight ws set

pub weighing_first : (ws : List ℕ) (set : ℕ) → Weighing ws set 0 set
weighing_first ws set = record { same = omega arith }

-- no set weighs more than all variables
weight_small : (ws : List ℕ) → ((k : ℕ) → get_or ws k 0 < 65536) → (set : ℕ) → weight ws set ≤ 65535 * length ws
weight_small [] h set = omega (arith, weight_nil set)
weight_small (w ∷ ws) h set =
    let one : set % 2 ≤ 1 = omega arith in
    let rest = weight_small ws (λ k. h (suc k)) (set / 2) in
    omega (arith, weight_step w ws set, mul-le-mul_right w one, one-mul w, h 0, rest)

module _ (ws : List ℕ) (set total rest : ℕ) (s : Weighing ws set total rest) where
  pub weighing_more : (k w : ℕ) → Lowest rest k → w ≡ get_or ws k 0
      → Weighing ws set (total + w) (bit_and rest (rest - 1))
  weighing_more k w f ew =
      let q = rest / 2 ^ k / 2 in
      let e = ap (weight ws) f.split ∙ weight_first k ws q in
      let o = ap (λ x. bit_and x (x - 1)) f.split ∙ others k q in
      record { same = omega (arith, s.same, ew, e, ap (weight ws) o) }

  pub weighing_done : rest ≡ 0 → total ≡ weight ws set
  weighing_done e = omega (arith, s.same, ap (weight ws) e, weight_zero ws)

  pub weighing_small : length ws ≡ 64 → ((k : ℕ) → get_or ws k 0 < 65536) → total ≤ 8388480
  weighing_small len h = omega (arith, s.same, len, weight_small ws h set)

pub ruleset weighing_laws = (weighing_first, weighing_more, weighing_done)
