-- A rising list of actions, as bits in two words, is read back from them.
use Prim.Native.Nat.{ℕ, zero, suc, ◌+◌, ◌-◌, ◌*◌, ◌/◌, ◌%◌, ◌^◌, ◌≤◌, ◌<◌, suc-le-suc}
use mathlib.Core.Path.{◌≡◌, refl, sym, ap, ap₂, ◌∙◌, fun_ext}
use mathlib.Core.Bool.{Bool, true, false, ◌&&◌}
use mathlib.Core.List.{List, [], ◌∷◌, ◌++◌}
use native.Mathlib.Omega.{arith}
use native.Mathlib.Nat.{sub-zero, pow-succ', div-one, div-div-eq-div-mul}
use lib.Dec.{eqb, leb, ltb}
use borrow.Author.Tests.{leb-true, leb-false, lt-leb, ltb-true}
use Rattle.model.specs.Basic.{every, keep, count_up}
use Rattle.model.specs.Bounds.{max_actions}
use Rattle.model.specs.Limits.{rises}
use Rattle.model.specs.Table.{low_bits, high_bits, bit, set_of}
use Rattle.model.proofs.Tests.{and_left, and_right}
use Rattle.model.proofs.Lists.{keep_first, keep_skip, keep_same}

-- a list rises from n on and stays below `top`
abbrev Between : (n top : ℕ) → List ℕ → Type 0
Between n top [] = Unit {0}
Between n top (k ∷ ks) = (n ≤ k) × (k < top) × Between (suc k) top ks

-- the word of a list whose least possible item is n
abbrev bits_from : ℕ → List ℕ → ℕ
bits_from n [] = 0
bits_from n (k ∷ ks) = 2 ^ (k - n) + bits_from n ks

halved : (n top : ℕ) (list : List ℕ) (low : ℕ) → n < low → Between low top list → bits_from n list ≡ 2 * bits_from (suc n) list
halved n top [] low l h = refl
halved n top (k ∷ ks) low l h =
    let b = h.0 in
    let e : k - n ≡ suc (k - suc n) = omega arith in
    let t = halved n top ks (suc k) (omega arith) h.2 in
    rw (e, pow-succ' 2 (k - suc n)) (omega arith)

-- the bits of a word are its last one and those of its half, one place lower
bit_next : (w k n : ℕ) → n < k → bit w (k - n) ≡ bit (w / 2) (k - suc n)
unfolding bit
bit_next w k n l =
    let e : k - n ≡ suc (k - suc n) = omega arith in
    rw (e, pow-succ' 2 (k - suc n), div-div-eq-div-mul)

bit_first : (w n : ℕ) → bit w (n - n) ≡ eqb (w % 2) 1
unfolding bit
bit_first w n =
    let e : n - n ≡ 0 = omega arith in
    rw (e, div-one)

keep_next : (w n c low : ℕ) → n < low → keep (λ k. bit w (k - n)) (count_up low c) ≡ keep (λ k. bit (w / 2) (k - suc n)) (count_up low c)
unfolding keep count_up
keep_next w n zero low l = refl
keep_next w n (suc c) low l = keep_same (λ k. bit w (k - n)) (λ k. bit (w / 2) (k - suc n)) low (count_up (suc low) c) (bit_next w low n l) (keep_next w n c (suc low) (omega arith))

kept : (w v n c : ℕ) → w ≡ 1 + 2 * v → keep (λ k. bit w (k - n)) (count_up n (suc c)) ≡ n ∷ keep (λ k. bit v (k - suc n)) (count_up (suc n) c)
unfolding count_up
kept w v n c e =
    let odd : w % 2 ≡ 1 = omega arith in
    let half : w / 2 ≡ v = omega arith in
    keep_first (λ k. bit w (k - n)) n (count_up (suc n) c) (rw (bit_first w n, odd)) ∙ ap (λ l. n ∷ l) (rw (← half) (keep_next w n c (suc n) (omega arith)))

left_out_lem : (w v n c : ℕ) → w ≡ 2 * v → keep (λ k. bit w (k - n)) (count_up n (suc c)) ≡ keep (λ k. bit v (k - suc n)) (count_up (suc n) c)
unfolding count_up
left_out_lem w v n c e =
    let even : w % 2 ≡ 0 = omega arith in
    let half : w / 2 ≡ v = omega arith in
    keep_skip (λ k. bit w (k - n)) n (count_up (suc n) c) (rw (bit_first w n, even)) ∙ rw (← half) (keep_next w n c (suc n) (omega arith))

-- so the items of a list are those whose bits are set in its word
from_back : (c n top : ℕ) (list : List ℕ) → n + c ≡ top → Between n top list → keep (λ k. bit (bits_from n list) (k - n)) (count_up n c) ≡ list
from_back zero n top [] e h = unfold keep count_up in refl
from_back zero n top (k ∷ ks) e h = let a = h.0 in let b = h.1 in absurd (omega arith)
from_back (suc c) n top [] e h = left_out_lem 0 0 n c refl ∙ from_back c (suc n) top [] (omega arith) tt
from_back (suc c) n top (k ∷ ks) e h = go (from_back c (suc n) top ks (omega arith)) (from_back c (suc n) top (k ∷ ks) (omega arith)) (leb k n) refl
  where
    -- the first item is n, or all items are above it
    go : (Between (suc n) top ks → keep (λ j. bit (bits_from (suc n) ks) (j - suc n)) (count_up (suc n) c) ≡ ks)
        → (Between (suc n) top (k ∷ ks) → keep (λ j. bit (bits_from (suc n) (k ∷ ks)) (j - suc n)) (count_up (suc n) c) ≡ k ∷ ks)
        → (b : Bool) → leb k n ≡ b → keep (λ j. bit (bits_from n (k ∷ ks)) (j - n)) (count_up n (suc c)) ≡ k ∷ ks
    go here later true q =
        let l = leb-true k n q in
        let a = h.0 in
        let z : k ≡ n = omega arith in
        let v = halved n top ks (suc k) (omega arith) h.2 in
        let first : k - n ≡ 0 = omega arith in
        let w : bits_from n (k ∷ ks) ≡ 1 + 2 * bits_from (suc n) ks = rw first (omega arith) in
        kept (bits_from n (k ∷ ks)) (bits_from (suc n) ks) n c w ∙ ap (λ l. n ∷ l) (here (rw z at h.2)) ∙ rw z
    go here later false q =
        let b : Between (suc n) top (k ∷ ks) = (leb-false k n q, h.1, h.2) in
        left_out_lem (bits_from n (k ∷ ks)) (bits_from (suc n) (k ∷ ks)) n c (halved n top (k ∷ ks) (suc n) (omega arith) b) ∙ later b

-- a list in two parts: what the first word holds, and what the second holds
record Parted (n : ℕ) (list : List ℕ) : Type 0 where
  lows : List ℕ
  highs : List ℕ
  whole : list ≡ lows ++ highs
  lows_are : Between n 32 lows
  highs_are : Between 32 64 highs
  low_word : low_bits list ≡ bits_from 0 lows
  high_word : high_bits list ≡ bits_from 32 highs

low_here : (k : ℕ) (ks : List ℕ) → leb k 31 ≡ true → (low_bits (k ∷ ks) ≡ 2 ^ k + low_bits ks) × (high_bits (k ∷ ks) ≡ high_bits ks)
unfolding low_bits high_bits
low_here k ks e = (rw (e, low_bits), rw (e, high_bits))

high_here : (k : ℕ) (ks : List ℕ) → leb k 31 ≡ false → (low_bits (k ∷ ks) ≡ low_bits ks) × (high_bits (k ∷ ks) ≡ 2 ^ (k - 32) + high_bits ks)
unfolding low_bits high_bits
high_here k ks e = (rw (e, low_bits), rw (e, high_bits))

all_high : (n : ℕ) (list : List ℕ) → 31 < n → Between n 64 list → (low_bits list ≡ 0) × (high_bits list ≡ bits_from 32 list)
all_high n [] l h = unfold low_bits high_bits in (refl, refl)
all_high n (k ∷ ks) l h =
    let a = h.0 in
    let at = high_here k ks (lt-leb k 31 (omega arith)) in
    let later = all_high (suc k) ks (omega arith) h.2 in
    (at.0 ∙ later.0, at.1 ∙ ap (λ w. 2 ^ (k - 32) + w) later.1)

parted : (n : ℕ) (list : List ℕ) → Between n 64 list → Parted n list
parted n [] h =
    unfold low_bits high_bits in record { lows = []; highs = []; whole = refl; lows_are = tt; highs_are = tt; low_word = refl; high_word = refl }
parted n (k ∷ ks) h = go (leb k 31) refl (parted (suc k) ks h.2)
  where
    go : (b : Bool) → leb k 31 ≡ b → Parted (suc k) ks → Parted n (k ∷ ks)
    go true e p =
        record {
          lows = k ∷ p.lows;
          highs = p.highs;
          whole = ap (λ l. k ∷ l) p.whole;
          lows_are = (h.0, suc-le-suc (leb-true k 31 e), p.lows_are);
          highs_are = p.highs_are;
          low_word = (low_here k ks e).0 ∙ ap₂ (λ x y. 2 ^ x + y) (sym (sub-zero k)) p.low_word;
          high_word = (low_here k ks e).1 ∙ p.high_word;
        }
    go false e p =
        let b = leb-false k 31 e in
        let these = all_high k (k ∷ ks) b (omega arith, h.1, h.2) in
        record { lows = []; highs = k ∷ ks; whole = refl; lows_are = tt; highs_are = (b, h.1, h.2); low_word = these.0; high_word = these.1 }

-- Rows 3 and 5 say that a list rises from 1 to 63 at most.
pub rises_cons : (A last k : ℕ) (ks : List ℕ) → rises A last (k ∷ ks) ≡ (ltb last k && leb k A && rises A k ks)
unfolding rises
rises_cons A last k ks = go (ltb last k && leb k A) refl
  where
    go : (b : Bool) → (ltb last k && leb k A) ≡ b → rises A last (k ∷ ks) ≡ (ltb last k && leb k A && rises A k ks)
    go true e = rw (e, rises)
    go false e = rw (e, rises)

actions_between : (A last : ℕ) (list : List ℕ) → rises A last list ≡ true → every (λ k. leb k max_actions) list ≡ true → Between (suc last) 64 list
unfolding every
actions_between A last [] r h = tt
actions_between A last (k ∷ ks) r h =
    let q = rw (rises_cons A last k ks) at r in
    let low = and_left (ltb last k) _ (and_left (ltb last k && leb k A) _ q) in
    (ltb-true last k low, suc-le-suc (leb-true k 63 (and_left (leb k 63) _ h)), actions_between A k ks (and_right (ltb last k && leb k A) _ q) (and_right (leb k 63) _ h))

weaker : (n top : ℕ) (list : List ℕ) → Between (suc n) top list → Between n top list
weaker n top [] h = tt
weaker n top (k ∷ ks) h = let a = h.0 in (omega arith, h.1, h.2)

pub set_back : (A : ℕ) (list : List ℕ) → rises A 0 list ≡ true → every (λ k. leb k max_actions) list ≡ true → set_of (low_bits list) (high_bits list) ≡ list
unfolding set_of
set_back A list r h =
    let p = parted 0 list (weaker 0 64 list (actions_between A 0 list r h)) in
    let low : keep (bit (low_bits list)) (count_up 0 32) ≡ p.lows =
    ap (λ w. keep (bit w) (count_up 0 32)) p.low_word ∙
    ap (λ f. keep f (count_up 0 32)) (fun_ext (λ k. ap (bit (bits_from 0 p.lows)) (sym (sub-zero k)))) ∙
    from_back 32 0 32 p.lows refl p.lows_are in
    let high : keep (λ k. bit (high_bits list) (k - 32)) (count_up 32 32) ≡ p.highs =
    ap (λ w. keep (λ k. bit w (k - 32)) (count_up 32 32)) p.high_word ∙
    from_back 32 32 64 p.highs refl p.highs_are in
    rw (low, high) (sym p.whole)
