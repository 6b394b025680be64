-- Sets of actions: two words, one word and the list that they stand for.
use mathlib.Core.Path.{◌≡◌, refl, sym, ap, ap₂, ◌∙◌}
use mathlib.Core.Bool.{Bool, true, false, ◌&&◌, and-false, true≢false}
use mathlib.Core.List.{List, [], ◌∷◌, ◌++◌}
use Prim.Native.Nat.{ℕ, zero, suc, ◌+◌, ◌-◌, ◌*◌, ◌/◌, ◌%◌, ◌^◌, ◌≤◌, ◌<◌}
use native.Mathlib.Omega.{arith}
use native.Mathlib.Nat.{zero-add, add-zero, add-suc, mul-add, one-mul, mod-one, div-eq_of_lt, div-one, add_comm, mul_assoc, add-mul-div_right, add-mul-mod_self_right, lt-div-mul-add}
use lib.Dec.{eqb, leb, ltb}
use lib.Pow as P
use lib.Pow.{pow_pos, pow_mono, pow-add, shr_lt, shr-shr, mod-pow-add}
use borrow.Author.Tests.{leb-true, leb-false, le-leb, lt-leb, lt-ltb, le-ltb, eqb-true, eqb-false, eq-eqb, ne_eqb, ltb-true, ltb-false}
use Rattle.model.specs.Basic.{every, keep, member, count_up}
use Rattle.model.specs.Limits.{rises}
use Rattle.model.specs.Table.{low_bits, high_bits, set_words, bit, set_of}
use Rattle.model.proofs.Tests.{and_intro, and_left, and_right, both_ways}
use Rattle.model.proofs.Lists.{keep_append, keep_first, keep_skip, keep_same, member_keep, member_count, count_last}
use Rattle.model.proofs.Bits.{rises_cons}
use Rattle.table_tree.specs.Sets.{one_word, single, unfilled}

-- `single`
pub single_below : (k p : ℕ) → p ≡ single k → k < 64 → p ≡ 2 ^ k
unfolding single
single_below k p e h = e ∙ rw (lt-ltb k 64 h, single)

pub single_shift : (k : ℕ) → k < 64 → (1 * 2 ^ k) % 2 ^ 64 ≡ single k
unfolding single
single_shift k h = P.shl_exact 1 k 64 (omega arith) (omega arith) ∙ one-mul (2 ^ k) ∙ sym (rw (lt-ltb k 64 h, single))

pub single_past : (k : ℕ) → 64 ≤ k → 0 ≡ single k
unfolding single
single_past k h = sym (rw (le-ltb k 64 h, single))

pub ruleset single_laws = (single_shift, single_past)

-- what is kept of the numbers from n on, by the tests of those numbers alone
pub keep_alike : (f g : ℕ → Bool) (n c : ℕ) → ((k : ℕ) → n ≤ k → k < n + c → f k ≡ g k) → keep f (count_up n c) ≡ keep g (count_up n c)
unfolding count_up keep
keep_alike f g n zero h = refl
keep_alike f g n (suc c) h =
    keep_same f g n (count_up (suc n) c) (h n (omega arith) (omega arith)) (keep_alike f g (suc n) c (λ k a b. h k (omega arith) (omega arith)))

pub every_kept : (f p : ℕ → Bool) (n c : ℕ) → ((k : ℕ) → n ≤ k → k < n + c → f k ≡ true → p k ≡ true) → every p (keep f (count_up n c)) ≡ true
unfolding count_up every keep
every_kept f p n zero h = refl
every_kept f p n (suc c) h = go (f n) refl (every_kept f p (suc n) c (λ k a b. h k (omega arith) (omega arith)))
  where
    go : (b : Bool) → f n ≡ b → every p (keep f (count_up (suc n) c)) ≡ true → every p (keep f (n ∷ count_up (suc n) c)) ≡ true
    go true e later = rw (keep_first f n (count_up (suc n) c) e) (and_intro (h n (omega arith) (omega arith) e) later)
    go false e later = rw (keep_skip f n (count_up (suc n) c) e) later

pub kept_all : (f p : ℕ → Bool) (n c : ℕ) → every p (keep f (count_up n c)) ≡ true → (k : ℕ) → n ≤ k → k < n + c → f k ≡ true → p k ≡ true
unfolding count_up every keep
kept_all f p n zero h k a b e = absurd (omega arith)
kept_all f p n (suc c) h k a b e = go (f n) refl (kept_all f p (suc n) c)
  where
    past : (leb k n ≡ false → p k ≡ true) → f n ≡ true → p n ≡ true → p k ≡ true
    past later g first = last (leb k n) refl
      where
        last : (t : Bool) → leb k n ≡ t → p k ≡ true
        last true q = let l = leb-true k n q in let z : k ≡ n = omega arith in rw z first
        last false q = later q

    go : (b : Bool) → f n ≡ b → (every p (keep f (count_up (suc n) c)) ≡ true → (j : ℕ) → suc n ≤ j → j < suc n + c → f j ≡ true → p j ≡ true) → p k ≡ true
    go true g ih =
        let q = rw (keep_first f n (count_up (suc n) c) g) at h in
        past (λ r. ih (and_right (p n) _ q) k (leb-false k n r) (omega arith) e) g (and_left (p n) _ q)
    go false g ih =
        let q = rw (keep_skip f n (count_up (suc n) c) g) at h in
        let ne : k ≡ n → ⊥ = λ z. true≢false (sym e ∙ ap f z ∙ g) in
        ih q k (omega arith) (omega arith) e

-- from above `last`, the kept numbers rise, so what is left of rising is that none is above A
rises_kept : (f : ℕ → Bool) (A last n c : ℕ) → last < n → rises A last (keep f (count_up n c)) ≡ every (λ k. leb k A) (keep f (count_up n c))
unfolding count_up every rises keep
rises_kept f A last n zero l = refl
rises_kept f A last n (suc c) l = go (f n) refl (λ m k. rises_kept f A m (suc n) c k)
  where
    go : (b : Bool) → f n ≡ b → ((m : ℕ) → m < suc n → rises A m (keep f (count_up (suc n) c)) ≡ every (λ k. leb k A) (keep f (count_up (suc n) c)))
        → rises A last (keep f (n ∷ count_up (suc n) c)) ≡ every (λ k. leb k A) (keep f (n ∷ count_up (suc n) c))
    go true e ih =
        rw (keep_first f n (count_up (suc n) c) e, rises_cons A last n (keep f (count_up (suc n) c)), lt-ltb last n l, ih n (omega arith))
    go false e ih = rw (keep_skip f n (count_up (suc n) c) e) (ih last (omega arith))

-- bits of a word that has no more than some
bit_past : (s k : ℕ) → s < 2 ^ k → bit s k ≡ false
unfolding bit
bit_past s k h = rw (div-eq_of_lt h)

pub bit_above : (s j k : ℕ) → s < 2 ^ j → j ≤ k → bit s k ≡ false
bit_above s j k h l = let m = pow_mono l in bit_past s k (omega arith)

-- nothing is left of a word above its bits
no_digits : (s k : ℕ) → s / 2 ^ k ≡ 0 → s < 2 ^ k
no_digits s k z =
    let up : s < s / 2 ^ k * 2 ^ k + 2 ^ k = lt-div-mul-add (pow_pos k) in
    let g : s < 0 * 2 ^ k + 2 ^ k = rw z at up in
    omega arith

not_top : (s j : ℕ) → s < 2 ^ suc j → bit s j ≡ false → s < 2 ^ j
unfolding bit
not_top s j h e =
    let one : 1 + j ≡ suc j = omega arith in
    let small : s / 2 ^ j < 2 = shr_lt 1 j (rw one h) in
    let ne = eqb-false (s / 2 ^ j % 2) 1 e in
    no_digits s j (omega arith)

below_power : (s k c : ℕ) → s < 2 ^ (k + c) → ((j : ℕ) → k ≤ j → j < k + c → bit s j ≡ false) → s < 2 ^ k
below_power s k zero h e = rw (add-zero k) at h
below_power s k (suc c) h e =
    below_power s k c (not_top s (k + c) (rw (add-suc k c) at h) (e (k + c) (omega arith) (omega arith))) (λ j a b. e j a (omega arith))

-- a word's weight is that of its bits
pub low_joined : (k l : List ℕ) → low_bits (k ++ l) ≡ low_bits k + low_bits l
unfolding low_bits
low_joined [] l = sym (zero-add (low_bits l))
low_joined (x ∷ k) l = go (leb x 31) (low_joined k l)
  where
    go : (b : Bool) → low_bits (k ++ l) ≡ low_bits k + low_bits l
        → elim b as (λ c. ℕ) [ true ↦ 2 ^ x + low_bits (k ++ l) | false ↦ low_bits (k ++ l) ] ≡ elim b as (λ c. ℕ) [ true ↦ 2 ^ x + low_bits k | false ↦ low_bits k ] + low_bits l
    go true e = omega arith
    go false e = e

pub high_joined : (k l : List ℕ) → high_bits (k ++ l) ≡ high_bits k + high_bits l
unfolding high_bits
high_joined [] l = sym (zero-add (high_bits l))
high_joined (x ∷ k) l = go (leb x 31) (high_joined k l)
  where
    go : (b : Bool) → high_bits (k ++ l) ≡ high_bits k + high_bits l
        → elim b as (λ c. ℕ) [ true ↦ high_bits (k ++ l) | false ↦ 2 ^ (x - 32) + high_bits (k ++ l) ] ≡ elim b as (λ c. ℕ) [ true ↦ high_bits k | false ↦ 2 ^ (x - 32) + high_bits k ] + high_bits l
    go true e = e
    go false e = omega arith

-- h weighs a list, with s * 2 ^ k for the number n + k; f keeps the numbers whose bits are set in v
module _ (h : List ℕ → ℕ) (joins : (k l : List ℕ) → h (k ++ l) ≡ h k + h l) (empty : h [] ≡ 0) (f : ℕ → Bool) (n s v top : ℕ)
    (one : (k : ℕ) → k < top → h ((n + k) ∷ []) ≡ s * 2 ^ k) (bits : (k : ℕ) → f (n + k) ≡ bit v k) where
  digit : (c : ℕ) → c < top → h (keep f ((n + c) ∷ [])) ≡ s * (v / 2 ^ c % 2 * 2 ^ c)
  unfolding bit keep
  digit c l = go (f (n + c)) refl
    where
      go : (b : Bool) → f (n + c) ≡ b → h (keep f ((n + c) ∷ [])) ≡ s * (v / 2 ^ c % 2 * 2 ^ c)
      go true e =
          let d : v / 2 ^ c % 2 ≡ 1 = eqb-true (v / 2 ^ c % 2) 1 (sym (bits c) ∙ e) in
          rw (keep_first f (n + c) [] e, one c l, d, one-mul)
      go false e =
          let ne = eqb-false (v / 2 ^ c % 2) 1 (sym (bits c) ∙ e) in
          let d : v / 2 ^ c % 2 ≡ 0 = omega arith in
          rw (keep_skip f (n + c) [] e, empty, d) (omega arith)

  weight : (c : ℕ) → c ≤ top → h (keep f (count_up n c)) ≡ s * (v % 2 ^ c)
  weight zero l = unfold count_up keep in rw (empty, mod-one v) (omega arith)
  weight (suc c) l =
      let e : 1 + c ≡ suc c = omega arith in
      let m : v % 2 ^ suc c ≡ v / 2 ^ c % 2 * 2 ^ c + v % 2 ^ c = rw (← e) (mod-pow-add v 1 c) in
      rw (count_last n c, keep_append f (count_up n c) ((n + c) ∷ []), joins, weight c (omega arith), digit c l, m, mul-add)
      (omega arith)

-- what one number weighs
low_one : (k : ℕ) → k < 32 → low_bits ((0 + k) ∷ []) ≡ 1 * 2 ^ k
unfolding low_bits
low_one k h = rw (zero-add k, le-leb k 31 (omega arith), low_bits, zero-add k) (omega arith)

low_none : (k : ℕ) → k < 32 → low_bits ((32 + k) ∷ []) ≡ 0 * 2 ^ k
unfolding low_bits
low_none k h = rw (lt-leb (32 + k) 31 (omega arith), low_bits) (omega arith)

high_none : (k : ℕ) → k < 32 → high_bits ((0 + k) ∷ []) ≡ 0 * 2 ^ k
unfolding high_bits
high_none k h = rw (zero-add k, le-leb k 31 (omega arith), high_bits) (omega arith)

high_one : (k : ℕ) → k < 32 → high_bits ((32 + k) ∷ []) ≡ 1 * 2 ^ k
unfolding high_bits
high_one k h =
    let e : 32 + k - 32 ≡ k = omega arith in
    rw (lt-leb (32 + k) 31 (omega arith), high_bits, e) (omega arith)

-- the words of the list that two words stand for are those two
pub words_back : (low high : ℕ) → low < 4294967296 → high < 4294967296 → set_words (set_of low high) ≡ low ∷ high ∷ []
unfolding set_words set_of
words_back low high l u =
    let lows = keep (bit low) (count_up 0 32) in
    let highs = keep (λ k. bit high (k - 32)) (count_up 32 32) in
    let low_low : low_bits lows ≡ 1 * (low % 2 ^ 32) = weight low_bits low_joined (unfold low_bits in refl) (bit low) 0 1 low 32 (λ k h. low_one k h) (λ k. ap (bit low) (zero-add k)) 32 (omega arith) in
    let low_high : low_bits highs ≡ 0 * (high % 2 ^ 32) = weight low_bits low_joined (unfold low_bits in refl) (λ k. bit high (k - 32)) 32 0 high 32 (λ k h. low_none k h) (λ k. ap (bit high) (omega arith)) 32 (omega arith) in
    let high_low : high_bits lows ≡ 0 * (low % 2 ^ 32) = weight high_bits high_joined (unfold high_bits in refl) (bit low) 0 0 low 32 (λ k h. high_none k h) (λ k. ap (bit low) (zero-add k)) 32 (omega arith) in
    let high_high : high_bits highs ≡ 1 * (high % 2 ^ 32) = weight high_bits high_joined (unfold high_bits in refl) (λ k. bit high (k - 32)) 32 1 high 32 (λ k h. high_one k h) (λ k. ap (bit high) (omega arith)) 32 (omega arith) in
    let a : low_bits (lows ++ highs) ≡ low = low_joined lows highs ∙ omega arith in
    let b : high_bits (lows ++ highs) ≡ high = high_joined lows highs ∙ omega arith in
    ap₂ (λ x y. x ∷ y ∷ []) a b

module _ (low high : ℕ) (l : low < 4294967296) (u : high < 4294967296) (one : ℕ) (is : one ≡ one_word low high) where
  one_fits : one < 2 ^ 64
  unfolding one_word
  one_fits = omega arith

  -- a bit of the one word is a bit of one of the two
  low_bit : (k : ℕ) → k < 32 → bit low k ≡ bit one k
  unfolding bit one_word
  low_bit k h =
      let d : 32 ≡ (31 - k) + 1 + k = omega arith in
      let p : 2 ^ 32 ≡ 2 ^ (31 - k) * 2 * 2 ^ k = ap (λ e. 2 ^ e) d ∙ rw (pow-add 2 ((31 - k) + 1) k, pow-add 2 (31 - k) 1) in
      let w : high * 2 ^ 32 + low ≡ low + high * (2 ^ (31 - k) * 2) * 2 ^ k = rw (p, ← mul_assoc high (2 ^ (31 - k) * 2) (2 ^ k)) (add_comm _ low) in
      let q : (high * 2 ^ 32 + low) / 2 ^ k ≡ low / 2 ^ k + high * (2 ^ (31 - k) * 2) = ap (λ x. x / 2 ^ k) w ∙ add-mul-div_right low (high * (2 ^ (31 - k) * 2)) (pow_pos k) in
      let r : (low / 2 ^ k + high * (2 ^ (31 - k) * 2)) % 2 ≡ low / 2 ^ k % 2 = rw (← mul_assoc) (add-mul-mod_self_right (low / 2 ^ k) (high * 2 ^ (31 - k)) 2) in
      rw is (ap (λ x. eqb x 1) (sym (ap (λ x. x % 2) q ∙ r)))

  high_bit : (k : ℕ) → 32 ≤ k → bit high (k - 32) ≡ bit one k
  unfolding bit one_word
  high_bit k h =
      let d : k ≡ 32 + (k - 32) = omega arith in
      let q : (high * 2 ^ 32 + low) / 2 ^ k ≡ high / 2 ^ (k - 32) =
      ap (λ e. (high * 2 ^ 32 + low) / 2 ^ e) d ∙ sym (shr-shr (high * 2 ^ 32 + low) 32 (k - 32)) ∙ ap (λ x. x / 2 ^ (k - 32)) (P.high high 32 l) in
      rw is (ap (λ x. eqb (x % 2) 1) (sym q))

  pub set_of_one : set_of low high ≡ keep (bit one) (count_up 0 64)
  unfolding set_of
  set_of_one =
      let halves : count_up 0 64 ≡ count_up 0 32 ++ count_up 32 32 = unfold count_up in refl in
      ap₂ (λ x y. x ++ y) (keep_alike (bit low) (bit one) 0 32 (λ k a b. low_bit k (omega arith))) (keep_alike (λ k. bit high (k - 32)) (bit one) 32 32 (λ k a b. high_bit k a)) ∙
      sym (ap (keep (bit one)) halves ∙ keep_append (bit one) (count_up 0 32) (count_up 32 32))

  -- an action is in the set if its bit is set in the one word
  pub set_member : (a : ℕ) → bit one a ≡ member a (set_of low high)
  set_member a = sym (ap (member a) set_of_one ∙ member_keep (bit one) a (count_up 0 64) ∙ go (ltb a 64) refl)
    where
      go : (b : Bool) → ltb a 64 ≡ b → (member a (count_up 0 64) && bit one a) ≡ bit one a
      go true e =
          let h = ltb-true a 64 e in
          rw (member_count a 0 64 (omega arith) (omega arith))
      go false e = rw (bit_above one 64 a one_fits (ltb-false a 64 e), and-false)

  pub words_member : (a : ℕ) (r : Bool) → r ≡ bit one a → r ≡ member a (set_of low high)
  words_member a r h = h ∙ set_member a

  -- the ways out of `unfilled` and `set_sound`
  pub unfilled_one : one ≡ 0 → 1 ≡ unfilled (set_of low high)
  unfolding one_word unfilled
  unfilled_one z =
      let a : low ≡ 0 = omega arith in
      let b : high ≡ 0 = omega arith in
      let n : set_of 0 0 ≡ [] = unfold set_of keep count_up bit in refl in
      sym (ap₂ (λ x y. unfilled (set_of x y)) a b ∙ ap unfilled n)

  pub unfilled_none : (one ≡ 0 → ⊥) → 0 ≡ unfilled (set_of low high)
  unfolding one_word unfilled set_words low_bits high_bits
  unfilled_none z = go (set_of low high) refl
    where
      go : (list : List ℕ) → set_of low high ≡ list → 0 ≡ unfilled list
      go [] e =
          let w : 0 ∷ 0 ∷ [] ≡ low ∷ high ∷ [] = ap set_words (sym e) ∙ words_back low high l u in
          let a : 0 ≡ low = cc in
          let b : 0 ≡ high = cc in
          absurd (z (omega arith))
      go (k ∷ ks) e = refl

  module _ (A : ℕ) where
    sound_rest : bit one 0 ≡ false → rises A 0 (set_of low high) ≡ every (λ k. leb k A) (keep (bit one) (count_up 1 63))
    sound_rest e =
        let first : count_up 0 64 ≡ 0 ∷ count_up 1 63 = unfold count_up in refl in
        ap (rises A 0) (set_of_one ∙ ap (keep (bit one)) first ∙ keep_skip (bit one) 0 (count_up 1 63) e) ∙ rises_kept (bit one) A 0 1 63 (omega arith)

    even : (one % 2 ≡ 1 → ⊥) → bit one 0 ≡ false
    unfolding bit
    even h = rw (div-one one) (ne_eqb (one % 2) 1 h)

    pub sound_odd : one % 2 ≡ 1 → false ≡ rises A 0 (set_of low high)
    unfolding bit
    sound_odd h =
        let first : count_up 0 64 ≡ 0 ∷ count_up 1 63 = unfold count_up in refl in
        let e : bit one 0 ≡ true = rw (div-one one) (eq-eqb (one % 2) 1 h) in
        sym (ap (rises A 0) (set_of_one ∙ ap (keep (bit one)) first ∙ keep_first (bit one) 0 (count_up 1 63) e) ∙ rises_cons A 0 0 (keep (bit one) (count_up 1 63)))

    pub sound_all : (one % 2 ≡ 1 → ⊥) → 63 ≤ A → true ≡ rises A 0 (set_of low high)
    sound_all h m = sym (sound_rest (even h) ∙ every_kept (bit one) (λ k. leb k A) 1 63 (λ k a b e. le-leb k A (omega arith)))

    pub sound_above : (one % 2 ≡ 1 → ⊥) → A < 63 → eqb (one / 2 ^ (A + 1)) 0 ≡ rises A 0 (set_of low high)
    sound_above h m = both_ways (eqb (one / 2 ^ (A + 1)) 0) (rises A 0 (set_of low high)) to from
      where
        to : eqb (one / 2 ^ (A + 1)) 0 ≡ true → rises A 0 (set_of low high) ≡ true
        to z =
            let small = no_digits one (A + 1) (eqb-true (one / 2 ^ (A + 1)) 0 z) in
            let low_enough : (k : ℕ) → bit one k ≡ true → (b : Bool) → leb k A ≡ b → b ≡ true = λ k e b q. enough k e b q small in
            sound_rest (even h) ∙ every_kept (bit one) (λ k. leb k A) 1 63 (λ k a b e. low_enough k e (leb k A) refl)
          where
            enough : (k : ℕ) → bit one k ≡ true → (b : Bool) → leb k A ≡ b → one < 2 ^ (A + 1) → b ≡ true
            enough k e true q small = refl
            enough k e false q small =
                let g = leb-false k A q in
                sym (bit_above one (A + 1) k small (omega arith)) ∙ e

        from : rises A 0 (set_of low high) ≡ true → eqb (one / 2 ^ (A + 1)) 0 ≡ true
        from r =
            let all = kept_all (bit one) (λ k. leb k A) 1 63 (sym (sound_rest (even h)) ∙ r) in
            let none : (k : ℕ) → A + 1 ≤ k → k < 64 → (b : Bool) → bit one k ≡ b → b ≡ false = λ k a c b e. clear k a c b e (all k (omega arith) (omega arith)) in
            let d : 64 ≡ A + 1 + (63 - A) = omega arith in
            let small = below_power one (A + 1) (63 - A) (rw (← d) one_fits) (λ j a c. none j a (omega arith) (bit one j) refl) in
            eq-eqb (one / 2 ^ (A + 1)) 0 (div-eq_of_lt small)
          where
            clear : (k : ℕ) → A + 1 ≤ k → k < 64 → (b : Bool) → bit one k ≡ b → (bit one k ≡ true → leb k A ≡ true) → b ≡ false
            clear k a c true e all = let g = leb-true k A (all e) in absurd (omega arith)
            clear k a c false e all = refl

pub ruleset unfilled_laws = (unfilled_one, unfilled_none)

pub ruleset sound_laws = (sound_odd, sound_all, sound_above)

-- the ways out of `in_word`
pub word_high : (set action : ℕ) → set < 2 ^ 64 → 63 < action → false ≡ bit set action
word_high set action h l = sym (bit_above set 64 action h l)

pub word_bit : (set action : ℕ) → eqb (set / 2 ^ action % 2) 1 ≡ bit set action
unfolding bit
word_bit set action = refl

pub ruleset word_laws = (word_high, word_bit)
