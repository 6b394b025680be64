-- Laws of the numbers: what each way out of the code shows.
use Prim.Native.Nat.{ℕ, zero, suc, ◌+◌, ◌-◌, ◌*◌, ◌≤◌, ◌<◌}
use mathlib.Core.Path.{◌≡◌, refl, sym, ◌∙◌, ap}
use mathlib.Core.Bool.{Bool, true, false, and-false}
use mathlib.Core.List.{List, [], ◌∷◌}
use mathlib.Core.Logic.{◌⊎◌, inl, inr, ⊎_elim}
use mathlib.Core.Option.{Option, none, some}
use native.Mathlib.Omega.{arith}
use borrow.Author.Tests.{eqb-true, lt-ltb, le-leb, lt-leb, eq-eqb, ne_eqb, ltb-true, ltb-false, leb-true, leb-false}
use lib.ListN.{length, get_or, take, drop}
use lib.Seq.{drop-length}
use lib.Dec.{leb, eqb}
use lib.IntN.{ℤ, pos, negsuc, ◌-ℤ◌}
use lib.Signed.{lt_z, le_z}
use mir.Syntax.{w32, w64}
use mir.Val.{SFits, Fits, to_z, of_z}
use mir.ValLaws.{to_z-of_z}
use Rattle.std.specs.Prelude as P
use Rattle.std.specs.Prelude.{Some, None, Result, Ok, Err}
use Rattle.std.specs.Result.{OkIff, result_ok}
use Rattle.std.proofs.lemmas.Option.{none-some}
use Rattle.model.specs.Basic.{between, or_else}
use Rattle.format.specs.Number.{digit, digits, natural, number, negative, unsigned, within, is_between, natural_of, integer_of}
use Rattle.format.proofs.NumberLaws.{is_digit, false_true}
use Rattle.text_bytes.proofs.Places.{at_place, take_rest}
use Rattle.text_numbers.specs.Number.{natural_in, integer_in, up_to, kept, negated}

-- one digit
no_digit_low : (b : ℕ) → b < 48 → digit b ≡ false
unfolding digit
no_digit_low b h = rw (lt-leb 48 b h)

digits_yes : (n b : ℕ) (t : List ℕ) → digit b ≡ true → digits n (b ∷ t) ≡ digits (n * 10 + (b - 48)) t
unfolding digits
digits_yes n b t h = rw (h, digits)

digits_no : (n b : ℕ) (t : List ℕ) → digit b ≡ false → digits n (b ∷ t) ≡ none
unfolding digits
digits_no n b t h = rw (h, digits)

digit_from : (b : ℕ) → digit b ≡ true → 48 ≤ b
digit_from b h = go (leb 48 b) refl
  where
    go : (v : Bool) → leb 48 b ≡ v → 48 ≤ b
    go true k = leb-true 48 b k
    go false k = absurd (false_true (sym (no_digit_low b (leb-false 48 b k)) ∙ h))

-- digits that go on from more than high stay above it
over : (t : List ℕ) (n high : ℕ) → high < n → up_to high (digits n t) ≡ None
unfolding up_to digits
over [] n high h = rw (lt-leb n high h, up_to)
over (b ∷ t) n high h = go (digit b) (over t (n * 10 + (b - 48)) high (omega arith))
  where
    go : (v : Bool) → up_to high (digits (n * 10 + (b - 48)) t) ≡ None → up_to high (elim v [ true ↦ digits (n * 10 + (b - 48)) t | false ↦ none ]) ≡ None
    go true ih = ih
    go false ih = refl

up_none : (high : ℕ) → up_to high none ≡ None
unfolding up_to
up_none high = refl

up_to_lem : (n high : ℕ) → n ≤ high → up_to high (some n) ≡ Some n
unfolding up_to
up_to_lem n high h = rw (le-leb n high h, up_to)

-- each way out of a turn of `digits`
module _ (s : List ℕ) (i n high : ℕ) (inv : up_to high (digits 0 s) ≡ up_to high (digits n (drop i s))) where
  module _ (h : i < length s) (p : Bool) (e : p ≡ digit (get_or s i 0)) where
    pub digits_out : p ≡ false → None ≡ up_to high (digits 0 s)
    digits_out k = sym (inv ∙ rw (at_place s i h, digits_no n (get_or s i 0) (drop (i + 1) s) (sym e ∙ k)) (up_none high))

    module _ (k : p ≡ true) where
      pub digit_low : 48 ≤ get_or s i 0
      digit_low = digit_from (get_or s i 0) (sym e ∙ k)

      module _ (m : ℕ) (w : m ≡ n * 10 + (get_or s i 0 - 48)) where
        pub digits_go : up_to high (digits 0 s) ≡ up_to high (digits m (drop (i + 1) s))
        digits_go = inv ∙ rw (at_place s i h, digits_yes n (get_or s i 0) (drop (i + 1) s) (sym e ∙ k), w)

        pub digits_over : high < m → None ≡ up_to high (digits 0 s)
        digits_over v = sym (digits_go ∙ over (drop (i + 1) s) m high v)

  pub digits_all : i ≤ length s → length s ≤ i → n ≤ high → Some n ≡ up_to high (digits 0 s)
  unfolding digits
  digits_all h t l =
      let e : i ≡ length s = omega arith in
      sym (inv ∙ rw (e, drop-length s) (up_to_lem n high l))

-- `natural`: within 0 and high is at most high
by_number : (o : Option ℕ) (high : ℕ) → elim (is_between (pos 0) (pos high) (unsigned o)) as (λ x. P.Option ℕ) [ true ↦ Some (or_else 0 o) | false ↦ None ] ≡ up_to high o
unfolding is_between unsigned or_else up_to between
by_number none high = refl
by_number (some n) high = rw (le-leb 0 n (omega arith))

no_minus : (o p : Option ℕ) (high : ℕ) → elim (is_between (pos 0) (pos high) (negative o)) as (λ x. P.Option ℕ) [ true ↦ Some (or_else 0 p) | false ↦ None ] ≡ None
unfolding is_between negative between
no_minus none p high = refl
no_minus (some zero) p high = refl
no_minus (some (suc n)) p high = refl

pub natural_none : (b : ℕ) (t : List ℕ) → digit b ≡ false → natural (b ∷ t) ≡ none
unfolding natural
natural_none b [] h = digits_no 0 b [] h
natural_none b (c ∷ t) h = go (eqb b 48)
  where
    go : (v : Bool) → ◌≡◌ {A = Option ℕ} (elim v [ true ↦ none | false ↦ digits 0 (b ∷ c ∷ t) ]) none
    go true = refl
    go false = digits_no 0 b (c ∷ t) h

pub natural_in_lem : (s : List ℕ) (high : ℕ) → natural_in s high ≡ up_to high (natural s)
unfolding natural_in within natural_of number
natural_in_lem [] high = unfold natural is_between up_to in refl
natural_in_lem (b ∷ t) high = go (eqb b 45) refl
  where
    go : (v : Bool) → eqb b 45 ≡ v → elim (is_between (pos 0) (pos high) (elim v [ true ↦ negative (natural t) | false ↦ unsigned (natural (b ∷ t)) ])) [ true ↦ Some (or_else 0 (natural (b ∷ t))) | false ↦ None ] ≡ up_to high (natural (b ∷ t))
    go true e =
        let m : b ≡ 45 = eqb-true b 45 e in
        no_minus (natural t) (natural (b ∷ t)) high ∙ sym (ap (up_to high) (natural_none b t (no_digit_low b (omega arith))) ∙ up_none high)
    go false e = by_number (natural (b ∷ t)) high

-- each way out of `natural`
natural_plain : (s : List ℕ) → (length s ≡ 0 → ⊥) → (get_or s 0 0 ≡ 48 → ⊥) → natural s ≡ digits 0 s
unfolding natural
natural_plain [] e h = absurd (e refl)
natural_plain (b ∷ []) e h = refl
natural_plain (b ∷ c ∷ t) e h = rw (ne_eqb b 48 h, natural)

natural_zeros : (s : List ℕ) → get_or s 0 0 ≡ 48 → 1 < length s → natural s ≡ none
unfolding natural
natural_zeros [] h l = absurd (omega arith)
natural_zeros (b ∷ []) h l = absurd (omega arith)
natural_zeros (b ∷ c ∷ t) h l = rw (eq-eqb b 48 h, natural)

natural_one : (s : List ℕ) → get_or s 0 0 ≡ 48 → length s ≤ 1 → natural s ≡ some 0
unfolding natural digits
natural_one [] h l = absurd (omega arith)
natural_one (b ∷ []) h l = rw h (digits_yes 0 48 [] (is_digit 48 (omega arith) (omega arith)))
natural_one (b ∷ c ∷ t) h l = absurd (omega arith)

module _ (s : List ℕ) (high : ℕ) where
  pub natural_empty : length s < 1 → None ≡ natural_in s high
  unfolding natural up_to
  natural_empty h = sym (natural_in_lem s high ∙ go s h)
    where
      go : (t : List ℕ) → length t < 1 → up_to high (natural t) ≡ None
      go [] e = refl
      go (b ∷ t) e = absurd (omega arith)

  pub natural_lead : get_or s 0 0 ≡ 48 → 2 ≤ length s → None ≡ natural_in s high
  natural_lead h l = sym (natural_in_lem s high ∙ ap (up_to high) (natural_zeros s h l) ∙ up_none high)

  pub natural_zero : get_or s 0 0 ≡ 48 → length s < 2 → Some 0 ≡ natural_in s high
  natural_zero h l = sym (natural_in_lem s high ∙ rw (natural_one s h (omega arith)) (up_to_lem 0 high (omega arith)))

  pub natural_digits : (r : P.Option ℕ) → 1 ≤ length s → (get_or s 0 0 ≡ 48 → ⊥) → r ≡ up_to high (digits 0 s) → r ≡ natural_in s high
  natural_digits r l h k = k ∙ sym (natural_in_lem s high ∙ ap (up_to high) (natural_plain s (λ e. absurd (omega arith)) h))

pub ruleset natural_laws = (natural_empty, natural_lead, natural_zero, natural_digits)

-- signed numbers: an order by its test
lt_le : (a b : ℤ) → lt_z b a ≡ true → le_z a b ≡ false
lt_le (pos a) (pos b) h = lt-leb a b (ltb-true b a h)
lt_le (pos a) (negsuc b) h = refl
lt_le (negsuc a) (pos b) h = sym h
lt_le (negsuc a) (negsuc b) h = lt-leb b a (ltb-true a b h)

not_lt_le : (a b : ℤ) → lt_z b a ≡ false → le_z a b ≡ true
not_lt_le (pos a) (pos b) h = le-leb a b (ltb-false b a h)
not_lt_le (pos a) (negsuc b) h = sym h
not_lt_le (negsuc a) (pos b) h = refl
not_lt_le (negsuc a) (negsuc b) h = le-leb b a (ltb-false a b h)

-- what lies between two i32 is one
between_fits : (low high z : ℤ) → SFits w32 low → SFits w32 high → le_z low z ≡ true → le_z z high ≡ true → SFits w32 z
between_fits low (pos b) (pos a) f g l h = record { sfits = omega (arith, g.sfits, leb-true a b h) }
between_fits low (negsuc b) (pos a) f g l h = absurd (false_true h)
between_fits (pos b) high (negsuc a) f g l h = absurd (false_true l)
between_fits (negsuc b) high (negsuc a) f g l h = record { sfits = omega (arith, f.sfits, leb-true a b l) }

-- a conversion that may fail
converted : {T E : Type 0} (r : Result T E) (P : Type 0) (v x : T) → OkIff r P v → Some x ≡ result_ok r → P × (x ≡ v)
converted (Ok y) P v x o e =
    let z : x ≡ y = cc in
    (o.0, z ∙ o.1)
converted (Err y) P v x o e = absurd (none-some x (sym e))

refused : {T E : Type 0} (r : Result T E) (P : Type 0) (v : T) → OkIff r P v → None ≡ result_ok r → P → ⊥
refused (Ok y) P v o e = absurd (none-some y e)
refused (Err y) P v o e = o

-- each way out of `keep`
kept_in : (low high z : ℤ) → between low high z ≡ true → kept low high z ≡ Some z
unfolding kept
kept_in low high z e = rw (e, kept)

kept_out : (low high z : ℤ) → between low high z ≡ false → kept low high z ≡ None
unfolding kept
kept_out low high z e = rw (e, kept)

module _ (low high z : ℤ) where
  pub keep_low : lt_z z low ≡ true → None ≡ kept low high z
  unfolding between
  keep_low h = sym (kept_out low high z (rw (lt_le low z h)))

  pub keep_high : lt_z high z ≡ true → None ≡ kept low high z
  unfolding between
  keep_high h = sym (kept_out low high z (rw (lt_le z high h, and-false)))

  pub keep_in : lt_z z low ≡ false → lt_z high z ≡ false → Some z ≡ kept low high z
  unfolding between
  keep_in h k = sym (kept_in low high z (rw (not_lt_le low z h, not_lt_le z high k)))

  pub keep_far : SFits w32 low → SFits w32 high → (SFits w32 z → ⊥) → None ≡ kept low high z
  unfolding between
  keep_far f g h = go (lt_z z low) refl (lt_z high z) refl
    where
      go : (u : Bool) → lt_z z low ≡ u → (v : Bool) → lt_z high z ≡ v → None ≡ kept low high z
      go true a v b = keep_low a
      go false a true b = keep_high b
      go false a false b = absurd (h (between_fits low high z f g (not_lt_le low z a) (not_lt_le z high b)))

-- the same, where the number was converted first
module _ {E : Type 0} (low high z : ℤ) (f : SFits w64 z) (g : SFits w32 low) (h : SFits w32 high) (r : Result ℤ E) (o : OkIff r (SFits w32 (to_z w64 (of_z w64 z))) (to_z w64 (of_z w64 z))) where
  pub keep_none : None ≡ result_ok r → None ≡ kept low high z
  keep_none e = keep_far low high z g h (rw (to_z-of_z w64 z f) at (refused r _ _ o e))

  module _ (y : ℤ) (e : Some y ≡ result_ok r) where
    here : SFits w32 z × (to_z w32 (of_z w32 y) ≡ z)
    here =
        let k : SFits w32 z × (y ≡ z) = rw (to_z-of_z w64 z f) at (converted r _ _ y o e) in
        (k.0, rw k.1 (to_z-of_z w32 z k.0))

    pub keep_below : lt_z (to_z w32 (of_z w32 y)) (to_z w32 (of_z w32 low)) ≡ true → None ≡ kept low high z
    keep_below k = keep_low low high z (rw (here.1, to_z-of_z w32 low g) at k)

    pub keep_above : lt_z (to_z w32 (of_z w32 high)) (to_z w32 (of_z w32 y)) ≡ true → None ≡ kept low high z
    keep_above k = keep_high low high z (rw (here.1, to_z-of_z w32 high h) at k)

    pub keep_within : lt_z (to_z w32 (of_z w32 y)) (to_z w32 (of_z w32 low)) ≡ false → lt_z (to_z w32 (of_z w32 high)) (to_z w32 (of_z w32 y)) ≡ false → Some (to_z w32 (of_z w32 y)) ≡ kept low high z
    keep_within k l = rw here.1 (keep_in low high z (rw (here.1, to_z-of_z w32 low g) at k) (rw (here.1, to_z-of_z w32 high h) at l))

-- a negation
pub zero_minus : (n : ℕ) → 0 < n → pos 0 -ℤ pos n ≡ negsuc (n - 1)
zero_minus zero h = absurd (omega arith)
zero_minus (suc n) h = rw (lt-ltb 0 (suc n) (omega arith))

pub plain_fits : {n : ℕ} → Fits w32 n → SFits w64 (pos n)
plain_fits f = record { sfits = omega (arith, f.fits) }

pub minus_fits : (n : ℕ) → Fits w32 n → SFits w64 (pos 0 -ℤ pos n)
minus_fits zero f = record { sfits = omega arith }
minus_fits (suc n) f = rw (zero_minus (suc n) (omega arith)) (record { sfits = omega (arith, f.fits) })

module _ (low high : ℤ) where
  pub negate_zero : (n : ℕ) → n ≤ 0 → None ≡ negated low high n
  unfolding negated
  negate_zero zero h = refl
  negate_zero (suc n) h = absurd (omega arith)

  pub negate_more : (n : ℕ) → 0 < n → kept low high (negsuc (n - 1)) ≡ negated low high n
  unfolding negated
  negate_more zero h = absurd (omega arith)
  negate_more (suc n) h = ap (λ (k : ℕ). kept low high (negsuc k)) (omega arith)

-- what an answer of `natural` says of the number
up_in : (o : Option ℕ) (high n : ℕ) → up_to high o ≡ Some n → o ≡ some n
unfolding up_to
up_in none high n e = absurd (let z : ◌≡◌ {A = ℕ} 0 1 = cc in omega arith)
up_in (some m) high n e = go (leb m high) e
  where
    go : (v : Bool) → elim v as (λ x. P.Option ℕ) [ true ↦ Some m | false ↦ None ] ≡ Some n → some m ≡ some n
    go true k = let z : m ≡ n = cc in ap some z
    go false k = absurd (let z : ◌≡◌ {A = ℕ} 0 1 = cc in omega arith)

up_out : (o : Option ℕ) (high : ℕ) → up_to high o ≡ None → (o ≡ none) ⊎ ((m : ℕ) × (o ≡ some m) × (high < m))
unfolding up_to
up_out none high e = inl refl
up_out (some m) high e = go (leb m high) refl e
  where
    go : (v : Bool) → leb m high ≡ v → elim v as (λ x. P.Option ℕ) [ true ↦ Some m | false ↦ None ] ≡ None → (some m ≡ none) ⊎ ((n : ℕ) × (some m ≡ some n) × (high < n))
    go true h k = absurd (let z : ◌≡◌ {A = ℕ} 0 1 = cc in omega arith)
    go false h k = inr (m, refl, leb-false m high h)

-- the number by its first byte
number_minus : (s : List ℕ) → (length s ≡ 0 → ⊥) → get_or s 0 0 ≡ 45 → number s ≡ negative (natural (drop 1 s))
unfolding number
number_minus [] e h = absurd (e refl)
number_minus (b ∷ t) e h = rw (eq-eqb b 45 h, number)

number_plain : (s : List ℕ) → (get_or s 0 0 ≡ 45 → ⊥) → number s ≡ unsigned (natural s)
unfolding number
number_plain [] h = unfold natural unsigned in refl
number_plain (b ∷ t) h = rw (ne_eqb b 45 h, number)

-- beyond 32 bits is out of every range of i32
far_above : (low high : ℤ) (m : ℕ) → SFits w32 high → 4294967295 < m → kept low high (pos m) ≡ None
unfolding between
far_above low (pos b) m f h = kept_out low (pos b) (pos m) (rw (lt-leb m b (omega (arith, f.sfits)), and-false))
far_above low (negsuc b) m f h = kept_out low (negsuc b) (pos m) (rw and-false)

far_below : (low high : ℤ) (m : ℕ) → SFits w32 low → 4294967295 < m → negated low high m ≡ None
unfolding between negated
far_below low high zero f h = absurd (omega arith)
far_below (pos b) high (suc m) f h = kept_out (pos b) high (negsuc m) refl
far_below (negsuc b) high (suc m) f h = kept_out (negsuc b) high (negsuc m) (rw (lt-leb m b (omega (arith, f.sfits))))

-- each way out of `integer`
module _ (s : List ℕ) (low high : ℤ) where
  by_value : (o : Option ℤ) → number s ≡ o → integer_in s low high ≡ elim (is_between low high o) as (λ x. P.Option ℤ) [ true ↦ Some (or_else (pos 0) o) | false ↦ None ]
  unfolding integer_in within integer_of
  by_value o e = ap (λ (v : Option ℤ). elim (is_between low high v) as (λ x. P.Option ℤ) [ true ↦ Some (or_else (pos 0) v) | false ↦ None ]) e

  in_none : number s ≡ none → integer_in s low high ≡ None
  unfolding is_between
  in_none e = by_value none e

  in_some : (z : ℤ) → number s ≡ some z → integer_in s low high ≡ kept low high z
  unfolding is_between or_else kept
  in_some z e = by_value (some z) e

  in_negated : (n : ℕ) → number s ≡ negative (some n) → integer_in s low high ≡ negated low high n
  unfolding negative negated
  in_negated zero e = in_none e
  in_negated (suc n) e = in_some (negsuc n) e

  -- after a minus
  module _ (l : 1 ≤ length s) (h : get_or s 0 0 ≡ 45) where
    behind : (o : P.Option ℕ) → o ≡ natural_in (take (length s - 1) (drop 1 s)) 4294967295 → o ≡ up_to 4294967295 (natural (drop 1 s))
    behind o k = k ∙ natural_in_lem _ 4294967295 ∙ ap (λ (t : List ℕ). up_to 4294967295 (natural t)) (take_rest s 1)

    at_minus : number s ≡ negative (natural (drop 1 s))
    at_minus = number_minus s (λ e. absurd (omega arith)) h

    pub integer_minus : (n : ℕ) (r : P.Option ℤ) → Some n ≡ natural_in (take (length s - 1) (drop 1 s)) 4294967295 → SFits w32 low → SFits w32 high → r ≡ negated (to_z w32 (of_z w32 low)) (to_z w32 (of_z w32 high)) n → r ≡ integer_in s low high
    integer_minus n r k f g q = (rw (to_z-of_z w32 low f, to_z-of_z w32 high g) at q) ∙ sym (in_negated n (at_minus ∙ ap negative (up_in _ _ n (sym (behind _ k)))))

    pub integer_minus_out : (r : P.Option ℤ) → r ≡ None → None ≡ natural_in (take (length s - 1) (drop 1 s)) 4294967295 → SFits w32 low → r ≡ integer_in s low high
    unfolding negative
    integer_minus_out r q k f =
        q ∙
        ⊎_elim
        (λ (u : natural (drop 1 s) ≡ none). sym (in_none (at_minus ∙ ap negative u)))
        (λ (u : (m : ℕ) × (natural (drop 1 s) ≡ some m) × (4294967295 < m)). sym (in_negated u.0 (at_minus ∙ ap negative u.1) ∙ far_below low high u.0 f u.2))
        (up_out _ _ (sym (behind _ k)))

  -- without one
  module _ (h : get_or s 0 0 ≡ 45 → ⊥) where
    pub integer_plain : (n : ℕ) (r : P.Option ℤ) → Some n ≡ natural_in s 4294967295 → SFits w32 low → SFits w32 high → r ≡ kept (to_z w32 (of_z w32 low)) (to_z w32 (of_z w32 high)) (pos n) → r ≡ integer_in s low high
    unfolding unsigned
    integer_plain n r k f g q = (rw (to_z-of_z w32 low f, to_z-of_z w32 high g) at q) ∙ sym (in_some (pos n) (number_plain s h ∙ ap unsigned (up_in _ _ n (sym (k ∙ natural_in_lem s 4294967295)))))

    pub integer_plain_out : (r : P.Option ℤ) → r ≡ None → None ≡ natural_in s 4294967295 → SFits w32 high → r ≡ integer_in s low high
    unfolding unsigned
    integer_plain_out r q k f =
        q ∙
        ⊎_elim
        (λ (u : natural s ≡ none). sym (in_none (number_plain s h ∙ ap unsigned u)))
        (λ (u : (m : ℕ) × (natural s ≡ some m) × (4294967295 < m)). sym (in_some (pos u.0) (number_plain s h ∙ ap unsigned u.1) ∙ far_above low high u.0 f u.2))
        (up_out _ _ (sym (k ∙ natural_in_lem s 4294967295)))

pub no_start : (s : List ℕ) → length s < 1 → get_or s 0 0 ≡ 45 → ⊥
no_start [] l e = absurd (omega arith)
no_start (x ∷ s) l e = absurd (omega arith)

pub ruleset integer_laws = (integer_minus, integer_minus_out, integer_plain, integer_plain_out)

-- what the answers say: the number is in its range and is this one, or it is not
within_number : (s : List ℕ) (low high : ℤ) → within low high s ≡ true → number s ≡ some (integer_of s)
unfolding within integer_of
within_number s low high h = go (number s) h
  where
    go : (o : Option ℤ) → is_between low high o ≡ true → o ≡ some (or_else (pos 0) o)
    go none k = absurd (false_true (unfold is_between in k))
    go (some z) k = unfold or_else in refl

module _ (s : List ℕ) (low high : ℤ) where
  pub integer_said : (z : ℤ) → integer_in s low high ≡ Some z → (within low high s ≡ true) × (integer_of s ≡ z) × (number s ≡ some z)
  unfolding integer_in
  integer_said z e = go (within low high s) refl e
    where
      go : (v : Bool) → within low high s ≡ v → elim v as (λ x. P.Option ℤ) [ true ↦ Some (integer_of s) | false ↦ None ] ≡ Some z → (v ≡ true) × (integer_of s ≡ z) × (number s ≡ some z)
      go true w k =
          let q : integer_of s ≡ z = cc in
          (refl, q, within_number s low high w ∙ ap some q)
      go false w k = absurd (let q : ◌≡◌ {A = ℕ} 0 1 = cc in omega arith)

  pub integer_denied : integer_in s low high ≡ None → within low high s ≡ false
  unfolding integer_in
  integer_denied e = go (within low high s) e
    where
      go : (v : Bool) → elim v as (λ x. P.Option ℤ) [ true ↦ Some (integer_of s) | false ↦ None ] ≡ None → v ≡ false
      go true k = absurd (let q : ◌≡◌ {A = ℕ} 0 1 = cc in omega arith)
      go false k = refl

module _ (s : List ℕ) (high : ℕ) where
  pub natural_said : (n : ℕ) → natural_in s high ≡ Some n → (within (pos 0) (pos high) s ≡ true) × (natural_of s ≡ n)
  unfolding natural_in
  natural_said n e = go (within (pos 0) (pos high) s) e
    where
      go : (v : Bool) → elim v as (λ x. P.Option ℕ) [ true ↦ Some (natural_of s) | false ↦ None ] ≡ Some n → (v ≡ true) × (natural_of s ≡ n)
      go true k = (refl, cc)
      go false k = absurd (let q : ◌≡◌ {A = ℕ} 0 1 = cc in omega arith)

  pub natural_denied : natural_in s high ≡ None → within (pos 0) (pos high) s ≡ false
  unfolding natural_in
  natural_denied e = go (within (pos 0) (pos high) s) e
    where
      go : (v : Bool) → elim v as (λ x. P.Option ℕ) [ true ↦ Some (natural_of s) | false ↦ None ] ≡ None → v ≡ false
      go true k = absurd (let q : ◌≡◌ {A = ℕ} 0 1 = cc in omega arith)
      go false k = refl
