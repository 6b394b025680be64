-- Printing a number and reading it are inverse.
use Prim.Native.Nat.{ℕ, zero, suc, ◌+◌, ◌-◌, ◌*◌, ◌/◌, ◌%◌, ◌≤◌, ◌<◌}
use mathlib.Core.Path.{◌≡◌, refl, sym, ◌∙◌, ap}
use mathlib.Core.Bool.{Bool, true, false, ◌&&◌, true≢false}
use mathlib.Core.List.{[], ◌∷◌, ◌++◌, append_assoc, append-nil}
use mathlib.Core.Logic.{◌⊎◌, inl, inr, ⊎_elim}
use mathlib.Core.Option.{Option, none, some}
use native.Mathlib.Omega.{arith}
use native.Mathlib.Decide.{dec_lt}
use borrow.Author.Tests.{leb-true, eqb-true, eqb-false, lt-ltb, le-ltb, le-leb, ne_eqb}
use lib.Dec.{eqb, leb}
use lib.IntN.{ℤ, pos, negsuc}
use Rattle.model.proofs.Parsing.{got, none_some}
use Rattle.format.specs.Bytes.{Bytes, minus}
use Rattle.format.specs.Number.{decimal, decimal_in, digit, digits, natural, negative, number, unsigned, signed}

pub false_true : false ≡ true → ⊥
false_true h = true≢false (sym h)

-- n is below m, or not
pub split : (n m : ℕ) → (n < m) ⊎ (m ≤ n)
split n m = go (dec_lt n m)
  where
    go : Dec (n < m) → (n < m) ⊎ (m ≤ n)
    go (yes h) = inl h
    go (no h) = inr (omega arith)

-- digits
pub is_digit : (b : ℕ) → 48 ≤ b → b ≤ 57 → digit b ≡ true
unfolding digit
is_digit b h l = rw (le-leb 48 b h, le-leb b 57 l)

pub digit_is : (b : ℕ) → digit b ≡ true → (48 ≤ b) × (b ≤ 57)
unfolding digit
digit_is b e = go (leb 48 b) refl e
  where
    go : (t : Bool) → leb 48 b ≡ t → t && leb b 57 ≡ true → (48 ≤ b) × (b ≤ 57)
    go true h k = (leb-true 48 b h, leb-true b 57 k)
    go false h k = absurd (false_true k)

digits_yes : (n b : ℕ) (t : Bytes) → digit b ≡ true → digits n (b ∷ t) ≡ digits (n * 10 + (b - 48)) t
unfolding digits
digits_yes n b t h = rw (h, digits)

digits_inv : (n b m : ℕ) (t : Bytes) → digits n (b ∷ t) ≡ some m → (digit b ≡ true) × (digits (n * 10 + (b - 48)) t ≡ some m)
unfolding digits
digits_inv n b m t e = go (digit b) refl e
  where
    go : (c : Bool) → digit b ≡ c → elim c [ true ↦ digits (n * 10 + (b - 48)) t | false ↦ none ] ≡ some m → (digit b ≡ true) × (digits (n * 10 + (b - 48)) t ≡ some m)
    go true h k = (h, k)
    go false h k = absurd (none_some m k)

digits_append : (n m : ℕ) (s t : Bytes) → digits n s ≡ some m → digits n (s ++ t) ≡ digits m t
digits_append n m [] t e = unfold digits in ap (λ k. digits k t) (got n m e)
digits_append n m (b ∷ s) t e =
    let h = digits_inv n b m s e in
    digits_yes n b (s ++ t) h.0 ∙ digits_append (n * 10 + (b - 48)) m s t h.1

digits_one : (n d : ℕ) → d < 10 → digits n ((48 + d) ∷ []) ≡ some (n * 10 + d)
unfolding digits
digits_one n d h =
    digits_yes n (48 + d) [] (is_digit (48 + d) (omega arith) (omega arith)) ∙ ap some (omega arith)

-- printing
decimal_in_small : (k n : ℕ) → n < 10 → decimal_in (suc k) n ≡ (48 + n) ∷ []
unfolding decimal_in
decimal_in_small k n h = rw (lt-ltb n 10 h, decimal_in)

decimal_in_step : (k n : ℕ) → 10 ≤ n → decimal_in (suc k) n ≡ decimal_in k (n / 10) ++ (48 + n % 10) ∷ []
unfolding decimal_in
decimal_in_step k n h = rw (le-ltb n 10 h, decimal_in)

-- fuel does not matter
more_fuel : (k j n : ℕ) → n < k → n < j → decimal_in k n ≡ decimal_in j n
more_fuel zero j n h l = absurd (omega arith)
more_fuel (suc k) zero n h l = absurd (omega arith)
more_fuel (suc k) (suc j) n h l =
    ⊎_elim
    (λ (u : n < 10). decimal_in_small k n u ∙ sym (decimal_in_small j n u))
    (λ (u : 10 ≤ n).
    decimal_in_step k n u ∙ ap (λ l. l ++ (48 + n % 10) ∷ []) (more_fuel k j (n / 10) (omega arith) (omega arith)) ∙ sym (decimal_in_step j n u))
    (split n 10)

pub decimal_small : (n : ℕ) → n < 10 → decimal n ≡ (48 + n) ∷ []
unfolding decimal
decimal_small n h = decimal_in_small n n h

pub decimal_step : (n : ℕ) → 10 ≤ n → decimal n ≡ decimal (n / 10) ++ (48 + n % 10) ∷ []
unfolding decimal
decimal_step n h = decimal_in_step n n h ∙ ap (λ l. l ++ (48 + n % 10) ∷ []) (more_fuel n (suc (n / 10)) (n / 10) (omega arith) (omega arith))

-- what is printed is read: a decimal's digits give its number
read_decimal : (k n : ℕ) → n < k → digits 0 (decimal n) ≡ some n
read_decimal zero n h = absurd (omega arith)
read_decimal (suc k) n h =
    ⊎_elim
    (λ (u : n < 10). rw (decimal_small n u) (digits_one 0 n u ∙ ap some (omega arith)))
    (λ (u : 10 ≤ n).
    rw (decimal_step n u)
    (digits_append 0 (n / 10) (decimal (n / 10)) ((48 + n % 10) ∷ []) (read_decimal k (n / 10) (omega arith)) ∙
    digits_one (n / 10) (n % 10) (omega arith) ∙ ap some (omega arith)))
    (split n 10)

-- the first digit, and no leading zero: a decimal is a digit and more, and the digit is 0 only where the number is
pub record Led (n : ℕ) : Type 0 where
  pub first : ℕ
  pub rest : Bytes
  pub whole : decimal n ≡ first ∷ rest
  pub low : 48 ≤ first
  pub high : first ≤ 57
  pub plain : 0 < n → 49 ≤ first

led : (k n : ℕ) → n < k → Led n
led zero n h = absurd (omega arith)
led (suc k) n h =
    ⊎_elim
    (λ (u : n < 10). record { first = 48 + n; rest = []; whole = decimal_small n u; low = omega arith; high = omega arith; plain = λ v. omega arith })
    (λ (u : 10 ≤ n).
    let i = led k (n / 10) (omega arith) in
    record {
      first = i.first;
      rest = i.rest ++ (48 + n % 10) ∷ [];
      whole = decimal_step n u ∙ ap (λ l. l ++ (48 + n % 10) ∷ []) i.whole;
      low = i.low;
      high = i.high;
      plain = λ v. i.plain (omega arith);
    })
    (split n 10)

pub leading : (n : ℕ) → Led n
leading n = led (suc n) n (omega arith)

natural_first : (b : ℕ) (t : Bytes) → 49 ≤ b → natural (b ∷ t) ≡ digits 0 (b ∷ t)
unfolding natural
natural_first b [] h = refl
natural_first b (c ∷ t) h = rw (ne_eqb b 48 (omega arith), natural)

-- a number's decimal is read as the number
pub natural_decimal : (n : ℕ) → natural (decimal n) ≡ some n
natural_decimal zero = unfold natural in rw (decimal_small 0 (omega arith)) (digits_one 0 0 (omega arith))
natural_decimal (suc n) =
    let l = leading (suc n) in
    ap natural l.whole ∙ natural_first l.first l.rest (l.plain (omega arith)) ∙ ap (digits 0) (sym l.whole) ∙ read_decimal (suc (suc n)) (suc n) (omega arith)

-- what is read is printed: digits that go on from m are those of the decimals of m and of the result
print_digits : (s : Bytes) (m n : ℕ) → 0 < m → digits m s ≡ some n → decimal n ≡ decimal m ++ s
unfolding digits
print_digits [] m n h e = rw (append-nil, got m n e)
print_digits (b ∷ s) m n h e =
    let d = digits_inv m b n s e in
    let r = digit_is b d.0 in
    let i = print_digits s (m * 10 + (b - 48)) n (omega arith) d.1 in
    let x : (m * 10 + (b - 48)) / 10 ≡ m = omega arith in
    let y : 48 + (m * 10 + (b - 48)) % 10 ≡ b = omega arith in
    i ∙ rw (decimal_step (m * 10 + (b - 48)) (omega arith), x, y) (append_assoc (decimal m) (b ∷ []) s)

print_first : (b : ℕ) (s : Bytes) (n : ℕ) → (b ≡ 48 → ⊥) → digits 0 (b ∷ s) ≡ some n → b ∷ s ≡ decimal n
print_first b s n h e =
    let d = digits_inv 0 b n s e in
    let r = digit_is b d.0 in
    let y : 48 + (0 * 10 + (b - 48)) ≡ b = omega arith in
    sym (print_digits s (0 * 10 + (b - 48)) n (omega arith) d.1 ∙ rw (decimal_small (0 * 10 + (b - 48)) (omega arith), y))

-- nothing but its decimal is read as a number
pub decimal_natural : (s : Bytes) (n : ℕ) → natural s ≡ some n → s ≡ decimal n
unfolding natural
decimal_natural [] n e = absurd (none_some n e)
decimal_natural (b ∷ []) n e =
    let d = digits_inv 0 b n [] e in
    let r = digit_is b d.0 in
    let x : 0 * 10 + (b - 48) ≡ n = unfold digits in got _ _ d.1 in
    let y : 48 + n ≡ b = omega arith in
    sym (decimal_small n (omega arith) ∙ ap (λ c. c ∷ []) y)
decimal_natural (b ∷ c ∷ t) n e = go (eqb b 48) refl e
  where
    go : (v : Bool) → eqb b 48 ≡ v → elim v [ true ↦ none | false ↦ digits 0 (b ∷ c ∷ t) ] ≡ some n → b ∷ c ∷ t ≡ decimal n
    go true h k = absurd (none_some n k)
    go false h k = print_first b (c ∷ t) n (eqb-false b 48 h) k

-- with the sign
number_plain : (b : ℕ) (t : Bytes) → 46 ≤ b → number (b ∷ t) ≡ unsigned (natural (b ∷ t))
unfolding number
number_plain b t h = rw (ne_eqb b 45 (omega arith), number)

positive_some : (n : ℕ) → unsigned (some n) ≡ some (pos n)
unfolding unsigned
positive_some n = refl

-- a number with its sign is read as the number
pub number_signed : (z : ℤ) → number (signed z) ≡ some z
unfolding signed
number_signed (pos n) =
    let l = leading n in
    let f : 48 ≤ l.first = l.low in
    ap number l.whole ∙ number_plain l.first l.rest (omega arith) ∙ ap (λ s. unsigned (natural s)) (sym l.whole) ∙ ap unsigned (natural_decimal n) ∙ positive_some n
number_signed (negsuc n) = unfold number negative in rw (natural_decimal (suc n))

positive_inv : (o : Option ℕ) (z : ℤ) → unsigned o ≡ some z → (n : ℕ) × (o ≡ some n) × (pos n ≡ z)
unfolding unsigned
positive_inv none z e = absurd (none_some z e)
positive_inv (some n) z e = (n, refl, got _ _ e)

negative_inv : (o : Option ℕ) (z : ℤ) → negative o ≡ some z → (n : ℕ) × (o ≡ some (suc n)) × (negsuc n ≡ z)
unfolding negative
negative_inv none z e = absurd (none_some z e)
negative_inv (some zero) z e = absurd (none_some z e)
negative_inv (some (suc n)) z e = (n, refl, got _ _ e)

-- and nothing else is
pub signed_number : (s : Bytes) (z : ℤ) → number s ≡ some z → s ≡ signed z
unfolding number signed
signed_number [] z e = absurd (none_some z e)
signed_number (b ∷ t) z e = go (eqb b 45) refl e
  where
    go : (v : Bool) → eqb b 45 ≡ v → elim v [ true ↦ negative (natural t) | false ↦ unsigned (natural (b ∷ t)) ] ≡ some z → b ∷ t ≡ signed z
    go true h k =
        let i = negative_inv (natural t) z k in
        ap (λ c. c ∷ t) (eqb-true b 45 h) ∙ ap (λ u. minus ∷ u) (decimal_natural t (suc i.0) i.1) ∙ ap signed i.2
    go false h k =
        let i = positive_inv (natural (b ∷ t)) z k in
        decimal_natural (b ∷ t) i.0 i.1 ∙ ap signed i.2
