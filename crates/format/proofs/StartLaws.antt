-- The P of an `ini` among the tokens of a composition: where it ends, and what is outside of it.
use Prim.Native.Nat.{ℕ, zero, suc, ◌+◌, ◌≤◌, ◌<◌}
use mathlib.Core.Path.{◌≡◌, refl, sym, ◌∙◌, ap, subst}
use mathlib.Core.Bool.{true, false, ◌&&◌, and_assoc}
use mathlib.Core.List.{List, [], ◌∷◌, ◌++◌, flat_map}
use native.Mathlib.Omega.{arith}
use borrow.Author.Tests.{leb-true, ne_eqb}
use lib.ListN.{length}
use lib.IntN.{ℤ, pos, negsuc}
use Rattle.model.specs.Basic.{every, same}
use Rattle.model.specs.Bounds.{max_operands}
use Rattle.model.specs.Limits.{in_range}
use Rattle.model.specs.Predicate as P
use Rattle.model.specs.Predicate.{Pred, Preds, Expr, all, any, negate, imp, eq, le, more, num, old, new, add, sub, mul, choose, operands, Word, words, words_all, words_of, all_of, any_of}
use Rattle.model.proofs.Tests.{and_left, and_right, every_append}
use Rattle.model.proofs.Lists.{flat_append}
use Rattle.format.specs.Bytes.{Bytes, bytes, 'n, 'v}
use Rattle.format.specs.Number.{decimal, signed}
use Rattle.format.specs.Spelling.{spelled}
use Rattle.format.specs.Tokens.{sounds, find, calls, calls_for, start_tokens, starts_in, outside}
use Rattle.format.proofs.BytesLaws.{differ_first}
use Rattle.format.proofs.NumberLaws.{leading}
use Rattle.format.proofs.TokenLaws.{Plain, plain_by, plain_decimal, plain_signed, plain_letter_n, plain_letter_v, within_decimal, count_decimal, sounds_step}

-- Tokens that a P takes, one after the other: with n wanted after the token b, they leave m wanted, and c is the last.
pub data Eats : List Bytes → (n : ℕ) (b : Bytes) (m : ℕ) (c : Bytes) → Type 0 where
  stop : {n : ℕ} {b : Bytes} → Eats [] n b n b
  eat : {t : Bytes} {ts : List Bytes} {n m : ℕ} {b c : Bytes} (k : ℕ) → calls_for b t + n ≡ k → Eats ts k t m c → Eats (t ∷ ts) (suc n) b m c

eats_both : {xs ys : List Bytes} {n m k : ℕ} {b c d : Bytes} → Eats xs n b m c → Eats ys m c k d → Eats (xs ++ ys) n b k d
eats_both stop h = h
eats_both (eat i e g) h = eat i e (eats_both g h)

-- so P's tokens go on with them, and what is outside, and the P's that come later, do not see them
pub eats_tokens : {xs : List Bytes} {n m : ℕ} {b c : Bytes} → Eats xs n b m c → (ts : List Bytes) → start_tokens n b (xs ++ ts) ≡ xs ++ start_tokens m c ts
unfolding start_tokens
eats_tokens stop ts = refl
eats_tokens (eat {t = t} {ts = xs} k e g) ts = ap (λ i. t ∷ start_tokens i t (xs ++ ts)) e ∙ ap (λ l. t ∷ l) (eats_tokens g ts)

pub eats_starts : {xs : List Bytes} {n m : ℕ} {b c : Bytes} → Eats xs n b m c → (ts : List Bytes) → starts_in n b (xs ++ ts) ≡ starts_in m c ts
unfolding starts_in
eats_starts stop ts = refl
eats_starts (eat {t = t} {ts = xs} k e g) ts = ap (λ i. starts_in i t (xs ++ ts)) e ∙ eats_starts g ts

pub eats_outside : {xs : List Bytes} {n m : ℕ} {b c : Bytes} → Eats xs n b m c → (ts : List Bytes) → outside n b (xs ++ ts) ≡ outside m c ts
unfolding outside
eats_outside stop ts = refl
eats_outside (eat {t = t} {ts = xs} k e g) ts = ap (λ i. outside i t (xs ++ ts)) e ∙ eats_outside g ts

-- the last of some tokens, after b
abbrev pub last_of : Bytes → List Bytes → Bytes
last_of b [] = b
last_of b (t ∷ ts) = last_of t ts

eats_last : {xs : List Bytes} {n m : ℕ} {b c : Bytes} → Eats xs n b m c → c ≡ last_of b xs
eats_last stop = refl
eats_last (eat k e g) = eats_last g

-- numbers are judged token by token
pub sounds_both : (xs ts : List Bytes) (b : Bytes) → sounds b (xs ++ ts) ≡ sounds b xs && sounds (last_of b xs) ts
sounds_both [] ts b = unfold sounds in refl
sounds_both (x ∷ xs) ts b = sounds_step b x (xs ++ ts) ∙ rw (sounds_both xs ts x, sounds_step b x xs, and_assoc)

-- What a token calls for, after a token that is neither `all` nor `any`.
calls_plain : (b t : Bytes) → Plain b → calls_for b t ≡ find 0 calls t
unfolding calls_for
calls_plain b t p = rw (p.no_all, p.no_any, calls_for)

-- a number calls for none: every word begins with a letter
abbrev Lettered : List (Bytes × ℕ) → Type 0
Lettered [] = Unit
Lettered (w ∷ ws) = (c : ℕ) × (s : Bytes) × (w.0 ≡ c ∷ s) × (97 ≤ c) × Lettered ws

lettered : Lettered calls
lettered = (
  _,
  _,
  refl,
  omega arith,
  (
    _,
    _,
    refl,
    omega arith,
    (
      _,
      _,
      refl,
      omega arith,
      (
        _,
        _,
        refl,
        omega arith,
        (
          _,
          _,
          refl,
          omega arith,
          (_, _, refl, omega arith, (_, _, refl, omega arith, (_, _, refl, omega arith, (_, _, refl, omega arith, (_, _, refl, omega arith, tt))))),
        ),
      ),
    ),
  ),
)

find_low : (ws : List (Bytes × ℕ)) → Lettered ws → (b : ℕ) (t : Bytes) → b < 97 → find 0 ws (b ∷ t) ≡ 0
unfolding find
find_low [] h b t l = refl
find_low (w ∷ ws) h b t l =
    let high = h.3 in
    let e : same w.0 (b ∷ t) ≡ false = ap (λ u. same u (b ∷ t)) h.2 ∙ differ_first h.0 b h.1 t (λ e. omega arith) in
    rw (e, find) (find_low ws h.4 b t l)

calls_decimal : (n : ℕ) → find 0 calls (decimal n) ≡ 0
calls_decimal n =
    let l = leading n in
    let high = l.high in
    rw l.whole (find_low calls lettered l.first l.rest (omega arith))

calls_signed : (z : ℤ) → find 0 calls (signed z) ≡ 0
unfolding signed
calls_signed (pos n) = calls_decimal n
calls_signed (negsuc n) = find_low calls lettered 45 (decimal (suc n)) (omega arith)

calls_old : (n : ℕ) → find 0 calls ('v ∷ decimal n) ≡ 0
unfolding find same
calls_old n = refl

calls_new : (n : ℕ) → find 0 calls ('n ∷ decimal n) ≡ 0
unfolding find same
calls_new n =
    let l = leading n in
    let high = l.high in
    rw (l.whole, ne_eqb 111 l.first (λ e. omega arith), same, find)

-- tokens that a P takes, up to one before which a number is judged by itself
pub record Passes (xs : List Bytes) (n : ℕ) (b : Bytes) (m : ℕ) : Type 0 where
  pub last : Bytes
  pub plain : Plain last
  pub eats : Eats xs n b m last

passes_none : (n : ℕ) (b : Bytes) → Plain b → Passes [] n b n
passes_none n b p = record { last = b; plain = p; eats = stop }

passes_one : (t : Bytes) (xs : List Bytes) (k n m : ℕ) (b : Bytes) → Plain b → find 0 calls t ≡ k → Passes xs (k + n) t m → Passes (t ∷ xs) (suc n) b m
passes_one t xs k n m b p e h = record { last = h.last; plain = h.plain; eats = eat (k + n) (ap (λ i. i + n) (calls_plain b t p ∙ e)) h.eats }

passes_both : (xs ys : List Bytes) (n m k : ℕ) (b : Bytes) → Passes xs n b m → ((c : Bytes) → Plain c → Passes ys m c k) → Passes (xs ++ ys) n b k
passes_both xs ys n m k b h f =
    let g = f h.last h.plain in
    record { last = g.last; plain = g.plain; eats = eats_both h.eats g.eats }

-- an `all` or `any`: the K calls for K
calls_all : (k : ℕ) → k ≤ max_operands → calls_for (bytes "all") (decimal k) ≡ k
unfolding calls_for same
calls_all k l = rw (within_decimal max_operands k l, calls_for) (count_decimal k)

calls_any : (k : ℕ) → k ≤ max_operands → calls_for (bytes "any") (decimal k) ≡ k
unfolding calls_for same
calls_any k l = rw (within_decimal max_operands k l, calls_for) (count_decimal k)

passes_count : (w : Bytes) (k n : ℕ) (xs : List Bytes) (b : Bytes) → Plain b → find 0 calls w ≡ 1 → calls_for w (decimal k) ≡ k → Passes xs (k + n) (decimal k) n → Passes (w ∷ decimal k ∷ xs) (suc n) b n
passes_count w k n xs b p one e h =
    let up : 1 + n ≡ suc n = omega arith in
    record { last = h.last; plain = h.plain; eats = eat (suc n) (ap (λ j. j + n) (calls_plain b w p ∙ one) ∙ up) (eat (k + n) (ap (λ j. j + n) e) h.eats) }

-- two operands
two : (a b : List Word) (n : ℕ) (c : Bytes) → Passes (flat_map spelled a) (suc (suc n)) c (suc n) → ((d : Bytes) → Plain d → Passes (flat_map spelled b) (suc n) d n) → Passes (flat_map spelled (a ++ b)) (suc (suc n)) c n
two a b n c g h = rw (flat_append spelled a b) (passes_both (flat_map spelled a) (flat_map spelled b) (suc (suc n)) (suc n) n c g h)

both_ranged : (a b : List Word) → every in_range (a ++ b) ≡ true → (every in_range a ≡ true) × (every in_range b ≡ true)
both_ranged a b h =
    let g = sym (every_append in_range a b) ∙ h in
    (and_left (every in_range a) (every in_range b) g, and_right (every in_range a) (every in_range b) g)

none_more : (n : ℕ) → 0 + n ≡ n
none_more n = omega arith

one_more_lem : (n : ℕ) → 1 + n ≡ suc n
one_more_lem n = omega arith

two_more : (n : ℕ) → 2 + n ≡ suc (suc n)
two_more n = omega arith

three_more : (n : ℕ) → 3 + n ≡ suc (suc (suc n))
three_more n = omega arith

first_more : (k n : ℕ) → suc k + n ≡ suc (k + n)
first_more k n = omega arith

-- The words of a predicate are exactly what is wanted where one is.
mutual
  unfolding words words_all words_of every in_range flat_map spelled operands find same

  pub pred_passes : (p : Pred) (n : ℕ) (b : Bytes) → Plain b → every in_range (words p) ≡ true → Passes (flat_map spelled (words p)) (suc n) b n
  pred_passes (all ps) n b q h =
      let k = operands ps in
      let l = leb-true k max_operands (and_left (in_range (all_of k)) _ h) in
      passes_count (bytes "all") k n (flat_map spelled (words_all ps)) b q refl (calls_all k l) (preds_pass ps n (decimal k) (plain_decimal k) (and_right (in_range (all_of k)) _ h))
  pred_passes (any ps) n b q h =
      let k = operands ps in
      let l = leb-true k max_operands (and_left (in_range (any_of k)) _ h) in
      passes_count (bytes "any") k n (flat_map spelled (words_all ps)) b q refl (calls_any k l) (preds_pass ps n (decimal k) (plain_decimal k) (and_right (in_range (any_of k)) _ h))
  pred_passes (negate p) n b q h =
      let w = plain_by (bytes "not") refl refl refl in
      passes_one (bytes "not") _ 1 n n b q refl (rw (one_more_lem n) (pred_passes p n (bytes "not") w h))
  pred_passes (imp x y) n b q h =
      let w = plain_by (bytes "imp") refl refl refl in
      let g = both_ranged (words x) (words y) h in
      passes_one (bytes "imp") _ 2 n n b q refl (rw (two_more n) (two (words x) (words y) n (bytes "imp") (pred_passes x (suc n) (bytes "imp") w g.0) (λ d p. pred_passes y n d p g.1)))
  pred_passes (eq x y) n b q h =
      let w = plain_by (bytes "eq") refl refl refl in
      let g = both_ranged (words_of x) (words_of y) h in
      passes_one (bytes "eq") _ 2 n n b q refl (rw (two_more n) (two (words_of x) (words_of y) n (bytes "eq") (expr_passes x (suc n) (bytes "eq") w g.0) (λ d p. expr_passes y n d p g.1)))
  pred_passes (le x y) n b q h =
      let w = plain_by (bytes "le") refl refl refl in
      let g = both_ranged (words_of x) (words_of y) h in
      passes_one (bytes "le") _ 2 n n b q refl (rw (two_more n) (two (words_of x) (words_of y) n (bytes "le") (expr_passes x (suc n) (bytes "le") w g.0) (λ d p. expr_passes y n d p g.1)))

  preds_pass : (ps : Preds) (n : ℕ) (b : Bytes) → Plain b → every in_range (words_all ps) ≡ true → Passes (flat_map spelled (words_all ps)) (operands ps + n) b n
  preds_pass P.none n b q h = rw (none_more n) (passes_none n b q)
  preds_pass (more p ps) n b q h =
      let g = both_ranged (words p) (words_all ps) h in
      rw (flat_append spelled (words p) (words_all ps), first_more (operands ps) n)
      (passes_both (flat_map spelled (words p)) (flat_map spelled (words_all ps)) (suc (operands ps + n)) (operands ps + n) n b (pred_passes p (operands ps + n) b q g.0) (λ d r. preds_pass ps n d r g.1))

  expr_passes : (x : Expr) (n : ℕ) (b : Bytes) → Plain b → every in_range (words_of x) ≡ true → Passes (flat_map spelled (words_of x)) (suc n) b n
  expr_passes (num z) n b q h = passes_one (signed z) [] 0 n n b q (calls_signed z) (rw (none_more n) (passes_none n (signed z) (plain_signed z)))
  expr_passes (old k) n b q h = passes_one ('v ∷ decimal k) [] 0 n n b q (calls_old k) (rw (none_more n) (passes_none n ('v ∷ decimal k) (plain_letter_v (decimal k))))
  expr_passes (new k) n b q h = passes_one ('n ∷ decimal k) [] 0 n n b q (calls_new k) (rw (none_more n) (passes_none n ('n ∷ decimal k) (plain_letter_n (decimal k))))
  expr_passes (add x y) n b q h =
      let w = plain_by (bytes "add") refl refl refl in
      let g = both_ranged (words_of x) (words_of y) h in
      passes_one (bytes "add") _ 2 n n b q refl (rw (two_more n) (two (words_of x) (words_of y) n (bytes "add") (expr_passes x (suc n) (bytes "add") w g.0) (λ d p. expr_passes y n d p g.1)))
  expr_passes (sub x y) n b q h =
      let w = plain_by (bytes "sub") refl refl refl in
      let g = both_ranged (words_of x) (words_of y) h in
      passes_one (bytes "sub") _ 2 n n b q refl (rw (two_more n) (two (words_of x) (words_of y) n (bytes "sub") (expr_passes x (suc n) (bytes "sub") w g.0) (λ d p. expr_passes y n d p g.1)))
  expr_passes (mul x y) n b q h =
      let w = plain_by (bytes "mul") refl refl refl in
      let g = both_ranged (words_of x) (words_of y) h in
      passes_one (bytes "mul") _ 2 n n b q refl (rw (two_more n) (two (words_of x) (words_of y) n (bytes "mul") (expr_passes x (suc n) (bytes "mul") w g.0) (λ d p. expr_passes y n d p g.1)))
  expr_passes (choose c x y) n b q h =
      let w = plain_by (bytes "if") refl refl refl in
      let g = both_ranged (words c) (words_of x ++ words_of y) h in
      let k = both_ranged (words_of x) (words_of y) g.1 in
      passes_one (bytes "if") _ 3 n n b q refl
      (rw (three_more n, flat_append spelled (words c) (words_of x ++ words_of y))
      (passes_both (flat_map spelled (words c)) (flat_map spelled (words_of x ++ words_of y)) (suc (suc (suc n))) (suc (suc n)) n (bytes "if")
      (pred_passes c (suc (suc n)) (bytes "if") w g.0)
      (λ d p. two (words_of x) (words_of y) n d (expr_passes x (suc n) d p k.0) (λ e r. expr_passes y n e r k.1))))

-- after them a number is judged by itself
pub plain_after : (p : Pred) (b : Bytes) → Plain b → every in_range (words p) ≡ true → Plain (last_of b (flat_map spelled (words p)))
plain_after p b q h = let e = pred_passes p 0 b q h in subst Plain (eats_last e.eats) e.plain

-- The other way: whatever tokens follow an `ini`, they are its P's and the rest.
unfoldable pub trailing : (wanted : ℕ) (before : Bytes) → List Bytes → List Bytes
trailing wanted b [] = []
trailing zero b (t ∷ ts) = t ∷ ts
trailing (suc n) b (t ∷ ts) = trailing (calls_for b t + n) t ts

pub tokens_split : (ts : List Bytes) (n : ℕ) (b : Bytes) → ts ≡ start_tokens n b ts ++ trailing n b ts
unfolding start_tokens trailing
tokens_split [] n b = refl
tokens_split (t ∷ ts) zero b = refl
tokens_split (t ∷ ts) (suc n) b = ap (λ l. t ∷ l) (tokens_split ts (calls_for b t + n) t)

pub trailing_short : (ts : List Bytes) (n : ℕ) (b : Bytes) → length (trailing n b ts) ≤ length ts
unfolding trailing
trailing_short [] n b = omega arith
trailing_short (t ∷ ts) zero b = omega arith
trailing_short (t ∷ ts) (suc n) b = let l = trailing_short ts (calls_for b t + n) t in omega arith

-- where none is wanted, no token is P's
pub none_wanted : (b : Bytes) (ts : List Bytes) → start_tokens 0 b ts ≡ []
unfolding start_tokens
none_wanted b [] = refl
none_wanted b (t ∷ ts) = refl

-- outside of a P the token before plays no part
pub starts_anywhere : (ts : List Bytes) (b c : Bytes) → starts_in 0 b ts ≡ starts_in 0 c ts
unfolding starts_in
starts_anywhere [] b c = refl
starts_anywhere (t ∷ ts) b c = refl

pub outside_anywhere : (ts : List Bytes) (b c : Bytes) → outside 0 b ts ≡ outside 0 c ts
unfolding outside
outside_anywhere [] b c = refl
outside_anywhere (t ∷ ts) b c = refl

pub starts_later : (ts : List Bytes) (n : ℕ) (b c : Bytes) → starts_in n b ts ≡ starts_in 0 c (trailing n b ts)
unfolding starts_in trailing
starts_later [] n b c = refl
starts_later (t ∷ ts) zero b c = refl
starts_later (t ∷ ts) (suc n) b c = starts_later ts (calls_for b t + n) t c

pub outside_later : (ts : List Bytes) (n : ℕ) (b c : Bytes) → outside n b ts ≡ outside 0 c (trailing n b ts)
unfolding outside trailing
outside_later [] n b c = refl
outside_later (t ∷ ts) zero b c = refl
outside_later (t ∷ ts) (suc n) b c = outside_later ts (calls_for b t + n) t c
