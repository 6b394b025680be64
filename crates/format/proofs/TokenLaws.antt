-- Tokens and words are one to one.
use Prim.Native.Nat.{ℕ, suc, ◌≤◌, ◌<◌}
use mathlib.Core.Path.{◌≡◌, refl, ◌∙◌, ap}
use mathlib.Core.Bool.{Bool, true, false, ◌&&◌}
use mathlib.Core.List.{List, [], ◌∷◌, flat_map}
use native.Mathlib.Omega.{arith}
use borrow.Author.Tests.{leb-true, le-leb}
use lib.IntN.{ℤ, pos, negsuc}
use Rattle.model.specs.Basic.{between, every, or_else, same}
use Rattle.model.specs.Bounds.{greatest_number, last_variable, least_number, max_operands}
use Rattle.model.specs.Limits.{in_range}
use Rattle.model.specs.Predicate.{Word, add_word, all_of, any_of, eq_word, if_word, imp_word, le_word, mul_word, new_word, not_word, num_word, old_word, stray, sub_word}
use Rattle.model.proofs.Tests.{and_intro, and_left, and_right}
use Rattle.format.specs.Bytes.{'n, 'v, Bytes, bytes, minus}
use Rattle.format.specs.Number.{natural_of, decimal, digit, integer_of, is_between, signed, within}
use Rattle.format.specs.Spelling.{spelled}
use Rattle.format.specs.Tokens.{bare, counted, find, number_sound, last_after, lettered, numeral, read_words, sound, sounds, spellings, unjudged, variable_word, word}
use Rattle.format.proofs.BytesLaws.{Free, differ_first}
use Rattle.format.proofs.NumberLaws.{false_true, is_digit, leading, natural_decimal, number_signed}

-- a token before which nothing special is judged
pub record Plain (t : Bytes) : Type 0 where
  pub no_all : same t (bytes "all") ≡ false
  pub no_any : same t (bytes "any") ≡ false
  pub no_syn : same t (bytes "syn") ≡ false

pub plain_first : (b : ℕ) (t : Bytes) → b < 97 → Plain (b ∷ t)
plain_first b t h =
    record {
      no_all = differ_first b 97 t (108 ∷ 108 ∷ []) (λ e. omega arith);
      no_any = differ_first b 97 t (110 ∷ 121 ∷ []) (λ e. omega arith);
      no_syn = differ_first b 115 t (121 ∷ 110 ∷ []) (λ e. omega arith);
    }

-- numerals
pub numeral_digit : (b : ℕ) (t : Bytes) → 48 ≤ b → b ≤ 57 → numeral (b ∷ t) ≡ bare (b ∷ t)
unfolding numeral
numeral_digit b [] h l = rw (is_digit b h l, numeral)
numeral_digit b (c ∷ t) h l = rw (is_digit b h l, numeral)

numeral_minus : (t : Bytes) → numeral (minus ∷ t) ≡ bare (minus ∷ t)
unfolding numeral digit
numeral_minus [] = refl
numeral_minus (c ∷ t) = refl

numeral_decimal : (n : ℕ) → numeral (decimal n) ≡ bare (decimal n)
numeral_decimal n = let l = leading n in rw l.whole (numeral_digit l.first l.rest l.low l.high)

numeral_signed : (z : ℤ) → numeral (signed z) ≡ bare (signed z)
unfolding signed
numeral_signed (pos n) = numeral_decimal n
numeral_signed (negsuc n) = numeral_minus (decimal (suc n))

numeral_v : (c : ℕ) (t : Bytes) → digit c ≡ true → numeral ('v ∷ c ∷ t) ≡ lettered 'v (c ∷ t)
unfolding numeral digit
numeral_v c t h = rw (h, numeral)

numeral_n : (c : ℕ) (t : Bytes) → digit c ≡ true → numeral ('n ∷ c ∷ t) ≡ lettered 'n (c ∷ t)
unfolding numeral digit
numeral_n c t h = rw (h, numeral)

numeral_old : (n : ℕ) → numeral ('v ∷ decimal n) ≡ lettered 'v (decimal n)
numeral_old n =
    let l = leading n in
    rw l.whole (numeral_v l.first l.rest (is_digit l.first l.low l.high))

numeral_new : (n : ℕ) → numeral ('n ∷ decimal n) ≡ lettered 'n (decimal n)
numeral_new n =
    let l = leading n in
    rw l.whole (numeral_n l.first l.rest (is_digit l.first l.low l.high))

pub plain_decimal : (n : ℕ) → Plain (decimal n)
plain_decimal n =
    let l = leading n in
    let h : l.first ≤ 57 = l.high in
    rw l.whole (plain_first l.first l.rest (omega arith))

pub plain_signed : (z : ℤ) → Plain (signed z)
unfolding signed
plain_signed (pos n) = plain_decimal n
plain_signed (negsuc n) = plain_first 45 (decimal (suc n)) (omega arith)

pub plain_letter_v : (t : Bytes) → Plain ('v ∷ t)
unfolding same
plain_letter_v t = record { no_all = refl; no_any = refl; no_syn = refl }

pub plain_letter_n : (t : Bytes) → Plain ('n ∷ t)
unfolding same
plain_letter_n t = record { no_all = refl; no_any = refl; no_syn = refl }

-- numbers in range
pub within_signed : (lo hi z : ℤ) → within lo hi (signed z) ≡ between lo hi z
unfolding within is_between
within_signed lo hi z = rw (number_signed z)

pub within_decimal : (h n : ℕ) → n ≤ h → within (pos 0) (pos h) (decimal n) ≡ true
unfolding signed between
within_decimal h n l = within_signed (pos 0) (pos h) (pos n) ∙ rw (le-leb 0 n (omega arith), le-leb n h l)

pub integer_signed : (z : ℤ) → integer_of (signed z) ≡ z
unfolding integer_of or_else
integer_signed z = rw (number_signed z)

pub count_decimal : (n : ℕ) → natural_of (decimal n) ≡ n
unfolding natural_of or_else
count_decimal n = rw (natural_decimal n)

-- one token, by its numeral
sound_unjudged : (b t : Bytes) → numeral t ≡ unjudged → sound b t ≡ true
unfolding sound
sound_unjudged b t h = rw (h, sound)

pub sound_bare : (b t s : Bytes) → numeral t ≡ bare s → sound b t ≡ number_sound b s least_number greatest_number
unfolding sound
sound_bare b t s h = rw (h, sound)

pub sound_lettered : (b t s : Bytes) (c : ℕ) → numeral t ≡ lettered c s → sound b t ≡ number_sound b s (pos 0) (last_after c)
unfolding sound
sound_lettered b t s c h = rw (h, sound)

pub judged_plain : (b s : Bytes) (lo hi : ℤ) → Plain b → number_sound b s lo hi ≡ within lo hi s
unfolding number_sound
judged_plain b s lo hi h = rw (h.no_all, h.no_any, h.no_syn, number_sound)

-- what the words spell is sound, and is read
pub every_cons : {A : Type 0} (f : A → Bool) (x : A) (xs : List A) → every f (x ∷ xs) ≡ true → (f x ≡ true) × (every f xs ≡ true)
unfolding every
every_cons f x xs h = (and_left (f x) (every f xs) h, and_right (f x) (every f xs) h)

-- a test, then the rest
pub step_truth : (u v : Bool) → elim u as (λ x. Bool) [ true ↦ v | false ↦ false ] ≡ u && v
step_truth true v = refl
step_truth false v = refl

pub sounds_step : (b t : Bytes) (ts : List Bytes) → sounds b (t ∷ ts) ≡ sound b t && sounds t ts
unfolding sounds
sounds_step b t ts = step_truth (sound b t) (sounds t ts)

sounds_make : (b t : Bytes) (ts : List Bytes) → sound b t ≡ true → sounds t ts ≡ true → sounds b (t ∷ ts) ≡ true
sounds_make b t ts h k = sounds_step b t ts ∙ and_intro h k

-- the words that are one token that is no number
abbrev keyword : Bytes → Type 0
keyword t = (numeral t ≡ unjudged) × Plain t

sounds_keyword : (b t : Bytes) (ts : List Bytes) → keyword t → sounds t ts ≡ true → sounds b (t ∷ ts) ≡ true
sounds_keyword b t ts h k = sounds_make b t ts (sound_unjudged b t h.0) k

pub plain_by : (t : Bytes) → same t (bytes "all") ≡ false → same t (bytes "any") ≡ false → same t (bytes "syn") ≡ false → Plain t
plain_by t a b c = record { no_all = a; no_any = b; no_syn = c }

pub spelled_sound : (b : Bytes) (ws : List Word) → Plain b → every in_range ws ≡ true → sounds b (flat_map spelled ws) ≡ true
unfolding flat_map spelled in_range numeral digit same
spelled_sound b [] h e = unfold sounds in refl
spelled_sound b (all_of k ∷ ws) h e =
    let i = every_cons in_range (all_of k) ws e in
    sounds_make b (bytes "all") (decimal k ∷ flat_map spelled ws) (sound_unjudged b (bytes "all") refl)
    (sounds_make (bytes "all") (decimal k) (flat_map spelled ws)
    (sound_bare (bytes "all") (decimal k) (decimal k) (numeral_decimal k) ∙ (unfold number_sound same in within_decimal max_operands k (leb-true k max_operands i.0)))
    (spelled_sound (decimal k) ws (plain_decimal k) i.1))
spelled_sound b (any_of k ∷ ws) h e =
    let i = every_cons in_range (any_of k) ws e in
    sounds_make b (bytes "any") (decimal k ∷ flat_map spelled ws) (sound_unjudged b (bytes "any") refl)
    (sounds_make (bytes "any") (decimal k) (flat_map spelled ws)
    (sound_bare (bytes "any") (decimal k) (decimal k) (numeral_decimal k) ∙ (unfold number_sound same in within_decimal max_operands k (leb-true k max_operands i.0)))
    (spelled_sound (decimal k) ws (plain_decimal k) i.1))
spelled_sound b (not_word ∷ ws) h e =
    let q = plain_by (bytes "not") refl refl refl in
    sounds_keyword b (bytes "not") (flat_map spelled ws) (refl, q) (spelled_sound (bytes "not") ws q (every_cons in_range not_word ws e).1)
spelled_sound b (imp_word ∷ ws) h e =
    let q = plain_by (bytes "imp") refl refl refl in
    sounds_keyword b (bytes "imp") (flat_map spelled ws) (refl, q) (spelled_sound (bytes "imp") ws q (every_cons in_range imp_word ws e).1)
spelled_sound b (eq_word ∷ ws) h e =
    let q = plain_by (bytes "eq") refl refl refl in
    sounds_keyword b (bytes "eq") (flat_map spelled ws) (refl, q) (spelled_sound (bytes "eq") ws q (every_cons in_range eq_word ws e).1)
spelled_sound b (le_word ∷ ws) h e =
    let q = plain_by (bytes "le") refl refl refl in
    sounds_keyword b (bytes "le") (flat_map spelled ws) (refl, q) (spelled_sound (bytes "le") ws q (every_cons in_range le_word ws e).1)
spelled_sound b (num_word z ∷ ws) h e =
    let i = every_cons in_range (num_word z) ws e in
    sounds_make b (signed z) (flat_map spelled ws)
    (sound_bare b (signed z) (signed z) (numeral_signed z) ∙ judged_plain b (signed z) least_number greatest_number h ∙ within_signed least_number greatest_number z ∙ i.0)
    (spelled_sound (signed z) ws (plain_signed z) i.1)
spelled_sound b (old_word k ∷ ws) h e =
    let i = every_cons in_range (old_word k) ws e in
    sounds_make b ('v ∷ decimal k) (flat_map spelled ws)
    (sound_lettered b ('v ∷ decimal k) (decimal k) 'v (numeral_old k) ∙ judged_plain b (decimal k) (pos 0) (last_after 'v) h ∙ (unfold last_after in within_decimal last_variable k (leb-true k last_variable i.0)))
    (spelled_sound ('v ∷ decimal k) ws (plain_letter_v (decimal k)) i.1)
spelled_sound b (new_word k ∷ ws) h e =
    let i = every_cons in_range (new_word k) ws e in
    sounds_make b ('n ∷ decimal k) (flat_map spelled ws)
    (sound_lettered b ('n ∷ decimal k) (decimal k) 'n (numeral_new k) ∙ judged_plain b (decimal k) (pos 0) (last_after 'n) h ∙ (unfold last_after in within_decimal last_variable k (leb-true k last_variable i.0)))
    (spelled_sound ('n ∷ decimal k) ws (plain_letter_n (decimal k)) i.1)
spelled_sound b (add_word ∷ ws) h e =
    let q = plain_by (bytes "add") refl refl refl in
    sounds_keyword b (bytes "add") (flat_map spelled ws) (refl, q) (spelled_sound (bytes "add") ws q (every_cons in_range add_word ws e).1)
spelled_sound b (sub_word ∷ ws) h e =
    let q = plain_by (bytes "sub") refl refl refl in
    sounds_keyword b (bytes "sub") (flat_map spelled ws) (refl, q) (spelled_sound (bytes "sub") ws q (every_cons in_range sub_word ws e).1)
spelled_sound b (mul_word ∷ ws) h e =
    let q = plain_by (bytes "mul") refl refl refl in
    sounds_keyword b (bytes "mul") (flat_map spelled ws) (refl, q) (spelled_sound (bytes "mul") ws q (every_cons in_range mul_word ws e).1)
spelled_sound b (if_word ∷ ws) h e =
    let q = plain_by (bytes "if") refl refl refl in
    sounds_keyword b (bytes "if") (flat_map spelled ws) (refl, q) (spelled_sound (bytes "if") ws q (every_cons in_range if_word ws e).1)
spelled_sound b (stray ∷ ws) h e = absurd (false_true (every_cons in_range stray ws e).0)

-- one word read
pub word_bare : (t s : Bytes) → numeral t ≡ bare s → word t ≡ num_word (integer_of s)
unfolding word
word_bare t s h = rw (h, word)

pub word_lettered : (t s : Bytes) (b : ℕ) → numeral t ≡ lettered b s → word t ≡ variable_word b (natural_of s)
unfolding word
word_lettered t s b h = rw (h, word)

pub word_unjudged : (t : Bytes) → numeral t ≡ unjudged → word t ≡ find stray spellings t
unfolding word
word_unjudged t h = rw (h, word)

pub counted_bare : (w : ℕ → Word) (t s : Bytes) → numeral t ≡ bare s → counted w t ≡ w (natural_of s)
unfolding counted
counted_bare w t s h = rw (h, counted)

pub read_one : (t : Bytes) (ts : List Bytes) → same t (bytes "all") ≡ false → same t (bytes "any") ≡ false → read_words (t ∷ ts) ≡ word t ∷ read_words ts
unfolding read_words
read_one t [] a b = refl
read_one t (k ∷ ts) a b =
    ap (λ (v : Bool). elim v as (λ x. List Word) [
      | true ↦ counted all_of k ∷ read_words ts
      | false ↦ elim (same t (bytes "any")) as (λ x. List Word) [ true ↦ counted any_of k ∷ read_words ts | false ↦ word t ∷ read_words (k ∷ ts) ]
    ])
    a ∙
    ap (λ (v : Bool). elim v as (λ x. List Word) [ true ↦ counted any_of k ∷ read_words ts | false ↦ word t ∷ read_words (k ∷ ts) ]) b

read_step : (t : Bytes) (ts : List Bytes) → Plain t → read_words (t ∷ ts) ≡ word t ∷ read_words ts
read_step t ts h = read_one t ts h.no_all h.no_any

pub read_nil : read_words [] ≡ []
unfolding read_words
read_nil = refl

pub read_all : (k : Bytes) (ts : List Bytes) → read_words (bytes "all" ∷ k ∷ ts) ≡ counted all_of k ∷ read_words ts
unfolding read_words same
read_all k ts = refl

pub read_any : (k : Bytes) (ts : List Bytes) → read_words (bytes "any" ∷ k ∷ ts) ≡ counted any_of k ∷ read_words ts
unfolding read_words same
read_any k ts = refl

variable_v : (k : ℕ) → variable_word 'v k ≡ old_word k
unfolding variable_word
variable_v k = refl

variable_n : (k : ℕ) → variable_word 'n k ≡ new_word k
unfolding variable_word
variable_n k = refl

pub spelled_read : (ws : List Word) → Free stray ws → read_words (flat_map spelled ws) ≡ ws
unfolding flat_map spelled numeral digit same word find
spelled_read [] e = read_nil
spelled_read (all_of k ∷ ws) e =
    read_all (decimal k) (flat_map spelled ws) ∙ ap (λ w. w ∷ read_words (flat_map spelled ws)) (counted_bare all_of (decimal k) (decimal k) (numeral_decimal k) ∙ ap all_of (count_decimal k)) ∙ ap (λ l. all_of k ∷ l) (spelled_read ws e.1)
spelled_read (any_of k ∷ ws) e =
    read_any (decimal k) (flat_map spelled ws) ∙ ap (λ w. w ∷ read_words (flat_map spelled ws)) (counted_bare any_of (decimal k) (decimal k) (numeral_decimal k) ∙ ap any_of (count_decimal k)) ∙ ap (λ l. any_of k ∷ l) (spelled_read ws e.1)
spelled_read (num_word z ∷ ws) e =
    read_step (signed z) (flat_map spelled ws) (plain_signed z) ∙ ap (λ w. w ∷ read_words (flat_map spelled ws)) (word_bare (signed z) (signed z) (numeral_signed z) ∙ ap num_word (integer_signed z)) ∙ ap (λ l. num_word z ∷ l) (spelled_read ws e.1)
spelled_read (old_word k ∷ ws) e =
    read_step ('v ∷ decimal k) (flat_map spelled ws) (plain_letter_v (decimal k)) ∙ ap (λ w. w ∷ read_words (flat_map spelled ws)) (word_lettered ('v ∷ decimal k) (decimal k) 'v (numeral_old k) ∙ variable_v (natural_of (decimal k)) ∙ ap old_word (count_decimal k)) ∙ ap (λ l. old_word k ∷ l) (spelled_read ws e.1)
spelled_read (new_word k ∷ ws) e =
    read_step ('n ∷ decimal k) (flat_map spelled ws) (plain_letter_n (decimal k)) ∙ ap (λ w. w ∷ read_words (flat_map spelled ws)) (word_lettered ('n ∷ decimal k) (decimal k) 'n (numeral_new k) ∙ variable_n (natural_of (decimal k)) ∙ ap new_word (count_decimal k)) ∙ ap (λ l. new_word k ∷ l) (spelled_read ws e.1)
spelled_read (not_word ∷ ws) e =
    read_step (bytes "not") (flat_map spelled ws) (plain_by (bytes "not") refl refl refl) ∙ ap (λ l. not_word ∷ l) (spelled_read ws e.1)
spelled_read (imp_word ∷ ws) e =
    read_step (bytes "imp") (flat_map spelled ws) (plain_by (bytes "imp") refl refl refl) ∙ ap (λ l. imp_word ∷ l) (spelled_read ws e.1)
spelled_read (eq_word ∷ ws) e =
    read_step (bytes "eq") (flat_map spelled ws) (plain_by (bytes "eq") refl refl refl) ∙ ap (λ l. eq_word ∷ l) (spelled_read ws e.1)
spelled_read (le_word ∷ ws) e =
    read_step (bytes "le") (flat_map spelled ws) (plain_by (bytes "le") refl refl refl) ∙ ap (λ l. le_word ∷ l) (spelled_read ws e.1)
spelled_read (add_word ∷ ws) e =
    read_step (bytes "add") (flat_map spelled ws) (plain_by (bytes "add") refl refl refl) ∙ ap (λ l. add_word ∷ l) (spelled_read ws e.1)
spelled_read (sub_word ∷ ws) e =
    read_step (bytes "sub") (flat_map spelled ws) (plain_by (bytes "sub") refl refl refl) ∙ ap (λ l. sub_word ∷ l) (spelled_read ws e.1)
spelled_read (mul_word ∷ ws) e =
    read_step (bytes "mul") (flat_map spelled ws) (plain_by (bytes "mul") refl refl refl) ∙ ap (λ l. mul_word ∷ l) (spelled_read ws e.1)
spelled_read (if_word ∷ ws) e =
    read_step (bytes "if") (flat_map spelled ws) (plain_by (bytes "if") refl refl refl) ∙ ap (λ l. if_word ∷ l) (spelled_read ws e.1)
spelled_read (stray ∷ ws) e = absurd (e.0 refl)
