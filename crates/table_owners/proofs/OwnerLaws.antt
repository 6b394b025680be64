-- On the words of a model's variables the functions answer what rows 50 and 51 ask.
use Prim.Native.Nat.{ℕ, zero, suc, ◌+◌, ◌*◌, ◌/◌, ◌<◌}
use mathlib.Core.Path.{◌≡◌, refl, sym, ap, ◌∙◌}
use mathlib.Core.Bool.{Bool, true, false, not, ◌&&◌, ◌||◌}
use borrow.Author.Tests.{leb-true, leb-false, lt-leb, lt-ltb, ne_eqb}
use mathlib.Core.List.Memᴰ
use mathlib.Core.List.{List, [], ◌∷◌, flat_map, map, Memᴰ}
use mathlib.Core.Option.{Option, none, some}
use native.Mathlib.Omega.{arith}
use lib.ListN.{length, get_or}
use lib.Dec.{eqb, ltb, leb}
use Rattle.model.specs.Basic.{every, exists, keep, count_up}
use Rattle.model.specs.Bounds.{max_variables}
use Rattle.model.specs.Predicate.{Pred, Range, words, mentions, written}
use Rattle.model.specs.Lines.{variable_lines}
use Rattle.model.specs.Limits.{in_range, is_beyond, is_owner}
use Rattle.model.specs.Table.{code, owner_word, line_words}
use Rattle.model.proofs.Tests.{exists_ext, not-not}
use Rattle.model.proofs.Lists.{keep_first, keep_skip}
use Rattle.table_writes.specs.Sets.{all_variables, rest_of}
use Rattle.table_writes.proofs.MaskLaws.{rest_words, bit_mask}
use Rattle.table_owners.specs.Owners.{owner_in, is_beyond_at, beyond_in, is_foreign_at, foreign_in}

-- the words of variables with their owners
abbrev pub variable_words : List Range → List (Option ℕ) → List ℕ
variable_words xs os = flat_map line_words (variable_lines xs os)

pub words_length : (xs : List Range) (os : List (Option ℕ)) → length (variable_words xs os) ≡ 3 * length xs
unfolding flat_map line_words variable_lines
words_length [] os = refl
words_length (x ∷ xs) [] = omega (arith, words_length xs [])
words_length (x ∷ xs) (o ∷ os) = omega (arith, words_length xs os)

-- the owner's word is the owner's
pub owner_word_lem : (xs : List Range) (os : List (Option ℕ)) → length os ≡ length xs → (k : ℕ) → owner_in (variable_words xs os) k ≡ owner_word (get_or os k none)
unfolding owner_in flat_map line_words variable_lines owner_word
owner_word_lem [] [] n k = refl
owner_word_lem [] (o ∷ os) n k = absurd (omega arith)
owner_word_lem (x ∷ xs) [] n k = absurd (omega arith)
owner_word_lem (x ∷ xs) (o ∷ os) n zero = refl
owner_word_lem (x ∷ xs) (o ∷ os) n (suc k) =
    let e : 3 * suc k + 2 ≡ suc (suc (suc (3 * k + 2))) = omega arith in
    rw e (owner_word_lem xs os (omega arith) k)

-- a search over places is one over the list
exists_index : {A : Type 0} (f : A → Bool) (d : A) (xs : List A) (n : ℕ) (g : ℕ → Bool) → ((k : ℕ) → k < length xs → g (n + k) ≡ f (get_or xs k d)) → exists g (count_up n (length xs)) ≡ exists f xs
unfolding exists count_up
exists_index f d [] n g h = refl
exists_index f d (x ∷ xs) n g h =
    let first : g n ≡ f x = ap g (omega arith) ∙ h 0 (omega arith) in
    rw (first, exists_index f d xs (suc n) g (λ k l. ap g (omega arith) ∙ h (suc k) (omega arith)))

beyond_word : (n : ℕ) (o : Option ℕ) → ltb n (owner_word o) ≡ is_beyond n o
unfolding owner_word is_beyond
beyond_word n none = lt-leb (suc n) 0 (omega arith)
beyond_word n (some k) = go (leb n k) refl
  where
    go : (b : Bool) → leb n k ≡ b → ltb n (suc k) ≡ b
    go true e = lt-ltb n (suc k) (omega (arith, leb-true n k e))
    go false e = lt-leb (suc n) (suc k) (omega (arith, leb-false n k e))

-- row 50
pub beyond_is : (xs : List Range) (os : List (Option ℕ)) → length os ≡ length xs → (n : ℕ) → beyond_in (variable_words xs os) n ≡ exists (is_beyond n) os
unfolding beyond_in is_beyond_at
beyond_is xs os same n =
    let count : length (variable_words xs os) / 3 ≡ length os = omega (arith, words_length xs os) in
    rw count (exists_index (is_beyond n) none os 0 (λ k. ltb n (owner_in (variable_words xs os) k)) (λ k l. ap (λ j. ltb n (owner_in (variable_words xs os) j)) (omega arith) ∙ ap (ltb n) (owner_word_lem xs os same k) ∙ beyond_word n (get_or os k none)))

-- a search among what is kept
exists_keep : (f g : ℕ → Bool) (l : List ℕ) → exists g (keep f l) ≡ exists (λ k. f k && g k) l
unfolding exists keep
exists_keep f g [] = refl
exists_keep f g (x ∷ l) = go (f x) refl (exists_keep f g l)
  where
    go : (b : Bool) → f x ≡ b → exists g (keep f l) ≡ exists (λ k. f k && g k) l → exists g (keep f (x ∷ l)) ≡ (f x && g x || exists (λ k. f k && g k) l)
    go true e ih = rw (keep_first f x l e, e, ih)
    go false e ih = rw (keep_skip f x l e, e, ih)

owner_test : (n : ℕ) (o : Option ℕ) → (not (eqb (owner_word o) 0) && eqb (owner_word o) n) ≡ is_owner n o
unfolding owner_word is_owner
owner_test n none = refl
owner_test n (some k) = rw (ne_eqb (suc k) 0 (λ e. absurd (omega arith)))

-- what is counted is below the end
counted_below : (n count k : ℕ) → Memᴰ k (count_up n count) → k < n + count
unfolding count_up
counted_below n zero k i = absurd (Memᴰ.not-nil i)
counted_below n (suc count) k (Memᴰ.head e) = omega arith
counted_below n (suc count) k (Memᴰ.tail i) = let l = counted_below (suc n) count k i in omega arith

-- row 51, where the set is what an update leaves alone
pub foreign_is : (xs : List Range) (os : List (Option ℕ)) → length os ≡ length xs → (n : ℕ) (p : Pred) → every in_range (words p) ≡ true
    → foreign_in (variable_words xs os) n (rest_of all_variables (map code (words p))) ≡ exists (λ k. not (is_owner n (get_or os k none))) (written p)
unfolding foreign_in is_foreign_at written mentions
foreign_is xs os same n p ranged =
    exists_ext _ _ (count_up 0 max_variables) (λ k i. rw (owner_word_lem xs os same k, owner_test n (get_or os k none), rest_words (words p) ranged, bit_mask _ max_variables k (counted_below 0 max_variables k i), not-not))
    ∙ sym (exists_keep (λ k. mentions k p) (λ k. not (is_owner n (get_or os k none))) (count_up 0 max_variables))
