-- The text of a predicate and reading it are inverse.
use Prim.Native.Nat.{ℕ}
use mathlib.Core.Path.{◌≡◌, refl, sym, ◌∙◌, ap, subst}
use mathlib.Core.Bool.{true}
use mathlib.Core.List.{List, [], ◌∷◌, ◌++◌, flat_map}
use mathlib.Core.Option.{some}
use native.Mathlib.Omega.{arith}
use Rattle.model.specs.Basic.{every, same}
use Rattle.model.specs.Limits.{in_range}
use Rattle.model.specs.Parse.{read_pred}
use Rattle.model.specs.Predicate as P
use Rattle.model.specs.Predicate.{Expr, Pred, Preds, Word, add, add_word, all, all_of, any, any_of, choose, eq, eq_word, if_word, imp, imp_word, le, le_word, more, mul, mul_word, negate, new, new_word, not_word, num, num_word, old, old_word, operands, stray, sub, sub_word, words, words_all, words_of}
use Rattle.model.proofs.Parsing.{read_words_of, words_of_read}
use Rattle.model.proofs.Tests.{both_ways}
use Rattle.format.specs.Bytes.{Bytes, joined, space}
use Rattle.format.specs.Spelling.{spelled, text_of_pred}
use Rattle.format.specs.Tokens.{read_words, sounds, tokens}
use Rattle.format.proofs.BytesLaws.{Each, Free, free_append, joined_parts, parts_joined}
use Rattle.format.proofs.ReadLaws.{tokens_back}
use Rattle.format.proofs.Spans.{words_free}
use Rattle.format.proofs.TokenLaws.{Plain, plain_by, spelled_read, spelled_sound}

-- there is a first token
first_token : (p : Pred) → (t : Bytes) × (ts : List Bytes) × (flat_map spelled (words p) ≡ t ∷ ts)
unfolding flat_map spelled words
first_token (all ps) = (_, _, refl)
first_token (any ps) = (_, _, refl)
first_token (negate p) = (_, _, refl)
first_token (imp p q) = (_, _, refl)
first_token (eq a b) = (_, _, refl)
first_token (le a b) = (_, _, refl)

pub tokens_joined : (l : List Bytes) (t : Bytes) (ts : List Bytes) → l ≡ t ∷ ts → Each (Free 32) l → tokens (joined space l) ≡ l
unfolding tokens
tokens_joined l t ts e h =
    let f : Each (Free 32) (t ∷ ts) = subst (λ (u : List Bytes). Each (Free 32) u) e h in
    rw e (parts_joined 32 t ts f.0 f.1)

pub tokens_text : (p : Pred) → tokens (text_of_pred p) ≡ flat_map spelled (words p)
unfolding text_of_pred
tokens_text p = let f = first_token p in tokens_joined (flat_map spelled (words p)) f.0 f.1 f.2 (words_free (words p))

pub plain_nil : Plain []
unfolding same
plain_nil = plain_by [] refl refl refl

-- a predicate whose numbers are in range has a sound text
pub text_sound : (p : Pred) → every in_range (words p) ≡ true → sounds [] (tokens (text_of_pred p)) ≡ true
text_sound p h = rw (tokens_text p) (spelled_sound [] (words p) plain_nil h)

-- no word of a predicate is stray
number_word : Word → ℕ
number_word stray = 1
number_word (all_of k) = 0
number_word (any_of k) = 0
number_word not_word = 0
number_word imp_word = 0
number_word eq_word = 0
number_word le_word = 0
number_word (num_word z) = 0
number_word (old_word k) = 0
number_word (new_word k) = 0
number_word add_word = 0
number_word sub_word = 0
number_word mul_word = 0
number_word if_word = 0

not_stray : (w : Word) → number_word w ≡ 0 → w ≡ stray → ⊥
unfolding number_word
not_stray w h e = let k : ◌≡◌ {A = ℕ} 1 0 = ap number_word (sym e) ∙ h in omega arith

mutual
  unfolding words words_all words_of number_word

  pub no_stray : (p : Pred) → Free stray (words p)
  no_stray (all ps) = (not_stray (all_of (operands ps)) refl, no_strays ps)
  no_stray (any ps) = (not_stray (any_of (operands ps)) refl, no_strays ps)
  no_stray (negate p) = (not_stray not_word refl, no_stray p)
  no_stray (imp p q) = (not_stray imp_word refl, free_append stray (words p) (words q) (no_stray p) (no_stray q))
  no_stray (eq a b) = (not_stray eq_word refl, free_append stray (words_of a) (words_of b) (no_stray_x a) (no_stray_x b))
  no_stray (le a b) = (not_stray le_word refl, free_append stray (words_of a) (words_of b) (no_stray_x a) (no_stray_x b))

  no_strays : (ps : Preds) → Free stray (words_all ps)
  no_strays P.none = tt
  no_strays (more p ps) = free_append stray (words p) (words_all ps) (no_stray p) (no_strays ps)

  no_stray_x : (x : Expr) → Free stray (words_of x)
  no_stray_x (num z) = (not_stray (num_word z) refl, tt)
  no_stray_x (old k) = (not_stray (old_word k) refl, tt)
  no_stray_x (new k) = (not_stray (new_word k) refl, tt)
  no_stray_x (add a b) = (not_stray add_word refl, free_append stray (words_of a) (words_of b) (no_stray_x a) (no_stray_x b))
  no_stray_x (sub a b) = (not_stray sub_word refl, free_append stray (words_of a) (words_of b) (no_stray_x a) (no_stray_x b))
  no_stray_x (mul a b) = (not_stray mul_word refl, free_append stray (words_of a) (words_of b) (no_stray_x a) (no_stray_x b))
  no_stray_x (choose p a b) = (not_stray if_word refl, free_append stray (words p) (words_of a ++ words_of b) (no_stray p) (free_append stray (words_of a) (words_of b) (no_stray_x a) (no_stray_x b)))

-- the text of a predicate is read as its words, and as the predicate
pub text_words : (p : Pred) → read_words (tokens (text_of_pred p)) ≡ words p
text_words p = rw (tokens_text p) (spelled_read (words p) (no_stray p))

pub text_read : (p : Pred) → read_pred (read_words (tokens (text_of_pred p))) ≡ some p
text_read p = rw (text_words p) (read_words_of p)

-- the tokens of a predicate are sound exactly when its numbers are in range
pub sounds_words : (p : Pred) (b : Bytes) → Plain b → sounds b (flat_map spelled (words p)) ≡ every in_range (words p)
sounds_words p b q = both_ways _ _ there (spelled_sound b (words p) q)
  where
    there : sounds b (flat_map spelled (words p)) ≡ true → every in_range (words p) ≡ true
    there h =
        let w = spelled_read (words p) (no_stray p) in
        let s = tokens_back b (flat_map spelled (words p)) q h (subst (λ (l : List Word). Free stray l) (sym w) (no_stray p)) in
        ap (every in_range) (sym w) ∙ s.ranged

-- the text of a predicate, whose numbers are in range
pub record Written (s : Bytes) (p : Pred) : Type 0 where
  pub text : s ≡ text_of_pred p
  pub ranged : every in_range (words p) ≡ true

-- what is sound and is read as a predicate is that predicate's text
pub read_text : (s : Bytes) (p : Pred) → sounds [] (tokens s) ≡ true → read_pred (read_words (tokens s)) ≡ some p → Written s p
unfolding text_of_pred tokens
read_text s p h e =
    let w = words_of_read (read_words (tokens s)) p e in
    let n : Free stray (read_words (tokens s)) = subst (λ (l : List Word). Free stray l) (sym w) (no_stray p) in
    let b = tokens_back [] (tokens s) plain_nil h n in
    record {
      text = sym (joined_parts space s) ∙ ap (joined space) (sym b.spells) ∙ ap (λ l. joined space (flat_map spelled l)) w;
      ranged = ap (every in_range) (sym w) ∙ b.ranged;
    }
