-- The bytes of a P spell its tokens; where row 3 is not broken by the composition, none of them breaks it.
use Prim.Native.Nat.{ℕ, zero, suc, ◌+◌, ◌≤◌}
use mathlib.Core.Path.{◌≡◌, refl, sym, ◌∙◌, ap, ap₂, subst}
use mathlib.Core.Bool.{Bool, true, false}
use mathlib.Core.List.{List, [], ◌∷◌, ◌++◌, map}
use mathlib.Core.Option.{Option}
use native.Mathlib.Omega.{arith}
use lib.ListN.{length, length-append}
use Rattle.model.specs.Basic.{same, on_some}
use Rattle.model.specs.Predicate.{Pred}
use Rattle.model.specs.Parse.{read_pred, stack, sole_pred, push}
use Rattle.model.proofs.Tests.{and_left, and_right}
use Rattle.format.specs.Bytes.{Bytes, bytes, parts, joined, led_by, space}
use Rattle.format.specs.Tokens.{tokens, sound, sounds, numeral, number_sound, find, word, read_words, calls_for, start_tokens, starts_in}
use Rattle.format.proofs.BytesLaws.{Free, Each, each_left, joined_parts, parts_each, parts_joined, same_is}
use Rattle.format.proofs.StartLaws.{sounds_both, trailing, tokens_split}
use Rattle.format.proofs.TokenLaws.{sounds_step}
use Rattle.read_extent.specs.Extent.{span}
use Rattle.read_extent.proofs.Extents.{led_length}
use Rattle.read_starts.specs.Texts.{start_texts}
use Rattle.read_starts.specs.Rows.{starts_read}

-- the tokens of a P, which do not break row 3
record Fine (ts : List Bytes) : Type 0 where
  sound : sounds (bytes "ini") ts ≡ true
  free : Each (Free space) ts

first_fine : (ts : List Bytes) → Each (Free space) ts → sounds (bytes "ini") ts ≡ true → Fine (start_tokens 1 (bytes "ini") ts)
first_fine ts f s =
    let its = start_tokens 1 (bytes "ini") ts in
    let rest = trailing 1 (bytes "ini") ts in
    let e : ts ≡ its ++ rest = tokens_split ts 1 (bytes "ini") in
    record {
      sound = and_left _ _ (sym (sounds_both its rest (bytes "ini")) ∙ ap (sounds (bytes "ini")) (sym e) ∙ s);
      free = each_left (Free space) its rest (subst (λ (k : List Bytes). Each (Free space) k) e f);
    }

all_fine : (ts : List Bytes) (n : ℕ) (b : Bytes) → Each (Free space) ts → sounds b ts ≡ true → Each Fine (starts_in n b ts)
unfolding starts_in
all_fine [] n b f s = tt
all_fine (t ∷ ts) (suc n) b f s = all_fine ts (calls_for b t + n) t f.1 (and_right (sound b t) (sounds t ts) (sym (sounds_step b t ts) ∙ s))
all_fine (t ∷ ts) zero b f s = go (same t (bytes "ini")) refl (λ n. all_fine ts n t f.1 later)
  where
    later : sounds t ts ≡ true
    later = and_right (sound b t) (sounds t ts) (sym (sounds_step b t ts) ∙ s)

    go : (v : Bool) → same t (bytes "ini") ≡ v → ((n : ℕ) → Each Fine (starts_in n t ts))
        → Each Fine (elim v as (λ x. List (List Bytes)) [ true ↦ start_tokens 1 t ts ∷ starts_in 1 t ts | false ↦ starts_in 0 t ts ])
    go true e ih =
        let i = same_is t (bytes "ini") e in
        (subst (λ (k : Bytes). Fine (start_tokens 1 k ts)) (sym i) (first_fine ts f.1 (ap (λ (k : Bytes). sounds k ts) (sym i) ∙ later)), ih 1)
    go false e ih = ih 0

-- after `ini` a token is judged as the first of a text is
as_first : (ts : List Bytes) → sounds (bytes "ini") ts ≡ sounds [] ts
unfolding sounds sound number_sound same
as_first [] = refl
as_first (t ∷ ts) = refl

-- no bytes are one token that says nothing, and no token says nothing either
none_spelled : (sounds [] (tokens (joined space [])) ≡ true) × (read_pred (read_words (tokens (joined space []))) ≡ read_pred (read_words [])) × (length (joined space []) ≡ 0)
unfolding joined tokens parts sounds sound read_words read_pred numeral stack on_some sole_pred push word find same
none_spelled = (refl, refl, refl)

-- their bytes do not break row 3, and say what the tokens say
record Spells (ts : List Bytes) : Type 0 where
  sound : sounds [] (tokens (joined space ts)) ≡ true
  same_pred : read_pred (read_words (tokens (joined space ts))) ≡ read_pred (read_words ts)

spells : (ts : List Bytes) → Fine ts → Spells ts
unfolding tokens
spells [] f = record { sound = none_spelled.0; same_pred = none_spelled.1 }
spells (t ∷ ts) f =
    let e : tokens (joined space (t ∷ ts)) ≡ t ∷ ts = parts_joined space t ts f.free.0 f.free.1 in
    record {
      sound = ap (sounds []) e ∙ sym (as_first (t ∷ ts)) ∙ f.sound;
      same_pred = ap (λ (l : List Bytes). read_pred (read_words l)) e;
    }

-- the predicates, each from its bytes
abbrev pub preds_of : List Bytes → List (Option Pred)
preds_of us = map (λ u. read_pred (read_words (tokens u))) us

all_read : (gs : List (List Bytes)) → Each Fine gs → preds_of (map (joined space) gs) ≡ map (λ ts. read_pred (read_words ts)) gs
all_read [] f = refl
all_read (g ∷ gs) f = ap₂ (λ (o : Option Pred) (os : List (Option Pred)). o ∷ os) (spells g f.0).same_pred (all_read gs f.1)

-- No P is longer than the composition, whatever it says.
span_both : (xs ys : List Bytes) → span (xs ++ ys) ≡ span xs + span ys
unfolding span
span_both [] ys = omega arith
span_both (x ∷ xs) ys = omega (arith, span_both xs ys)

joined_length : (t : Bytes) (ts : List Bytes) → suc (length (joined space (t ∷ ts))) ≡ span (t ∷ ts)
unfolding joined span
joined_length t ts = omega (arith, length-append t (led_by space ts), led_length space ts)

joined_short : (ts : List Bytes) (most : ℕ) → span ts ≤ suc most → length (joined space ts) ≤ most
joined_short [] most h = omega (arith, none_spelled.2)
joined_short (t ∷ ts) most h = omega (arith, joined_length t ts)

span_tokens : (s : Bytes) (ts : List Bytes) → parts space s ≡ ts → span ts ≤ suc (length s)
unfolding span
span_tokens s [] e = omega arith
span_tokens s (t ∷ ts) e =
    let j : joined space (t ∷ ts) ≡ s = ap (joined space) (sym e) ∙ joined_parts space s in
    omega (arith, joined_length t ts, ap (length {A = ℕ}) j)

starts_short : (ts : List Bytes) (n : ℕ) (b : Bytes) (most : ℕ) → span ts ≤ suc most → Each (λ u. length u ≤ most) (map (joined space) (starts_in n b ts))
unfolding starts_in span
starts_short [] n b most l = tt
starts_short (t ∷ ts) (suc n) b most l = starts_short ts (calls_for b t + n) t most (omega arith)
starts_short (t ∷ ts) zero b most l = go (same t (bytes "ini")) (λ n. starts_short ts n t most (omega arith))
  where
    go : (v : Bool) → ((n : ℕ) → Each (λ u. length u ≤ most) (map (joined space) (starts_in n t ts)))
        → Each (λ u. length u ≤ most) (map (joined space) (elim v as (λ x. List (List Bytes)) [ true ↦ start_tokens 1 t ts ∷ starts_in 1 t ts | false ↦ starts_in 0 t ts ]))
    go true ih = (joined_short (start_tokens 1 t ts) most (omega (arith, span_both (start_tokens 1 t ts) (trailing 1 t ts), ap span (tokens_split ts 1 t))), ih 1)
    go false ih = ih 0

pub texts_short : (s : Bytes) → Each (λ u. length u ≤ length s) (start_texts s)
unfolding start_texts tokens
texts_short s = starts_short (parts space s) 0 [] (length s) (span_tokens s (parts space s) refl)

-- bytes of so many that do not break row 3
pub record Text (most : ℕ) (u : Bytes) : Type 0 where
  pub sound : sounds [] (tokens u) ≡ true
  pub short : length u ≤ most

texts_by : (most : ℕ) (gs : List (List Bytes)) → Each Fine gs → Each (λ u. length u ≤ most) (map (joined space) gs) → Each (Text most) (map (joined space) gs)
texts_by most [] f l = tt
texts_by most (g ∷ gs) f l = (record { sound = (spells g f.0).sound; short = l.0 }, texts_by most gs f.1 l.1)

module _ (s : Bytes) (row3 : sounds [] (tokens s) ≡ true) where
  fine : Each Fine (starts_in 0 [] (tokens s))
  unfolding tokens
  fine = all_fine (tokens s) 0 [] (parts_each space s) row3

  pub texts_fine : Each (Text (length s)) (start_texts s)
  unfolding start_texts
  texts_fine = texts_by (length s) (starts_in 0 [] (tokens s)) fine (texts_short s)

  pub texts_read : preds_of (start_texts s) ≡ starts_read s
  unfolding start_texts
  texts_read = all_read (starts_in 0 [] (tokens s)) fine
