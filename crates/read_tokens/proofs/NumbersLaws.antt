-- Row 3 over tokens: each way out of the code of src/numbers.rt, and that the kind of the token before is all that counts.
use Prim.Native.Nat.{ℕ, ◌+◌, ◌-◌}
use mathlib.Core.Path.{◌≡◌, refl, sym, ◌∙◌, ap, ap₂}
use mathlib.Core.Bool.{Bool, true, false, ◌||◌, ◌&&◌}
use mathlib.Core.List.{List, [], ◌∷◌}
use borrow.Author.Tests.{eq-eqb, ne_eqb, not-true, not-false}
use lib.ListN.{length, take, drop}
use lib.IntN.{ℤ, pos}
use Rattle.model.specs.Basic.{every, same}
use Rattle.model.specs.Bounds.{max_actions, max_operands, least_number, greatest_number}
use Rattle.format.specs.Bytes.{Bytes, bytes, parts, comma, space, 'a}
use Rattle.format.specs.Number.{within}
use Rattle.format.specs.Tokens.{Numeral, unjudged, bare, lettered, numeral, tokens, number_sound, last_after, sound, sounds}
use Rattle.text_bytes.proofs.Places.{take_rest}
use Rattle.read_tokens.specs.Shape.{shape_of}
use Rattle.read_tokens.specs.Numbers.{before_of, judged, sound_as, sound_after, sounds_after}
use Rattle.read_tokens.specs.declared.tokens.Shape.{Shape}
use Rattle.read_tokens.specs.declared.tokens.Shape.TheVariants.{Bare, Lettered, Plain}
use Rattle.read_tokens.specs.declared.numbers.Before.{Before}
use Rattle.read_tokens.specs.declared.numbers.Before.TheVariants.{Count, Items, Other}
use Rattle.std.specs.List.{list_all}
use Rattle.text_bytes.proofs.Splits.{split_at, parts_split}
use Rattle.read_tokens.proofs.ShapeLaws.{from_shape, numeral_is, lettered_long}

-- `kind_of`
module _ (t : Bytes) (p : Bool) (e : p ≡ same t (bytes "all")) where
  pub kind_all : p ≡ true → Count ≡ before_of t
  unfolding before_of
  kind_all h = rw (← e, h, before_of)

  module _ (h : p ≡ false) (q : Bool) (f : q ≡ same t (bytes "any")) where
    pub kind_any : q ≡ true → Count ≡ before_of t
    unfolding before_of
    kind_any k = rw (← e, h, before_of, ← f, k, before_of)

    module _ (k : q ≡ false) (r : Bool) (g : r ≡ same t (bytes "syn")) where
      pub kind_syn : r ≡ true → Items ≡ before_of t
      unfolding before_of
      kind_syn l = rw (← e, h, before_of, ← f, k, before_of, ← g, l, before_of)

      pub kind_other : r ≡ false → Other ≡ before_of t
      unfolding before_of
      kind_other l = rw (← e, h, before_of, ← f, k, before_of, ← g, l, before_of)

pub ruleset kind_laws = (kind_all, kind_any, kind_syn, kind_other)

-- `list_sound`
every_list : (f : Bytes → Bool) (l : List Bytes) → list_all f l ≡ every f l
unfolding every
every_list f [] = refl
every_list f (s ∷ l) = ap (λ (v : Bool). f s && v) (every_list f l)

pub every_part : (f : Bytes → Bool) (c : ℕ) (s : Bytes) → list_all f (split_at c s) ≡ every f (parts c s)
every_part f c s = every_list f (split_at c s) ∙ ap (every f) (sym (parts_split c s))

-- `last_after`
pub last_automaton : (b : ℕ) → b ≡ 97 → pos 15 ≡ last_after b
unfolding last_after
last_automaton b h = rw (eq-eqb b 'a h, last_after)

pub last_variable : (b : ℕ) → (b ≡ 97 → ⊥) → pos 47 ≡ last_after b
unfolding last_after
last_variable b h = rw (ne_eqb b 'a h, last_after)

pub ruleset last_laws = (last_automaton, last_variable)

-- `judged`
module _ (k : Before) (s : Bytes) (low high : ℤ) (r : Bool) where
  pub judged_count : k ≡ Count → r ≡ within (pos 0) (pos 512) s → r ≡ judged k s low high
  unfolding judged
  judged_count h e = rw h e

  pub judged_items : k ≡ Items → r ≡ every (within (pos 0) (pos max_actions)) (parts comma s) → r ≡ judged k s low high
  unfolding judged
  judged_items h e = rw h e

  pub judged_other : k ≡ Other → r ≡ within low high s → r ≡ judged k s low high
  unfolding judged
  judged_other h e = rw h e

pub ruleset judged_laws = (judged_count, judged_items, judged_other)

-- `sound`
module _ (k : Before) (t : Bytes) (x : Shape) (e : x ≡ shape_of t) where
  by_shape : (y : Shape) → x ≡ y → sound_after k t ≡ sound_as k (from_shape y t)
  unfolding sound_after
  by_shape y h = ap (sound_as k) (numeral_is t ∙ ap (λ (z : Shape). from_shape z t) (sym e ∙ h))

  pub sound_bare : (r : Bool) → x ≡ Bare → r ≡ judged k t least_number greatest_number → r ≡ sound_after k t
  unfolding from_shape sound_as
  sound_bare r h g = g ∙ sym (by_shape Bare h)

  pub sound_lettered : (b : ℕ) (r : Bool) (high : ℤ) → x ≡ Lettered b → high ≡ last_after b → r ≡ judged k (take (length t - 1) (drop 1 t)) (pos 0) high → r ≡ sound_after k t
  unfolding from_shape sound_as
  sound_lettered b r high h l g = g ∙ ap₂ (λ (s : Bytes) (z : ℤ). judged k s (pos 0) z) (take_rest t 1) l ∙ sym (by_shape (Lettered b) h)

  pub sound_plain : x ≡ Plain → true ≡ sound_after k t
  unfolding from_shape sound_as
  sound_plain h = sym (by_shape Plain h)

pub ruleset sound_laws = (sound_bare, sound_lettered, sound_plain, lettered_long)

-- the kind of the token before is all that counts
judged_before : (b s : Bytes) (low high : ℤ) → judged (before_of b) s low high ≡ number_sound b s low high
unfolding judged before_of number_sound
judged_before b s low high = go (same b (bytes "all")) (same b (bytes "any")) (same b (bytes "syn"))
  where
    kind : Bool → Bool → Bool → Before
    kind p q r = elim p [ true ↦ Count | false ↦ elim q [ true ↦ Count | false ↦ elim r [ true ↦ Items | false ↦ Other ] ] ]

    go : (p q r : Bool) → judged (kind p q r) s low high
        ≡ elim (p || q) as (λ x. Bool) [
          | true ↦ within (pos 0) (pos max_operands) s
          | false ↦ elim r as (λ x. Bool) [ true ↦ every (within (pos 0) (pos max_actions)) (parts comma s) | false ↦ within low high s ]
        ]
    go true q r = refl
    go false true r = refl
    go false false true = refl
    go false false false = refl

sound_before : (b t : Bytes) → sound_after (before_of b) t ≡ sound b t
unfolding sound_after sound sound_as
sound_before b t = go (numeral t)
  where
    go : (n : Numeral) → sound_as (before_of b) n
        ≡ elim n as (λ x. Bool) [
          | unjudged ↦ true
          | bare s ↦ number_sound b s least_number greatest_number
          | lettered c s ↦ number_sound b s (pos 0) (last_after c)
        ]
    go unjudged = refl
    go (bare s) = judged_before b s least_number greatest_number
    go (lettered c s) = judged_before b s (pos 0) (last_after c)

pub sounds_after_lem : (b : Bytes) (ts : List Bytes) → sounds_after (before_of b) ts ≡ sounds b ts
unfolding sounds_after sounds
sounds_after_lem b [] = refl
sounds_after_lem b (t ∷ ts) = rw (sounds_after, sound_before b t) (go (sound b t) (sounds_after_lem t ts))
  where
    go : (v : Bool) → sounds_after (before_of t) ts ≡ sounds t ts → ◌≡◌ {A = Bool} (elim v [ true ↦ sounds_after (before_of t) ts | false ↦ false ]) (elim v [ true ↦ sounds t ts | false ↦ false ])
    go true ih = ih
    go false ih = refl

-- `numbers_sound`: after k tokens, of which the last was of this kind
abbrev pub Goes : Bytes → Before → (k : ℕ) → Type 0
Goes s kind k = sounds [] (tokens s) ≡ sounds_after kind (drop k (parts space s))

module _ (s : Bytes) where
  pub sounds_start : Goes s Other 0
  unfolding tokens before_of same
  sounds_start = sym (sounds_after_lem [] (parts space s))

  module _ (kind : Before) (k : ℕ) (inv : Goes s kind k) where
    pub sounds_end : drop k (parts space s) ≡ [] → true ≡ sounds [] (tokens s)
    unfolding sounds_after
    sounds_end h = sym (inv ∙ rw h)

    module _ (t : Bytes) (h : drop k (parts space s) ≡ t ∷ drop (k + 1) (parts space s)) (p : Bool) (g : p ≡ sound_after kind t) where
      pub sounds_no : p ≡ false → false ≡ sounds [] (tokens s)
      unfolding sounds_after
      sounds_no n = sym (inv ∙ rw (h, ← g, n, sounds_after))

      pub sounds_go : p ≡ true → (j : Before) → j ≡ before_of t → (l : ℕ) → l ≡ k + 1 → Goes s j l
      unfolding sounds_after
      sounds_go y j i l e = inv ∙ rw (h, ← g, y, sounds_after, i, e)

pub ruleset numbers_laws = (sounds_start, sounds_end, sounds_no, sounds_go, not-true, not-false)
