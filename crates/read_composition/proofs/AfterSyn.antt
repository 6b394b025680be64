-- Tokens and numbers: where row 3 is not broken, the lists right after `syn` are judged as row 5 says.
use Prim.Native.Nat.{ℕ}
use mathlib.Core.Path.{◌≡◌, refl, sym, ◌∙◌, ap}
use mathlib.Core.Bool.{Bool, true, false, ◌&&◌, and-false, ◌||◌}
use mathlib.Core.List.{List, [], ◌∷◌}
use lib.Dec.{eqb}
use lib.IntN.{pos}
use Rattle.model.specs.Basic.{every, same}
use Rattle.model.specs.Bounds.{greatest_number, least_number, max_actions}
use Rattle.model.specs.Limits.{rises}
use Rattle.format.specs.Bytes.{Bytes, bytes, parts, comma, minus, 'a, 'n, 'v}
use Rattle.format.specs.Number.{digit, within}
use Rattle.format.specs.Tokens.{Numeral, bare, lettered, unjudged, numeral, items, sound, sounds, list_sound, lists_sound, tokens}
use Rattle.format.proofs.BytesLaws.{same_is}
use Rattle.format.proofs.ReadLaws.{bare_is, sounds_inv}
use Rattle.format.proofs.TokenLaws.{sound_bare}
use Rattle.format.proofs.TreeText.{judged_syn}
use Rattle.read_composition.specs.List.{list_of}
use Rattle.read_composition.specs.Token.{starts_number}
use Rattle.read_composition.specs.Lists.{list_kept, lists_kept}
use Rattle.read_composition.proofs.Numbers.{list_rising}

-- a token is a bare number if it starts like one
unfoldable pub is_bare : Numeral → Bool
is_bare unjudged = false
is_bare (bare s) = true
is_bare (lettered b s) = false

starts_bare : (t : Bytes) → starts_number t ≡ is_bare (numeral t)
unfolding starts_number numeral is_bare
starts_bare [] = refl
starts_bare (b ∷ []) = go (digit b || eqb b minus)
  where
    go : (v : Bool) → v ≡ is_bare (elim v [ true ↦ bare (b ∷ []) | false ↦ unjudged ])
    go true = refl
    go false = refl
starts_bare (b ∷ c ∷ t) = go (digit b || eqb b minus) ((eqb b 'v || (eqb b 'n || eqb b 'a)) && digit c)
  where
    go : (v w : Bool) → v ≡ is_bare (elim v [ true ↦ bare (b ∷ c ∷ t) | false ↦ elim w [ true ↦ lettered b (c ∷ t) | false ↦ unjudged ] ])
    go true w = refl
    go false true = refl
    go false false = refl

pub starts_by : (t : Bytes) (x : Numeral) → numeral t ≡ x → starts_number t ≡ is_bare x
starts_by t x e = starts_bare t ∙ ap is_bare e

-- row 3 of a list right after `syn`
pub syn_sound : (t s : Bytes) → numeral t ≡ bare s → sound (bytes "syn") t ≡ true → every (within (pos 0) (pos max_actions)) (parts comma s) ≡ true
syn_sound t s e h = sym (judged_syn s least_number greatest_number) ∙ sym (sound_bare (bytes "syn") t s e) ∙ h

module _ (A : ℕ) (before t : Bytes) where
  pub list_case : (x : Numeral) → numeral t ≡ x
      → list_sound A before t
      ≡ elim x [ unjudged ↦ true | bare s ↦ elim (same before (bytes "syn")) [ true ↦ rises A 0 (items s) | false ↦ true ] | lettered b s ↦ true ]
  unfolding list_sound
  list_case x e =
      ap (λ (y : Numeral). elim y as (λ q. Bool) [ unjudged ↦ true | bare s ↦ elim (same before (bytes "syn")) as (λ q. Bool) [ true ↦ rises A 0 (items s) | false ↦ true ] | lettered b s ↦ true ]) e

  kept_case : (due starts : Bool) → starts_number t ≡ starts
      → list_kept A due t ≡ elim (due && starts) [ true ↦ (list_of A (parts comma t)).rising | false ↦ true ]
  unfolding list_kept
  kept_case due starts e = ap (λ (b : Bool). elim (due && b) as (λ q. Bool) [ true ↦ (list_of A (parts comma t)).rising | false ↦ true ]) e

  unlisted : starts_number t ≡ false → list_kept A (same before (bytes "syn")) t ≡ true
  unlisted e =
      kept_case (same before (bytes "syn")) false e ∙
      ap (λ (b : Bool). elim b as (λ q. Bool) [ true ↦ (list_of A (parts comma t)).rising | false ↦ true ]) (and-false (same before (bytes "syn")))

  one_kept : sound before t ≡ true → list_kept A (same before (bytes "syn")) t ≡ list_sound A before t
  unfolding is_bare items
  one_kept h = go (numeral t) refl
    where
      after : (s : Bytes) → numeral t ≡ bare s → (v : Bool) → same before (bytes "syn") ≡ v
          → list_kept A v t ≡ elim v as (λ q. Bool) [ true ↦ rises A 0 (items s) | false ↦ true ]
      after s e true q =
          let z : sound (bytes "syn") t ≡ true = ap (λ b. sound b t) (sym (same_is before (bytes "syn") q)) ∙ h in
          let same_list : (list_of A (parts comma t)).rising ≡ (list_of A (parts comma s)).rising =
          ap (λ u. (list_of A (parts comma u)).rising) (bare_is t s e).0 in
          kept_case true true (starts_by t (bare s) e) ∙ same_list ∙ list_rising A (parts comma s) (syn_sound t s e z)
      after s e false q = kept_case false true (starts_by t (bare s) e)

      go : (x : Numeral) → numeral t ≡ x → list_kept A (same before (bytes "syn")) t ≡ list_sound A before t
      go unjudged e = unlisted (starts_by t unjudged e) ∙ sym (list_case unjudged e)
      go (bare s) e = after s e (same before (bytes "syn")) refl ∙ sym (list_case (bare s) e)
      go (lettered b s) e = unlisted (starts_by t (lettered b s) e) ∙ sym (list_case (lettered b s) e)

all_kept : (A : ℕ) (before : Bytes) (ts : List Bytes) → sounds before ts ≡ true
    → lists_kept A (same before (bytes "syn")) ts ≡ lists_sound A before ts
unfolding lists_kept lists_sound
all_kept A before [] h = refl
all_kept A before (t ∷ ts) h =
    let i = sounds_inv before t ts h in
    ap (λ (v : Bool). elim v as (λ q. Bool) [ true ↦ lists_kept A (same t (bytes "syn")) ts | false ↦ false ]) (one_kept A before t i.0) ∙
    ap (λ (v : Bool). elim (list_sound A before t) as (λ q. Bool) [ true ↦ v | false ↦ false ]) (all_kept A t ts i.1)

-- the law of `lists_sound`: row 5, where row 3 is not broken
pub lists_sound_lem : (A : ℕ) (s : Bytes) → sounds [] (tokens s) ≡ true → lists_kept A false (tokens s) ≡ lists_sound A [] (tokens s)
unfolding same
lists_sound_lem A s h = all_kept A [] (tokens s) h
