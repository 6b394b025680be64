-- The place after a token and its P: from there on the tokens are those outside of all P.
use Prim.Native.Nat.{ℕ, ◌+◌, ◌≤◌}
use mathlib.Core.Path.{◌≡◌, refl, sym, ◌∙◌, ap}
use mathlib.Core.Bool.{Bool, true, false, true≢false}
use mathlib.Core.List.{List, [], ◌∷◌}
use native.Mathlib.Omega.{arith}
use lib.ListN.{length}
use lib.Dec.{eqb}
use Rattle.model.specs.Basic.{same}
use Rattle.format.specs.Bytes.{Bytes, bytes, parts, comma, space, 'a}
use Rattle.format.specs.Number.{digit}
use Rattle.format.specs.Tokens.{outside}
use Rattle.format.proofs.BytesLaws.{same_is}
use Rattle.format.proofs.StartLaws.{outside_anywhere, outside_later}
use Rattle.std.specs.Prelude as Std
use Rattle.std.specs.Prelude.{Some, None}
use Rattle.text_numbers.specs.Number.{natural_in}
use Rattle.text_bytes.proofs.Parting.{parts_from}
use Rattle.read_extent.specs.Extent.{after_start}
use Rattle.read_extent.proofs.Extents.{after_is, after_within}
use Rattle.read_composition.specs.declared.list.Listed.{Listed}
use Rattle.read_composition.specs.declared.token.Kind.{Kind}
use Rattle.read_composition.specs.declared.token.Kind.TheVariants.{Par, Syn, Set, Ini, Stray}
use Rattle.read_composition.specs.List.{list_of}
use Rattle.read_composition.specs.Token.{starts_number, leaf_of, leaf_kind, word_kind, set_kind, kind_of, is_ini, is_stray}
use Rattle.read_composition.specs.Read.{place_beyond}

-- `beyond`
module _ (s : Bytes) (next : ℕ) (k : Kind) (p : Bool) (e : p ≡ is_ini k) where
  pub beyond_start : (r : ℕ) → p ≡ true → r ≡ after_start s next → r ≡ place_beyond s next k
  unfolding place_beyond
  beyond_start r h z = rw (sym e ∙ h, place_beyond) z

  pub beyond_none : p ≡ false → next ≡ place_beyond s next k
  unfolding place_beyond
  beyond_none h = rw (sym e ∙ h, place_beyond)

pub ruleset beyond_laws = (beyond_start, beyond_none)

-- it is not before the place after the token, and not far past the end
pub beyond_bounds : (s : Bytes) (next : ℕ) (k : Kind) → next ≤ length s + 1 → (next ≤ place_beyond s next k) × (place_beyond s next k ≤ length s + 1)
unfolding place_beyond
beyond_bounds s next k h = go (is_ini k)
  where
    go : (v : Bool) → (next ≤ elim v as (λ q. ℕ) [ true ↦ after_start s next | false ↦ next ]) × (elim v as (λ q. ℕ) [ true ↦ after_start s next | false ↦ next ] ≤ length s + 1)
    go true = after_within s next h
    go false = (omega arith, h)

-- the tokens of C after its first
unfoldable pub further : Bytes → List Bytes → List Bytes
further t ts = elim (same t (bytes "ini")) [ true ↦ outside 1 t ts | false ↦ outside 0 t ts ]

pub outside_first : (t : Bytes) (ts : List Bytes) → outside 0 [] (t ∷ ts) ≡ t ∷ further t ts
unfolding outside further
outside_first t ts = go (same t (bytes "ini"))
  where
    go : (v : Bool) → elim v as (λ q. List Bytes) [ true ↦ t ∷ outside 1 t ts | false ↦ t ∷ outside 0 t ts ]
        ≡ t ∷ elim v as (λ q. List Bytes) [ true ↦ outside 1 t ts | false ↦ outside 0 t ts ]
    go true = refl
    go false = refl

-- only the word `ini` is of that kind, and where a list is due it is stray
leaf_no_ini : (t : Bytes) → is_ini (leaf_kind t) ≡ false
unfolding leaf_kind is_ini
leaf_no_ini [] = refl
leaf_no_ini (b ∷ t) = go (eqb b 'a) (natural_in t 15)
  where
    go : (v : Bool) (n : Std.Option ℕ) → is_ini (elim v as (λ q. Kind) [ true ↦ leaf_of n | false ↦ Stray ]) ≡ false
    go true (Some k) = unfold leaf_of in refl
    go true None = unfold leaf_of in refl
    go false n = refl

word_no_ini : (t : Bytes) → same t (bytes "ini") ≡ false → is_ini (word_kind t) ≡ false
unfolding word_kind is_ini
word_no_ini t e = go (same t (bytes "syn")) (same t (bytes "par")) (same t (bytes "ini")) e
  where
    go : (v w x : Bool) → x ≡ false
        → is_ini (elim v as (λ q. Kind) [ true ↦ Syn | false ↦ elim w as (λ q. Kind) [ true ↦ Par | false ↦ elim x as (λ q. Kind) [ true ↦ Ini | false ↦ leaf_kind t ] ] ]) ≡ false
    go true w x h = refl
    go false true x h = refl
    go false false true h = absurd (true≢false h)
    go false false false h = leaf_no_ini t

set_no_ini : (t : Bytes) → is_ini (set_kind t) ≡ false
unfolding set_kind is_ini
set_no_ini t = go (starts_number t) (list_of 63 (parts comma t))
  where
    go : (v : Bool) (l : Listed) → is_ini (elim v as (λ q. Kind) [ true ↦ Set l.low l.high | false ↦ Stray ]) ≡ false
    go true l = refl
    go false l = refl

kind_no_ini : (due : Bool) (t : Bytes) → same t (bytes "ini") ≡ false → is_ini (kind_of due t) ≡ false
unfolding kind_of
kind_no_ini true t e = set_no_ini t
kind_no_ini false t e = word_no_ini t e

pub ini_kind : word_kind (bytes "ini") ≡ Ini
unfolding word_kind same
ini_kind = refl

pub ini_due : set_kind (bytes "ini") ≡ Stray
unfolding set_kind starts_number digit
ini_due = refl

-- where the token is not stray, the tokens of C go on from there
module _ (s : Bytes) (next : ℕ) (h : next ≤ length s + 1) where
  after_ini : outside 1 (bytes "ini") (parts_from space s next) ≡ outside 0 [] (parts_from space s (after_start s next))
  after_ini = outside_later (parts_from space s next) 1 (bytes "ini") [] ∙ ap (outside 0 []) (sym (after_is s next h))

  at_ini : (due : Bool) → is_stray (kind_of due (bytes "ini")) ≡ false → after_start s next ≡ place_beyond s next (kind_of due (bytes "ini"))
  unfolding kind_of is_ini is_stray
  at_ini true n = absurd (true≢false (sym (ap is_stray ini_due) ∙ n))
  at_ini false n = beyond_start s next (word_kind (bytes "ini")) true (ap is_ini (sym ini_kind)) (after_start s next) refl refl

  pub further_from : (due : Bool) (t : Bytes) → is_stray (kind_of due t) ≡ false
      → further t (parts_from space s next) ≡ outside 0 [] (parts_from space s (place_beyond s next (kind_of due t)))
  unfolding further
  further_from due t n = go (same t (bytes "ini")) refl
    where
      go : (v : Bool) → same t (bytes "ini") ≡ v
          → elim v as (λ q. List Bytes) [ true ↦ outside 1 t (parts_from space s next) | false ↦ outside 0 t (parts_from space s next) ]
          ≡ outside 0 [] (parts_from space s (place_beyond s next (kind_of due t)))
      go true e =
          let i = same_is t (bytes "ini") e in
          let m : is_stray (kind_of due (bytes "ini")) ≡ false = ap (λ u. is_stray (kind_of due u)) (sym i) ∙ n in
          rw i (after_ini ∙ ap (λ j. outside 0 [] (parts_from space s j)) (at_ini due m))
      go false e =
          outside_anywhere (parts_from space s next) t [] ∙
          ap (λ j. outside 0 [] (parts_from space s j)) (beyond_none s next (kind_of due t) false (sym (kind_no_ini due t e)) refl)
