-- Each way out of the code of src/token.rt.
use Prim.Native.Nat.{ℕ, ◌≤◌}
use mathlib.Core.Path.{◌≡◌, refl, sym, ◌∙◌, ap}
use mathlib.Core.Bool.{Bool, true, false, ◌||◌, ◌&&◌}
use mathlib.Core.List.{[], ◌∷◌}
use native.Mathlib.Omega.{arith}
use borrow.Author.Tests.{eq-eqb, ne_eqb, not-true, not-false}
use lib.ListN.{length, get_or, take, drop}
use lib.Dec.{eqb}
use Rattle.model.specs.Basic.{same}
use Rattle.format.specs.Bytes.{Bytes, bytes, parts, comma, minus}
use Rattle.format.specs.Number.{digit}
use Rattle.text_numbers.specs.Number.{natural_in}
use Rattle.std.specs.Prelude as Std
use Rattle.std.specs.Prelude.{Some, None}
use Rattle.std.specs.Cmp.Lexicographic.{pointwise}
use Rattle.read_composition.specs.declared.list.Listed.{Listed}
use Rattle.read_composition.specs.declared.token.Kind.{Kind}
use Rattle.read_composition.specs.declared.token.Kind.TheVariants.{Par, Syn, Set, Ini, Leaf, Stray}
use Rattle.read_composition.specs.List.{list_of}
use Rattle.read_composition.specs.Token.{starts_number, leaf_of, leaf_kind, word_kind, set_kind, kind_of, is_syn, is_ini, is_stray}

-- `starts_number`
pub starts_none : (t : Bytes) → length t ≡ 0 → false ≡ starts_number t
unfolding starts_number
starts_none [] h = refl
starts_none (b ∷ t) h = absurd (omega arith)

pub starts_first : (t : Bytes) (r : Bool) → 1 ≤ length t → r ≡ (digit (get_or t 0 0) || eqb (get_or t 0 0) minus) → r ≡ starts_number t
unfolding starts_number
starts_first [] r h e = absurd (omega arith)
starts_first (b ∷ t) r h e = e

pub ruleset starts_laws = (starts_none, starts_first)

-- `leaf`
module _ (t rest : Bytes) where
  pub leaf_other : pointwise eqb (take 1 t) (97 ∷ []) ≡ false → Stray ≡ leaf_kind t
  unfolding leaf_kind
  leaf_other h = go t h
    where
      go : (u : Bytes) → pointwise eqb (take 1 u) (97 ∷ []) ≡ false → Stray ≡ leaf_kind u
      go [] k = refl
      go (b ∷ u) k = by_first (eqb b 97) refl k
        where
          by_first : (v : Bool) → eqb b 97 ≡ v → (v && true) ≡ false → Stray ≡ elim (eqb b 97) as (λ x. Kind) [ true ↦ leaf_of (natural_in u 15) | false ↦ Stray ]
          by_first true e z = absurd (let q : ◌≡◌ {A = ℕ} 0 1 = cc in omega arith)
          by_first false e z = rw e

  module _ (h : pointwise eqb (take 1 t) (97 ∷ []) ≡ true) (i : rest ≡ drop 1 t) (n : Std.Option ℕ) (e : n ≡ natural_in rest 15) where
    by_rest : leaf_of n ≡ leaf_kind t
    unfolding leaf_kind
    by_rest = ap leaf_of (e ∙ ap (λ u. natural_in u 15) i) ∙ go t h
      where
        go : (u : Bytes) → pointwise eqb (take 1 u) (97 ∷ []) ≡ true → leaf_of (natural_in (drop 1 u) 15) ≡ leaf_kind u
        go [] k = absurd (let q : ◌≡◌ {A = ℕ} 0 1 = cc in omega arith)
        go (b ∷ u) k = by_first (eqb b 97) refl k
          where
            by_first : (v : Bool) → eqb b 97 ≡ v → (v && true) ≡ true → leaf_of (natural_in u 15) ≡ elim (eqb b 97) as (λ x. Kind) [ true ↦ leaf_of (natural_in u 15) | false ↦ Stray ]
            by_first true j z = rw j
            by_first false j z = absurd (let q : ◌≡◌ {A = ℕ} 0 1 = cc in omega arith)

    pub leaf_in : (k : ℕ) → n ≡ Some k → Leaf k ≡ leaf_kind t
    unfolding leaf_of
    leaf_in k z = ap leaf_of (sym z) ∙ by_rest

    pub leaf_out : n ≡ None → Stray ≡ leaf_kind t
    unfolding leaf_of
    leaf_out z = ap leaf_of (sym z) ∙ by_rest

pub ruleset leaf_laws = (leaf_other, leaf_in, leaf_out)

-- `word`
module _ (t : Bytes) (p : Bool) (e : p ≡ same t (bytes "syn")) where
  pub word_syn : p ≡ true → Syn ≡ word_kind t
  unfolding word_kind
  word_syn h = rw (sym e ∙ h, word_kind)

  module _ (h : p ≡ false) (q : Bool) (f : q ≡ same t (bytes "par")) where
    pub word_par : q ≡ true → Par ≡ word_kind t
    unfolding word_kind
    word_par g = rw (sym e ∙ h, word_kind, sym f ∙ g, word_kind)

    module _ (g : q ≡ false) (o : Bool) (i : o ≡ same t (bytes "ini")) where
      pub word_ini : o ≡ true → Ini ≡ word_kind t
      unfolding word_kind
      word_ini j = rw (sym e ∙ h, word_kind, sym f ∙ g, word_kind, sym i ∙ j, word_kind)

      pub word_leaf : (r : Kind) → o ≡ false → r ≡ leaf_kind t → r ≡ word_kind t
      unfolding word_kind
      word_leaf r j z = rw (sym e ∙ h, word_kind, sym f ∙ g, word_kind, sym i ∙ j, word_kind) z

pub ruleset word_laws = (word_syn, word_par, word_ini, word_leaf)

-- `set`
module _ (t : Bytes) (p : Bool) (e : p ≡ starts_number t) where
  pub set_none : p ≡ false → Stray ≡ set_kind t
  unfolding set_kind
  set_none h = rw (sym e ∙ h, set_kind)

  pub set_some : (l : Listed) → p ≡ true → l ≡ list_of 63 (parts comma t) → Set l.low l.high ≡ set_kind t
  unfolding set_kind
  set_some l h z = rw (sym e ∙ h, set_kind, z)

pub ruleset set_laws = (set_none, set_some, not-true, not-false)

-- `kind_of`, `is_syn`, `is_ini` and `is_stray`
pub kind_due : (t : Bytes) (due : Bool) (r : Kind) → due ≡ true → r ≡ set_kind t → r ≡ kind_of due t
unfolding kind_of
kind_due t due r h e = rw h e

pub kind_word : (t : Bytes) (due : Bool) (r : Kind) → due ≡ false → r ≡ word_kind t → r ≡ kind_of due t
unfolding kind_of
kind_word t due r h e = rw h e

pub ruleset kind_laws = (kind_due, kind_word)

module _ (k : Kind) where
  pub syn_syn : k ≡ Syn → true ≡ is_syn k
  unfolding is_syn
  syn_syn e = rw e

  pub syn_other : (k ≡ Syn → ⊥) → false ≡ is_syn k
  unfolding is_syn
  syn_other n = go k n
    where
      go : (x : Kind) → (x ≡ Syn → ⊥) → false ≡ is_syn x
      go Syn h = absurd (h refl)
      go Par h = refl
      go (Set a b) h = refl
      go Ini h = refl
      go (Leaf a) h = refl
      go Stray h = refl

  pub ini_ini : k ≡ Ini → true ≡ is_ini k
  unfolding is_ini
  ini_ini e = rw e

  pub ini_other : (k ≡ Ini → ⊥) → false ≡ is_ini k
  unfolding is_ini
  ini_other n = go k n
    where
      go : (x : Kind) → (x ≡ Ini → ⊥) → false ≡ is_ini x
      go Ini h = absurd (h refl)
      go Par h = refl
      go Syn h = refl
      go (Set a b) h = refl
      go (Leaf a) h = refl
      go Stray h = refl

  pub stray_stray : k ≡ Stray → true ≡ is_stray k
  unfolding is_stray
  stray_stray e = rw e

  pub stray_other : (k ≡ Stray → ⊥) → false ≡ is_stray k
  unfolding is_stray
  stray_other n = go k n
    where
      go : (x : Kind) → (x ≡ Stray → ⊥) → false ≡ is_stray x
      go Stray h = absurd (h refl)
      go Par h = refl
      go Syn h = refl
      go (Set a b) h = refl
      go Ini h = refl
      go (Leaf a) h = refl

pub ruleset is_laws = (syn_syn, syn_other, ini_ini, ini_other, stray_stray, stray_other)
