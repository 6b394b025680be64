-- Each way out of the code of src/lists.rt.
use Prim.Native.Nat.{ℕ, ◌+◌}
use mathlib.Core.Path.{◌≡◌, refl, sym, ◌∙◌, ap}
use mathlib.Core.Bool.{Bool, true, false, ◌&&◌}
use mathlib.Core.List.{List, [], ◌∷◌}
use borrow.Author.Tests.{not-true, not-false}
use lib.ListN.{drop}
use Rattle.model.specs.Basic.{same}
use Rattle.format.specs.Bytes.{Bytes, bytes, parts, comma, space}
use Rattle.format.specs.Tokens.{tokens}
use Rattle.read_composition.specs.declared.list.Listed.{Listed}
use Rattle.read_composition.specs.List.{list_of}
use Rattle.read_composition.specs.Token.{starts_number}
use Rattle.read_composition.specs.Lists.{list_kept, lists_kept}

-- `list_kept`
module _ (A : ℕ) (due : Bool) (t : Bytes) (p : Bool) (e : p ≡ starts_number t) where
  pub kept_list : (l : Listed) → (due && p) ≡ true → l ≡ list_of A (parts comma t) → l.rising ≡ list_kept A due t
  unfolding list_kept
  kept_list l h z = rw (z, sym (ap (λ x. due && x) e) ∙ h, list_kept)

  pub kept_none : (due && p) ≡ false → true ≡ list_kept A due t
  unfolding list_kept
  kept_none h = rw (sym (ap (λ x. due && x) e) ∙ h, list_kept)

pub ruleset kept_laws = (kept_list, kept_none)

-- `lists_sound`
next_no : (A : ℕ) (due : Bool) (t : Bytes) (ts : List Bytes) → list_kept A due t ≡ false → lists_kept A due (t ∷ ts) ≡ false
unfolding lists_kept
next_no A due t ts h = rw (h, lists_kept)

next_yes : (A : ℕ) (due : Bool) (t : Bytes) (ts : List Bytes) → list_kept A due t ≡ true
    → lists_kept A due (t ∷ ts) ≡ lists_kept A (same t (bytes "syn")) ts
unfolding lists_kept
next_yes A due t ts h = rw (h, lists_kept)

-- after k tokens: was the last of them `syn`?
abbrev pub Goes : Bytes → (A : ℕ) (due : Bool) (k : ℕ) → Type 0
Goes s A due k = lists_kept A false (tokens s) ≡ lists_kept A due (drop k (parts space s))

module _ (s : Bytes) (A : ℕ) where
  pub lists_start : Goes s A false 0
  unfolding tokens
  lists_start = refl

  module _ (due : Bool) (k : ℕ) (inv : Goes s A due k) where
    pub lists_end : drop k (parts space s) ≡ [] → true ≡ lists_kept A false (tokens s)
    unfolding lists_kept
    lists_end h = sym (inv ∙ rw h)

    module _ (t : Bytes) (h : drop k (parts space s) ≡ t ∷ drop (k + 1) (parts space s)) (p : Bool) (q : p ≡ list_kept A due t) where
      pub lists_no : p ≡ false → false ≡ lists_kept A false (tokens s)
      lists_no z = sym (inv ∙ ap (lists_kept A due) h ∙ next_no A due t _ (sym q ∙ z))

      pub lists_go : p ≡ true → (d : Bool) → d ≡ same t (bytes "syn") → (l : ℕ) → l ≡ k + 1 → Goes s A d l
      lists_go z d w l e =
          inv ∙ ap (lists_kept A due) h ∙ next_yes A due t _ (sym q ∙ z) ∙
          ap (λ x. lists_kept A x (drop (k + 1) (parts space s))) (sym w) ∙ ap (λ j. lists_kept A d (drop j (parts space s))) (sym e)

pub ruleset lists_laws = (lists_start, lists_end, lists_no, lists_go, not-true, not-false)
