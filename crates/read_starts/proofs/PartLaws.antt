-- The P's one after the other.
use Prim.Native.Nat.{ℕ, ◌-◌, ◌≤◌, ◌<◌}
use mathlib.Core.Path.{◌≡◌, refl, sym, ◌∙◌, ap}
use mathlib.Core.Bool.{Bool, true, false}
use mathlib.Core.List.{List, [], ◌∷◌, map}
use native.Mathlib.Omega.{arith}
use borrow.Author.Tests.{leb-true}
use lib.Dec.{leb}
use lib.ListN.{length, take, drop}
use Rattle.format.specs.Bytes.{Bytes, joined, space}
use Rattle.format.specs.Tokens.{tokens, starts_in}
use Rattle.text_bytes.proofs.Parting.{parts_from, from_start}
use Rattle.std.specs.Prelude.{Some, None}
use Rattle.read_extent.specs.Extent.{after_start, next_start, start_among, tokens_from}
use Rattle.read_extent.proofs.Extents.{after_within, start_bytes, next_is, none_is}
use Rattle.read_starts.specs.Texts.{start_texts}

-- the bytes of the P's from a place on
abbrev pub texts_from : Bytes → ℕ → List Bytes
texts_from s from = map (joined space) (starts_in 0 [] (parts_from space s from))

pub texts_start : (s : Bytes) → start_texts s ≡ texts_from s 0
unfolding start_texts tokens
texts_start s = ap (λ (l : List Bytes). map (joined space) (starts_in 0 [] l)) (sym (from_start space s))

pub texts_none : (s : Bytes) (from : ℕ) → next_start s from ≡ None → texts_from s from ≡ []
texts_none s from e = ap (map (joined space)) (none_is s from [] e)

-- the next P, its bytes, and where the search goes on: it is found no later than at the end
next_inside : (s : Bytes) (from at : ℕ) → next_start s from ≡ Some at → from ≤ length s
unfolding next_start tokens_from start_among
next_inside s from at e = go (leb from (length s)) refl e
  where
    go : (v : Bool) → leb from (length s) ≡ v → start_among from (elim v as (λ x. List Bytes) [ true ↦ tokens (drop from s) | false ↦ [] ]) ≡ Some at → from ≤ length s
    go true h k = leb-true from (length s) h
    go false h k = absurd (let q : ◌≡◌ {A = ℕ} 0 1 = cc in omega arith)

module _ (s : Bytes) (from at : ℕ) (e : next_start s from ≡ Some at) where
  pub texts_next : texts_from s from ≡ take (after_start s at - 1 - at) (drop at s) ∷ texts_from s (after_start s at)
  texts_next =
      let n = next_is s from at [] (omega (arith, next_inside s from at e)) e in
      ap (map (joined space)) n.first ∙ ap (λ (t : Bytes). t ∷ texts_from s (after_start s at)) (sym (start_bytes s at n.within))

  pub texts_later : (from < after_start s at) × (from ≤ length s)
  texts_later =
      let i = next_inside s from at e in
      let n = next_is s from at [] (omega arith) e in
      let w = after_within s at n.within in
      let l = n.later in
      (omega (arith, w.0), i)
