-- What the answer says of a list, by its items.
use Prim.Native.Nat.{ℕ, suc}
use mathlib.Core.Path.{◌≡◌, refl, sym, ◌∙◌, ap}
use mathlib.Core.Bool.{Bool, true, false, ◌&&◌, ◌||◌, and_assoc, and-true, or-false, or_assoc}
use mathlib.Core.List.{List, [], ◌∷◌, map}
use native.Mathlib.Numerals.{add-one}
use lib.Dec.{leb}
use lib.IntN.{pos}
use Rattle.model.specs.Basic.{every, exists}
use Rattle.model.specs.Limits.{ascends}
use Rattle.model.proofs.Tests.{and_intro}
use Rattle.model.proofs.Written.{ascends_cons}
use Rattle.format.specs.Bytes.{Bytes}
use Rattle.format.specs.Number.{within, natural_of}
use Rattle.format.proofs.ReadLaws.{number_of_lem}
use Rattle.format.proofs.TokenLaws.{every_cons}
use Rattle.table_writes.specs.Sets.{cleared}
use Rattle.read_list.specs.declared.Asked.{Asked}
use Rattle.read_list.specs.declared.Listed.{Listed}
use Rattle.read_list.specs.declared.Items.{Items}
use Rattle.read_list.specs.Items.{with_item, no_items, items_from, items_of}
use Rattle.std.specs.Prelude.{Option, Some, None}
use Rattle.std.specs.Option.{is_some}
use Rattle.read_list.proofs.CodeLaws.{next_yes}

module _ (q : Asked) where
  abbrev sound : Bytes → Bool
  sound s = within (pos 0) (pos q.most) s

  from_sound : (x : Items) (ss : List Bytes) → is_some (items_from q x ss) ≡ every sound ss
  unfolding items_from every
  from_sound x [] = refl
  from_sound x (s ∷ ss) = go (sound s) (from_sound (with_item q x (natural_of s)) ss)
    where
      go : (v : Bool) → is_some (items_from q (with_item q x (natural_of s)) ss) ≡ every sound ss
          → is_some {T = Listed} (elim v as (λ b. Option Listed) [ true ↦ items_from q (with_item q x (natural_of s)) ss | false ↦ None ]) ≡ (v && every sound ss)
      go true ih = ih
      go false ih = refl

  same_listed : (a b c d : Bool) (m n : ℕ) → a ≡ b → c ≡ d → m ≡ n
      → ◌≡◌ {A = Option Listed} (Some (record { rising = a; outside = c; rest = m })) (Some (record { rising = b; outside = d; rest = n }))
  same_listed a b c d m n h e f = rw (h, e, f)

  from_listed : (ss : List Bytes) (x : Items) → every sound ss ≡ true
      → items_from q x ss ≡ Some (record { rising = x.rising && ascends x.least (map natural_of ss); outside = x.outside || exists (λ k. leb q.below k) (map natural_of ss); rest = cleared x.rest (map natural_of ss) })
  unfolding with_item exists cleared
  from_listed [] x h =
      unfold items_from ascends in same_listed _ _ _ _ _ _ (sym (and-true x.rising)) (sym (or-false x.outside)) refl
  from_listed (s ∷ ss) x h =
      let i = every_cons sound s ss h in
      let k = natural_of s in
      next_yes q x s ss i.0 ∙ from_listed ss (with_item q x k) i.1 ∙
      same_listed _ _ _ _ _ _
      (ap (λ (n : ℕ). (x.rising && leb x.least k) && ascends n (map natural_of ss)) (add-one k) ∙
      and_assoc x.rising (leb x.least k) (ascends (suc k) (map natural_of ss)) ∙
      ap (λ b. x.rising && b) (sym (ascends_cons x.least k (map natural_of ss))))
      (or_assoc x.outside (leb q.below k) (exists (λ j. leb q.below j) (map natural_of ss)))
      refl

  module _ (ss : List Bytes) where
    -- row 3
    pub items_sound : is_some (items_of q ss) ≡ every (within (pos 0) (pos q.most)) ss
    unfolding items_of
    items_sound = from_sound (no_items q) ss

    -- what is said of a list that breaks no row 3
    pub items_listed : every (within (pos 0) (pos q.most)) ss ≡ true
        → items_of q ss ≡ Some (record { rising = ascends q.least (map natural_of ss); outside = exists (λ k. leb q.below k) (map natural_of ss); rest = cleared q.all (map natural_of ss) })
    unfolding items_of no_items
    items_listed h = from_listed ss (no_items q) h

    module _ (l : Listed) (e : items_of q ss ≡ Some l) where
      listed_is : l ≡ record { rising = ascends q.least (map natural_of ss); outside = exists (λ k. leb q.below k) (map natural_of ss); rest = cleared q.all (map natural_of ss) }
      listed_is =
          let s : ◌≡◌ {A = Option Listed} (Some l) _ = sym e ∙ items_listed (sym items_sound ∙ ap (is_some {T = Listed}) e) in
          cc

      -- row 5
      pub items_rising : l.rising ≡ ascends q.least (map natural_of ss)
      items_rising = ap (λ (x : Listed). x.rising) listed_is

      -- a number at the bound or above it
      pub items_outside : l.outside ≡ exists (λ k. leb q.below k) (map natural_of ss)
      items_outside = ap (λ (x : Listed). x.outside) listed_is

      -- what is left of the set
      pub items_rest : l.rest ≡ cleared q.all (map natural_of ss)
      items_rest = ap (λ (x : Listed). x.rest) listed_is

pub items_ranged : (most : ℕ) (ss : List Bytes) → every (within (pos 0) (pos most)) ss ≡ true → every (λ k. leb k most) (map natural_of ss) ≡ true
unfolding every
items_ranged most [] h = refl
items_ranged most (s ∷ ss) h =
    let i = every_cons (within (pos 0) (pos most)) s ss h in
    and_intro (number_of_lem most s i.0).1 (items_ranged most ss i.1)
