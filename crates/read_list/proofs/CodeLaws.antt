-- Each way out of the code.
use Prim.Native.Nat.{ℕ, ◌+◌, ◌-◌, ◌≤◌, ◌<◌}
use mathlib.Core.Path.{◌≡◌, refl, sym, ◌∙◌, ap}
use mathlib.Core.Bool.{true, false, ◌&&◌, ◌||◌}
use mathlib.Core.List.{List, [], ◌∷◌}
use native.Mathlib.Omega.{arith}
use lib.ListN.{length, take, drop}
use lib.IntN.{pos}
use lib.Dec.{leb}
use Rattle.std.specs.Prelude.{Option, Some, None}
use Rattle.format.specs.Bytes.{Bytes, parts, comma}
use Rattle.format.specs.Number.{within, natural_of}
use Rattle.format.specs.Rows.{list_items}
use Rattle.text_numbers.specs.Number.{natural_in}
use Rattle.text_numbers.proofs.NumberLaws.{natural_said, natural_denied}
use Rattle.table_writes.specs.Sets.{clear}
use Rattle.read_list.specs.declared.Asked.{Asked}
use Rattle.read_list.specs.declared.Listed.{Listed}
use Rattle.read_list.specs.declared.Items.{Items}
use Rattle.read_list.specs.Items.{with_item, no_items, items_from, items_of}

-- `no_items` and `with_item`
pub none_yet : (q : Asked) → record { least = q.least; rising = true; outside = false; rest = q.all } ≡ no_items q
unfolding no_items
none_yet q = refl

pub item_with : (q : Asked) (x : Items) (k n rest : ℕ) → n ≡ k → rest ≡ clear x.rest k
    → record { least = n + 1; rising = x.rising && leb x.least n; outside = x.outside || leb q.below n; rest = rest } ≡ with_item q x k
unfolding with_item
item_with q x k n rest e f = rw (e, f)

pub ruleset item_laws = (none_yet, item_with)

-- `filled`
next_no : (q : Asked) (x : Items) (s : Bytes) (ss : List Bytes) → within (pos 0) (pos q.most) s ≡ false → items_from q x (s ∷ ss) ≡ None
unfolding items_from
next_no q x s ss h = rw (h, items_from)

pub next_yes : (q : Asked) (x : Items) (s : Bytes) (ss : List Bytes) → within (pos 0) (pos q.most) s ≡ true
    → items_from q x (s ∷ ss) ≡ items_from q (with_item q x (natural_of s)) ss
unfolding items_from
next_yes q x s ss h = rw (h, items_from)

module _ (s : Bytes) (q : Asked) where
  pub items_start : (x : Items) → x ≡ no_items q → items_of q (parts comma s) ≡ items_from q x (drop 0 (parts comma s))
  unfolding items_of
  items_start x e = ap (λ (y : Items). items_from q y (parts comma s)) (sym e)

  module _ (i : ℕ) (x : Items) (inv : items_of q (parts comma s) ≡ items_from q x (drop i (parts comma s))) where
    pub items_end : ◌≡◌ {A = List Bytes} (drop i (parts comma s)) [] → Some (record { rising = x.rising; outside = x.outside; rest = x.rest }) ≡ items_of q (parts comma s)
    unfolding items_from
    items_end h = sym (inv ∙ ap (items_from q x) h)

    module _ (t : Bytes) (more : drop i (parts comma s) ≡ t ∷ drop (i + 1) (parts comma s)) where
      pub items_no : None ≡ natural_in t q.most → None ≡ items_of q (parts comma s)
      items_no z = sym (inv ∙ ap (items_from q x) more ∙ next_no q x _ _ (natural_denied _ q.most (sym z)))

      pub items_go : (k : ℕ) (new : Items) (j : ℕ) → Some k ≡ natural_in t q.most → new ≡ with_item q x k → j ≡ i + 1 → items_of q (parts comma s) ≡ items_from q new (drop j (parts comma s))
      items_go k new j z w e =
          let said = natural_said _ q.most k (sym z) in
          inv ∙ ap (items_from q x) more ∙ next_yes q x _ _ said.0 ∙
          ap (λ n. items_from q (with_item q x n) (drop (i + 1) (parts comma s))) said.1 ∙
          rw (w, e)

-- `read`
pub read_none : (s : Bytes) (q : Asked) → length s ≡ 0 → Some (record { rising = true; outside = false; rest = q.all }) ≡ items_of q (list_items s)
unfolding items_of items_from no_items list_items
read_none [] q h = refl
read_none (b ∷ t) q h = absurd (omega arith)

pub read_some : (s : Bytes) (q : Asked) (r : Option Listed) → (length s ≡ 0 → ⊥) → r ≡ items_of q (parts comma s) → r ≡ items_of q (list_items s)
unfolding list_items
read_some [] q r h e = absurd (h refl)
read_some (b ∷ t) q r h e = e

pub ruleset read_laws = (read_none, read_some)
