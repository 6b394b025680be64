-- The places of a move say which automata take an edge, and from where to where; a place 0, the wild-card, says that its automaton takes none.
use mathlib.Core.Path.{◌≡◌, refl, sym, ap, ap₂, ◌∙◌}
use mathlib.Core.Bool.{true, false}
use mathlib.Core.List.{List, [], ◌∷◌, ◌++◌, map}
use mathlib.Core.Option
use mathlib.Core.Option.{Option, none, some}
use Prim.Native.Nat.{ℕ, zero, suc, ◌≤◌, ◌<◌}
use native.Mathlib.Omega.{arith}
use lib.ListN.{length, drop, take}
use lib.Dec.{eqb}
use borrow.Author.Tests.{eq-eqb, ne_eqb}
use Rattle.model.specs.Basic.{count_up}
use Rattle.model.specs.Model.{Edge, Model}
use Rattle.model.specs.Rules.{Taker}
use Rattle.model.specs.Lawful.{Lawful}
use Rattle.model.specs.Lines.{edge_line}
use Rattle.model.specs.Table.{line_words, sheet_words}
use Rattle.model.specs.Moves.{alone}
use Rattle.table_places.specs.Outline.{edge_from, edge_to}
use Rattle.table_places.specs.Layout.{layout_of}
use Rattle.table_places.proofs.OutlineLaws.{from_stands, to_stands}
use Rattle.merge_table.proofs.PlacesAre.{Placed, absent, taking, PlacedAll, no_more, one_more_lem}
use Rattle.merge_table.proofs.GatherIs.{Move, Recorded, sixteen, recorded_placed}

-- what f reads at the place of an edge; nothing at the wild-card
unfoldable pub read_at : (f : ℕ → ℕ) (place : ℕ) → Option ℕ
read_at f place = elim (eqb place 0) [ true ↦ none | false ↦ some (f place) ]

-- the edge that automaton k takes, if it is one of the takers
unfoldable pub taken_by : (ts : List Taker) (k : ℕ) → Option Edge
taken_by [] k = none
taken_by (x ∷ xs) k = elim (eqb k x.automaton) [ true ↦ some x.edge | false ↦ taken_by xs k ]

-- of takers, the first and those after it
module _ (i : ℕ) (e : Edge) (ts : List Taker) where
  taken_first : taken_by (alone i e ++ ts) i ≡ some e
  unfolding taken_by
  taken_first = rw (eq-eqb i i refl, taken_by)

  taken_other : (k : ℕ) → (i ≡ k → ⊥) → taken_by (alone i e ++ ts) k ≡ taken_by ts k
  unfolding taken_by
  taken_other k h = rw (ne_eqb k i (λ z. h (sym z)), taken_by)

-- no automaton before the first of the places is a taker
none_before : (t : List ℕ) {i : ℕ} {ps : List ℕ} {ts : List Taker} → PlacedAll t i ps ts → (k : ℕ) → k < i → taken_by ts k ≡ none
unfolding taken_by
none_before t (no_more i) k h = refl
none_before t (one_more_lem i p ps a b one more) k h = go one (none_before t more k (omega arith))
  where
    go : {q : ℕ} {c : List Taker} → Placed t i q c → taken_by b k ≡ none → taken_by (c ++ b) k ≡ none
    go absent ih = ih
    go (taking place e rest at above few) ih = taken_other i e b k (λ z. absurd (omega arith)) ∙ ih

-- two functions that agree from a number on
same_from : {A : Type 0} (f g : ℕ → A) (n i : ℕ) → ((k : ℕ) → i ≤ k → f k ≡ g k) → map f (count_up i n) ≡ map g (count_up i n)
unfolding count_up
same_from f g zero i h = refl
same_from {A} f g (suc n) i h = ap₂ (λ (x : A) (l : List A). x ∷ l) (h i (omega arith)) (same_from f g n (suc i) (λ k l. h k (omega arith)))

-- what is read at the places is what the takers' edges have
module _ (t : List ℕ) (f : ℕ → ℕ) (g : Edge → ℕ) (reads : (place : ℕ) (e : Edge) (rest : List ℕ) → drop place t ≡ line_words (edge_line e) ++ rest → f place ≡ g e) where
  abbrev taken_for : List Taker → ℕ → Option ℕ
  taken_for ts k = Option.map g (taken_by ts k)

  places_read : {i : ℕ} {ps : List ℕ} {ts : List Taker} → PlacedAll t i ps ts → (n : ℕ) → n ≤ length ps → map (read_at f) (take n ps) ≡ map (taken_for ts) (count_up i n)
  unfolding count_up
  places_read (no_more i) zero h = refl
  places_read (no_more i) (suc n) h = absurd (omega arith)
  places_read (one_more_lem i p ps a b one more) zero h = refl
  places_read (one_more_lem i p ps a b one more) (suc n) h = go one (places_read more n (omega arith))
    where
      go : {q : ℕ} {c : List Taker} → Placed t i q c → map (read_at f) (take n ps) ≡ map (taken_for b) (count_up (suc i) n)
          → read_at f q ∷ map (read_at f) (take n ps) ≡ taken_for (c ++ b) i ∷ map (taken_for (c ++ b)) (count_up (suc i) n)
      go absent ih = ap₂ (λ (x : Option ℕ) (l : List (Option ℕ)). x ∷ l) (wild ∙ sym (ap (Option.map g) (none_before t more i (omega arith)))) ih
        where
          wild : read_at f 0 ≡ none
          wild = unfold read_at in refl
      go (taking place e rest at above few) ih =
          ap₂ (λ (x : Option ℕ) (l : List (Option ℕ)). x ∷ l) (here ∙ sym (ap (Option.map g) (taken_first i e b)))
          (ih ∙ same_from (taken_for b) (taken_for (alone i e ++ b)) n (suc i) (λ k l. ap (Option.map g) (sym (taken_other i e b k (λ z. absurd (omega arith))))))
        where
          here : read_at f place ≡ some (g e)
          here = unfold read_at in rw (ne_eqb place 0 (λ z. absurd (omega arith)), read_at) (ap (λ (x : ℕ). some x) (reads place e rest at))

-- the laws for a move of the model: the first n of its sixteen places, as to FROM and TO
module _ (m : Model) (lawful : Lawful m) (t rest : List ℕ) (e : t ≡ sheet_words m ++ rest) (v : Move) (places : List ℕ) (r : Recorded m t v places) (n : ℕ) (few : n ≤ 16) where
  all_there : n ≤ length places
  all_there = omega (arith, ap length r.found, sixteen t (layout_of t) v.action r.picks)

  pub sources_are : map (read_at (edge_from t)) (take n places) ≡ map (λ k. Option.map (λ (d : Edge). d.from) (taken_by v.takers k)) (count_up 0 n)
  sources_are = places_read t (edge_from t) (λ d. d.from) (λ p d others s. from_stands t others d p s) (recorded_placed m t lawful rest e v places r) n all_there

  pub targets_are : map (read_at (edge_to t)) (take n places) ≡ map (λ k. Option.map (λ (d : Edge). d.to) (taken_by v.takers k)) (count_up 0 n)
  targets_are = places_read t (edge_to t) (λ d. d.to) (λ p d others s. to_stands t others d p s) (recorded_placed m t lawful rest e v places r) n all_there
