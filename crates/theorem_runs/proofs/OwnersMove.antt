-- In format 3 no step changes a variable that no taker's automaton owns.
use Prim.Native.Nat.{ℕ, ◌≤◌, ◌<◌}
use mathlib.Core.Path.{◌≡◌, refl, sym, subst}
use mathlib.Core.Bool.{Bool, true, false}
use mathlib.Core.List.Memᴰ
use mathlib.Core.List.{List, Memᴰ}
use mathlib.Core.Logic.{◌⊎◌, inl, inr}
use mathlib.Core.Option.{some}
use borrow.Author.Tests.{ltb-true, ltb-false}
use lib.ListN.{length, get_or-eq_default}
use lib.Dec.{ltb}
use Rattle.model.specs.Bounds.{owners_format}
use Rattle.model.specs.Predicate.{words, mentions, names_outside}
use Rattle.model.specs.Composition.{Tree}
use Rattle.model.specs.Model.{Model, Edge, Automaton, automaton, nobody, owner_of}
use Rattle.model.specs.Lawful.{Lawful}
use Rattle.model.specs.Rules.{State, Taker, mentioned, Moves, rule_1, rule_3, rule_4_left, rule_4_right, rule_6, ini_moves, Step}
use Rattle.model.proofs.Tests.{exists_elim}
use Rattle.model.proofs.Merged.{automaton_at_lem}
use Rattle.model.proofs.Owners.{mentioned_owned}
use Rattle.theorem_runs.specs.Foreign.{OwnersMove}

module _ (m : Model) where
  -- every taker takes an edge of its own
  abbrev Listed : Taker → Type 0
  Listed x = Memᴰ x.edge (automaton m x.automaton).edges

  takers_listed : {s : State} {a : ℕ} {t : State} {c : Tree} {xs : List Taker} → Moves m s a t c xs → (x : Taker) → Memᴰ x xs → Listed x
  takers_listed (rule_1 h) x (Memᴰ.head e) = subst Listed (sym e) h.listed
  takers_listed (rule_1 h) x (Memᴰ.tail i) = absurd (Memᴰ.not-nil i)
  takers_listed (rule_3 {x = xs} i j p q) x k = go (Memᴰ.append_cases xs k) (λ n. takers_listed p x n) (λ n. takers_listed q x n)
    where
      go : {ys zs : List Taker} → Memᴰ x ys ⊎ Memᴰ x zs → (Memᴰ x ys → Listed x) → (Memᴰ x zs → Listed x) → Listed x
      go (inl k) f g = f k
      go (inr k) f g = g k
  takers_listed (rule_4_left p r i) x k = takers_listed p x k
  takers_listed (rule_4_right r p i) x k = takers_listed p x k
  takers_listed (rule_6 p) x k = takers_listed p x k
  takers_listed (ini_moves i p) x k = takers_listed p x k

  -- past the last automaton there are no edges
  listed_inside : (i : ℕ) (e : Edge) → Memᴰ e (automaton m i).edges → i < length m.automata
  listed_inside i e h = go (ltb i (length m.automata)) refl
    where
      go : (b : Bool) → ltb i (length m.automata) ≡ b → i < length m.automata
      go true p = ltb-true i (length m.automata) p
      go false p =
          let past : length m.automata ≤ i = ltb-false i (length m.automata) p in
          absurd (Memᴰ.not-nil (subst (λ (x : Automaton). Memᴰ e x.edges) (get_or-eq_default m.automata nobody past) h))

pub owners_move : (m : Model) → Lawful m → OwnersMove m
unfolding mentioned
owners_move m lawful = record { owned = λ f s a t mark q k l none. q.frame k l (unmentioned f q k none (mentioned k q.takers) refl) }
  where
    named : (i : ℕ) (e : Edge) → Memᴰ e (automaton m i).edges → names_outside (length m.variables) (words e.update) ≡ false
    named i e = automaton_at_lem m lawful (λ x. Memᴰ e x.edges → names_outside (length m.variables) (words e.update) ≡ false) (λ j. absurd (Memᴰ.not-nil j)) (λ x h j. (h.edges e j).update.named) i

    unmentioned : owners_format ≤ m.format → {s : State} {a : ℕ} {t : State} {mark : Bool} (q : Step m s a t mark) (k : ℕ)
        → ((x : Taker) → Memᴰ x q.takers → owner_of m k ≡ some x.automaton → ⊥)
        → (b : Bool) → mentioned k q.takers ≡ b → mentioned k q.takers ≡ false
    unmentioned f q k none true e =
        let x = exists_elim (λ (y : Taker). mentions k y.edge.update) q.takers (unfold mentioned in e) in
        let i = takers_listed m q.moves x.0 x.1 in
        absurd (none x.0 x.1 (mentioned_owned m lawful f x.0.automaton (listed_inside m x.0.automaton x.0.edge i) x.0.edge i (named x.0.automaton x.0.edge i) k x.2))
    unmentioned f q k none false e = e
