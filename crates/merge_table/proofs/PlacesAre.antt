-- What the sixteen places of a merged edge say of its takers: 0 for an automaton that takes none (the wild-card), and otherwise where the edge stands that it takes.
use mathlib.Core.Path.{◌≡◌, refl, sym, ap, ap₂, ◌∙◌}
use mathlib.Core.Bool.{false}
use mathlib.Core.List.Memᴰ
use mathlib.Core.List.{List, [], ◌∷◌, ◌++◌, map, Memᴰ}
use Prim.Native.Nat.{ℕ, suc, ◌≤◌}
use native.Mathlib.Omega.{arith}
use lib.ListN.{drop}
use lib.Dec.{eqb}
use borrow.Author.Tests.{ne_eqb}
use Rattle.model.specs.Composition.{Tree, par, syn, ini, leaf}
use Rattle.model.specs.Model.{Edge, Model, automaton, in_set}
use Rattle.model.specs.Rules.{Taker}
use Rattle.model.specs.Lines.{edge_line}
use Rattle.model.specs.Table.{line_words}
use Rattle.model.specs.Moves.{under, alone, moves}
use Rattle.model.proofs.Takers.{under_out, Sides, both, left_one, right_one, sides_out}
use Rattle.table_places.proofs.OutlineLaws.{action_stands}
use Rattle.merge_append.specs.Append.{narrow}
use Rattle.merge_append.specs.NodeWords.{most}
use Rattle.merge_edges.specs.Edges.{action_at}
use Rattle.merge_table.proofs.Standing.{narrow_is}

-- of automaton i: no taker, or the taker whose edge stands at the place
pub data Placed (t : List ℕ) (i : ℕ) : ℕ → List Taker → Type 0 where
  absent : Placed t i 0 []
  taking : (place : ℕ) (e : Edge) (rest : List ℕ) → drop place t ≡ line_words (edge_line e) ++ rest → 1 ≤ place → place ≤ most → Placed t i place (alone i e)

-- of all automata, from automaton i on
pub data PlacedAll (t : List ℕ) : ℕ → List ℕ → List Taker → Type 0 where
  no_more : (i : ℕ) → PlacedAll t i [] []
  one_more_lem : (i p : ℕ) (ps : List ℕ) (a b : List Taker) → Placed t i p a → PlacedAll t (suc i) ps b → PlacedAll t i (p ∷ ps) (a ++ b)

-- each place is a word
pub places_fit : (t : List ℕ) {i : ℕ} {ps : List ℕ} {ts : List Taker} → PlacedAll t i ps ts → map narrow ps ≡ ps
places_fit t (no_more i) = refl
places_fit t (one_more_lem i p ps a b one more) = ap₂ (λ (x : ℕ) (l : List ℕ). x ∷ l) (fits one) (places_fit t more)
  where
    fits : {q : ℕ} {c : List Taker} → Placed t i q c → narrow q ≡ q
    fits absent = narrow_is 0 (omega arith)
    fits (taking place e rest at above few) = narrow_is place (omega arith)

-- the action of the first taker's edge
unfoldable first_action : List Taker → ℕ
first_action [] = 0
first_action (x ∷ xs) = x.edge.action

first_placed : (t : List ℕ) {i : ℕ} {ps : List ℕ} {ts : List Taker} → PlacedAll t i ps ts → action_at t ps ≡ first_action ts
unfolding action_at first_action
first_placed t (no_more i) = refl
first_placed t (one_more_lem i p ps a b one more) = first one (first_placed t more)
  where
    first : {q : ℕ} {c : List Taker} → Placed t i q c → action_at t ps ≡ first_action b → action_at t (q ∷ ps) ≡ first_action (c ++ b)
    first absent ih = ih
    first (taking place e rest at above few) ih =
        let isnt : eqb place 0 ≡ false = ne_eqb place 0 (λ z. absurd (omega arith)) in
        rw (isnt, action_at) (action_stands t rest e place at)

-- a move has a taker, and its first taker's edge is under the action
abbrev Starts : ℕ → List Taker → Type 0
Starts a ts = (x : Taker) × (xs : List Taker) × (ts ≡ x ∷ xs) × (x.edge.action ≡ a)

moves_start : (m : Model) (a : ℕ) (c : Tree) (ts : List Taker) → Memᴰ ts (moves m a c) → Starts a ts
unfolding moves
moves_start m a (par c d) ts i =
    go (λ x q. moves_start m a c x q) (λ x q. moves_start m a d x q) (sides_out (in_set m a c) (in_set m a d) (moves m a c) (moves m a d) i)
  where
    go : ((x : List Taker) → Memᴰ x (moves m a c) → Starts a x) → ((x : List Taker) → Memᴰ x (moves m a d) → Starts a x)
        → Sides (in_set m a c) (in_set m a d) (moves m a c) (moves m a d) ts → Starts a ts
    go f g (both p q r) =
        let s = f r.left r.in_left in
        (s.0, s.1 ++ r.right, r.whole ∙ ap (λ (l : List Taker). l ++ r.right) s.2, s.3)
    go f g (left_one q r) = f ts r
    go f g (right_one p r) = g ts r
moves_start m a (syn list c) ts i = moves_start m a c ts i
moves_start m a (ini p c) ts i = moves_start m a c ts i
moves_start m a (leaf k) ts i =
    let r = Memᴰ.of_map (alone k) (under a (automaton m k).edges) i in
    (record { automaton = k; edge = r.0 }, [], sym r.2, (under_out a (automaton m k).edges r.1).1)

-- so the places of a move have its action
pub action_placed : (m : Model) (a : ℕ) (t : List ℕ) {i : ℕ} {ps : List ℕ} (ts : List Taker) → PlacedAll t i ps ts → Memᴰ ts (moves m a m.tree) → action_at t ps ≡ a
unfolding first_action
action_placed m a t ts placed i =
    let s = moves_start m a m.tree ts i in
    first_placed t placed ∙ ap first_action s.2 ∙ s.3
