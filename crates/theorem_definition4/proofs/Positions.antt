-- The labels of a transition, from the takers of a move: where they are (vs and vs'), their updates (r), and the edge that Definition 4
-- makes of these.
use mathlib.Core.Path.{◌≡◌, refl, sym, ap, ap₂, ◌∙◌, subst, subst₂}
use mathlib.Core.Bool.{Bool, true, false, cond, true≢false}
use mathlib.Core.List.Memᴰ
use mathlib.Core.List.{List, [], ◌∷◌, ◌++◌, map, flat_map, append-nil, append_assoc, map-append, Memᴰ}
use Prim.Native.Nat.{ℕ, suc, ◌+◌, ◌≤◌, ◌<◌}
use native.Mathlib.Omega.{arith}
use lib.IntN.{pos}
use lib.ListN.{length, length-append}
use lib.Dec.{eqb}
use Rattle.model.specs.Basic.{exists}
use Rattle.model.specs.Predicate.{Pred, eq, num, old, new, all, preds}
use Rattle.model.specs.Composition.{Tree, par, syn, ini, leaf}
use Rattle.model.specs.Model.{Model, Edge, automaton, in_set}
use Rattle.model.specs.Rules.{Taker}
use Rattle.model.specs.Moves.{under, alone, moves}
use Rattle.model.specs.Judge.{is_taker}
use Rattle.model.specs.Linear.{pointer, pointer_moves, merged_edge}
use Rattle.model.proofs.Tests.{eq_self, or_none_left, or_none_right}
use Rattle.model.proofs.Lists.{flat_append}
use Rattle.model.proofs.Numbered.{size, Numbered}
use Rattle.model.proofs.Takers.{Sides, both, left_one, right_one, sides_out, Within, within}
use Rattle.theorem_definition4.specs.Table3.{Position, wild, at}
use Rattle.theorem_definition4.specs.Definition4.{pointed, edge_for}

-- where automaton k is: what `part` says of the edge that it takes, or the wild-card if it takes none
unfoldable pub place : (part : Edge → ℕ) (k : ℕ) → List Taker → Position
place part k [] = wild
place part k (x ∷ xs) = cond (eqb k x.automaton) (at (part x.edge)) (place part k xs)

-- the same of each leaf, left to right
unfoldable pub positions : (part : Edge → ℕ) → Tree → List Taker → List Position
positions part (par c d) x = positions part c x ++ positions part d x
positions part (syn list c) x = positions part c x
positions part (ini p c) x = positions part c x
positions part (leaf k) x = place part k x ∷ []

-- vs, r and vs' are those of a move's takers
pub record LabelsOf (c : Tree) (x : List Taker) (vs : List Position) (r : List Pred) (vs' : List Position) : Type 0 where
  pub before : vs ≡ positions (λ e. e.from) c x
  pub conjuncts : r ≡ map (λ y. y.edge.update) x
  pub after : vs' ≡ positions (λ e. e.to) c x

-- the takers are among the n automata from i on
abbrev pub Inside : (i n : ℕ) → List Taker → Type 0
Inside i n x = (k : ℕ) → is_taker k x ≡ true → Within i n k

-- no takers are among any automata
pub nobody_inside : (i n : ℕ) → Inside i n []
unfolding is_taker exists
nobody_inside i n k h = absurd (true≢false (sym h))

-- an automaton outside takes no edge
no_taker : (i n : ℕ) (x : List Taker) → Inside i n x → (k : ℕ) → (Within i n k → ⊥) → is_taker k x ≡ false
no_taker i n x h k f = go (is_taker k x) refl
  where
    go : (b : Bool) → is_taker k x ≡ b → is_taker k x ≡ false
    go true e = absurd (f (h k e))
    go false e = e

module _ (part : Edge → ℕ) where
  -- an automaton's place among takers of two parts
  place_right : (k : ℕ) (x y : List Taker) → is_taker k x ≡ false → place part k (x ++ y) ≡ place part k y
  unfolding place is_taker exists
  place_right k [] y h = refl
  place_right k (z ∷ x) y h =
      rw (or_none_left (eqb k z.automaton) _ h) (place_right k x y (or_none_right (eqb k z.automaton) _ h))

  place_left : (k : ℕ) (x y : List Taker) → is_taker k y ≡ false → place part k (x ++ y) ≡ place part k x
  unfolding place
  place_left k [] y h = ap (place part k) (sym (append-nil y)) ∙ place_right k y [] h
  place_left k (z ∷ x) y h = ap (cond (eqb k z.automaton) (at (part z.edge))) (place_left k x y h)

  -- takers who give each leaf the same place
  positions_same : (c : Tree) (i : ℕ) → Numbered i c → (x y : List Taker)
      → ((k : ℕ) → i ≤ k → k < i + size c → place part k x ≡ place part k y)
      → positions part c x ≡ positions part c y
  unfolding Numbered size positions
  positions_same (par c d) i w x y h =
      ap₂ (λ vs ws. vs ++ ws) (positions_same c i w.0 x y (λ k l u. h k l (omega arith)))
      (positions_same d (i + size c) w.1 x y (λ k l u. h k (omega arith) (omega arith)))
  positions_same (syn list c) i w x y h = positions_same c i w x y h
  positions_same (ini p c) i w x y h = positions_same c i w x y h
  positions_same (leaf k) i w x y h = ap (λ v. v ∷ []) (h k (omega (arith, w)) (omega (arith, w)))

  -- the takers of two sides are each in their side's places
  positions_par : (c d : Tree) (i : ℕ) → Numbered i (par c d) → (x y : List Taker) → Inside i (size c) x → Inside (i + size c) (size d) y
      → positions part (par c d) (x ++ y) ≡ positions part c x ++ positions part d y
  unfolding Numbered positions
  positions_par c d i w x y in_x in_y =
      ap₂ (λ vs ws. vs ++ ws)
      (positions_same c i w.0 (x ++ y) x (λ k l u. place_left k x y (no_taker (i + size c) (size d) y in_y k (λ q. let low = q.low in omega arith))))
      (positions_same d (i + size c) w.1 (x ++ y) y (λ k l u. place_right k x y (no_taker i (size c) x in_x k (λ q. let high = q.high in omega arith))))

  -- there are as many positions as leaves
  pub positions_length : (c : Tree) (x : List Taker) → length (positions part c x) ≡ size c
  unfolding positions size
  positions_length (par c d) x = length-append (positions part c x) (positions part d x) ∙ ap₂ (λ (j k : ℕ). j + k) (positions_length c x) (positions_length d x)
  positions_length (syn list c) x = positions_length c x
  positions_length (ini p c) x = positions_length c x
  positions_length (leaf k) x = refl

module _ (c d : Tree) (i : ℕ) (w : Numbered i (par c d)) where
  -- the labels of two sides' takers are the two sides', in a row
  pub labels_par : (x y : List Taker) → Inside i (size c) x → Inside (i + size c) (size d) y → {vs ws : List Position} {r q : List Pred} {vs' ws' : List Position}
      → LabelsOf c x vs r vs' → LabelsOf d y ws q ws' → LabelsOf (par c d) (x ++ y) (vs ++ ws) (r ++ q) (vs' ++ ws')
  labels_par x y in_x in_y p q = record {
    before = ap₂ (λ vs ws. vs ++ ws) p.before q.before ∙ sym (positions_par (λ e. e.from) c d i w x y in_x in_y);
    conjuncts = ap₂ (λ r s. r ++ s) p.conjuncts q.conjuncts ∙ sym (map-append (λ z. z.edge.update) x y);
    after = ap₂ (λ vs ws. vs ++ ws) p.after q.after ∙ sym (positions_par (λ e. e.to) c d i w x y in_x in_y);
  }

  -- also if the right side has no takers, and is at its wild-cards
  pub labels_left : (x : List Taker) → Inside i (size c) x → {vs xs : List Position} {r : List Pred} {vs' : List Position}
      → LabelsOf c x vs r vs' → LabelsOf d [] xs [] xs → LabelsOf (par c d) x (vs ++ xs) r (vs' ++ xs)
  labels_left x in_x {vs} {xs} {r} {vs'} p q =
      subst₂ (λ y s. LabelsOf (par c d) y (vs ++ xs) s (vs' ++ xs)) (append-nil x) (append-nil r)
      (labels_par x [] in_x (nobody_inside (i + size c) (size d)) p q)

-- what Definition 4 asks of the pointers, item by item
module _ (v : ℕ) where
  pointed_cons : (i : ℕ) (l l' : Position) (vs vs' : List Position) → pointed v i (l ∷ vs) (l' ∷ vs') ≡ pointed v i (l ∷ []) (l' ∷ []) ++ pointed v (suc i) vs vs'
  unfolding pointed
  pointed_cons i (at l) (at l') vs vs' = refl
  pointed_cons i (at l) wild vs vs' = refl
  pointed_cons i wild l' vs vs' = refl

  pointed_append : (i : ℕ) (vs vs' ws ws' : List Position) → length vs ≡ length vs'
      → pointed v i (vs ++ ws) (vs' ++ ws') ≡ pointed v i vs vs' ++ pointed v (i + length vs) ws ws'
  unfolding pointed
  pointed_append i [] [] ws ws' h = ap (λ (j : ℕ). pointed v j ws ws') (omega arith)
  pointed_append i [] (l' ∷ vs') ws ws' h = absurd (omega arith)
  pointed_append i (l ∷ vs) [] ws ws' h = absurd (omega arith)
  pointed_append i (l ∷ vs) (l' ∷ vs') ws ws' h =
      let first = pointed v i (l ∷ []) (l' ∷ []) in
      let rest = pointed v (suc i) vs vs' in
      pointed_cons i l l' (vs ++ ws) (vs' ++ ws')
      ∙ ap (λ ps. first ++ ps) (pointed_append (suc i) vs vs' ws ws' (omega arith) ∙ ap (λ (j : ℕ). rest ++ pointed v j ws ws') (omega arith))
      ∙ sym (append_assoc first rest (pointed v (i + suc (length vs)) ws ws'))
      ∙ ap (λ ps. ps ++ pointed v (i + suc (length vs)) ws ws') (sym (pointed_cons i l l' vs vs'))

module _ (m : Model) where
  -- the pointers' moves, taker by taker
  abbrev pointer_move : Taker → List Pred
  pointer_move y = pointer_moves m (y ∷ [])

  each_pointer : (x : List Taker) → flat_map pointer_move x ≡ pointer_moves m x
  unfolding pointer_moves flat_map
  each_pointer [] = refl
  each_pointer (y ∷ x) = ap (λ ps. pointer_move y ++ ps) (each_pointer x)

  -- what Definition 4 asks is that these takers' pointers move, where automaton i is the first leaf
  abbrev Pointed : ℕ → Tree → List Taker → Type 0
  Pointed i c x = pointed (length m.variables) i (positions (λ e. e.from) c x) (positions (λ e. e.to) c x) ≡ flat_map pointer_move x

  sides_pointed : (c d : Tree) (i : ℕ) (x y : List Taker) → Pointed i c x → Pointed (i + size c) d y
      → pointed (length m.variables) i (positions (λ e. e.from) c x ++ positions (λ e. e.from) d y) (positions (λ e. e.to) c x ++ positions (λ e. e.to) d y)
      ≡ flat_map pointer_move x ++ flat_map pointer_move y
  sides_pointed c d i x y p q =
      let from-c = positions (λ e. e.from) c x in
      let to-c = positions (λ e. e.to) c x in
      let from-d = positions (λ e. e.from) d y in
      let to-d = positions (λ e. e.to) d y in
      let n : length from-c ≡ size c = positions_length (λ e. e.from) c x in
      let n' : length to-c ≡ size c = positions_length (λ e. e.to) c x in
      pointed_append (length m.variables) i from-c to-c from-d to-d (n ∙ sym n')
      ∙ ap₂ (λ ps qs. ps ++ qs) p (ap (λ (j : ℕ). pointed (length m.variables) (i + j) from-d to-d) n ∙ q)

  par_pointed : (c d : Tree) (i : ℕ) → Numbered i (par c d) → (x y : List Taker) → Inside i (size c) x → Inside (i + size c) (size d) y
      → Pointed i c x → Pointed (i + size c) d y → Pointed i (par c d) (x ++ y)
  par_pointed c d i w x y in_x in_y p q =
      ap₂ (pointed (length m.variables) i) (positions_par (λ e. e.from) c d i w x y in_x in_y) (positions_par (λ e. e.to) c d i w x y in_x in_y)
      ∙ sides_pointed c d i x y p q ∙ sym (flat_append pointer_move x y)

  nobody_pointed : (c : Tree) (i : ℕ) → Pointed i c []
  unfolding positions pointed flat_map place
  nobody_pointed (par c d) i = sides_pointed c d i [] [] (nobody_pointed c i) (nobody_pointed d (i + size c))
  nobody_pointed (syn list c) i = nobody_pointed c i
  nobody_pointed (ini p c) i = nobody_pointed c i
  nobody_pointed (leaf k) i = refl

  -- the takers of a move are leaves
  pub moves_inside : (a : ℕ) (c : Tree) (i : ℕ) → Numbered i c → {x : List Taker} → Memᴰ x (moves m a c) → Inside i (size c) x
  moves_inside a c i w h k p = within m a c i w h k p

  one_pointed : (i k : ℕ) → k ≡ i → (e : Edge) → Pointed i (leaf k) (alone k e)
  unfolding positions place pointed pointer_moves pointer flat_map
  one_pointed i k w e = rw (eq_self k) (ap (λ (j : ℕ). eq (old (length m.variables + j)) (num (pos e.from)) ∷ eq (new (length m.variables + j)) (num (pos e.to)) ∷ []) (sym w))

  moves_pointed : (a : ℕ) (c : Tree) (i : ℕ) → Numbered i c → {x : List Taker} → Memᴰ x (moves m a c) → Pointed i c x
  unfolding Numbered moves positions
  moves_pointed a (par c d) i w {x} h =
      go (λ y p. moves_pointed a c i w.0 {x = y} p) (λ y p. moves_pointed a d (i + size c) w.1 {x = y} p)
      (sides_out (in_set m a c) (in_set m a d) (moves m a c) (moves m a d) h)
    where
      go : ((y : List Taker) → Memᴰ y (moves m a c) → Pointed i c y) → ((y : List Taker) → Memᴰ y (moves m a d) → Pointed (i + size c) d y)
          → Sides (in_set m a c) (in_set m a d) (moves m a c) (moves m a d) x
          → Pointed i (par c d) x
      go f g (both b e r) =
          subst (Pointed i (par c d)) (sym r.whole)
          (par_pointed c d i w r.left r.right (moves_inside a c i w.0 r.in_left) (moves_inside a d (i + size c) w.1 r.in_right)
          (f r.left r.in_left) (g r.right r.in_right))
      go f g (left_one e r) =
          subst (Pointed i (par c d)) (append-nil x)
          (par_pointed c d i w x [] (moves_inside a c i w.0 r) (nobody_inside (i + size c) (size d)) (f x r) (nobody_pointed d (i + size c)))
      go f g (right_one b r) =
          par_pointed c d i w [] x (nobody_inside i (size c)) (moves_inside a d (i + size c) w.1 r) (nobody_pointed c i) (g x r)
  moves_pointed a (syn list c) i w h = moves_pointed a c i w h
  moves_pointed a (ini p c) i w h = moves_pointed a c i w h
  moves_pointed a (leaf k) i w h =
      let r = Memᴰ.of_map (alone k) (under a (automaton m k).edges) h in
      subst (Pointed i (leaf k)) r.2 (one_pointed i k w r.0)

  -- so it asks it of the takers of every move
  pub pointed_is : (a : ℕ) (c : Tree) (i : ℕ) → Numbered i c → {x : List Taker} → Memᴰ x (moves m a c)
      → pointed (length m.variables) i (positions (λ e. e.from) c x) (positions (λ e. e.to) c x) ≡ pointer_moves m x
  pointed_is a c i w {x} h = moves_pointed a c i w h ∙ each_pointer x

  -- and the edge that Definition 4 makes of a move's labels is the merged one
  pub edge_is : (a : ℕ) (c : Tree) → Numbered 0 c → {x : List Taker} {vs : List Position} {r : List Pred} {vs' : List Position}
      → Memᴰ x (moves m a c) → LabelsOf c x vs r vs' → edge_for (length m.variables) a vs r vs' ≡ merged_edge m a x
  unfolding edge_for merged_edge
  edge_is a c w {x} h p =
      let pointers = ap₂ (pointed (length m.variables) 0) p.before p.after ∙ pointed_is a c 0 w h in
      ap₂ (λ r q. record { from = 0; action = a; to = 0; update = all (preds (r ++ q)) }) p.conjuncts pointers
