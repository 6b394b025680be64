-- The moves of a composition, each once, are the moves of the composition whose automata have each edge once.
use mathlib.Core.Path.{◌≡◌, refl, sym, ap, ap₂, ◌∙◌, subst, fun_ext}
use mathlib.Core.Bool.{Bool, true, false, ◌&&◌, true≢false, and-true}
use mathlib.Core.List.Memᴰ
use mathlib.Core.List.{List, [], ◌∷◌, ◌++◌, map, flat_map, Memᴰ, append-nil, append_cancel_left}
use mathlib.Core.Logic.{◌↔◌}
use Prim.Native.Nat.{ℕ, ◌+◌}
use native.Mathlib.Omega.{arith}
use borrow.Author.Tests.{le-ltb}
use lib.ListN.{get_or-map}
use lib.Dec.{eqb, ltb}
use Rattle.model.specs.Basic.{keep, once, member}
use Rattle.model.specs.Composition.{Tree, par, syn, ini, leaf}
use Rattle.model.specs.Model.{Model, Edge, Automaton, automaton, nobody, in_set}
use Rattle.model.specs.Rules.{Taker}
use Rattle.model.specs.Moves.{under, pairs, sides, alone, moves}
use Rattle.model.specs.Equal.{same_edge}
use Rattle.model.specs.Repeats.{distinct_edges, distinct}
use Rattle.model.proofs.Tests.{and_intro, and_left, and_right, or_same, both_ways, eq_of, eq_self, of_lt}
use Rattle.model.proofs.Lists.{keep_append, keep_whole, keep_empty}
use Rattle.model.proofs.Once.{keep_once, once_apart, once_map, once_flat}
use Rattle.model.proofs.EqualLaws.{same_edge_is}
use Rattle.model.proofs.Numbered.{size, Numbered}
use Rattle.model.proofs.Takers.{some_taker, takers_within}

-- a test of equal lists of takers
same_taker : Taker → Taker → Bool
same_taker x y = eqb x.automaton y.automaton && same_edge x.edge y.edge

pub same_takers : List Taker → List Taker → Bool
same_takers [] [] = true
same_takers [] (y ∷ ys) = false
same_takers (x ∷ xs) [] = false
same_takers (x ∷ xs) (y ∷ ys) = same_taker x y && same_takers xs ys

-- takers with equal parts are equal
pub taker_is : (x y : Taker) → x.automaton ≡ y.automaton → x.edge ≡ y.edge → x ≡ y
taker_is x y p q = rw (p, q)

-- the test of equal takers is equality
same_taker_lem : (x y : Taker) → same_taker x y ≡ true → x ≡ y
unfolding same_taker
same_taker_lem x y h =
    taker_is x y
    (eq_of _ _ (and_left (eqb x.automaton y.automaton) _ h))
    ((same_edge_is x.edge y.edge).0 (and_right (eqb x.automaton y.automaton) _ h))

taker_self : (x : Taker) → same_taker x x ≡ true
unfolding same_taker
taker_self x = and_intro (eq_self x.automaton) ((same_edge_is x.edge x.edge).1 refl)

-- lists that pass the test are equal, and equal ones pass it
same_takers_lem : (xs ys : List Taker) → same_takers xs ys ≡ true → xs ≡ ys
unfolding same_takers
same_takers_lem [] [] h = refl
same_takers_lem [] (y ∷ ys) h = absurd (true≢false (sym h))
same_takers_lem (x ∷ xs) [] h = absurd (true≢false (sym h))
same_takers_lem (x ∷ xs) (y ∷ ys) h = ap₂ (λ z l. z ∷ l) (same_taker_lem x y (and_left (same_taker x y) _ h)) (same_takers_lem xs ys (and_right (same_taker x y) _ h))

takers_self : (xs : List Taker) → same_takers xs xs ≡ true
unfolding same_takers
takers_self [] = refl
takers_self (x ∷ xs) = and_intro (taker_self x) (takers_self xs)

-- the test is equality
pub same_takers_is : (xs ys : List Taker) → (same_takers xs ys ≡ true) ↔ (xs ≡ ys)
same_takers_is xs ys = (same_takers_lem xs ys, λ p. subst (λ (zs : List Taker). same_takers xs zs ≡ true) p (takers_self xs))

-- a function that makes equal only what is equal
pub same_by : {B : Type 0} (equal : B → B → Bool) → ((x y : B) → (equal x y ≡ true) ↔ (x ≡ y)) → (f : List Taker → B) (x y : List Taker) → (f x ≡ f y → x ≡ y) → equal (f x) (f y) ≡ same_takers x y
same_by equal Equal-is f x y back =
    both_ways (equal (f x) (f y)) (same_takers x y)
    (λ h. (same_takers_is x y).1 (back ((Equal-is (f x) (f y)).0 h)))
    (λ h. (Equal-is (f x) (f y)).1 (ap f ((same_takers_is x y).0 h)))

-- one taker alone is its edge
alone_same : (k : ℕ) (e f : Edge) → same_takers (alone k e) (alone k f) ≡ same_edge e f
unfolding same_takers same_taker
alone_same k e f = rw (eq_self k) (and-true (same_edge e f))

-- the pairs, left by left
pairs_flat : (xs ys : List (List Taker)) → pairs xs ys ≡ flat_map (λ x. map (λ y. x ++ y) ys) xs
unfolding pairs flat_map
pairs_flat [] ys = refl
pairs_flat (x ∷ xs) ys = ap (λ (r : List (List Taker)). map (λ y. x ++ y) ys ++ r) (pairs_flat xs ys)

-- a pair tells its left
abbrev TellsLeft : List (List Taker) → List (List Taker) → Type 0
TellsLeft xs ys = (x z y w : List Taker) → Memᴰ x xs → Memᴰ z xs → Memᴰ y ys → Memᴰ w ys → x ++ y ≡ z ++ w → x ≡ z

-- then each pair once is a pair of those that stand once
once_pairs : (xs ys : List (List Taker)) → TellsLeft xs ys → once same_takers (pairs xs ys) ≡ pairs (once same_takers xs) (once same_takers ys)
once_pairs xs ys h =
    ap (once same_takers) (pairs_flat xs ys)
    ∙ once_flat same_takers same_takers same_takers_is same_takers_is (λ x. map (λ y. x ++ y) ys) xs (λ x z i j u p q.
    let r = Memᴰ.of_map (λ y. x ++ y) ys p in
    let s = Memᴰ.of_map (λ y. z ++ y) ys q in
    h x z r.0 s.0 i j r.1 s.1 (r.2 ∙ sym s.2))
    ∙ ap (λ (g : List Taker → List (List Taker)). flat_map g (once same_takers xs)) (fun_ext λ x.
    once_map same_takers same_takers (λ y. x ++ y) ys (λ y w i j. same_by same_takers same_takers_is (λ y. x ++ y) y w (append_cancel_left x y w)))
    ∙ sym (pairs_flat (once same_takers xs) (once same_takers ys))

-- the moves of two sides, each once, are of those that stand once
once_sides : (b e : Bool) (xs ys : List (List Taker)) → TellsLeft xs ys → ((x : List Taker) → Memᴰ x xs → Memᴰ x ys → ⊥)
    → once same_takers (sides b e xs ys) ≡ sides b e (once same_takers xs) (once same_takers ys)
unfolding sides
once_sides true true xs ys h n = once_pairs xs ys h
once_sides true false xs ys h n = refl
once_sides false true xs ys h n = refl
once_sides false false xs ys h n = once_apart same_takers same_takers_is xs ys n

module _ (m : Model) where
  -- the automata of the sheet without repeats
  pub automaton_distinct : (k : ℕ) → automaton (distinct m) k ≡ distinct_edges (automaton m k)
  unfolding distinct distinct_edges once
  automaton_distinct k = get_or-map distinct_edges m.automata k nobody

  -- an automaton's edges under an action, each once, are those that it has there
  pub under_distinct : (a k : ℕ) → once same_edge (under a (automaton m k).edges) ≡ under a (automaton (distinct m) k).edges
  unfolding under distinct_edges
  under_distinct a k =
      sym (keep_once same_edge same_edge_is (λ e. eqb e.action a) (automaton m k).edges)
      ∙ ap (λ (x : Automaton). under a x.edges) (sym (automaton_distinct k))

  -- it has the same sets
  pub set_distinct : (a : ℕ) (c : Tree) → in_set (distinct m) a c ≡ in_set m a c
  unfolding in_set distinct_edges
  set_distinct a (par c d) = or_same (set_distinct a c) (set_distinct a d)
  set_distinct a (syn list c) = or_same {a = member a list} refl (set_distinct a c)
  set_distinct a (ini p c) = set_distinct a c
  set_distinct a (leaf k) = ap (λ (x : Automaton). member a x.sync) (automaton_distinct k)

  module _ (a : ℕ) (c d : Tree) (i : ℕ) (w : Numbered i c) (v : Numbered (i + size c) d) where
    -- the takers of the left are those before the right's first leaf
    abbrev is_left : Taker → Bool
    is_left t = ltb t.automaton (i + size c)

    -- what is left of a pair is its left part
    left_part : (x y : List Taker) → Memᴰ x (moves m a c) → Memᴰ y (moves m a d) → keep is_left (x ++ y) ≡ x
    left_part x y p q =
        keep_append is_left x y
        ∙ ap₂ (λ k l. k ++ l)
        (keep_whole is_left x (λ t j. of_lt _ _ (takers_within m a c i w p t j).high))
        (keep_empty is_left y (λ t j. le-ltb _ _ (takers_within m a d (i + size c) v q t j).low))
        ∙ append-nil x

    -- so a pair tells it
    tells_left : TellsLeft (moves m a c) (moves m a d)
    tells_left x z y u p q r s e = sym (left_part x y p r) ∙ ap (keep is_left) e ∙ left_part z u q s

    -- no move of the left is one of the right
    apart : (x : List Taker) → Memᴰ x (moves m a c) → Memᴰ x (moves m a d) → ⊥
    apart [] p q = let h = some_taker m a c [] p in omega arith
    apart (t ∷ x) p q =
        let h = takers_within m a c i w p t (Memᴰ.head refl) in
        let g = takers_within m a d (i + size c) v q t (Memᴰ.head refl) in
        omega arith

  -- the moves, each once, are its moves
  pub moves_distinct : (a : ℕ) (c : Tree) (i : ℕ) → Numbered i c → once same_takers (moves m a c) ≡ moves (distinct m) a c
  unfolding Numbered moves
  moves_distinct a (par c d) i w =
      once_sides (in_set m a c) (in_set m a d) (moves m a c) (moves m a d) (tells_left a c d i w.0 w.1) (apart a c d i w.0 w.1)
      ∙ rw (set_distinct a c, set_distinct a d, moves_distinct a c i w.0, moves_distinct a d (i + size c) w.1)
  moves_distinct a (syn list c) i w = moves_distinct a c i w
  moves_distinct a (ini p c) i w = moves_distinct a c i w
  moves_distinct a (leaf k) i w =
      once_map same_edge same_takers (alone k) (under a (automaton m k).edges) (λ e f p q. alone_same k e f)
      ∙ ap (map (alone k)) (under_distinct a k)
