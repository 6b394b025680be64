-- The paper's order is that of `moves`, so there is one such list only.
use Prim.Native.Nat.{ℕ, zero, suc, ◌+◌, ◌*◌, ◌/◌, ◌%◌, ◌≤◌, ◌<◌}
use mathlib.Core.Path.{◌≡◌, refl, sym, ap, ap₂, ◌∙◌, subst, subst₂, fun_ext}
use mathlib.Core.Bool.{Bool, true, false, ◌&&◌, true≢false}
use mathlib.Core.List.{List, [], ◌∷◌, ◌++◌, map, flat_map, append-nil, map-append, Memᴰ}
use native.Mathlib.Omega.{arith}
use native.Mathlib.Nat.{mul-zero, mod-lt, div-add-mod', div-lt_iff_lt-mul, suc-mul, mul-le-mul_right}
use lib.ListN.{length, get_or, length-map}
use lib.Seq.{ext_get_or}
use Rattle.model.specs.Basic.{once, count_up}
use Rattle.model.specs.Composition.{Tree, par, syn, ini, leaf}
use Rattle.model.specs.Model.{Model, Edge, automaton, in_set}
use Rattle.model.specs.Lawful.{Lawful}
use Rattle.model.specs.Rules.{Taker}
use Rattle.model.specs.Moves.{pairs, sides, under, alone, moves, move_count, sides_count}
use Rattle.model.specs.Equal.{same_edge}
use Rattle.model.specs.Linear.{merged_edge, edges_with_repeats, merged_edges}
use Rattle.model.proofs.Tests.{and_intro}
use Rattle.model.proofs.Lists.{all_at}
use Rattle.model.proofs.Numbered.{size, Numbered, numbered}
use Rattle.model.proofs.Count.{moves_length}
use Rattle.merge_moves.proofs.Listed.{map_at, pairs_at}
use Rattle.theorem_definition4.specs.Table3.{Position}
use Rattle.theorem_definition4.specs.Definition4.{edge_for}
use Rattle.theorem_definition4.proofs.Positions.{positions, LabelsOf, Inside, nobody_inside, moves_inside, labels_par, edge_is}
use Rattle.theorem_definition4.proofs.Table3Is.{wilds_to, wilds_one, labels_own, labels_rest, labels_alone}
use Rattle.theorem_demands.specs.Order.{Labels, nothing, joined, resting, taking, LeftSlowest, if_lacking, InOrder, in_leaf, in_pairs, in_turn, in_syn, in_ini, EdgesInOrder}

-- two lists of pairs with the left slowest are the same: place q is that of the pair q / length ys, q % length ys
slowest_one : (xs ys zs ws : List Labels) → LeftSlowest xs ys zs → LeftSlowest xs ys ws → zs ≡ ws
slowest_one xs ys zs ws p r =
    ext_get_or nothing zs ws (p.count ∙ sym r.count) (λ q l. alike (length ys) refl q (subst (λ (n : ℕ). q < n) p.count l))
  where
    alike : (n : ℕ) → length ys ≡ n → (q : ℕ) → q < length xs * length ys → get_or zs q nothing ≡ get_or ws q nothing
    alike zero e q l =
        absurd (let z : length xs * length ys ≡ 0 = ap (λ (k : ℕ). length xs * k) e ∙ mul-zero (length xs) in omega arith)
    alike (suc n) e q l =
        let some_ys : zero < length ys = omega arith in
        let i = q / length ys in
        let j = q % length ys in
        let e = div-add-mod' q (length ys) in
        let in_x : i < length xs = (div-lt_iff_lt-mul some_ys).1 l in
        let in_y : j < length ys = mod-lt q some_ys in
        ap (λ (k : ℕ). get_or zs k nothing) (sym e) ∙ p.places i j in_x in_y ∙ sym (r.places i j in_x in_y) ∙ ap (λ (k : ℕ). get_or ws k nothing) e

module _ (m : Model) (a : ℕ) where
  -- there is one list only that is in order
  pub in_order_one : {c : Tree} {xs ys : List Labels} → InOrder m a c xs → InOrder m a c ys → xs ≡ ys
  in_order_one in_leaf in_leaf = refl
  in_order_one (in_syn p) (in_syn q) = in_order_one p q
  in_order_one (in_ini p) (in_ini q) = in_order_one p q
  in_order_one (in_pairs {xs = xs} {ys = ys} {zs = zs} i j p q s) (in_pairs {zs = ws} i' j' p' q' s') =
      slowest_one xs ys zs ws s (subst₂ (λ us vs. LeftSlowest us vs ws) (sym (in_order_one p p')) (sym (in_order_one q q')) s')
  in_order_one (in_pairs i j p q s) (in_turn h w w' p' q') = absurd (true≢false (sym (and_intro i j) ∙ h))
  in_order_one (in_turn h w w' p' q') (in_pairs i j p q s) = absurd (true≢false (sym (and_intro i j) ∙ h))
  in_order_one (in_turn {c = c} {d = d} {cs = cs} {ds = ds} h w w' p q) (in_turn {cs = cs'} {ds = ds'} h' v v' p' q') =
      ap₂ (λ (us vs : List Labels). if_lacking (in_set m a d) us ++ if_lacking (in_set m a c) vs)
      (ap₂ (λ (xs : List Labels) (ds : List Position). map (λ x. joined x (resting ds)) xs) (in_order_one p p') (wilds_one w' v'))
      (ap₂ (λ (ys : List Labels) (cs : List Position). map (λ y. joined (resting cs) y) ys) (in_order_one q q') (wilds_one w v))

-- the labels of a move's transition
unfoldable pub labels_of : Tree → List Taker → Labels
labels_of c x = record { vs = positions (λ e. e.from) c x; r = map (λ y. y.edge.update) x; vs' = positions (λ e. e.to) c x }

labels_are : {c : Tree} {x : List Taker} (l : Labels) → LabelsOf c x l.vs l.r l.vs' → labels_of c x ≡ l
unfolding labels_of
labels_are {c = c} {x = x} l p =
    ap (λ (vs : List Position). record { vs = vs; r = map (λ y. y.edge.update) x; vs' = positions (λ e. e.to) c x }) (sym p.before)
    ∙ ap₂ (λ r vs'. record { vs = l.vs; r = r; vs' = vs' }) (sym p.conjuncts) (sym p.after)

labels_resting : (c : Tree) → labels_of c [] ≡ resting (positions (λ e. e.from) c [])
unfolding resting
labels_resting c = labels_are (resting (positions (λ e. e.from) c [])) (labels_rest (wilds_to (λ e. e.from) c))

-- of two sides
module _ (c d : Tree) (i : ℕ) (w : Numbered i (par c d)) where
  labels_joined : (x y : List Taker) → Inside i (size c) x → Inside (i + size c) (size d) y
      → labels_of (par c d) (x ++ y) ≡ joined (labels_of c x) (labels_of d y)
  unfolding joined labels_of
  labels_joined x y in_x in_y = labels_are (joined (labels_of c x) (labels_of d y)) (labels_par c d i w x y in_x in_y (labels_own c x) (labels_own d y))

  -- a side at rest is where it is without takers
  rest_right : (x : List Taker) → Inside i (size c) x → joined (labels_of c x) (resting (positions (λ e. e.from) d [])) ≡ labels_of (par c d) x
  rest_right x in_x =
      ap (joined (labels_of c x)) (sym (labels_resting d)) ∙ sym (labels_joined x [] in_x (nobody_inside (i + size c) (size d))) ∙ ap (labels_of (par c d)) (append-nil x)

  rest_left : (y : List Taker) → Inside (i + size c) (size d) y → joined (resting (positions (λ e. e.from) c [])) (labels_of d y) ≡ labels_of (par c d) y
  rest_left y in_y = ap (λ x. joined x (labels_of d y)) (sym (labels_resting c)) ∙ sym (labels_joined [] y (nobody_inside i (size c)) in_y)

-- a list mapped twice
mapped : {A B C : Type 0} (f : B → C) (g : A → B) (h : A → C) (l : List A) → ((x : A) → Memᴰ x l → f (g x) ≡ h x) → map f (map g l) ≡ map h l
mapped f g h [] e = refl
mapped f g h (x ∷ l) e = ap₂ (λ y ys. y ∷ ys) (e x (Memᴰ.head refl)) (mapped f g h l (λ y i. e y (Memᴰ.tail i)))

-- the sides one after the other
turn_is : (b e : Bool) (h : List Taker → Labels) (xs ys : List (List Taker)) → (b && e) ≡ false → if_lacking e (map h xs) ++ if_lacking b (map h ys) ≡ map h (sides b e xs ys)
unfolding if_lacking sides
turn_is true true h xs ys n = absurd (true≢false n)
turn_is true false h xs ys n = append-nil (map h xs)
turn_is false true h xs ys n = refl
turn_is false false h xs ys n = sym (map-append h xs ys)

-- the place of a pair is one of the list
within_rounds : (q r k n : ℕ) → q < k → r < n → q * n + r < k * n
within_rounds q r k n p l =
    let rounds : suc q * n ≤ k * n = mul-le-mul_right n p in
    let round : suc q * n ≡ q * n + n = suc-mul q n in
    omega arith

module _ (m : Model) (a : ℕ) where
  -- the moves of a composition whose sides share the action
  slowest_moves : (c d : Tree) (i : ℕ) → Numbered i (par c d) → in_set m a c ≡ true → in_set m a d ≡ true
      → LeftSlowest (map (labels_of c) (moves m a c)) (map (labels_of d) (moves m a d)) (map (labels_of (par c d)) (pairs (moves m a c) (moves m a d)))
  unfolding Numbered
  slowest_moves c d i w b e = record {
    count = length-map both (labels_of (par c d)) ∙ counted ∙ ap₂ (λ (j k : ℕ). j * k) (sym many_xs) (sym many_ys);
    places = λ q r l h. placed q r (subst (λ (n : ℕ). q < n) many_xs l) (subst (λ (n : ℕ). r < n) many_ys h);
  }
    where
      xs : List (List Taker)
      xs = moves m a c

      ys : List (List Taker)
      ys = moves m a d

      both : List (List Taker)
      both = pairs xs ys

      many_xs : length (map (labels_of c) xs) ≡ length xs
      many_xs = length-map xs (labels_of c)

      many_ys : length (map (labels_of d) ys) ≡ length ys
      many_ys = length-map ys (labels_of d)

      listed : moves m a (par c d) ≡ both
      listed = unfold moves sides in rw (b, e)

      product : move_count m a (par c d) ≡ move_count m a c * move_count m a d
      product = unfold move_count sides_count in rw (b, e)

      counted : length both ≡ length xs * length ys
      counted =
          ap length (sym listed) ∙ moves_length m a (par c d) ∙ product
          ∙ ap₂ (λ (j k : ℕ). j * k) (sym (moves_length m a c)) (sym (moves_length m a d))

      in_xs : (q : ℕ) → Inside i (size c) (get_or xs q [])
      in_xs = all_at (Inside i (size c)) [] (nobody_inside i (size c)) xs (λ x p. moves_inside m a c i w.0 p)

      in_ys : (r : ℕ) → Inside (i + size c) (size d) (get_or ys r [])
      in_ys = all_at (Inside (i + size c) (size d)) [] (nobody_inside (i + size c) (size d)) ys (λ y p. moves_inside m a d (i + size c) w.1 p)

      placed : (q r : ℕ) → q < length xs → r < length ys
          → get_or (map (labels_of (par c d)) both) (q * length (map (labels_of d) ys) + r) nothing ≡ joined (get_or (map (labels_of c) xs) q nothing) (get_or (map (labels_of d) ys) r nothing)
      placed q r l h =
          ap (λ (n : ℕ). get_or (map (labels_of (par c d)) both) (q * n + r) nothing) many_ys
          ∙ map_at (labels_of (par c d)) both (q * length ys + r) [] nothing (rw counted (within_rounds q r (length xs) (length ys) l h))
          ∙ ap (labels_of (par c d)) (pairs_at xs ys q r l h)
          ∙ labels_joined c d i w (get_or xs q []) (get_or ys r []) (in_xs q) (in_ys r)
          ∙ sym (ap₂ joined (map_at (labels_of c) xs q [] nothing l) (map_at (labels_of d) ys r [] nothing h))

  -- and of one whose sides do not
  turn_moves : (c d : Tree) (i : ℕ) → Numbered i (par c d) → (in_set m a c && in_set m a d) ≡ false
      → InOrder m a c (map (labels_of c) (moves m a c)) → InOrder m a d (map (labels_of d) (moves m a d))
      → InOrder m a (par c d) (map (labels_of (par c d)) (sides (in_set m a c) (in_set m a d) (moves m a c) (moves m a d)))
  unfolding Numbered
  turn_moves c d i w n p q =
      subst (InOrder m a (par c d)) listed (in_turn n (wilds_to (λ e. e.from) c) (wilds_to (λ e. e.from) d) p q)
    where
      left : List Labels
      left = map (λ x. joined x (resting (positions (λ e. e.from) d []))) (map (labels_of c) (moves m a c))

      right : List Labels
      right = map (λ y. joined (resting (positions (λ e. e.from) c [])) y) (map (labels_of d) (moves m a d))

      lefts : left ≡ map (labels_of (par c d)) (moves m a c)
      lefts = mapped _ (labels_of c) (labels_of (par c d)) (moves m a c) (λ x h. rest_right c d i w x (moves_inside m a c i w.0 h))

      rights : right ≡ map (labels_of (par c d)) (moves m a d)
      rights = mapped _ (labels_of d) (labels_of (par c d)) (moves m a d) (λ y h. rest_left c d i w y (moves_inside m a d (i + size c) w.1 h))

      listed : if_lacking (in_set m a d) left ++ if_lacking (in_set m a c) right ≡ map (labels_of (par c d)) (sides (in_set m a c) (in_set m a d) (moves m a c) (moves m a d))
      listed =
          ap₂ (λ (xs ys : List Labels). if_lacking (in_set m a d) xs ++ if_lacking (in_set m a c) ys) lefts rights
          ∙ turn_is (in_set m a c) (in_set m a d) (labels_of (par c d)) (moves m a c) (moves m a d) n

  -- `moves` lists them in order
  pub moves_in_order : (c : Tree) (i : ℕ) → Numbered i c → InOrder m a c (map (labels_of c) (moves m a c))
  unfolding moves sides under Numbered labels_of positions taking
  moves_in_order (leaf k) i w =
      let edges = under a (automaton m k).edges in
      subst (InOrder m a (leaf k)) (sym (mapped (labels_of (leaf k)) (alone k) taking edges (λ e h. labels_are (taking e) (labels_alone k e)))) in_leaf
  moves_in_order (syn list c) i w = in_syn (moves_in_order c i w)
  moves_in_order (ini p c) i w = in_ini (moves_in_order c i w)
  moves_in_order (par c d) i w = go (in_set m a c) refl (in_set m a d) refl (moves_in_order c i w.0) (moves_in_order d (i + size c) w.1)
    where
      go : (b : Bool) → in_set m a c ≡ b → (e : Bool) → in_set m a d ≡ e → InOrder m a c (map (labels_of c) (moves m a c))
          → InOrder m a d (map (labels_of d) (moves m a d))
          → InOrder m a (par c d) (map (labels_of (par c d)) (sides (in_set m a c) (in_set m a d) (moves m a c) (moves m a d)))
      go true i' true j p q = rw (i', j) (in_pairs i' j p q (slowest_moves c d i w i' j))
      go true i' false j p q = turn_moves c d i w (rw (i', j)) p q
      go false i' e j p q = turn_moves c d i w (rw i') p q

  -- and no other list is in order
  pub in_order_is : (c : Tree) (i : ℕ) → Numbered i c → {zs : List Labels} → InOrder m a c zs → zs ≡ map (labels_of c) (moves m a c)
  in_order_is c i w p = in_order_one m a p (moves_in_order c i w)

-- so the merged edges are in order
pub merged_in_order : (m : Model) → Lawful m → EdgesInOrder m (merged_edges m)
unfolding merged_edges edges_with_repeats
merged_in_order m lawful = record {
  transitions = λ a. map (labels_of m.tree) (moves m a m.tree);
  in_order = λ a. moves_in_order m a m.tree 0 in_order;
  by_action = ap (λ (f : ℕ → List Edge). once same_edge (flat_map f (count_up 0 (suc m.actions)))) (fun_ext its_edges);
}
  where
    in_order : Numbered 0 m.tree
    in_order = numbered m.tree (length m.automata) lawful.tree.in_order

    its_edges : (a : ℕ) → map (merged_edge m a) (moves m a m.tree)
        ≡ map (λ (x : Labels). edge_for (length m.variables) a x.vs x.r x.vs') (map (labels_of m.tree) (moves m a m.tree))
    its_edges a = sym (mapped _ (labels_of m.tree) (merged_edge m a) (moves m a m.tree) (λ x h. edge_of a x h))
      where
        edge_of : (a : ℕ) (x : List Taker) → Memᴰ x (moves m a m.tree)
            → edge_for (length m.variables) a (labels_of m.tree x).vs (labels_of m.tree x).r (labels_of m.tree x).vs' ≡ merged_edge m a x
        edge_of a x h = unfold labels_of in edge_is m a m.tree in_order h (labels_own m.tree x)

-- and no other edges are
pub edges_in_order : (m : Model) (edges edges' : List Edge) → EdgesInOrder m edges → EdgesInOrder m edges' → edges ≡ edges'
edges_in_order m edges edges' o o' =
    let e : o.transitions ≡ o'.transitions = fun_ext λ a. in_order_one m a (o.in_order a) (o'.in_order a) in
    o.by_action
    ∙ ap (λ (f : ℕ → List Labels). once same_edge (flat_map (λ a. map (λ x. edge_for (length m.variables) a x.vs x.r x.vs') (f a)) (count_up 0 (suc m.actions)))) e
    ∙ sym o'.by_action
