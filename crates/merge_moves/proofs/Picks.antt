-- On a lawful tree's words and its plan, the k-th pick names the takers of the k-th move.
use mathlib.Core.Path.{◌≡◌, refl, sym, ap, ap₂, subst, ◌∙◌}
use mathlib.Core.Bool.{Bool, true, false}
use mathlib.Core.List.{List, [], ◌++◌, append-nil}
use Prim.Native.Nat.{ℕ, zero, suc, ◌+◌, ◌-◌, ◌*◌, ◌/◌, ◌%◌, ◌≤◌, ◌<◌}
use native.Mathlib.Omega.{arith}
use native.Mathlib.Numerals.{add-one}
use native.Mathlib.Nat.{mul-zero, zero-mul, mul_comm, le-mul_of_pos_right, mod-lt, div-add-mod', div-lt_iff_lt-mul}
use native.Mathlib.Decide.{dec_lt}
use lib.ListN.{length, get_or, take, drop, length-set, get_or-append}
use lib.Seq.{get_or-set_same, get_or-set_other, take-append_seam}
use Rattle.model.specs.Bounds.{max_tree_nodes}
use Rattle.model.specs.Composition.{Tree, par, syn, ini, leaf, leaves, tree_size}
use Rattle.model.specs.Model.{Model, automaton, in_set}
use Rattle.model.specs.Moves.{under, alone, sides, pairs, moves, sides_count, move_count}
use Rattle.model.specs.Rules.{Taker}
use Rattle.model.specs.Table.{low_bits, high_bits}
use Rattle.model.proofs.Count.{moves_length}
use Rattle.model.proofs.Numbered.{size, Numbered}
use Rattle.table_tree.specs.declared.nodes.Found.TheVariants.{Par, Syn, Leaf}
use Rattle.table_tree.specs.Nodes.{tree_words}
use Rattle.table_tree.proofs.Standing.{SynStands, par_stands, syn_stands, ini_stands, leaf_stands, size_par, size_syn, size_ini, size_leaf, length_par, length_syn, length_ini, words_leaf, skip_of}
use Rattle.merge_moves.specs.declared.picking.Taking.{Taking}
use Rattle.merge_moves.specs.declared.picking.Taking.TheVariants.{Both, Left, Right}
use Rattle.merge_moves.specs.Capping.{capped, cell_of}
use Rattle.merge_moves.specs.Pick.{divided_by, named, Picker, pick_sides, cell_at, picked_at}
use Rattle.merge_moves.specs.Takers.{no_edge, taker_of, takers_in}
use Rattle.merge_moves.proofs.PickLaws.{divide_cells, cell_within, name_one, pick_syn, pick_leaf, pick_par, divide_both, divide_first, divide_then}
use Rattle.merge_moves.proofs.CappingLaws.{cap_small}
use Rattle.merge_moves.proofs.Capped.{cell_count, cell_inside}
use Rattle.merge_moves.proofs.Cells.{Filled, filled_cell}
use Rattle.merge_moves.proofs.Listed.{map_at, pairs_at, then_at}
use Rattle.merge_moves.proofs.Named.{takers_joined, takers_leaf, takers_same, takers_none}

-- nobody among the leaves of a subtree has an edge yet
abbrev pub Unpicked : Tree → ℕ → List ℕ → Type 0
Unpicked c i edges = (j : ℕ) → i ≤ j → j < i + size c → get_or edges j 0 ≡ 0

-- where a product is above k, neither factor is 0, and the quotient is below the one
factors : (x y k : ℕ) → k < x * y → (0 < x) × (0 < y)
factors zero y k h = let z = zero-mul y in absurd (omega arith)
factors (suc x) zero k h = let z = mul-zero (suc x) in absurd (omega arith)
factors (suc x) (suc y) k h = (omega arith, omega arith)

quotient : (k x y : ℕ) → 0 < y → k < x * y → k / y < x
quotient k x y p h = (div-lt_iff_lt-mul p).1 h

module _ (m : Model) (action : ℕ) where
  -- an edge that a leaf of the subtree takes is one of its edges under the action
  abbrev pub There : Tree → ℕ → List ℕ → Type 0
  There c i after = (j : ℕ) → i ≤ j → j < i + size c → (q : ℕ) → get_or after j 0 ≡ suc q → q < length (under action (automaton m j).edges)

  there_joined : (c d : Tree) (i : ℕ) (after : List ℕ) → There c i after → There d (i + size c) after → There (par c d) i after
  unfolding size
  there_joined c d i after f g j a b q e = go (dec_lt j (i + size c))
    where
      go : Dec (j < i + size c) → q < length (under action (automaton m j).edges)
      go (yes l) = f j a l q e
      go (no l) = g j (omega arith) (omega arith) q e

  there_none : (c : Tree) (i : ℕ) (after : List ℕ) → Unpicked c i after → There c i after
  there_none c i after z j a b q e =
      let x : 0 ≡ suc q = sym (z j a b) ∙ e in
      absurd (omega arith)

  -- the leaves of a subtree, numbered from i on, have taken a move, and no others have
  pub record Took (c : Tree) (i : ℕ) (before after : List ℕ) (move : List Taker) : Type 0 where
    pub takers : takers_in m action after (leaves c) ≡ move
    pub there : There c i after
    pub low : (j : ℕ) → j < i → get_or after j 0 ≡ get_or before j 0
    pub high : (j : ℕ) → i + size c ≤ j → get_or after j 0 ≡ get_or before j 0
    pub long : length after ≡ 16

  module _ (c d : Tree) (i : ℕ) (n : Numbered i (par c d)) (before after : List ℕ) where
    both_took : (between : List ℕ) (x y : List Taker) → Took c i before between x → Took d (i + size c) between after y → Took (par c d) i before after (x ++ y)
    unfolding Numbered size
    both_took between x y s t = record {
      takers =
          takers_joined m action after c d
          ∙ ap₂ (λ u v. u ++ v)
          (takers_same m action c i between after n.0 (λ j p q. t.low j q) ∙ s.takers)
          t.takers;
      there = there_joined c d i after (λ j a b q e. s.there j a b q (sym (t.low j b) ∙ e)) t.there;
      low = λ j p. t.low j (omega arith) ∙ s.low j p;
      high = λ j p. t.high j (omega arith) ∙ s.high j (omega arith);
      long = t.long;
    }

    left_took : (x : List Taker) → Unpicked d (i + size c) before → Took c i before after x → Took (par c d) i before after x
    unfolding Numbered size
    left_took x z s = record {
      takers =
          takers_joined m action after c d
          ∙ ap₂ (λ u v. u ++ v) s.takers (takers_none m action d (i + size c) after n.1 (λ j p q. s.high j p ∙ z j p q))
          ∙ append-nil x;
      there = there_joined c d i after s.there (there_none d (i + size c) after (λ j p q. s.high j p ∙ z j p q));
      low = s.low;
      high = λ j p. s.high j (omega arith);
      long = s.long;
    }

    right_took : (y : List Taker) → Unpicked c i before → Took d (i + size c) before after y → Took (par c d) i before after y
    unfolding Numbered size
    right_took y z t = record {
      takers =
          takers_joined m action after c d
          ∙ ap₂ (λ u v. u ++ v) (takers_none m action c i after n.0 (λ j p q. t.low j q ∙ z j p q)) t.takers;
      there = there_joined c d i after (there_none c i after (λ j p q. t.low j q ∙ z j p q)) t.there;
      low = λ j p. t.low j (omega arith);
      high = λ j p. t.high j (omega arith);
      long = t.long;
    }

  leaf_took : (i k : ℕ) (edges : List ℕ) → i < 16 → length edges ≡ 16 → k < 512 → k < length (under action (automaton m i).edges) → Took (leaf i) i edges (named i k edges) (get_or (moves m action (leaf i)) k [])
  unfolding size moves taker_of
  leaf_took i k edges h long few l =
      let is = name_one edges i k h few in
      let own : get_or (named i k edges) i 0 ≡ suc k = ap (λ es. get_or es i 0) (sym is) ∙ get_or-set_same edges i (k + 1) 0 (omega arith) ∙ add-one k in
      record {
        takers =
            takers_leaf m action (named i k edges) i
            ∙ ap (taker_of m action i) own
            ∙ sym (map_at (alone i) (under action (automaton m i).edges) k no_edge [] l);
        there = λ j a b q e.
            let p : i ≡ j = omega arith in
            let x : suc k ≡ suc q = sym own ∙ ap (λ o. get_or (named i k edges) o 0) p ∙ e in
            subst (λ o. q < length (under action (automaton m o).edges)) p (omega arith);
        low = λ j p. ap (λ es. get_or es j 0) (sym is) ∙ get_or-set_other edges i j (k + 1) 0 (λ q. omega arith);
        high = λ j p. ap (λ es. get_or es j 0) (sym is) ∙ get_or-set_other edges i j (k + 1) 0 (λ q. omega arith);
        long = ap length (sym is) ∙ length-set edges i (k + 1) ∙ long;
      }

  -- the sides of a `par`, where P picks a move of each; what a subtree uses is no more than its nodes
  module _ (c d : Tree) (i : ℕ) (n : Numbered i (par c d)) (P : Picker) (first second left : ℕ) (nodes : tree_size c + tree_size d ≤ left) (edges : List ℕ) (z : Unpicked (par c d) i edges) (long : length edges ≡ 16) where
    abbrev X : ℕ
    X = move_count m action c

    abbrev Y : ℕ
    Y = move_count m action d

    abbrev L : List (List Taker)
    L = moves m action c

    abbrev R : List (List Taker)
    R = moves m action d

    abbrev Picks : Tree → ℕ → ℕ → Type 0
    Picks t from at = (l k : ℕ) (es : List ℕ) → tree_size t ≤ l → length es ≡ 16 → Unpicked t from es → k < move_count m action t → move_count m action t ≤ 512 → Took t from es (P l at k es).edges (get_or (moves m action t) k []) × (l ≤ (P l at k es).left + tree_size t)

    abbrev Sides : Taking → List Taker → Type 0
    Sides t move = Took (par c d) i edges (pick_sides P first second t left edges).edges move × (left ≤ (pick_sides P first second t left edges).left + (tree_size c + tree_size d))

    again : (t u : Taking) (move other : List Taker) → t ≡ u → move ≡ other → Sides t move → Sides u other
    again t u move other e f s = subst (λ v. Sides v other) e (subst (λ x. Sides t x) f s)

    module _ (k : ℕ) (pc : Picks c i first) (pd : Picks d (i + size c) second) where
      -- the sides' moves, by whether both, the left or the right take part
      took_both : (q r : ℕ) → q < X → r < Y → X ≤ 512 → Y ≤ 512 → Sides (Both q r) (get_or L q [] ++ get_or R r [])
      unfolding Numbered size pick_sides
      took_both q r hq hr fx fy =
          let one = pc left q edges (omega arith) long (λ j a b. z j a (omega arith)) hq fx in
          let p = P left first q edges in
          let two = pd p.left r p.edges (omega (arith, one.1)) one.0.long (λ j a b. one.0.high j a ∙ z j (omega arith) (omega arith)) hr fy in
          (both_took c d i n edges (P p.left second r p.edges).edges p.edges _ _ one.0 two.0, omega (arith, one.1, two.1))

      took_left : (q : ℕ) → q < X → X ≤ 512 → Sides (Left q) (get_or L q [])
      unfolding Numbered size pick_sides
      took_left q h few =
          let one = pc left q edges (omega arith) long (λ j a b. z j a (omega arith)) h few in
          (left_took c d i n edges (P left first q edges).edges _ (λ j a b. z j (omega arith) (omega arith)) one.0, omega (arith, one.1))

      took_right : (r : ℕ) → r < Y → Y ≤ 512 → Sides (Right r) (get_or R r [])
      unfolding Numbered size pick_sides
      took_right r h few =
          let one = pd left r edges (omega arith) long (λ j a b. z j (omega arith) (omega arith)) h few in
          (right_took c d i n edges (P left second r edges).edges _ (λ j a b. z j a (omega arith)) one.0, omega (arith, one.1))

      abbrev Goal : Bool → Bool → Type 0
      Goal b e = Sides (divided_by b e (capped X) (capped Y) k) (get_or (sides b e L R) k [])

      -- neither count is capped: a move is there, so no factor is 0, and the product is at most 512
      took_pair : k < X * Y → X * Y ≤ 512 → Goal true true
      unfolding sides
      took_pair h few =
          let f = factors X Y k h in
          let x : X ≤ X * Y = le-mul_of_pos_right X f.1 in
          let y : Y ≤ Y * X = le-mul_of_pos_right Y f.0 in
          let s = mul_comm X Y in
          let small : Y ≤ 512 = omega arith in
          let cap = cap_small Y small in
          let t : Both (k / Y) (k % Y) ≡ divided_by true true (capped X) (capped Y) k =
          ap (λ v. Both (k / v) (k % v)) cap ∙ divide_both true true (capped X) (capped Y) k refl refl (λ v. omega arith) in
          let rest : k % Y < Y = mod-lt k f.1 in
          let turn : k / Y < X = quotient k X Y f.1 h in
          let at : k / Y * length R + k % Y ≡ k = ap (λ v. k / Y * v + k % Y) (moves_length m action d) ∙ div-add-mod' k Y in
          let lx = moves_length m action c in
          let ly = moves_length m action d in
          let move = pairs_at L R (k / Y) (k % Y) (omega arith) (omega arith) in
          again _ _ _ _ t
          (sym move ∙ ap (λ v. get_or (pairs L R) v []) at)
          (took_both (k / Y) (k % Y) turn rest (omega arith) small)

      took_either : k < X + Y → X + Y ≤ 512 → Goal false false
      unfolding sides
      took_either h few = go (dec_lt k X)
        where
          cap : X ≡ capped X
          cap = cap_small X (omega arith)

          go : Dec (k < X) → Goal false false
          go (yes l) =
              let t = divide_first false false (capped X) (capped Y) k refl refl (omega (arith, cap)) in
              let lx = moves_length m action c in
              again _ _ _ _ t
              (sym (get_or-append L R [] k (omega arith)))
              (took_left k l (omega arith))
          go (no l) =
              let lx = moves_length m action c in
              let u : k - X ≡ k - capped X = ap (λ v. k - v) cap in
              let v : k - length L ≡ k - X = ap (λ v. k - v) lx in
              let t = ap Right u ∙ divide_then false false (capped X) (capped Y) k refl refl (omega (arith, cap)) in
              again _ _ _ _ t
              (sym (then_at L R k (omega arith) ∙ ap (λ v. get_or R v []) v))
              (took_right (k - X) (omega arith) (omega arith))

      sides_took : (b e : Bool) → k < sides_count b e X Y → sides_count b e X Y ≤ 512 → Goal b e
      unfolding sides_count sides divided_by
      sides_took true true h few = took_pair h few
      sides_took true false h few = took_left k h few
      sides_took false true h few = took_right k h few
      sides_took false false h few = took_either h few

module _ (w cells : List ℕ) (m : Model) (action root : ℕ) where
  abbrev P : Picker
  P = picked_at w cells root

  -- the cell of a subtree is where the code looks for it
  cell_of_lem : (c : Tree) (at : ℕ) → at < root + 192 → Filled m action root cells c at → cell_of (in_set m action c) (move_count m action c) ≡ cell_at cells root at
  cell_of_lem c at h f = sym (filled_cell m action root cells c at f) ∙ cell_within cells root at (at - root) refl (omega arith)

  took_over : (c d : Tree) (i : ℕ) (before after : List ℕ) (move : List Taker) → leaves d ≡ leaves c → size d ≡ size c → Took m action c i before after move → Took m action d i before after move
  took_over c d i before after move e s t = record { takers = rw e t.takers; there = rw s t.there; low = t.low; high = rw s t.high; long = t.long }

  -- a `syn` or an `ini` takes what is under it
  over : (list : List ℕ) (c d : Tree) (i left at k : ℕ) (rest edges : List ℕ) (move : List Taker) → tree_size d ≤ left → tree_size d ≡ suc (tree_size c) → SynStands w at rest list c → leaves d ≡ leaves c → size d ≡ size c
      → Took m action c i edges (P (left - 1) (at + 3) k edges).edges move × (left - 1 ≤ (P (left - 1) (at + 3) k edges).left + tree_size c) → Took m action d i edges (P left at k edges).edges move × (left ≤ (P left at k edges).left + tree_size d)
  over list c d i left at k rest edges move h sz s e n below =
      let step = pick_syn w cells root left at k (omega arith) (Syn (low_bits list) (high_bits list) (at + 3)) (sym s.node) edges (low_bits list) (high_bits list) (at + 3) refl _ refl in
      rw (← step) (took_over c d i edges _ _ e n below.0, omega (arith, below.1))

  some_words : (c : Tree) → 1 ≤ length (tree_words c)
  some_words (par c d) = omega (arith, length_par c d)
  some_words (syn list c) = omega (arith, length_syn list c)
  some_words (ini p c) = omega (arith, length_ini p c)
  some_words (leaf k) = omega (arith, ap length (words_leaf k))

  pub picks : (c : Tree) (i left at k : ℕ) (rest edges : List ℕ) → tree_size c ≤ left → tree_size c ≤ max_tree_nodes → drop at w ≡ tree_words c ++ rest → at + length (tree_words c) ≤ root + 192 → Filled m action root cells c at → Numbered i c → i + size c ≤ 16 → length edges ≡ 16 → Unpicked c i edges → k < move_count m action c → move_count m action c ≤ 512
      → Took m action c i edges (P left at k edges).edges (get_or (moves m action c) k []) × (left ≤ (P left at k edges).left + tree_size c)
  unfolding Filled Numbered size leaves moves move_count
  picks (par c d) i left at k rest edges h small e room f n few long z l cap =
      let s = par_stands w at rest c d e in
      let sz = size_par c d in
      let lz = length_par c d in
      let right = at + 1 + length (tree_words c) in
      let ends = skip_of w c (at + 1) (omega arith) (ap (take (length (tree_words c))) s.first ∙ take-append_seam (tree_words c) (tree_words d ++ rest)) in
      let b = in_set m action c in
      let a = in_set m action d in
      let x = move_count m action c in
      let y = move_count m action d in
      let sd = some_words d in
      let step =
      pick_par w cells root left at k (omega arith) (Par (at + 1)) (sym s.node) edges (at + 1) refl right (sym ends)
      (cell_of b x) (cell_of_lem c (at + 1) (omega arith) f.1)
      (cell_of a y) (cell_of_lem d right (omega arith) f.2)
      (divided_by b a (capped x) (capped y) k)
      (divide_cells (cell_of b x) (cell_of a y) k b a (capped x) (capped y) (sym (cell_inside b x)) (sym (cell_inside a y)) (sym (cell_count b x)) (sym (cell_count a y)) _ refl) in
      let both =
      sides_took m action c d i n P (at + 1) right (left - 1) (omega arith) edges z long k
      (λ o q es en lo un lt le. picks c i o (at + 1) q (tree_words d ++ rest) es en (omega arith) s.first (omega arith) f.1 n.0 (omega arith) lo un lt le)
      (λ o q es en lo un lt le. picks d (i + size c) o right q rest es en (omega arith) s.second (omega arith) f.2 n.1 (omega arith) lo un lt le)
      b a l cap in
      rw step (both.0, omega (arith, both.1))
  picks (syn list c) i left at k rest edges h small e room f n few long z l cap =
      let s = syn_stands w at rest list c e in
      let sz = size_syn list c in
      let lz = length_syn list c in
      over list c (syn list c) i left at k rest edges _ h sz s refl refl (picks c i (left - 1) (at + 3) k rest edges (omega arith) (omega arith) s.next (omega arith) f.1 n few long z l cap)
  picks (ini p c) i left at k rest edges h small e room f n few long z l cap =
      let s = ini_stands w at rest p c e in
      let sz = size_ini p c in
      let lz = length_ini p c in
      over [] c (ini p c) i left at k rest edges _ h sz s refl refl (picks c i (left - 1) (at + 3) k rest edges (omega arith) (omega arith) s.next (omega arith) f.1 n few long z l cap)
  picks (leaf j) i left at k rest edges h small e room f n few long z l cap =
      let sz = size_leaf j in
      let step = pick_leaf w cells root left at k (omega arith) (Leaf j (at + 1)) (sym (leaf_stands w at rest j e)) edges j (at + 1) refl _ refl in
      rw (← step) (
        subst (λ o. Took m action (leaf j) o edges (named j k edges) (get_or (moves m action (leaf j)) k [])) n (leaf_took m action j k edges (omega arith) long (omega arith) l),
        omega arith,
      )
