-- Each way out of the code of src/picking.rt.
use mathlib.Core.Path.{◌≡◌, refl, sym, ap, ◌∙◌, fun_ext}
use mathlib.Core.Bool.{Bool, true, false}
use mathlib.Core.List.{List}
use Prim.Native.Nat.{ℕ, zero, suc, ◌+◌, ◌-◌, ◌/◌, ◌%◌, ◌≤◌, ◌<◌}
use native.Mathlib.Numerals.{sub-one}
use native.Mathlib.Omega.{arith}
use lib.ListN.{length, get_or, set, get_or-eq_default}
use Rattle.std.proofs.Common.{inl, inr}
use Rattle.std.proofs.lemmas.Bool.{cases_lt}
use borrow.Author.Tests.{eq-eqb, ne_eqb, lt-ltb, le-ltb}
use Rattle.table_tree.specs.declared.nodes.Found.{Found}
use Rattle.table_tree.specs.declared.nodes.Found.TheVariants.{Par, Syn, Leaf, Stray}
use Rattle.table_tree.specs.Nodes.{node_at}
use Rattle.table_tree.proofs.Falling.{walk_is}
use Rattle.merge_moves.specs.declared.picking.Taking.{Taking}
use Rattle.merge_moves.specs.declared.picking.Taking.TheVariants.{Both, Left, Right, Nobody}
use Rattle.merge_moves.specs.Capping.{inside_of}
use Rattle.merge_moves.specs.Pick.{divided_by, divided, named, Picked, picked, Picker, pick_sides, end_of, cell_at}
use Rattle.merge_moves.specs.Pick.{pick_by, pick_step, pick_within, picked_at}

-- `cell_at`
pub cell_within : (cells : List ℕ) (root at i : ℕ) → i ≡ at - root → i < 192 → get_or cells i 0 ≡ cell_at cells root at
unfolding cell_at
cell_within cells root at i hi h =
    let l : at - root < 192 = rw (← hi) h in
    rw (lt-ltb (at - root) 192 l, cell_at, hi)

pub cell_at_is : (cells : List ℕ) (root at i : ℕ) → length cells ≡ 192 → i ≡ at - root
    → get_or cells i 0 ≡ cell_at cells root at
unfolding cell_at
cell_at_is cells root at i long hi =
    elim (cases_lt i 192) [
      | inl h ↦ cell_within cells root at i hi h
      | inr h ↦
          let past : length cells ≤ i = omega arith in
          let none : get_or cells i 0 ≡ 0 = get_or-eq_default cells 0 past in
          rw (none, ← hi, le-ltb i 192 h, cell_at)
    ]

-- `divide`
module _ (b e : Bool) (left right k : ℕ) where
  module _ (h : b ≡ true) (i : e ≡ true) where
    pub divide_none : right ≡ 0 → Nobody ≡ divided_by b e left right k
    unfolding divided_by
    divide_none z = rw (h, i, eq-eqb right 0 z, divided_by)

    pub divide_both : (right ≡ 0 → ⊥) → Both (k / right) (k % right) ≡ divided_by b e left right k
    unfolding divided_by
    divide_both z = rw (h, i, ne_eqb right 0 z, divided_by)

  pub divide_left : b ≡ true → e ≡ false → Left k ≡ divided_by b e left right k
  unfolding divided_by
  divide_left h i = rw (h, i)

  pub divide_right : b ≡ false → e ≡ true → Right k ≡ divided_by b e left right k
  unfolding divided_by
  divide_right h i = rw (h, i)

  module _ (h : b ≡ false) (i : e ≡ false) where
    pub divide_first : k < left → Left k ≡ divided_by b e left right k
    unfolding divided_by
    divide_first l = rw (h, i, lt-ltb k left l, divided_by)

    pub divide_then : left ≤ k → Right (k - left) ≡ divided_by b e left right k
    unfolding divided_by
    divide_then l = rw (h, i, le-ltb k left l, divided_by)

pub divide_cells : (left right k : ℕ) (b e : Bool) (x y : ℕ) → b ≡ inside_of left → e ≡ inside_of right → x ≡ left / 2
    → y ≡ right / 2 → (t : Taking) → t ≡ divided_by b e x y k → t ≡ divided left right k
unfolding divided
divide_cells left right k b e x y hb he hx hy t ht = rw (← hb, ← he, ← hx, ← hy) ht

-- `name`
module _ (edges : List ℕ) (i k : ℕ) where
  pub name_past : 16 ≤ i → edges ≡ named i k edges
  unfolding named
  name_past h = rw (le-ltb i 16 h, named)

  pub name_many : 512 ≤ k → edges ≡ named i k edges
  unfolding named
  name_many l =
      elim (cases_lt i 16) [
        | inl h ↦ rw (lt-ltb i 16 h, le-ltb k 512 l, named)
        | inr h ↦ rw (le-ltb i 16 h, named)
      ]

  pub name_one : i < 16 → k < 512 → set edges i (k + 1) ≡ named i k edges
  unfolding named
  name_one h l = rw (lt-ltb i 16 h, lt-ltb k 512 l, named)

-- what the equations in src/picking.rt need
pub ruleset picking_laws = (
  divide_none,
  divide_both,
  divide_left,
  divide_right,
  divide_first,
  divide_then,
  divide_cells,
  name_past,
  name_many,
  name_one,
)

-- no walk leaves more nodes than it was given
abbrev Falls : Picker → Type 0
Falls R = (left at k : ℕ) (edges : List ℕ) → (R left at k edges).left ≤ left

sides_fall : (R : Picker) → Falls R → (first second : ℕ) (t : Taking) (left : ℕ) (edges : List ℕ)
    → (pick_sides R first second t left edges).left ≤ left
unfolding pick_sides
sides_fall R h first second (Both i j) left edges =
    let p = R left first i edges in
    omega (arith, h left first i edges, h p.left second j p.edges)
sides_fall R h first second (Left i) left edges = h left first i edges
sides_fall R h first second (Right j) left edges = h left second j edges
sides_fall R h first second Nobody left edges = omega arith

abbrev Rest : Type 0
Rest = ℕ → ℕ → List ℕ → Picked

sides_same : (R S : Picker) (n : ℕ) → Falls R → ((left : ℕ) → left ≤ n → R left ≡ S left)
    → (first second : ℕ) (t : Taking) (edges : List ℕ)
    → pick_sides R first second t n edges ≡ pick_sides S first second t n edges
unfolding pick_sides
sides_same R S n h same first second (Both i j) edges =
    let p = R n first i edges in
    let l = h n first i edges in
    ap (λ (g : Rest). g second j p.edges) (same p.left (omega arith))
    ∙ ap (λ (g : Rest). let p = g first i edges in S p.left second j p.edges) (same n (omega arith))
sides_same R S n h same first second (Left i) edges = ap (λ (g : Rest). g first i edges) (same n (omega arith))
sides_same R S n h same first second (Right j) edges = ap (λ (g : Rest). g second j edges) (same n (omega arith))
sides_same R S n h same first second Nobody edges = refl

-- `pick_at`
module _ (words cells : List ℕ) (root : ℕ) where
  abbrev W : ℕ → Picker
  W = pick_within words cells root

  abbrev P : Picker
  P = picked_at words cells root

  -- a node uses one
  by_falls : (R : Picker) → Falls R → (k : ℕ) (f : Found) (left : ℕ) (edges : List ℕ)
      → (pick_by R words cells root k f left edges).left ≤ left
  unfolding pick_by
  by_falls R h k (Par next) left edges = sides_fall R h next (end_of words next) _ left edges
  by_falls R h k (Syn a b next) left edges = h left next k edges
  by_falls R h k (Leaf i next) left edges = omega arith
  by_falls R h k Stray left edges = omega arith

  step_falls : (R : Picker) → Falls R → (left at k : ℕ) (edges : List ℕ)
      → (pick_step words cells root R left at k edges).left ≤ left - 1
  unfolding pick_step
  step_falls R h zero at k edges = omega arith
  step_falls R h (suc n) at k edges = omega (arith, by_falls R h k (node_at words at) n edges)

  within_falls : (d : ℕ) → Falls (W d)
  unfolding pick_within
  within_falls zero left at k edges = omega arith
  within_falls (suc d) left at k edges = omega (arith, step_falls (W d) (within_falls d) left at k edges)

  -- walks that agree up to n nodes left give the same node
  by_same : (R S : Picker) (n : ℕ) → Falls R → ((left : ℕ) → left ≤ n → R left ≡ S left)
      → (k : ℕ) (f : Found) (edges : List ℕ)
      → pick_by R words cells root k f n edges ≡ pick_by S words cells root k f n edges
  unfolding pick_by
  by_same R S n h same k (Par next) edges = sides_same R S n h same next (end_of words next) _ edges
  by_same R S n h same k (Syn a b next) edges = ap (λ (g : Rest). g next k edges) (same n (omega arith))
  by_same R S n h same k (Leaf i next) edges = refl
  by_same R S n h same k Stray edges = refl

  pick_walk : (left : ℕ) → P left ≡ pick_step words cells root P left
  unfolding picked_at pick_within pick_step
  pick_walk =
      walk_is (λ left at k edges. picked edges left) (pick_step words cells root) W Falls
      (λ left. refl) (λ d left. refl) within_falls (λ R. refl)
      (λ R S n h same. fun_ext
      (λ at. fun_ext (λ k. fun_ext (λ edges. by_same R S n h same k (node_at words at) edges))))

  pub pick_step_lem : (left at k : ℕ) (edges : List ℕ)
      → P left at k edges ≡ pick_step words cells root P left at k edges
  pick_step_lem left at k edges = ap (λ (g : Rest). g at k edges) (pick_walk left)

  -- each call, on any words, leaves at least one node fewer than it was given
  pub pick_left_over : (left at k : ℕ) (edges : List ℕ) (x : Picked) → x ≡ P left at k edges → x.left ≤ left - 1
  unfolding picked_at
  pick_left_over left at k edges x e =
      rw (e, pick_step_lem left at k edges) (step_falls P (λ l a i es. within_falls l l a i es) left at k edges)

  pub pick_none : (left at k : ℕ) (edges : List ℕ) → left ≡ 0 → picked edges left ≡ P left at k edges
  unfolding pick_step
  pick_none left at k edges z = rw (pick_step_lem left at k edges, z)

  module _ (left at k : ℕ) (z : left ≡ 0 → ⊥) (f : Found) (e : f ≡ node_at words at) (edges : List ℕ) where
    pick_by_lem : P left at k edges ≡ pick_by P words cells root k f (left - 1) edges
    unfolding pick_step
    pick_by_lem = go left z ∙ ap (λ g. pick_by P words cells root k g (left - 1) edges) (sym e)
      where
        go : (n : ℕ) → (n ≡ 0 → ⊥) → P n at k edges ≡ pick_by P words cells root k (node_at words at) (n - 1) edges
        go zero y = absurd (y refl)
        go (suc n) y = pick_step_lem (suc n) at k edges ∙ rw (sub-one (suc n))

    pub pick_syn : (a b n : ℕ) → f ≡ Syn a b n → (x : Picked) → x ≡ P (left - 1) n k edges → x ≡ P left at k edges
    unfolding pick_by
    pick_syn a b n h x he = rw (pick_by_lem, h) he

    pub pick_leaf : (i n : ℕ) → f ≡ Leaf i n → (es : List ℕ) → es ≡ named i k edges
        → picked es (left - 1) ≡ P left at k edges
    unfolding pick_by
    pick_leaf i n h es he = rw (pick_by_lem, h, ← he)

    pub pick_stray : f ≡ Stray → picked edges (left - 1) ≡ P left at k edges
    unfolding pick_by
    pick_stray h = rw (pick_by_lem, h)

    module _ (n : ℕ) (h : f ≡ Par n) (r : ℕ) (hr : r ≡ end_of words n) (x : ℕ) (hx : x ≡ cell_at cells root n) (y : ℕ)
        (hy : y ≡ cell_at cells root r) (t : Taking) (ht : t ≡ divided x y k) where
      pub pick_par : P left at k edges ≡ pick_sides P n r t (left - 1) edges
      unfolding pick_by
      pick_par = rw (pick_by_lem, h, ← hr, ← hx, ← hy, ← ht)

      pub pick_both : (i j : ℕ) → t ≡ Both i j → (es : List ℕ) (l : ℕ) → picked es l ≡ P (left - 1) n i edges
          → (q : Picked) → q ≡ P l r j es → q ≡ P left at k edges
      unfolding pick_sides
      pick_both i j u es l he q hq = rw (pick_par, u, ← he) hq

      pub pick_left : (i : ℕ) → t ≡ Left i → (q : Picked) → q ≡ P (left - 1) n i edges → q ≡ P left at k edges
      unfolding pick_sides
      pick_left i u q hq = rw (pick_par, u) hq

      pub pick_right : (j : ℕ) → t ≡ Right j → (q : Picked) → q ≡ P (left - 1) r j edges → q ≡ P left at k edges
      unfolding pick_sides
      pick_right j u q hq = rw (pick_par, u) hq

      pub pick_nobody : t ≡ Nobody → picked edges (left - 1) ≡ P left at k edges
      unfolding pick_sides
      pick_nobody u = rw (pick_par, u)

pub ruleset pick_laws = (
  pick_none,
  pick_syn,
  pick_leaf,
  pick_stray,
  pick_both,
  pick_left,
  pick_right,
  pick_nobody,
  pick_left_over,
)
