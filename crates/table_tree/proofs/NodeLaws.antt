-- The node at a place: each way out of the code, and what the words there are.
use mathlib.Core.Path.{◌≡◌, refl, sym, ap, ◌∙◌}
use mathlib.Core.List.{List, [], ◌∷◌, ◌++◌}
use Prim.Native.Nat.{ℕ, zero, suc, ◌+◌, ◌-◌, ◌≤◌, ◌<◌}
use native.Mathlib.Omega.{arith}
use lib.ListN.{length, get_or, drop, drop_of_length-le, length-drop}
use lib.Seq.{drop-cons, drop-drop, drop_at, get_or-drop}
use borrow.Author.Tests.{eq-eqb, ne_eqb}
use Rattle.table_tree.specs.declared.nodes.Found.{Found}
use Rattle.table_tree.specs.declared.nodes.Found.TheVariants.{Par, Syn, Leaf, Stray}
use Rattle.table_tree.specs.Nodes.{node_in, node_at, after, owing, skip_from}

-- `node_at`
short : (at : ℕ) (ws : List ℕ) → length ws < 2 → Stray ≡ node_in at (1 ∷ ws)
unfolding node_in
short at [] h = refl
short at (a ∷ []) h = refl
short at (a ∷ b ∷ ws) h = absurd (omega arith)

long : (at : ℕ) (ws : List ℕ) → 2 ≤ length ws → Syn (get_or ws 0 0) (get_or ws 1 0) (at + 3) ≡ node_in at (1 ∷ ws)
unfolding node_in
long at [] h = absurd (omega arith)
long at (a ∷ []) h = absurd (omega arith)
long at (a ∷ b ∷ ws) h = refl

leaf_in : (at w : ℕ) (ws : List ℕ) → (w ≡ 0 → ⊥) → (w ≡ 1 → ⊥) → Leaf (w - 2) (at + 1) ≡ node_in at (w ∷ ws)
unfolding node_in
leaf_in at zero ws a b = absurd (a refl)
leaf_in at (suc zero) ws a b = absurd (b refl)
leaf_in at (suc (suc k)) ws a b = ap (λ j. Leaf j (at + 1)) (omega arith)

module _ (words : List ℕ) (at : ℕ) where
  pub node_end : length words ≤ at → Stray ≡ node_at words at
  unfolding node_at node_in
  node_end h = rw (drop_of_length-le words h)

  module _ (h : at < length words) where
    pub node_par : get_or words at 0 ≡ 0 → Par (at + 1) ≡ node_at words at
    unfolding node_at node_in
    node_par e = rw (drop-cons words at 0 h, e)

    pub node_leaf : (k : ℕ) → (get_or words at 0 ≡ 0 → ⊥) → (get_or words at 0 ≡ 1 → ⊥) → k ≡ get_or words at 0 - 2 → Leaf k (at + 1) ≡ node_at words at
    unfolding node_at
    node_leaf k a b e = rw (drop-cons words at 0 h, e) (leaf_in at (get_or words at 0) (drop (suc at) words) a b)

    pub node_short : get_or words at 0 ≡ 1 → length words - at < 3 → Stray ≡ node_at words at
    unfolding node_at
    node_short e l = rw (drop-cons words at 0 h, e) (short at (drop (suc at) words) (omega (arith, length-drop (suc at) words)))

    pub node_syn : get_or words at 0 ≡ 1 → 3 ≤ length words - at → Syn (get_or words (at + 1) 0) (get_or words (at + 2) 0) (at + 3) ≡ node_at words at
    unfolding node_at
    node_syn e l =
        let one : suc at + 0 ≡ at + 1 = omega arith in
        let two : suc at + 1 ≡ at + 2 = omega arith in
        rw (drop-cons words at 0 h, e, ← one, ← two, ← get_or-drop (suc at) words 0 0, ← get_or-drop (suc at) words 1 0)
        (long at (drop (suc at) words) (omega (arith, length-drop (suc at) words)))

pub ruleset node_laws = (node_end, node_par, node_leaf, node_short, node_syn)

-- `skip`
owing_bound : (f : Found) (k : ℕ) → owing f k ≤ k + 1
unfolding owing
owing_bound (Par n) k = omega arith
owing_bound (Syn a b n) k = omega arith
owing_bound (Leaf a n) k = omega arith
owing_bound Stray k = omega arith

module _ (words : List ℕ) (left owed next whole : ℕ) (inv : skip_from words left owed next ≡ whole) where
  pub skip_done : owed ≡ 0 → next ≡ whole
  unfolding skip_from
  skip_done z = go left inv
    where
      go : (n : ℕ) → skip_from words n owed next ≡ whole → next ≡ whole
      go zero e = e
      go (suc n) e = rw (eq-eqb owed 0 z, skip_from) at e

  pub skip_spent : left ≡ 0 → next ≡ whole
  unfolding skip_from
  skip_spent z = rw z at inv

  module _ (z : owed ≡ 0 → ⊥) (rest : ℕ) (y : left ≡ suc rest) (f : Found) (e : f ≡ node_at words next) (o n : ℕ) (eo : o ≡ owing f owed) where
    pub skip_step : n ≡ after f next → skip_from words rest o n ≡ whole
    unfolding skip_from
    skip_step en = rw (eo, en, e) (rw (y, ne_eqb owed 0 z, skip_from) at inv)

    pub skip_bound : (i : ℕ) → owed ≤ i + 1 → o ≤ i + 1 + 1
    skip_bound i l = omega (arith, owing_bound f owed)

pub ruleset skip_laws = (skip_done, skip_spent, skip_step, skip_bound)

-- what the words are where a node stands
pub data Viewed (w : List ℕ) (at : ℕ) : Found → Type 0 where
  viewed_par : drop at w ≡ 0 ∷ drop (at + 1) w → Viewed w at (Par (at + 1))
  viewed_syn : (a b : ℕ) → drop at w ≡ 1 ∷ a ∷ b ∷ drop (at + 3) w → Viewed w at (Syn a b (at + 3))
  viewed_leaf : (k : ℕ) → drop at w ≡ (2 + k) ∷ drop (at + 1) w → Viewed w at (Leaf k (at + 1))
  viewed_stray : Viewed w at Stray

-- the words after some are those past them
pub later : {A : Type 0} (w k : List A) (at n : ℕ) (l : List A) → drop at w ≡ k ++ l → length k ≡ n → drop (at + n) w ≡ l
later w k at n l e z = sym (drop-drop n at w) ∙ ap (drop n) e ∙ drop_at k l n z

pub view : (w : List ℕ) (at : ℕ) → Viewed w at (node_at w at)
unfolding node_at node_in
view w at = go (drop at w) refl
  where
    go : (ws : List ℕ) → drop at w ≡ ws → Viewed w at (node_in at ws)
    go [] e = viewed_stray
    go (zero ∷ ws) e = viewed_par (e ∙ ap (λ l. 0 ∷ l) (sym (later w (0 ∷ []) at 1 ws e refl)))
    go (suc zero ∷ []) e = viewed_stray
    go (suc zero ∷ a ∷ []) e = viewed_stray
    go (suc zero ∷ a ∷ b ∷ ws) e = viewed_syn a b (e ∙ ap (λ l. 1 ∷ a ∷ b ∷ l) (sym (later w (1 ∷ a ∷ b ∷ []) at 3 ws e refl)))
    go (suc (suc k) ∷ ws) e =
        let two : suc (suc k) ≡ 2 + k = omega arith in
        viewed_leaf k (rw (← two) (e ∙ ap (λ l. suc (suc k) ∷ l) (sym (later w (suc (suc k) ∷ []) at 1 ws e refl))))
