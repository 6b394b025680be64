-- Each way out of the code of src/planning.rt.
use mathlib.Core.Path.{◌≡◌, refl, sym, ap, ◌∙◌, fun_ext}
use mathlib.Core.Bool.{Bool, false, ◌||◌}
use mathlib.Core.List.{List}
use Prim.Native.Nat.{ℕ, zero, suc, ◌-◌, ◌≤◌, ◌<◌}
use native.Mathlib.Numerals.{sub-one}
use native.Mathlib.Omega.{arith}
use lib.ListN.{get_or, set}
use borrow.Author.Tests.{lt-ltb, le-ltb}
use Rattle.model.specs.Basic.{member}
use Rattle.model.specs.Moves.{sides_count}
use Rattle.model.specs.Table.{bit, set_of}
use Rattle.table_tree.specs.declared.nodes.Found.{Found}
use Rattle.table_tree.specs.declared.nodes.Found.TheVariants.{Par, Syn, Leaf, Stray}
use Rattle.table_tree.specs.Nodes.{node_at}
use Rattle.table_tree.proofs.Falling.{walk_is}
use Rattle.merge_moves.specs.declared.planning.Planned.{Planned}
use Rattle.merge_moves.specs.Capping.{capped, cell_of}
use Rattle.merge_moves.specs.Plan.{planned, par_plan, syn_plan, leaf_plan, plan_by, plan_step, plan_within, plan_at}
use Rattle.merge_moves.specs.Plan.{stored, fill_by, fill_step, fill_within, fill_at}

-- `par_plan`, `syn_plan` and `leaf_plan`
pub par_plan_is : (c d : Planned) (x : ℕ)
    → x ≡ capped (sides_count c.inside d.inside (capped c.count) (capped d.count))
    → planned (c.inside || d.inside) x d.next d.left ≡ par_plan c d
unfolding par_plan
par_plan_is c d x hx = rw hx

pub syn_plan_is : (list : List ℕ) (action : ℕ) (c : Planned) (b : Bool) → b ≡ member action list
    → planned (b || c.inside) c.count c.next c.left ≡ syn_plan list action c
unfolding syn_plan
syn_plan_is list action c b hb = rw hb

pub leaf_plan_is : (sets under : List ℕ) (action k next left s u : ℕ) (b : Bool) (x : ℕ) → s ≡ get_or sets k 0
    → b ≡ bit s action → u ≡ get_or under k 0 → x ≡ capped u
    → planned b x next left ≡ leaf_plan sets under action k next left
unfolding leaf_plan
leaf_plan_is sets under action k next left s u b x hs hb hu hx = rw (hb, hs, hx, hu)

-- what the equations in src/planning.rt need
pub ruleset planning_laws = (par_plan_is, syn_plan_is, leaf_plan_is)

abbrev Planner : Type 0
Planner = (left at : ℕ) → Planned

abbrev Filler : Type 0
Filler = (left at : ℕ) → List ℕ → List ℕ

-- no walk leaves more nodes than it was given
abbrev Falls : Planner → Type 0
Falls R = (left at : ℕ) → (R left at).left ≤ left

-- `plan_at`
module _ (words sets under : List ℕ) (action : ℕ) where
  abbrev W : ℕ → Planner
  W = plan_within words sets under action

  abbrev Q : Planner
  Q = plan_at words sets under action

  -- a node uses one
  by_falls : (R : Planner) → Falls R → (left at : ℕ) (f : Found) → (plan_by R sets under action left at f).left ≤ left
  unfolding plan_by par_plan syn_plan leaf_plan
  by_falls R h left at (Par next) = let c = R left next in omega (arith, h left next, h c.left c.next)
  by_falls R h left at (Syn a b next) = h left next
  by_falls R h left at (Leaf k next) = omega arith
  by_falls R h left at Stray = omega arith

  step_falls : (R : Planner) → Falls R → (left at : ℕ) → (plan_step words sets under action R left at).left ≤ left - 1
  unfolding plan_step
  step_falls R h zero at = omega arith
  step_falls R h (suc n) at = omega (arith, by_falls R h n at (node_at words at))

  within_falls : (d : ℕ) → Falls (W d)
  unfolding plan_within
  within_falls zero left at = omega arith
  within_falls (suc d) left at = omega (arith, step_falls (W d) (within_falls d) left at)

  -- walks that agree up to n nodes left give the same node
  by_same : (R S : Planner) (n : ℕ) → Falls R → ((left : ℕ) → left ≤ n → R left ≡ S left) → (at : ℕ) (f : Found)
      → plan_by R sets under action n at f ≡ plan_by S sets under action n at f
  unfolding plan_by
  by_same R S n h same at (Par next) =
      let c = R n next in
      let l = h n next in
      ap (λ (g : ℕ → Planned). par_plan c (g c.next)) (same c.left (omega arith))
      ∙ ap (λ (g : ℕ → Planned). let c = g next in par_plan c (S c.left c.next)) (same n (omega arith))
  by_same R S n h same at (Syn a b next) =
      ap (λ (g : ℕ → Planned). syn_plan (set_of a b) action (g next)) (same n (omega arith))
  by_same R S n h same at (Leaf k next) = refl
  by_same R S n h same at Stray = refl

  plan_walk : (left : ℕ) → Q left ≡ plan_step words sets under action Q left
  unfolding plan_at plan_within plan_step
  plan_walk =
      walk_is (λ left at. planned false 0 at left) (plan_step words sets under action) W Falls
      (λ left. refl) (λ d left. refl) within_falls (λ R. refl)
      (λ R S n h same. fun_ext (λ at. by_same R S n h same at (node_at words at)))

  pub plan_step_lem : (left at : ℕ) → Q left at ≡ plan_step words sets under action Q left at
  plan_step_lem left at = ap (λ (g : ℕ → Planned). g at) (plan_walk left)

  -- each call, on any words, leaves at least one node fewer than it was given
  pub plan_left : (left at : ℕ) (c : Planned) → c ≡ Q left at → c.left ≤ left - 1
  unfolding plan_at
  plan_left left at c e = rw (e, plan_step_lem left at) (step_falls Q (λ l a. within_falls l l a) left at)

  module _ (root : ℕ) where
    fill_same : (R S : Filler) (n : ℕ) → ((left : ℕ) → left ≤ n → R left ≡ S left) → (f : Found) (cells : List ℕ)
        → fill_by Q R n f cells ≡ fill_by Q S n f cells
    unfolding fill_by
    fill_same R S n same (Par next) cells =
        let c = Q n next in
        let l = plan_left n next c refl in
        ap (λ (g : ℕ → List ℕ → List ℕ). g c.next (R n next cells)) (same c.left (omega arith))
        ∙ ap (λ (g : ℕ → List ℕ → List ℕ). S c.left c.next (g next cells)) (same n (omega arith))
    fill_same R S n same (Syn a b next) cells = ap (λ (g : ℕ → List ℕ → List ℕ). g next cells) (same n (omega arith))
    fill_same R S n same (Leaf k next) cells = refl
    fill_same R S n same Stray cells = refl

    fill_walk : (left : ℕ)
        → fill_at words sets under action root left
        ≡ fill_step words sets under action root (fill_at words sets under action root) left
    unfolding fill_at fill_within fill_step
    fill_walk =
        walk_is (λ left at cells. cells) (fill_step words sets under action root)
        (fill_within words sets under action root) (λ R. Unit {0})
        (λ left. refl) (λ d left. refl) (λ d. tt) (λ R. refl)
        (λ R S n h same. fun_ext
        (λ at. fun_ext
        (λ cells. ap (stored root at (Q (suc n) at)) (fill_same R S n same (node_at words at) cells))))

    pub fill_step_lem : (left at : ℕ) (cells : List ℕ)
        → fill_at words sets under action root left at cells
        ≡ fill_step words sets under action root (fill_at words sets under action root) left at cells
    fill_step_lem left at cells = ap (λ (g : ℕ → List ℕ → List ℕ). g at cells) (fill_walk left)

module _ (words sets under : List ℕ) (action root : ℕ) where
  abbrev P : Planner
  P = plan_at words sets under action

  abbrev F : Filler
  F = fill_at words sets under action root

  pub plan_none : (left at : ℕ) → left ≡ 0 → (r : Planned) → r ≡ planned false 0 at left → r ≡ P left at
  unfolding plan_step
  plan_none left at z r hr = rw (plan_step_lem words sets under action left at, z) (rw z at hr)

  pub fill_none : (left at : ℕ) (cells : List ℕ) → left ≡ 0 → cells ≡ F left at cells
  unfolding fill_step
  fill_none left at cells z = rw (fill_step_lem words sets under action root left at cells, z)

  module _ (left at : ℕ) (z : left ≡ 0 → ⊥) (f : Found) (e : f ≡ node_at words at) where
    plan_by_lem : P left at ≡ plan_by P sets under action (left - 1) at f
    unfolding plan_step
    plan_by_lem = go left z ∙ ap (plan_by P sets under action (left - 1) at) (sym e)
      where
        go : (n : ℕ) → (n ≡ 0 → ⊥) → P n at ≡ plan_by P sets under action (n - 1) at (node_at words at)
        go zero y = absurd (y refl)
        go (suc n) y = plan_step_lem words sets under action (suc n) at ∙ rw (sub-one (suc n))

    pub fill_by_lem : (cells : List ℕ) → F left at cells ≡ stored root at (P left at) (fill_by P F (left - 1) f cells)
    unfolding fill_step
    fill_by_lem cells = go left z ∙ ap (λ g. stored root at (P left at) (fill_by P F (left - 1) g cells)) (sym e)
      where
        go : (n : ℕ) → (n ≡ 0 → ⊥)
            → F n at cells ≡ stored root at (P n at) (fill_by P F (n - 1) (node_at words at) cells)
        go zero y = absurd (y refl)
        go (suc n) y = fill_step_lem words sets under action root (suc n) at cells ∙ rw (sub-one (suc n))

    module _ (r : Planned) where
      pub plan_par : (n : ℕ) → f ≡ Par n → (c d : Planned) → c ≡ P (left - 1) n → d ≡ P c.left c.next → (p : Planned)
          → p ≡ par_plan c d → r ≡ p → r ≡ P left at
      unfolding plan_by
      plan_par n h c d hc hd p hp hr = rw (plan_by_lem, h, ← hc, ← hd) (hr ∙ hp)

      pub plan_syn : (a b n : ℕ) → f ≡ Syn a b n → (c : Planned) → c ≡ P (left - 1) n → (p : Planned)
          → p ≡ syn_plan (set_of a b) action c → r ≡ p → r ≡ P left at
      unfolding plan_by
      plan_syn a b n h c hc p hp hr = rw (plan_by_lem, h, ← hc) (hr ∙ hp)

      pub plan_leaf : (k n : ℕ) → f ≡ Leaf k n → (p : Planned) → p ≡ leaf_plan sets under action k n (left - 1) → r ≡ p
          → r ≡ P left at
      unfolding plan_by
      plan_leaf k n h p hp hr = rw (plan_by_lem, h) (hr ∙ hp)

      pub plan_stray : f ≡ Stray → (p : Planned) → p ≡ planned false 0 at (left - 1) → r ≡ p → r ≡ P left at
      unfolding plan_by
      plan_stray h p hp hr = rw (plan_by_lem, h) (hr ∙ hp)

    -- the cells of the nodes below, then this node's
    module _ (cells new : List ℕ) where
      fill_own : (es : List ℕ) → es ≡ fill_by P F (left - 1) f cells → (p : Planned) → p ≡ P left at
          → new ≡ stored root at p es → new ≡ F left at cells
      fill_own es he p hp hn = rw (fill_by_lem cells, ← hp, ← he) hn

      pub fill_par : (n : ℕ) → f ≡ Par n → (c d : Planned) → c ≡ P (left - 1) n → (es : List ℕ)
          → es ≡ F (left - 1) n cells → d ≡ P c.left c.next → (fs : List ℕ) → fs ≡ F c.left c.next es → (p : Planned)
          → p ≡ par_plan c d → new ≡ stored root at p fs → new ≡ F left at cells
      unfolding fill_by
      fill_par n h c d hc es he hd fs hf p hp hn =
          fill_own fs (rw (h, ← hc, ← he) hf) p (plan_par p n h c d hc hd p hp refl) hn

      pub fill_syn : (a b n : ℕ) → f ≡ Syn a b n → (c : Planned) → c ≡ P (left - 1) n → (es : List ℕ)
          → es ≡ F (left - 1) n cells → (p : Planned) → p ≡ syn_plan (set_of a b) action c → new ≡ stored root at p es
          → new ≡ F left at cells
      unfolding fill_by
      fill_syn a b n h c hc es he p hp hn = fill_own es (rw h he) p (plan_syn p a b n h c hc p hp refl) hn

      pub fill_leaf : (k n : ℕ) → f ≡ Leaf k n → (p : Planned) → p ≡ leaf_plan sets under action k n (left - 1)
          → new ≡ stored root at p cells → new ≡ F left at cells
      unfolding fill_by
      fill_leaf k n h p hp hn = fill_own cells (rw h) p (plan_leaf p k n h p hp refl) hn

      pub fill_stray : f ≡ Stray → (p : Planned) → p ≡ planned false 0 at (left - 1) → new ≡ stored root at p cells
          → new ≡ F left at cells
      unfolding fill_by
      fill_stray h p hp hn = fill_own cells (rw h) p (plan_stray p h p hp refl) hn

pub ruleset plan_laws = (plan_none, plan_par, plan_syn, plan_leaf, plan_stray, plan_left)

pub ruleset fill_laws = (fill_none, fill_par, fill_syn, fill_leaf, fill_stray)

-- `keep`
module _ (root at i : ℕ) (hi : i ≡ at - root) (p : Planned) (cells : List ℕ) where
  pub store_past : 192 ≤ i → cells ≡ stored root at p cells
  unfolding stored
  store_past h = rw (← hi, le-ltb i 192 h, stored)

  pub store_one : i < 192 → (x : ℕ) → x ≡ cell_of p.inside p.count → set cells i x ≡ stored root at p cells
  unfolding stored
  store_one h x hx =
      let l : at - root < 192 = rw (← hi) h in
      rw (lt-ltb (at - root) 192 l, stored, hi, hx)

pub ruleset store_laws = (store_past, store_one)
