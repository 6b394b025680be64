-- Each way out of the code of src/members.rt.
use mathlib.Core.Path.{◌≡◌, refl, sym, ap, ◌∙◌, fun_ext}
use mathlib.Core.Bool.{Bool, false, ◌||◌}
use mathlib.Core.List.{List}
use Prim.Native.Nat.{ℕ, zero, suc, ◌-◌, ◌≤◌}
use native.Mathlib.Numerals.{sub-one}
use native.Mathlib.Omega.{arith}
use lib.ListN.{get_or}
use Rattle.model.specs.Basic.{member}
use Rattle.model.specs.Table.{bit, set_of}
use Rattle.table_tree.specs.declared.nodes.Found.{Found}
use Rattle.table_tree.specs.declared.nodes.Found.TheVariants.{Par, Syn, Leaf, Stray}
use Rattle.table_tree.specs.declared.members.Membership.{Membership}
use Rattle.table_tree.specs.Nodes.{node_at}
use Rattle.table_tree.specs.Members.{membership, member_by, member_step, member_within, member_at}
use Rattle.table_tree.proofs.Falling.{walk_is}

abbrev Reader : Type 0
Reader = (left at : ℕ) → Membership

-- no walk leaves more nodes than it was given
abbrev Falls : Reader → Type 0
Falls R = (left at : ℕ) → (R left at).left ≤ left

module _ (words sets : List ℕ) (action : ℕ) where
  abbrev W : ℕ → Reader
  W = member_within words sets action

  abbrev M : Reader
  M = member_at words sets action

  -- a node uses one
  by_falls : (R : Reader) → Falls R → (left at : ℕ) (f : Found) → (member_by R sets action left at f).left ≤ left
  unfolding member_by
  by_falls R h left at (Par next) = let c = R left next in omega (arith, h left next, h c.left c.next)
  by_falls R h left at (Syn a b next) = h left next
  by_falls R h left at (Leaf k next) = omega arith
  by_falls R h left at Stray = omega arith

  step_falls : (R : Reader) → Falls R → (left at : ℕ) → (member_step words sets action R left at).left ≤ left - 1
  unfolding member_step
  step_falls R h zero at = omega arith
  step_falls R h (suc n) at = omega (arith, by_falls R h n at (node_at words at))

  within_falls : (d : ℕ) → Falls (W d)
  unfolding member_within
  within_falls zero left at = omega arith
  within_falls (suc d) left at = omega (arith, step_falls (W d) (within_falls d) left at)

  -- walks that agree up to n nodes left give the same node
  by_same : (R S : Reader) (n : ℕ) → Falls R → ((left : ℕ) → left ≤ n → R left ≡ S left) → (at : ℕ) (f : Found) → member_by R sets action n at f ≡ member_by S sets action n at f
  unfolding member_by
  by_same R S n h same at (Par next) =
      let c = R n next in
      let l = h n next in
      ap (λ (g : ℕ → Membership). membership (c.inside || (g c.next).inside) (g c.next).next (g c.next).left) (same c.left (omega arith))
      ∙ ap (λ (g : ℕ → Membership). let c = g next in let d = S c.left c.next in membership (c.inside || d.inside) d.next d.left) (same n (omega arith))
  by_same R S n h same at (Syn a b next) =
      ap (λ (g : ℕ → Membership). let c = g next in membership (member action (set_of a b) || c.inside) c.next c.left) (same n (omega arith))
  by_same R S n h same at (Leaf k next) = refl
  by_same R S n h same at Stray = refl

  member_walk : (left : ℕ) → M left ≡ member_step words sets action M left
  unfolding member_at member_within member_step
  member_walk =
      walk_is (λ left at. membership false at left) (member_step words sets action) W Falls
      (λ left. refl) (λ d left. refl) within_falls (λ R. refl)
      (λ R S n h same. fun_ext (λ at. by_same R S n h same at (node_at words at)))

  pub member_is : (left at : ℕ) → M left at ≡ member_step words sets action M left at
  member_is left at = ap (λ (g : ℕ → Membership). g at) (member_walk left)

  -- each call, on any words, leaves at least one node fewer than it was given
  pub member_left : (left at : ℕ) (c : Membership) → c ≡ M left at → c.left ≤ left - 1
  unfolding member_at
  member_left left at c e = rw (e, member_is left at) (step_falls M (λ l a. within_falls l l a) left at)

  pub member_none : (left at : ℕ) → left ≡ 0 → (r : Membership) → r ≡ membership false at left → r ≡ M left at
  unfolding member_step
  member_none left at z r e = rw (member_is left at, z) (rw z at e)

  module _ (left at : ℕ) (z : left ≡ 0 → ⊥) (f : Found) (e : f ≡ node_at words at) where
    member_by_lem : M left at ≡ member_by M sets action (left - 1) at f
    unfolding member_step
    member_by_lem = go left z ∙ ap (member_by M sets action (left - 1) at) (sym e)
      where
        go : (n : ℕ) → (n ≡ 0 → ⊥) → M n at ≡ member_by M sets action (n - 1) at (node_at words at)
        go zero y = absurd (y refl)
        go (suc n) y = member_is (suc n) at ∙ rw (sub-one (suc n))

    pub member_par : (n : ℕ) → f ≡ Par n → (c d : Membership) → c ≡ M (left - 1) n → d ≡ M c.left c.next → membership (c.inside || d.inside) d.next d.left ≡ M left at
    unfolding member_by
    member_par n h c d hc hd = rw (member_by_lem, h, ← hc, ← hd)

    pub member_syn : (a b n : ℕ) → f ≡ Syn a b n → (p : Bool) → p ≡ member action (set_of a b) → (c : Membership) → c ≡ M (left - 1) n → membership (p || c.inside) c.next c.left ≡ M left at
    unfolding member_by
    member_syn a b n h p hp c hc = rw (member_by_lem, h, ← hc, ← hp)

    pub member_leaf : (k n : ℕ) → f ≡ Leaf k n → (s : ℕ) → s ≡ get_or sets k 0 → (p : Bool) → p ≡ bit s action → membership p n (left - 1) ≡ M left at
    unfolding member_by
    member_leaf k n h s hs p hp = rw (member_by_lem, h, ← hs, ← hp)

    pub member_stray : f ≡ Stray → (r : Membership) → r ≡ membership false at (left - 1) → r ≡ M left at
    unfolding member_by
    member_stray h r hr = rw (member_by_lem, h) hr

pub ruleset member_at_laws = (member_none, member_par, member_syn, member_leaf, member_stray)
