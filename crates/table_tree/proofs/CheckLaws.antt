-- Each way out of the code of src/checked.rt.
use mathlib.Core.Path.{◌≡◌, refl, sym, ap, ◌∙◌}
use mathlib.Core.Bool.{Bool, true, false}
use Rattle.std.specs.Prelude.{Option, Some, None}
use mathlib.Core.List.{List, [], ◌∷◌}
use Prim.Native.Nat.{ℕ, suc, ◌+◌, ◌-◌, ◌≤◌, ◌<◌}
use native.Mathlib.Omega.{arith}
use lib.ListN.{length, get_or}
use lib.Dec.{eqb}
use borrow.Author.Tests.{eq-eqb, ne_eqb, lt-ltb, le-ltb, le-leb, lt-leb}
use Rattle.model.specs.Limits.{rises}
use Rattle.model.specs.Table.{set_of}
use Rattle.table_tree.specs.declared.nodes.Found.{Found}
use Rattle.table_tree.specs.declared.nodes.Found.TheVariants.{Par, Syn, Leaf, Stray}
use Rattle.table_tree.specs.declared.checked.Step.{Step}
use Rattle.table_tree.specs.declared.checked.TreeEnd.{TreeEnd}
use Rattle.table_tree.specs.Sets.{unfilled}
use Rattle.table_tree.specs.Nodes.{node_at}
use Rattle.table_tree.specs.Checked.{step_to, tree_end, step_by, step_of, onward, check_from, tree_check}

-- `one_node`
pub unfilled_few : (list : List ℕ) (n : ℕ) → n ≡ unfilled list → n ≤ 1
unfolding unfilled
unfilled_few [] n e = omega arith
unfilled_few (k ∷ ks) n e = omega arith

module _ (A owed leaves inis : ℕ) (g : Found) where
  pub step_none : owed ≡ 0 → None ≡ step_of A owed leaves inis g
  unfolding step_of
  step_none z = rw (eq-eqb owed 0 z, step_of)

  pub step_by_lem : (owed ≡ 0 → ⊥) → step_of A owed leaves inis g ≡ step_by A owed leaves inis g
  unfolding step_of
  step_by_lem z = rw (ne_eqb owed 0 z, step_of)

module _ (A owed leaves inis : ℕ) (z : owed ≡ 0 → ⊥) (g f : Found) (e : f ≡ g) (n : ℕ) where
  pub step_par : f ≡ Par n → step_to n (owed + 1) leaves inis ≡ step_of A owed leaves inis g
  unfolding step_by
  step_par h = rw (step_by_lem A owed leaves inis g z, ← e, h)

  module _ (a b : ℕ) (h : f ≡ Syn a b n) (p : Bool) (hp : p ≡ rises A 0 (set_of a b)) where
    pub step_syn : p ≡ true → (u : ℕ) → u ≡ unfilled (set_of a b) → step_to n owed leaves (inis + u) ≡ step_of A owed leaves inis g
    unfolding step_by
    step_syn t u k = rw (step_by_lem A owed leaves inis g z, ← e, h, sym hp ∙ t, step_by, k)

    pub step_unsound : p ≡ false → None ≡ step_of A owed leaves inis g
    unfolding step_by
    step_unsound t = rw (step_by_lem A owed leaves inis g z, ← e, h, sym hp ∙ t, step_by)

  module _ (k : ℕ) (h : f ≡ Leaf k n) where
    pub step_leaf : k ≡ leaves → step_to n (owed - 1) (leaves + 1) inis ≡ step_of A owed leaves inis g
    unfolding step_by
    step_leaf t = rw (step_by_lem A owed leaves inis g z, ← e, h, eq-eqb k leaves t, step_by)

    pub step_astray : (k ≡ leaves → ⊥) → None ≡ step_of A owed leaves inis g
    unfolding step_by
    step_astray t = rw (step_by_lem A owed leaves inis g z, ← e, h, ne_eqb k leaves t, step_by)

pub step_stray : (A owed leaves inis : ℕ) (z : owed ≡ 0 → ⊥) (g f : Found) (e : f ≡ g) → f ≡ Stray → None ≡ step_of A owed leaves inis g
unfolding step_by
step_stray A owed leaves inis z g f e h = rw (step_by_lem A owed leaves inis g z, ← e, h)

pub ruleset step_laws = (step_none, step_par, step_syn, step_unsound, step_leaf, step_astray, step_stray)

-- `walk`: what a step says
abbrev owed_in : Option Step → ℕ
owed_in (Some s) = s.owed
owed_in None = 0

abbrev leaves_in : Option Step → ℕ
leaves_in (Some s) = s.leaves
leaves_in None = 0

abbrev inis_in : Option Step → ℕ
inis_in (Some s) = s.inis
inis_in None = 0

module _ (A owed leaves inis : ℕ) (n o l i : ℕ) where
  abbrev Bounded : Type 0
  Bounded = (o ≤ owed + 1) × (l ≤ leaves + 1) × (i ≤ inis + 1)

  bounded : (g : Found) → step_of A owed leaves inis g ≡ step_to n o l i → Bounded
  unfolding step_of step_by
  bounded g e = first (eqb owed 0) e
    where
      off : ◌≡◌ {A = Option Step} None (step_to n o l i) → Bounded
      off h = let x : ◌≡◌ {A = ℕ} 0 1 = cc in absurd (omega arith)

      syn : (b : Bool) (list : List ℕ) (m : ℕ) → elim b as (λ c. Option Step) [ true ↦ step_to m owed leaves (inis + unfilled list) | false ↦ None ] ≡ step_to n o l i → Bounded
      syn true list m h =
          let x : owed ≡ o = ap owed_in h in
          let y : leaves ≡ l = ap leaves_in h in
          let z : inis + unfilled list ≡ i = ap inis_in h in
          (omega arith, omega arith, omega (arith, unfilled_few list _ refl))
      syn false list m h = off h

      leaf : (b : Bool) (m : ℕ) → elim b as (λ c. Option Step) [ true ↦ step_to m (owed - 1) (leaves + 1) inis | false ↦ None ] ≡ step_to n o l i → Bounded
      leaf true m h =
          let x : owed - 1 ≡ o = ap owed_in h in
          let y : leaves + 1 ≡ l = ap leaves_in h in
          let z : inis ≡ i = ap inis_in h in
          (omega arith, omega arith, omega arith)
      leaf false m h = off h

      by : (f : Found) → step_by A owed leaves inis f ≡ step_to n o l i → Bounded
      by (Par m) h =
          let x : owed + 1 ≡ o = ap owed_in h in
          let y : leaves ≡ l = ap leaves_in h in
          let z : inis ≡ i = ap inis_in h in
          (omega arith, omega arith, omega arith)
      by (Syn a b m) h = syn (rises A 0 (set_of a b)) (set_of a b) m h
      by (Leaf k m) h = leaf (eqb k leaves) m h
      by Stray h = off h

      first : (b : Bool) → elim b as (λ c. Option Step) [ true ↦ None | false ↦ step_by A owed leaves inis g ] ≡ step_to n o l i → Bounded
      first true h = off h
      first false h = by g h

module _ (words : List ℕ) (A N left next owed leaves inis : ℕ) (whole : Option TreeEnd) (inv : check_from words A N left next owed leaves inis ≡ whole) where
  module _ (z : left ≡ 0) where
    pub walk_sound : owed ≡ 0 → leaves ≡ N → tree_end next inis ≡ whole
    unfolding check_from
    walk_sound o l = rw (z, eq-eqb owed 0 o, eq-eqb leaves N l, check_from) at inv

    pub walk_owing : (owed ≡ 0 → ⊥) → None ≡ whole
    unfolding check_from
    walk_owing o = rw (z, ne_eqb owed 0 o, check_from) at inv

    pub walk_astray : owed ≡ 0 → (leaves ≡ N → ⊥) → None ≡ whole
    unfolding check_from
    walk_astray o l = rw (z, eq-eqb owed 0 o, ne_eqb leaves N l, check_from) at inv

  module _ (rest : ℕ) (z : left ≡ suc rest) (s : Option Step) (e : s ≡ step_of A owed leaves inis (node_at words next)) where
    pub walk_off : s ≡ None → None ≡ whole
    unfolding check_from onward
    walk_off h = rw (z, ← e, h) at inv

    module _ (r : Step) (h : s ≡ Some r) where
      pub walk_on : check_from words A N rest r.next r.owed r.leaves r.inis ≡ whole
      unfolding check_from onward
      walk_on = rw (z, ← e, h) at inv

      moved : Bounded A owed leaves inis r.next r.owed r.leaves r.inis
      moved = bounded A owed leaves inis r.next r.owed r.leaves r.inis (node_at words next) (sym e ∙ h)

      pub walk_owed : (i : ℕ) → owed ≤ i + 1 → r.owed ≤ i + 1 + 1
      walk_owed i b = let d = moved.0 in omega arith

      pub walk_leaves : (i : ℕ) → leaves ≤ i → r.leaves ≤ i + 1
      walk_leaves i b = let d = moved.1 in omega arith

      pub walk_inis : (i : ℕ) → inis ≤ i → r.inis ≤ i + 1
      walk_inis i b = let d = moved.2 in omega arith

pub ruleset walk_laws = (walk_sound, walk_owing, walk_astray, walk_off, walk_on, walk_owed, walk_leaves, walk_inis)

-- `check`
module _ (words : List ℕ) (at A N : ℕ) where
  pub check_end : length words ≤ at → None ≡ tree_check words at A N
  unfolding tree_check
  check_end h = rw (le-ltb at (length words) h, tree_check)

  module _ (h : at < length words) where
    pub check_large : (n : ℕ) → n ≡ get_or words at 0 → 64 < n → None ≡ tree_check words at A N
    unfolding tree_check
    check_large n e l = rw (lt-ltb at (length words) h, tree_check, lt-leb (get_or words at 0) 64 (omega arith), tree_check)

    pub check_walk : (n : ℕ) → n ≡ get_or words at 0 → n ≤ 64 → (r : Option TreeEnd) → r ≡ check_from words A N (get_or words at 0) (at + 1) 1 0 0 → r ≡ tree_check words at A N
    unfolding tree_check
    check_walk n e l r q = rw (lt-ltb at (length words) h, tree_check, le-leb (get_or words at 0) 64 (omega arith), tree_check) q

pub ruleset check_laws = (check_end, check_large, check_walk)
