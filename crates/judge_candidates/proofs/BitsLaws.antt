-- Each way out of the code of src/bits.rt.
use mathlib.Core.Path.{◌≡◌, refl, ap, ◌∙◌}
use mathlib.Core.Bool.{Bool, true, false, not}
use mathlib.Core.List.{List}
use Prim.Native.Nat.{ℕ, suc, ◌+◌, ◌*◌, ◌^◌, ◌≤◌, ◌<◌}
use native.Mathlib.Omega.{arith}
use native.Mathlib.Nat.{pow-succ'}
use native.Mathlib.Numerals.{add-one}
use lib.IntN.{ℤ, pos}
use lib.ListN.{length, get_or}
use lib.Dec.{eqb}
use lib.Pow.{pow_mono}
use Rattle.model.specs.Basic.{eq_z}
use Rattle.model.specs.Bounds.{max_variables, max_automata}
use Rattle.table_tree.specs.Sets.{single}
use Rattle.table_tree.proofs.SetLaws.{single_below}
use Rattle.table_places.specs.AtMost.{at_most}
use Rattle.table_writes.specs.Sets.{mask}
use Rattle.table_writes.proofs.MaskLaws.{mask_small}
use Rattle.judge_candidates.specs.Bits.{with_bit, differs, changed_bits, agrees, still_bits}

-- `with_bit`
module _ (s k : ℕ) (b : Bool) where
  pub with_true : b ≡ true → (p : ℕ) → p ≡ 2 ^ k → p + s ≡ with_bit s k b
  unfolding with_bit
  with_true h p q = rw (q, h, with_bit)

  pub with_false : b ≡ false → s ≡ with_bit s k b
  unfolding with_bit
  with_false h = rw (h, with_bit)

  pub with_fits : (p : ℕ) → p ≡ single k → s < 2 ^ k → k < 64 → p + s < 2 ^ 64
  with_fits p one l h =
      let q : p ≡ 2 ^ k = single_below k p one h in
      let m : 2 ^ suc k ≤ 2 ^ 64 = pow_mono h in
      let e : 2 ^ suc k ≡ 2 * 2 ^ k = pow-succ' 2 k in
      rw q (omega arith)

-- `differs` and `agrees`
pub differs_is : (before after : List ℤ) (k : ℕ) (x y : ℤ) (b : Bool) → x ≡ get_or before k (pos 0) → y ≡ get_or after k (pos 0) → b ≡ eq_z x y
    → not b ≡ differs before after k
unfolding differs
differs_is before after k x y b e f g = rw (g, e, f)

pub agrees_is : (old new : List ℕ) (k x y : ℕ) → x ≡ get_or old k 0 → y ≡ get_or new k 0 → eqb x y ≡ agrees old new k
unfolding agrees
agrees_is old new k x y e f = rw (e, f)

-- The loops of `changed` and `still`: the numbers below k have been looked at.
module _ (f : ℕ → Bool) where
  pub noted_start : 0 ≡ mask f 0
  unfolding mask
  noted_start = refl

  module _ (k s : ℕ) (h : s ≡ mask f k) where
    pub noted_room : k < 64 → (k < 64) × (s < 2 ^ k)
    noted_room l = (l, rw h (mask_small f k))

    pub noted_step : (b : Bool) → b ≡ f k → (r : ℕ) → r ≡ with_bit s k b → r ≡ mask f (k + 1)
    unfolding mask with_bit
    noted_step b e r g = g ∙ rw (add-one k, e, h)

    pub noted_fits : (width : ℕ) → k ≤ width → s < 2 ^ width
    noted_fits width p =
        let q : 2 ^ k ≤ 2 ^ width = pow_mono p in
        let r : s < 2 ^ k = rw h (mask_small f k) in
        omega arith

-- at the end they are all
pub changed_is : (before after : List ℤ) (n k s : ℕ) → n ≡ at_most max_variables (length before) → s ≡ mask (differs before after) k → k ≤ n → n ≤ k
    → s ≡ changed_bits before after
unfolding changed_bits
changed_is before after n k s e h i l = let z : k ≡ n = omega arith in h ∙ ap (mask (differs before after)) (z ∙ e)

pub still_is : (old new : List ℕ) (n k s : ℕ) → n ≡ at_most max_automata (length old) → s ≡ mask (agrees old new) k → k ≤ n → n ≤ k
    → s ≡ still_bits old new
unfolding still_bits
still_is old new n k s e h i l = let z : k ≡ n = omega arith in h ∙ ap (mask (agrees old new)) (z ∙ e)

pub ruleset bits_laws = (with_true, with_false, with_fits, differs_is, agrees_is, noted_start, noted_room, noted_step, noted_fits, changed_is, still_is)
