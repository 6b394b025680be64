-- Each way out of the code of src/sets.rt.
use mathlib.Core.Path.{◌≡◌, refl, sym, ◌∙◌}
use mathlib.Core.Bool.{Bool, true, false}
use mathlib.Core.List.{List, [], ◌∷◌}
use Prim.Native.Nat.{ℕ, ◌-◌, ◌^◌, ◌≤◌, ◌<◌}
use native.Mathlib.Omega.{arith}
use Rattle.model.specs.Predicate.{Named, named, nothing, the_old, the_new}
use Rattle.model.specs.Table.{bit, word_of}
use Rattle.node_words.specs.declared.Node.{Node}
use Rattle.node_words.specs.declared.Node.TheVariants.{New}
use Rattle.node_words.specs.Nodes.{meant, node_of}
use Rattle.node_words.proofs.NodeLaws.{word_by, Other, by_others}
use Rattle.table_writes.specs.Sets.{clear, all_variables, left_out, rest_of, written_set}
use Rattle.table_writes.proofs.BitLaws.{bit_weighs, bit_below}

-- `clear`
module _ (s k : ℕ) (b : Bool) (e : b ≡ bit s k) where
  pub clear_room : b ≡ true → (p : ℕ) → p ≡ 2 ^ k → p ≤ s
  clear_room h p q = rw q (bit_weighs s k (sym e ∙ h))

  pub clear_below : s < 2 ^ 64 → b ≡ true → k < 64
  clear_below f h = bit_below s k f (sym e ∙ h)

  pub clear_set : b ≡ true → (p : ℕ) → p ≡ 2 ^ k → s - p ≡ clear s k
  unfolding clear
  clear_set h p q = rw (q, sym e ∙ h, clear)

  pub clear_not : b ≡ false → s ≡ clear s k
  unfolding clear
  clear_not h = rw (sym e ∙ h, clear)

pub ruleset clear_laws = (clear_room, clear_below, clear_set, clear_not)

-- `left_out_lem`
module _ (s w : ℕ) where
  pub out_new : (n : Node) → n ≡ node_of w → (k : ℕ) → n ≡ New k → (r : ℕ) → r ≡ clear s k → r ≡ left_out s w
  unfolding left_out meant named
  out_new n e k h r f = rw (word_by w n (New k) e h, left_out) f

  pub out_other : (n : Node) → n ≡ node_of w → Other (New 0 ∷ []) n → s ≡ left_out s w
  unfolding left_out meant named
  out_other n e o =
      let same : (k : ℕ) → s ≡ s = λ k. refl in
      rw (word_by w n n e refl, left_out)
      (by_others (λ (m : Node). s ≡ elim (named (meant m)) [ nothing ↦ s | the_old k ↦ s | the_new k ↦ clear s k ]) (New 0 ∷ []) n o
      (same, same, refl, refl, refl, refl, same, same, tt, refl, refl, refl, refl, refl))

pub ruleset out_laws = (out_new, out_other)

-- `written`: words only take variables out
clear_lowers : (s k : ℕ) → clear s k ≤ s
unfolding clear
clear_lowers s k = go (bit s k)
  where
    go : (b : Bool) → elim b as (λ c. ℕ) [ true ↦ s - 2 ^ k | false ↦ s ] ≤ s
    go true = omega arith
    go false = omega arith

out_lowers : (s w : ℕ) → left_out s w ≤ s
unfolding left_out
out_lowers s w = go (named (word_of w))
  where
    go : (x : Named) → elim x as (λ y. ℕ) [ nothing ↦ s | the_old k ↦ s | the_new k ↦ clear s k ] ≤ s
    go nothing = omega arith
    go (the_old k) = omega arith
    go (the_new k) = clear_lowers s k

rest_lowers : (s : ℕ) (ws : List ℕ) → rest_of s ws ≤ s
unfolding rest_of
rest_lowers s [] = omega arith
rest_lowers s (w ∷ ws) = let h = rest_lowers (left_out s w) ws in let l = out_lowers s w in omega arith

pub rest_within : (ws : List ℕ) (r : ℕ) → r ≡ rest_of all_variables ws → r ≤ all_variables
rest_within ws r e = rw e (rest_lowers all_variables ws)

pub written_is : (ws : List ℕ) (r : ℕ) → r ≡ rest_of all_variables ws → all_variables - r ≡ written_set ws
unfolding written_set
written_is ws r e = rw e
