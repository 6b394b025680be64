-- Each way out of the code of src/words.rt, and the words of small numbers.
use mathlib.Core.Path.{◌≡◌, refl, ◌∙◌}
use Prim.Native.Nat.{ℕ, ◌+◌, ◌%◌, ◌≤◌, ◌<◌, min}
use Rattle.std.proofs.Common.{inl, inr}
use Rattle.std.proofs.lemmas.Bool.{cases_lt}
use native.Mathlib.Omega.{arith}
use borrow.Author.Tests.{le-leb, lt-leb}
use Rattle.model.specs.Bounds.{bias}
use Rattle.node_words.specs.declared.Node.TheVariants.{All, Imp, Eq, Number, Old, New}
use Rattle.node_words.specs.Nodes.{meant, fitted, word_for}
use Rattle.merge_append.specs.Append.{narrow}
use Rattle.merge_append.specs.NodeWords.{upward, imp_node, eq_node, all_node, number_node, old_node, new_node}
use Rattle.merge_append.specs.NodeWords.{pointer_of, most, capped}

pub upward_is : (z : ℕ) → bias + z % 4294967296 ≡ upward z
unfolding upward narrow
upward_is z = refl

pub imp_is : (r : ℕ) → r ≡ word_for Imp → r ≡ imp_node
unfolding word_for fitted meant
imp_is r e = e

pub eq_is : (r : ℕ) → r ≡ word_for Eq → r ≡ eq_node
unfolding word_for fitted meant
eq_is r e = e

module _ (k j r : ℕ) (e : j ≡ narrow k) where
  pub all_is : r ≡ word_for (All j) → r ≡ all_node k
  unfolding all_node
  all_is h = rw (← e) h

  pub old_is : r ≡ word_for (Old j) → r ≡ old_node k
  unfolding old_node
  old_is h = rw (← e) h

  pub new_is : r ≡ word_for (New j) → r ≡ new_node k
  unfolding new_node
  new_is h = rw (← e) h

pub number_is : (z u j r : ℕ) → u ≡ upward z → j ≡ narrow u → r ≡ word_for (Number j) → r ≡ number_node z
unfolding number_node
number_is z u j r e f h = rw (← e, ← f) h

pub pointer_is : (v i : ℕ) → v % 4294967296 + i % 4294967296 ≡ pointer_of v i
unfolding pointer_of narrow
pointer_is v i = refl

-- `add`
pub capped_over : (n : ℕ) → most < n → most ≡ capped n
unfolding capped
capped_over n h = rw (lt-leb n most h, capped)

pub capped_is : (n : ℕ) → n ≤ most → n ≡ capped n
unfolding capped
capped_is n h = rw (le-leb n most h, capped)

-- the least of a number and the greatest word, also where the number was first cut at a greater one
pub add_is : (n s r : ℕ) → s ≡ min n 18446744073709551615 → r ≡ min s most → r ≡ capped n
add_is n s r e f =
    elim (cases_lt most n) [
      | inl h ↦ let z : r ≡ most = omega arith in z ∙ capped_over n h
      | inr h ↦ let z : r ≡ n = omega arith in z ∙ capped_is n h
    ]

pub ruleset node_laws = (upward_is, imp_is, eq_is, all_is, number_is, old_is, new_is, pointer_is, add_is)
