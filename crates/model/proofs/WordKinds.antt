-- A node's word: a number's, or by its kind.
use mathlib.Core.Path.{◌≡◌, refl}
use mathlib.Core.Bool.{Bool, true, false}
use mathlib.Core.List.{List, [], ◌∷◌}
use Prim.Native.Nat.{ℕ, zero, suc, ◌+◌, ◌-◌, ◌<◌, ◌≤◌}
use native.Mathlib.Omega.{arith}
use borrow.Author.Tests.{leb-true, leb-false, le-leb, lt-leb}
use lib.Dec.{leb}
use lib.ListN.{get_or, drop}
use lib.Seq.{get_or-drop}
use Rattle.model.specs.Predicate.{Word, num_word, stray}
use Rattle.model.specs.Bounds.{first_number_word}
use Rattle.model.specs.Table.{unbiased, kind_of, argument_of, kinds, word_of}

pub number_of_lem : (w : ℕ) → first_number_word ≤ w → word_of w ≡ num_word (unbiased (w - first_number_word))
unfolding word_of
number_of_lem w h = rw (le-leb first_number_word w h, word_of)

pub word_of_lem : (w kind : ℕ) → w < first_number_word → kind_of w ≡ kind → word_of w ≡ get_or (kinds (argument_of w)) kind stray
unfolding word_of
word_of_lem w kind h e = rw (lt-leb first_number_word w h, word_of, e)

-- F holds of every word in a row, and of `stray`; so it does at any place
abbrev pub Each : (Word → Type 0) → List Word → Type 0
Each F [] = F stray
Each F (x ∷ l) = F x × Each F l

pub each_at : (F : Word → Type 0) (l : List Word) → Each F l → (k : ℕ) → F (get_or l k stray)
each_at F [] h k = h
each_at F (x ∷ l) h zero = h.0
each_at F (x ∷ l) h (suc k) = each_at F l h.1 k

-- what holds of each number and of the word of each kind holds of every word
pub each_word : (F : Word → Type 0) (w : ℕ) → (first_number_word ≤ w → F (num_word (unbiased (w - first_number_word)))) → (w < first_number_word → Each F (kinds (argument_of w))) → F (word_of w)
unfolding word_of
each_word F w number other = go (leb first_number_word w) refl
  where
    go : (t : Bool) → leb first_number_word w ≡ t → F (elim t [ true ↦ num_word (unbiased (w - first_number_word)) | false ↦ get_or (kinds (argument_of w)) (kind_of w) stray ])
    go true e = number (leb-true first_number_word w e)
    go false e = each_at F (kinds (argument_of w)) (other (leb-false first_number_word w e)) (kind_of w)

-- what holds of the words of all kinds from n on
module _ (F : Word → Type 0) (w n : ℕ) where
  pub kind_from : w < first_number_word → Each F (drop n (kinds (argument_of w))) → n ≤ kind_of w → F (word_of w)
  kind_from below h l =
      let e : kind_of w ≡ n + (kind_of w - n) = omega arith in
      rw (word_of_lem w _ below e, ← get_or-drop n (kinds (argument_of w)) (kind_of w - n) stray) (each_at F (drop n (kinds (argument_of w))) h (kind_of w - n))
