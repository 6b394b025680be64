-- When two edges are equal: when FROM, ACT, TO and P are. The law same_edge_is says that this test is equality.
use Rattle.std.specs.Prelude.{ℕ, Bool, true, false, ◌&&◌, List, [], ◌∷◌, ℤ, pos, eqb}
use Rattle.model.specs.Basic.{eq_z}
use Rattle.model.specs.Predicate.{Word, words, all_of, any_of, not_word, imp_word, eq_word, le_word, num_word, old_word}
use Rattle.model.specs.Predicate.{new_word, add_word, sub_word, mul_word, if_word, stray}
use Rattle.model.specs.Model.{Edge}

-- a word is its kind, and the number that it has; 0, if it has none
unfoldable pub word_kind : Word → ℕ
word_kind (all_of k) = 0
word_kind (any_of k) = 1
word_kind not_word = 2
word_kind imp_word = 3
word_kind eq_word = 4
word_kind le_word = 5
word_kind (num_word z) = 6
word_kind (old_word k) = 7
word_kind (new_word k) = 8
word_kind add_word = 9
word_kind sub_word = 10
word_kind mul_word = 11
word_kind if_word = 12
word_kind stray = 13

unfoldable pub word_number : Word → ℤ
word_number (all_of k) = pos k
word_number (any_of k) = pos k
word_number not_word = pos 0
word_number imp_word = pos 0
word_number eq_word = pos 0
word_number le_word = pos 0
word_number (num_word z) = z
word_number (old_word k) = pos k
word_number (new_word k) = pos k
word_number add_word = pos 0
word_number sub_word = pos 0
word_number mul_word = pos 0
word_number if_word = pos 0
word_number stray = pos 0

unfoldable pub same_word : Word → Word → Bool
same_word u w = eqb (word_kind u) (word_kind w) && eq_z (word_number u) (word_number w)

unfoldable pub same_words : List Word → List Word → Bool
same_words [] [] = true
same_words [] (w ∷ ws) = false
same_words (u ∷ us) [] = false
same_words (u ∷ us) (w ∷ ws) = elim (same_word u w) [ true ↦ same_words us ws | false ↦ false ]

-- equal predicates have the same words
unfoldable pub same_edge : Edge → Edge → Bool
same_edge e f =
    elim (eqb e.from f.from && (eqb e.action f.action && eqb e.to f.to)) [
      | true ↦ same_words (words e.update) (words f.update)
      | false ↦ false
    ]
