-- Each way out of the code of src/owner.rt.
use Prim.Native.Nat.{ℕ, suc, ◌-◌}
use mathlib.Core.Path.{◌≡◌}
use mathlib.Core.List.{List, [], ◌∷◌, ◌++◌}
use native.Mathlib.Omega.{arith}
use lib.ListN.{get_or}
use Rattle.model.specs.Table.{owner_from}
use Rattle.format.specs.Number.{decimal}
use Rattle.format.specs.Spelling.{owner_key, none_word, text_of_owner}
use Rattle.write_words.specs.declared.growing.Text.{Text}
use Rattle.write_words.specs.Growing.{Grew}
use Rattle.write_words.specs.Text.{owner_text}
use Rattle.write_words.proofs.GrowingLaws.{grew_then}

-- `who`
module _ (w : ℕ) (old new : Text) where
  pub who_nobody : w ≡ 0 → Grew (110 ∷ 111 ∷ 110 ∷ 101 ∷ []) old new → Grew (text_of_owner (owner_from w)) old new
  unfolding text_of_owner owner_from none_word
  who_nobody z g = rw z g

  pub who_automaton : (w ≡ 0 → ⊥) → Grew (decimal (w - 1)) old new → Grew (text_of_owner (owner_from w)) old new
  unfolding text_of_owner
  who_automaton z g =
      let s : w ≡ suc (w - 1) = omega arith in
      rw s (unfold owner_from in g)

-- `line`
pub line_is : (ws : List ℕ) (w : ℕ) → w ≡ get_or ws 2 0 → (old cur mid new : Text) →
    Grew (111 ∷ 119 ∷ 110 ∷ 101 ∷ 114 ∷ 61 ∷ []) old cur → Grew (text_of_owner (owner_from w)) cur mid → Grew (10 ∷ []) mid new → Grew (owner_text ws) old new
unfolding owner_text owner_key
line_is ws w e old cur mid new g h k =
    rw (← e)
    (grew_then (111 ∷ 119 ∷ 110 ∷ 101 ∷ 114 ∷ 61 ∷ [] ++ text_of_owner (owner_from w)) (10 ∷ []) old mid new
    (grew_then (111 ∷ 119 ∷ 110 ∷ 101 ∷ 114 ∷ 61 ∷ []) (text_of_owner (owner_from w)) old cur mid g h) k)

pub ruleset owner_laws = (who_nobody, who_automaton, line_is)
