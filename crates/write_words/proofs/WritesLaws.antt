-- Each way out of the code of src/writes.rt.
use Prim.Native.Nat.{ℕ}
use mathlib.Core.Path.{◌≡◌, sym, ◌∙◌}
use mathlib.Core.Bool.{Bool, true, false}
use mathlib.Core.List.{List, [], ◌∷◌, ◌++◌}
use lib.ListN.{get_or, take, drop}
use Rattle.format.specs.Spelling.{writes_key}
use Rattle.line_order.specs.declared.Due.{Due}
use Rattle.line_order.specs.Due.{is_listed, is_owned}
use Rattle.table_writes.specs.Sets.{written_set}
use Rattle.write_words.specs.declared.growing.Text.{Text}
use Rattle.write_words.specs.Growing.{Grew}
use Rattle.write_words.specs.NodeText.{members_text}
use Rattle.write_words.specs.Text.{writes_text, owner_text, behind_of}
use Rattle.write_words.proofs.GrowingLaws.{grew_none, grew_then}

-- `list`
pub list_is : (ws : List ℕ) (n set : ℕ) → n ≡ get_or ws 3 0 → set ≡ written_set (take n (drop 4 ws)) → (old cur mid new : Text) →
    Grew (119 ∷ 114 ∷ 105 ∷ 116 ∷ 101 ∷ 115 ∷ 61 ∷ []) old cur → Grew (members_text set) cur mid → Grew (10 ∷ []) mid new → Grew (writes_text ws) old new
unfolding writes_text writes_key
list_is ws n set e f old cur mid new g h k =
    rw (← e, ← f)
    (grew_then (119 ∷ 114 ∷ 105 ∷ 116 ∷ 101 ∷ 115 ∷ 61 ∷ [] ++ members_text set) (10 ∷ []) old mid new
    (grew_then (119 ∷ 114 ∷ 105 ∷ 116 ∷ 101 ∷ 115 ∷ 61 ∷ []) (members_text set) old cur mid g h) k)

-- `behind`
module _ (d : Due) (ws : List ℕ) (a : Bool) (o : a ≡ is_owned d) (old : Text) where
  pub behind_owner : a ≡ true → (new : Text) → Grew (owner_text ws) old new → Grew (behind_of d ws) old new
  unfolding behind_of
  behind_owner h new g = rw (sym o ∙ h, behind_of) g

  module _ (h : a ≡ false) (b : Bool) (l : b ≡ is_listed d) where
    pub behind_list : b ≡ true → (new : Text) → Grew (writes_text ws) old new → Grew (behind_of d ws) old new
    unfolding behind_of
    behind_list k new g = rw (sym o ∙ h, behind_of, sym l ∙ k, behind_of) g

    pub behind_none : b ≡ false → Grew (behind_of d ws) old old
    unfolding behind_of
    behind_none k = rw (sym o ∙ h, behind_of, sym l ∙ k, behind_of) (grew_none old)

pub ruleset writes_laws = (list_is, behind_owner, behind_list, behind_none)
