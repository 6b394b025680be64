-- In a buffer of a table's length, words that are put are words that are stored one after the other.
use Prim.Native.Nat.{ℕ, suc, ◌+◌, ◌≤◌}
use mathlib.Core.Path.{◌≡◌, refl, sym, ◌∙◌, ap}
use mathlib.Core.Bool.{Bool, true, false}
use mathlib.Core.List.{List, [], ◌∷◌}
use native.Mathlib.Omega.{arith}
use native.Mathlib.Numerals.{add-one}
use borrow.Author.Tests.{ltb-false}
use lib.ListN.{length, set, length-set}
use lib.Seq.{sets, set_out}
use lib.Dec.{ltb}
use Rattle.model.specs.Bounds.{table_words}
use Rattle.table_append.specs.Append.{put}
use Rattle.table_append.proofs.AppendLaws.{put_past}
use Rattle.table_append.proofs.Joined.{put_yes}

-- stores past the end change nothing
sets_out : (l : List ℕ) (i : ℕ) (ys : List ℕ) → length l ≤ i → sets l i ys ≡ l
sets_out l i [] h = refl
sets_out l i (y ∷ ys) h = rw (set_out l i y h) (sets_out l (suc i) ys (omega arith))

pub put_sets : (ws : List ℕ) (at : ℕ) (old : List ℕ) → length old ≡ table_words → put at ws old ≡ sets old at ws
put_sets [] at old long = unfold put in refl
put_sets (w ∷ ws) at old long = go (ltb at table_words) refl (put_sets ws (at + 1) (set old at w) (length-set old at w ∙ long))
  where
    go : (b : Bool) → ltb at table_words ≡ b → put (at + 1) ws (set old at w) ≡ sets (set old at w) (at + 1) ws → put at (w ∷ ws) old ≡ sets old at (w ∷ ws)
    go true e ih = put_yes at w ws old e ∙ ih ∙ ap (λ (i : ℕ). sets (set old at w) i ws) (add-one at)
    go false e ih =
        let l = ltb-false at table_words e in
        sym (put_past (w ∷ ws) at old l) ∙ sym (sets_out old at (w ∷ ws) (omega arith))
