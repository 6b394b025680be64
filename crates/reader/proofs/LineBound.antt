-- The line of a refusal: a text has a line for each byte at most, and one behind them can be lacking.
use Prim.Native.Nat.{ℕ, suc, ◌+◌, ◌≤◌}
use mathlib.Core.Path.{◌≡◌, refl}
use mathlib.Core.Bool.{Bool, true, false}
use mathlib.Core.List.{List, [], ◌∷◌}
use native.Mathlib.Omega.{arith}
use borrow.Author.Tests.{ltb-false}
use lib.ListN.{length}
use lib.Dec.{eqb, ltb}
use Rattle.model.specs.Bounds.{max_bytes, table_words}
use Rattle.model.specs.Lines.{Key, Reading, at_first, due_at_first}
use Rattle.model.specs.Table.{row18}
use Rattle.format.specs.Bytes.{Bytes, LF}
use Rattle.format.specs.Spelling.{Behind, nothing}
use Rattle.format.specs.Reader as Reader
use Rattle.format.specs.Reader.{onto_line, lines_of, row1, read_answer}
use Rattle.format.specs.Rows.{Line}
use Rattle.format.proofs.Refusals.{Stops, extra, lacking, faulty, later, no_list, faulty_list, after_list, no_owner, faulty_owner, after_owner, refusal_first}

onto_more : (b : ℕ) (ls : List Line) → length (onto_line b ls) ≤ suc (length ls)
unfolding onto_line
onto_more b [] = omega arith
onto_more b (l ∷ ls) = omega arith

lines_few : (t : Bytes) → length (lines_of t) ≤ length t
unfolding lines_of
lines_few [] = omega arith
lines_few (b ∷ t) = go (lines_few t) (eqb b LF)
  where
    go : length (lines_of t) ≤ length t → (v : Bool) → length {A = Line} (elim v [ true ↦ record { bytes = []; ended = true } ∷ lines_of t | false ↦ onto_line b (lines_of t) ]) ≤ suc (length t)
    go few true = omega arith
    go few false = let more = onto_more b (lines_of t) in omega arith

stops_within : {b : Behind} {r : Reading} {ks : List Key} {ls : List Line} {row n : ℕ} → Stops b r ks ls row n → n ≤ length ls + 1
stops_within extra = omega arith
stops_within lacking = omega arith
stops_within (faulty h) = omega arith
stops_within (later h s) = let within = stops_within s in omega arith
stops_within no_list = omega arith
stops_within (faulty_list h) = omega arith
stops_within (after_list h s) = let within = stops_within s in omega arith
stops_within no_owner = omega arith
stops_within (faulty_owner h) = omega arith
stops_within (after_owner h s) = let within = stops_within s in omega arith

same_line : (row n row' n' : ℕ) → Reader.refused row n ≡ Reader.refused row' n' → n ≡ n'
same_line row n row' n' h = cc

module _ (text : Bytes) (table row n : ℕ) (h : read_answer text table ≡ Reader.refused row n) where
  read_line : table_words ≤ table → length text ≤ max_bytes → n ≤ max_bytes + 1
  read_line a b =
      let within = stops_within ((refusal_first text table row n a b).0 h) in
      let few = lines_few text in
      omega arith

  pub refusal_line : n ≤ max_bytes + 1
  unfolding read_answer row18 row1
  refusal_line = go (ltb table table_words) refl h
    where
      next : table_words ≤ table → (v : Bool) → ltb max_bytes (length text) ≡ v → elim v [ true ↦ Reader.refused 1 0 | false ↦ Reader.read nothing at_first due_at_first 1 (lines_of text) ] ≡ Reader.refused row n → n ≤ max_bytes + 1
      next a true e k = let none = same_line 1 0 row n k in omega arith
      next a false e k = read_line a (ltb-false max_bytes (length text) e)

      go : (v : Bool) → ltb table table_words ≡ v → elim v [ true ↦ Reader.refused 18 0 | false ↦ elim (ltb max_bytes (length text)) [ true ↦ Reader.refused 1 0 | false ↦ Reader.read nothing at_first due_at_first 1 (lines_of text) ] ] ≡ Reader.refused row n → n ≤ max_bytes + 1
      go true e k = let none = same_line 18 0 row n k in omega arith
      go false e k = next (ltb-false table table_words e) (ltb max_bytes (length text)) refl k
