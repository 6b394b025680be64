-- The line `writes=` breaks no row exactly if it is the one spelling of the list that is due.
use Prim.Native.Nat.{ℕ}
use mathlib.Core.Path.{◌≡◌, sym, ◌∙◌, ap}
use mathlib.Core.Bool.{Bool, true, false, not}
use mathlib.Core.List.{List, ◌++◌, map}
use mathlib.Core.Option.{none}
use borrow.Author.Tests.{not-false}
use lib.Dec.{leb}
use lib.IntN.{pos}
use lib.ListN.{length, drop}
use Rattle.model.specs.Basic.{every, exists}
use Rattle.model.specs.Bounds.{last_variable}
use Rattle.model.specs.Limits.{ascends, broken, is_foreign, variable_count}
use Rattle.model.specs.Lines.{Reading}
use Rattle.model.proofs.Decode.{unbroken}
use Rattle.model.proofs.Lists.{same_of, same_self}
use Rattle.format.specs.Bytes.{Bytes, begins}
use Rattle.format.specs.Number.{natural_of, within}
use Rattle.format.specs.Rows.{Line, list_items, printable}
use Rattle.format.specs.Spelling.{text_of_list, writes_key}
use Rattle.format.specs.Writes.{row44, row51, writes_fault, writes_items, writes_list, writes_row2, writes_row3, writes_row5, writes_row7}
use Rattle.format.proofs.EntryLines.{dropped, items_back, list_back}
use Rattle.format.proofs.FaultLaws.{begins_self, every_decimal, print_every}
use Rattle.format.proofs.LineLaws.{begins_inv, list_text, neither, writes_line}
use Rattle.format.proofs.Spans.{writes_span}

-- what row 2 asks
pub writes_formed : (l : Line) → writes_row2 l ≡ false → (begins writes_key l.bytes ≡ true) × (l.ended ≡ true)
unfolding writes_row2
writes_formed l h =
    let a = neither (not (begins writes_key l.bytes)) _ h in
    let b = neither (not (every printable l.bytes)) _ a.1 in
    (not-false _ a.0, not-false _ b.1)

-- a line that breaks no row is the line of the list that is due
module _ (r : Reading) (due : List ℕ) (l : Line) (h : writes_fault r due l ≡ none) where
  clear : (writes_row2 l ≡ false) × (writes_row3 l ≡ false) × (writes_list l ≡ due) × (is_foreign r (writes_list l) ≡ false)
  unfolding writes_fault row44 row51
  clear =
      let b2 = unbroken 2 (writes_row2 l) _ h in
      let b3 = unbroken 3 (writes_row3 l) _ b2.1 in
      let b5 = unbroken 5 (writes_row5 l) _ b3.1 in
      let b7 = unbroken 7 (writes_row7 r l) _ b5.1 in
      let b44 = unbroken 44 (row44 due l) _ b7.1 in
      let b51 = unbroken 51 (row51 r l) none b44.1 in
      (b2.0, b3.0, same_of _ due (not-false _ b44.0), b51.0)

  pub writes_written : l ≡ writes_line due
  unfolding writes_row3 writes_items writes_list
  writes_written =
      let f = writes_formed l clear.0 in
      let value = drop (length writes_key) l.bytes in
      let w : l.bytes ≡ writes_key ++ text_of_list due =
      begins_inv writes_key l.bytes f.0 ∙ ap (λ v. writes_key ++ v) (list_text last_variable value (not-false _ clear.1) ∙ ap text_of_list clear.2) in
      ap (λ (b : Bool). record { bytes = l.bytes; ended = b }) f.1 ∙ ap (λ (s : Bytes). record { bytes = s; ended = true }) w

  -- and the automaton owns what is in the list
  pub writes_owned : is_foreign r due ≡ false
  writes_owned = ap (is_foreign r) (sym clear.2) ∙ clear.3

-- and the line of a rising list of the model's variables, which the automaton owns, breaks none
module _ (r : Reading) (due : List ℕ) where
  formed : writes_row2 (writes_line due) ≡ false
  unfolding writes_row2
  formed = rw (begins_self writes_key (text_of_list due), print_every (writes_key ++ text_of_list due) (writes_span due))

  items : writes_items (writes_line due) ≡ list_items (text_of_list due)
  unfolding writes_items
  items = ap list_items (dropped writes_key (text_of_list due))

  list_is : writes_list (writes_line due) ≡ due
  unfolding writes_list
  list_is = ap (map natural_of) items ∙ list_back due

  pub writes_fault_lem : ascends 0 due ≡ true → every (λ k. leb k last_variable) due ≡ true → exists (λ k. leb (variable_count r) k) due ≡ false → is_foreign r due ≡ false
      → writes_fault r due (writes_line due) ≡ none
  unfolding writes_fault writes_row3 writes_row5 writes_row7 row44 row51 broken
  writes_fault_lem up ranged inside own =
      let sound : every (within (pos 0) (pos last_variable)) (writes_items (writes_line due)) ≡ true =
      ap (every (within (pos 0) (pos last_variable))) (items ∙ items_back due) ∙ every_decimal last_variable due ∙ ranged in
      rw (formed, sound, list_is, up, inside, same_self due, own)
