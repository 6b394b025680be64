-- What the code answers are the rows of the line `writes=` up to 44.
use Prim.Native.Nat.{ℕ}
use mathlib.Core.Path.{◌≡◌, refl, sym, ◌∙◌, ap}
use mathlib.Core.Bool.{Bool, true, false, true≢false, not}
use mathlib.Core.List.{List, map}
use mathlib.Core.Option.{Option, none, some}
use lib.Dec.{eqb, leb}
use lib.IntN.{pos}
use Rattle.model.specs.Basic.{every, exists, same}
use Rattle.model.specs.Bounds.{last_variable}
use Rattle.model.specs.Limits.{ascends, broken, in_range, variable_count}
use Rattle.model.specs.Lines.{Reading}
use Rattle.model.specs.Predicate.{Pred, words, written}
use Rattle.model.specs.Table.{code}
use Rattle.model.proofs.Tests.{not-false}
use Rattle.model.proofs.Decode.{unbroken}
use Rattle.model.proofs.Lists.{same_of}
use Rattle.format.specs.Bytes.{Bytes}
use Rattle.format.specs.Number.{within, natural_of}
use Rattle.format.specs.Rows.{Line, list_items}
use Rattle.format.specs.Spelling.{writes_key}
use Rattle.format.specs.Writes.{writes_items, writes_list, writes_row2, writes_row3, writes_row5, writes_row7, row44, row51, writes_fault}
use Rattle.read_form.specs.Form.{line_of, value_after, misparted, misformed}
use Rattle.read_form.specs.Outcome.{then_row}
use Rattle.read_form.proofs.Outcomes.{same_row, then_broken}
use Rattle.table_writes.specs.Sets.{all_variables, cleared, rest_of}
use Rattle.std.specs.Prelude.{Some, None}
use Rattle.std.specs.Prelude as Std
use Rattle.std.specs.Option.{is_some}
use Rattle.table_writes.proofs.WrittenLaws.{same_written}
use Rattle.read_list.specs.declared.Asked.{Asked}
use Rattle.read_list.specs.declared.Listed.{Listed}
use Rattle.read_list.specs.Items.{items_of}
use Rattle.read_list.proofs.Meaning.{items_sound, items_listed, items_ranged}
use Rattle.read_writes_line.specs.Writes.{writes_name, asked_of, list_row, writes_row}

-- the rows of the line, where `rest` has the variables that the update p does not mention
module _ (r : Reading) (p : Pred) (s : Bytes) (ended : Bool) (inside : every in_range (words p) ≡ true) where
  abbrev line : Line
  line = line_of s ended

  abbrev items : List Bytes
  items = list_items (value_after writes_name s)

  abbrev list : List ℕ
  list = map natural_of items

  abbrev rest : ℕ
  rest = rest_of all_variables (map code (words p))

  abbrev variables : ℕ
  variables = variable_count r

  abbrev asked : Asked
  asked = asked_of variables

  abbrev in_row3 : Bool
  in_row3 = every (within (pos 0) (pos last_variable)) items

  form_is : misformed writes_name 0 s ended ≡ writes_row2 line
  unfolding misformed misparted writes_row2 writes_key
  form_is = refl

  items_are : writes_items line ≡ items
  unfolding writes_items writes_key
  items_are = refl

  -- the rows that the code asks of the list
  rows_are : list_row (items_of asked items) rest
      ≡ broken 3 (not in_row3) (broken 5 (not (ascends 0 list)) (broken 7 (exists (λ k. leb variables k) list) (broken 44 (not (eqb (cleared all_variables list) rest)) none)))
  unfolding list_row asked_of broken
  rows_are = go in_row3 refl
    where
      unsound : (o : Std.Option Listed) → is_some o ≡ false → list_row o rest ≡ some 3
      unsound None h = refl
      unsound (Some l) h = absurd (true≢false h)

      go : (v : Bool) → in_row3 ≡ v
          → list_row (items_of asked items) rest ≡ broken 3 (not v) (broken 5 (not (ascends 0 list)) (broken 7 (exists (λ k. leb variables k) list) (broken 44 (not (eqb (cleared all_variables list) rest)) none)))
      go true h = ap (λ (o : Std.Option Listed). list_row o rest) (items_listed asked items h)
      go false h = unsound (items_of asked items) (items_sound asked items ∙ h)

  rest_is : in_row3 ≡ true → ascends 0 list ≡ true → eqb (cleared all_variables list) rest ≡ same list (written p)
  rest_is h up = same_written p list inside up (items_ranged last_variable items h)

  -- what is left of the rows where the code finds none broken: row 51
  abbrev owned : Option ℕ
  owned = broken 51 (row51 r line) none

  pub writes_rows : then_row (writes_row s ended variables rest) owned ≡ writes_fault r (written p) line
  unfolding writes_row writes_fault writes_row3 writes_row5 writes_row7 row44 writes_list writes_items writes_key then_row
  writes_rows =
      then_broken 2 _ _ owned ∙ same_row 2 _ _ _ _ form_is
      (λ a. ap (λ (o : Option ℕ). then_row o owned) rows_are ∙ then_broken 3 _ _ owned ∙ same_row 3 _ _ _ _ refl
      (λ b. then_broken 5 _ _ owned ∙ same_row 5 _ _ _ _ refl
      (λ c. then_broken 7 _ _ owned ∙ same_row 7 _ _ _ _ refl
      (λ d. then_broken 44 _ none owned ∙ ap (λ (x : Bool). broken 44 (not x) owned) (rest_is (not-false _ b) (not-false _ c))))))

  -- a row that the code finds is the smallest that is broken
  pub writes_broken : (row : ℕ) → writes_row s ended variables rest ≡ some row → writes_fault r (written p) line ≡ some row
  unfolding then_row
  writes_broken row h = sym writes_rows ∙ ap (λ (o : Option ℕ). then_row o owned) h

  -- where it finds none, the list is the one that is due, and only row 51 is left
  module _ (h : writes_row s ended variables rest ≡ none) where
    pub writes_owned : writes_fault r (written p) line ≡ owned
    unfolding then_row
    writes_owned = sym writes_rows ∙ ap (λ (o : Option ℕ). then_row o owned) h

    pub writes_due : writes_list line ≡ written p
    unfolding writes_row writes_list
    writes_due =
        let b = unbroken 3 _ _ (sym rows_are ∙ (unbroken 2 _ _ h).1) in
        let c = unbroken 5 _ _ b.1 in
        let e = unbroken 44 _ none (unbroken 7 _ _ c.1).1 in
        ap (map natural_of) items_are ∙ same_of list (written p) (sym (rest_is (not-false _ b.0) (not-false _ c.0)) ∙ not-false _ e.0)
