-- Each way out of the code of src/set.rt; then what it says of a line.
use Prim.Native.Nat.{ℕ}
use mathlib.Core.Path.{◌≡◌, refl, sym, ◌∙◌, ap}
use mathlib.Core.Bool.{Bool, true, false, not, or-false}
use mathlib.Core.List.{List, [], ◌∷◌, map}
use mathlib.Core.Option.{Option, none, some}
use lib.ListN.{length}
use lib.IntN.{pos}
use Rattle.model.specs.Basic.{every}
use Rattle.model.specs.Bounds.{max_actions}
use Rattle.model.specs.Limits.{broken, rises}
use Rattle.model.specs.Lines.{Reading, sync}
use Rattle.model.specs.Table.{set_words, line_words}
use Rattle.model.proofs.Tests.{not-false}
use Rattle.line_order.specs.declared.Counts.{Counts}
use Rattle.line_order.specs.Due.{number_of}
use Rattle.line_order.specs.Counts.{nodes_of, Counted}
use Rattle.line_order.specs.Counts.{capped}
use Rattle.line_order.proofs.CappedLaws.{rises_capped}
use Rattle.format.specs.Bytes.{Bytes, bytes}
use Rattle.format.specs.Number.{within, natural_of}
use Rattle.format.specs.Rows.{fault, entry, field, fields, has_pred, is, list_items, numbers_sound, place, sync_list, value_of, row2, row3, row4, row5, row6, row7, row8, row9, row10, row11, row12, row13, row14, row15, row16, row50}
use Rattle.format.specs.Spelling.{spelling}
use Rattle.read_composition.specs.declared.list.Listed.{Listed}
use Rattle.read_composition.specs.List.{list_of}
use Rattle.read_composition.proofs.Numbers.{list_sound, list_rising, list_set}
use Rattle.read_list.proofs.Meaning.{items_ranged}
use Rattle.std.specs.Prelude.{Result, Ok, Err}
use Rattle.model.specs.Row as Row
use Rattle.read_form.specs.Outcome.{said}
use Rattle.table_append.specs.Append.{next_place, put}
use Rattle.read_form.specs.Form.{line_of, value_after, misformed, fields_of}
use Rattle.model.proofs.Decode.{unbroken, is_broken, not_broken}
use Rattle.read_composition_line.specs.Sync.{sync_listed, sync_fault, sync_read, sync_after}
use Rattle.read_form.proofs.FormLaws.{row2_by}
use Rattle.table_append.proofs.Joined.{next_then, put_then}
use Rattle.read_form.proofs.Outcomes.{same_row, answered_fault, answered_sound, written_fault, written_sound}

-- `sync`
module _ (s : Bytes) (ended : Bool) (c : Counts) (words : List ℕ) (at : ℕ) where
  module _ (row : ℕ) (e : sync_fault s ended c ≡ some row) where
    read_fault : Err (Row.row row) ≡ sync_read s ended c at
    unfolding sync_read
    read_fault = sym (answered_fault (sync_fault s ended c) row (said 0 0 (next_place at 2)) e)

    after_fault : words ≡ sync_after s ended c words at
    unfolding sync_after
    after_fault = sym (written_fault (sync_fault s ended c) row _ words e)

  module _ (m : Bool) (hm : m ≡ misformed (bytes "sync=") 0 s ended) where
    module _ (f : m ≡ true) where
      form_fault : sync_fault s ended c ≡ some 2
      unfolding sync_fault
      form_fault = is_broken 2 _ _ (sym hm ∙ f)

      pub form_read : Err (Row.row 2) ≡ sync_read s ended c at
      form_read = read_fault 2 form_fault

      pub form_after : words ≡ sync_after s ended c words at
      form_after = after_fault 2 form_fault

    module _ (f : m ≡ false) (v : Bytes) (hv : v ≡ value_after (bytes "sync=") s) (k : ℕ) (hk : k ≡ capped c.actions)
        (l : Listed) (hl : l ≡ list_of k (list_items v)) where
      listed : sync_listed s c ≡ l
      unfolding sync_listed
      listed = sym (hl ∙ rw (hv, hk))

      rows : sync_fault s ended c ≡ broken 3 (not l.sound) (broken 5 (not l.rising) none)
      unfolding sync_fault
      rows =
          not_broken 2 _ _ (sym hm ∙ f) ∙
          ap (λ (x : Listed). broken 3 (not x.sound) (broken 5 (not x.rising) none)) listed

      module _ (g : l.sound ≡ false) where
        sound_fault : sync_fault s ended c ≡ some 3
        sound_fault = rows ∙ is_broken 3 _ _ (ap not g)

        pub sound_read : Err (Row.row 3) ≡ sync_read s ended c at
        sound_read = read_fault 3 sound_fault

        pub sound_after : words ≡ sync_after s ended c words at
        sound_after = after_fault 3 sound_fault

      module _ (g : l.sound ≡ true) where
        module _ (h : l.rising ≡ false) where
          rising_fault : sync_fault s ended c ≡ some 5
          rising_fault = rows ∙ not_broken 3 _ _ (ap not g) ∙ is_broken 5 _ _ (ap not h)

          pub rising_read : Err (Row.row 5) ≡ sync_read s ended c at
          rising_read = read_fault 5 rising_fault

          pub rising_after : words ≡ sync_after s ended c words at
          rising_after = after_fault 5 rising_fault

        module _ (h : l.rising ≡ true) (p : ℕ) (hp : p ≡ next_place at 1) where
          none_broken : sync_fault s ended c ≡ none
          none_broken = rows ∙ not_broken 3 _ _ (ap not g) ∙ not_broken 5 _ none (ap not h)

          pub set_read : (q : ℕ) → q ≡ next_place p 1 → Ok (said 0 0 q) ≡ sync_read s ended c at
          unfolding sync_read
          set_read q hq =
              ap (λ (n : ℕ). Ok (said 0 0 n)) (hq ∙ ap (λ (n : ℕ). next_place n 1) hp ∙ next_then at 1 1) ∙
              sym (answered_sound (sync_fault s ended c) (said 0 0 (next_place at 2)) none_broken)

          pub set_after : (x y : List ℕ) → x ≡ put at (l.low ∷ []) words → y ≡ put p (l.high ∷ []) x → y ≡ sync_after s ended c words at
          unfolding sync_after
          set_after x y hx hy =
              hy ∙ ap (λ (n : ℕ). put n (l.high ∷ []) x) hp ∙ ap (put (next_place at 1) (l.high ∷ [])) hx ∙
              put_then (l.low ∷ []) at (l.high ∷ []) words ∙
              ap (λ (i : Listed). put at (i.low ∷ i.high ∷ []) words) (sym listed) ∙
              sym (written_sound (sync_fault s ended c) _ words none_broken)

pub ruleset sync_laws = (form_read, form_after, sound_read, sound_after, rising_read, rising_after, set_read, set_after)

module _ (r : Reading) (c : Counts) (counted : Counted r c) (s : Bytes) (ended : Bool) where
  abbrev items_of : List Bytes
  items_of = list_items (value_after (bytes "sync=") s)

  abbrev in_row3 : Bool
  in_row3 = every (within (pos 0) (pos max_actions)) items_of

  -- row 5 with the cap is row 5
  rising_by : in_row3 ≡ true → (sync_listed s c).rising ≡ rises r.model.actions 0 (map natural_of items_of)
  unfolding sync_listed
  rising_by h =
      list_rising (capped c.actions) items_of h ∙ rises_capped c.actions 0 (map natural_of items_of) (items_ranged max_actions items_of h) ∙
      ap (λ (A : ℕ). rises A 0 (map natural_of items_of)) counted.actions

  sound_by : (sync_listed s c).sound ≡ in_row3
  unfolding sync_listed
  sound_by = list_sound (capped c.actions) items_of

  abbrev in_row5 : Bool
  in_row5 = rises r.model.actions 0 (map natural_of items_of)

  -- the rows of a line `sync=`
  rows_of : fault r sync (line_of s ended) ≡ broken 2 (row2 sync (line_of s ended)) (broken 3 (not in_row3) (broken 5 (not in_row5) none))
  unfolding
      fault row3 row4 row5 row6 row7 row8 row9 row10 row11 row12 row13 row14 row15 row16 row50 is place has_pred broken numbers_sound field fields
      value_of sync_list spelling
  rows_of = rw (or-false (not in_row5))

  -- row 5 as the code asks it
  abbrev after_row3 : Option ℕ
  after_row3 = broken 5 (not (sync_listed s c).rising) none

  pub sync_fault_lem : sync_fault s ended c ≡ fault r sync (line_of s ended)
  unfolding sync_fault fields_of spelling
  sync_fault_lem =
      ap (λ (b : Bool). broken 2 b (broken 3 (not (sync_listed s c).sound) after_row3)) (row2_by sync s ended) ∙
      ap (λ (b : Bool). broken 2 (row2 sync (line_of s ended)) (broken 3 (not b) after_row3)) sound_by ∙
      ap (broken 2 (row2 sync (line_of s ended)))
      (same_row 3 (not in_row3) (not in_row3) _ _ refl (λ h. ap (λ (b : Bool). broken 5 (not b) none) (rising_by (not-false in_row3 h)))) ∙
      sym rows_of

  -- the set's words
  words_by : fault r sync (line_of s ended) ≡ none → (sync_listed s c).low ∷ (sync_listed s c).high ∷ [] ≡ set_words (map natural_of items_of)
  unfolding sync_listed
  words_by h =
      let b2 = unbroken 2 _ _ (sym rows_of ∙ h) in
      let b3 = unbroken 3 _ _ b2.1 in
      let b5 = unbroken 5 _ none b3.1 in
      list_set (capped c.actions) items_of (not-false in_row3 b3.0) r.model.actions (not-false _ b5.0)

-- what the paper asks of the reader of one line, for `sync=`
module _ (r : Reading) (c : Counts) (words : List ℕ) (at : ℕ) (s : Bytes) (ended : Bool) (counted : Counted r c) where
  pub sync_faulty : (row : ℕ) → fault r sync (line_of s ended) ≡ some row → sync_read s ended c at ≡ Err (Row.row row)
  unfolding sync_read
  sync_faulty row h = answered_fault (sync_fault s ended c) row (said 0 0 (next_place at 2)) (sync_fault_lem r c counted s ended ∙ h)

  pub sync_sound : fault r sync (line_of s ended) ≡ none
      → (sync_read s ended c at
      ≡ Ok (said (number_of (entry sync (line_of s ended))) (nodes_of (entry sync (line_of s ended))) (next_place at (length (line_words (entry sync (line_of s ended)))))))
      × (sync_after s ended c words at ≡ put at (line_words (entry sync (line_of s ended))) words)
  unfolding sync_read sync_after entry number_of nodes_of line_words set_words sync_list field fields is place value_of spelling
  sync_sound h =
      let e : sync_fault s ended c ≡ none = sync_fault_lem r c counted s ended ∙ h in (
        answered_sound (sync_fault s ended c) (said 0 0 (next_place at 2)) e,
        written_sound (sync_fault s ended c) _ words e ∙ ap (λ (l : List ℕ). put at l words) (words_by r c counted s ended h),
      )
