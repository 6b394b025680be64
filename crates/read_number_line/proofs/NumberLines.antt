-- The lines that have one number, and the line of a range, say what the definitions say.
use Prim.Native.Nat.{ℕ, ◌+◌}
use mathlib.Core.Path.{◌≡◌, refl, sym, ◌∙◌, ap}
use mathlib.Core.Bool.{Bool, true, false, not}
use mathlib.Core.List.{List, [], ◌∷◌}
use mathlib.Core.Option.{Option, none}
use native.Mathlib.Omega.{arith}
use borrow.Author.Tests.{ltb-true, ltb-false, not-true, not-false}
use lib.IntN.{pos}
use lib.ListN.{length, get_or, drop}
use lib.Dec.{ltb}
use Rattle.model.specs.Basic.{exists}
use Rattle.model.specs.Bounds.{first_format, last_format, max_actions, max_variables, max_automata, max_locations, max_edges}
use Rattle.model.specs.Model.{edge_total}
use Rattle.model.specs.Lines.{Key, format, actions, variables, variable, automata, locations, edges, Reading}
use Rattle.model.specs.Limits.{is_beyond, is_crossed, passes_edges, variable_count, broken}
use Rattle.format.specs.Bytes.{Bytes, parts, comma}
use Rattle.format.specs.Number.{within, natural_of}
use Rattle.format.specs.Rows.{Line, place, is, value_of, fields, field_count, field, has_pred, numbers_sound, the_range, row2, row3, row4, row5, row6, row7, row8, row9, row10, row11, row12, row13, row14, row15, row16, row50, fault}
use Rattle.format.specs.Spelling.{spelling}
use Rattle.format.proofs.LineLaws.{formed}
use Rattle.text_bytes.specs.Find.{gap}
use Rattle.text_bytes.proofs.FindLaws.{parts_step, parts_last, parts_count}
use Rattle.std.specs.Prelude.{Result, Ok, Err}
use Rattle.model.specs.declared.Row.{Row}
use Rattle.model.specs.Row as Row
use Rattle.read_form.specs.Outcome.{said}
use Rattle.table_owners.specs.Owners.{beyond_in}
use Rattle.table_owners.proofs.OwnerLaws.{beyond_is}
use Rattle.table_line.specs.Line.{ranges_in}
use Rattle.table_line.specs.Exact.{Declared}
use Rattle.table_append.specs.Append.{next_place, put}
use Rattle.read_form.specs.Form.{line_of, value_after, misformed, fields_of}
use Rattle.read_numbers.specs.Number.{count_in, few_edges}
use Rattle.read_number_line.specs.Number.{number_read, number_after, known_owners}
use Rattle.read_form.specs.Outcome.{answered, written}
use Rattle.read_form.proofs.FormLaws.{row2_by}

-- a value of one field is the field
pub sole_part : (c : ℕ) (v : Bytes) → length (parts c v) ≡ 1 → parts c v ≡ v ∷ []
sole_part c v h = go (ltb (gap c v) (length v)) refl
  where
    go : (b : Bool) → ltb (gap c v) (length v) ≡ b → parts c v ≡ v ∷ []
    go true e =
        let l = ltb-true (gap c v) (length v) e in
        let more = parts_step c v l in
        absurd (omega (arith, h, ap (length {A = Bytes}) more, parts_count c (drop (gap c v + 1) v)))
    go false e = parts_last c v (ltb-false (gap c v) (length v) e)

-- the number by rows 2 and 3
unfoldable by_rows : (two three : Bool) → ℕ → Result ℕ Row
by_rows true three n = Err (Row.row 2)
by_rows false true n = Err (Row.row 3)
by_rows false false n = Ok n

-- the number, by whether the line is misformed and its value in the range
by_value : (name : Bytes) (low high : ℕ) (s : Bytes) (ended two three : Bool) (n : ℕ) → misformed name 1 s ended ≡ two
    → (two ≡ false → (not (within (pos low) (pos high) (value_after name s)) ≡ three) × (natural_of (value_after name s) ≡ n)) → count_in name low high s ended ≡ by_rows two three n
unfolding count_in by_rows
by_value name low high s ended true three n e f = rw (e, count_in)
by_value name low high s ended false true n e f = let g = f refl in rw (e, not-true (within (pos low) (pos high) (value_after name s)) g.0, count_in)
by_value name low high s ended false false n e f = let g = f refl in rw (e, not-false (within (pos low) (pos high) (value_after name s)) g.0, count_in) (ap (λ (x : ℕ). Ok x) g.1)

module _ (k : Key) (s : Bytes) (ended : Bool) where
  abbrev l : Line
  l = line_of s ended

  -- the only field is the value
  sole_field : field_count k ≡ 1 → fields k l ≡ parts comma (value_of k l) → row2 k l ≡ false → field 0 k l ≡ value_after (spelling k) s
  unfolding field value_of
  sole_field b c e =
      let one : parts comma (value_of k l) ≡ value_of k l ∷ [] = sole_part comma (value_of k l) (ap (length {A = Bytes}) (sym c) ∙ (formed k l e).counts ∙ b) in
      ap (λ (x : List Bytes). get_or x 0 []) (c ∙ one)

  -- a key with one field, whose number is from low to high
  count_rows : (low high : ℕ) → fields_of k ≡ 1 → field_count k ≡ 1 → fields k l ≡ parts comma (value_of k l) → numbers_sound k l ≡ within (pos low) (pos high) (field 0 k l)
      → count_in (spelling k) low high s ended ≡ by_rows (row2 k l) (row3 k l) (natural_of (field 0 k l))
  unfolding row3
  count_rows low high a b c d =
      by_value (spelling k) low high s ended (row2 k l) (row3 k l) (natural_of (field 0 k l)) (ap (λ (n : ℕ). misformed (spelling k) n s ended) (sym a) ∙ row2_by k s ended)
      (λ e. let v = sole_field b c e in (ap (λ (x : Bytes). not (within (pos low) (pos high) x)) (sym v) ∙ ap not (sym d), ap natural_of (sym v)))

-- the answer by the two rows
number_read_lem : (two three : Bool) (n at : ℕ) → number_read (by_rows two three n) at ≡ answered (broken 2 two (broken 3 three none)) (said n 0 (next_place at 1))
unfolding number_read by_rows answered broken
number_read_lem true three n at = refl
number_read_lem false true n at = refl
number_read_lem false false n at = refl

number_left : (two three : Bool) (n at : ℕ) (words : List ℕ) → number_after (by_rows two three n) at words ≡ written (broken 2 two (broken 3 three none)) (put at (n ∷ []) words) words
unfolding number_after by_rows written broken
number_left true three n at words = refl
number_left false true n at words = refl
number_left false false n at words = refl

-- a line that counts something, or the format's, breaks rows 2 and 3, and some one later row
module _ (r : Reading) (s : Bytes) (ended : Bool) where
  abbrev lf : Line
  lf = line_of s ended

  fault_format : fault r format lf ≡ broken 2 (row2 format lf) (broken 3 (row3 format lf) none)
  unfolding fault row4 row5 row6 row7 row8 row9 row10 row11 row12 row13 row14 row15 row16 row50 has_pred is place broken
  fault_format = refl

  fault_actions : fault r actions lf ≡ broken 2 (row2 actions lf) (broken 3 (row3 actions lf) none)
  unfolding fault row4 row5 row6 row7 row8 row9 row10 row11 row12 row13 row14 row15 row16 row50 has_pred is place broken
  fault_actions = refl

  fault_variables : fault r variables lf ≡ broken 2 (row2 variables lf) (broken 3 (row3 variables lf) none)
  unfolding fault row4 row5 row6 row7 row8 row9 row10 row11 row12 row13 row14 row15 row16 row50 has_pred is place broken
  fault_variables = refl

  fault_automata : fault r automata lf ≡ broken 2 (row2 automata lf) (broken 3 (row3 automata lf) (broken 50 (exists (is_beyond (natural_of (field 0 automata lf))) r.model.owners) none))
  unfolding fault row4 row5 row6 row7 row8 row9 row10 row11 row12 row13 row14 row15 row16 row50 has_pred is place broken
  fault_automata = refl

  fault_locations : fault r locations lf ≡ broken 2 (row2 locations lf) (broken 3 (row3 locations lf) none)
  unfolding fault row4 row5 row6 row7 row8 row9 row10 row11 row12 row13 row14 row15 row16 row50 has_pred is place broken
  fault_locations = refl

  fault_edges : fault r edges lf ≡ broken 2 (row2 edges lf) (broken 3 (row3 edges lf) (broken 15 (passes_edges r (natural_of (field 0 edges lf))) none))
  unfolding fault row4 row5 row6 row7 row8 row9 row10 row11 row12 row13 row14 row15 row16 row50 has_pred is place broken
  fault_edges = refl

  pub fault_variable : fault r variable lf ≡ broken 2 (row2 variable lf) (broken 3 (row3 variable lf) (broken 4 (is_crossed (the_range lf)) none))
  unfolding fault row4 row5 row6 row7 row8 row9 row10 row11 row12 row13 row14 row15 row16 row50 has_pred is place broken
  fault_variable = refl

module _ (r : Reading) (s : Bytes) (ended : Bool) (at : ℕ) (words : List ℕ) where
  abbrev ln : Line
  ln = line_of s ended

  -- the keys with one number: what is asked of the key is seen by computing
  module _ (k : Key) (low high : ℕ) (a : fields_of k ≡ 1) (b : field_count k ≡ 1) (c : fields k ln ≡ parts comma (value_of k ln)) (d : numbers_sound k ln ≡ within (pos low) (pos high) (field 0 k ln))
      (f : fault r k ln ≡ broken 2 (row2 k ln) (broken 3 (row3 k ln) none)) where
    counting_read : number_read (count_in (spelling k) low high s ended) at ≡ answered (fault r k ln) (said (natural_of (field 0 k ln)) 0 (next_place at 1))
    counting_read =
        ap (λ (x : Result ℕ Row). number_read x at) (count_rows k s ended low high a b c d) ∙ number_read_lem _ _ _ at
        ∙ ap (λ (o : Option ℕ). answered o (said (natural_of (field 0 k ln)) 0 (next_place at 1))) (sym f)

    counting_left : number_after (count_in (spelling k) low high s ended) at words ≡ written (fault r k ln) (put at (natural_of (field 0 k ln) ∷ []) words) words
    counting_left =
        ap (λ (x : Result ℕ Row). number_after x at words) (count_rows k s ended low high a b c d) ∙ number_left _ _ _ at words
        ∙ ap (λ (o : Option ℕ). written o (put at (natural_of (field 0 k ln) ∷ []) words) words) (sym f)

  pub format_read : number_read (count_in (spelling format) first_format last_format s ended) at ≡ answered (fault r format ln) (said (natural_of (field 0 format ln)) 0 (next_place at 1))
  unfolding fields_of field_count fields numbers_sound is place
  format_read = counting_read format first_format last_format refl refl refl refl (fault_format r s ended)

  pub format_left : number_after (count_in (spelling format) first_format last_format s ended) at words ≡ written (fault r format ln) (put at (natural_of (field 0 format ln) ∷ []) words) words
  unfolding fields_of field_count fields numbers_sound is place
  format_left = counting_left format first_format last_format refl refl refl refl (fault_format r s ended)

  pub actions_read : number_read (count_in (spelling actions) 0 max_actions s ended) at ≡ answered (fault r actions ln) (said (natural_of (field 0 actions ln)) 0 (next_place at 1))
  unfolding fields_of field_count fields numbers_sound is place
  actions_read = counting_read actions 0 max_actions refl refl refl refl (fault_actions r s ended)

  pub actions_left : number_after (count_in (spelling actions) 0 max_actions s ended) at words ≡ written (fault r actions ln) (put at (natural_of (field 0 actions ln) ∷ []) words) words
  unfolding fields_of field_count fields numbers_sound is place
  actions_left = counting_left actions 0 max_actions refl refl refl refl (fault_actions r s ended)

  pub variables_read : number_read (count_in (spelling variables) 0 max_variables s ended) at ≡ answered (fault r variables ln) (said (natural_of (field 0 variables ln)) 0 (next_place at 1))
  unfolding fields_of field_count fields numbers_sound is place
  variables_read = counting_read variables 0 max_variables refl refl refl refl (fault_variables r s ended)

  pub variables_left : number_after (count_in (spelling variables) 0 max_variables s ended) at words ≡ written (fault r variables ln) (put at (natural_of (field 0 variables ln) ∷ []) words) words
  unfolding fields_of field_count fields numbers_sound is place
  variables_left = counting_left variables 0 max_variables refl refl refl refl (fault_variables r s ended)

  pub locations_read : number_read (count_in (spelling locations) 1 max_locations s ended) at ≡ answered (fault r locations ln) (said (natural_of (field 0 locations ln)) 0 (next_place at 1))
  unfolding fields_of field_count fields numbers_sound is place
  locations_read = counting_read locations 1 max_locations refl refl refl refl (fault_locations r s ended)

  pub locations_left : number_after (count_in (spelling locations) 1 max_locations s ended) at words ≡ written (fault r locations ln) (put at (natural_of (field 0 locations ln) ∷ []) words) words
  unfolding fields_of field_count fields numbers_sound is place
  locations_left = counting_left locations 1 max_locations refl refl refl refl (fault_locations r s ended)

-- the number by rows 2 and 3 and a later one
unfoldable by_later : (two three later : Bool) (row n : ℕ) → Result ℕ Row
by_later true three later row n = Err (Row.row 2)
by_later false true later row n = Err (Row.row 3)
by_later false false true row n = Err (Row.row row)
by_later false false false row n = Ok n

few_rows : (before : ℕ) (two three : Bool) (n : ℕ) → few_edges before (by_rows two three n) ≡ by_later two three (ltb max_edges (before + n)) 15 n
unfolding few_edges by_rows by_later
few_rows before true three n = refl
few_rows before false true n = refl
few_rows before false false n = go (ltb max_edges (before + n))
  where
    go : (b : Bool) → elim b as (λ x. Result ℕ Row) [ true ↦ Err (Row.row 15) | false ↦ Ok n ] ≡ by_later false false b 15 n
    go true = refl
    go false = refl

known_rows : (vs : List ℕ) (two three : Bool) (n : ℕ) → known_owners vs (by_rows two three n) ≡ by_later two three (beyond_in vs n) 50 n
unfolding known_owners by_rows by_later
known_rows vs true three n = refl
known_rows vs false true n = refl
known_rows vs false false n = go (beyond_in vs n)
  where
    go : (b : Bool) → elim b as (λ x. Result ℕ Row) [ true ↦ Err (Row.row 50) | false ↦ Ok n ] ≡ by_later false false b 50 n
    go true = refl
    go false = refl

later_read : (two three later : Bool) (row n at : ℕ) → number_read (by_later two three later row n) at ≡ answered (broken 2 two (broken 3 three (broken row later none))) (said n 0 (next_place at 1))
unfolding number_read by_later answered broken
later_read true three later row n at = refl
later_read false true later row n at = refl
later_read false false true row n at = refl
later_read false false false row n at = refl

later_left : (two three later : Bool) (row n at : ℕ) (words : List ℕ) → number_after (by_later two three later row n) at words ≡ written (broken 2 two (broken 3 three (broken row later none))) (put at (n ∷ []) words) words
unfolding number_after by_later written broken
later_left true three later row n at words = refl
later_left false true later row n at words = refl
later_left false false true row n at words = refl
later_left false false false row n at words = refl

-- `edges=E`: row 15 too
module _ (r : Reading) (s : Bytes) (ended : Bool) (at : ℕ) (words : List ℕ) (before : ℕ) (counted : before ≡ edge_total r.model.automata) where
  abbrev le : Line
  le = line_of s ended

  by_edges : broken 2 (row2 edges le) (broken 3 (row3 edges le) (broken 15 (ltb max_edges (before + natural_of (field 0 edges le))) none)) ≡ fault r edges le
  unfolding passes_edges
  by_edges = ap (λ (n : ℕ). broken 2 (row2 edges le) (broken 3 (row3 edges le) (broken 15 (ltb max_edges (n + natural_of (field 0 edges le))) none))) counted ∙ sym (fault_edges r s ended)

  edges_count : few_edges before (count_in (spelling edges) 0 max_edges s ended) ≡ by_later (row2 edges le) (row3 edges le) (ltb max_edges (before + natural_of (field 0 edges le))) 15 (natural_of (field 0 edges le))
  unfolding fields_of field_count fields numbers_sound is place
  edges_count = ap (few_edges before) (count_rows edges s ended 0 max_edges refl refl refl refl) ∙ few_rows before _ _ _

  pub edges_read : number_read (few_edges before (count_in (spelling edges) 0 max_edges s ended)) at ≡ answered (fault r edges le) (said (natural_of (field 0 edges le)) 0 (next_place at 1))
  edges_read =
      ap (λ (x : Result ℕ Row). number_read x at) edges_count ∙ later_read _ _ _ 15 _ at
      ∙ ap (λ (o : Option ℕ). answered o (said (natural_of (field 0 edges le)) 0 (next_place at 1))) by_edges

  pub edges_left : number_after (few_edges before (count_in (spelling edges) 0 max_edges s ended)) at words ≡ written (fault r edges le) (put at (natural_of (field 0 edges le) ∷ []) words) words
  edges_left =
      ap (λ (x : Result ℕ Row). number_after x at words) edges_count ∙ later_left _ _ _ 15 _ at words
      ∙ ap (λ (o : Option ℕ). written o (put at (natural_of (field 0 edges le) ∷ []) words) words) by_edges

-- `automata=N`: row 50 too, by the words of the variables that were read
module _ (r : Reading) (s : Bytes) (ended : Bool) (at : ℕ) (words : List ℕ) (variables : ℕ) (counted : variables ≡ variable_count r) (d : Declared words r) where
  abbrev la : Line
  la = line_of s ended

  owners_read : (n : ℕ) → beyond_in (ranges_in words variables) n ≡ exists (is_beyond n) r.model.owners
  unfolding ranges_in
  owners_read n = rw (counted, d.words) (beyond_is r.model.variables r.model.owners d.owners_are n)

  by_automata : broken 2 (row2 automata la) (broken 3 (row3 automata la) (broken 50 (beyond_in (ranges_in words variables) (natural_of (field 0 automata la))) none)) ≡ fault r automata la
  by_automata = ap (λ (b : Bool). broken 2 (row2 automata la) (broken 3 (row3 automata la) (broken 50 b none))) (owners_read _) ∙ sym (fault_automata r s ended)

  automata_count : known_owners (ranges_in words variables) (count_in (spelling automata) 1 max_automata s ended) ≡ by_later (row2 automata la) (row3 automata la) (beyond_in (ranges_in words variables) (natural_of (field 0 automata la))) 50 (natural_of (field 0 automata la))
  unfolding fields_of field_count fields numbers_sound is place
  automata_count = ap (known_owners (ranges_in words variables)) (count_rows automata s ended 1 max_automata refl refl refl refl) ∙ known_rows (ranges_in words variables) _ _ _

  pub automata_read : number_read (known_owners (ranges_in words variables) (count_in (spelling automata) 1 max_automata s ended)) at ≡ answered (fault r automata la) (said (natural_of (field 0 automata la)) 0 (next_place at 1))
  automata_read =
      ap (λ (x : Result ℕ Row). number_read x at) automata_count ∙ later_read _ _ _ 50 _ at
      ∙ ap (λ (o : Option ℕ). answered o (said (natural_of (field 0 automata la)) 0 (next_place at 1))) by_automata

  pub automata_left : number_after (known_owners (ranges_in words variables) (count_in (spelling automata) 1 max_automata s ended)) at words ≡ written (fault r automata la) (put at (natural_of (field 0 automata la) ∷ []) words) words
  automata_left =
      ap (λ (x : Result ℕ Row). number_after x at words) automata_count ∙ later_left _ _ _ 50 _ at words
      ∙ ap (λ (o : Option ℕ). written o (put at (natural_of (field 0 automata la) ∷ []) words) words) by_automata
