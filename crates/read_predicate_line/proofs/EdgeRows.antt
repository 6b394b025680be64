-- The rows of the line `edge=FROM,ACT,TO,P`, as the code tests them, are those of the text.
use Prim.Native.Nat.{ℕ, ◌≤◌}
use mathlib.Core.Path.{◌≡◌, refl, sym, ◌∙◌, ap, ap₂}
use mathlib.Core.Bool.{Bool, true, false, not, ◌&&◌}
use mathlib.Core.List.{List, [], ◌∷◌, map}
use mathlib.Core.Option.{Option, none, some}
use native.Mathlib.Omega.{arith}
use lib.ListN.{length, drop}
use lib.IntN.{pos}
use Rattle.model.specs.Bounds.{max_bytes, max_actions, last_location}
use Rattle.model.specs.Predicate.{Range, words, node_count}
use Rattle.model.specs.Lines.{edge, Reading}
use Rattle.model.specs.Limits.{broken, is_astray, variable_count}
use Rattle.model.specs.Table.{code, pred_words, line_words}
use Rattle.model.proofs.Decode.{unbroken}
use Rattle.line_order.specs.declared.Counts.{Counts}
use Rattle.line_order.specs.Counts.{nodes_of, Counted}
use Rattle.table_line.specs.Exact.{Declared}
use Rattle.format.specs.Bytes.{Bytes}
use Rattle.format.specs.Number.{within, natural_of}
use Rattle.format.specs.Rows.{Line, place, is, fields, field, value_of, has_pred, pred_tokens, words_in, pred_of, the_pred, row2, row3, row4, row5, row6, row7, row8, row9, row10, row11, row12, row13, row14, row15, row16, row50, numbers_sound, fault, entry}
use Rattle.format.specs.Spelling.{spelling}
use Rattle.format.specs.Tokens.{tokens, sounds}
use Rattle.std.specs.Prelude.{Result, Ok, Err}
use Rattle.model.specs.Row as Row
use Rattle.read_form.specs.Outcome.{said}
use Rattle.table_append.specs.Append.{next_place, put}
use Rattle.table_writes.specs.Sets.{all_variables, rest_of}
use Rattle.read_form.specs.Outcome.{then_row}
use Rattle.read_form.specs.Form.{line_of, value_after, field_in, misformed, fields_of}
use Rattle.read_edge.specs.Edge.{ends_sound, astray}
use Rattle.read_nodes.specs.Nodes.{codes_of}
use Rattle.read_nodes.specs.Text.{text_pred, text_fault}
use Rattle.table_append.proofs.AppendLaws.{put_kept}
use Rattle.read_form.proofs.Outcomes.{same_row, then_broken, then_none, first_none, answered_fault, answered_sound, written_sound, written_long}
use Rattle.read_predicate_line.specs.Predicate.{most_words}
use Rattle.read_predicate_line.specs.Edge.{value_fault, value_words, edge_name, edge_fault, edge_read, edge_after}
use Rattle.read_form.proofs.FormLaws.{row2_by}
use Rattle.read_predicate_line.proofs.PredicateRows.{predicate_rows, accepted_row, accepted_words}
use Rattle.read_predicate_line.proofs.EdgeLaws.{field_long}

-- rows after those of a predicate
then_text : (declared : List Range) (before : ℕ) (o : Bool) (part : Bytes) (rest : Option ℕ) → then_row (text_fault declared before o part none) rest ≡ text_fault declared before o part rest
unfolding text_fault
then_text declared before o part rest = simp (then_broken, then_none)

-- row 3 of the ends, and then of the predicate
both_rows : (a b d e : Bool) (x : Option ℕ) → broken 3 (not (a && (b && d))) (broken 3 (not e) x) ≡ broken 3 (not (a && (b && (d && e)))) x
unfolding broken
both_rows true true true e x = refl
both_rows true true false e x = refl
both_rows true false d e x = refl
both_rows false b d e x = refl

-- the rows of the line, with those of P in one
edge_text : (r : Reading) (l : Line)
    → fault r edge l ≡
    broken 2 (row2 edge l)
    (broken 3 (not (ends_sound (value_of edge l)))
    (text_fault r.model.variables r.nodes false (field_in 3 (value_of edge l))
    (broken 12 (is_astray r (natural_of (field_in 0 (value_of edge l))) (natural_of (field_in 1 (value_of edge l))) (natural_of (field_in 2 (value_of edge l))))
    none)))
unfolding field fields is place fault row3 row4 row5 row6 row7 row8 row9 row10 row11 row12 row13 row14 row15 row16 row50 has_pred broken numbers_sound pred_tokens words_in pred_of the_pred text_fault text_pred variable_count ends_sound field_in
edge_text r l =
    ap (broken 2 (row2 edge l))
    (sym
    (both_rows (within (pos 0) (pos last_location) (field_in 0 (value_of edge l))) (within (pos 0) (pos max_actions) (field_in 1 (value_of edge l))) (within (pos 0) (pos last_location) (field_in 2 (value_of edge l)))
    (sounds [] (tokens (field_in 3 (value_of edge l)))) _))

module _ (s : Bytes) (ended : Bool) where
  abbrev value : Bytes
  value = value_after edge_name s

  form_is : misformed edge_name 4 s ended ≡ row2 edge (line_of s ended)
  unfolding fields_of spelling
  form_is = row2_by edge s ended

  entry_words : line_words (entry edge (line_of s ended)) ≡ natural_of (field_in 0 value) ∷ natural_of (field_in 1 value) ∷ natural_of (field_in 2 value) ∷ pred_words (text_pred (field_in 3 value))
  unfolding line_words entry field fields is place value_of field_in the_pred pred_of words_in pred_tokens text_pred spelling
  entry_words = refl

  entry_codes : drop 1 (pred_words (text_pred (field_in 3 value))) ≡ map code (words (the_pred edge (line_of s ended)))
  unfolding pred_words field fields is place value_of field_in the_pred pred_of words_in pred_tokens text_pred spelling
  entry_codes = refl

  entry_nodes : nodes_of (entry edge (line_of s ended)) ≡ node_count (text_pred (field_in 3 value))
  unfolding nodes_of entry field fields is place value_of field_in the_pred pred_of words_in pred_tokens text_pred spelling
  entry_nodes = refl

  module _ (r : Reading) (c : Counts) (t : List ℕ) (n : Counted r c) (d : Declared t r) (short : length s ≤ max_bytes) where
    astray_is : (from action to : ℕ) → astray c from action to ≡ is_astray r from action to
    unfolding astray is_astray
    astray_is from action to = rw (n.locations, n.actions)

    pub edge_rows : edge_fault s ended c t most_words most_words ≡ fault r edge (line_of s ended)
    unfolding edge_fault value_fault value_of spelling
    edge_rows =
        same_row 2 _ _ _ _ form_is
        (λ h. same_row 3 _ _ _ _ refl
        (λ g.
        ap₂ then_row
        (predicate_rows r c t n d (field_in 3 value) (omega (arith, field_long 3 s)) false)
        (ap (λ (b : Bool). broken 12 b none) (astray_is (natural_of (field_in 0 value)) (natural_of (field_in 1 value)) (natural_of (field_in 2 value)))) ∙
        then_text r.model.variables r.nodes false (field_in 3 value) _))
        ∙ sym (edge_text r (line_of s ended))

    module _ (at : ℕ) where
      pub edge_faulty : (row : ℕ) → fault r edge (line_of s ended) ≡ some row → edge_read s ended c t most_words most_words at ≡ Err (Row.row row)
      unfolding edge_read
      edge_faulty row h = answered_fault _ row _ (edge_rows ∙ h)

      pub edge_sound : fault r edge (line_of s ended) ≡ none
          → (edge_read s ended c t most_words most_words at ≡ Ok (said (rest_of all_variables (map code (words (the_pred edge (line_of s ended))))) (nodes_of (entry edge (line_of s ended))) (next_place at (length (line_words (entry edge (line_of s ended)))))))
          × (edge_after s ended c t most_words most_words at ≡ put at (line_words (entry edge (line_of s ended))) t)
      unfolding edge_read edge_after edge_fault value_fault value_words
      edge_sound h =
          let l = line_of s ended in
          let f = edge_rows ∙ h in
          let u = (unbroken 3 _ _ (unbroken 2 _ _ f).1).1 in
          let a = accepted_row (field_in 3 value) false c t most_words most_words (first_none _ _ u) in
          let w : value_words value ≡ line_words (entry edge l) =
          ap (λ (x : List ℕ). natural_of (field_in 0 value) ∷ natural_of (field_in 1 value) ∷ natural_of (field_in 2 value) ∷ x) (accepted_words (field_in 3 value) a) ∙ sym entry_words in
          let codes : codes_of (field_in 3 value) ≡ map code (words (the_pred edge l)) = ap (drop 1) (accepted_words (field_in 3 value) a) ∙ entry_codes in
          let z : length (codes_of (field_in 3 value)) ≡ nodes_of (entry edge l) = a.size ∙ sym entry_nodes in (
            answered_sound _ _ f ∙ ap₂ (λ (m : ℕ) (x : List ℕ). Ok (said (rest_of all_variables (codes_of (field_in 3 value))) m (next_place at (length x)))) z w ∙
                ap (λ (m : List ℕ). Ok (said (rest_of all_variables m) (nodes_of (entry edge l)) (next_place at (length (line_words (entry edge l)))))) codes,
            written_sound _ _ t f ∙ ap (λ (x : List ℕ). put at x t) w,
          )

-- the buffer keeps its length
pub edge_kept : (s : Bytes) (ended : Bool) (c : Counts) (t : List ℕ) (room high at : ℕ) → length (edge_after s ended c t room high at) ≡ length t
unfolding edge_after
edge_kept s ended c t room high at = written_long _ _ t (put_kept _ at t)
