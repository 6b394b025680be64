-- The rows of a predicate and of the lines `init=P` and `inv=P`, as the code tests them, are those of the text.
use Prim.Native.Nat.{ℕ, ◌+◌, ◌≤◌}
use mathlib.Core.Path.{◌≡◌, refl, sym, ◌∙◌, ap, ap₂}
use mathlib.Core.Bool.{Bool, true, false, not}
use mathlib.Core.List.{List, [], ◌∷◌}
use mathlib.Core.Option.{Option, none, some}
use native.Mathlib.Omega.{arith}
use borrow.Author.Tests.{ltb-true, ltb-false, eqb-true, not-false}
use lib.ListN.{length, get_or, drop, length-drop}
use lib.Dec.{ltb, eqb}
use Rattle.model.specs.Bounds.{max_bytes}
use Rattle.model.specs.Predicate.{node_count}
use Rattle.model.specs.Lines.{Key, init, inv, Reading}
use Rattle.model.specs.Limits.{broken, variable_count}
use Rattle.model.specs.Table.{pred_words, line_words}
use Rattle.model.proofs.Tests.{or_none_left, or_none_right}
use Rattle.model.proofs.Decode.{unbroken}
use Rattle.line_order.specs.declared.Counts.{Counts}
use Rattle.line_order.specs.Due.{number_of}
use Rattle.line_order.specs.Counts.{nodes_of, Counted}
use Rattle.table_line.specs.Line.{ranges_in}
use Rattle.table_line.specs.Exact.{Declared}
use Rattle.table_line.proofs.PredicateLines.{declared_are}
use Rattle.format.specs.Bytes.{Bytes, begins, parts, comma}
use Rattle.format.specs.Rows.{Line, place, is, fields, field, value_of, has_pred, pred_tokens, words_in, pred_of, the_pred, row2, row3, row4, row5, row6, row7, row8, row9, row10, row11, row12, row13, row14, row15, row16, row50, numbers_sound, fault, entry}
use Rattle.format.specs.Spelling.{spelling}
use Rattle.text_bytes.specs.Find.{gap}
use Rattle.text_bytes.proofs.FindLaws.{parts_step, parts_last, parts_count}
use Rattle.read_nodes.specs.declared.NodesError.{NodesError}
use Rattle.read_nodes.specs.declared.NodesError.TheVariants as E
use Rattle.read_nodes.specs.Nodes.{told, codes_of, nodes_read}
use Rattle.read_nodes.specs.Text.{text_pred, text_fault}
use Rattle.read_form.proofs.Outcomes.{same_row, answered_fault, answered_sound, written_sound, written_long}
use Rattle.read_nodes.proofs.NodesRows.{read_rows, Accepted, accepted}
use Rattle.std.specs.Prelude.{Result, Ok, Err}
use Rattle.model.specs.Row as Row
use Rattle.read_form.specs.Outcome.{said}
use Rattle.table_append.specs.Append.{next_place, put}
use Rattle.read_form.specs.Form.{line_of, value_after, misparted, misformed, fields_of}
use Rattle.read_predicate_line.specs.Predicate.{most_words, predicate_read, row_in, predicate_fault, counted, location_fault, location_read, location_after}
use Rattle.table_append.proofs.AppendLaws.{put_kept}
use Rattle.read_form.proofs.FormLaws.{row2_by}

-- the row that an answer tells
row_back : (n : ℕ) (f : Option ℕ) → row_in (told n f) ≡ f
unfolding row_in told
row_back n none = refl
row_back n (some row) = refl

-- the rows of P by what has been read
module _ (r : Reading) (c : Counts) (t : List ℕ) (k : Counted r c) (d : Declared t r) (part : Bytes) (short : length part ≤ max_bytes) (o : Bool) where
  pub predicate_rows : predicate_fault part o c t most_words most_words ≡ text_fault r.model.variables r.nodes o part none
  unfolding predicate_fault predicate_read variable_count
  predicate_rows =
      ap row_in
      (ap₂ (λ (v n : ℕ). nodes_read part o v (ranges_in t c.variables) n most_words most_words) k.variables k.nodes ∙
      read_rows r.model.variables (ranges_in t c.variables) (declared_are t r c k d) d.lawful r.nodes part o most_words most_words (omega arith) (omega arith)) ∙
      row_back (length (codes_of part)) (text_fault r.model.variables r.nodes o part none)

-- an accepted predicate: its codes are those of its nodes
pub accepted_row : (part : Bytes) (o : Bool) (c : Counts) (t : List ℕ) (room high : ℕ) → predicate_fault part o c t room high ≡ none → Accepted part (length (codes_of part))
unfolding predicate_fault row_in predicate_read
accepted_row part o c t room high h = go (predicate_read part o c t room high) refl h
  where
    go : (x : Result ℕ NodesError) → predicate_read part o c t room high ≡ x → row_in x ≡ none → Accepted part (length (codes_of part))
    go (Ok n) e g =
        let a = accepted part o c.variables (ranges_in t c.variables) c.nodes room high n e in
        rw a.counted a
    go (Err (E.Row w)) e g = absurd (let z : ◌≡◌ {A = ℕ} 0 1 = cc in omega arith)
    go (Err E.Full) e g = absurd (let z : ◌≡◌ {A = ℕ} 0 1 = cc in omega arith)

-- the count and the codes of an accepted predicate are its words in the table
pub accepted_words : (part : Bytes) → Accepted part (length (codes_of part)) → counted (codes_of part) ≡ pred_words (text_pred part)
unfolding pred_words
accepted_words part a = ap₂ (λ (n : ℕ) (l : List ℕ). n ∷ l) a.size a.codes

-- one field: it is all of the value
one_field : (v : Bytes) → length (parts comma v) ≡ 1 → get_or (parts comma v) 0 [] ≡ v
one_field v h = go (ltb (gap comma v) (length v)) refl
  where
    go : (b : Bool) → ltb (gap comma v) (length v) ≡ b → get_or (parts comma v) 0 [] ≡ v
    go true e =
        let l = ltb-true (gap comma v) (length v) e in
        absurd (omega (arith, ap (length {A = Bytes}) (parts_step comma v l), parts_count comma (drop (gap comma v + 1) v)))
    go false e = ap (λ (l : List Bytes). get_or l 0 []) (parts_last comma v (ltb-false (gap comma v) (length v) e))

-- the keys of a location's lines, and what their lines break and say
pub record OfLocation (k : Key) : Type 0 where
  pub sole : fields_of k ≡ 1
  pub value : (l : Line) → field 0 k l ≡ get_or (parts comma (value_after (spelling k) l.bytes)) 0 []
  pub rows : (r : Reading) (l : Line) → fault r k l ≡ broken 2 (row2 k l) (text_fault r.model.variables r.nodes true (field 0 k l) none)
  pub number : (l : Line) → number_of (entry k l) ≡ 0
  pub nodes : (l : Line) → nodes_of (entry k l) ≡ node_count (text_pred (field 0 k l))
  pub words : (l : Line) → line_words (entry k l) ≡ pred_words (text_pred (field 0 k l))

pub init_of : OfLocation init
unfolding fields_of field fields value_of is place fault row3 row4 row5 row6 row7 row8 row9 row10 row11 row12 row13 row14 row15 row16 row50 has_pred broken numbers_sound pred_tokens words_in pred_of the_pred text_fault text_pred variable_count entry number_of nodes_of line_words
init_of = record { sole = refl; value = λ l. refl; rows = λ r l. refl; number = λ l. refl; nodes = λ l. refl; words = λ l. refl }

pub inv_of : OfLocation inv
unfolding fields_of field fields value_of is place fault row3 row4 row5 row6 row7 row8 row9 row10 row11 row12 row13 row14 row15 row16 row50 has_pred broken numbers_sound pred_tokens words_in pred_of the_pred text_fault text_pred variable_count entry number_of nodes_of line_words
inv_of = record { sole = refl; value = λ l. refl; rows = λ r l. refl; number = λ l. refl; nodes = λ l. refl; words = λ l. refl }

module _ (k : Key) (of : OfLocation k) (s : Bytes) (ended : Bool) where
  form_is : misformed (spelling k) 1 s ended ≡ row2 k (line_of s ended)
  form_is = ap (λ (n : ℕ). misformed (spelling k) n s ended) (sym of.sole) ∙ row2_by k s ended

  value_is : misformed (spelling k) 1 s ended ≡ false → field 0 k (line_of s ended) ≡ value_after (spelling k) s
  unfolding misformed misparted
  value_is h =
      let v = value_after (spelling k) s in
      let g = or_none_left (not (eqb (length (parts comma v)) 1)) _ (or_none_right (not (begins (spelling k) s)) _ h) in
      of.value (line_of s ended) ∙ one_field v (eqb-true (length (parts comma v)) 1 (not-false _ g))

  module _ (r : Reading) (c : Counts) (t : List ℕ) (n : Counted r c) (d : Declared t r) (short : length s ≤ max_bytes) where
    pub location_rows : location_fault (spelling k) s ended c t most_words most_words ≡ fault r k (line_of s ended)
    unfolding location_fault
    location_rows =
        same_row 2 _ _ _ _ form_is
        (λ h. predicate_rows r c t n d (value_after (spelling k) s) (omega (arith, length-drop (length (spelling k)) s)) true ∙
        ap (λ (x : Bytes). text_fault r.model.variables r.nodes true x none) (sym (value_is (form_is ∙ h))))
        ∙ sym (of.rows r (line_of s ended))

    module _ (at : ℕ) where
      pub location_faulty : (row : ℕ) → fault r k (line_of s ended) ≡ some row → location_read (spelling k) s ended c t most_words most_words at ≡ Err (Row.row row)
      unfolding location_read
      location_faulty row h = answered_fault _ row _ (location_rows ∙ h)

      pub location_sound : fault r k (line_of s ended) ≡ none
          → (location_read (spelling k) s ended c t most_words most_words at ≡ Ok (said (number_of (entry k (line_of s ended))) (nodes_of (entry k (line_of s ended))) (next_place at (length (line_words (entry k (line_of s ended)))))))
          × (location_after (spelling k) s ended c t most_words most_words at ≡ put at (line_words (entry k (line_of s ended))) t)
      unfolding location_read location_after location_fault
      location_sound h =
          let l = line_of s ended in
          let v = value_after (spelling k) s in
          let f = location_rows ∙ h in
          let u = unbroken 2 _ _ f in
          let a = accepted_row v true c t most_words most_words u.1 in
          let e = value_is u.0 in
          let w : counted (codes_of v) ≡ line_words (entry k l) = accepted_words v a ∙ ap (λ (x : Bytes). pred_words (text_pred x)) (sym e) ∙ sym (of.words l) in
          let z : length (codes_of v) ≡ nodes_of (entry k l) = a.size ∙ ap (λ (x : Bytes). node_count (text_pred x)) (sym e) ∙ sym (of.nodes l) in (
            answered_sound _ _ f ∙ ap₂ (λ (n : ℕ) (x : List ℕ). Ok (said 0 n (next_place at (length x)))) z w ∙
                ap (λ (n : ℕ). Ok (said n (nodes_of (entry k l)) (next_place at (length (line_words (entry k l)))))) (sym (of.number l)),
            written_sound _ _ t f ∙ ap (λ (x : List ℕ). put at x t) w,
          )

-- the buffer keeps its length
pub location_kept : (name s : Bytes) (ended : Bool) (c : Counts) (t : List ℕ) (room high at : ℕ) → length (location_after name s ended c t room high at) ≡ length t
unfolding location_after
location_kept name s ended c t room high at = written_long _ _ t (put_kept _ at t)
