-- Each way out of the code of src/edges.rt.
use Prim.Native.Nat.{ℕ, suc, ◌*◌, ◌≤◌}
use mathlib.Core.Path.{◌≡◌, refl, sym, ◌∙◌, ap}
use mathlib.Core.Bool.{Bool, true, false, not}
use mathlib.Core.List.{List, [], ◌∷◌}
use mathlib.Core.Option.{Option, none, some}
use native.Mathlib.Omega.{arith}
use lib.ListN.{length, take, drop, length-drop}
use Rattle.model.specs.Bounds.{max_nodes}
use Rattle.model.specs.Limits.{broken}
use Rattle.line_order.specs.declared.Counts.{Counts}
use Rattle.format.specs.Bytes.{Bytes}
use Rattle.format.specs.Number.{natural_of}
use Rattle.read_form.specs.declared.LineRead.{LineRead}
use Rattle.std.specs.Prelude as P
use Rattle.std.specs.Prelude.{Some, None, Result, Ok, Err}
use Rattle.std.specs.Option.{ok_or}
use Rattle.model.specs.declared.Row.{Row}
use Rattle.model.specs.Row as Row
use Rattle.read_form.specs.Outcome.{said}
use Rattle.read_nodes.specs.Nodes.{codes_of, nodes_after}
use Rattle.read_form.proofs.Outcomes.{lacking, present, answered_fault, answered_sound, written_fault, written_sound}
use Rattle.read_edge.specs.declared.Ends.{Ends}
use Rattle.table_append.specs.Append.{next_place, put}
use Rattle.table_writes.specs.Sets.{all_variables, rest_of}
use Rattle.read_form.specs.Outcome.{then_row}
use Rattle.read_form.specs.Form.{value_after, field_in, misformed}
use Rattle.read_form.proofs.FieldLaws.{field_within}
use Rattle.read_edge.specs.Edge.{ends_sound, ends_of, ends_in, astray}
use Rattle.read_edge.proofs.EdgeLaws.{ends_none, ends_some}
use Rattle.model.proofs.Decode.{is_broken, not_broken}
use Rattle.read_predicate_line.specs.Predicate.{most_words, predicate_read, by_row, predicate_fault, counted, line_after}
use Rattle.read_predicate_line.specs.Edge.{edge_told, value_fault, value_words, value_read, after_value, edge_name, edge_fault, edge_read, edge_after}
use Rattle.read_predicate_line.proofs.PredicateLaws.{told_row, told_fine, told_size, told_few, told_stand, fault_same}
use Rattle.table_append.proofs.Joined.{more_next, more_put}

pub field_long : (i : ℕ) (s : Bytes) → length (field_in i (value_after edge_name s)) ≤ length s
field_long i s = omega (arith, field_within i (value_after edge_name s), length-drop (length edge_name) s)

-- `append_edge`: three words, and then those of the predicate
module _ (at from action to n : ℕ) (l : List ℕ) (a : ℕ) (ha : a ≡ next_place at 1) (b : ℕ) (hb : b ≡ next_place a 1) (d : ℕ) (hd : d ≡ next_place b 1) where
  pub edge_next : (r : ℕ) → r ≡ next_place d (suc (length l)) → r ≡ next_place at (suc (suc (suc (suc (length l)))))
  edge_next r hr = more_next at from (action ∷ to ∷ n ∷ l) a ha r (more_next a action (to ∷ n ∷ l) b hb r (more_next b to (n ∷ l) d hd r hr))

  pub edge_filled : (old x y z new : List ℕ) → x ≡ put at (from ∷ []) old → y ≡ put a (action ∷ []) x → z ≡ put b (to ∷ []) y → new ≡ put d (n ∷ l) z
      → new ≡ put at (from ∷ action ∷ to ∷ n ∷ l) old
  edge_filled old x y z new hx hy hz hn =
      more_put at from (action ∷ to ∷ n ∷ l) a ha old x new hx (more_put a action (to ∷ n ∷ l) b hb x y new hy (more_put b to (n ∷ l) d hd y z new hz hn))

pub ruleset append_edge_laws = (edge_next, edge_filled)

-- `read_value`
module _ (v : Bytes) (c : Counts) (t : List ℕ) (at : ℕ) (old : List ℕ) (high : ℕ) (q : P.Option Ends) (hq : q ≡ ends_in v) where
  -- a row that is broken is the answer, and the buffer is left as it was
  row_told : (row : ℕ) → value_fault c t v (length old) high ≡ some row → Err (Row.row row) ≡ value_read c t v (length old) high at
  unfolding value_read
  row_told row h = sym (answered_fault _ row _ h)

  row_kept : (row : ℕ) → value_fault c t v (length old) high ≡ some row → t ≡ after_value c t v (length old) high at
  unfolding after_value
  row_kept row h = sym (written_fault _ row _ t h)

  module _ (w : Row) (e : Err w ≡ ok_or q (Row.row 3)) where
    ends_row : value_fault c t v (length old) high ≡ some 3
    unfolding value_fault
    ends_row = is_broken 3 _ _ (ap not (ends_none v (sym hq ∙ (lacking q 3 w e).0)))

    pub value_unsound : Err w ≡ value_read c t v (length old) high at
    value_unsound = ap Err (lacking q 3 w e).1 ∙ row_told 3 ends_row

    pub value_unsound_kept : t ≡ after_value c t v (length old) high at
    value_unsound_kept = row_kept 3 ends_row

  module _ (x : Ends) (e : Ok x ≡ ok_or q (Row.row 3)) (f : Bytes) (hf : f ≡ field_in 3 v) where
    told : (ends_sound v ≡ true) × (ends_of v ≡ x)
    told = ends_some v x (sym hq ∙ present q 3 x e)

    past_ends : value_fault c t v (length old) high ≡ then_row (predicate_fault f false c t (length old) high) (broken 12 (astray c x.from x.action x.to) none)
    unfolding value_fault ends_of
    past_ends = not_broken 3 _ _ (ap not told.0) ∙ rw (← told.1, ← hf)

    module _ (w : Row) (g : Err w ≡ by_row (predicate_read f false c t (length old) high)) where
      its_row : value_fault c t v (length old) high ≡ some w.0
      unfolding then_row
      its_row = past_ends ∙ ap (λ (o : Option ℕ). then_row o (broken 12 (astray c x.from x.action x.to) none)) (told_row f false c t (length old) high w g)

      pub value_row : Err w ≡ value_read c t v (length old) high at
      value_row = row_told w.0 its_row

      pub value_row_kept : t ≡ after_value c t v (length old) high at
      value_row_kept = row_kept w.0 its_row

    module _ (n : ℕ) (g : Ok n ≡ by_row (predicate_read f false c t (length old) high)) where
      last_row : value_fault c t v (length old) high ≡ broken 12 (astray c x.from x.action x.to) none
      unfolding then_row
      last_row = past_ends ∙ ap (λ (o : Option ℕ). then_row o (broken 12 (astray c x.from x.action x.to) none)) (told_fine f false c t (length old) high n g)

      pub value_few : n ≤ max_nodes
      value_few = told_few f false c t (length old) high n g

      module _ (w : Bool) (hw : w ≡ astray c x.from x.action x.to) where
        module _ (i : w ≡ true) where
          pub value_astray : Err (Row.row 12) ≡ value_read c t v (length old) high at
          value_astray = row_told 12 (last_row ∙ is_broken 12 _ _ (sym hw ∙ i))

          pub value_astray_kept : t ≡ after_value c t v (length old) high at
          value_astray_kept = row_kept 12 (last_row ∙ is_broken 12 _ _ (sym hw ∙ i))

        module _ (i : w ≡ false) where
          unbroken_all : value_fault c t v (length old) high ≡ none
          unbroken_all = last_row ∙ not_broken 12 _ _ (sym hw ∙ i)

          size : n ≡ length (codes_of (field_in 3 v))
          size = told_size f false c t (length old) high n g ∙ ap (λ (y : Bytes). length (codes_of y)) hf

          module _ (new : List ℕ) (m : new ≡ nodes_after f old) where
            stand : ◌≡◌ {A = List ℕ} (n ∷ take n new) (counted (codes_of (field_in 3 v)))
            stand = told_stand f false c t (length old) high n g old new refl m ∙ ap (λ (y : Bytes). counted (codes_of y)) hf

            all_words : ◌≡◌ {A = List ℕ} (x.from ∷ x.action ∷ x.to ∷ n ∷ take n new) (value_words v)
            unfolding value_words ends_of
            all_words = ap (λ (l : List ℕ). x.from ∷ x.action ∷ x.to ∷ l) stand ∙ rw (← told.1)

            pub value_are : (rest : ℕ) → rest ≡ rest_of all_variables (take n new) → (next : ℕ) → next ≡ next_place at (suc (suc (suc (suc (length (take n new)))))) → Ok (said rest n next) ≡ value_read c t v (length old) high at
            unfolding value_read
            value_are rest hr next hn =
                ap (λ (p : ℕ). Ok (said rest n p)) (hn ∙ ap (λ (l : List ℕ). next_place at (length l)) all_words) ∙
                ap (λ (m : ℕ). Ok (said rest m (next_place at (length (value_words v))))) size ∙
                ap (λ (m : ℕ). Ok (said m (length (codes_of (field_in 3 v))) (next_place at (length (value_words v))))) (hr ∙ ap (λ (l : List ℕ). rest_of all_variables (drop 1 l)) stand) ∙
                sym (answered_sound _ _ unbroken_all)

            pub value_put : (after : List ℕ) → after ≡ put at (x.from ∷ x.action ∷ x.to ∷ n ∷ take n new) t → after ≡ after_value c t v (length old) high at
            unfolding after_value
            value_put after hn = hn ∙ ap (λ (l : List ℕ). put at l t) all_words ∙ sym (written_sound _ _ t unbroken_all)

pub ruleset value_laws = (value_few, value_astray, value_astray_kept, value_are, value_put)

-- `edge`
module _ (s : Bytes) (ended : Bool) (c : Counts) (t : List ℕ) (room high at : ℕ) (p : Bool) (hp : p ≡ misformed edge_name 4 s ended) where
  module _ (h : p ≡ true) where
    form_row : edge_fault s ended c t room high ≡ some 2
    unfolding edge_fault
    form_row = is_broken 2 _ _ (sym hp ∙ h)

    pub edge_form : Err (Row.row 2) ≡ edge_read s ended c t room high at
    unfolding edge_read
    edge_form = sym (answered_fault _ 2 _ form_row)

    pub edge_form_kept : t ≡ edge_after s ended c t room high at
    unfolding edge_after
    edge_form_kept = sym (written_fault _ 2 _ t form_row)

  module _ (h : p ≡ false) (v : Bytes) (hv : v ≡ value_after edge_name s) where
    rest_row : value_fault c t v room high ≡ edge_fault s ended c t room high
    unfolding edge_fault
    rest_row = ap (λ (x : Bytes). value_fault c t x room high) hv ∙ sym (not_broken 2 _ _ (sym hp ∙ h))

    pub edge_value : (r : Result LineRead Row) → r ≡ value_read c t v room high at → r ≡ edge_read s ended c t room high at
    unfolding value_read edge_read
    edge_value r hr =
        hr ∙ ap (λ (o : Option ℕ). edge_told o (codes_of (field_in 3 v)) at (value_words v)) rest_row ∙
        ap (λ (x : Bytes). edge_told (edge_fault s ended c t room high) (codes_of (field_in 3 x)) at (value_words x)) hv

    pub edge_value_put : (new : List ℕ) → new ≡ after_value c t v room high at → new ≡ edge_after s ended c t room high at
    unfolding after_value edge_after
    edge_value_put new hn =
        hn ∙ ap (λ (o : Option ℕ). line_after o at (value_words v) t) rest_row ∙
        ap (λ (x : Bytes). line_after (edge_fault s ended c t room high) at (value_words x) t) hv

pub ruleset edge_laws = (edge_form, edge_form_kept, edge_value, edge_value_put)

-- more room than enough changes nothing
module _ (s : Bytes) (ended : Bool) (c : Counts) (t : List ℕ) (at room : ℕ) (a : length s ≤ 2 * room) (b : length s ≤ 65536) where
  abbrev value : Bytes
  value = value_after edge_name s

  edge_same : edge_fault s ended c t room room ≡ edge_fault s ended c t most_words most_words
  unfolding edge_fault value_fault
  edge_same =
      let l = field_long 3 s in
      ap (λ (o : Option ℕ). broken 2 (misformed edge_name 4 s ended) (broken 3 (not (ends_sound value)) (then_row o (broken 12 (astray c (natural_of (field_in 0 value)) (natural_of (field_in 1 value)) (natural_of (field_in 2 value))) none))))
      (fault_same (field_in 3 value) false c t room room most_words most_words (omega arith) (omega arith) (omega arith) (omega arith))

  pub edge_room : edge_read s ended c t room room at ≡ edge_read s ended c t most_words most_words at
  unfolding edge_read
  edge_room = ap (λ (o : Option ℕ). edge_told o (codes_of (field_in 3 value)) at (value_words value)) edge_same

  pub edge_room_after : edge_after s ended c t room room at ≡ edge_after s ended c t most_words most_words at
  unfolding edge_after
  edge_room_after = ap (λ (o : Option ℕ). line_after o at (value_words value) t) edge_same
