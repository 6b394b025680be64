-- Each way out of the code of `output` and its parts.
use mathlib.Core.Path.{◌≡◌, refl, sym, ap, ap₂, ◌∙◌, subst}
use mathlib.Core.Bool.{true}
use mathlib.Core.List.{[], ◌++◌, append_assoc}
use Prim.Native.Nat.{ℕ, ◌+◌, ◌%◌, ◌≤◌, ◌<◌}
use native.Mathlib.Omega.{arith}
use native.Mathlib.Nat.{mod-eq_of_lt, mod-lt}
use lib.ListN.{length, take, drop, replicate, length-append, length-replicate}
use lib.Seq.{take_at, drop-append-add, drop-drop}
use lib.Dec.{leb}
use borrow.Author.Tests.{le-leb}
use Rattle.model.specs.Bounds.{max_bytes, table_words}
use Rattle.model.specs.Model.{Model}
use Rattle.model.specs.Table.{table_of}
use Rattle.format.specs.Bytes.{Bytes, bytes}
use Rattle.format.specs.Number.{decimal}
use Rattle.format.specs.Reader as Reader
use Rattle.format.specs.Reader.{read_answer}
use Rattle.format.specs.Writer.{with_text}
use Rattle.format.specs.Merger.{MergeAnswer as Answer, unmerged, merged, merge_answer, merge_after}
use Rattle.format.specs.Program.{refusal, merge_output, program_output}
use Rattle.format.proofs.FitsLaws.{decimal_width}
use Rattle.std.specs.Prelude.{Option, Some, None, Result, Ok, Err, unwrap_or}
use Rattle.text_bytes.specs.Write.{fits, written_to, after, Wrote}
use Rattle.reader.specs.Read.{refusal as refused}
use Rattle.reader.proofs.LineBound.{refusal_line}
use Rattle.merger.specs.declared.Merged.{Merged}
use Rattle.reader.specs.declared.Refusal.{Refusal}
use Rattle.merge_output.specs.declared.Printed.{Printed}
use Rattle.merger.specs.Answers.{merge_of}
use Rattle.merger.specs.Outcome.{passed_on, outcome, outcome_after}
use Rattle.merge_output.specs.Printed.{printed, Stands}

-- `refusal`: a text is written on behind what stands in the first bytes
stands_none : (old : Bytes) → Stands [] old old (Some 0)
unfolding with_text
stands_none old = record { end = refl; memory = refl; long = refl }

stands_then : (t u old mid new : Bytes) (n : ℕ) (w : Option ℕ) → Stands t old mid (Some n) → Wrote u n mid new w → length t + length u ≤ length old → Stands (t ++ u) old new w
unfolding written_to after fits with_text
stands_then t u old mid new n w s x room =
    let at : ◌≡◌ {A = Option ℕ} (Some n) (Some (length t)) = s.end in
    let n-is : n ≡ length t = cc in
    let mid-long = s.long in
    let h : n + length u ≤ length mid = omega arith in
    let f : leb (n + length u) (length mid) ≡ true = le-leb (n + length u) (length mid) h in
    let both = length-append t u in
    let r : written_to u n mid ≡ Some (n + length u) = rw (f, written_to) in
    let m : new ≡ (take n mid ++ u) ++ drop (n + length u) mid = x.memory ∙ rw (f, after) in
    let first : take n mid ≡ t = ap (take n) s.memory ∙ take_at t (drop (length t) old) n (sym n-is) in
    let rest : drop (n + length u) mid ≡ drop (length (t ++ u)) old =
    ap (λ (i : ℕ). drop (i + length u) mid) n-is ∙
    ap (drop (length t + length u)) s.memory ∙
    drop-append-add t (drop (length t) old) (length u) ∙
    drop-drop (length u) (length t) old ∙
    ap (λ (i : ℕ). drop i old) (sym both) in
    record {
      end = x.answer ∙ r ∙ ap (λ (i : ℕ). Some i) (ap (λ (i : ℕ). i + length u) n-is ∙ sym both);
      memory = m ∙ ap₂ (λ (a b : Bytes). (a ++ u) ++ b) first rest;
      long = x.long ∙ mid-long;
    }

-- what stands there has an end
no_end : {P : Type 0} (t old new : Bytes) → Stands t old new None → P
no_end t old new s =
    let at : ◌≡◌ {A = Option ℕ} None (Some (length t)) = s.end in
    let z : ◌≡◌ {A = ℕ} 0 1 = cc in
    absurd (omega arith)

-- its five parts are short: a number of 32 bits has at most ten digits
module _ (row line : ℕ) (old : Bytes) (room : 30 ≤ length old) (low : row < 4294967296) where
  row_short : length (decimal row) ≤ 10
  row_short = decimal_width 9 row (omega arith)

  line_short : (k : ℕ) → k ≡ line % 4294967296 → length (decimal k) ≤ 10
  line_short k e =
      let low : k < 4294967296 = subst (λ (n : ℕ). n < 4294967296) (sym e) (mod-lt line (omega arith)) in
      decimal_width 9 k (omega arith)

  abbrev t1 : Bytes
  t1 = bytes "refused="

  abbrev t2 : Bytes
  t2 = t1 ++ decimal row

  abbrev t3 : Bytes
  t3 = t2 ++ bytes ","

  l2 : length t2 ≤ 18
  l2 = omega (arith, length-append t1 (decimal row), row_short)

  l3 : length t3 ≤ 19
  l3 = omega (arith, length-append t2 (bytes ","), l2)

  one : (m : Bytes) (w : Option ℕ) → Wrote t1 0 old m w → Stands t1 old m w
  one m w x = stands_then [] t1 old old m 0 w (stands_none old) x (omega arith)

  module _ (m1 : Bytes) (a : ℕ) (x1 : Wrote t1 0 old m1 (Some a)) where
    two : (m : Bytes) (w : Option ℕ) → Wrote (decimal row) a m1 m w → Stands t2 old m w
    two m w x = stands_then t1 (decimal row) old m1 m a w (one m1 (Some a) x1) x (omega (arith, row_short))

    module _ (m2 : Bytes) (b : ℕ) (x2 : Wrote (decimal row) a m1 m2 (Some b)) where
      three : (m : Bytes) (w : Option ℕ) → Wrote (bytes ",") b m2 m w → Stands t3 old m w
      three m w x = stands_then t2 (bytes ",") old m2 m b w (two m2 (Some b) x2) x (omega (arith, l2))

      module _ (m3 : Bytes) (c : ℕ) (x3 : Wrote (bytes ",") b m2 m3 (Some c)) where
        module _ (k : ℕ) (e : k ≡ line % 4294967296) where
          abbrev t4 : Bytes
          t4 = t3 ++ decimal k

          l4 : length t4 ≤ 29
          l4 = omega (arith, length-append t3 (decimal k), l3, line_short k e)

          four : (m : Bytes) (w : Option ℕ) → Wrote (decimal k) c m3 m w → Stands t4 old m w
          four m w x = stands_then t3 (decimal k) old m3 m c w (three m3 (Some c) x3) x (omega (arith, l3, line_short k e))

          pub refusal_is : (m4 : Bytes) (d : ℕ) → Wrote (decimal k) c m3 m4 (Some d) → (new : Bytes) (w : Option ℕ) → Wrote (bytes "\n") d m4 new w → Stands (refusal row (line % 4294967296)) old new w
          unfolding refusal
          refusal_is m4 d x4 new w x =
              let whole = stands_then t4 (bytes "\n") old m4 new d w (four m4 (Some d) x4) x (omega (arith, l4)) in
              let right : t4 ++ bytes "\n" ≡ refusal row k = joined_right t1 (decimal row) (bytes ",") (decimal k) (bytes "\n") in
              subst (λ (b : Bytes). Stands b old new w) (right ∙ ap (refusal row) e) whole
            where
              joined_right : (a b c d e : Bytes) → (((a ++ b) ++ c) ++ d) ++ e ≡ a ++ (b ++ (c ++ (d ++ e)))
              joined_right a b c d e = simp append_assoc

          pub line_fits : (m : Bytes) (r : Option ℕ) → Wrote (decimal k) c m3 m None → Stands (refusal row (line % 4294967296)) old m r
          line_fits m r x = no_end t4 old m (four m None x)

      pub comma_fits : (m : Bytes) (r : Option ℕ) → Wrote (bytes ",") b m2 m None → Stands (refusal row (line % 4294967296)) old m r
      comma_fits m r x = no_end t3 old m (three m None x)

    pub row_fits : (m : Bytes) (r : Option ℕ) → Wrote (decimal row) a m1 m None → Stands (refusal row (line % 4294967296)) old m r
    row_fits m r x = no_end t2 old m (two m None x)

  pub key_fits : (m : Bytes) (r : Option ℕ) → Wrote t1 0 old m None → Stands (refusal row (line % 4294967296)) old m r
  key_fits m r x = no_end t1 old m (one m None x)

-- `output`: the outcome for a buffer of 65,536 bytes, and the program's output: a text, or a refusal
record Printing (text new : Bytes) (n : ℕ) : Type 0 where
  size : n ≡ length (program_output text)
  memory : new ≡ with_text (program_output text) (replicate 65536 0)
  within : n ≤ length new

abbrev merged_as : Bytes → (edges : ℕ) → Merged
merged_as t edges = record { length = length t; edges = edges }

record Refusing (text new : Bytes) (row line : ℕ) : Type 0 where
  prints : program_output text ≡ refusal row line
  short : line ≤ max_bytes + 1
  same : new ≡ replicate 65536 0

module _ (text zeros : Bytes) (are : zeros ≡ replicate 65536 0) where
  long : length zeros ≡ 65536
  long = ap length are ∙ length-replicate {A = ℕ} 65536 0

  prints_text : (m : Model) → read_answer text table_words ≡ Reader.accepted m → (t : Bytes) (edges : ℕ) → merge_answer (table_of m) (length zeros) ≡ merged t edges
      → Printing text (outcome_after text zeros) (length t)
  unfolding outcome_after merge_after with_text program_output merge_output
  prints_text m f t edges g =
      let after : outcome_after text zeros ≡ t ++ drop (length t) zeros = rw (f, outcome_after, g, merge_after) in
      let whole = ap length after in
      let parts = length-append t (drop (length t) zeros) in
      let h : merge_answer (table_of m) max_bytes ≡ merged t edges = ap (merge_answer (table_of m)) (sym long) ∙ g in
      let is : t ≡ program_output text = sym (rw (f, program_output, h, merge_output)) in
      record { size = ap length is; memory = after ∙ ap₂ with_text is are; within = omega arith }

  prints_row : (m : Model) → read_answer text table_words ≡ Reader.accepted m → (row : ℕ) → merge_answer (table_of m) (length zeros) ≡ unmerged row → Refusing text (outcome_after text zeros) row 0
  unfolding outcome_after merge_after program_output merge_output
  prints_row m f row g =
      let h : merge_answer (table_of m) max_bytes ≡ unmerged row = ap (merge_answer (table_of m)) (sym long) ∙ g in
      let after : outcome_after text zeros ≡ zeros = rw (f, outcome_after, g, merge_after) in
      record { prints = rw (f, program_output, h, merge_output); short = omega arith; same = after ∙ are }

  prints_line : (row line : ℕ) → read_answer text table_words ≡ Reader.refused row line → Refusing text (outcome_after text zeros) row line
  unfolding outcome_after program_output
  prints_line row line f =
      let after : outcome_after text zeros ≡ zeros = rw (f, outcome_after) in
      record { prints = rw (f, program_output); short = refusal_line text table_words row line f; same = after ∙ are }

  -- which of them, by the outcome
  in_text : (k : Merged) → outcome text (length zeros) ≡ Ok k → Printing text (outcome_after text zeros) k.length
  unfolding outcome passed_on merge_of
  in_text k e = go (read_answer text table_words) refl
    where
      never : (r : Refusal) → Err r ≡ Ok k → ⊥
      never r h = let z : ◌≡◌ {A = ℕ} 0 1 = cc in omega arith

      in_model : (m : Model) → read_answer text table_words ≡ Reader.accepted m → (a : Answer) → merge_answer (table_of m) (length zeros) ≡ a → Printing text (outcome_after text zeros) k.length
      in_model m f (unmerged row) g = absurd (never (refused row 0) (sym (rw (f, outcome, g, passed_on)) ∙ e))
      in_model m f (merged t edges) g =
          let s : Ok (merged_as t edges) ≡ Ok k = sym (rw (f, outcome, g, passed_on)) ∙ e in
          let same : merged_as t edges ≡ k = cc in
          subst (λ (x : Merged). Printing text (outcome_after text zeros) x.length) same (prints_text m f t edges g)

      go : (a : Reader.ReadAnswer) → read_answer text table_words ≡ a → Printing text (outcome_after text zeros) k.length
      go (Reader.refused row line) f = absurd (never (refused row line) (sym (rw (f, outcome)) ∙ e))
      go (Reader.accepted m) f = in_model m f (merge_answer (table_of m) (length zeros)) refl

  in_row : (r : Refusal) → outcome text (length zeros) ≡ Err r → Refusing text (outcome_after text zeros) r.row.0 r.line
  unfolding outcome passed_on merge_of
  in_row r e = go (read_answer text table_words) refl
    where
      both : (x y : ℕ) → ◌≡◌ {A = Result Merged Refusal} (Err (refused x y)) (Err r) → Refusing text (outcome_after text zeros) x y → Refusing text (outcome_after text zeros) r.row.0 r.line
      both x y s h =
          let same : refused x y ≡ r = cc in
          subst (λ (z : Refusal). Refusing text (outcome_after text zeros) z.row.0 z.line) same h

      in_model : (m : Model) → read_answer text table_words ≡ Reader.accepted m → (a : Answer) → merge_answer (table_of m) (length zeros) ≡ a → Refusing text (outcome_after text zeros) r.row.0 r.line
      in_model m f (unmerged x) g = both x 0 (sym (rw (f, outcome, g, passed_on)) ∙ e) (prints_row m f x g)
      in_model m f (merged t edges) g =
          let s : Ok (merged_as t edges) ≡ Err r = sym (rw (f, outcome, g, passed_on)) ∙ e in
          let z : ◌≡◌ {A = ℕ} 0 1 = cc in
          absurd (omega arith)

      go : (a : Reader.ReadAnswer) → read_answer text table_words ≡ a → Refusing text (outcome_after text zeros) r.row.0 r.line
      go (Reader.refused x y) f = both x y (sym (rw (f, outcome)) ∙ e) (prints_line x y f)
      go (Reader.accepted m) f = in_model m f (merge_answer (table_of m) (length zeros)) refl

-- the whole of what `output` answers
printed_by : (text new : Bytes) (n : ℕ) → n ≡ length (program_output text) → new ≡ with_text (program_output text) (replicate 65536 0) → ◌≡◌ {A = Printed} (record { bytes = new; length = n }) (printed (program_output text))
unfolding printed
printed_by text new n e f = rw (e, f)

module _ (text : Bytes) (o : Result Merged Refusal) (e : o ≡ outcome text (length {A = ℕ} (replicate 65536 0))) (new : Bytes) (g : new ≡ outcome_after text (replicate 65536 0)) where
  module _ (k : Merged) (f : o ≡ Ok k) where
    printing : Printing text new k.length
    printing = subst (λ (b : Bytes). Printing text b k.length) (sym g) (in_text text (replicate 65536 0) refl k (sym e ∙ f))

    pub output_text : ◌≡◌ {A = Printed} (record { bytes = new; length = k.length }) (printed (program_output text))
    output_text = printed_by text new k.length printing.size printing.memory

    pub output_within : k.length ≤ length new
    output_within = printing.within

  module _ (r : Refusal) (f : o ≡ Err r) where
    refusing : Refusing text new r.row.0 r.line
    refusing = subst (λ (b : Bytes). Refusing text b r.row.0 r.line) (sym g) (in_row text (replicate 65536 0) refl r (sym e ∙ f))

    module _ (end : Bytes) (w : Option ℕ) (s : Stands (refusal r.row.0 (r.line % 4294967296)) new end w) (n : ℕ) (at : n ≡ unwrap_or w 0) where
      spelled : Printing text end n
      unfolding with_text
      spelled =
          let short = refusing.short in
          let k : r.line < 4294967296 = omega arith in
          let is : refusal r.row.0 (r.line % 4294967296) ≡ program_output text = ap (refusal r.row.0) (mod-eq_of_lt k) ∙ sym refusing.prints in
          let whole = ap length s.memory in
          let parts = length-append (refusal r.row.0 (r.line % 4294967296)) (drop (length (refusal r.row.0 (r.line % 4294967296))) new) in
          let size : n ≡ length (refusal r.row.0 (r.line % 4294967296)) = at ∙ ap (λ (o : Option ℕ). unwrap_or o 0) s.end in
          record { size = size ∙ ap length is; memory = s.memory ∙ ap₂ with_text is refusing.same; within = omega arith }

      pub output_refusal : ◌≡◌ {A = Printed} (record { bytes = end; length = n }) (printed (program_output text))
      output_refusal = printed_by text end n spelled.size spelled.memory

      pub output_inside : n ≤ length end
      output_inside = spelled.within

pub ruleset output_laws = (output_text, output_within, output_refusal, output_inside)
