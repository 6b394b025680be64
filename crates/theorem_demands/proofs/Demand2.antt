-- Demand 2: the texts, the tables and the merged texts are exactly those that they are to be.
use Prim.Native.Nat.{ℕ, ◌≤◌}
use mathlib.Core.Path.{◌≡◌, refl, sym, ap, ◌∙◌, subst, subst₂}
use mathlib.Core.List.{List, [], ◌∷◌, ◌++◌, head-eq_of_cons-eq}
use mathlib.Core.Bool.{true}
use mathlib.Core.Option.{Option, none}
use mathlib.Core.Logic.{◌↔◌}
use native.Mathlib.Omega.{arith}
use lib.ListN.{length, take, drop}
use lib.Seq.{take_at, take-append_seam}
use Rattle.model.specs.Basic.{keep, count_up}
use Rattle.model.specs.Bounds.{max_bytes, table_words}
use Rattle.model.specs.Predicate.{Range}
use Rattle.model.specs.Composition.{Tree}
use Rattle.model.specs.Model.{Model, Automaton, Location, Edge, in_set}
use Rattle.model.specs.Limits.{limits}
use Rattle.model.specs.Lawful.{Lawful}
use Rattle.model.specs.Table.{table_of, opened, open_table}
use Rattle.model.specs.Linear.{linear, merged_init, merged_inv, merged_edges, merge_fault}
use Rattle.model.proofs.LinesLaws.{sheet}
use Rattle.model.proofs.LimitsLaws.{lawful_is}
use Rattle.model.proofs.LinearLimits.{linear_limited}
use Rattle.model.proofs.TableLaws.{table_length, table_one_to_one, model_given, opened_model}
use Rattle.format.specs.Bytes.{Bytes}
use Rattle.format.specs.Spelling.{text_of}
use Rattle.format.specs.Refused.{Unbroken}
use Rattle.format.specs.Reader.{accepted, read_answer, table_after}
use Rattle.format.specs.Writer.{written, write_answer, with_text}
use Rattle.format.specs.Merger.{MergeAnswer, unmerged, merged, merge_answer, merge_after}
use Rattle.format.specs.Program.{program_output}
use Rattle.format.proofs.Exact.{accepted_then, text_one_to_one}
use Rattle.format.proofs.Given.{reader_exact}
use Rattle.format.proofs.Inverse.{written_back}
use Rattle.format.proofs.TextRuns.{program_prints, table_read}
use Rattle.theorem_definition4.proofs.Definition4Is.{linear_is, opened_limited, merge_is_definition_4}
use Rattle.theorem_definition4.proofs.Unique.{linearizations_same}
use Rattle.std.proofs.Common.{Result, Ok, Err}
use Rattle.model.specs.declared.Row.{Row}
use Rattle.model.specs.Row.{row}
use Rattle.reader.specs.declared.Refusal.{Refusal}
use Rattle.merger.specs.declared.Merged.{Merged}
use Rattle.merger.specs.Answers.{report, merge_of}
use Rattle.merger.specs.Outcome.{outcome, outcome_after}
use Rattle.theorem_demands.specs.Rows.{merger_rows}
use Rattle.theorem_demands.specs.Exactly.{IsMergedText, MergedInto, ReadsAndWritesExactly}
use Rattle.theorem_demands.proofs.Decided.{accepted_by, own_decided}
use Rattle.theorem_demands.proofs.Writing.{written_then, HasMerged, merge_tells, merge_decided}
use Rattle.theorem_demands.proofs.TextToText.{no_outcome, opens, Ends, unread, unfit, gives, ends, length_in, edges_in}
use Rattle.theorem_demands.proofs.Ordered.{merged_in_order, edges_in_order}

-- texts and tables
accepts : (text : Bytes) (table : ℕ) (m : Model) → (read_answer text table ≡ accepted m)
    ↔ ((table_words ≤ table) × Lawful m × (text ≡ text_of m))
accepts text table m = (
  λ h. let e = (reader_exact text table m).0 h in (e.0, (lawful_is m).0 e.1, e.2),
  λ h. (reader_exact text table m).1 (h.0, (lawful_is m).1 h.1, h.2),
)

its_table : (text : Bytes) (lent : List ℕ) (m : Model) → read_answer text (length lent) ≡ accepted m
    → take table_words (table_after text lent) ≡ table_of m
its_table text lent m h =
    ap (take table_words) (table_read text lent m h) ∙ take_at (table_of m) _ table_words (table_length m (accepted_then text (length lent) m h).limited)

one_table : (text text' : Bytes) (lent lent' : List ℕ) (m m' : Model)
    → read_answer text (length lent) ≡ accepted m → read_answer text' (length lent') ≡ accepted m'
    → (take table_words (table_after text lent) ≡ take table_words (table_after text' lent')) ↔ (text ≡ text')
one_table text text' lent lent' m m' h h' =
    let x = accepted_then text (length lent) m h in
    let y = accepted_then text' (length lent') m' h' in
    let p = its_table text lent m h in
    let q = its_table text' lent' m' h' in (
      λ e. x.spelled ∙ ap text_of (table_one_to_one m m' x.limited y.limited (sym p ∙ e ∙ q)) ∙ sym y.spelled,
      λ e. p ∙ ap table_of (text_one_to_one m m' x.limited y.limited (sym x.spelled ∙ e ∙ y.spelled)) ∙ sym q,
    )

writes_back : (text : Bytes) (lent : List ℕ) (m : Model) → read_answer text (length lent) ≡ accepted m → (buffer : ℕ)
    → length text ≤ buffer
    → write_answer (table_after text lent) buffer ≡ written text
writes_back text lent m h buffer room =
    ap (λ (t : List ℕ). write_answer t buffer) (table_read text lent m h) ∙ written_back text (length lent) m _ buffer h room

reads_back : (table : List ℕ) (buffer : ℕ) (text : Bytes) → write_answer table buffer ≡ written text → (lent : List ℕ)
    → table_words ≤ length lent
    → table_after text lent ≡ take table_words table ++ drop table_words lent
reads_back table buffer text h lent room =
    let (m, o, q, l) = written_then table buffer text h in
    let g = model_given table m (opened_model table m o) in
    table_read text lent m ((reader_exact text (length lent) m).1 (room, g.0, q)) ∙ ap (λ (ws : List ℕ). ws ++ drop table_words lent) (sym g.1)

-- the merged text
merged_text : (m : Model) → limits m ≡ true → merge_fault m ≡ none
    → IsMergedText m (text_of (linear m)) (length (merged_edges m))
unfolding linear
merged_text m limited u = record {
  sheet = linear m;
  spelled = refl;
  readable = (reader_exact (text_of (linear m)) table_words (linear m)).1 (omega arith, linear_limited m limited u, refl);
  definition_4 = linear_is m ((lawful_is m).0 limited);
  automaton =
      record { sync = keep (λ a. in_set m a m.tree) (count_up 1 m.actions); locations = record { init = merged_init m; inv = merged_inv m } ∷ []; edges = merged_edges m };
  one = refl;
  in_order = merged_in_order m ((lawful_is m).0 limited);
  counted = refl;
}

-- of the sheet whose table it is
module _ (t : List ℕ) (m : Model) (o : open_table t ≡ opened m) (b : ℕ) (text : Bytes) (edges : ℕ) (h : merge_answer t b ≡ merged text edges) where
  pub record Gives : Type 0 where
    pub unrefused : merge_fault m ≡ none
    pub its_text : text ≡ text_of (linear m)
    pub its_count : edges ≡ length (merged_edges m)

  merge_gives : Gives
  merge_gives =
      let (n, p, u, l, q, c) = (merge_is_definition_4 t b text edges).0 h in
      let e : opened n ≡ opened m = sym p ∙ o in
      let same : n ≡ m = cc in
      record {
        unrefused = subst (λ (k : Model). merge_fault k ≡ none) same u;
        its_text = q ∙ ap (λ (k : Model). text_of (linear k)) same;
        its_count = c ∙ ap (λ (k : Model). length (merged_edges k)) same;
      }

  is_merged_text : IsMergedText m text edges
  is_merged_text =
      subst₂ (IsMergedText m) (sym merge_gives.its_text) (sym merge_gives.its_count)
      (merged_text m (opened_limited t m o) merge_gives.unrefused)

-- put into a buffer, with its length
into : (m : Model) (text : Bytes) (edges : ℕ) (lent : Bytes) → IsMergedText m text edges
    → MergedInto m (length text) edges (with_text text lent)
unfolding with_text
into m text edges lent i =
    let e : take (length text) (with_text text lent) ≡ text = take-append_seam text _ in
    record { is_merged = subst (λ (s : Bytes). IsMergedText m s edges) (sym e) i; its_length = ap length e }

merges : (t : List ℕ) (lent : Bytes) (bytes edges : ℕ)
    → merge_of (merge_answer t (length lent)) ≡ Ok (report bytes edges)
    → (m : Model) × (open_table t ≡ opened m) × MergedInto m bytes edges (merge_after (merge_answer t (length lent)) lent)
unfolding merge_of merge_after
merges t lent bytes edges h = go (merge_answer t (length lent)) refl
  where
    go : (x : MergeAnswer) → merge_answer t (length lent) ≡ x
        → (m : Model) × (open_table t ≡ opened m) × MergedInto m bytes edges (merge_after (merge_answer t (length lent)) lent)
    go (unmerged n) e =
        absurd (let q : ◌≡◌ {A = Result Merged Row} (Err (row n)) (Ok (report bytes edges)) = ap merge_of (sym e) ∙ h in let z : ◌≡◌ {A = ℕ} 0 1 = cc in omega arith)
    go (merged text count) e =
        let q : ◌≡◌ {A = Result Merged Row} (Ok (report (length text) count)) (Ok (report bytes edges)) = ap merge_of (sym e) ∙ h in
        let n : length text ≡ bytes = ap length_in q in
        let c : count ≡ edges = ap edges_in q in
        let m = (merge_is_definition_4 t (length lent) text count).0 e in
        let i = is_merged_text t m.0 m.1 (length lent) text count e in
        (m.0, m.1, rw e (subst₂ (λ (k j : ℕ). MergedInto m.0 k j (with_text text lent)) n c (into m.0 text count lent i)))

linearizes : (text lent : Bytes) (bytes edges : ℕ) → outcome text (length lent) ≡ Ok (report bytes edges)
    → (m : Model) × Lawful m × (text ≡ text_of m) × MergedInto m bytes edges (outcome_after text lent)
linearizes text lent bytes edges h = go (ends text lent)
  where
    go : Ends text lent → (m : Model) × Lawful m × (text ≡ text_of m) × MergedInto m bytes edges (outcome_after text lent)
    go (unread row line e o k) = absurd (no_outcome row line bytes edges (sym o ∙ h))
    go (unfit m row e f o k) = absurd (no_outcome row 0 bytes edges (sym o ∙ h))
    go (gives m text' count e f o k) =
        let q : ◌≡◌ {A = Result Merged Refusal} (Ok (report (length text') count)) (Ok (report bytes edges)) = sym o ∙ h in
        let n : length text' ≡ bytes = ap length_in q in
        let c : count ≡ edges = ap edges_in q in
        let x = accepted_then text table_words m e in
        let i = is_merged_text (table_of m) m (opens text m e (length lent)) (length lent) text' count f in
        (m, (lawful_is m).0 x.limited, x.spelled, rw k (subst₂ (λ (j l : ℕ). MergedInto m j l (with_text text' lent)) n c (into m text' count lent i)))

prints : (m : Model) → Lawful m → Unbroken (merger_rows max_bytes m)
    → (edges : ℕ) × IsMergedText m (program_output (text_of m)) edges
prints m lawful u =
    let reads = (accepts (text_of m) table_words m).1 (omega arith, lawful, refl) in
    let o = opens (text_of m) m reads max_bytes in
    let (text, edges, e) = (accepted_by unmerged HasMerged merge_tells _ _ (own_decided (merger_rows max_bytes) (table_of m) unmerged HasMerged _ m o (merge_decided (table_of m) max_bytes))).1 u in
    let g = merge_gives (table_of m) m o max_bytes text edges e in
    let q : text ≡ program_output (text_of m) = g.its_text ∙ sym (program_prints (text_of m) m reads g.unrefused) in
    (edges, subst (λ (s : Bytes). IsMergedText m s edges) q (is_merged_text (table_of m) m o max_bytes text edges e))

-- there is one only
automaton_same : (x y : Automaton) → x.sync ≡ y.sync → x.locations ≡ y.locations → x.edges ≡ y.edges → x ≡ y
automaton_same x y p q r =
    ap (λ (s : List ℕ). record { sync = s; locations = x.locations; edges = x.edges }) p
    ∙ ap (λ (ls : List Location). record { sync = y.sync; locations = ls; edges = x.edges }) q
    ∙ ap (λ (es : List Edge). record { sync = y.sync; locations = y.locations; edges = es }) r

model_same : (l k : Model) → l.format ≡ k.format → l.actions ≡ k.actions → l.variables ≡ k.variables
    → l.owners ≡ k.owners → l.automata ≡ k.automata → l.tree ≡ k.tree → l ≡ k
model_same l k f p q o r s =
    ap (λ (n : ℕ). sheet n l.actions l.variables l.owners l.automata l.tree) f
    ∙ ap (λ (a : ℕ). sheet k.format a l.variables l.owners l.automata l.tree) p
    ∙ ap (λ (vs : List Range). sheet k.format k.actions vs l.owners l.automata l.tree) q
    ∙ ap (λ (os : List (Option ℕ)). sheet k.format k.actions k.variables os l.automata l.tree) o
    ∙ ap (λ (xs : List Automaton). sheet k.format k.actions k.variables k.owners xs l.tree) r
    ∙ ap (λ (c : Tree). sheet k.format k.actions k.variables k.owners k.automata c) s

one_merged : (m : Model) (text text' : Bytes) (edges edges' : ℕ) → IsMergedText m text edges
    → IsMergedText m text' edges' → (text ≡ text') × (edges ≡ edges')
one_merged m text text' edges edges' i j =
    let s = linearizations_same m i.sheet j.sheet i.definition_4 j.definition_4 in
    let p : i.automaton ≡ s.one = head-eq_of_cons-eq (sym i.one ∙ s.first_automata) in
    let q : j.automaton ≡ s.other = head-eq_of_cons-eq (sym j.one ∙ s.other_automata) in
    let e : i.automaton.edges ≡ j.automaton.edges = edges_in_order m _ _ i.in_order j.in_order in
    let a : i.automaton ≡ j.automaton = automaton_same _ _
    (ap (λ (x : Automaton). x.sync) p ∙ s.sync ∙ ap (λ (x : Automaton). x.sync) (sym q))
    (ap (λ (x : Automaton). x.locations) p ∙ s.locations ∙ ap (λ (x : Automaton). x.locations) (sym q))
    e in
    let l : i.sheet ≡ j.sheet = model_same _ _ s.format s.actions s.variables s.owners (i.one ∙ ap (λ (x : Automaton). x ∷ []) a ∙ sym j.one) s.tree in
    (i.spelled ∙ ap text_of l ∙ sym j.spelled, i.counted ∙ ap length e ∙ sym j.counted)

pub demand_2 : ReadsAndWritesExactly
demand_2 = record {
  accepts = accepts;
  its_table = its_table;
  one_table = one_table;
  writes_back = writes_back;
  reads_back = reads_back;
  merges = merges;
  linearizes = linearizes;
  prints = prints;
  one_merged = one_merged;
}
