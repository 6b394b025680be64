-- The code's linearization is that of Definition 4, with rows 18, 19 and 31 to 34: over any sheet it finds the merged sheet
-- with repeats, and it is handed the sheet that has none.
use mathlib.Core.Path.{◌≡◌, refl, sym, ap, ap₂, ◌∙◌}
use mathlib.Core.Bool.{Bool, true, false}
use mathlib.Core.List.{List, ◌++◌, map}
use mathlib.Core.Option.{Option, none, some}
use Prim.Native.Nat.{ℕ}
use native.Mathlib.Omega.{arith}
use lib.ListN.{length, replicate, length-replicate}
use lib.Dec.{ltb}
use Rattle.model.specs.Bounds.{max_edges, max_nodes, table_words}
use Rattle.model.specs.Model.{Model}
use Rattle.model.specs.Lawful.{Lawful}
use Rattle.model.specs.Limits.{broken}
use Rattle.model.specs.Table.{sheet_words, table_of, Opened, unopened, opened, open_table}
use Rattle.model.specs.Linear.{row31, merge_fault}
use Rattle.model.specs.Repeats.{distinct, linear_with_repeats, count_with_repeats, row32_with_repeats, row33_with_repeats, row34_with_repeats, fault_with_repeats}
use Rattle.model.proofs.Distinct.{lawful_distinct, count_distinct, linear_distinct, fault_distinct}
use Rattle.table_places.proofs.Opened.{sheet_of}
use Rattle.std.proofs.Common.{Result, Ok, Err}
use Rattle.std.specs.Prelude.{⊤}
use Rattle.model.specs.declared.Row.{Row}
use Rattle.model.specs.Row.{row}
use Rattle.table_check.specs.Check.{answered}
use Rattle.merge_words.specs.declared.Linearization.{Linearization}
use Rattle.table_append.specs.Append.{put}
use Rattle.table_append.proofs.AppendLaws.{put_kept}
use Rattle.merge_distinct.specs.Distinct.{repeats_in, distinct_words}
use Rattle.merge_append.specs.declared.append.Filling.{Filling}
use Rattle.merge_append.specs.Append.{narrow, placed, Appended, Filled}
use Rattle.table_places.specs.declared.layout.Layout.{Layout}
use Rattle.table_places.specs.Layout.{layout_of}
use Rattle.merge_takers.specs.Gather.{gathered}
use Rattle.merge_words.specs.MergedSheet.{merged_sheet}
use Rattle.merge_words.specs.declared.gathering.Gathered.{Gathered}
use Rattle.merge_words.specs.declared.survey.Survey.{Survey}
use Rattle.merge_words.specs.Survey.{survey_from, survey_start, survey_whole}
use Rattle.merge_words.specs.Linearize.{gathered_in, takers_for, refused_by, merged_to, is_crowded, fault_by, sheet_table, linear_for, linear_by}
use Rattle.merge_table.specs.Linearization.{linear_model, linearization_of, linearization, distinct_table}
use Rattle.merge_table.proofs.Standing.{own_of}
use Rattle.merge_table.proofs.CountIs.{count_row, count_exact, variables_row}
use Rattle.merge_table.proofs.SurveyIs.{Begun, start_begun, survey_deep, survey_row34}
use Rattle.merge_table.proofs.WholeIs.{rows_kept, whole_table}
use Rattle.merge_table.proofs.DistinctTable.{distinct_table_lem}

-- a row, or the table of a model with so many edges
abbrev answer : Option ℕ → ℕ → Model → Linearization
answer o n k = elim o [ some x ↦ refused_by x | none ↦ merged_to n (table_of k) ]

-- of a model: the rows 31 to 34 that count repeats, or the table of its merged model with them
unfoldable pub model_with_repeats : Model → Linearization
model_with_repeats m = answer (fault_with_repeats m) (count_with_repeats m) (linear_with_repeats m)

module _ (m : Model) (lawful : Lawful m) (t rest : List ℕ) (e : t ≡ sheet_words m ++ rest) where
  abbrev lay : Layout
  lay = layout_of t

  abbrev g : Gathered
  g = gathered_in t lay

  abbrev list : List ℕ
  list = takers_for t lay

  abbrev found : Linearization
  found = linear_for t g list

  -- as many edges as there are
  counted_all : row32_with_repeats m ≡ false → g.edges ≡ count_with_repeats m
  unfolding gathered_in
  counted_all b = count_exact m lawful t rest e b

  -- a row that refuses
  refuses : (n : ℕ) → fault_by t g list ≡ Err (row n) → fault_with_repeats m ≡ some n → found ≡ model_with_repeats m
  unfolding linear_for model_with_repeats
  refuses n f h = rw (f, linear_for, h, model_with_repeats)

  -- no row refuses
  merges : fault_by t g list ≡ Ok tt → fault_with_repeats m ≡ none → found ≡ model_with_repeats m
  unfolding linear_for model_with_repeats sheet_table
  merges z f =
      let ws = merged_sheet t g list in
      let zeros : List ℕ = replicate table_words 0 in
      let there : Appended ws 0 zeros (put 0 (map narrow ws) zeros) (placed 0 (length ws)) = record { next = refl; memory = refl } in
      let table : sheet_table t g list ≡ table_of (linear_with_repeats m) = whole_table m lawful t rest e f _ _ there in
      let count : g.edges ≡ count_with_repeats m = counted_all (rows_kept m f).edges in
      rw (z, linear_for, f, model_with_repeats) (ap₂ merged_to count table)

  -- the tests over words are the rows
  test31 : is_crowded lay ≡ row31 m
  unfolding is_crowded
  test31 = variables_row m lawful t rest e

  test32 : ltb max_edges g.edges ≡ row32_with_repeats m
  unfolding gathered_in
  test32 = count_row m lawful t rest e

  module _ (a : row31 m ≡ false) where
    module _ (b : row32_with_repeats m ≡ false) where
      abbrev begun : Survey
      begun = survey_start t g.inits g.starts g.invs

      -- the survey that the code makes is that of all merged edges
      surveyed_all : survey_whole t g list ≡ survey_from t (gathered t lay (own_of t) (replicate table_words 0)) 0 (count_with_repeats m) begun
      unfolding survey_whole takers_for
      surveyed_all = ap (λ n. survey_from t list 0 n begun) (counted_all b)

      begins : Begun m begun
      unfolding gathered_in
      begins = start_begun m lawful t rest e

      empty : length (replicate {A = ℕ} table_words 0) ≡ table_words
      empty = length-replicate {A = ℕ} table_words 0

      test33 : (survey_whole t g list).deep ≡ row33_with_repeats m
      test33 = ap (λ (s : Survey). s.deep) surveyed_all ∙ survey_deep m lawful t rest e b (replicate table_words 0) empty begun begins

      test34 : ltb max_nodes (survey_whole t g list).nodes ≡ row34_with_repeats m
      test34 = ap (λ (s : Survey). ltb max_nodes s.nodes) surveyed_all ∙ survey_row34 m lawful t rest e b (replicate table_words 0) empty begun begins

      in34 : row33_with_repeats m ≡ false → (d : Bool) → row34_with_repeats m ≡ d → found ≡ model_with_repeats m
      unfolding fault_by fault_with_repeats broken
      in34 c true d = refuses 34 (rw (test32 ∙ b, fault_by, test33 ∙ c, fault_by, test34 ∙ d, fault_by)) (rw (a, broken, b, broken, c, broken, d, broken))
      in34 c false d = merges (rw (test32 ∙ b, fault_by, test33 ∙ c, fault_by, test34 ∙ d, fault_by)) (rw (a, broken, b, broken, c, broken, d, broken))

      in33 : (c : Bool) → row33_with_repeats m ≡ c → found ≡ model_with_repeats m
      unfolding fault_by fault_with_repeats broken
      in33 true c = refuses 33 (rw (test32 ∙ b, fault_by, test33 ∙ c, fault_by)) (rw (a, broken, b, broken, c, broken))
      in33 false c = in34 c (row34_with_repeats m) refl

    in32 : (b : Bool) → row32_with_repeats m ≡ b → found ≡ model_with_repeats m
    unfolding fault_by fault_with_repeats broken
    in32 true b = refuses 32 (rw (test32 ∙ b, fault_by)) (rw (a, broken, b, broken))
    in32 false b = in33 b (row33_with_repeats m) refl

  pub linear_by_is : linear_by t ≡ model_with_repeats m
  unfolding linear_by model_with_repeats fault_with_repeats broken
  linear_by_is = in31 (row31 m) refl
    where
      in31 : (a : Bool) → row31 m ≡ a → linear_by t ≡ model_with_repeats m
      in31 true a =
          let g : fault_with_repeats m ≡ some 31 = rw (a, broken) in
          rw (test31 ∙ a, linear_by, g, model_with_repeats)
      in31 false a = rw (test31 ∙ a, linear_by) (in32 a (row32_with_repeats m) refl)

-- so over the sheet without repeats it finds Definition 4's
distinct_model : (m : Model) → Lawful m → model_with_repeats (distinct m) ≡ linear_model m
unfolding model_with_repeats linear_model
distinct_model m lawful =
    ap (λ (o : Option ℕ). answer o (count_with_repeats (distinct m)) (linear_with_repeats (distinct m))) (sym (fault_distinct m lawful))
    ∙ ap₂ (answer (merge_fault m)) (sym (count_distinct m lawful)) (sym (linear_distinct m lawful))

-- which is what it is handed
module _ (m : Model) (lawful : Lawful m) (t rest : List ℕ) (e : t ≡ sheet_words m ++ rest) where
  pub linear_once_is : linear_by (distinct_table t) ≡ linear_model m
  linear_once_is =
      let s = distinct_table_lem m lawful t rest e in
      linear_by_is (distinct m) (lawful_distinct m lawful) (distinct_table t) s.0 s.1 ∙ distinct_model m lawful

-- `linearize_once`: with repeats, and without
pub copied_long : (ws : List ℕ) (old new : Filling) → Filled ws old new → length old.words ≡ table_words
    → table_words ≡ length new.words
copied_long ws old new a l =
    sym (ap (length {A = ℕ}) a.added.memory ∙ put_kept (map narrow ws) old.length old.words ∙ l)

module _ (t : List ℕ) (x : Layout) (e : x ≡ layout_of t) (b : Bool) (f : b ≡ repeats_in t x) (r : Linearization) where
  pub once_repeats : (new : Filling) → b ≡ true
      → Filled (distinct_words t x) (record { words = replicate table_words 0; length = 0 }) new → r ≡ linear_by new.words
      → r ≡ linear_by (distinct_table t)
  unfolding distinct_table
  once_repeats new g a h =
      let p : repeats_in t (layout_of t) ≡ true = ap (repeats_in t) (sym e) ∙ sym f ∙ g in
      let q : new.words ≡ put 0 (map narrow (distinct_words t (layout_of t))) (replicate table_words 0) =
      a.added.memory ∙ ap (λ (y : Layout). put 0 (map narrow (distinct_words t y)) (replicate table_words 0)) e in
      h ∙ ap linear_by q ∙ rw (p, distinct_table)

  pub once_as_it_is : b ≡ false → r ≡ linear_by t → r ≡ linear_by (distinct_table t)
  unfolding distinct_table
  once_as_it_is g h =
      let p : repeats_in t (layout_of t) ≡ false = ap (repeats_in t) (sym e) ∙ sym f ∙ g in
      h ∙ rw (p, distinct_table)

pub ruleset linearize_once_laws = (once_repeats, once_as_it_is)

-- `linearize`
module _ (t : List ℕ) (c : Result ⊤ Row) (e : c ≡ answered (open_table t)) (r : Linearization) where
  pub linearize_refused : (k : Row) → c ≡ Err k → r ≡ refused_by k.0 → r ≡ linearization t
  unfolding linearization linearization_of answered
  linearize_refused k f h = go (open_table t) refl
    where
      go : (o : Opened) → open_table t ≡ o → r ≡ linearization_of (open_table t)
      go (unopened x) p =
          let z : row x ≡ k = cc (ap answered p) in
          h ∙ sym (ap (λ (y : Row). refused_by y.0) z) ∙ sym (ap linearization_of p)
      go (opened m) p =
          let z : ◌≡◌ {A = ℕ} 0 1 = cc (ap answered p) in
          absurd (omega arith)

  pub linearize_good : c ≡ Ok tt → r ≡ linear_by (distinct_table t) → r ≡ linearization t
  unfolding linearization linearization_of answered
  linearize_good f h = go (open_table t) refl
    where
      go : (o : Opened) → open_table t ≡ o → r ≡ linearization_of (open_table t)
      go (unopened x) p =
          let z : ◌≡◌ {A = ℕ} 0 1 = cc (ap answered p) in
          absurd (omega arith)
      go (opened m) p =
          let s = sheet_of t m p in
          h ∙ linear_once_is m s.lawful t s.rest s.stands ∙ sym (ap linearization_of p)

pub ruleset linearize_laws = (linearize_refused, linearize_good)
