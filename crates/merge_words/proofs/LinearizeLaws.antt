-- Each way out of the code of src/rows.rt and src/lib.rt.
use mathlib.Core.Path.{◌≡◌, refl, sym, ap, ap₂, ◌∙◌}
use mathlib.Core.Bool.{Bool, true, false}
use mathlib.Core.List.{List}
use Prim.Native.Nat.{ℕ, ◌≤◌, ◌<◌}
use lib.ListN.{replicate}
use lib.Dec.{ltb}
use borrow.Author.Tests.{lt-ltb, le-ltb}
use Rattle.std.specs.Prelude.{Some, None, Result, Ok, Err, ⊤}
use Rattle.model.specs.declared.Row.{Row}
use Rattle.model.specs.Row.{row}
use Rattle.model.specs.Bounds.{table_words}
use Rattle.table_places.specs.declared.layout.Layout.{Layout}
use Rattle.table_places.specs.Layout.{layout_of}
use Rattle.merge_append.specs.declared.append.Filling.{Filling}
use Rattle.merge_append.specs.Append.{Filled}
use Rattle.merge_append.specs.NodeWords.{pointer_of}
use Rattle.merge_predicates.specs.declared.functions.Functions.{Functions}
use Rattle.merge_predicates.specs.declared.starts.Starts.{Starts}
use Rattle.merge_predicates.specs.Functions.{functions_of}
use Rattle.merge_predicates.specs.Starts.{starts_of}
use Rattle.merge_takers.specs.Moves.{moves_in}
use Rattle.merge_takers.specs.Gather.{gathered}
use Rattle.merge_words.specs.declared.Linearization.{Linearization}
use Rattle.merge_words.specs.declared.gathering.Gathered.{Gathered}
use Rattle.merge_words.specs.declared.survey.Survey.{Survey}
use Rattle.merge_words.specs.declared.sync.Sets.{Sets}
use Rattle.merge_words.specs.Sync.{sets_of}
use Rattle.merge_words.specs.MergedSheet.{merged_sheet}
use Rattle.merge_words.specs.Survey.{survey_whole}
use Rattle.merge_words.specs.Linearize.{gathered_in, takers_for, refused_by, merged_to, is_crowded, fault_by, sheet_table, linear_for, linear_by}

-- `refused`
pub refused_is : (r : Row) → record { row = Some r; edges = 0; table = replicate table_words 0 } ≡ refused_by r.0
unfolding refused_by
refused_is r = refl

-- `crowded`
pub crowded_is : (x : Layout) (p : ℕ) → p ≡ pointer_of x.variables x.automata → ltb 48 p ≡ is_crowded x
unfolding is_crowded
crowded_is x p e = ap (ltb 48) e

-- `fault`
module _ (t takers : List ℕ) (g : Gathered) where
  pub fault_32 : 512 < g.edges → Err (row 32) ≡ fault_by t g takers
  unfolding fault_by
  fault_32 h = rw (lt-ltb 512 g.edges h, fault_by)

  module _ (some : g.edges ≤ 512) (s : Survey) (es : s ≡ survey_whole t g takers) where
    pub fault_33 : s.deep ≡ true → Err (row 33) ≡ fault_by t g takers
    unfolding fault_by
    fault_33 h =
        let d : (survey_whole t g takers).deep ≡ true = ap (λ (y : Survey). y.deep) (sym es) ∙ h in
        rw (le-ltb 512 g.edges some, fault_by, d, fault_by)

    module _ (flat : s.deep ≡ false) where
      flat_too : (survey_whole t g takers).deep ≡ false
      flat_too = ap (λ (y : Survey). y.deep) (sym es) ∙ flat

      nodes_too : (survey_whole t g takers).nodes ≡ s.nodes
      nodes_too = ap (λ (y : Survey). y.nodes) (sym es)

      pub fault_34 : 4096 < s.nodes → Err (row 34) ≡ fault_by t g takers
      unfolding fault_by
      fault_34 h = rw (le-ltb 512 g.edges some, fault_by, flat_too, fault_by, nodes_too, lt-ltb 4096 s.nodes h, fault_by)

      pub fault_none : s.nodes ≤ 4096 → Ok tt ≡ fault_by t g takers
      unfolding fault_by
      fault_none h = rw (le-ltb 512 g.edges some, fault_by, flat_too, fault_by, nodes_too, le-ltb 4096 s.nodes h, fault_by)

pub ruleset fault_laws = (fault_32, fault_33, fault_34, fault_none)

-- `merged`
pub merged_is : (t takers : List ℕ) (g : Gathered) (new : Filling)
    → Filled (merged_sheet t g takers) (record { words = replicate table_words 0; length = 0 }) new
    → record { row = None; edges = g.edges; table = new.words } ≡ merged_to g.edges (sheet_table t g takers)
unfolding merged_to sheet_table
merged_is t takers g new p = ap (merged_to g.edges) p.added.memory

-- `admitted`
module _ (t takers : List ℕ) (g : Gathered) (f : Result ⊤ Row) (e : f ≡ fault_by t g takers) (r : Linearization) where
  pub admitted_in : f ≡ Ok tt → r ≡ merged_to g.edges (sheet_table t g takers) → r ≡ linear_for t g takers
  unfolding linear_for
  admitted_in z h = h ∙ rw (sym e ∙ z, linear_for)

  pub admitted_out : (k : Row) → f ≡ Err k → r ≡ refused_by k.0 → r ≡ linear_for t g takers
  unfolding linear_for
  admitted_out k z h = h ∙ rw (sym e ∙ z, linear_for)

pub ruleset admitted_laws = (admitted_in, admitted_out)

-- `linearize`
module _ (t : List ℕ) (x : Layout) (ex : x ≡ layout_of t) (c : Bool) (e : c ≡ is_crowded x) (r : Linearization) where
  crowded_here : is_crowded (layout_of t) ≡ c
  crowded_here = sym (e ∙ ap is_crowded ex)

  pub linearize_crowded : c ≡ true → r ≡ refused_by 31 → r ≡ linear_by t
  unfolding linear_by
  linearize_crowded z h = h ∙ rw (crowded_here ∙ z, linear_by)

  -- what was gathered, part by part
  module _ (fs gs : Functions) (ps : Starts) (s : Sets) (edges : ℕ) (list : List ℕ) (ef : fs ≡ functions_of t x false)
      (ep : ps ≡ starts_of t x) (eg : gs ≡ functions_of t x true) (es : s ≡ sets_of t x) (en : edges ≡ moves_in t x s.own)
      (el : list ≡ gathered t x s.own (replicate table_words 0)) where
    parts : record { wildcards = x; inits = fs; starts = ps; invs = gs; sets = s; edges = edges } ≡ gathered_in t x
    unfolding gathered_in sets_of
    parts = rw (ef, ep, eg, en, es)

    listed : list ≡ takers_for t x
    unfolding takers_for sets_of
    listed = el ∙ rw es

    pub linearize_gathered : c ≡ false
        → r ≡ linear_for t (record { wildcards = x; inits = fs; starts = ps; invs = gs; sets = s; edges = edges }) list
        → r ≡ linear_by t
    unfolding linear_by
    linearize_gathered z h =
        h ∙ ap₂ (linear_for t) parts listed ∙ ap (λ (y : Layout). linear_for t (gathered_in t y) (takers_for t y)) ex ∙ rw (crowded_here ∙ z, linear_by)

pub ruleset linearize_laws = (linearize_crowded, linearize_gathered)
