-- Each way out of the code of src/survey.rt.
use mathlib.Core.Path.{◌≡◌, ap, ap₂, ◌∙◌}
use mathlib.Core.Bool.{Bool, ◌||◌}
use mathlib.Core.List.{List}
use Prim.Native.Nat.{ℕ, suc, ◌+◌, ◌-◌, ◌≤◌, ◌<◌}
use native.Mathlib.Omega.{arith}
use Rattle.table_places.specs.Outline.{reach}
use Rattle.merge_append.specs.Runs.{run}
use Rattle.merge_append.specs.NodeWords.{capped}
use Rattle.merge_predicates.specs.declared.functions.Functions.{Functions}
use Rattle.merge_predicates.specs.declared.starts.Starts.{Starts}
use Rattle.merge_predicates.specs.Starts.{no_starts, add_starts}
use Rattle.merge_predicates.specs.Clauses.{value_nodes, merged_nodes}
use Rattle.merge_predicates.specs.Depths.{values_deeper, starts_deeper, merged_deep}
use Rattle.merge_edges.specs.Edge.{takers_nodes, updates_deep}
use Rattle.merge_words.specs.declared.gathering.Gathered.{Gathered}
use Rattle.merge_words.specs.declared.survey.Survey.{Survey}
use Rattle.merge_words.specs.Survey.{surveyed, with_edge, survey_from, survey_of, survey_start, survey_whole}

-- `with_edge`
pub with_edge_is : (t list : List ℕ) (at : ℕ) (s : Survey) (places : List ℕ) (d : Bool) (n r : ℕ) → places ≡ run list at 16 → d ≡ updates_deep t places
    → n ≡ takers_nodes t 1 places → r ≡ capped (s.nodes + n) → surveyed (s.deep || d) r ≡ with_edge t (run list at 16) s
unfolding with_edge
with_edge_is t list at s places d n r ep ed en er =
    ap₂ surveyed (ap (λ b. s.deep || b) (ed ∙ ap (updates_deep t) ep)) (er ∙ ap (λ y. capped (s.nodes + y)) (en ∙ ap (takers_nodes t 1) ep))

-- `with_edges`
pub with_edges_begun : (t list : List ℕ) (count : ℕ) (s : Survey) → survey_from t list 0 (count - 0) s ≡ survey_from t list 0 count s
with_edges_begun t list count s = let z : count - 0 ≡ count = omega arith in rw z

module _ (t list : List ℕ) (at i count : ℕ) (s whole : Survey) (u : survey_from t list at (count - i) s ≡ whole) where
  pub with_edges_turn : i < count → (r : Survey) (next : ℕ) → r ≡ with_edge t (run list at 16) s → next ≡ reach list at 16
      → survey_from t list next (count - (i + 1)) r ≡ whole
  unfolding survey_from
  with_edges_turn h r next er en =
      let n : count - i ≡ suc (count - (i + 1)) = omega arith in
      rw (er, en) (rw n at u)

  pub with_edges_end : count ≤ i → s ≡ whole
  unfolding survey_from
  with_edges_end h = let n : count - i ≡ 0 = omega arith in rw n at u

pub ruleset with_edges_laws = (with_edges_begun, with_edges_turn, with_edges_end)

-- `predicate`
pub predicate_is : (t : List ℕ) (f : Functions) (s : Starts) (d b : Bool) (n k : ℕ) → d ≡ values_deeper t 22 f.places 0 f.total → n ≡ value_nodes t f.places 0 f.total 1
    → b ≡ starts_deeper t 23 s.first s.count → k ≡ add_starts t s.first s.count n → surveyed (d || b) k ≡ survey_of t f s
unfolding survey_of merged_deep merged_nodes
predicate_is t f s d b n k ed en eb ek = ap₂ surveyed (ap₂ (λ (x y : Bool). x || y) ed eb) (ek ∙ ap (add_starts t s.first s.count) en)

-- `start`
pub start_is : (t : List ℕ) (fs : Functions) (s none : Starts) (gs : Functions) (a b : Survey) (r : ℕ) → none ≡ no_starts → a ≡ survey_of t fs s → b ≡ survey_of t gs none
    → r ≡ capped (a.nodes + b.nodes) → surveyed (a.deep || b.deep) r ≡ survey_start t fs s gs
unfolding survey_start survey_of
start_is t fs s none gs a b r e ea eb er =
    ap (surveyed (a.deep || b.deep)) er ∙
    ap₂ (λ (x y : Survey). surveyed (x.deep || y.deep) (capped (x.nodes + y.nodes))) ea (eb ∙ ap (survey_of t gs) e)

-- `whole`
pub whole_is : (t list : List ℕ) (g : Gathered) (s r : Survey) → s ≡ survey_start t g.inits g.starts g.invs → r ≡ survey_from t list 0 g.edges s → r ≡ survey_whole t g list
unfolding survey_whole
whole_is t list g s r es er = er ∙ ap (survey_from t list 0 g.edges) es
