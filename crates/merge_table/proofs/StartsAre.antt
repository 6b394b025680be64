-- The start conditions that are gathered are the composition's: the P's of its `ini`, in tree order.
use mathlib.Core.Path.{◌≡◌, refl, ◌∙◌}
use mathlib.Core.List.Memᴰ
use mathlib.Core.List.{List, [], ◌∷◌, ◌++◌, append_assoc, flat_map, Memᴰ}
use Prim.Native.Nat.{ℕ, ◌≤◌}
use native.Mathlib.Omega.{arith}
use lib.ListN.{length, drop}
use Rattle.model.specs.Bounds.{max_tree_nodes}
use Rattle.model.specs.Predicate.{Pred}
use Rattle.model.specs.Composition.{starts}
use Rattle.model.specs.Model.{Model}
use Rattle.model.specs.Lawful.{Lawful}
use Rattle.model.specs.Table.{pred_words, sheet_words}
use Rattle.model.proofs.Sizes.{starts_few}
use Rattle.table_places.specs.Outline.{after_predicate}
use Rattle.table_places.specs.Layout.{layout_of}
use Rattle.table_places.proofs.OutlineLaws.{after_predicate_lem}
use Rattle.table_places.proofs.LayoutLaws.{tree_line}
use Rattle.table_places.proofs.StartLaws.{start_count_lem, first_start_lem}
use Rattle.merge_predicates.specs.declared.starts.Starts.{Starts}
use Rattle.merge_predicates.specs.Starts.{starts_of, no_starts}
use Rattle.merge_table.proofs.DepthsAre.{Readable, readable}

-- predicates that stand one after the other: the first of them, and the others
module _ (t : List ℕ) (at : ℕ) (p : Pred) (ps : List Pred) (rest : List ℕ) (e : drop at t ≡ flat_map pred_words (p ∷ ps) ++ rest) where
  pub first_stands : drop at t ≡ pred_words p ++ (flat_map pred_words ps ++ rest)
  unfolding flat_map
  first_stands = e ∙ append_assoc (pred_words p) (flat_map pred_words ps) rest

  pub others_stand : drop (after_predicate t at) t ≡ flat_map pred_words ps ++ rest
  others_stand = after_predicate_lem t at p (flat_map pred_words ps ++ rest) first_stands

-- What was gathered says of some predicates how many there are, and where they stand.
pub record AreStarts (t : List ℕ) (ps : List Pred) (s : Starts) : Type 0 where
  pub count : s.count ≡ length ps
  pub few : length ps ≤ max_tree_nodes
  pub rest : List ℕ
  pub words : drop s.first t ≡ flat_map pred_words ps ++ rest
  pub said : (p : Pred) → Memᴰ p ps → Readable p

-- the merged inv has none
pub no_starts_lem : (t : List ℕ) → AreStarts t [] no_starts
unfolding no_starts flat_map
no_starts_lem t = record { count = refl; few = omega arith; rest = t; words = refl; said = λ p i. absurd (Memᴰ.not-nil i) }

-- the law
module _ (m : Model) (lawful : Lawful m) (t rest : List ℕ) (e : t ≡ sheet_words m ++ rest) where
  pub starts_are : AreStarts t (starts m.tree) (starts_of t (layout_of t))
  unfolding starts_of
  starts_are =
      let c = m.tree in
      let at = (layout_of t).tree in
      let line = tree_line m lawful t rest e in
      let size = lawful.tree.size in
      record {
        count = start_count_lem t rest c at line size;
        few = omega (arith, starts_few c);
        rest = rest;
        words = first_start_lem t rest c at line size;
        said = λ p i. readable p (lawful.starts p i).pred;
      }
