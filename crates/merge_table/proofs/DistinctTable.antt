-- The table that is merged is that of the sheet without repeats.
use mathlib.Core.Path.{◌≡◌, refl, sym, ap, ◌∙◌, subst}
use mathlib.Core.Bool.{Bool, true, false}
use mathlib.Core.List.{List, ◌++◌, map}
use Prim.Native.Nat.{ℕ, ◌-◌}
use lib.ListN.{length, replicate}
use Rattle.model.specs.Bounds.{table_words}
use Rattle.model.specs.Model.{Model}
use Rattle.model.specs.Lawful.{Lawful}
use Rattle.model.specs.Table.{sheet_words, table_of}
use Rattle.model.specs.Repeats.{distinct}
use Rattle.model.proofs.Distinct.{lawful_distinct}
use Rattle.table_append.specs.Append.{put}
use Rattle.table_places.specs.Layout.{layout_of}
use Rattle.merge_append.specs.Append.{narrow, placed, Appended}
use Rattle.merge_distinct.specs.Distinct.{repeats_in, distinct_words}
use Rattle.merge_table.specs.Linearization.{distinct_table}
use Rattle.merge_table.proofs.WholeIs.{table_appended}
use Rattle.merge_table.proofs.DistinctIs.{repeats_is, distinct_words_are}

module _ (m : Model) (lawful : Lawful m) (t rest : List ℕ) (e : t ≡ sheet_words m ++ rest) where
  -- the words of the sheet without repeats, in an empty table
  abbrev copied : List ℕ
  copied = put 0 (map narrow (distinct_words t (layout_of t))) (replicate table_words 0)

  copied_is : copied ≡ table_of (distinct m)
  copied_is =
      let ws = distinct_words t (layout_of t) in
      let there : Appended ws 0 (replicate table_words 0) copied (placed 0 (length ws)) = record { next = refl; memory = refl } in
      table_appended (distinct m) (lawful_distinct m lawful) copied (placed 0 (length ws))
      (subst (λ (l : List ℕ). Appended l 0 (replicate table_words 0) copied (placed 0 (length ws))) (distinct_words_are m lawful t rest e) there)

  -- so the words of that sheet stand there, and others behind them
  pub distinct_table_lem : (others : List ℕ) × (distinct_table t ≡ sheet_words (distinct m) ++ others)
  unfolding distinct_table table_of
  distinct_table_lem = go (repeats_in t (layout_of t)) refl
    where
      go : (b : Bool) → repeats_in t (layout_of t) ≡ b → (others : List ℕ) × (distinct_table t ≡ sheet_words (distinct m) ++ others)
      go true p = (replicate (table_words - length (sheet_words (distinct m))) 0, rw (p, distinct_table) copied_is)
      go false p = (rest, rw (p, distinct_table) (e ∙ ap (λ (k : Model). sheet_words k ++ rest) (sym (repeats_is m lawful t rest e p))))
