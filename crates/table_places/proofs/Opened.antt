-- A table that opens begins with the words of a lawful model.
use mathlib.Core.Path.{◌≡◌, sym, ap, ◌∙◌}
use mathlib.Core.List.{List, ◌++◌}
use Prim.Native.Nat.{ℕ}
use lib.ListN.{drop, take-append-drop}
use Rattle.model.specs.Bounds.{table_words}
use Rattle.model.specs.Model.{Model}
use Rattle.model.specs.Lawful.{Lawful}
use Rattle.model.specs.Table.{sheet_words, table_of, opened, open_table}
use Rattle.model.proofs.LimitsLaws.{lawful_is}
use Rattle.model.proofs.TableLaws.{model_given, opened_model}
use Rattle.table_places.proofs.OutlineLaws.{table_sheet}

pub record Sheet (t : List ℕ) (m : Model) : Type 0 where
  pub lawful : Lawful m
  pub rest : List ℕ
  pub stands : t ≡ sheet_words m ++ rest

pub sheet_of : (t : List ℕ) (m : Model) → open_table t ≡ opened m → Sheet t m
sheet_of t m e =
    let g = model_given t m (opened_model t m e) in
    let parts : t ≡ table_of m ++ drop table_words t = sym (take-append-drop table_words t) ∙ ap (λ (s : List ℕ). s ++ drop table_words t) g.1 in
    record { lawful = (lawful_is m).0 g.0; rest = _; stands = table_sheet t (drop table_words t) m parts }
