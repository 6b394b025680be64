-- The numbers of a table: the words that the code reads are the model's.
use Rattle.std.proofs.Common.{Result, Ok, Err}
use Rattle.std.specs.Prelude.{⊤}
use Rattle.model.specs.declared.Row.{Row}
use mathlib.Core.Path.{◌≡◌, refl, sym, ◌∙◌}
use mathlib.Core.List.{List}
use Prim.Native.Nat.{ℕ}
use Rattle.model.specs.Table.{Opened, unopened, opened, open_table}
use Rattle.table_check.specs.Check.{answered}
use Rattle.table_places.specs.Outline.{actions_in, variables_in, automata_in}
use Rattle.table_places.proofs.OutlineLaws.{actions_in_lem, variables_in_lem, automata_in_lem}
use Rattle.table_places.proofs.Opened.{sheet_of}
use Rattle.model.specs.Row.{row}
use Rattle.judge.specs.declared.TableSize.{TableSize}
use Rattle.judge.specs.TableSize.{size_of}

module _ (t : List ℕ) (x : Result ⊤ Row) (e : x ≡ answered (open_table t)) where
  pub size_refused : (r : Row) → x ≡ Err r → ◌≡◌ {A = Result TableSize Row} (Err r) (size_of (open_table t))
  unfolding answered size_of
  size_refused r f = go (open_table t) refl
    where
      go : (o : Opened) → open_table t ≡ o → ◌≡◌ {A = Result TableSize Row} (Err r) (size_of (open_table t))
      go (unopened other) g =
          let same : ◌≡◌ {A = Result ⊤ Row} (Err (row other)) (Err r) = rw g at (sym e ∙ f) in
          let rows_same : r ≡ row other = cc in
          rw (g, rows_same)
      go (opened m) g =
          let never : ◌≡◌ {A = Result ⊤ Row} (Ok tt) (Err r) = rw g at (sym e ∙ f) in
          cc

  pub size_counts : x ≡ Ok tt → (a v n : ℕ) → a ≡ actions_in t → v ≡ variables_in t → n ≡ automata_in t → Ok (record { actions = a; variables = v; automata = n }) ≡ size_of (open_table t)
  unfolding answered size_of
  size_counts h a v n i j o = go (open_table t) refl
    where
      go : (q : Opened) → open_table t ≡ q → Ok (record { actions = a; variables = v; automata = n }) ≡ size_of (open_table t)
      go (unopened other) g =
          let never : ◌≡◌ {A = Result ⊤ Row} (Err (row other)) (Ok tt) = rw g at (sym e ∙ h) in
          cc
      go (opened m) g =
          let sheet = sheet_of t m g in
          rw (g, i, j, o, actions_in_lem t sheet.rest m sheet.stands, variables_in_lem t sheet.rest m sheet.stands, automata_in_lem t sheet.rest m sheet.stands)

pub ruleset size_laws = (size_refused, size_counts)
