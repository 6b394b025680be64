-- A table is refused with 18 or with 19, or it has its model.
use Prim.Native.Nat.{ℕ}
use mathlib.Core.Path.{◌≡◌, refl}
use mathlib.Core.Bool.{Bool, true, false}
use mathlib.Core.List.{List}
use mathlib.Core.Option.{Option, none, some}
use lib.ListN.{length}
use Rattle.model.specs.Model.{Model}
use Rattle.model.specs.Table.{row18, model_of, Opened, unopened, opened, open_table}

pub open_cases : (t : List ℕ) (P : Opened → Type 0) → P (unopened 18) → P (unopened 19) → ((m : Model) → model_of t ≡ some m → P (opened m)) → P (open_table t)
unfolding open_table
open_cases t P first second good = go (row18 (length t)) refl (model_of t) refl
  where
    go : (b : Bool) → row18 (length t) ≡ b → (o : Option Model) → model_of t ≡ o → P (open_table t)
    go true e o f = rw (e, open_table) first
    go false e none f = rw (e, open_table, f, open_table) second
    go false e (some m) f = rw (e, open_table, f, open_table) (good m f)
