-- How an answer comes about: by the smallest row whose condition holds, or, where none holds, as an acceptance.
use Prim.Native.Nat.{ℕ}
use mathlib.Core.Path.{◌≡◌, refl, sym, ap, ◌∙◌, subst}
use mathlib.Core.Bool.{Bool, true, false}
use mathlib.Core.List.{List, Memᴰ}
use mathlib.Core.Option.{Option, none, some}
use mathlib.Core.Logic.{◌↔◌}
use native.Mathlib.Omega.{arith}
use lib.ListN.{length}
use Rattle.model.specs.Basic.{lacks}
use Rattle.model.specs.Model.{Model}
use Rattle.model.specs.Limits.{broken}
use Rattle.model.specs.Table.{model_of, row18, row19, unopened, opened, open_table}
use Rattle.model.proofs.Parsing.{none_some, got}
use Rattle.format.specs.Refused.{Conditions, Unbroken, Smallest}
use Rattle.format.proofs.Smallest.{first_of, rises_from, first_unbroken, first_smallest}
use Rattle.model.proofs.TableLaws.{opened_model}
use Rattle.theorem_demands.specs.Rows.{own_rows, table_rows}

-- where none holds, each is false
pub unheld : {rows : Conditions} → Unbroken rows → (row : ℕ) (b : Bool) → Memᴰ (row, b) rows → b ≡ false
unheld u row true i = absurd (u.none_holds row i)
unheld u row false i = refl

-- an answer is a refusal with a row, or meets Good
module _ {X : Type 0} (refusal : ℕ → X) (Good : X → Type 0) where
  pub data Decided (rows : Conditions) (x : X) : Type 0 where
    by_row : (row : ℕ) → first_of rows ≡ some row → x ≡ refusal row → Decided rows x
    by_none : first_of rows ≡ none → Good x → Decided rows x

  -- a refusal tells its row, and is no acceptance
  pub record Tells : Type 0 where
    pub row_told : (row other : ℕ) → refusal row ≡ refusal other → row ≡ other
    pub apart : (row : ℕ) → Good (refusal row) → ⊥

  module _ (tells : Tells) (rows : Conditions) (x : X) where
    pub refused_by : rises_from 0 rows ≡ true → Decided rows x → (row : ℕ) → (x ≡ refusal row) ↔ Smallest rows row
    refused_by rise (by_row at f e) row = (
      λ h. (first_smallest rows rise row).0 (f ∙ ap some (tells.row_told at row (sym e ∙ h))),
      λ s. e ∙ ap refusal (got at row (sym f ∙ (first_smallest rows rise row).1 s)),
    )
    refused_by rise (by_none f g) row = (
      λ h. absurd (tells.apart row (subst Good h g)),
      λ s. absurd (none_some row (sym f ∙ (first_smallest rows rise row).1 s)),
    )

    pub accepted_by : Decided rows x → Good x ↔ Unbroken rows
    accepted_by (by_row at f e) = (
      λ g. absurd (tells.apart at (subst Good e g)),
      λ u. absurd (none_some at (sym ((first_unbroken rows).1 u) ∙ f)),
    )
    accepted_by (by_none f g) = (λ h. (first_unbroken rows).0 f, λ u. g)

-- what opening a table comes to
pub data Opening (t : List ℕ) : Type 0 where
  short : row18 (length t) ≡ true → open_table t ≡ unopened 18 → Opening t
  no_model : row18 (length t) ≡ false → model_of t ≡ none → open_table t ≡ unopened 19 → Opening t
  of_model : (m : Model) → row18 (length t) ≡ false → model_of t ≡ some m → open_table t ≡ opened m → Opening t

pub opening : (t : List ℕ) → Opening t
unfolding open_table
opening t = go (row18 (length t)) refl (model_of t) refl
  where
    go : (b : Bool) → row18 (length t) ≡ b → (o : Option Model) → model_of t ≡ o → Opening t
    go true e o p = short e (rw (e, open_table))
    go false e none p = no_model e p (rw (e, open_table, p))
    go false e (some m) p = of_model m e p (rw (e, open_table, p))

no_opening : (row : ℕ) (m : Model) → unopened row ≡ opened m → ⊥
no_opening row m q = let z : ◌≡◌ {A = ℕ} 0 1 = cc in omega arith

-- the rows over a table: 18, 19, or the sheet's own
module _ (own : Model → Conditions) (t : List ℕ) where
  first_18 : row18 (length t) ≡ true → first_of (table_rows own t) ≡ some 18
  unfolding table_rows first_of broken
  first_18 e = rw e

  first_19 : row18 (length t) ≡ false → model_of t ≡ none → first_of (table_rows own t) ≡ some 19
  unfolding table_rows first_of broken row19 lacks
  first_19 e p = rw (e, p)

  first_own : (m : Model) → row18 (length t) ≡ false → model_of t ≡ some m → first_of (table_rows own t) ≡ first_of (own m)
  unfolding table_rows own_rows first_of broken row19 lacks
  first_own m e p = rw (e, p)

  pub table_rise : ((m : Model) → rises_from 19 (own m) ≡ true) → rises_from 0 (table_rows own t) ≡ true
  unfolding table_rows own_rows rises_from
  table_rise rise = go (model_of t)
    where
      go : (o : Option Model) → rises_from 19 (own_rows own o) ≡ true
      go none = refl
      go (some m) = rise m

  -- on the table of a sheet none holds exactly if none of its own does
  pub own_unbroken : (m : Model) → model_of t ≡ some m → Unbroken (table_rows own t) → Unbroken (own m)
  unfolding table_rows own_rows
  own_unbroken m p u = record { none_holds = λ row i. u.none_holds row (Memᴰ.tail (Memᴰ.tail (rw p i))) }

  module _ {X : Type 0} (refusal : ℕ → X) (Good : X → Type 0) (x : X) where
    -- where a table opens, an answer over it is decided by the sheet's own rows
    pub own_decided : (m : Model) → open_table t ≡ opened m → Decided refusal Good (table_rows own t) x
        → Decided refusal Good (own m) x
    own_decided m o d = go (opening t) d
      where
        inside : first_of (table_rows own t) ≡ first_of (own m) → Decided refusal Good (table_rows own t) x
            → Decided refusal Good (own m) x
        inside q (by_row row f e) = by_row row (sym q ∙ f) e
        inside q (by_none f g) = by_none (sym q ∙ f) g

        go : Opening t → Decided refusal Good (table_rows own t) x → Decided refusal Good (own m) x
        go (short e p) d = absurd (no_opening 18 m (sym p ∙ o))
        go (no_model e n p) d = absurd (no_opening 19 m (sym p ∙ o))
        go (of_model k e n p) d = inside (first_own m e (opened_model t m o)) d

    -- an answer over a table is decided, if it is so where the table opens
    pub table_decided : ((row : ℕ) → open_table t ≡ unopened row → x ≡ refusal row)
        → ((m : Model) → open_table t ≡ opened m → Decided refusal Good (own m) x)
        → Decided refusal Good (table_rows own t) x
    table_decided unopens opens = go (opening t)
      where
        inside : (m : Model) → first_of (table_rows own t) ≡ first_of (own m) → Decided refusal Good (own m) x
            → Decided refusal Good (table_rows own t) x
        inside m q (by_row row f e) = by_row row (q ∙ f) e
        inside m q (by_none f g) = by_none (q ∙ f) g

        go : Opening t → Decided refusal Good (table_rows own t) x
        go (short e o) = by_row 18 (first_18 e) (unopens 18 o)
        go (no_model e p o) = by_row 19 (first_19 e p) (unopens 19 o)
        go (of_model m e p o) = inside m (first_own m e p) (opens m o)
