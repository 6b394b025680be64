-- From a state that has passed the rows, only those of the new one are left.
use Rattle.std.proofs.Common.{Result, Ok, Err}
use Rattle.std.specs.Prelude.{⊤}
use Rattle.model.specs.declared.Row.{Row}
use Rattle.model.specs.Row.{row}
use mathlib.Core.Path.{◌≡◌, refl, ◌∙◌}
use mathlib.Core.Bool.{Bool, true, false, true≢false}
use mathlib.Core.List.{List}
use Prim.Native.Nat.{ℕ}
use lib.IntN.{ℤ}
use lib.ListN.{length}
use lib.Dec.{eqb}
use Rattle.model.proofs.Tests.{and_left}
use Rattle.table_places.specs.declared.layout.Layout.{Layout}
use Rattle.judge_rows.specs.RowTests.{lengths_fit, locations_known, values_known}
use Rattle.judge_rows.specs.Checks.{state_checked, values_checked, lists_checked}

-- A state that has passed rows 21 to 23.
pub record Known (w : List ℕ) (x : Layout) (l : List ℕ) (v : List ℤ) : Type 0 where
  pub fits : lengths_fit x (length l) (length v) ≡ true
  pub located : locations_known w x l ≡ true
  pub valued : values_known w x v ≡ true

module _ (w : List ℕ) (x : Layout) where
  -- a check lets pass what is known, and nothing else
  pub known_passes : (l : List ℕ) (v : List ℤ) → state_checked w x l v ≡ Ok tt → Known w x l v
  known_passes l v h = go (lengths_fit x (length l) (length v)) refl (locations_known w x l) refl (values_known w x v) refl
    where
      never : {r : Row} → ◌≡◌ {A = Result ⊤ Row} (Err r) (Ok tt) → Known w x l v
      never n = let clash : true ≡ false = cc in absurd (true≢false clash)

      go : (a : Bool) → lengths_fit x (length l) (length v) ≡ a → (b : Bool) → locations_known w x l ≡ b → (c : Bool) → values_known w x v ≡ c → Known w x l v
      go true d true e true f = record { fits = d; located = e; valued = f }
      go false d b e c f = let n : Err (row 21) ≡ Ok tt = unfold state_checked in rw (d, state_checked) at h in never n
      go true d false e c f = let n : Err (row 22) ≡ Ok tt = unfold state_checked in rw (d, state_checked, e, state_checked) at h in never n
      go true d true e false f = let n : Err (row 23) ≡ Ok tt = unfold state_checked in rw (d, state_checked, e, state_checked, f, state_checked) at h in never n

  module _ (l : List ℕ) (v : List ℤ) (known : Known w x l v) where
    -- the rows of both states are then those of the new one
    pub lists_new : (l' : List ℕ) (v' : List ℤ) → lists_checked w x l v l' v' ≡ state_checked w x l' v'
    lists_new l' v' = go (lengths_fit x (length l') (length v')) refl (locations_known w x l') refl (values_known w x v') refl
      where
        go : (a : Bool) → lengths_fit x (length l') (length v') ≡ a → (b : Bool) → locations_known w x l' ≡ b → (c : Bool) → values_known w x v' ≡ c
            → lists_checked w x l v l' v' ≡ state_checked w x l' v'
        go false d b e c f = unfold lists_checked state_checked in rw (known.fits, d, lists_checked, state_checked)
        go true d false e c f = unfold lists_checked state_checked in rw (known.fits, d, lists_checked, state_checked, known.located, e, lists_checked, state_checked)
        go true d true e false f =
            unfold lists_checked state_checked in
            rw (known.fits, d, lists_checked, state_checked, known.located, e, lists_checked, state_checked, known.valued, f, lists_checked, state_checked)
        go true d true e true f =
            unfold lists_checked state_checked in
            rw (known.fits, d, lists_checked, state_checked, known.located, e, lists_checked, state_checked, known.valued, f, lists_checked, state_checked)

    one_each : eqb (length l) x.automata ≡ true
    unfolding lengths_fit
    one_each = and_left (eqb (length l) x.automata) _ known.fits

    still_fits : (v' : List ℤ) → lengths_fit x (length l) (length v') ≡ eqb (length v') x.variables
    unfolding lengths_fit
    still_fits v' = rw one_each

    -- and where the locations stay, those of its values
    pub still_new : (v' : List ℤ) → state_checked w x l v' ≡ values_checked w x v'
    still_new v' = go (eqb (length v') x.variables) refl
      where
        go : (a : Bool) → eqb (length v') x.variables ≡ a → state_checked w x l v' ≡ values_checked w x v'
        go false d = unfold state_checked values_checked in rw (still_fits v' ∙ d, state_checked, d, values_checked)
        go true d = unfold state_checked values_checked in rw (still_fits v' ∙ d, state_checked, d, values_checked, known.located, state_checked)

    pub still_passes : (v' : List ℤ) → values_checked w x v' ≡ Ok tt → Known w x l v'
    still_passes v' h = known_passes l v' (still_new v' ∙ h)
