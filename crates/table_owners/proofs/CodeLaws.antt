-- Each way out of the functions of table_owners.
use Prim.Native.Nat.{ℕ, zero, suc, ◌+◌, ◌*◌, ◌-◌, ◌/◌, ◌≤◌, ◌<◌}
use mathlib.Core.Path.{◌≡◌, refl, sym, ◌∙◌}
use mathlib.Core.Bool.{Bool, true, false, not, ◌&&◌, ◌||◌}
use mathlib.Core.List.{List}
use native.Mathlib.Omega.{arith}
use native.Mathlib.Numerals.{add-one}
use native.Mathlib.Nat.{sub-zero}
use lib.ListN.{length, get_or, get_or-eq_default}
use lib.Dec.{eqb, ltb}
use Rattle.model.specs.Basic.{exists, count_up}
use Rattle.model.specs.Table.{bit}
use Rattle.table_owners.specs.Owners.{owner_in, is_beyond_at, is_foreign_at}

-- past the last variable
pub owner_none : (ws : List ℕ) (k : ℕ) → length ws / 3 ≤ k → 0 ≡ owner_in ws k
unfolding owner_in
owner_none ws k h = let past : length ws ≤ 3 * k + 2 = omega arith in sym (get_or-eq_default ws 0 past)

-- one that is there
pub owner_there : (ws : List ℕ) (k r : ℕ) → r ≡ get_or ws (3 * k + 2) 0 → r ≡ owner_in ws k
unfolding owner_in
owner_there ws k r e = e

pub ruleset owner_laws = (owner_none, owner_there)

pub beyond_at : (ws : List ℕ) (n k w : ℕ) → w ≡ owner_in ws k → ltb n w ≡ is_beyond_at ws n k
unfolding is_beyond_at
beyond_at ws n k w e = rw e

pub foreign_at : (ws : List ℕ) (n rest k j w : ℕ) (b : Bool) → j ≡ k → w ≡ owner_in ws j → b ≡ bit rest k → (not b && not (not (eqb w 0) && eqb w n)) ≡ is_foreign_at ws n rest k
unfolding is_foreign_at
foreign_at ws n rest k j w b i e f = rw (e, f, i)

-- A search over the numbers below `total`: those from k on give the answer.
pub record Going (f : ℕ → Bool) (whole : Bool) (total k : ℕ) : Type 0 where
  pub rest : exists f (count_up k (total - k)) ≡ whole

pub going : (f : ℕ → Bool) (total : ℕ) → Going f (exists f (count_up 0 total)) total 0
going f total = record { rest = rw (sub-zero total) }

module _ (f : ℕ → Bool) (whole : Bool) (total k : ℕ) (g : Going f whole total k) where
  pub none_left : total ≤ k → false ≡ whole
  unfolding exists count_up
  none_left h = let z : total - k ≡ 0 = omega arith in rw z at g.rest

  module _ (h : k < total) (b : Bool) (e : b ≡ f k) where
    here : (f k || exists f (count_up (k + 1) (total - (k + 1)))) ≡ whole
    unfolding exists count_up
    here = let z : total - k ≡ suc (total - suc k) = omega arith in rw (add-one k) (rw z at g.rest)

    pub found_here : b ≡ true → true ≡ whole
    found_here t = rw (sym e ∙ t) at here

    pub go_on : b ≡ false → Going f whole total (k + 1)
    go_on t = record { rest = rw (sym e ∙ t) at here }

pub ruleset search_laws = (none_left, found_here, go_on)
