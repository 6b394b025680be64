-- Each way out of the code of src/.
use mathlib.Core.Path.{◌≡◌, sym}
use mathlib.Core.Bool.{Bool, true, ◌&&◌}
use mathlib.Core.List.{List, [], ◌∷◌, ◌++◌}
use Prim.Native.Nat.{ℕ, zero, suc, ◌*◌, ◌≤◌, ◌<◌}
use native.Mathlib.Omega.{arith}
use lib.IntN.{ℤ}
use lib.ListN.{length, take, drop}
use lib.Dec.{eqb, leb}
use borrow.Author.Tests.{le-leb, lt-leb, leb-true}
use Rattle.model.proofs.Tests.{and_left, and_right}
use Rattle.table_places.specs.declared.layout.Layout.{Layout}
use Rattle.table_places.specs.Layout.{automata_of, variables_of}
use Rattle.judge_lists.specs.Lists.{lists_fit, end_fits, in_front, placed}

-- `lengths_for`
pub lengths_for_is : (x : Layout) (count l v : ℕ) (p q : Bool) → p ≡ eqb l (x.automata * count) → q ≡ eqb v (x.variables * count) → (p && q) ≡ lists_fit x count l v
unfolding lists_fit
lengths_for_is x count l v p q h i = rw (h, i)

-- `end_fits`
pub end_fits_is : (x : Layout) (l v n k : ℕ) → n ≡ automata_of x → k ≡ variables_of x → (leb n l && leb k v) ≡ end_fits x l v
unfolding end_fits
end_fits_is x l v n k e f = rw (e, f)

-- what there is room for stands at the front
pub placed_fits : {A : Type 0} (new old : List A) → length new ≤ length old → placed new old ≡ in_front new old
unfolding placed
placed_fits new old h = rw (le-leb (length new) (length old) h, placed)

-- `put`
module _ {A : Type 0} (new old : List A) where
  pub put_there : length new ≤ length old → (front : List A) → front ≡ new → front ++ drop (length new) old ≡ placed new old
  unfolding in_front
  put_there h front e = rw e (sym (placed_fits new old h))

  pub not_put : length old < length new → old ≡ placed new old
  unfolding placed
  not_put h = rw (lt-leb (length new) (length old) h, placed)

-- `keep`: the items are those of the state
pub kept_locations : (x : Layout) (n : ℕ) (list old new : List ℕ) → n ≡ automata_of x → new ≡ placed (take n list) old
    → new ≡ placed (take (automata_of x) list) old
kept_locations x n list old new e f = rw (← e) f

pub kept_values : (x : Layout) (n : ℕ) (list old new : List ℤ) → n ≡ variables_of x → new ≡ placed (take n list) old
    → new ≡ placed (take (variables_of x) list) old
kept_values x n list old new e f = rw (← e) f

pub ruleset list_laws = (lengths_for_is, end_fits_is, put_there, not_put, kept_locations, kept_values)

few : {A : Type 0} (n : ℕ) (list : List A) (size : ℕ) → n ≤ size → length (take n list) ≤ size
few zero list size h = omega arith
few (suc n) [] size h = omega arith
few (suc n) (x ∷ list) zero h = absurd (omega arith)
few (suc n) (x ∷ list) (suc size) h = let rest = few n list size (omega arith) in omega arith

-- and where the memory has room for a state, they stand at its front
module _ (x : Layout) (l v : ℕ) (h : end_fits x l v ≡ true) where
  pub room_for_locations : (list old : List ℕ) → length old ≡ l → placed (take (automata_of x) list) old ≡ in_front (take (automata_of x) list) old
  unfolding end_fits
  room_for_locations list old e =
      let fits = leb-true (automata_of x) l (and_left (leb (automata_of x) l) _ h) in
      placed_fits (take (automata_of x) list) old (few (automata_of x) list (length old) (rw e fits))

  pub room_for_values : (list old : List ℤ) → length old ≡ v → placed (take (variables_of x) list) old ≡ in_front (take (variables_of x) list) old
  unfolding end_fits
  room_for_values list old e =
      let fits = leb-true (variables_of x) v (and_right (leb (automata_of x) l) _ h) in
      placed_fits (take (variables_of x) list) old (few (variables_of x) list (length old) (rw e fits))
