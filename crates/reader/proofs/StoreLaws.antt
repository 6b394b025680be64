-- Each way out of the code of src/store.rt.
use Prim.Native.Nat.{ℕ, ◌≤◌, ◌<◌}
use mathlib.Core.Path.{◌≡◌, ◌∙◌, ap}
use mathlib.Core.List.{List, ◌++◌}
use borrow.Author.Tests.{le-leb, lt-leb}
use lib.ListN.{length, drop}
use Rattle.reader.specs.Read.{stored}

module _ (words old : List ℕ) where
  pub store_short : length old < length words → old ≡ stored words old
  unfolding stored
  store_short h = rw (lt-leb (length words) (length old) h, stored)

  pub store_all : length words ≤ length old → (first : List ℕ) → first ≡ words → first ++ drop (length words) old ≡ stored words old
  unfolding stored
  store_all h first e = ap (λ (l : List ℕ). l ++ drop (length words) old) e ∙ rw (le-leb (length words) (length old) h, stored)
