-- Rows in their order, and what is answered and left by the row that is broken.
use Prim.Native.Nat.{ℕ}
use mathlib.Core.Path.{◌≡◌, refl, ◌∙◌, ap}
use mathlib.Core.Bool.{Bool, true, false}
use mathlib.Core.List.{List}
use mathlib.Core.Option.{Option, none, some}
use native.Mathlib.Omega.{arith}
use lib.ListN.{length}
use Rattle.model.specs.Limits.{broken}
use Rattle.std.specs.Prelude as P
use Rattle.std.specs.Prelude.{Some, None, Ok, Err}
use Rattle.std.specs.Option.{ok_or}
use Rattle.model.specs.declared.Row as Declared
use Rattle.model.specs.Row as Row
use Rattle.read_form.specs.Outcome.{then_row, answered, written}

-- two rows with the same test, where the later ones need be the same only if it does not hold
pub same_row : (row : ℕ) (b d : Bool) (x y : Option ℕ) → b ≡ d → (d ≡ false → x ≡ y) → broken row b x ≡ broken row d y
unfolding broken
same_row row b d x y e h = ap (λ (v : Bool). broken row v x) e ∙ go d h
  where
    go : (v : Bool) → (v ≡ false → x ≡ y) → broken row v x ≡ broken row v y
    go true g = refl
    go false g = g refl

-- rows after others
pub then_broken : (row : ℕ) (b : Bool) (x rest : Option ℕ) → then_row (broken row b x) rest ≡ broken row b (then_row x rest)
unfolding then_row broken
then_broken row true x rest = refl
then_broken row false x rest = refl

pub then_none : (rest : Option ℕ) → then_row none rest ≡ rest
unfolding then_row
then_none rest = refl

pub first_none : (x rest : Option ℕ) → then_row x rest ≡ none → x ≡ none
unfolding then_row
first_none none rest e = refl
first_none (some row) rest e = absurd (let q : ◌≡◌ {A = ℕ} 0 1 = cc in omega arith)

-- the answer, and the buffer then
module _ (o : Option ℕ) where
  pub answered_fault : {A : Type 0} (row : ℕ) (x : A) → o ≡ some row → answered o x ≡ Err (Row.row row)
  unfolding answered
  answered_fault row x h = ap (λ (y : Option ℕ). answered y x) h

  pub answered_sound : {A : Type 0} (x : A) → o ≡ none → answered o x ≡ Ok x
  unfolding answered
  answered_sound x h = ap (λ (y : Option ℕ). answered y x) h

  pub written_fault : (row : ℕ) (new old : List ℕ) → o ≡ some row → written o new old ≡ old
  unfolding written
  written_fault row new old h = ap (λ (y : Option ℕ). written y new old) h

  pub written_sound : (new old : List ℕ) → o ≡ none → written o new old ≡ new
  unfolding written
  written_sound new old h = ap (λ (y : Option ℕ). written y new old) h

-- the buffer keeps its length
pub written_long : (o : Option ℕ) (new old : List ℕ) → length new ≡ length old → length (written o new old) ≡ length old
unfolding written
written_long none new old h = h
written_long (some row) new old h = refl

-- what `ok_or` says of a value that may be lacking
module _ {A : Type 0} (o : P.Option A) (n : ℕ) where
  pub lacking : (w : Declared.Row) → Err w ≡ ok_or o (Row.row n) → (o ≡ None) × (w ≡ Row.row n)
  lacking w e = go o e
    where
      go : (p : P.Option A) → Err w ≡ ok_or p (Row.row n) → (p ≡ None) × (w ≡ Row.row n)
      go None k = (refl, cc)
      go (Some x) k = absurd (let q : ◌≡◌ {A = ℕ} 0 1 = cc in omega arith)

  pub present : (x : A) → Ok x ≡ ok_or o (Row.row n) → o ≡ Some x
  present x e = go o e
    where
      go : (p : P.Option A) → Ok x ≡ ok_or p (Row.row n) → p ≡ Some x
      go None k = absurd (let q : ◌≡◌ {A = ℕ} 0 1 = cc in omega arith)
      go (Some y) k =
          let q : y ≡ x = cc in
          ap Some q
