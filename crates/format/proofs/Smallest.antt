-- Rows that are tried in rising order: the first whose condition holds is the smallest.
use Prim.Native.Nat.{ℕ, ◌<◌}
use mathlib.Core.Path.{◌≡◌, refl, sym, ap, ◌∙◌}
use mathlib.Core.Bool.{Bool, true, false, ◌&&◌, true≢false}
use mathlib.Core.List.Memᴰ
use mathlib.Core.List.{List, [], ◌∷◌, Memᴰ}
use mathlib.Core.Option.{Option, none, some}
use mathlib.Core.Logic.{◌↔◌, ◌⊎◌, inl, inr}
use native.Mathlib.Omega.{arith}
use lib.Dec.{ltb}
use Rattle.model.specs.Limits.{broken}
use Rattle.model.specs.Lines.{Key, Reading}
use Rattle.model.proofs.Tests.{and_left, and_right, lt_of}
use Rattle.model.proofs.Parsing.{none_some, got}
use Rattle.format.specs.Rows.{Line, fault}
use Rattle.format.specs.Refused.{Conditions, Unbroken, Smallest, line_rows, owner_rows, writes_rows}
use Rattle.format.specs.Writes.{writes_fault}
use Rattle.format.specs.Owners.{owner_fault}

-- the first row whose condition holds, in the order of the list
unfoldable pub first_of : Conditions → Option ℕ
first_of [] = none
first_of (c ∷ cs) = broken c.0 c.1 (first_of cs)

-- the numbers rise, from above n
unfoldable pub rises_from : ℕ → Conditions → Bool
rises_from n [] = true
rises_from n (c ∷ cs) = ltb n c.0 && rises_from c.0 cs

above : (cs : Conditions) (n : ℕ) → rises_from n cs ≡ true → (row : ℕ) (b : Bool) → Memᴰ (row, b) cs → n < row
unfolding rises_from
above [] n h row b i = absurd (Memᴰ.not-nil i)
above (c ∷ cs) n h row b i = go (λ j. above cs c.0 (and_right (ltb n c.0) _ h) row b j) (Memᴰ.cases_cons i)
  where
    low : n < c.0
    low = lt_of n c.0 (and_left (ltb n c.0) _ h)

    go : (Memᴰ (row, b) cs → c.0 < row) → ((row, b) ≡ c) ⊎ Memᴰ (row, b) cs → n < row
    go ih (inl e) = let q : row ≡ c.0 = ap (λ (x : ℕ × Bool). x.0) e in omega (arith, low)
    go ih (inr j) = let l = ih j in omega (arith, low)

-- a row whose condition holds stands further on, if the first one's does not
further : (number : ℕ) (cs : Conditions) (row : ℕ) → Memᴰ (row, true) ((number, false) ∷ cs) → Memᴰ (row, true) cs
further number cs row i = go (Memᴰ.cases_cons i)
  where
    go : (◌≡◌ {A = ℕ × Bool} (row, true) (number, false)) ⊎ Memᴰ (row, true) cs → Memᴰ (row, true) cs
    go (inl e) = absurd (true≢false (ap (λ (x : ℕ × Bool). x.1) e))
    go (inr j) = j

-- none is the first exactly when no condition holds
none_unbroken : (cs : Conditions) → first_of cs ≡ none → Unbroken cs
unfolding first_of broken
none_unbroken [] h = record { none_holds = λ row i. Memᴰ.not-nil i }
none_unbroken ((number, true) ∷ cs) h = absurd (none_some number (sym h))
none_unbroken ((number, false) ∷ cs) h = record { none_holds = λ row i. (none_unbroken cs h).none_holds row (further number cs row i) }

unbroken_none : (cs : Conditions) → Unbroken cs → first_of cs ≡ none
unfolding first_of broken
unbroken_none [] u = refl
unbroken_none ((number, true) ∷ cs) u = absurd (u.none_holds number (Memᴰ.head refl))
unbroken_none ((number, false) ∷ cs) u = unbroken_none cs (record { none_holds = λ row i. u.none_holds row (Memᴰ.tail i) })

pub first_unbroken : (cs : Conditions) → (first_of cs ≡ none) ↔ Unbroken cs
first_unbroken cs = (none_unbroken cs, unbroken_none cs)

-- and a row is the first exactly when it is the smallest
some_smallest : (cs : Conditions) (n : ℕ) → rises_from n cs ≡ true → (row : ℕ) → first_of cs ≡ some row → Smallest cs row
unfolding first_of broken rises_from
some_smallest [] n r row h = absurd (none_some row h)
some_smallest ((number, true) ∷ cs) n r row h =
    let e : number ≡ row = got number row h in
    record {
      holds = Memᴰ.head (ap (λ (x : ℕ). (x, true)) (sym e));
      none_smaller = λ other l i. go other l (Memᴰ.cases_cons i);
    }
  where
    go : (other : ℕ) → other < row → (◌≡◌ {A = ℕ × Bool} (other, true) (number, true)) ⊎ Memᴰ (other, true) cs → ⊥
    go other l (inl e) =
        let q : other ≡ number = ap (λ (x : ℕ × Bool). x.0) e in
        let s : number ≡ row = got number row h in
        omega arith
    go other l (inr j) =
        let q = above cs number (and_right (ltb n number) _ r) other true j in
        let s : number ≡ row = got number row h in
        omega arith
some_smallest ((number, false) ∷ cs) n r row h =
    let s = some_smallest cs number (and_right (ltb n number) _ r) row h in
    record { holds = Memᴰ.tail s.holds; none_smaller = λ other l i. s.none_smaller other l (further number cs other i) }

smallest_some : (cs : Conditions) (n : ℕ) → rises_from n cs ≡ true → (row : ℕ) → Smallest cs row → first_of cs ≡ some row
unfolding first_of broken rises_from
smallest_some [] n r row s = absurd (Memᴰ.not-nil s.holds)
smallest_some ((number, true) ∷ cs) n r row s = ap some (go (Memᴰ.cases_cons s.holds))
  where
    go : (◌≡◌ {A = ℕ × Bool} (row, true) (number, true)) ⊎ Memᴰ (row, true) cs → number ≡ row
    go (inl e) = sym (ap (λ (x : ℕ × Bool). x.0) e)
    go (inr j) = absurd (s.none_smaller number (above cs number (and_right (ltb n number) _ r) row true j) (Memᴰ.head refl))
smallest_some ((number, false) ∷ cs) n r row s =
    smallest_some cs number (and_right (ltb n number) _ r) row
    (record { holds = further number cs row s.holds; none_smaller = λ other l i. s.none_smaller other l (Memᴰ.tail i) })

pub first_smallest : (cs : Conditions) → rises_from 0 cs ≡ true → (row : ℕ) → (first_of cs ≡ some row) ↔ Smallest cs row
first_smallest cs r row = (some_smallest cs 0 r row, smallest_some cs 0 r row)

-- rows that are tried one after the other, from small to great numbers: what is answered is the smallest whose condition
-- holds, and none where none holds
module _ (o : Option ℕ) (cs : Conditions) (tried : o ≡ first_of cs) (rise : rises_from 0 cs ≡ true) where
  tried_smallest : (row : ℕ) → (o ≡ some row) ↔ Smallest cs row
  tried_smallest row =
      let e = first_smallest cs rise row in
      (λ h. e.0 (sym tried ∙ h), λ s. tried ∙ e.1 s)

  tried_none : (o ≡ none) ↔ Unbroken cs
  tried_none =
      let e = first_unbroken cs in
      (λ h. e.0 (sym tried ∙ h), λ u. tried ∙ e.1 u)

-- so the rows of a line
module _ (r : Reading) (k : Key) (l : Line) where
  pub fault_smallest : (row : ℕ) → (fault r k l ≡ some row) ↔ Smallest (line_rows r k l) row
  unfolding fault line_rows first_of rises_from
  fault_smallest row = tried_smallest (fault r k l) (line_rows r k l) refl refl row

  pub fault_none : (fault r k l ≡ none) ↔ Unbroken (line_rows r k l)
  unfolding fault line_rows first_of rises_from
  fault_none = tried_none (fault r k l) (line_rows r k l) refl refl

-- and those of a list behind an edge
module _ (r : Reading) (due : List ℕ) (l : Line) where
  pub writes_smallest : (row : ℕ) → (writes_fault r due l ≡ some row) ↔ Smallest (writes_rows r due l) row
  unfolding writes_fault writes_rows first_of rises_from
  writes_smallest row = tried_smallest (writes_fault r due l) (writes_rows r due l) refl refl row

  pub writes_none : (writes_fault r due l ≡ none) ↔ Unbroken (writes_rows r due l)
  unfolding writes_fault writes_rows first_of rises_from
  writes_none = tried_none (writes_fault r due l) (writes_rows r due l) refl refl

-- and those of an owner behind a variable
module _ (l : Line) where
  pub owner_smallest : (row : ℕ) → (owner_fault l ≡ some row) ↔ Smallest (owner_rows l) row
  unfolding owner_fault owner_rows first_of rises_from
  owner_smallest row = tried_smallest (owner_fault l) (owner_rows l) refl refl row

  pub owner_none : (owner_fault l ≡ none) ↔ Unbroken (owner_rows l)
  unfolding owner_fault owner_rows first_of rises_from
  owner_none = tried_none (owner_fault l) (owner_rows l) refl refl
