-- Each way out of the code of src/lib.rt.
use Prim.Native.Nat.{ℕ}
use mathlib.Core.Path.{◌≡◌, sym, ◌∙◌, ap}
use mathlib.Core.Bool.{Bool, true, false, not}
use mathlib.Core.Option.{none}
use borrow.Author.Tests.{eq-eqb, ne_eqb}
use lib.Dec.{eqb}
use Rattle.model.specs.Limits.{broken}
use Rattle.model.proofs.Decode.{is_broken, not_broken}
use Rattle.format.specs.Bytes.{Bytes}
use Rattle.format.specs.Rows.{list_items}
use Rattle.read_form.specs.Form.{value_after, misformed}
use Rattle.table_writes.specs.Sets.{all_variables}
use Rattle.read_list.specs.declared.Asked.{Asked}
use Rattle.read_list.specs.declared.Listed.{Listed}
use Rattle.read_list.specs.Items.{items_of}
use Rattle.std.specs.Prelude.{Some, None, Result, Ok, Err}
use Rattle.std.specs.Prelude as Std
use Rattle.std.specs.Option.{ok_or}
use Rattle.read_form.proofs.Outcomes.{lacking, present}
use Rattle.model.specs.declared.Row.{Row}
use Rattle.model.specs.Row.{row}
use Rattle.read_form.specs.Outcome.{answered}
use Rattle.read_writes_line.specs.Writes.{writes_name, asked_of, list_row, writes_row, told}

-- `asked`
pub asked_is : (variables all : ℕ) → all ≡ all_variables → ◌≡◌ {A = Asked} (record { most = 47; least = 0; below = variables; all = all }) (asked_of variables)
unfolding asked_of
asked_is variables all e = rw e

pub ruleset asked_laws = (asked_is)

-- `judged`
module _ (o : Std.Option Listed) (rest : ℕ) where
  pub list_unsound : (w : Row) → Err w ≡ ok_or o (row 3) → Err w ≡ told (list_row o rest)
  unfolding list_row told answered
  list_unsound w e =
      let q = lacking o 3 w e in
      rw (q.0, q.1)

  module _ (l : Listed) (e : Ok l ≡ ok_or o (row 3)) where
    is_sound : o ≡ Some l
    is_sound = present o 3 l e

    pub list_falls : not l.rising ≡ true → Err (row 5) ≡ told (list_row o rest)
    unfolding list_row told answered
    list_falls b = rw is_sound (sym (ap told (is_broken 5 _ _ b)))

    module _ (b : not l.rising ≡ false) where
      pub list_outside : l.outside ≡ true → Err (row 7) ≡ told (list_row o rest)
      unfolding list_row told answered
      list_outside c = rw is_sound (sym (ap told (not_broken 5 _ _ b ∙ is_broken 7 _ _ c)))

      module _ (c : l.outside ≡ false) where
        rows : list_row o rest ≡ broken 44 (not (eqb l.rest rest)) none
        unfolding list_row
        rows = rw is_sound (not_broken 5 _ _ b ∙ not_broken 7 _ _ c)

        pub list_other : (l.rest ≡ rest → ⊥) → Err (row 44) ≡ told (list_row o rest)
        unfolding told answered
        list_other d = sym (ap told (rows ∙ is_broken 44 _ _ (ap not (ne_eqb l.rest rest d))))

        pub list_same : l.rest ≡ rest → Ok tt ≡ told (list_row o rest)
        unfolding told answered
        list_same d = sym (ap told (rows ∙ not_broken 44 _ none (ap not (eq-eqb l.rest rest d))))

pub ruleset judged_laws = (list_unsound, list_falls, list_outside, list_other, list_same)

-- `read`
module _ (s : Bytes) (ended : Bool) (variables rest : ℕ) (p : Bool) (hp : p ≡ misformed writes_name 0 s ended) where
  pub read_misformed : p ≡ true → Err (row 2) ≡ told (writes_row s ended variables rest)
  unfolding writes_row told answered
  read_misformed h = sym (ap told (is_broken 2 _ _ (sym hp ∙ h)))

  pub read_list : p ≡ false → (q : Asked) → q ≡ asked_of variables → (v : Bytes) → v ≡ value_after writes_name s → (l : Std.Option Listed) → l ≡ items_of q (list_items v) → (r : Result (Unit {0}) Row) → r ≡ told (list_row l rest)
      → r ≡ told (writes_row s ended variables rest)
  unfolding writes_row
  read_list h q hq v hv l hl r hr =
      hr ∙ ap (λ (x : Std.Option Listed). told (list_row x rest)) (hl ∙ rw (hq, hv)) ∙
      sym (ap told (not_broken 2 _ _ (sym hp ∙ h)))

pub ruleset read_laws = (read_misformed, read_list)
