-- What the code answers are the rows of the line `owner=`, and the word of the owner that it says.
use Prim.Native.Nat.{ℕ, suc}
use mathlib.Core.Path.{◌≡◌, refl, ◌∙◌, ap}
use mathlib.Core.Bool.{Bool, true, false, not, ◌||◌}
use mathlib.Core.Option.{Option, none, some}
use lib.IntN.{pos}
use Rattle.model.specs.Basic.{same}
use Rattle.model.specs.Bounds.{last_automaton}
use Rattle.model.specs.Limits.{broken}
use Rattle.model.specs.Table.{owner_word}
use Rattle.format.specs.Bytes.{Bytes}
use Rattle.format.specs.Number.{within, natural_of}
use Rattle.format.specs.Owners.{is_none, owner_fault, owner_row2, owner_row3, owner_value, the_owner}
use Rattle.format.specs.Rows.{Line}
use Rattle.format.specs.Spelling.{none_word, owner_key}
use Rattle.read_form.specs.Form.{line_of, value_after, misparted, misformed}
use Rattle.std.specs.Prelude.{Result, Ok, Err}
use Rattle.model.specs.declared.Row.{Row}
use Rattle.model.specs.Row as Row
use Rattle.read_owner_line.specs.Owner.{owner_name, nobody, owner_in, owner_read}

-- the answer by the smallest row that is broken, if any
unfoldable told : Option ℕ → Option ℕ → Result ℕ Row
told none o = Ok (owner_word o)
told (some row) o = Err (Row.row row)

-- the three tests of the line in one order, here and there
by_tests : (two is_nobody inside : Bool) (n : ℕ)
    → elim two as (λ x. Result ℕ Row) [ true ↦ Err (Row.row 2) | false ↦ elim is_nobody as (λ x. Result ℕ Row) [ true ↦ Ok 0 | false ↦ elim inside as (λ x. Result ℕ Row) [ true ↦ Ok (suc n) | false ↦ Err (Row.row 3) ] ] ]
    ≡ told (broken 2 two (broken 3 (not (is_nobody || inside)) none)) (elim is_nobody as (λ x. Option ℕ) [ true ↦ none | false ↦ some n ])
unfolding told broken owner_word
by_tests true b c n = refl
by_tests false true c n = refl
by_tests false false true n = refl
by_tests false false false n = refl

module _ (s : Bytes) (ended : Bool) where
  abbrev line : Line
  line = line_of s ended

  owner_rows_lem : owner_read s ended ≡ told (owner_fault line) (the_owner line)
  unfolding owner_read owner_in owner_fault owner_row2 owner_row3 the_owner is_none owner_value owner_key none_word misformed misparted
  owner_rows_lem = by_tests (misformed owner_name 1 s ended) (same (value_after owner_name s) nobody) (within (pos 0) (pos last_automaton) (value_after owner_name s)) (natural_of (value_after owner_name s))

  pub owner_faulty : (row : ℕ) → owner_fault line ≡ some row → owner_read s ended ≡ Err (Row.row row)
  unfolding told
  owner_faulty row h = owner_rows_lem ∙ ap (λ (o : Option ℕ). told o (the_owner line)) h

  pub owner_told : owner_fault line ≡ none → owner_read s ended ≡ Ok (owner_word (the_owner line))
  unfolding told
  owner_told h = owner_rows_lem ∙ ap (λ (o : Option ℕ). told o (the_owner line)) h
