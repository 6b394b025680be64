use mathlib.Core.Path.{◌≡◌}
use borrow.Author.Rules.{rules}
use lib.ListN.{get_or}
use Rattle.text_numbers.proofs.NumberLaws.{integer_laws, integer_plain, no_start}
use Rattle.text_numbers.proofs.number.integer.Goals as goal
use Rattle.text_numbers.proofs.number.integer.Goals.{in_default-via-then-s-lt1, in_default-via-else-s-lt1+in_default-1}

pub returns-in_err-natural-2 : goal.returns-in_err-natural-2
returns-in_err-natural-2 c =
    elim c.in_default.branch [
      | in_default-via-then-s-lt1 w ↦ search (rules, integer_laws, no_start)
      | in_default-via-else-s-lt1+in_default-1 w ↦ search (rules, integer_laws)
    ]

pub returns-in_ok-natural-2 : goal.returns-in_ok-natural-2
returns-in_ok-natural-2 c = let f = c.ranges in
    let k : get_or c.args.s.now 0 0 ≡ 45 → ⊥ =
    elim c.in_default.branch [
      | in_default-via-then-s-lt1 w ↦ search (rules, no_start)
      | in_default-via-else-s-lt1+in_default-1 w ↦ search rules
    ] in
    integer_plain _ _ _ k _ _ c.in_ok-natural-2.ensures f.low f.high c.plain.ensures
