use borrow.Author.Rules.{rules}
use Rattle.text_numbers.proofs.NumberLaws.{natural_laws}
use Rattle.text_numbers.proofs.number.natural.Goals as goal
use Rattle.text_numbers.proofs.number.natural.Goals.{in_default-via-then-s-lt2+in_default-1, in_default-via-else-s-lt2+in_default-1}

pub returns-in_default : goal.returns-in_default
returns-in_default c =
    elim c.in_default.branch [
      | in_default-via-then-s-lt2+in_default-1 w ↦ search (rules, natural_laws)
      | in_default-via-else-s-lt2+in_default-1 w ↦ search (rules, natural_laws)
    ]
