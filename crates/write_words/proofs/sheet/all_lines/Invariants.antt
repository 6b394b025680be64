-- With the lines from each round on it comes to the whole text.
use Prim.Native.Nat.{◌-◌}
use lib.ListN.{drop}
use Rattle.write_words.specs.Text.{lines_from, sheet_text}
use Rattle.write_words.proofs.SheetLaws.{Going, rounds}
use Rattle.write_words.proofs.sheet.all_lines.Given as goal

abbrev pub invariant-loop : goal.invariant-loop
invariant-loop l =
    Going (lines_from (rounds - l.counter) l.due (drop l.at l.table)) (sheet_text l.table) l.initial.out l.out
