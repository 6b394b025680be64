-- `ranging` meets its contract.
use borrow.Author.Rules.{rules}
use Rattle.read_number_line.proofs.NumberLaws.{ranging_laws}
use Rattle.read_number_line.proofs.number.ranging.Goals as goal

pub returns : goal.returns
returns c = search (rules, ranging_laws, c.in_ok-low.was)
