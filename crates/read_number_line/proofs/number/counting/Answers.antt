-- `counting` meets its contract.
use borrow.Author.Rules.{rules}
use Rattle.read_number_line.proofs.NumberLaws.{counting_laws}
use Rattle.read_number_line.proofs.number.counting.Goals as goal

pub returns : goal.returns
returns c = search (rules, counting_laws, c.in_ok-n.was)
