-- `table_line::one_line::edge` meets its contract: the last of its ways out where it has no line.
use borrow.Author.Rules.{rules}
use Rattle.table_line.proofs.CodeLaws.{edge_foreign}
use Rattle.table_line.proofs.one_line.edge.Goals as goal

pub returns-then-not-owns : goal.returns-then-not-owns
returns-then-not-owns c =
    let was = c.in_ok-line.was in
    search (rules, edge_foreign)
