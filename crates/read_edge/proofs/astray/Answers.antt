-- `astray` meets its contract: each way out is a law of EdgeLaws.
use Rattle.read_edge.proofs.EdgeLaws.{astray_by}
use borrow.Author.Rules.{rules}
use Rattle.read_edge.proofs.astray.Goals as goal

pub returns : goal.returns
returns c = search (rules, astray_by)
