-- `composed` meets its contract.
use borrow.Author.Rules.{rules}
use Rattle.read_composition_line.proofs.CompositionLaws.{composed_laws}
use Rattle.read_composition_line.proofs.tree.composed.Goals as goal

pub returns-clause-words_after : goal.returns-clause-words_after
returns-clause-words_after c = search (rules, composed_laws, c.in_ok-trees.ensures)
