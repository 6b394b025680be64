-- `read_with` meets its contract: the key that is due decides.
use Rattle.format.specs.Spelling.{spelling}
use Rattle.read_line.specs.Line.{line_with, line_with_after}
use Rattle.read_line.proofs.DispatchLaws.{dispatch_laws}
use borrow.Author.Rules.{rules}
use Rattle.read_line.proofs.read_with.Goals as goal

pub returns-in-Format : goal.returns-in-Format
unfolding line_with line_with_after spelling
returns-in-Format c = search (rules, dispatch_laws)

pub returns-in-Actions : goal.returns-in-Actions
unfolding line_with line_with_after spelling
returns-in-Actions c = search (rules, dispatch_laws)

pub returns-in-Variables : goal.returns-in-Variables
unfolding line_with line_with_after spelling
returns-in-Variables c = search (rules, dispatch_laws)

pub returns-in-Variable : goal.returns-in-Variable
unfolding line_with line_with_after
returns-in-Variable c = search (rules, dispatch_laws)

pub returns-in-Automata : goal.returns-in-Automata
unfolding line_with line_with_after
returns-in-Automata c = search (rules, dispatch_laws)

pub returns-in-Sync : goal.returns-in-Sync
unfolding line_with line_with_after
returns-in-Sync c = search (rules, dispatch_laws)

pub returns-in-Locations : goal.returns-in-Locations
unfolding line_with line_with_after spelling
returns-in-Locations c = search (rules, dispatch_laws)

pub returns-in-Init : goal.returns-in-Init
unfolding line_with line_with_after spelling
returns-in-Init c = search (rules, dispatch_laws)

pub returns-in-Inv : goal.returns-in-Inv
unfolding line_with line_with_after spelling
returns-in-Inv c = search (rules, dispatch_laws)

pub returns-in-Edges : goal.returns-in-Edges
unfolding line_with line_with_after
returns-in-Edges c = search (rules, dispatch_laws)

pub returns-in-Edge : goal.returns-in-Edge
unfolding line_with line_with_after
returns-in-Edge c = search (rules, dispatch_laws)

pub returns-in-Compose : goal.returns-in-Compose
unfolding line_with line_with_after
returns-in-Compose c = search (rules, dispatch_laws)

pub returns-in-End : goal.returns-in-End
unfolding line_with line_with_after
returns-in-End c = search (rules, dispatch_laws)
