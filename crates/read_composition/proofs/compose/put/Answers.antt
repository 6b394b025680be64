-- `read_composition::compose::put` meets its contract: each way out is a law of ComposeLaws.
use Rattle.read_composition.proofs.ComposeLaws.{put_laws}
use borrow.Author.Rules.{rules}
use Rattle.read_composition.proofs.compose.put.Goals as goal

pub returns-then-nodes-ge-NODES : goal.returns-then-nodes-ge-NODES
returns-then-nodes-ge-NODES c = search (rules, put_laws)

pub overflow_add-out-in-Leaf : goal.overflow_add-out-in-Leaf
overflow_add-out-in-Leaf c = search (rules, put_laws)

pub returns-in-Par : goal.returns-in-Par
returns-in-Par c = search (rules, put_laws)

pub returns-in-Syn : goal.returns-in-Syn
returns-in-Syn c = search (rules, put_laws)

pub returns-in-Set : goal.returns-in-Set
returns-in-Set c = search (rules, put_laws)

pub returns-in-Ini : goal.returns-in-Ini
returns-in-Ini c = search (rules, put_laws)

pub returns-in-Leaf : goal.returns-in-Leaf
returns-in-Leaf c = search (rules, put_laws)
