-- `read_composition::compose::read` meets its contract: the definition goes on from the place `at` with the walk and the memory so far.
-- The measure is what is left of the text.
use Rattle.read_composition.proofs.ComposeLaws.{read_laws}
use Rattle.text_bytes.proofs.Parting.{turn_laws}
use borrow.Author.Rules.{rules}
use Rattle.read_composition.proofs.compose.read.Goals as goal

pub loop-at-init : goal.loop-at-init
loop-at-init c = search (rules, read_laws)

pub slice_bounds-kind_of-count : goal.slice_bounds-kind_of-count
slice_bounds-kind_of-count c = search (rules, turn_laws)

pub slice_bounds-kind_of-start : goal.slice_bounds-kind_of-start
slice_bounds-kind_of-start c = search (rules, turn_laws)

pub slice_bounds-kind_of-end : goal.slice_bounds-kind_of-end
slice_bounds-kind_of-end c = search (rules, turn_laws)

pub returns-then-w-is_stray : goal.returns-then-w-is_stray
returns-then-w-is_stray c = search (rules, read_laws)

pub put-next-requires : goal.put-next-requires
put-next-requires c = search (rules, read_laws)

pub step-w-requires : goal.step-w-requires
step-w-requires c = (search (rules, read_laws), search rules, search rules, search rules)

pub loop-at-smaller : goal.loop-at-smaller
loop-at-smaller c = search (rules, read_laws)

pub loop-at-preserved : goal.loop-at-preserved
loop-at-preserved c = search (rules, read_laws)

pub returns : goal.returns
returns c = search (rules, read_laws)
