-- `judge_candidates::edges::gather` meets its contract: k automata have been passed.
use Rattle.judge_candidates.specs.Walk.{kept, gathering, gather_from}
use Rattle.judge_candidates.proofs.WalkLaws.{Passing}
use Rattle.judge_candidates.proofs.edges.gather.Given as goal

abbrev pub invariant-loop-k : goal.invariant-loop-k
invariant-loop-k l =
    Passing l.words l.before l.after l.edges l.old l.new l.action
    (gather_from l.words l.before l.after l.edges l.old l.new l.action l.automata l.initial.masks l.initial.first) l.automata l.k
    (gathering (kept l.masks l.count) l.first)
