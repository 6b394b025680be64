-- `judge_runs::all` meets its contract: the run goes on to the same end.
use Rattle.judge_runs.specs.RunWords.{go_on}
use Rattle.judge_runs.proofs.RunCodeLaws.{Going}
use Rattle.judge_runs.proofs.all.Given as goal

abbrev pub invariant-loop-k : goal.invariant-loop-k
invariant-loop-k l =
    let w = l.sheet.words.now in
    let x = l.sheet.layout in
    let actions = l.proposals.actions.now in
    Going w x l.own l.n l.v actions (go_on w x l.own l.n l.v l.initial.s l.initial.answers 0 actions l.proposals.locations.now l.proposals.values.now)
    l.answers l.s l.all_locations l.all_values l.k
