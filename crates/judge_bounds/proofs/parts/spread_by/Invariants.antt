use Rattle.judge_bounds.proofs.parts.spread_by.Given as goal

abbrev pub invariant-loop-i : goal.invariant-loop-i
invariant-loop-i l = Unit {0}
