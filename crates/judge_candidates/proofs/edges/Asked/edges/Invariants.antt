-- `judge_candidates::edges::Asked::edges` meets its contract: the edges that are left give the rest of the answer.
use Rattle.std.proofs.Common.{◌≡◌, ◌-◌}
use Rattle.judge_candidates.specs.Walk.{walk, edges_from}
use Rattle.judge_candidates.proofs.edges.Asked.edges.Given as goal

abbrev pub invariant-loop : goal.invariant-loop
invariant-loop l =
    edges_from l.self.words.now l.self.before.now l.self.after.now l.self.leg (l.number - l.counter) (walk l.masks l.reached.next l.reached.count) ≡
    edges_from l.self.words.now l.self.before.now l.self.after.now l.self.leg l.number (walk l.initial.masks l.at l.count)
