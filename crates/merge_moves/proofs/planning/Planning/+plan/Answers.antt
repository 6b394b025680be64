-- `merge_moves::planning::Planning::plan` calls itself, and meets its contract. The ways out that the check does not find
-- alone are two laws of PlanLaws each, of the answer and of the cells.
use Rattle.merge_moves.proofs.PlanLaws.{plan_laws, fill_laws, plan_par, fill_par}
use borrow.Author.Rules.{rules}
use Rattle.merge_moves.proofs.planning.Planning.+plan.Goals as goal

pub returns-in-Par : goal.returns-in-Par
returns-in-Par t c = record {
  answer =
      plan_par _ _ _ _ 0 _ _ c.if-left-eq0.false _ c.in-Par.ensures _ _
      (search rules) _ _ c.plan-c.ensures.answer c.plan-d.ensures.answer _ c.par_plan.ensures c.store.ensures.0;
  cells =
      fill_par _ _ _ _ _ _ _ c.if-left-eq0.false _ c.in-Par.ensures _ _ _
      (search rules) _ _ c.plan-c.ensures.answer _ c.plan-c.ensures.cells c.plan-d.ensures.answer _
      c.plan-d.ensures.cells _ c.par_plan.ensures c.store.ensures.1;
}

pub returns-in-Syn : goal.returns-in-Syn
returns-in-Syn t c = record { answer = search (rules, plan_laws); cells = search (rules, fill_laws) }

pub returns-in-Leaf : goal.returns-in-Leaf
returns-in-Leaf t c = record { answer = search (rules, plan_laws); cells = search (rules, fill_laws) }
