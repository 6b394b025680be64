-- The points of a run: what comes before and after each, and that the run stands at a state there.
use Prim.Native.Nat.{suc}
use mathlib.Core.Path.{◌≡◌, refl, sym, ap, ◌∙◌}
use mathlib.Core.List.{List, [], ◌∷◌, ◌++◌}
use lib.ListN.{length, get_or}
use lib.Seq.{get_or_at}
use Rattle.model.specs.Model.{Model}
use Rattle.model.specs.Rules.{State}
use Rattle.model.specs.Judge.{Answer}
use Rattle.model.specs.Runs.{IsState, Proposal, proposed, Judge, model_judge, goes, and_then, run}
use Rattle.theorem_runs.proofs.Answers.{answer_state}

module _ (judge : Judge) where
  -- a run over a joined list is a run over the first part, and from where it ends one over the second
  pub run_end : (before after : List Proposal) (s : State) → (run judge s (before ++ after)).end ≡ (run judge (run judge s before).end after).end
  unfolding run and_then
  run_end [] after s = refl
  run_end (p ∷ before) after s = run_end before after (goes (judge s p) s (proposed s p))

  pub run_answers : (before after : List Proposal) (s : State)
      → (run judge s (before ++ after)).answers ≡ (run judge s before).answers ++ (run judge (run judge s before).end after).answers
  unfolding run and_then
  run_answers [] after s = refl
  run_answers (p ∷ before) after s = ap (λ (l : List Answer). judge s p ∷ l) (run_answers before after (goes (judge s p) s (proposed s p)))

  -- one answer for each proposal
  pub run_length : (ps : List Proposal) (s : State) → length (run judge s ps).answers ≡ length ps
  unfolding run and_then
  run_length [] s = refl
  run_length (p ∷ ps) s = ap suc (run_length ps (goes (judge s p) s (proposed s p)))

  -- the answer to a proposal of the list is the judge's, where the run stands then
  pub answer_at : (before : List Proposal) (p : Proposal) (after : List Proposal) (s : State) (default : Answer)
      → get_or (run judge s (before ++ p ∷ after)).answers (length before) default ≡ judge (run judge s before).end p
  unfolding run and_then
  answer_at before p after s default =
      ap (λ (l : List Answer). get_or l (length before) default) (run_answers before (p ∷ after) s)
      ∙ get_or_at (run judge s before).answers _ _ default (length before) (run_length before s)

  -- so what stands in its place in the run's list of answers is that
  pub answer_is : (before : List Proposal) (p : Proposal) (after : List Proposal) (s : State) (given : List Answer) (x : Answer) (later : List Answer)
      → (run judge s (before ++ p ∷ after)).answers ≡ given ++ x ∷ later → length given ≡ length before
      → judge (run judge s before).end p ≡ x
  answer_is before p after s given x later e l =
      sym (answer_at before p after s x) ∙ ap (λ (xs : List Answer). get_or xs (length before) x) e ∙ get_or_at given x later x (length before) l

-- along a run a state stays a state
pub run_state : (m : Model) (ps : List Proposal) (s : State) → IsState m s → IsState m (run (model_judge m) s ps).end
unfolding run and_then
run_state m [] s g = g
run_state m (p ∷ ps) s g = run_state m ps (goes (model_judge m s p) s (proposed s p)) (answer_state m s p g)
