-- "Runs", over tables: a composition's table and its merged automaton's answer a whole list of proposals alike.
use Prim.Native.Nat.{ℕ}
use mathlib.Core.Path.{◌≡◌, fun_ext, sym, subst₂}
use mathlib.Core.Bool.{true}
use mathlib.Core.List.{List, ◌++◌}
use mathlib.Core.Option.{none}
use Rattle.model.specs.Model.{Model}
use Rattle.model.specs.Limits.{limits}
use Rattle.model.specs.Table.{table_of}
use Rattle.model.specs.Rules.{State}
use Rattle.model.specs.Linear.{linear, merge_fault}
use Rattle.model.specs.Runs.{IsState, Proposal, Judge, model_judge, table_judge, RunsAlike}
use Rattle.model.proofs.LimitsLaws.{lawful_is}
use Rattle.model.proofs.TableJudge.{table_judge_is}
use Rattle.model.proofs.Alike.{runs_alike}
use Rattle.model.proofs.LinearLimits.{linear_limited}

-- a model's table judges as the model does
judges_same : (m : Model) → limits m ≡ true → (rest : List ℕ) → model_judge m ≡ table_judge (table_of m ++ rest)
judges_same m limited rest = fun_ext λ s. fun_ext λ p. sym (table_judge_is m limited rest s p)

-- two tables, whatever follows them: the answers are alike, and the merged run ends beside the composition's
pub runs_alike_tables : (m : Model) → limits m ≡ true → merge_fault m ≡ none → (rest rest' : List ℕ) (ps : List Proposal) (s : State) → IsState m s
    → RunsAlike m (table_judge (table_of m ++ rest)) (table_judge (table_of (linear m) ++ rest')) s ps
runs_alike_tables m limited unrefused rest rest' ps s g =
    subst₂ (λ (j k : Judge). RunsAlike m j k s ps) (judges_same m limited rest) (judges_same (linear m) (linear_limited m limited unrefused) rest')
    (runs_alike m ((lawful_is m).0 limited) ps s g)
