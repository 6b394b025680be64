-- The number of a run: the row that refuses a list of proposals is 18 to 23, so 100 more has 32 bits.
use Prim.Native.Nat.{ℕ}
use mathlib.Core.Path.{◌≡◌, refl}
use mathlib.Core.Bool.{Bool, true, false, cond}
use mathlib.Core.List.{List}
use mathlib.Core.Option.{Option, none, some}
use lib.IntN.{ℤ}
use lib.ListN.{length}
use lib.Dec.{ltb}
use Rattle.model.specs.Model.{Model}
use Rattle.model.specs.Rules as R
use Rattle.model.specs.Judge as J
use Rattle.model.specs.Runs.{Run, run, table_judge, phase_number}
use Rattle.model.specs.Table.{unopened, opened}
use Rattle.judge_rows.specs.Phases.{phase_is, phase_for}
use Rattle.judge.specs.RunAnswer.{RunAnswer, not_run, ran, proposals_of, is_uneven, lacks_end, run_from, run_answer, ran_of}
use Rattle.answer_numbers.specs.Told.{ran_number}
use Rattle.exports.specs.Numbers.{run_number}
use Rattle.exports.proofs.OpenCases.{open_cases}

pub record Rowed (a : RunAnswer) : Type 0 where
  pub same : ran_number (ran_of a) ≡ run_number a

-- the phase at the end
ended : (r : Run J.Answer) → Rowed (ran r)
unfolding ran_number run_number ran_of phase_is phase_for
ended r = record { same = back r.end.phase }
  where
    back : (p : R.Phase) → phase_number (phase_is (phase_for p)) ≡ phase_number p
    back R.start = refl
    back R.running = refl

rowed_cond : (b : Bool) {x y : RunAnswer} → Rowed x → Rowed y → Rowed (cond b x y)
rowed_cond true f g = f
rowed_cond false f g = g

module _ (t : List ℕ) (phase : ℕ) (l : List ℕ) (v : List ℤ) (actions ls : List ℕ) (vs : List ℤ) (answers ends endv : ℕ) where
  rowed_from : (m : Model) (s : R.State) → Rowed (run_from t m s actions ls vs answers ends endv)
  unfolding run_from ran_number run_number ran_of
  rowed_from m s =
      rowed_cond (J.row21 m s) (record { same = refl })
      (rowed_cond (J.row22 m s) (record { same = refl })
      (rowed_cond (J.row23 m s) (record { same = refl })
      (rowed_cond (is_uneven m actions ls vs) (record { same = refl })
      (rowed_cond (ltb answers (length actions)) (record { same = refl })
      (rowed_cond (lacks_end m ends endv) (record { same = refl })
      (ended (run (table_judge t) s (proposals_of (length m.automata) (length m.variables) actions ls vs))))))))

  rowed_phase : (m : Model) (o : Option R.Phase)
      → Rowed (elim o [ none ↦ not_run 20 | some p ↦ run_from t m (record { phase = p; locations = l; values = v }) actions ls vs answers ends endv ])
  unfolding ran_number run_number ran_of
  rowed_phase m none = record { same = refl }
  rowed_phase m (some p) = rowed_from m (record { phase = p; locations = l; values = v })

  pub run_rowed : Rowed (run_answer t phase l v actions ls vs answers ends endv)
  unfolding run_answer ran_number run_number ran_of
  run_rowed =
      open_cases t
      (λ o.
      Rowed (elim o [
        | unopened row ↦ not_run row
        | opened m ↦
            elim (J.phase_of phase) [ none ↦ not_run 20 | some p ↦ run_from t m (record { phase = p; locations = l; values = v }) actions ls vs answers ends endv ]
      ]))
      (record { same = refl })
      (record { same = refl })
      (λ m e. rowed_phase m (J.phase_of phase))
