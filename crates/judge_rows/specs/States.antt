-- States as the code holds them: lists of a call in arrays of one length.
use Rattle.std.specs.Prelude.{List, ◌++◌, ℕ, ℤ, pos, take, replicate}
use Rattle.model.specs.Rules as R
use Rattle.judge_rows.specs.Phases.{phase_for}
use Rattle.judge_rows.specs.declared.Phase.{Phase}
use Rattle.judge_rows.specs.declared.State.{State}

-- the first n items; where there are fewer, `other` for the rest
unfoldable pub filled : {A : Type 0} (n : ℕ) (other : A) → List A → List A
filled n other list = take n (list ++ replicate n other)

unfoldable pub state_of : Phase → List ℕ → List ℤ → State
state_of phase locations values =
    record { phase = phase; locations = filled 16 0 locations; values = filled 48 (pos 0) values }

-- a state of the definitions, in such arrays
abbrev pub held : R.State → State
held u = state_of (phase_for u.phase) u.locations u.values
