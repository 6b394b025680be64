-- What the phases mean in the definitions.
use Rattle.model.specs.Rules as R
use Rattle.judge_rows.specs.declared.Phase.{Phase}
use Rattle.judge_rows.specs.declared.Phase.TheVariants.{Start, Running}

unfoldable pub phase_is : Phase → R.Phase
phase_is Start = R.start
phase_is Running = R.running

-- and back
unfoldable pub phase_for : R.Phase → Phase
phase_for R.start = Start
phase_for R.running = Running
