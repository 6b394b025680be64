-- From each edge on, the definition goes on to the same survey.
use mathlib.Core.Path.{◌≡◌}
use Prim.Native.Nat.{◌-◌}
use Rattle.merge_words.specs.Survey.{survey_from}
use Rattle.merge_words.proofs.survey.with_edges.Given as goal

abbrev pub invariant-loop : goal.invariant-loop
invariant-loop l =
    survey_from l.t l.takers l.at (l.count - l.counter) l.sofar ≡ survey_from l.t l.takers 0 l.count l.initial.sofar
