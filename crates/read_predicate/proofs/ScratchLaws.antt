-- Scratch memory keeps its length.
use mathlib.Core.Path.{refl}
use mathlib.Core.List.{List}
use Rattle.read_predicate.specs.Scratch.{Scratch}

pub scratch_same : {A : Type 0} (memory : List A) → Scratch memory memory
scratch_same memory = record { long = refl }

pub ruleset scratch_laws = (scratch_same)
