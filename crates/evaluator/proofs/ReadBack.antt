-- The machine reads a signed number back as the same.
use mir.ValLaws.{to_z-of_z}

pub ruleset read_back = (to_z-of_z)
