-- The bytes of each P of a composition.
use Rattle.std.specs.Prelude.{List, [], map}
use Rattle.format.specs.Bytes.{Bytes, joined, space}
use Rattle.format.specs.Tokens.{tokens, starts_in}

unfoldable pub start_texts : Bytes → List Bytes
start_texts s = map (joined space) (starts_in 0 [] (tokens s))
