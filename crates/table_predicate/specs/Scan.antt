-- Tests of a predicate's words one by one.
use Rattle.std.specs.Prelude.{Bool, ◌&&◌, ℕ, eqb}
use Rattle.model.specs.Limits.{in_range}
use Rattle.model.specs.Table.{code, word_of}

-- the code of a word in range
unfoldable pub is_coded : ℕ → Bool
is_coded w = eqb w (code (word_of w)) && in_range (word_of w)
