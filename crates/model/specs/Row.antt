-- A row of document 01, by its number, as the code gives it.
use Rattle.std.specs.Prelude.{ℕ, List, ◌++◌, codes}
use Rattle.std.specs.Fmt.{decimal}
use Rattle.model.specs.declared.Row.{Row}

abbrev pub row : ℕ → Row
row n = record { 0 = n }

-- what `{}` prints of a row
abbrev pub row_text : Row → List ℕ
row_text r = codes "row " ++ decimal r.0
