-- The lists right after `syn`, as the code judges them. Where row 3 is not broken it is `lists_sound`: the law
-- lists_sound_lem.
use Rattle.std.specs.Prelude.{ℕ, Bool, true, false, ◌&&◌, List, [], ◌∷◌}
use Rattle.model.specs.Basic.{same}
use Rattle.format.specs.Bytes.{Bytes, bytes, parts, comma}
use Rattle.read_composition.specs.List.{list_of}
use Rattle.read_composition.specs.Token.{starts_number}

unfoldable pub list_kept : (A : ℕ) (due : Bool) → Bytes → Bool
list_kept A due t = elim (due && starts_number t) [ true ↦ (list_of A (parts comma t)).rising | false ↦ true ]

unfoldable pub lists_kept : (A : ℕ) (due : Bool) → List Bytes → Bool
lists_kept A due [] = true
lists_kept A due (t ∷ ts) = elim (list_kept A due t) [ true ↦ lists_kept A (same t (bytes "syn")) ts | false ↦ false ]
