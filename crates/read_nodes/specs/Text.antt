-- The rows of P as the text breaks them (Rows.antt), for variables with these ranges and after so many nodes, before
-- the rows of `rest`.
use Rattle.std.specs.Prelude.{ℕ, Bool, not, ◌&&◌, List, [], length}
use Rattle.std.proofs.Math.Option.{Option}
use Rattle.model.specs.Basic.{lacks, or_else}
use Rattle.model.specs.Predicate as P
use Rattle.model.specs.Predicate.{Pred, Range, all, names_outside, names_new}
use Rattle.model.specs.Parse.{read_pred}
use Rattle.model.specs.Limits.{broken, is_too_deep, exceeds_span, passes_nodes}
use Rattle.format.specs.Bytes.{Bytes}
use Rattle.format.specs.Tokens.{tokens, sounds, read_words}

-- the predicate, where row 6 is not broken
unfoldable pub text_pred : Bytes → Pred
text_pred part = or_else (all P.none) (read_pred (read_words (tokens part)))

unfoldable pub text_fault : (declared : List Range) (before : ℕ) (old_only : Bool) → Bytes → (rest : Option ℕ)
    → Option ℕ
text_fault declared before old_only part rest =
    broken 3 (not (sounds [] (tokens part)))
    (broken 6 (lacks (read_pred (read_words (tokens part))))
    (broken 7 (names_outside (length declared) (read_words (tokens part)))
    (broken 8 (old_only && names_new (read_words (tokens part)))
    (broken 9 (is_too_deep (text_pred part))
    (broken 10 (exceeds_span declared (text_pred part))
    (broken 11 (passes_nodes before (read_words (tokens part)))
    rest))))))
