-- Rows 6 to 11 of all P of a composition, as its text breaks them (Rows.antt of the format), before the rows of `rest`.
use Rattle.std.specs.Prelude.{ℕ, length}
use mathlib.Core.List.{List, [], map, flat_map}
use Rattle.std.proofs.Math.Option.{Option}
use Rattle.model.specs.Basic.{exists, lacks, or_else}
use Rattle.model.specs.Predicate as P
use Rattle.model.specs.Predicate.{Pred, Range, words, all, names_outside, names_new}
use Rattle.model.specs.Parse.{read_pred}
use Rattle.model.specs.Limits.{broken, is_too_deep, exceeds_span, passes_nodes}
use Rattle.format.specs.Bytes.{Bytes}
use Rattle.format.specs.Tokens.{tokens, read_words, starts_in}

-- each P, well-formed or not, and the predicates where row 6 is not broken
abbrev pub starts_read : Bytes → List (Option Pred)
starts_read s = map (λ ts. read_pred (read_words ts)) (starts_in 0 [] (tokens s))

abbrev pub start_preds : Bytes → List Pred
start_preds s = map (or_else (all P.none)) (starts_read s)

unfoldable pub starts_rows : (declared : List Range) (before : ℕ) → Bytes → (rest : Option ℕ) → Option ℕ
starts_rows declared before s rest =
    broken 6 (exists lacks (starts_read s))
    (broken 7 (exists (λ p. names_outside (length declared) (words p)) (start_preds s))
    (broken 8 (exists (λ p. names_new (words p)) (start_preds s))
    (broken 9 (exists is_too_deep (start_preds s))
    (broken 10 (exists (exceeds_span declared) (start_preds s))
    (broken 11 (passes_nodes before (flat_map words (start_preds s)))
    rest)))))
