-- Reading a line leaves the buffer as long as it was.
use Prim.Native.Nat.{ℕ}
use mathlib.Core.Path.{◌≡◌, refl}
use mathlib.Core.Bool.{Bool}
use mathlib.Core.List.{List, [], ◌∷◌}
use lib.ListN.{length}
use Rattle.model.specs.Lines as Lines
use Rattle.model.specs.Table.{biased}
use Rattle.line_order.specs.declared.Key.{Key}
use Rattle.line_order.specs.declared.Key.TheVariants.{Format, Actions, Variables, Variable, Automata, Sync, Locations, Init, Inv, Edges, Edge, Compose, End}
use Rattle.line_order.specs.declared.Counts.{Counts}
use Rattle.format.specs.Bytes.{Bytes}
use Rattle.format.specs.Spelling.{spelling}
use Rattle.std.specs.Prelude.{Result, Ok, Err}
use Rattle.model.specs.declared.Row.{Row}
use Rattle.read_numbers.specs.Range.{Ends}
use Rattle.read_form.proofs.Outcomes.{written_long}
use Rattle.read_number_line.specs.Number.{number_after, bounds_after}
use Rattle.read_composition_line.specs.Sync.{sync_fault, sync_after}
use Rattle.read_predicate_line.specs.Predicate.{most_words}
use Rattle.read_line.specs.Line.{line_with_after, line_after}
use Rattle.table_append.proofs.AppendLaws.{put_kept}
use Rattle.read_predicate_line.proofs.PredicateRows.{location_kept}
use Rattle.read_predicate_line.proofs.EdgeRows.{edge_kept}
use Rattle.read_composition_line.proofs.CompositionRows.{compose_kept}

number_kept : (c : Result ℕ Row) (at : ℕ) (words : List ℕ) → length (number_after c at words) ≡ length words
unfolding number_after
number_kept (Ok n) at words = put_kept (n ∷ []) at words
number_kept (Err w) at words = refl

bounds_kept : (b : Ends) (at : ℕ) (words : List ℕ) → length (bounds_after b at words) ≡ length words
unfolding bounds_after
bounds_kept (Ok ends) at words = put_kept (biased ends.0 ∷ biased ends.1 ∷ 0 ∷ []) at words
bounds_kept (Err w) at words = refl

sync_kept : (s : Bytes) (ended : Bool) (c : Counts) (words : List ℕ) (at : ℕ) → length (sync_after s ended c words at) ≡ length words
unfolding sync_after
sync_kept s ended c words at = written_long (sync_fault s ended c) _ words (put_kept _ at words)

pub line_kept : (s : Bytes) (ended : Bool) (k : Key) (c : Counts) (words : List ℕ) (at : ℕ) → length (line_after s ended k c words at) ≡ length words
unfolding line_after line_with_after
line_kept s ended Format c words at = number_kept _ at words
line_kept s ended Actions c words at = number_kept _ at words
line_kept s ended Variables c words at = number_kept _ at words
line_kept s ended Variable c words at = bounds_kept _ at words
line_kept s ended Automata c words at = number_kept _ at words
line_kept s ended Sync c words at = sync_kept s ended c words at
line_kept s ended Locations c words at = number_kept _ at words
line_kept s ended Init c words at = location_kept (spelling Lines.init) s ended c words most_words most_words at
line_kept s ended Inv c words at = location_kept (spelling Lines.inv) s ended c words most_words most_words at
line_kept s ended Edges c words at = number_kept _ at words
line_kept s ended Edge c words at = edge_kept s ended c words most_words most_words at
line_kept s ended Compose c words at = compose_kept s ended c words most_words most_words at
line_kept s ended End c words at = refl
