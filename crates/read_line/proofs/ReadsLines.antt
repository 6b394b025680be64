-- The reader of one line says exactly what `fault` and `entry` say.
use Prim.Native.Nat.{ℕ, ◌≤◌}
use mathlib.Core.Path.{◌≡◌, ◌∙◌}
use mathlib.Core.Bool.{Bool}
use mathlib.Core.List.{List}
use mathlib.Core.Option.{none, some}
use lib.ListN.{length}
use Rattle.model.specs.Bounds.{max_bytes}
use Rattle.model.specs.Lines.{Key, format, actions, variables, variable, automata, sync, locations, init, inv, edges, edge, compose, Reading}
use Rattle.model.specs.Table.{line_words, owner_word}
use Rattle.line_order.specs.declared.Counts.{Counts}
use Rattle.line_order.specs.Due.{code_of, number_of}
use Rattle.line_order.specs.Counts.{nodes_of, Counted}
use Rattle.table_line.specs.Exact.{Declared}
use Rattle.format.specs.Bytes.{Bytes}
use Rattle.format.specs.Rows.{fault, entry, the_range}
use Rattle.model.specs.Predicate.{range}
use Rattle.std.specs.Prelude.{Ok, Err}
use Rattle.model.specs.Row as Row
use Rattle.read_form.specs.Outcome.{said}
use Rattle.table_append.specs.Append.{next_place, put}
use Rattle.read_form.specs.Form.{line_of}
use Rattle.read_line.specs.Exact.{number_told, ReadsLines}
use Rattle.read_line.specs.Line.{line_with, line_with_after, line_read, line_after}
use Rattle.read_form.proofs.Outcomes.{answered_fault, answered_sound, written_sound}
use Rattle.read_number_line.proofs.NumberLines.{format_read, format_left, actions_read, actions_left, variables_read, variables_left, automata_read, automata_left, locations_read, locations_left, edges_read, edges_left}
use Rattle.read_number_line.proofs.RangeLines.{variable_read, variable_left}
use Rattle.read_composition_line.proofs.SyncLaws.{sync_faulty, sync_sound}
use Rattle.read_composition_line.proofs.CompositionRows.{compose_faulty, compose_sound}
use Rattle.read_predicate_line.specs.Predicate.{most_words}
use Rattle.read_predicate_line.proofs.PredicateRows.{init_of, inv_of, location_faulty, location_sound}
use Rattle.read_predicate_line.proofs.EdgeRows.{edge_faulty, edge_sound}

module _ (r : Reading) (c : Counts) (words : List ℕ) (at : ℕ) (s : Bytes) (ended : Bool) (n : Counted r c) (d : Declared words r) (short : length s ≤ max_bytes) where
  faulty : (k : Key) (row : ℕ) → fault r k (line_of s ended) ≡ some row → line_read s ended (code_of k) c words at ≡ Err (Row.row row)
  unfolding line_read line_with code_of
  faulty format row h = format_read r s ended at words ∙ answered_fault _ row _ h
  faulty actions row h = actions_read r s ended at words ∙ answered_fault _ row _ h
  faulty variables row h = variables_read r s ended at words ∙ answered_fault _ row _ h
  faulty variable row h = variable_read r s ended at words ∙ answered_fault _ row _ h
  faulty automata row h = automata_read r s ended at words c.variables n.variables d ∙ answered_fault _ row _ h
  faulty sync row h = sync_faulty r c words at s ended n row h
  faulty locations row h = locations_read r s ended at words ∙ answered_fault _ row _ h
  faulty init row h = location_faulty init init_of s ended r c words n d short at row h
  faulty inv row h = location_faulty inv inv_of s ended r c words n d short at row h
  faulty edges row h = edges_read r s ended at words c.edges n.edges ∙ answered_fault _ row _ h
  faulty edge row h = edge_faulty s ended r c words n d short at row h
  faulty compose row h = compose_faulty r c words n d s ended most_words most_words short short at row h

  sound : (k : Key) → fault r k (line_of s ended) ≡ none
      → (line_read s ended (code_of k) c words at ≡ Ok (said (number_told (entry k (line_of s ended))) (nodes_of (entry k (line_of s ended))) (next_place at (length (line_words (entry k (line_of s ended)))))))
      × (line_after s ended (code_of k) c words at ≡ put at (line_words (entry k (line_of s ended))) words)
  unfolding line_read line_after line_with line_with_after code_of entry number_of number_told nodes_of line_words owner_word the_range range
  sound format h = (format_read r s ended at words ∙ answered_sound _ _ h, format_left r s ended at words ∙ written_sound _ _ words h)
  sound actions h = (actions_read r s ended at words ∙ answered_sound _ _ h, actions_left r s ended at words ∙ written_sound _ _ words h)
  sound variables h = (variables_read r s ended at words ∙ answered_sound _ _ h, variables_left r s ended at words ∙ written_sound _ _ words h)
  sound variable h = (variable_read r s ended at words ∙ answered_sound _ _ h, variable_left r s ended at words ∙ written_sound _ _ words h)
  sound automata h =
      (automata_read r s ended at words c.variables n.variables d ∙ answered_sound _ _ h, automata_left r s ended at words c.variables n.variables d ∙ written_sound _ _ words h)
  sound sync h = sync_sound r c words at s ended n h
  sound locations h = (locations_read r s ended at words ∙ answered_sound _ _ h, locations_left r s ended at words ∙ written_sound _ _ words h)
  sound init h = location_sound init init_of s ended r c words n d short at h
  sound inv h = location_sound inv inv_of s ended r c words n d short at h
  sound edges h = (edges_read r s ended at words c.edges n.edges ∙ answered_sound _ _ h, edges_left r s ended at words c.edges n.edges ∙ written_sound _ _ words h)
  sound edge h = edge_sound s ended r c words n d short at h
  sound compose h = compose_sound r c words n d s ended most_words most_words short short at h

pub reads_lines : ReadsLines line_read line_after
reads_lines =
    record {
      faulty = λ r c words at k s ended row n d short h. faulty r c words at s ended n d short k row h;
      sound = λ r c words at k s ended n d short h. sound r c words at s ended n d short k h;
    }
