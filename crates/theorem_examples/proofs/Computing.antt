-- All definitions, opened: a theorem that is proved by computing says `unfolding computing`.
use Prim.Native.Nat.{ℕ}
use mathlib.Core.List as List
use Rattle.model.specs.Basic as Basic
use Rattle.model.specs.Predicate as Predicate
use Rattle.model.specs.Composition as Composition
use Rattle.model.specs.Parse as Parse
use Rattle.model.specs.Model as Model
use Rattle.model.specs.Lines as Lines
use Rattle.model.specs.Limits as Limits
use Rattle.model.specs.Lawful as Lawful
use Rattle.model.specs.Table as Table
use Rattle.model.specs.Rules as Rules
use Rattle.model.specs.Equal as Equal
use Rattle.model.specs.Moves as Moves
use Rattle.model.specs.Judge as Judge
use Rattle.model.specs.Linear as Linear
use Rattle.model.specs.Runs as Runs
use Rattle.format.specs.Bytes as Bytes
use Rattle.format.specs.Number as Number
use Rattle.format.specs.Tokens as Tokens
use Rattle.format.specs.Spelling as Spelling
use Rattle.format.specs.Rows as Rows
use Rattle.format.specs.Writes as Writes
use Rattle.format.specs.Owners as Owners
use Rattle.format.specs.Reader as Reader
use Rattle.format.specs.Writer as Writer
use Rattle.format.specs.Merger as Merger
use Rattle.format.specs.Program as Program

unfoldable pub computing : ℕ
unfolding
    List.flat_map
    Basic.eq_z Basic.between Basic.each Basic.every Basic.exists Basic.keep Basic.once Basic.member Basic.same
    Basic.sum Basic.count_up Basic.lacks Basic.or_else Basic.on_some
    Predicate.preds Predicate.operands Predicate.holds Predicate.words Predicate.node_count Predicate.named
    Predicate.is_outside Predicate.is_new Predicate.is_new_of Predicate.names_outside Predicate.names_new Predicate.mentions
    Predicate.written
    Predicate.depth Predicate.range Predicate.least Predicate.greatest Predicate.hull Predicate.times Predicate.interval
    Predicate.stays Predicate.all_stay
    Composition.leaves Composition.starts Composition.start_nodes Composition.nodes Composition.tree_size
    Parse.pop_pred Parse.pop_expr Parse.pop_preds Parse.push Parse.stack Parse.sole_pred Parse.read_pred Parse.pop_tree
    Parse.push_node Parse.tree_stack Parse.sole_tree Parse.read_tree Parse.with_starts
    Model.in_set Model.edge_total
    Lines.key_of Lines.location_lines Lines.automaton_lines Lines.variable_lines Lines.lines Lines.due_at_first Lines.repeat Lines.then_due
    Lines.at_first Lines.last_of Lines.on_last Lines.add_location Lines.add_edge Lines.with_model Lines.with_automata
    Lines.with_pred Lines.with_nodes Lines.last_owner Lines.with_owner Lines.noted
    Limits.in_range Limits.tree_in_range Limits.owner_in_range Limits.numbers_in_range Limits.is_early Limits.is_crossed Limits.rises Limits.ascends Limits.tree_rises
    Limits.is_too_deep Limits.exceeds_span Limits.passes_nodes Limits.variable_count Limits.location_count Limits.is_astray
    Limits.lists_filled Limits.is_disordered Limits.is_too_large Limits.passes_edges Limits.is_beyond Limits.is_owner Limits.writes_foreign Limits.is_foreign Limits.broken Limits.pred_fault
    Limits.location_fault Limits.starts_fault Limits.content_fault Limits.fault_of Limits.within_limits Limits.limits
    Lawful.location_nodes Lawful.automaton_nodes Lawful.node_total
    Table.biased Table.low_bits Table.high_bits Table.set_words Table.node_word Table.kind_of Table.argument_of Table.code
    Table.pred_words Table.node_words Table.start_words Table.owner_word Table.line_words
    Table.sheet_words Table.table_of Table.unbiased Table.bit Table.set_of Table.kinds Table.word_of Table.split
    Table.split_number Table.split_pair Table.owner_from Table.split_variable Table.split_pred Table.edge_to Table.split_edge Table.and_node Table.over_node Table.split_nodes
    Table.and_pred Table.split_preds Table.split_starts Table.tree_with Table.split_tree Table.split_entry Table.decode Table.is_table_of Table.model_of Table.row18 Table.row19 Table.open_table
    Rules.mentioned
    Moves.pairs Moves.sides Moves.under Moves.moves Moves.sides_count Moves.move_count Moves.distinct_count
    Judge.phase_of Judge.has_values Judge.row21 Judge.row22 Judge.range_of Judge.row23 Judge.row24 Judge.inits Judge.invs
    Judge.starts_hold Judge.initial Judge.settled Judge.is_taker Judge.updated Judge.led Judge.kept Judge.framed Judge.fits Judge.step_holds
    Judge.owned_keep Judge.environment_holds Judge.judge_to Judge.judge_environment Judge.judge_at Judge.step_answer Judge.environment_answer Judge.answer_to
    Equal.word_kind Equal.word_number Equal.same_word Equal.same_words Equal.same_edge
    Linear.pointer_range Linear.merged_owner Linear.pointer_owner Linear.pointer Linear.at_locations Linear.at_automata Linear.merged_init Linear.merged_inv
    Linear.pointer_moves Linear.merged_edge Linear.edges_with_repeats Linear.merged_edges Linear.merged_count Linear.linear
    Linear.merged_preds Linear.row31 Linear.row32 Linear.row33 Linear.row34 Linear.merge_fault
    Runs.proposed Runs.model_judge Runs.phase_number Runs.call_of Runs.table_judge Runs.goes Runs.and_then Runs.run
    Runs.beside Runs.translate Runs.translates Runs.merged_run
    Bytes.begins Bytes.onto Bytes.parts Bytes.led_by Bytes.joined
    Number.digit Number.digits Number.natural Number.unsigned Number.negative Number.number Number.is_between
    Number.within Number.natural_of Number.integer_of Number.decimal_in Number.decimal Number.signed
    Tokens.tokens Tokens.numeral Tokens.number_sound Tokens.last_after Tokens.sound Tokens.sounds Tokens.items
    Tokens.list_sound Tokens.lists_sound Tokens.find Tokens.variable_word Tokens.word Tokens.counted Tokens.read_words
    Tokens.calls_for Tokens.start_tokens Tokens.starts_in Tokens.outside Tokens.leaf_of Tokens.node Tokens.syn_of Tokens.read_nodes
    Spelling.spelling Spelling.spelled Spelling.text_of_pred Spelling.text_of_list Spelling.spelled_node Spelling.text_of_tree
    Spelling.value_text Spelling.line_text Spelling.writes_key Spelling.owner_key Spelling.none_word Spelling.text_of_owner
    Spelling.behind Spelling.owner_said Spelling.behind_text Spelling.entry_text Spelling.text_of
    Rows.place Rows.is Rows.value_of Rows.fields Rows.field_count Rows.field Rows.has_pred Rows.pred_tokens Rows.words_in
    Rows.pred_of Rows.tree_tokens Rows.starts_of Rows.the_starts Rows.nodes_in Rows.tree_of Rows.the_pred Rows.the_tree Rows.list_items Rows.sync_list
    Rows.the_range Rows.printable Rows.row2 Rows.numbers_sound Rows.row3 Rows.row4 Rows.row5 Rows.row6 Rows.row7 Rows.row8
    Rows.row9 Rows.row10 Rows.row11 Rows.row12 Rows.row13 Rows.row14 Rows.row15 Rows.row16 Rows.row50 Rows.fault Rows.entry
    Writes.writes_items Writes.writes_list Writes.writes_row2 Writes.writes_row3 Writes.writes_row5 Writes.writes_row7 Writes.row44 Writes.row51 Writes.writes_fault
    Owners.owner_value Owners.is_none Owners.owner_row2 Owners.owner_row3 Owners.owner_fault Owners.the_owner
    Reader.onto_line Reader.lines_of Reader.read Reader.row1 Reader.read_answer Reader.table_after
    Writer.row35 Writer.write_answer Writer.with_text Writer.buffer_after
    Merger.merge_model Merger.merge_answer Merger.merge_after
    Program.refusal Program.merge_output Program.program_output Program.answers_on_text
computing = 0
