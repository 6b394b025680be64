-- `line_at` is exact: it finds sound the words of lines that break no row, and no others.
use Prim.Native.Nat.{ℕ, ◌+◌}
use mathlib.Core.Path.{◌≡◌, ap}
use mathlib.Core.Bool.{true}
use mathlib.Core.List.{List, ◌++◌}
use mathlib.Core.Option.{none}
use native.Mathlib.Omega.{arith}
use lib.ListN.{length, drop}
use lib.Dec.{ltb}
use Rattle.model.specs.Basic.{every, lacks}
use Rattle.model.specs.Bounds.{first_format, last_format, max_actions, max_variables, max_locations}
use Rattle.model.specs.Lines.{Key as LineKey, format, actions, variables, variable, automata, sync, locations, init, inv, edges, edge, compose, Entry, format_line, actions_line, variables_line, variable_line, automata_line, sync_line, locations_line, init_line, inv_line, edges_line, edge_line, compose_line, key_of, Reading}
use Rattle.model.specs.Limits.{numbers_in_range, content_fault, fault_of}
use Rattle.model.specs.Table.{set_words, line_words}
use Rattle.model.proofs.Decode.{none_lacks}
use Rattle.model.proofs.LimitLines.{format_line_lem, actions_line_lem, variables_line_lem, locations_line_lem}
use Rattle.line_order.specs.declared.Counts.{Counts}
use Rattle.line_order.specs.Due.{code_of, number_of}
use Rattle.line_order.specs.Counts.{nodes_of, Counted}
use Rattle.table_line.specs.Exact.{Declared, LineAt, LineExact}
use Rattle.table_line.specs.Line.{a_line, word, line_at}
use Rattle.table_line.proofs.NumberLines.{head_of, line_at_lem, number_sound, number_of_lem, edges_sound, edges_of, variable_sound_lem, variable_of, automata_sound, automata_of, sync_sound, sync_of}
use Rattle.table_line.proofs.PredicateLines.{init_sound, inv_sound, state_of, edge_sound, edge_of}
use Rattle.table_line.proofs.CompositionLines.{compose_sound, compose_of}

module _ (t : List ℕ) where
  -- each line
  module _ (fit : every (λ w. ltb w 4294967296) t ≡ true) (r : Reading) (c : Counts) (k : Counted r c) (d : Declared t r) (at : ℕ) where
    sound_line : (key : LineKey) (number nodes next : ℕ) → line_at t at (code_of key) c ≡ a_line number nodes next → LineAt t r key at number nodes next
    unfolding line_at code_of key_of number_of nodes_of line_words
    sound_line format number nodes next h =
        let s = number_sound t at first_format last_format number nodes next h in
        line_at_lem t r (format_line (word t at)) at number nodes next _ (none_lacks _ ((format_line_lem r _).1 (s.1, s.2))) (head_of t at s.0) s.3
    sound_line actions number nodes next h =
        let s = number_sound t at 0 max_actions number nodes next h in
        line_at_lem t r (actions_line (word t at)) at number nodes next _ (none_lacks _ ((actions_line_lem r _).1 s.2)) (head_of t at s.0) s.3
    sound_line variables number nodes next h =
        let s = number_sound t at 0 max_variables number nodes next h in
        line_at_lem t r (variables_line (word t at)) at number nodes next _ (none_lacks _ ((variables_line_lem r _).1 s.2)) (head_of t at s.0) s.3
    sound_line variable number nodes next h = variable_sound_lem t r c k at number nodes next h
    sound_line automata number nodes next h = automata_sound t r c k at d number nodes next h
    sound_line sync number nodes next h = sync_sound t r c k at fit number nodes next h
    sound_line locations number nodes next h =
        let s = number_sound t at 1 max_locations number nodes next h in
        line_at_lem t r (locations_line (word t at)) at number nodes next _ (none_lacks _ ((locations_line_lem r _).1 (s.1, s.2))) (head_of t at s.0) s.3
    sound_line init number nodes next h = init_sound t r c k d at number nodes next h
    sound_line inv number nodes next h = inv_sound t r c k d at number nodes next h
    sound_line edges number nodes next h = edges_sound t r c at number nodes next k h
    sound_line edge number nodes next h = edge_sound t r c k d at number nodes next h
    sound_line compose number nodes next h = compose_sound t r c k d at fit number nodes next h

    complete_line : (e : Entry) (rest : List ℕ) → fault_of r e ≡ none → drop at t ≡ line_words e ++ rest → line_at t at (code_of (key_of e)) c ≡ a_line (number_of e) (nodes_of e) (at + length (line_words e))
    unfolding line_at code_of key_of number_of nodes_of line_words set_words lacks
    complete_line (format_line n) rest g w = let l = (format_line_lem r n).0 (ap lacks g) in number_of_lem t at first_format last_format n rest w l.0 l.1
    complete_line (actions_line n) rest g w = number_of_lem t at 0 max_actions n rest w (omega arith) ((actions_line_lem r n).0 (ap lacks g))
    complete_line (variables_line n) rest g w = number_of_lem t at 0 max_variables n rest w (omega arith) ((variables_line_lem r n).0 (ap lacks g))
    complete_line (variable_line x o) rest g w = variable_of t r c k at x o rest g w
    complete_line (automata_line n) rest g w = automata_of t r c k at d n rest g w
    complete_line (sync_line list) rest g w = sync_of t r c k at list rest g w
    complete_line (locations_line n) rest g w = let l = (locations_line_lem r n).0 (ap lacks g) in number_of_lem t at 1 max_locations n rest w l.0 l.1
    complete_line (init_line p) rest g w = state_of t r c k d at p rest g w
    complete_line (inv_line p) rest g w = state_of t r c k d at p rest (unfold fault_of numbers_in_range content_fault in g) w
    complete_line (edges_line n) rest g w = edges_of t r c at n rest k g w
    complete_line (edge_line e) rest g w = edge_of t r c k d at e rest g w
    complete_line (compose_line tree) rest g w = compose_of t r c k d at tree rest g w

pub line_exact : (t : List ℕ) → every (λ w. ltb w 4294967296) t ≡ true → LineExact t (line_at t)
line_exact t fit =
    record {
      sound = λ r c at key number nodes next k d inside h. sound_line t fit r c k d at key number nodes next h;
      complete = λ r c e at rest k d g w. complete_line t fit r c k d at e rest g w;
    }
