-- Lists behind edges (request (f)): in an accepted text the list behind an edge has exactly the variables whose new
-- value the edge mentions, and without the lists the sheet is the same in format 1. The law lists_exact says the first
-- of every format with lists, the law lists_dropped the second of every format without owners.
use Rattle.std.specs.Prelude.{◌≡◌, Bool, true, false, not, ℕ, drop}
use mathlib.Core.List.{[], ◌∷◌, ◌++◌, flat_map, Memᴰ}
use Rattle.model.specs.Basic.{keep, member}
use Rattle.model.specs.Bounds.{table_words}
use Rattle.model.specs.Predicate.{mentions, written}
use Rattle.model.specs.Model.{Edge, Automaton, Model}
use Rattle.model.specs.Lines.{edge_line, lines}
use Rattle.model.specs.Limits.{ascends}
use Rattle.model.specs.Table.{table_of}
use Rattle.model.specs.Rules.{State}
use Rattle.model.specs.Runs.{Proposal, table_judge}
use Rattle.model.specs.Linear.{linear, merge_fault}
use Rattle.format.specs.Bytes.{Bytes, bytes, begins, LF}
use Rattle.format.specs.Spelling.{writes_key, text_of_list, line_text, entry_text, text_of}
use Rattle.format.specs.Rows.{Line}
use Rattle.format.specs.Reader.{lines_of, accepted, read_answer}

-- the text is that of the sheet's entries; behind an edge stands its list, which rises and has exactly what the edge
-- mentions
pub record ListsExact (text : Bytes) (m : Model) : Type 0 where
  pub spelled : text ≡ flat_map (entry_text m.format) (lines m)
  pub behind : (e : Edge) → entry_text m.format (edge_line e)
      ≡ line_text (edge_line e) ++ (writes_key ++ (text_of_list (written e.update) ++ LF ∷ []))
  pub rises : (e : Edge) → ascends 0 (written e.update) ≡ true
  pub exact : (x : Automaton) → Memᴰ x m.automata → (e : Edge) → Memᴰ e x.edges
      → (k : ℕ) → member k (written e.update) ≡ mentions k e.update

-- the sheet in another format
unfoldable pub in_format : (format : ℕ) → Model → Model
in_format f m =
    record {
      format = f;
      actions = m.actions;
      variables = m.variables;
      owners = m.owners;
      automata = m.automata;
      tree = m.tree;
    }

-- a text without its lists, and with `format=1` for its first line
unfoldable pub is_list : Line → Bool
is_list l = begins writes_key l.bytes

unfoldable pub feed : (ended : Bool) → Bytes
feed true = LF ∷ []
feed false = []

unfoldable pub bytes_of : Line → Bytes
bytes_of l = l.bytes ++ feed l.ended

unfoldable pub without_lists : Bytes → Bytes
without_lists text = bytes "format=1" ++ LF ∷ flat_map bytes_of (keep (λ l. not (is_list l)) (drop 1 (lines_of text)))

-- such a text is the sheet's in format 1: the reader accepts it, both judges answer alike from every state, the same
-- row refuses to merge, or the merged text is the same but for its own lists
pub record ListsDropped (text : Bytes) (m : Model) : Type 0 where
  pub reads : read_answer (without_lists text) table_words ≡ accepted (in_format 1 m)
  pub judged : (s : State) (p : Proposal) → table_judge (table_of (in_format 1 m)) s p ≡ table_judge (table_of m) s p
  pub rows : merge_fault (in_format 1 m) ≡ merge_fault m
  pub merged : linear (in_format 1 m) ≡ in_format 1 (linear m)
  pub merged_text : text_of (linear (in_format 1 m)) ≡ without_lists (text_of (linear m))
