-- A text without its lists is the sheet's in format 1: no line of an entry begins as a list does, and every list does.
use Prim.Native.Nat.{ℕ}
use mathlib.Core.Path.{◌≡◌, refl, sym, ap, ap₂, ◌∙◌}
use mathlib.Core.Bool.{Bool, true, false, not}
use lib.Dec.{leb}
use Rattle.model.specs.Bounds.{owners_format, writes_format}
use mathlib.Core.List.{List, [], ◌∷◌, ◌++◌, append_assoc, append-nil, flat_map}
use lib.ListN.{drop}
use Rattle.model.specs.Basic.{keep}
use mathlib.Core.Option.{none}
use Rattle.model.specs.Predicate.{written}
use Rattle.model.specs.Model.{Model}
use Rattle.model.specs.Lines.{Key, Entry, format, actions, variables, variable, automata, sync, locations, init, inv, edges, edge, compose, format_line, actions_line, variables_line, variable_line, automata_line, sync_line, locations_line, init_line, inv_line, edges_line, edge_line, compose_line, key_of, lines}
use Rattle.model.proofs.Lists.{keep_append, keep_first}
use Rattle.format.specs.Bytes.{Bytes, bytes, begins, LF}
use Rattle.format.specs.Number.{decimal, decimal_in}
use Rattle.format.specs.Spelling.{spelling, writes_key, text_of_list, value_text, line_text, nothing, list, behind, behind_text, owner_said, entry_text, text_of}
use Rattle.format.specs.Rows.{Line}
use Rattle.format.proofs.LineLaws.{line_of}
use Rattle.format.proofs.EntryLines.{behind_lines, lines_for, lines_all}
use Rattle.format.proofs.FaultLaws.{begins_self}
use Rattle.theorem_lists.specs.Lists.{in_format, is_list, feed, bytes_of, without_lists}

-- the other keys begin with another letter
key_other : (k : Key) (t : Bytes) → begins writes_key (spelling k ++ t) ≡ false
unfolding begins writes_key spelling
key_other format t = refl
key_other actions t = refl
key_other variables t = refl
key_other variable t = refl
key_other automata t = refl
key_other sync t = refl
key_other locations t = refl
key_other init t = refl
key_other inv t = refl
key_other edges t = refl
key_other edge t = refl
key_other compose t = refl

-- so of an entry's lines its own is kept
abbrev stays : Line → Bool
stays l = not (is_list l)

list_goes : (l : List ℕ) → keep stays (behind_lines (list l) none) ≡ []
unfolding keep is_list
list_goes l = rw (begins_self writes_key (text_of_list l), keep)

module _ (f : ℕ) (early : leb owners_format f ≡ false) where
  behind_goes : (e : Entry) → keep stays (behind_lines (behind f e) (owner_said e)) ≡ []
  unfolding keep behind owner_said
  behind_goes (format_line n) = refl
  behind_goes (actions_line n) = refl
  behind_goes (variables_line n) = refl
  behind_goes (variable_line x o) = rw (early, behind)
  behind_goes (automata_line n) = refl
  behind_goes (sync_line l) = refl
  behind_goes (locations_line n) = refl
  behind_goes (init_line p) = refl
  behind_goes (inv_line p) = refl
  behind_goes (edges_line n) = refl
  behind_goes (edge_line e) = go (leb writes_format f)
    where
      go : (b : Bool) → keep stays (behind_lines (elim b [ true ↦ list (written e.update) | false ↦ nothing ]) none) ≡ []
      go true = list_goes (written e.update)
      go false = refl
  behind_goes (compose_line c) = refl

  entry_stays : (e : Entry) → keep stays (lines_for f e) ≡ line_of e ∷ []
  unfolding is_list
  entry_stays e =
      keep_first stays (line_of e) (behind_lines (behind f e) (owner_said e)) (ap not (key_other (key_of e) (value_text e))) ∙
      ap (λ (l : List Line). line_of e ∷ l) (behind_goes e)

-- which is all that it has in format 1
none_behind : (e : Entry) → behind_text (behind 1 e) e ≡ []
unfolding behind_text behind
none_behind (format_line n) = refl
none_behind (actions_line n) = refl
none_behind (variables_line n) = refl
none_behind (variable_line x o) = refl
none_behind (automata_line n) = refl
none_behind (sync_line l) = refl
none_behind (locations_line n) = refl
none_behind (init_line p) = refl
none_behind (inv_line p) = refl
none_behind (edges_line n) = refl
none_behind (edge_line e) = refl
none_behind (compose_line c) = refl

line_is : (e : Entry) → bytes_of (line_of e) ≡ entry_text 1 e
unfolding bytes_of feed entry_text line_text
line_is e =
    append_assoc (spelling (key_of e)) (value_text e) (LF ∷ []) ∙
    sym (append-nil (line_text e)) ∙
    ap (λ (s : Bytes). line_text e ++ s) (sym (none_behind e))

entries_stay : (f : ℕ) → leb owners_format f ≡ false → (es : List Entry) → flat_map bytes_of (keep stays (flat_map (lines_for f) es)) ≡ flat_map (entry_text 1) es
unfolding flat_map
entries_stay f early [] = unfold keep in refl
entries_stay f early (e ∷ es) =
    ap (flat_map bytes_of) (keep_append stays (lines_for f e) (flat_map (lines_for f) es) ∙ ap (λ (l : List Line). l ++ keep stays (flat_map (lines_for f) es)) (entry_stays f early e)) ∙
    ap₂ (λ (s t : Bytes). s ++ t) (line_is e) (entries_stay f early es)

-- the first line says the format, and the others are the same in every format
first_line : (f : ℕ) (m : Model) → drop 1 (flat_map (lines_for f) (lines m)) ≡ flat_map (lines_for f) (drop 1 (lines m))
unfolding lines flat_map behind
first_line f m = refl

first_text : (f : ℕ) (m : Model) → text_of (in_format f m) ≡ entry_text f (format_line f) ++ flat_map (entry_text f) (drop 1 (lines m))
unfolding text_of lines flat_map in_format
first_text f m = refl

format_1 : (t : Bytes) → bytes "format=1" ++ LF ∷ t ≡ entry_text 1 (format_line 1) ++ t
unfolding entry_text line_text behind behind_text value_text spelling key_of decimal decimal_in
format_1 t = refl

pub lists_away : (m : Model) → leb owners_format m.format ≡ false → without_lists (text_of m) ≡ text_of (in_format 1 m)
unfolding without_lists text_of
lists_away m early =
    ap (λ (ls : List Line). bytes "format=1" ++ LF ∷ flat_map bytes_of (keep stays ls)) (ap (drop 1) (lines_all m.format (lines m)) ∙ first_line m.format m) ∙
    ap (λ (t : Bytes). bytes "format=1" ++ LF ∷ t) (entries_stay m.format early (drop 1 (lines m))) ∙
    format_1 (flat_map (entry_text 1) (drop 1 (lines m))) ∙
    sym (first_text 1 m)
