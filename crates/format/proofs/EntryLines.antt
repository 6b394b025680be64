-- The line of an entry: a text comes apart into these lines, and each says its entry.
use Prim.Native.Nat.{ℕ}
use mathlib.Core.Path.{◌≡◌, refl, sym, ◌∙◌, ap}
use mathlib.Core.Bool.{Bool, true, false}
use mathlib.Core.List.{List, [], ◌∷◌, ◌++◌, append_assoc, map, flat_map}
use mathlib.Core.Option.{Option, none, some}
use native.Mathlib.Omega.{arith}
use borrow.Author.Tests.{eqb-true, ne_eqb}
use lib.Dec.{eqb}
use lib.ListN.{length, get_or, drop}
use Rattle.model.specs.Basic.{or_else}
use Rattle.model.specs.Composition.{Tree, leaf}
use Rattle.model.specs.Limits.{fault_of, numbers_in_range}
use Rattle.model.specs.Lines.{Entry, Key, Reading, at_first, lines, actions, actions_line, automata, automata_line, compose, compose_line, edge, edge_line, edges, edges_line, format, format_line, init, init_line, inv, inv_line, key_of, locations, locations_line, sync, sync_line, variable, variable_line, variables, variables_line}
use Rattle.model.specs.Model.{Model}
use Rattle.model.specs.Parse.{read_pred, read_tree}
use Rattle.model.specs.Predicate as P
use Rattle.model.specs.Predicate.{Pred, all, range}
use Rattle.model.proofs.Decode.{in_range_lem, lists_filled_lem}
use Rattle.model.proofs.LinesLaws.{along, along_lines}
use Rattle.format.specs.Bytes.{Bytes, LF, comma, joined, led_by, parts}
use Rattle.format.specs.Number.{natural_of, decimal, integer_of, signed}
use Rattle.format.specs.Reader.{lines_of, onto_line}
use Rattle.format.specs.Rows.{Line, entry, field, fields, is, list_items, place, pred_of, pred_tokens, words_in, sync_list, the_pred, the_range, the_tree, tree_tokens, starts_of, the_starts, nodes_in, tree_of, value_of}
use Rattle.format.specs.Spelling.{Behind, nothing, owner, list, behind, behind_text, entry_text, line_text, owner_key, owner_said, spelling, writes_key, text_of_list, text_of_owner, text_of_pred, text_of_tree, value_text}
use Rattle.format.specs.Tokens.{read_words, tokens}
use Rattle.format.proofs.BytesLaws.{Each, Free, parts_free, parts_joined}
use Rattle.format.proofs.LineLaws.{line_of, owner_line, writes_line}
use Rattle.format.proofs.NumberLaws.{leading}
use Rattle.format.proofs.PredText.{text_read}
use Rattle.format.proofs.Spans.{Span, decimal_free, line_span, owner_span, pred_free, signed_free, writes_span}
use Rattle.format.proofs.TokenLaws.{count_decimal, integer_signed}
use Rattle.format.proofs.TreeRead.{counts_back, list_parts, tree_read}
use Rattle.format.proofs.TreeText.{read_composed}

-- a text comes apart into its lines
lines_at : (t : Bytes) → lines_of (LF ∷ t) ≡ record { bytes = []; ended = true } ∷ lines_of t
unfolding lines_of
lines_at t = refl

lines_on : (b : ℕ) (t : Bytes) → (b ≡ LF → ⊥) → lines_of (b ∷ t) ≡ onto_line b (lines_of t)
unfolding lines_of
lines_on b t h = rw (ne_eqb b LF h, lines_of)

lines_seam : (s t : Bytes) → Span 32 126 s → lines_of (s ++ LF ∷ t) ≡ record { bytes = s; ended = true } ∷ lines_of t
unfolding onto_line
lines_seam [] t h = lines_at t
lines_seam (b ∷ s) t h = let l = h.0 in lines_on b (s ++ LF ∷ t) (λ e. omega arith) ∙ ap (onto_line b) (lines_seam s t h.1)

-- a key, a value and LF are a line
line_first : (k v t : Bytes) → Span 32 126 (k ++ v) → lines_of ((k ++ (v ++ LF ∷ [])) ++ t) ≡ record { bytes = k ++ v; ended = true } ∷ lines_of t
line_first k v t h =
    ap lines_of (append_assoc k (v ++ LF ∷ []) t ∙ ap (λ l. k ++ l) (append_assoc v (LF ∷ []) t) ∙ sym (append_assoc k v (LF ∷ t))) ∙
    lines_seam (k ++ v) t h

-- an entry's line, and the one behind it
abbrev pub behind_lines : Behind → (said : Option ℕ) → List Line
behind_lines nothing o = []
behind_lines owner o = owner_line o ∷ []
behind_lines (list l) o = writes_line l ∷ []

abbrev pub lines_for : (format : ℕ) → Entry → List Line
lines_for f e = line_of e ∷ behind_lines (behind f e) (owner_said e)

behind_first_line : (b : Behind) (e : Entry) (t : Bytes) → lines_of (behind_text b e ++ t) ≡ behind_lines b (owner_said e) ++ lines_of t
unfolding behind_text
behind_first_line nothing e t = refl
behind_first_line owner e t = line_first owner_key (text_of_owner (owner_said e)) t (owner_span (owner_said e))
behind_first_line (list l) e t = line_first writes_key (text_of_list l) t (writes_span l)

pub lines_all : (f : ℕ) (es : List Entry) → lines_of (flat_map (entry_text f) es) ≡ flat_map (lines_for f) es
unfolding flat_map entry_text line_text
lines_all f [] = unfold lines_of in refl
lines_all f (e ∷ es) =
    let b = behind f e in
    let later = flat_map (entry_text f) es in
    ap lines_of (append_assoc (line_text e) (behind_text b e) later) ∙
    line_first (spelling (key_of e)) (value_text e) (behind_text b e ++ later) (line_span e) ∙
    ap (λ l. line_of e ∷ l) (behind_first_line b e later ∙ ap (λ l. behind_lines b (owner_said e) ++ l) (lines_all f es))

-- the lines of a model's text, by the format that has been read
pub lines_along : (m : Model) → along lines_for at_first (lines m) ≡ flat_map (lines_for m.format) (lines m)
unfolding behind
lines_along m = along_lines lines_for (λ f h n. refl) m

-- and the lines of a text make it up again
abbrev feed : Bool → Bytes
feed true = LF ∷ []
feed false = []

abbrev text_of_lines : List Line → Bytes
text_of_lines [] = []
text_of_lines (l ∷ ls) = (l.bytes ++ feed l.ended) ++ text_of_lines ls

onto_text : (b : ℕ) (ls : List Line) → text_of_lines (onto_line b ls) ≡ b ∷ text_of_lines ls
unfolding onto_line
onto_text b [] = refl
onto_text b (l ∷ ls) = refl

lines_text : (t : Bytes) → text_of_lines (lines_of t) ≡ t
unfolding lines_of
lines_text [] = refl
lines_text (b ∷ t) = go (lines_text t) (eqb b LF) refl
  where
    go : text_of_lines (lines_of t) ≡ t → (v : Bool) → eqb b LF ≡ v → text_of_lines (elim v [ true ↦ record { bytes = []; ended = true } ∷ lines_of t | false ↦ onto_line b (lines_of t) ]) ≡ b ∷ t
    go ih true h = ap (λ l. LF ∷ l) ih ∙ ap (λ x. x ∷ t) (sym (eqb-true b LF h))
    go ih false h = onto_text b (lines_of t) ∙ ap (λ l. b ∷ l) ih

-- so texts with the same lines are the same
pub same_lines : (s t : Bytes) → lines_of s ≡ lines_of t → s ≡ t
same_lines s t h = sym (lines_text s) ∙ ap text_of_lines h ∙ lines_text t

-- the fields of a line
pub dropped : (s v : Bytes) → drop (length s) (s ++ v) ≡ v
dropped [] v = refl
dropped (b ∷ s) v = dropped s v

pub sole_part : (k : Key) (v : Bytes) → Free 44 v → parts comma (drop (length (spelling k)) (spelling k ++ v)) ≡ v ∷ []
sole_part k v h = ap (parts comma) (dropped (spelling k) v) ∙ parts_free 44 v h

pub sole_field : (k : Key) (v : Bytes) → Free 44 v → get_or (parts comma (drop (length (spelling k)) (spelling k ++ v))) 0 [] ≡ v
sole_field k v h = ap (λ l. get_or l 0 []) (sole_part k v h)

pred_back : (s : Bytes) (p : Pred) → s ≡ text_of_pred p → or_else (all P.none) (read_pred (read_words (tokens s))) ≡ p
unfolding or_else
pred_back s p e = ap (λ u. or_else (all P.none) (read_pred (read_words (tokens u)))) e ∙ ap (or_else (all P.none)) (text_read p)

-- the items of `sync=` are the list's numbers
items_nil : list_items (text_of_list []) ≡ []
unfolding list_items text_of_list joined
items_nil = refl

items_first : (s : Bytes) (b : ℕ) (t : Bytes) → s ≡ b ∷ t → list_items s ≡ parts comma s
unfolding list_items
items_first s b t e = rw e

list_first : (k : ℕ) (ks : List ℕ) (b : ℕ) (t : Bytes) → decimal k ≡ b ∷ t → text_of_list (k ∷ ks) ≡ b ∷ (t ++ led_by comma (map decimal ks))
unfolding text_of_list joined
list_first k ks b t e = ap (λ s. s ++ led_by comma (map decimal ks)) e

pub items_back : (l : List ℕ) → list_items (text_of_list l) ≡ map decimal l
items_back [] = items_nil
items_back (k ∷ ks) =
    let d = leading k in
    items_first (text_of_list (k ∷ ks)) _ _ (list_first k ks d.first d.rest d.whole) ∙ list_parts k ks

pub list_back : (l : List ℕ) → map natural_of (list_items (text_of_list l)) ≡ l
list_back l = ap (map natural_of) (items_back l) ∙ counts_back l

pub more_fields : (k : Key) (t : Bytes) (ts : List Bytes) → Free 44 t → Each (Free 44) ts → parts comma (drop (length (spelling k)) (spelling k ++ joined comma (t ∷ ts))) ≡ t ∷ ts
more_fields k t ts h f = ap (parts comma) (dropped (spelling k) (joined comma (t ∷ ts))) ∙ parts_joined comma t ts h f

the_tree_lem : (c : Tree) → compose_line (or_else (leaf 0) (some c)) ≡ compose_line c
unfolding or_else
the_tree_lem c = refl

-- what the line of an entry that breaks no row says is the entry, if that has no owner
pub entry_line : (r : Reading) (e : Entry) → fault_of r e ≡ none → owner_said e ≡ none → entry (key_of e) (line_of e) ≡ e
unfolding entry key_of owner_said numbers_in_range value_text fields field is place value_of the_pred pred_of words_in pred_tokens the_tree tree_of tree_tokens nodes_in starts_of the_starts sync_list the_range range
entry_line r (format_line n) h u = ap (λ s. format_line (natural_of s)) (sole_field format (decimal n) (decimal_free n)) ∙ ap format_line (count_decimal n)
entry_line r (actions_line n) h u = ap (λ s. actions_line (natural_of s)) (sole_field actions (decimal n) (decimal_free n)) ∙ ap actions_line (count_decimal n)
entry_line r (variables_line n) h u = ap (λ s. variables_line (natural_of s)) (sole_field variables (decimal n) (decimal_free n)) ∙ ap variables_line (count_decimal n)
entry_line r (variable_line x o) h u =
    ap (λ l. variable_line (range (integer_of (get_or l 0 [])) (integer_of (get_or l 1 []))) none) (more_fields variable (signed x.low) (signed x.high ∷ []) (signed_free x.low) (signed_free x.high, tt)) ∙
    rw (integer_signed x.low, integer_signed x.high) (ap (variable_line x) (sym u))
entry_line r (automata_line n) h u = ap (λ s. automata_line (natural_of s)) (sole_field automata (decimal n) (decimal_free n)) ∙ ap automata_line (count_decimal n)
entry_line r (sync_line l) h u = ap (λ s. sync_line (map natural_of (list_items s))) (dropped (spelling sync) (text_of_list l)) ∙ ap sync_line (list_back l)
entry_line r (locations_line n) h u = ap (λ s. locations_line (natural_of s)) (sole_field locations (decimal n) (decimal_free n)) ∙ ap locations_line (count_decimal n)
entry_line r (init_line p) h u = ap init_line (pred_back _ p (sole_field init (text_of_pred p) (pred_free p)))
entry_line r (inv_line p) h u = ap inv_line (pred_back _ p (sole_field inv (text_of_pred p) (pred_free p)))
entry_line r (edges_line n) h u = ap (λ s. edges_line (natural_of s)) (sole_field edges (decimal n) (decimal_free n)) ∙ ap edges_line (count_decimal n)
entry_line r (edge_line e) h u =
    ap (λ l. edge_line (record { from = natural_of (get_or l 0 []); action = natural_of (get_or l 1 []); to = natural_of (get_or l 2 []); update = or_else (all P.none) (read_pred (read_words (tokens (get_or l 3 [])))) }))
    (more_fields edge (decimal e.from) (decimal e.action ∷ decimal e.to ∷ text_of_pred e.update ∷ []) (decimal_free e.from) (decimal_free e.action, (decimal_free e.to, (pred_free e.update, tt)))) ∙
    rw (count_decimal e.from, count_decimal e.action, count_decimal e.to, pred_back (text_of_pred e.update) e.update refl)
entry_line r (compose_line c) h u = ap (λ s. compose_line (or_else (leaf 0) (read_tree (read_composed [] (tokens s))))) (dropped (spelling compose) (text_of_tree c)) ∙ ap (λ o. compose_line (or_else (leaf 0) o)) (tree_read c (in_range_lem r (compose_line c) h) (lists_filled_lem r c h)) ∙ the_tree_lem c
