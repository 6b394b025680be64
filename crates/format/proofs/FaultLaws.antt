-- The rows that the line of an entry breaks are those that the entry breaks; TreeFaults has the line of the tree.
use Prim.Native.Nat.{ℕ}
use mathlib.Core.Path.{◌≡◌, refl, ◌∙◌, ap}
use mathlib.Core.Bool.{Bool, true, false, not, ◌&&◌, ◌||◌, or-false}
use mathlib.Core.List.{List, [], ◌∷◌, ◌++◌, map}
use mathlib.Core.Option.{Option, none, some}
use native.Mathlib.Omega.{arith}
use borrow.Author.Tests.{le-leb, eq-eqb}
use lib.Dec.{leb}
use lib.ListN.{length, get_or, drop}
use lib.IntN.{ℤ, pos}
use Rattle.model.specs.Basic.{between, every, exists, lacks, or_else}
use Rattle.model.specs.Bounds.{first_format, greatest_number, last_format, last_location, least_number, max_actions, max_automata, max_edges, max_locations, max_variables}
use Rattle.model.specs.Limits.{broken, fault_of, in_range, is_beyond, is_crossed, is_early, is_foreign, is_too_deep, exceeds_span, numbers_in_range, owner_in_range, passes_edges, passes_nodes, pred_fault, rises, content_fault, location_fault, variable_count}
use Rattle.model.specs.Lines.{Entry, Key, Reading, actions, actions_line, automata, automata_line, compose, compose_line, edge, edge_line, edges, edges_line, format, format_line, init, init_line, inv, inv_line, key_of, locations, locations_line, sync, sync_line, variable, variable_line, variables, variables_line}
use Rattle.model.specs.Model.{Edge}
use Rattle.model.specs.Parse.{read_pred}
use Rattle.model.specs.Predicate as P
use Rattle.model.specs.Predicate.{Pred, Range, all, names_outside, range, words, written}
use Rattle.model.proofs.Tests.{and_intro, and_same}
use Rattle.model.proofs.Decode.{not_broken}
use Rattle.format.specs.Bytes.{Bytes, begins, comma, parts}
use Rattle.format.specs.Number.{natural_of, decimal, integer_of, signed, within}
use Rattle.format.specs.Rows.{Line, fault, field, field_count, fields, has_pred, is, list_items, numbers_sound, place, pred_of, pred_tokens, words_in, printable, row10, row11, row12, row13, row14, row15, row16, row50, row2, row3, row4, row5, row6, row7, row8, row9, sync_list, the_pred, the_range, value_of}
use Rattle.format.specs.Spelling.{spelling, text_of_list, text_of_pred, value_text}
use Rattle.format.specs.Tokens.{read_words, sounds, tokens}
use Rattle.format.proofs.EntryLines.{dropped, items_back, list_back, more_fields, sole_field, sole_part}
use Rattle.format.proofs.LineLaws.{line_of}
use Rattle.format.proofs.PredText.{plain_nil, sounds_words, text_read, text_words, tokens_text}
use Rattle.format.proofs.Spans.{Span, decimal_free, line_span, pred_free, signed_free}
use Rattle.format.proofs.TokenLaws.{count_decimal, integer_signed, within_signed}

-- its bytes are printable
pub print_every : (s : Bytes) → Span 32 126 s → every printable s ≡ true
unfolding every printable
print_every [] h = refl
print_every (b ∷ s) h = and_intro (and_intro (le-leb 32 b h.0.0) (le-leb b 126 h.0.1)) (print_every s h.1)

-- it begins with its key
pub begins_self : (s v : Bytes) → begins s (s ++ v) ≡ true
unfolding begins
begins_self [] v = refl
begins_self (b ∷ s) v = rw (eq-eqb b b refl, begins) (begins_self s v)

-- its fields are as many as they should be
field_number : (e : Entry) → length (fields (key_of e) (line_of e)) ≡ field_count (key_of e)
unfolding fields field_count key_of is place value_of value_text
field_number (format_line n) = ap length (sole_part format (decimal n) (decimal_free n))
field_number (actions_line n) = ap length (sole_part actions (decimal n) (decimal_free n))
field_number (variables_line n) = ap length (sole_part variables (decimal n) (decimal_free n))
field_number (variable_line x o) = ap length (more_fields variable (signed x.low) (signed x.high ∷ []) (signed_free x.low) (signed_free x.high, tt))
field_number (automata_line n) = ap length (sole_part automata (decimal n) (decimal_free n))
field_number (sync_line l) = refl
field_number (locations_line n) = ap length (sole_part locations (decimal n) (decimal_free n))
field_number (init_line p) = ap length (sole_part init (text_of_pred p) (pred_free p))
field_number (inv_line p) = ap length (sole_part inv (text_of_pred p) (pred_free p))
field_number (edges_line n) = ap length (sole_part edges (decimal n) (decimal_free n))
field_number (edge_line e) = ap length (more_fields edge (decimal e.from) (decimal e.action ∷ decimal e.to ∷ text_of_pred e.update ∷ []) (decimal_free e.from) (decimal_free e.action, (decimal_free e.to, (pred_free e.update, tt))))
field_number (compose_line c) = refl

-- so the line of an entry breaks no row 2
pub row2_of : (e : Entry) → row2 (key_of e) (line_of e) ≡ false
unfolding row2
row2_of e =
    rw (
      begins_self (spelling (key_of e)) (value_text e),
      eq-eqb _ _ (field_number e),
      print_every (spelling (key_of e) ++ value_text e) (line_span e),
    )

within_nat : (lo hi n : ℕ) → within (pos lo) (pos hi) (decimal n) ≡ leb lo n && leb n hi
unfolding signed between
within_nat lo hi n = within_signed (pos lo) (pos hi) (pos n)

pub within_zero : (hi n : ℕ) → within (pos 0) (pos hi) (decimal n) ≡ leb n hi
within_zero hi n = within_nat 0 hi n ∙ rw (le-leb 0 n (omega arith))

pub every_decimal : (top : ℕ) (l : List ℕ) → every (within (pos 0) (pos top)) (map decimal l) ≡ every (λ k. leb k top) l
unfolding every
every_decimal top [] = refl
every_decimal top (k ∷ ks) = and_same (within_zero top k) (every_decimal top ks)

-- the field of a line that has one
abbrev sole : Key → Bytes → Bytes
sole k v = get_or (parts comma (drop (length (spelling k)) (spelling k ++ v))) 0 []

module _ (r : Reading) where
  -- a line that is one number: row 3, and then what the number breaks
  one_number : (e : Entry) (n : ℕ) (low high : ℤ) (b : Bool) (rest : ℕ → Option ℕ)
      → fault r (key_of e) (line_of e) ≡ broken 2 (row2 (key_of e) (line_of e)) (broken 3 (not (within low high (sole (key_of e) (decimal n)))) (rest (natural_of (sole (key_of e) (decimal n)))))
      → within low high (decimal n) ≡ b → fault r (key_of e) (line_of e) ≡ broken 3 (not b) (rest n)
  one_number e n low high b rest h w =
      h ∙ not_broken 2 (row2 (key_of e) (line_of e)) _ (row2_of e) ∙
      ap (λ s. broken 3 (not (within low high s)) (rest (natural_of s))) (sole_field (key_of e) (decimal n) (decimal_free n)) ∙
      rw (w, count_decimal n)

  pub format_fault : (n : ℕ) → fault r format (line_of (format_line n)) ≡ fault_of r (format_line n)
  unfolding fault row3 row4 row5 row6 row7 row8 row9 row10 row11 row12 row13 row14 row15 row16 row50 is place has_pred broken key_of numbers_sound field fields value_of value_text fault_of content_fault numbers_in_range
  format_fault n = one_number (format_line n) n (pos first_format) (pos last_format) (leb first_format n && leb n last_format) (λ k. none) refl (within_nat first_format last_format n)

  pub actions_fault : (n : ℕ) → fault r actions (line_of (actions_line n)) ≡ fault_of r (actions_line n)
  unfolding fault row3 row4 row5 row6 row7 row8 row9 row10 row11 row12 row13 row14 row15 row16 row50 is place has_pred broken key_of numbers_sound field fields value_of value_text fault_of content_fault numbers_in_range
  actions_fault n = one_number (actions_line n) n (pos 0) (pos max_actions) (leb n max_actions) (λ k. none) refl (within_zero max_actions n)

  pub variables_fault : (n : ℕ) → fault r variables (line_of (variables_line n)) ≡ fault_of r (variables_line n)
  unfolding fault row3 row4 row5 row6 row7 row8 row9 row10 row11 row12 row13 row14 row15 row16 row50 is place has_pred broken key_of numbers_sound field fields value_of value_text fault_of content_fault numbers_in_range
  variables_fault n = one_number (variables_line n) n (pos 0) (pos max_variables) (leb n max_variables) (λ k. none) refl (within_zero max_variables n)

  pub automata_fault : (n : ℕ) → fault r automata (line_of (automata_line n)) ≡ fault_of r (automata_line n)
  unfolding fault row3 row4 row5 row6 row7 row8 row9 row10 row11 row12 row13 row14 row15 row16 row50 is place has_pred broken key_of numbers_sound field fields value_of value_text fault_of content_fault numbers_in_range
  automata_fault n = one_number (automata_line n) n (pos 1) (pos max_automata) (leb 1 n && leb n max_automata) (λ k. broken 50 (exists (is_beyond k) r.model.owners) none) refl (within_nat 1 max_automata n)

  pub locations_fault : (n : ℕ) → fault r locations (line_of (locations_line n)) ≡ fault_of r (locations_line n)
  unfolding fault row3 row4 row5 row6 row7 row8 row9 row10 row11 row12 row13 row14 row15 row16 row50 is place has_pred broken key_of numbers_sound field fields value_of value_text fault_of content_fault numbers_in_range
  locations_fault n = one_number (locations_line n) n (pos 1) (pos max_locations) (leb 1 n && leb n max_locations) (λ k. none) refl (within_nat 1 max_locations n)

  pub edges_fault : (n : ℕ) → fault r edges (line_of (edges_line n)) ≡ fault_of r (edges_line n)
  unfolding fault row3 row4 row5 row6 row7 row8 row9 row10 row11 row12 row13 row14 row15 row16 row50 is place has_pred broken key_of numbers_sound field fields value_of value_text fault_of content_fault numbers_in_range
  edges_fault n = one_number (edges_line n) n (pos 0) (pos max_edges) (leb n max_edges) (λ k. broken 15 (passes_edges r k) none) refl (within_zero max_edges n)

  -- the tokens of a predicate are sound exactly when its numbers are in range
  sounds_of : (p : Pred) → sounds [] (tokens (text_of_pred p)) ≡ every in_range (words p)
  sounds_of p = ap (sounds []) (tokens_text p) ∙ sounds_words p [] plain_nil

  -- a line with P, which is not that of the composition
  abbrev HasPred : Key → Type 0
  HasPred k = (has_pred k ≡ true) × (is k compose ≡ false)

  -- rows 3 and 6 to 11 of a line with P
  module _ (k : Key) (l : Line) (p : Pred) (t : pred_tokens k l ≡ tokens (text_of_pred p)) (has : HasPred k) where
    its_words : words_in k l ≡ words p
    unfolding words_in
    its_words = ap read_words t ∙ text_words p

    its_p : pred_of k l ≡ some p
    unfolding pred_of words_in
    its_p = ap (λ x. read_pred (read_words x)) t ∙ text_read p

    its_pred : the_pred k l ≡ p
    unfolding the_pred or_else
    its_pred = ap (or_else (all P.none)) its_p

    r6 : row6 k l ≡ false
    unfolding row6 lacks
    r6 = rw (has.0, has.1, its_p)

    r7 : row7 r k l ≡ names_outside (variable_count r) (words p)
    unfolding row7
    r7 = rw (has.0, has.1, its_words)

    r9 : row9 k l ≡ is_too_deep p
    unfolding row9
    r9 = rw (has.0, has.1, its_pred)

    r10 : row10 r k l ≡ exceeds_span r.model.variables p
    unfolding row10
    r10 = rw (has.0, has.1, its_pred)

    r11 : row11 r k l ≡ passes_nodes r.nodes (words p)
    unfolding row11
    r11 = rw (has.0, has.1, its_words)

  init_tokens : (p : Pred) → pred_tokens init (line_of (init_line p)) ≡ tokens (text_of_pred p)
  unfolding pred_tokens is place field fields value_of value_text key_of
  init_tokens p = ap tokens (sole_field init (text_of_pred p) (pred_free p))

  inv_tokens : (p : Pred) → pred_tokens inv (line_of (inv_line p)) ≡ tokens (text_of_pred p)
  unfolding pred_tokens is place field fields value_of value_text key_of
  inv_tokens p = ap tokens (sole_field inv (text_of_pred p) (pred_free p))

  has_init : HasPred init
  unfolding has_pred is place
  has_init = (refl, refl)

  has_inv : HasPred inv
  unfolding has_pred is place
  has_inv = (refl, refl)

  pub init_fault : (p : Pred) → fault r init (line_of (init_line p)) ≡ fault_of r (init_line p)
  unfolding fault fault_of content_fault location_fault pred_fault numbers_in_range row3 row4 row5 row8 row12 row13 row14 row15 row16 row50 is place broken key_of numbers_sound
  init_fault p =
      let t = init_tokens p in
      rw (row2_of (init_line p), t, sounds_of p, r6 init (line_of (init_line p)) p t has_init, r7 init (line_of (init_line p)) p t has_init, its_words init (line_of (init_line p)) p t has_init, r9 init (line_of (init_line p)) p t has_init, r10 init (line_of (init_line p)) p t has_init, r11 init (line_of (init_line p)) p t has_init)

  pub inv_fault : (p : Pred) → fault r inv (line_of (inv_line p)) ≡ fault_of r (inv_line p)
  unfolding fault fault_of content_fault location_fault pred_fault numbers_in_range row3 row4 row5 row8 row12 row13 row14 row15 row16 row50 is place broken key_of numbers_sound
  inv_fault p =
      let t = inv_tokens p in
      rw (row2_of (inv_line p), t, sounds_of p, r6 inv (line_of (inv_line p)) p t has_inv, r7 inv (line_of (inv_line p)) p t has_inv, its_words inv (line_of (inv_line p)) p t has_inv, r9 inv (line_of (inv_line p)) p t has_inv, r10 inv (line_of (inv_line p)) p t has_inv, r11 inv (line_of (inv_line p)) p t has_inv)

  -- its owner is said behind it
  pub variable_fault : (x : Range) → fault r variable (line_of (variable_line x none)) ≡ fault_of r (variable_line x none)
  unfolding fault fault_of content_fault numbers_in_range row3 row4 row5 row6 row7 row8 row9 row10 row11 row12 row13 row14 row15 row16 row50 is place has_pred broken key_of numbers_sound field fields value_of value_text the_range sync_list range every is_early owner_in_range
  variable_fault x =
      let e = more_fields variable (signed x.low) (signed x.high ∷ []) (signed_free x.low) (signed_free x.high, tt) in
      not_broken 2 (row2 variable (line_of (variable_line x none))) _ (row2_of (variable_line x none)) ∙
      ap (λ (q : List Bytes). broken 3 (not (every (within least_number greatest_number) q)) (broken 4 (is_crossed (range (integer_of (get_or q 0 [])) (integer_of (get_or q 1 [])))) none)) e ∙
      rw (within_signed least_number greatest_number x.low, within_signed least_number greatest_number x.high, integer_signed x.low, integer_signed x.high)

  pub sync_fault_lem : (l : List ℕ) → fault r sync (line_of (sync_line l)) ≡ fault_of r (sync_line l)
  unfolding fault fault_of content_fault numbers_in_range row3 row4 row5 row6 row7 row8 row9 row10 row11 row12 row13 row14 row15 row16 row50 is place has_pred broken key_of numbers_sound field fields value_of value_text the_range sync_list range every
  sync_fault_lem l =
      not_broken 2 (row2 sync (line_of (sync_line l))) _ (row2_of (sync_line l)) ∙
      ap (λ (v : Bytes). broken 3 (not (every (within (pos 0) (pos max_actions)) (list_items v))) (broken 5 (not (rises r.model.actions 0 (map natural_of (list_items v))) || false) none)) (dropped (spelling sync) (text_of_list l)) ∙
      rw (list_back l, items_back l, every_decimal max_actions l, or-false (not (rises r.model.actions 0 l)))

  edge_tokens : (e : Edge) → pred_tokens edge (line_of (edge_line e)) ≡ tokens (text_of_pred e.update)
  unfolding pred_tokens is place field fields value_of value_text key_of
  edge_tokens e = ap (λ (q : List Bytes). tokens (get_or q 3 [])) (more_fields edge (decimal e.from) (decimal e.action ∷ decimal e.to ∷ text_of_pred e.update ∷ []) (decimal_free e.from) (decimal_free e.action, (decimal_free e.to, (pred_free e.update, tt))))

  has_edge : HasPred edge
  unfolding has_pred is place
  has_edge = (refl, refl)

  edge_fields : (e : Edge) → fields edge (line_of (edge_line e)) ≡ decimal e.from ∷ decimal e.action ∷ decimal e.to ∷ text_of_pred e.update ∷ []
  unfolding is place fields value_of value_text key_of
  edge_fields e = more_fields edge (decimal e.from) (decimal e.action ∷ decimal e.to ∷ text_of_pred e.update ∷ []) (decimal_free e.from) (decimal_free e.action, (decimal_free e.to, (pred_free e.update, tt)))

  -- row 51 is tried behind it
  pub edge_fault : (e : Edge) → is_foreign r (written e.update) ≡ false → fault r edge (line_of (edge_line e)) ≡ fault_of r (edge_line e)
  unfolding fault fault_of content_fault location_fault pred_fault numbers_in_range row3 row4 row5 row8 row12 row13 row14 row15 row16 row50 is place broken key_of numbers_sound field
  edge_fault e own =
      let t = edge_tokens e in
      rw (row2_of (edge_line e), t, sounds_of e.update, r6 edge (line_of (edge_line e)) e.update t has_edge, r7 edge (line_of (edge_line e)) e.update t has_edge, r9 edge (line_of (edge_line e)) e.update t has_edge, r10 edge (line_of (edge_line e)) e.update t has_edge, r11 edge (line_of (edge_line e)) e.update t has_edge, edge_fields e, within_zero last_location e.from, within_zero max_actions e.action, within_zero last_location e.to, count_decimal e.from, count_decimal e.action, count_decimal e.to, own)
