-- Line by line: what the writer writes for a model's table is the model's text.
use Prim.Native.Nat.{ℕ, zero, suc, ◌+◌, ◌≤◌, ◌<◌}
use mathlib.Core.Path.{◌≡◌, refl, sym, ◌∙◌, ap, ap₂}
use mathlib.Core.Bool.{Bool, true, false, not}
use mathlib.Core.List.{List, [], ◌∷◌, ◌++◌, flat_map, append_assoc, append-nil}
use mathlib.Core.Option.{Option, none}
use native.Mathlib.Omega.{arith}
use lib.Dec.{leb, eqb}
use borrow.Author.Tests.{ltb-false}
use lib.ListN.{length, get_or, drop}
use Rattle.model.specs.Basic.{lacks, between}
use Rattle.model.specs.Bounds.{max_tree_nodes, least_number, greatest_number, writes_format, owners_format, table_words}
use Rattle.model.specs.Predicate.{Pred, Range, node_count, written}
use Rattle.model.specs.Composition.{Tree, tree_size}
use Rattle.model.specs.Model.{Edge, Model}
use Rattle.model.specs.Lines.{Key as LineKey, compose, Entry, format_line, actions_line, variables_line, variable_line, automata_line, sync_line, locations_line, init_line, inv_line, edges_line, edge_line, compose_line, key_of, lines, due_at_first, then_due, Reading, at_first, noted}
use Rattle.model.specs.Limits.{owner_in_range, numbers_in_range, rises, tree_rises, lists_filled, is_disordered, is_too_large, content_fault, fault_of, within_limits, limits}
use Rattle.model.specs.Lawful.{Lawful}
use Rattle.model.specs.Table.{set_words, pred_words, line_words, sheet_words, Opened, unopened, opened, open_table}
use Rattle.model.proofs.Tests.{and_left, and_right}
use Rattle.model.proofs.Decode.{number_back, none_lacks, unbroken, in_range_lem, unsaid, lists_filled_lem, update_ranged, owner_back}
use Rattle.model.proofs.LimitLines.{starts_clear}
use Rattle.model.proofs.Bits.{set_back}
use Rattle.model.proofs.LinesLaws.{Follows, follow_lines, along, along_lines}
use Rattle.model.proofs.LimitsLaws.{lawful_is}
use Rattle.model.proofs.Sizes.{lines_few}
use Rattle.table_places.proofs.Opened.{sheet_of}
use Rattle.line_order.specs.declared.Key.{Key}
use Rattle.line_order.specs.declared.Due.{Due}
use Rattle.line_order.specs.Due.{is_edge, is_variable, is_listed, is_owned, is_end, due_first, due_after_key, due_after, keys_due, later_keys, later_due, code_of, number_of}
use Rattle.line_order.proofs.KeyLaws.{no_end}
use Rattle.line_order.proofs.DueLaws.{due_first_lem, format_first, format_after, due_key, due_later, due_end, due_after_lem}
use Rattle.std.proofs.Common.{Result, Ok, Err}
use Rattle.std.specs.Prelude.{⊤}
use Rattle.model.specs.declared.Row.{Row}
use Rattle.model.specs.Row.{row}
use Rattle.table_check.specs.Check.{answered}
use Rattle.format.specs.Bytes.{Bytes, led_by, joined, comma, LF}
use Rattle.format.specs.Number.{decimal, signed}
use Rattle.format.specs.Spelling.{spelling, text_of_list, text_of_pred, value_text, line_text, nothing, owner, list, behind, owner_said, text_of_owner, owner_key, behind_text, entry_text, text_of}
use Rattle.format.specs.Writer.{write_answer, buffer_after}
use Rattle.format.proofs.FitsLaws.{text_fits}
use Rattle.write_words.specs.Text.{range_text, field_text, edge_text, value_of, key_text, line_of, size_of, writes_text, owner_text, behind_of, entry_of, lines_from, sheet_text}
use Rattle.write_words.specs.Answer.{copy_answer, room_answer, given, Answered}
use Rattle.writer.proofs.TextLaws.{predicate_text_lem, writes_text_lem, past_nodes, tree_text_lem}
use Rattle.write_words.proofs.SheetLaws.{lines_end, lines_on, with_room}

-- four items with commas between them
fields : (a b c t : Bytes) → (a ++ (comma ∷ [])) ++ (b ++ (comma ∷ [])) ++ (c ++ (comma ∷ [])) ++ t ≡ a ++ (comma ∷ (b ++ (comma ∷ (c ++ (comma ∷ (t ++ []))))))
fields a b c t = simp (append_assoc, append-nil)

-- row 16
few_nodes : (r : Reading) (c : Tree) → fault_of r (compose_line c) ≡ none → tree_size c ≤ max_tree_nodes
unfolding fault_of content_fault is_too_large lacks
few_nodes r c h =
    let a = (unbroken 5 (not (tree_rises r.model.actions c)) _ (unbroken 3 (not (numbers_in_range (compose_line c))) _ h).1).1 in
    let b = none_lacks _ ((starts_clear r c _).0 (ap lacks a)).5 in
    let d = (unbroken 14 (is_disordered (length r.model.automata) c) _ (unbroken 13 (not (lists_filled c)) _ b).1).1 in
    ltb-false max_tree_nodes (tree_size c) (unbroken 16 (is_too_large (tree_size c)) none d).0

-- the value of a line that breaks no row
value_text_lem : (r : Reading) (e : Entry) (rest : List ℕ) → fault_of r e ≡ none → value_of (code_of (key_of e)) (line_words e ++ rest) ≡ value_text e
unfolding value_of code_of key_of line_words value_text set_words numbers_in_range content_fault range_text edge_text field_text joined led_by
value_text_lem r (format_line n) rest h = refl
value_text_lem r (actions_line n) rest h = refl
value_text_lem r (variables_line n) rest h = refl
value_text_lem r (variable_line x o) rest h =
    let z = in_range_lem r (variable_line x o) h in
    let low = number_back x.low (and_left (between least_number greatest_number x.low) _ z) in
    let ends = and_right (between least_number greatest_number x.low) _ z in
    let high = number_back x.high (and_left (between least_number greatest_number x.high) (owner_in_range o) ends) in
    rw (low, high) (ap (λ (b : Bytes). signed x.low ++ (comma ∷ b)) (sym (append-nil (signed x.high))))
value_text_lem r (automata_line n) rest h = refl
value_text_lem r (sync_line l) rest h =
    ap text_of_list (set_back r.model.actions l (unsaid r (sync_line l) 5 (rises r.model.actions 0 l) none h refl) (in_range_lem r (sync_line l) h))
value_text_lem r (locations_line n) rest h = refl
value_text_lem r (init_line p) rest h = predicate_text_lem p rest (in_range_lem r (init_line p) h)
value_text_lem r (inv_line p) rest h = predicate_text_lem p rest (in_range_lem r (inv_line p) h)
value_text_lem r (edges_line n) rest h = refl
value_text_lem r (edge_line e) rest h =
    let p = predicate_text_lem e.update rest (update_ranged r e h) in
    ap (λ (t : Bytes). field_text e.from ++ field_text e.action ++ field_text e.to ++ t) p ∙
    fields (decimal e.from) (decimal e.action) (decimal e.to) (text_of_pred e.update)
value_text_lem r (compose_line c) rest h =
    let up : tree_rises r.model.actions c ≡ true = unsaid r (compose_line c) 5 (tree_rises r.model.actions c) _ h refl in
    tree_text_lem r.model.actions c rest up (lists_filled_lem r c h) (in_range_lem r (compose_line c) h) (few_nodes r c h)

key_text_lem : (e : Entry) → key_text (code_of (key_of e)) ≡ spelling (key_of e)
unfolding key_text code_of key_of
key_text_lem (format_line n) = refl
key_text_lem (actions_line n) = refl
key_text_lem (variables_line n) = refl
key_text_lem (variable_line x o) = refl
key_text_lem (automata_line n) = refl
key_text_lem (sync_line l) = refl
key_text_lem (locations_line n) = refl
key_text_lem (init_line p) = refl
key_text_lem (inv_line p) = refl
key_text_lem (edges_line n) = refl
key_text_lem (edge_line e) = refl
key_text_lem (compose_line c) = refl

line_text_lem : (r : Reading) (e : Entry) (rest : List ℕ) → fault_of r e ≡ none → line_of (code_of (key_of e)) (line_words e ++ rest) ≡ line_text e
unfolding line_of line_text
line_text_lem r e rest h =
    ap₂ (λ (k v : Bytes). k ++ v ++ (LF ∷ [])) (key_text_lem e) (value_text_lem r e rest h) ∙ append_assoc (spelling (key_of e)) (value_text e) (LF ∷ [])

-- the line behind it
module _ (d : Due) (ws : List ℕ) where
  behind_owned : is_owned d ≡ true → behind_of d ws ≡ owner_text ws
  unfolding behind_of
  behind_owned h = rw (h, behind_of)

  behind_listed : is_owned d ≡ false → is_listed d ≡ true → behind_of d ws ≡ writes_text ws
  unfolding behind_of
  behind_listed h k = rw (h, behind_of, k, behind_of)

  behind_nothing : is_owned d ≡ false → is_listed d ≡ false → behind_of d ws ≡ []
  unfolding behind_of
  behind_nothing h k = rw (h, behind_of, k, behind_of)

owner_text_lem : (x : Range) (o : Option ℕ) (rest : List ℕ) → owner_text (line_words (variable_line x o) ++ rest) ≡ behind_text owner (variable_line x o)
unfolding owner_text line_words behind_text owner_said
owner_text_lem x o rest =
    ap (λ (p : Option ℕ). owner_key ++ text_of_owner p ++ (LF ∷ [])) (owner_back o) ∙ append_assoc owner_key (text_of_owner o) (LF ∷ [])

module _ (d : Due) where
  behind_variable : (x : Range) (o : Option ℕ) (rest : List ℕ) → is_listed d ≡ false → (b : Bool) → is_owned d ≡ b
      → behind_of d (line_words (variable_line x o) ++ rest) ≡ behind_text (elim b [ true ↦ owner | false ↦ nothing ]) (variable_line x o)
  unfolding behind_text
  behind_variable x o rest l true k = behind_owned d _ k ∙ owner_text_lem x o rest
  behind_variable x o rest l false k = behind_nothing d _ k l

  behind_edge : (r : Reading) (e : Edge) (rest : List ℕ) → fault_of r (edge_line e) ≡ none → is_owned d ≡ false → (b : Bool) → is_listed d ≡ b
      → behind_of d (line_words (edge_line e) ++ rest) ≡ behind_text (elim b [ true ↦ list (written e.update) | false ↦ nothing ]) (edge_line e)
  unfolding line_words behind_text
  behind_edge r e rest h o true l = behind_listed d _ o l ∙ writes_text_lem e.from e.action e.to e.update rest (update_ranged r e h)
  behind_edge r e rest h o false l = behind_nothing d _ o l

  behind_text_lem : (r : Reading) (e : Entry) (rest : List ℕ) → d.key ≡ code_of (key_of e) → fault_of r e ≡ none → behind_of d (line_words e ++ rest) ≡ behind_text (behind d.format e) e
  unfolding is_listed is_edge is_owned is_variable code_of key_of behind behind_text
  behind_text_lem r (format_line n) rest k h = behind_nothing d _ (rw k) (rw k)
  behind_text_lem r (actions_line n) rest k h = behind_nothing d _ (rw k) (rw k)
  behind_text_lem r (variables_line n) rest k h = behind_nothing d _ (rw k) (rw k)
  behind_text_lem r (variable_line x o) rest k h = behind_variable x o rest (rw k) (leb owners_format d.format) (rw k)
  behind_text_lem r (automata_line n) rest k h = behind_nothing d _ (rw k) (rw k)
  behind_text_lem r (sync_line l) rest k h = behind_nothing d _ (rw k) (rw k)
  behind_text_lem r (locations_line n) rest k h = behind_nothing d _ (rw k) (rw k)
  behind_text_lem r (init_line p) rest k h = behind_nothing d _ (rw k) (rw k)
  behind_text_lem r (inv_line p) rest k h = behind_nothing d _ (rw k) (rw k)
  behind_text_lem r (edges_line n) rest k h = behind_nothing d _ (rw k) (rw k)
  behind_text_lem r (edge_line e) rest k h = behind_edge r e rest h (rw k) (leb writes_format d.format) (rw k)
  behind_text_lem r (compose_line c) rest k h = behind_nothing d _ (rw k) (rw k)

  entry_text_lem : (r : Reading) (e : Entry) (rest : List ℕ) → d.key ≡ code_of (key_of e) → fault_of r e ≡ none → entry_of d (line_words e ++ rest) ≡ entry_text d.format e
  unfolding entry_of entry_text
  entry_text_lem r e rest k h =
      ap₂ (λ (a b : Bytes). a ++ b) (ap (λ (q : Key). line_of q (line_words e ++ rest)) k ∙ line_text_lem r e rest h) (behind_text_lem r e rest k h)

-- what is due after it
due_counted : (e : Entry) (d : Due) (rest : List ℕ) → due_after_key (code_of (key_of e)) d (get_or (line_words e ++ rest) 0 0) ≡ due_after_key (code_of (key_of e)) d (number_of e)
unfolding due_after_key code_of key_of line_words number_of
due_counted (format_line n) d rest = refl
due_counted (actions_line n) d rest = refl
due_counted (variables_line n) d rest = refl
due_counted (variable_line x o) d rest = refl
due_counted (automata_line n) d rest = refl
due_counted (sync_line l) d rest = refl
due_counted (locations_line n) d rest = refl
due_counted (init_line p) d rest = refl
due_counted (inv_line p) d rest = refl
due_counted (edges_line n) d rest = refl
due_counted (edge_line e) d rest = refl
due_counted (compose_line c) d rest = refl

-- past a predicate's words
past_predicate : (p : Pred) (rest : List ℕ) → drop (1 + node_count p) (pred_words p ++ rest) ≡ rest
unfolding pred_words
past_predicate p rest =
    let e : 1 + node_count p ≡ suc (node_count p) = omega arith in
    rw e (past_nodes p rest)

past_edge : (a b c n : ℕ) (ws : List ℕ) → drop (4 + n) (a ∷ b ∷ c ∷ ws) ≡ drop (1 + n) ws
past_edge a b c n ws =
    let e : 4 + n ≡ suc (suc (suc (1 + n))) = omega arith in
    rw e

-- after a line the words of the lines that follow stand, up to some rest
Stands : List Entry → List ℕ → Type 0
Stands es ws = (rest : List ℕ) × (ws ≡ flat_map line_words es ++ rest)

none_follow : (es : List Entry) (r : Reading) (ks : List LineKey) (m : Model) → ks ≡ [] → Follows es r ks m → (ws : List ℕ) → Stands es ws
unfolding Stands flat_map
none_follow [] r ks m e f ws = (ws, refl)
none_follow (x ∷ es) r ks m e f ws = absurd (rw e at f)

-- the composition is the last line
none_later : (d : Due) (ks : List LineKey) → keys_due d ≡ compose ∷ ks → ks ≡ []
unfolding later_due later_keys code_of
none_later d ks k = sym (due_later d compose ks k) ∙ ap (λ (q : Key). later_keys q d) (due_key d compose ks k)

module _ (m : Model) (d : Due) (r : Reading) (es : List Entry) (rest : List ℕ) where
  after_line : (e : Entry) (ks : List LineKey) → keys_due d ≡ key_of e ∷ ks → Follows es (noted r e) (then_due r.model.format e ++ ks) m
      → Stands es (drop (size_of (code_of (key_of e)) (line_words e ++ (flat_map line_words es ++ rest))) (line_words e ++ (flat_map line_words es ++ rest)))
  unfolding Stands size_of code_of key_of line_words set_words pred_words node_count then_due
  after_line (format_line n) ks k f = (rest, refl)
  after_line (actions_line n) ks k f = (rest, refl)
  after_line (variables_line n) ks k f = (rest, refl)
  after_line (variable_line x o) ks k f = (rest, refl)
  after_line (automata_line n) ks k f = (rest, refl)
  after_line (sync_line l) ks k f = (rest, refl)
  after_line (locations_line n) ks k f = (rest, refl)
  after_line (init_line p) ks k f = (rest, past_predicate p (flat_map line_words es ++ rest))
  after_line (inv_line p) ks k f = (rest, past_predicate p (flat_map line_words es ++ rest))
  after_line (edges_line n) ks k f = (rest, refl)
  after_line (edge_line e) ks k f =
      let ws = pred_words e.update ++ (flat_map line_words es ++ rest) in
      (rest, past_edge e.from e.action e.to (node_count e.update) ws ∙ past_predicate e.update (flat_map line_words es ++ rest))
  after_line (compose_line c) ks k f = none_follow es (noted r (compose_line c)) ks m (none_later d ks k) f _

-- the text of a model, by the format that has been read
text_along : (m : Model) → along entry_text at_first (lines m) ≡ text_of m
unfolding text_of entry_text behind behind_text
text_along m = along_lines entry_text (λ f h n. refl) m

-- all lines that follow
lines_text : (es : List Entry) (r : Reading) (ks : List LineKey) (m : Model) (d : Due) → d.format ≡ r.model.format → keys_due d ≡ ks → Follows es r ks m → within_limits r es ≡ true → (n : ℕ) → length es < n → (rest : List ℕ)
    → lines_from n d (flat_map line_words es ++ rest) ≡ along entry_text r es
unfolding within_limits flat_map due_after Stands is_end
lines_text es r ks m d x k f h zero l rest = absurd (omega arith)
lines_text [] r [] m d x k f h (suc n) l rest = lines_end n d rest (ap is_end (due_end d k))
lines_text [] r (k' ∷ ks) m d x k f h (suc n) l rest = absurd f
lines_text (e ∷ es) r [] m d x k f h (suc n) l rest = absurd f
lines_text (e ∷ es) r (k' ∷ ks) m d x k f h (suc n) l rest =
    let ok = none_lacks (fault_of r e) (and_left (lacks (fault_of r e)) _ h) in
    let keys : keys_due d ≡ key_of e ∷ ks = k ∙ ap (λ (j : LineKey). j ∷ ks) (sym f.0) in
    let key : d.key ≡ code_of (key_of e) = due_key d (key_of e) ks keys in
    let later = flat_map line_words es ++ rest in
    let ws = line_words e ++ later in
    let next = after_line m d r es rest e ks keys f.1 in
    let due : due_after d (get_or ws 0 0) ≡ due_after d (number_of e) =
    ap (λ (q : Key). due_after_key q d (get_or ws 0 0)) key ∙ due_counted e d later ∙ ap (λ (q : Key). due_after_key q d (number_of e)) (sym key) in
    let others = lines_text es (noted r e) (then_due r.model.format e ++ ks) m (due_after d (number_of e)) (format_after d r x e ks keys) (due_after_lem d r x e ks keys) f.1 (and_right (lacks (fault_of r e)) _ h) n (omega arith) next.0 in
    ap (lines_from (suc n) d) (append_assoc (line_words e) (flat_map line_words es) rest) ∙
    lines_on n d ws (ap is_end key ∙ no_end (key_of e)) ∙
    ap₂ (λ (a b : Bytes). a ++ b) (entry_text_lem d r e later key ok ∙ ap (λ (f : ℕ). entry_text f e) x)
    (ap (λ (y : Due). lines_from n y (drop (size_of d.key ws) ws)) due ∙
    ap (lines_from n (due_after d (number_of e))) (ap (λ (q : Key). drop (size_of q ws) ws) key ∙ next.1) ∙
    others)

module _ (m : Model) (h : Lawful m) (t rest : List ℕ) (stands : t ≡ sheet_words m ++ rest) where
  -- what is written for words that begin with a model's is the model's text
  pub sheet_text_lem : sheet_text t ≡ text_of m
  unfolding sheet_text sheet_words limits
  sheet_text_lem =
      let few = lines_few m h in
      ap (lines_from (suc table_words) due_first) stands ∙
      lines_text (lines m) at_first due_at_first m due_first format_first due_first_lem (follow_lines m h.owners_are) (and_right (eqb (length m.owners) (length m.variables)) _ ((lawful_is m).1 h)) (suc table_words) (omega arith) rest ∙
      text_along m

  -- and it fits
  pub words_text : (room : ℕ) → 65536 ≤ room → (old : Bytes) → room_answer room (sheet_text t) (length old) ≡ copy_answer (text_of m) (length old)
  words_text room big old =
      let l = text_fits m h in
      let k : length (text_of m) ≤ room = omega arith in
      ap (λ (b : Bytes). room_answer room b (length old)) sheet_text_lem ∙ with_room (text_of m) room old k

pub opened_text : (t : List ℕ) (m : Model) → open_table t ≡ opened m → (old : Bytes) → room_answer 65536 (sheet_text t) (length old) ≡ copy_answer (text_of m) (length old)
opened_text t m e old =
    let s = sheet_of t m e in
    words_text m s.lawful t s.rest s.stands 65536 (omega arith) old

-- `write`
module _ (t old : List ℕ) (c : Result ⊤ Row) (e : c ≡ answered (open_table t)) where
  pub write_refused : (k : Row) → c ≡ Err k → Answered (write_answer t (length old)) old old (Err k)
  unfolding write_answer answered given buffer_after
  write_refused k f = go (open_table t) refl
    where
      go : (o : Opened) → open_table t ≡ o → Answered (write_answer t (length old)) old old (Err k)
      go (unopened x) p =
          let z : k ≡ row x = cc (ap answered p) in
          rw (p, write_answer) (record { answer = ap Err z; memory = refl; long = refl })
      go (opened m) p =
          let z : ◌≡◌ {A = ℕ} 0 1 = cc (ap answered p) in
          absurd (omega arith)

  pub write_good : c ≡ Ok tt → (new : Bytes) (r : Result ℕ Row) → Answered (room_answer 65536 (sheet_text t) (length old)) old new r → Answered (write_answer t (length old)) old new r
  unfolding write_answer answered copy_answer
  write_good f new r g = go (open_table t) refl
    where
      go : (o : Opened) → open_table t ≡ o → Answered (write_answer t (length old)) old new r
      go (unopened x) p =
          let z : ◌≡◌ {A = ℕ} 0 1 = cc (ap answered p) in
          absurd (omega arith)
      go (opened m) p =
          let h : Answered (copy_answer (text_of m) (length old)) old new r = rw (opened_text t m p old) at g in
          rw (p, write_answer) h

pub ruleset write_laws = (write_refused, write_good)
