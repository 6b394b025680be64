-- The reader's rounds come to what `read` says of the text's lines, where what reads one line is exact.
use Prim.Native.Nat.{ℕ, zero, suc, ◌+◌, ◌*◌, ◌≤◌, ◌<◌}
use mathlib.Core.Path.{◌≡◌, refl, sym, ◌∙◌, ap, subst}
use mathlib.Core.Bool.{Bool, true, false, not}
use mathlib.Core.List.{List, [], ◌∷◌, ◌++◌, append-nil, flat_map}
use mathlib.Core.Logic.{◌⊎◌, inl, inr}
use mathlib.Core.Option.{Option, none, some}
use native.Mathlib.Omega.{arith}
use borrow.Author.Tests.{leb-true, leb-false, ltb-true}
use lib.ListN.{length, drop, length-append, length-drop}
use lib.Seq.{drop-append_seam}
use lib.Dec.{leb, ltb}
use Rattle.model.specs.Bounds.{max_bytes, owners_format, writes_format}
use Rattle.model.specs.Predicate.{Range, written}
use Rattle.model.specs.Model.{Edge as SheetEdge, Model}
use Rattle.model.specs.Lines.{Key as LineKey, Entry, format_line, actions_line, variables_line, variable_line, automata_line, sync_line, locations_line, init_line, inv_line, edges_line, edge_line, compose_line, key_of, lines, due_at_first, then_due, Reading, at_first, with_model, noted}
use Rattle.model.specs.Limits.{variable_count, is_foreign, fault_of, limits}
use Rattle.model.specs.Lawful.{LawfulRange}
use Rattle.model.specs.Table.{line_words, sheet_words, table_of}
use Rattle.model.proofs.LinesBack.{lines_follow}
use Rattle.model.proofs.LimitsLaws.{lawful_is}
use Rattle.model.proofs.Sizes.{words_fit}
use Rattle.model.proofs.Tests.{or_none}
use Rattle.model.proofs.Decode.{update_ranged}
use Rattle.model.proofs.Parsing.{none_some}
use Rattle.line_order.specs.declared.Key.{Key}
use Rattle.line_order.specs.declared.Key.TheVariants.{End}
use Rattle.line_order.specs.declared.Due.{Due}
use Rattle.line_order.specs.declared.Counts.{Counts}
use Rattle.line_order.specs.Due.{is_end, is_edge, is_variable, is_listed, is_owned, due_after_key, due_after, keys_due, later_due, code_of, number_of}
use Rattle.line_order.specs.Counts.{counts_after, nodes_of}
use Rattle.line_order.proofs.KeyLaws.{named, no_end}
use Rattle.line_order.proofs.DueLaws.{due_first_lem, due_line, end_due, due_after_lem}
use Rattle.table_line.specs.Exact.{Declared}
use Rattle.table_check.specs.Scan.{scan_first, scan_after}
use Rattle.table_check.proofs.ScanLaws.{Placed, Fair, fair, Going, going_first, going_after}
use Rattle.format.specs.Bytes.{Bytes}
use Rattle.format.specs.Rows.{Line, fault, entry}
use Rattle.format.specs.Spelling.{Behind, nothing, owner, list, behind, owner_said}
use Rattle.format.specs.Owners.{owner_fault}
use Rattle.format.specs.Reader as Reader
use Rattle.format.specs.Reader.{lines_of, accepted}
use Rattle.format.proofs.LineFaults.{alone}
use Rattle.format.proofs.LineLaws.{entry_key, entry_unowned}
use Rattle.format.proofs.Exact.{read_case, entry_fault}
use Rattle.text_bytes.proofs.FindLaws.{lines_none}
use Rattle.table_append.specs.Append.{next_place, put}
use Rattle.read_form.specs.Form.{line_of}
use Rattle.read_line.specs.Exact.{number_told, ReadsLines}
use Rattle.read_line.specs.Line.{line_read, line_after}
use Rattle.read_writes_line.specs.Writes.{writes_row}
use Rattle.std.specs.Prelude.{Ok, Err}
use Rattle.reader.specs.declared.Place.{Place}
use Rattle.reader.specs.declared.Behind.{Behind as Due-first}
use Rattle.reader.specs.declared.Behind.TheVariants.{Owner, Writes}
use Rattle.std.specs.Option.{is_some}
use Rattle.std.specs.Prelude as P
use Rattle.std.specs.Prelude.{Some, None}
use Rattle.reader.specs.Read.{refusal, going, done, place_first, place_after, stands_behind, place_behind, Outcome, stop_at, line_at, on_line, line_round, line_round_after, round_at, round_after, read_from, sheet_read, blank}
use Rattle.reader.proofs.SheetLaws.{round_done, round_lacking, round_ended, round_extra, round_stays, round_line, round_words}
use Rattle.reader.proofs.Filling.{filled, filled_nil, filled_fits, next_in, next_next, put_filled}
use Rattle.reader.proofs.Standing.{Few, few_after, room_after, Waits, scan_of, Stand, Ends, declared_on, declared_in, lines_here, stop_on, line_ended, end_is, line_short, round_ends, round_goes, ends_accepted, ends_refused, ends_line, read_lacking, read_extra}
use Rattle.reader.proofs.BehindRounds.{row_read, no_owner_left, faulty_owner, sound_owner, no_list_left, faulty_list, foreign_list, sound_list}

-- the number that is told of an edge plays no part in what is due and counted after it
told_due : (e : Entry) (d : Due) → due_after_key (code_of (key_of e)) d (number_told e) ≡ due_after_key (code_of (key_of e)) d (number_of e)
unfolding due_after_key code_of key_of number_told number_of
told_due (format_line n) d = refl
told_due (actions_line n) d = refl
told_due (variables_line n) d = refl
told_due (variable_line x o) d = refl
told_due (automata_line n) d = refl
told_due (sync_line actions) d = refl
told_due (locations_line n) d = refl
told_due (init_line p) d = refl
told_due (inv_line p) d = refl
told_due (edges_line n) d = refl
told_due (edge_line e) d = refl
told_due (compose_line c) d = refl

told_counts : (e : Entry) (c : Counts) (nodes : ℕ) → counts_after c (code_of (key_of e)) (number_told e) nodes ≡ counts_after c (code_of (key_of e)) (number_of e) nodes
unfolding counts_after code_of key_of number_told number_of
told_counts (format_line n) c nodes = refl
told_counts (actions_line n) c nodes = refl
told_counts (variables_line n) c nodes = refl
told_counts (variable_line x o) c nodes = refl
told_counts (automata_line n) c nodes = refl
told_counts (sync_line actions) c nodes = refl
told_counts (locations_line n) c nodes = refl
told_counts (init_line p) c nodes = refl
told_counts (inv_line p) c nodes = refl
told_counts (edges_line n) c nodes = refl
told_counts (edge_line e) c nodes = refl
told_counts (compose_line c') c nodes = refl

-- the place after a line, with what stands behind it
abbrev place_of : Place → Entry → (next stop : ℕ) → Place
place_of p e next stop =
    record {
      due = due_after p.due (number_of e);
      counts = counts_after p.counts p.due.key (number_of e) (nodes_of e);
      at = next;
      byte = stop + 1;
      behind = stands_behind p.due (number_told e);
    }

told_place : (p : Place) (e : Entry) (next stop : ℕ) → p.due.key ≡ code_of (key_of e) → place_after p (number_told e) (nodes_of e) next stop ≡ place_of p e next stop
unfolding place_after due_after
told_place p e next stop k =
    let d : due_after_key p.due.key p.due (number_told e) ≡ due_after_key p.due.key p.due (number_of e) =
    ap (λ (j : Key). due_after_key j p.due (number_told e)) k ∙ told_due e p.due ∙ ap (λ (j : Key). due_after_key j p.due (number_of e)) (sym k) in
    let c : counts_after p.counts p.due.key (number_told e) (nodes_of e) ≡ counts_after p.counts p.due.key (number_of e) (nodes_of e) =
    ap (λ (j : Key). counts_after p.counts j (number_told e) (nodes_of e)) k ∙ told_counts e p.counts (nodes_of e) ∙ ap (λ (j : Key). counts_after p.counts j (number_of e) (nodes_of e)) (sym k) in
    rw (d, c)

-- what a line asks of the one behind it
module _ (p : Place) (next stop : ℕ) (r : Reading) (stream : List ℕ) (declared : Declared stream r) where
  unowned : is_variable p.due.key ≡ false → is_owned p.due ≡ false
  unfolding is_owned
  unowned h = rw h

  unlisted : is_edge p.due.key ≡ false → is_listed p.due ≡ false
  unfolding is_listed
  unlisted h = rw h

  both_are : (o l : Bool) (number : ℕ) → is_owned p.due ≡ o → is_listed p.due ≡ l
      → stands_behind p.due number ≡ elim o as (λ x. P.Option Due-first) [ true ↦ Some Owner | false ↦ elim l as (λ x. P.Option Due-first) [ true ↦ Some (Writes number) | false ↦ None ] ]
  unfolding stands_behind
  both_are true l number h k = rw (h, stands_behind)
  both_are false l number h k = rw (h, k, stands_behind)

  quiet : (number : ℕ) → is_variable p.due.key ≡ false → is_edge p.due.key ≡ false → stands_behind p.due number ≡ None
  quiet number h k = both_are false false number (unowned h) (unlisted k)

  abbrev After : Behind → Entry → Type 0
  After b e = Waits b (noted r e) (place_of p e next stop) (stream ++ line_words e)

  variable_behind : (x : Range) → LawfulRange x → length stream ≡ 3 + 3 * variable_count r → is_variable p.due.key ≡ true → is_edge p.due.key ≡ false → (b : Bool) → leb owners_format p.due.format ≡ b
      → After (elim b [ true ↦ owner | false ↦ nothing ]) (variable_line x none)
  unfolding is_owned
  variable_behind x lawful at k u true l =
      record { marked = both_are true _ _ (rw (k, l)) refl; before = r; range = x; first = stream; said = refl; parted = refl; declared = declared; lawful = lawful; placed = at }
  variable_behind x lawful at k u false l = both_are false false _ (rw (k, l)) (unlisted u)

  edge_behind : (x : SheetEdge) → is_edge p.due.key ≡ true → is_variable p.due.key ≡ false → fault_of (alone r) (edge_line x) ≡ none → (b : Bool) → leb writes_format p.due.format ≡ b
      → After (elim b [ true ↦ list (written x.update) | false ↦ nothing ]) (edge_line x)
  unfolding is_listed number_told
  edge_behind x k u h true l = record { update = x.update; writes = refl; ranged = update_ranged (alone r) x h; marked = both_are false true _ (unowned u) (rw (k, l)) }
  edge_behind x k u h false l = both_are false false _ (unowned u) (rw (k, l))

  behind_of : (e : Entry) → p.due.key ≡ code_of (key_of e) → owner_said e ≡ none → fault_of (alone r) e ≡ none → Fair r e → Placed (code_of (key_of e)) (length stream) (variable_count r) → After (behind p.due.format e) e
  unfolding behind code_of key_of is_edge is_variable owner_said
  behind_of (format_line n) k u h f at = quiet _ (ap is_variable k) (ap is_edge k)
  behind_of (actions_line n) k u h f at = quiet _ (ap is_variable k) (ap is_edge k)
  behind_of (variables_line n) k u h f at = quiet _ (ap is_variable k) (ap is_edge k)
  behind_of (variable_line x none) k u h f at = variable_behind x f.ranging at (ap is_variable k) (ap is_edge k) (leb owners_format p.due.format) refl
  behind_of (variable_line x (some o)) k u h f at = absurd (none_some o (sym u))
  behind_of (automata_line n) k u h f at = quiet _ (ap is_variable k) (ap is_edge k)
  behind_of (sync_line actions) k u h f at = quiet _ (ap is_variable k) (ap is_edge k)
  behind_of (locations_line n) k u h f at = quiet _ (ap is_variable k) (ap is_edge k)
  behind_of (init_line q) k u h f at = quiet _ (ap is_variable k) (ap is_edge k)
  behind_of (inv_line q) k u h f at = quiet _ (ap is_variable k) (ap is_edge k)
  behind_of (edges_line n) k u h f at = quiet _ (ap is_variable k) (ap is_edge k)
  behind_of (edge_line x) k u h f at = edge_behind x (ap is_edge k) (ap is_variable k) h (leb writes_format p.due.format) refl
  behind_of (compose_line c) k u h f at = quiet _ (ap is_variable k) (ap is_edge k)

-- what going on asks of a line does not depend on the format
alone_fair : (r : Reading) (e : Entry) → Fair (alone r) e → Fair r e
unfolding noted with_model
alone_fair r e f = record { ranging = f.ranging; few = f.few }

-- The rounds where nothing is due behind the line before.
module _ (text : Bytes) (r : Reading) (n : ℕ) (p : Place) (words stream : List ℕ) (h : Stand text nothing r n p words stream) (left : ℕ) where
  abbrev Goal : Type 0
  Goal = Ends nothing r (keys_due p.due) (n + 1) (lines_of (drop p.byte text)) stream (read_from text (suc left) (n + 1) p words)

  -- the same, of the keys, lines and outcome as they are known
  goal : (ks : List LineKey) (ls : List Line) (x : Outcome) → keys_due p.due ≡ ks → lines_of (drop p.byte text) ≡ ls → read_from text (suc left) (n + 1) p words ≡ x
      → Ends nothing r ks (n + 1) ls stream x → Goal
  goal ks ls x q e f g = rw (q, e, f) g

  no_line : length text ≤ p.byte → (p.due.key ≡ End) ⊎ ((k : LineKey) × (p.due.key ≡ code_of k)) → Goal
  no_line l (inl e) =
      let none_left = lines_none (drop p.byte text) (omega (arith, length-drop p.byte text)) in
      let on = sym (ap is_end e ∙ end_is) in
      let stop = sym (round_done text (n + 1) p words true on l true (ap (λ (b : P.Option Due-first). is_some b) h.waits) refl) in
      goal [] [] _ (end_due p.due e) none_left (round_ends text left (n + 1) p words words (sym (round_ended text (n + 1) p words true on l)) (Ok tt) stop)
      (ends_accepted r (n + 1) stream words h.full)
  no_line l (inr k) =
      let none_left = lines_none (drop p.byte text) (omega (arith, length-drop p.byte text)) in
      let off = sym (ap is_end k.1 ∙ no_end k.0) in
      goal (k.0 ∷ later_due p.due) [] _ (due_line p.due k.0 k.1) none_left
      (round_ends text left (n + 1) p words words (sym (round_ended text (n + 1) p words false off l)) (Err (refusal 2 (n + 1))) (sym (round_lacking text (n + 1) p words false off l true (ap (λ (b : P.Option Due-first). is_some b) h.waits) refl)))
      (ends_refused nothing r (k.0 ∷ later_due p.due) (n + 1) [] 2 stream words (read_lacking r k.0 (later_due p.due) (n + 1)))

  extra_line : p.byte < length text → p.due.key ≡ End → Goal
  extra_line l e =
      let on = sym (ap is_end e ∙ end_is) in
      goal [] _ _ (end_due p.due e) (lines_here text p l)
      (round_ends text left (n + 1) p words words (sym (round_stays text (n + 1) p words true on l h.waits refl)) (Err (refusal 2 (n + 1))) (sym (round_extra text (n + 1) p words true on l h.waits refl)))
      (ends_refused nothing r [] (n + 1) _ 2 stream words (read_extra r (n + 1) _ _))

  -- a line that is due; `onward` is what the rounds after it come to
  module _ (exact : ReadsLines line_read line_after) (short : length text ≤ max_bytes) (l : p.byte < length text) (k : LineKey) (key : p.due.key ≡ code_of k) where
    abbrev line : Line
    line = line_of (line_at text p) (ltb (stop_at text p) (length text))

    off : false ≡ is_end p.due.key
    off = sym (ap is_end key ∙ no_end k)

    line_round_lem : round_at text (n + 1) p words ≡ line_round text (n + 1) p words
    line_round_lem = sym (round_line text (n + 1) p words false off l h.waits refl _ refl)

    line_words_lem : round_after text p words ≡ line_round_after text p words
    line_words_lem = sym (round_words text (n + 1) p words false off l h.waits refl _ refl)

    faulty_line : (row : ℕ) → fault r k line ≡ some row → Goal
    unfolding line_round on_line
    faulty_line row f =
        let said = exact.faulty r p.counts words p.at k (line_at text p) (ltb (stop_at text p) (length text)) row h.going.counted (declared_in text nothing r n p words stream h) (line_short text p short) f in
        let ks = later_due p.due in
        let round : line_round text (n + 1) p words ≡ done (Err (refusal row (n + 1))) =
        ap (on_line text (n + 1) p) (ap (λ (j : Key). line_read (line_at text p) (ltb (stop_at text p) (length text)) j p.counts words p.at) key ∙ said) in
        goal (k ∷ ks) _ _ (due_line p.due k key) (lines_here text p l)
        (round_ends text left (n + 1) p words (line_round_after text p words) line_words_lem (Err (refusal row (n + 1))) (line_round_lem ∙ round))
        (ends_refused nothing r (k ∷ ks) (n + 1) _ row stream _ (read_case r k ks (n + 1) line _ (some row) f))

    module _ (f : fault r k line ≡ none) where
      abbrev e : Entry
      e = entry k line

      abbrev after : Place
      after = place_of p e (next_place p.at (length (line_words e))) (stop_at text p)

      key_of_lem : p.due.key ≡ code_of (key_of e)
      key_of_lem = key ∙ ap code_of (sym (entry_key k line))

      ended : stop_at text p < length text
      ended = ltb-true (stop_at text p) (length text) (line_ended r k line f)

      ks_of : keys_due p.due ≡ key_of e ∷ later_due p.due
      ks_of = due_line p.due k key ∙ ap (λ (j : LineKey). j ∷ later_due p.due) (sym (entry_key k line))

      clear : fault_of (alone r) e ≡ none
      clear = entry_fault r k line f

      fairly : Fair r e
      unfolding noted with_model
      fairly = alone_fair r e (fair (alone r) e h.going.few clear)

      stand_after : (new : List ℕ) → new ≡ put p.at (line_words e) words → Stand text (behind r.model.format e) (noted r e) (n + 1) after new (stream ++ line_words e)
      unfolding scan_after due_after
      stand_after new w =
          let t = stream ++ line_words e in
          let size = length-append stream (line_words e) in
          let was = h.going in
          let there : drop (length stream) t ≡ line_words e ++ [] = drop-append_seam stream (line_words e) ∙ sym (append-nil (line_words e)) in
          let longer : Going t n (scan_of p (length stream)) r =
          record { counted = was.counted; paced = was.paced; begun = was.begun; format = was.format; few = was.few; declared = declared_on stream (line_words e) r h.room was.declared; placed = was.placed; inside = omega (arith, size) } in
          let g = going_after t n (scan_of p (length stream)) r e (later_due p.due) [] (omega (arith, h.slow)) ks_of fairly there longer in
          let placed : Placed (code_of (key_of e)) (length stream) (variable_count r) = rw key_of_lem at was.placed in
          record {
            going = rw size g;
            few = subst (λ (j : Key). Few (due_after_key j p.due (number_of e)).key (due_after_key j p.due (number_of e)) (variable_count (noted r e))) (sym key_of_lem)
                (few_after e p.due r (length stream) placed clear (subst (λ (j : Key). Few j p.due (variable_count r)) key_of_lem h.few));
            room = rw size (room_after e r (length stream) placed h.room);
            full = w ∙ ap (λ (a : ℕ). put a (line_words e) words) h.next ∙ ap (put (next_place 0 (length stream)) (line_words e)) h.full ∙ put_filled stream (line_words e);
            next = ap (λ (a : ℕ). next_place a (length (line_words e))) h.next ∙ next_next (length stream) (length (line_words e)) ∙ ap (next_place 0) (sym size);
            slow = omega (arith, h.slow, stop_on text p (omega arith));
            inside = omega (arith, ended);
            waits = subst (λ (i : ℕ). Waits (behind i e) (noted r e) after t) was.format
                (behind_of p (next_place p.at (length (line_words e))) (stop_at text p) r stream was.declared e key_of_lem (entry_unowned k line) clear fairly placed);
          }

      sound_line : ((new : List ℕ) → Stand text (behind r.model.format e) (noted r e) (n + 1) after new (stream ++ line_words e)
          → Ends (behind r.model.format e) (noted r e) (keys_due after.due) (n + 1 + 1) (lines_of (drop after.byte text)) (stream ++ line_words e) (read_from text left (n + 1 + 1) after new)) → Goal
      unfolding line_round line_round_after on_line
      sound_line onward =
          let ks = later_due p.due in
          let b = behind r.model.format e in
          let said = exact.sound r p.counts words p.at k (line_at text p) (ltb (stop_at text p) (length text)) h.going.counted (declared_in text nothing r n p words stream h) (line_short text p short) f in
          let new = line_round_after text p words in
          let put_there : new ≡ put p.at (line_words e) words = ap (λ (j : Key). line_after (line_at text p) (ltb (stop_at text p) (length text)) j p.counts words p.at) key ∙ said.1 in
          let round : line_round text (n + 1) p words ≡ going after =
          ap (on_line text (n + 1) p) (ap (λ (j : Key). line_read (line_at text p) (ltb (stop_at text p) (length text)) j p.counts words p.at) key ∙ said.0) ∙
          ap going (told_place p e (next_place p.at (length (line_words e))) (stop_at text p) key_of_lem) in
          let later = onward new (stand_after new put_there) in
          let number : n + 1 + 1 ≡ suc (n + 1) = omega arith in
          let goes = round_goes text left (n + 1) p words new line_words_lem after (line_round_lem ∙ round) in
          goal (k ∷ ks) _ _ (due_line p.due k key) (lines_here text p l) goes
          (ends_line r k ks (n + 1) line _ stream _ f
          (subst (λ (i : ℕ). Ends b (noted r e) (then_due r.model.format e ++ ks) i (lines_of (drop (stop_at text p + 1) text)) (stream ++ line_words e) (read_from text left (n + 1 + 1) after new)) number
          (subst (λ (x : List LineKey). Ends b (noted r e) x (n + 1 + 1) (lines_of (drop (stop_at text p + 1) text)) (stream ++ line_words e) (read_from text left (n + 1 + 1) after new)) (due_after_lem p.due r h.going.format e ks ks_of) later)))

module _ (exact : ReadsLines line_read line_after) (text : Bytes) (short : length text ≤ max_bytes) where
  -- what the rounds that are left come to
  Onward : (left : ℕ) → Type 0
  Onward left = (b : Behind) (r : Reading) (n : ℕ) (p : Place) (words stream : List ℕ) → length text < p.byte + left → Stand text b r n p words stream
      → Ends b r (keys_due p.due) (n + 1) (lines_of (drop p.byte text)) stream (read_from text left (n + 1) p words)

  module _ (left : ℕ) (on : Onward left) (r : Reading) (n : ℕ) (p : Place) (words stream : List ℕ) (f : length text < p.byte + suc left) where
    abbrev Reached : Behind → Type 0
    Reached b = Ends b r (keys_due p.due) (n + 1) (lines_of (drop p.byte text)) stream (read_from text (suc left) (n + 1) p words)

    abbrev here : Line
    here = line_of (line_at text p) (ltb (stop_at text p) (length text))

    owner_fault_by : Stand text owner r n p words stream → p.byte < length text → (x : Option ℕ) → owner_fault here ≡ x → Reached owner
    unfolding Onward place_behind
    owner_fault_by h l (some row) e = faulty_owner text r n p words stream h left l row e
    owner_fault_by h l none e = sound_owner text r n p words stream h left l e (λ new g. on nothing _ (n + 1) _ new _ (omega (arith, f, stop_on text p (omega arith))) g)

    list_own_by : (due : List ℕ) (h : Stand text (list due) r n p words stream) (l : p.byte < length text) → row_read text due r n p words stream h left l ≡ none
        → (v : Bool) → is_foreign r due ≡ v → Reached (list due)
    unfolding Onward place_behind
    list_own_by due h l e true v = foreign_list text due r n p words stream h left l e v
    list_own_by due h l e false v = sound_list text due r n p words stream h left l e v (λ g. on nothing r (n + 1) _ words stream (omega (arith, f, stop_on text p (omega arith))) g)

    list_fault_by : (due : List ℕ) (h : Stand text (list due) r n p words stream) (l : p.byte < length text) (x : Option ℕ) → row_read text due r n p words stream h left l ≡ x → Reached (list due)
    list_fault_by due h l (some row) e = faulty_list text due r n p words stream h left l row e
    list_fault_by due h l none e = list_own_by due h l e (is_foreign r due) refl

    line_fault_by : Stand text nothing r n p words stream → p.byte < length text → (k : LineKey) (key : p.due.key ≡ code_of k) (x : Option ℕ) → fault r k here ≡ x → Reached nothing
    unfolding Onward
    line_fault_by h l k key (some row) e = faulty_line text r n p words stream h left exact short l k key row e
    line_fault_by h l k key none e =
        sound_line text r n p words stream h left exact short l k key e
        (λ new g. on _ _ (n + 1) _ new _ (omega (arith, f, stop_on text p (omega arith))) g)

    by_byte : (b : Behind) → Stand text b r n p words stream → (v : Bool) → leb (length text) p.byte ≡ v → (p.due.key ≡ End) ⊎ ((k : LineKey) × (p.due.key ≡ code_of k)) → Reached b
    by_byte owner h true e k = no_owner_left text r n p words stream h left (leb-true (length text) p.byte e)
    by_byte owner h false e k = owner_fault_by h (leb-false (length text) p.byte e) (owner_fault here) refl
    by_byte (list due) h true e k = no_list_left text due r n p words stream h left (leb-true (length text) p.byte e)
    by_byte (list due) h false e k = list_fault_by due h (leb-false (length text) p.byte e) _ refl
    by_byte nothing h true e k = no_line text r n p words stream h left (leb-true (length text) p.byte e) k
    by_byte nothing h false e (inl k) = extra_line text r n p words stream h left (leb-false (length text) p.byte e) k
    by_byte nothing h false e (inr k) = line_fault_by h (leb-false (length text) p.byte e) k.0 k.1 (fault r k.0 here) refl

  rounds : (left : ℕ) → Onward left
  unfolding Onward
  rounds zero b r n p words stream f h = absurd (omega (arith, h.inside))
  rounds (suc left) b r n p words stream f h = by_byte left (rounds left) r n p words stream f b h (leb (length text) p.byte) refl (named p.due.key)

  stand_first : Stand text nothing at_first 0 place_first blank []
  unfolding place_first scan_first at_first variable_count
  stand_first =
      record {
        going = going_first [];
        few = omega arith;
        room = omega arith;
        full = sym filled_nil;
        next = sym (next_in 0 (omega arith));
        slow = omega arith;
        inside = omega arith;
        waits = refl;
      }

  pub sheet_ends : Ends nothing at_first due_at_first 1 (lines_of text) [] (sheet_read text blank)
  unfolding sheet_read place_first Onward
  sheet_ends = rw due_first_lem at (rounds (max_bytes + 1) nothing at_first 0 place_first blank [] (omega arith) stand_first)

  -- an accepted model's table is what the buffer has
  pub sheet_table : (m : Model) → Reader.read nothing at_first due_at_first 1 (lines_of text) ≡ accepted m → limits m ≡ true → (sheet_read text blank).words ≡ table_of m
  unfolding table_of sheet_words
  sheet_table m a h =
      let w = sheet_ends.words m a in
      let same : flat_map line_words w.0 ≡ flat_map line_words (lines m) = ap (flat_map line_words) (lines_follow w.0 m w.1).0 in
      w.2 ∙ ap filled same ∙ filled_fits (sheet_words m) (words_fit m ((lawful_is m).0 h))
