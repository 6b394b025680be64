-- What holds between the rounds of the reader, and what the rounds come to.
use Prim.Native.Nat.{ℕ, zero, suc, ◌+◌, ◌-◌, ◌*◌, ◌≤◌, ◌<◌}
use mathlib.Core.Path.{◌≡◌, refl, sym, ◌∙◌, ap, subst}
use mathlib.Core.Bool.{Bool, true, false}
use mathlib.Core.List.{List, [], ◌∷◌, ◌++◌, append_assoc, append-nil, map, flat_map}
use mathlib.Core.Option.{Option, none, some}
use native.Mathlib.Omega.{arith}
use borrow.Author.Tests.{leb-true, ltb-true, ltb-false, not-false}
use lib.ListN.{length, take, drop, length-append, length-take, length-drop}
use lib.Seq.{take-add, take_all, take_at, take-append-le, drop_at, length-take-le}
use lib.Dec.{leb, ltb}
use Rattle.model.specs.Basic.{every}
use Rattle.model.specs.Bounds.{max_bytes, max_variables, owners_format, writes_format, table_words}
use Rattle.model.specs.Predicate.{Pred, Range, words, written}
use Rattle.model.specs.Model.{Model}
use Rattle.model.specs.Lines.{Key as LineKey, Entry, format_line, actions_line, variables_line, variable_line, automata_line, sync_line, locations_line, init_line, inv_line, edges_line, edge_line, compose_line, key_of, then_due, Reading, with_model, with_automata, with_pred, with_nodes, with_owner, noted}
use Rattle.model.specs.Limits.{in_range, variable_count, numbers_in_range, fault_of}
use Rattle.model.specs.Lawful.{LawfulRange}
use Rattle.model.specs.Table.{biased, code, owner_word, line_words}
use Rattle.model.proofs.LinesLaws.{Follows, owner_noted}
use Rattle.model.proofs.Decode.{unbroken}
use Rattle.model.proofs.Parsing.{none_some}
use Rattle.line_order.specs.declared.Key.{Key}
use Rattle.line_order.specs.declared.Key.TheVariants.{Format, Actions, Variables, Variable, Automata, Sync, Locations, Init, Inv, Edges, Edge, Compose, End}
use Rattle.line_order.specs.declared.Due.{Due}
use Rattle.line_order.specs.Due.{is_end, if_none, due_variables, due_automata, due_locations, due_edges, due_after_key, code_of, number_of}
use Rattle.table_writes.specs.Sets.{all_variables, rest_of}
use Rattle.table_line.specs.Exact.{Declared}
use Rattle.table_check.specs.declared.Scan.{Scan}
use Rattle.table_check.proofs.ScanLaws.{Placed, Going}
use Rattle.format.specs.Bytes.{Bytes, LF}
use Rattle.format.specs.Rows.{Line, row2, fault, entry}
use Rattle.format.specs.Spelling.{Behind, nothing, owner, list, behind, owner_said}
use Rattle.format.specs.Owners.{owner_fault, the_owner}
use Rattle.format.specs.Writes.{writes_fault}
use Rattle.format.specs.Reader as Reader
use Rattle.format.specs.Reader.{lines_of, accepted, refused}
use Rattle.format.proofs.LineFaults.{Shape, a_variable, an_edge, lone, alone, shape_of}
use Rattle.format.proofs.LineLaws.{formed, entry_key, entry_unowned}
use Rattle.format.proofs.Exact.{list_case, owner_case, read_case, no_refusal}
use Rattle.text_bytes.specs.Find.{first_from}
use Rattle.text_bytes.proofs.FindLaws.{find_after, lines_found, lines_ended, lines_none}
use Rattle.table_append.specs.Append.{next_place}
use Rattle.read_form.specs.Form.{line_of}
use Rattle.std.specs.Prelude.{Some, None, Ok, Err}
use Rattle.reader.specs.declared.Place.{Place}
use Rattle.reader.specs.declared.Behind.TheVariants.{Owner, Writes}
use Rattle.reader.specs.Read.{ReadAnswer, refusal, going, done, read_of, Outcome, outcome, stop_at, line_at, round_at, round_after, on_round, read_from}
use Rattle.reader.proofs.Filling.{filled, filled_length, filled_first}

-- so many variables are declared, and at a variable's line more are to come, but not too many
abbrev pub Few : Key → Due → ℕ → Type 0
Few Format d count = count ≤ max_variables
Few Actions d count = count ≤ max_variables
Few Variables d count = count ≤ max_variables
Few Variable d count = (count + d.variables ≤ max_variables) × (1 ≤ d.variables)
Few Automata d count = count ≤ max_variables
Few Sync d count = count ≤ max_variables
Few Locations d count = count ≤ max_variables
Few Init d count = count ≤ max_variables
Few Inv d count = count ≤ max_variables
Few Edges d count = count ≤ max_variables
Few Edge d count = count ≤ max_variables
Few Compose d count = count ≤ max_variables
Few End d count = count ≤ max_variables

pub few_count : (k : Key) (d : Due) (count : ℕ) → Few k d count → count ≤ max_variables
few_count Format d count h = h
few_count Actions d count h = h
few_count Variables d count h = h
few_count Variable d count h = omega (arith, h.0)
few_count Automata d count h = h
few_count Sync d count h = h
few_count Locations d count h = h
few_count Init d count h = h
few_count Inv d count h = h
few_count Edges d count h = h
few_count Edge d count h = h
few_count Compose d count h = h
few_count End d count h = h

-- after the number of the variables, and after a variable
few_variables : (f n count : ℕ) → count + n ≤ max_variables → Few (due_variables f n).key (due_variables f n) count
unfolding due_variables if_none
few_variables f zero count h = omega arith
few_variables f (suc n) count h = (h, omega arith)

few_either : (n : ℕ) (d f : Due) (count : ℕ) → Few d.key d count → Few f.key f count → Few (if_none n d f).key (if_none n d f) count
unfolding if_none
few_either zero d f count p q = p
few_either (suc n) d f count p q = q

pub few_after : (e : Entry) (d : Due) (r : Reading) (at : ℕ) → Placed (code_of (key_of e)) at (variable_count r) → fault_of (alone r) e ≡ none → Few (code_of (key_of e)) d (variable_count r)
    → Few (due_after_key (code_of (key_of e)) d (number_of e)).key (due_after_key (code_of (key_of e)) d (number_of e)) (variable_count (noted r e))
unfolding due_after_key due_automata due_locations due_edges code_of key_of number_of noted with_model with_automata with_pred with_nodes variable_count fault_of numbers_in_range
few_after (format_line n) d r at p f h = h
few_after (actions_line n) d r at p f h = h
few_after (variables_line n) d r at p f h =
    let ranged = leb-true n max_variables (not-false (leb n max_variables) (unbroken 3 _ _ f).0) in
    few_variables d.format n (variable_count r) (omega (arith, p.1, ranged))
few_after (variable_line x o) d r at p f h = few_variables d.format (d.variables - 1) _ (omega (arith, h.0, h.1, length-append r.model.variables (x ∷ [])))
few_after (automata_line n) d r at p f h = few_either n _ _ _ h h
few_after (sync_line actions) d r at p f h = h
few_after (locations_line n) d r at p f h = few_either n _ _ _ h h
few_after (init_line q) d r at p f h = h
few_after (inv_line q) d r at p f h = few_either (d.locations - 1) _ _ _ h h
few_after (edges_line n) d r at p f h = few_either n _ _ _ (few_either (d.automata - 1) _ _ _ h h) h
few_after (edge_line e) d r at p f h = few_either (d.edges - 1) _ _ _ (few_either (d.automata - 1) _ _ _ h h) h
few_after (compose_line c) d r at p f h = h

-- the variables declared so far stand among the words so far
abbrev Room : (v at : ℕ) → Type 0
Room v at = 3 * v ≤ at - 3

pub room_after : (e : Entry) (r : Reading) (at : ℕ) → Placed (code_of (key_of e)) at (variable_count r) → Room (variable_count r) at → Room (variable_count (noted r e)) (at + length (line_words e))
unfolding code_of key_of noted with_model with_automata with_pred with_nodes variable_count line_words
room_after (format_line n) r at p h = omega arith
room_after (actions_line n) r at p h = omega arith
room_after (variables_line n) r at p h = omega arith
room_after (variable_line x o) r at p h = omega (arith, p, length-append r.model.variables (x ∷ []))
room_after (automata_line n) r at p h = omega arith
room_after (sync_line actions) r at p h = omega arith
room_after (locations_line n) r at p h = omega arith
room_after (init_line q) r at p h = omega arith
room_after (inv_line q) r at p h = omega arith
room_after (edges_line n) r at p h = omega arith
room_after (edge_line e) r at p h = omega arith
room_after (compose_line c) r at p h = omega arith

-- What a place says of the list that is due: of the variables that an update writes, those are kept that it does not mention.
pub record Due-list (due : List ℕ) (p : Place) : Type 0 where
  pub update : Pred
  pub writes : due ≡ written update
  pub ranged : every in_range (words update) ≡ true
  pub marked : p.behind ≡ Some (Writes (rest_of all_variables (map code (words update))))

-- Of the owner that is due: a variable was noted last, with none, and its words are the last.
pub record Due-owner (r : Reading) (p : Place) (stream : List ℕ) : Type 0 where
  pub marked : p.behind ≡ Some Owner
  pub before : Reading
  pub range : Range
  pub first : List ℕ
  pub said : r ≡ noted before (variable_line range none)
  pub parted : stream ≡ first ++ line_words (variable_line range none)
  pub declared : Declared first before
  pub lawful : LawfulRange range
  pub placed : length first ≡ 3 + 3 * variable_count before

abbrev pub Waits : Behind → Reading → Place → (stream : List ℕ) → Type 0
Waits nothing r p stream = p.behind ≡ None
Waits owner r p stream = Due-owner r p stream
Waits (list due) r p stream = Due-list due p

abbrev pub scan_of : Place → ℕ → Scan
scan_of p size = record { due = p.due; counts = p.counts; at = size }

-- What holds before each round: n lines have been read, which said r, and `stream` are their words.
pub record Stand (text : Bytes) (b : Behind) (r : Reading) (n : ℕ) (p : Place) (words stream : List ℕ) : Type 0 where
  pub going : Going stream n (scan_of p (length stream)) r
  pub few : Few p.due.key p.due (variable_count r)
  pub room : Room (variable_count r) (length stream)
  pub full : words ≡ filled stream
  pub next : p.at ≡ next_place 0 (length stream)
  pub slow : n ≤ p.byte
  pub inside : p.byte ≤ length text
  pub waits : Waits b r p stream

-- the words with an owner's in the place of the last
unfoldable pub owned : Option ℕ → List ℕ → List ℕ
owned o s = take (length s - 1) s ++ owner_word o ∷ []

pub variable_last : (s : List ℕ) (x : Range) (o : Option ℕ) → s ++ line_words (variable_line x o) ≡ (s ++ biased x.low ∷ biased x.high ∷ []) ++ owner_word o ∷ []
unfolding line_words
variable_last s x o = sym (append_assoc s (biased x.low ∷ biased x.high ∷ []) (owner_word o ∷ []))

pub owned_last : (s : List ℕ) (x : Range) (p o : Option ℕ) → owned o (s ++ line_words (variable_line x p)) ≡ s ++ line_words (variable_line x o)
unfolding owned
owned_last s x p o =
    let front = s ++ biased x.low ∷ biased x.high ∷ [] in
    ap (owned o) (variable_last s x p) ∙
    ap (λ (l : List ℕ). l ++ owner_word o ∷ []) (take_at front (owner_word p ∷ []) (length (front ++ owner_word p ∷ []) - 1) (omega (arith, length-append front (owner_word p ∷ [])))) ∙
    sym (variable_last s x o)

-- What the rounds come to: the answer of `read`; and if that accepts a model, the buffer has the words of entries that follow what is
-- due. Where an owner is, it is that of the variable before them.
abbrev Closed : Reading → List LineKey → (stream : List ℕ) → Model → (words : List ℕ) → Type 0
Closed r ks stream m words = (es : List Entry) × (Follows es r ks m) × (words ≡ filled (stream ++ flat_map line_words es))

abbrev pub ClosedBehind : Behind → Reading → List LineKey → (stream : List ℕ) → Model → (words : List ℕ) → Type 0
ClosedBehind nothing r ks stream m words = Closed r ks stream m words
ClosedBehind owner r ks stream m words = (o : Option ℕ) × Closed (with_owner r o) ks (owned o stream) m words
ClosedBehind (list due) r ks stream m words = Closed r ks stream m words

pub record Ends (b : Behind) (r : Reading) (ks : List LineKey) (n : ℕ) (ls : List Line) (stream : List ℕ) (x : Outcome) : Type 0 where
  pub answer : x.answer ≡ read_of (Reader.read b r ks n ls)
  pub words : (m : Model) → Reader.read b r ks n ls ≡ accepted m → ClosedBehind b r ks stream m x.words

-- the variables that stand in words stand there, too, where these go on, and where they are in the buffer
three : (a : ℕ) (x : List ℕ) → 3 + a ≤ length x → take a (drop 3 x) ≡ drop 3 (take (3 + a) x)
three a x h = sym (ap (drop 3) (take-add 3 a x) ∙ drop_at (take 3 x) (take a (drop 3 x)) 3 (length-take-le 3 x (omega arith)))

ranges_on : (a : ℕ) (s more : List ℕ) → a ≤ length s - 3 → take a (drop 3 (s ++ more)) ≡ take a (drop 3 s)
ranges_on zero s more h = refl
ranges_on (suc a) s more h =
    three (suc a) (s ++ more) (omega (arith, length-append s more)) ∙ ap (drop 3) (take-append-le (3 + suc a) s more (omega arith)) ∙ sym (three (suc a) s (omega arith))

ranges_in : (a : ℕ) (s : List ℕ) → a ≤ length s - 3 → 3 + a ≤ table_words → take a (drop 3 (filled s)) ≡ take a (drop 3 s)
ranges_in zero s h k = refl
ranges_in (suc a) s h k =
    three (suc a) (filled s) (omega (arith, filled_length s)) ∙ ap (drop 3) (filled_first s [] (3 + suc a) (omega arith) k ∙ ap (take (3 + suc a)) (append-nil s)) ∙ sym (three (suc a) s (omega arith))

pub declared_on : (s more : List ℕ) (r : Reading) → Room (variable_count r) (length s) → Declared s r → Declared (s ++ more) r
declared_on s more r h d =
    record { lawful = d.lawful; owners_are = d.owners_are; words = ranges_on (3 * variable_count r) s more h ∙ d.words }

pub declared_in : (text : Bytes) (b : Behind) (r : Reading) (n : ℕ) (p : Place) (words stream : List ℕ) → Stand text b r n p words stream → Declared words r
declared_in text b r n p words stream h =
    let d : Declared stream r = h.going.declared in
    let v = variable_count r in
    let few = few_count p.due.key p.due v h.few in
    let same : take (3 * v) (drop 3 words) ≡ take (3 * v) (drop 3 stream) =
    ap (λ (w : List ℕ). take (3 * v) (drop 3 w)) h.full ∙ ranges_in (3 * v) stream h.room (omega (arith, few)) in
    record { lawful = d.lawful; owners_are = d.owners_are; words = same ∙ d.words }

-- the line at a place is the first of the lines from there
pub lines_here : (text : Bytes) (p : Place) → p.byte < length text
    → lines_of (drop p.byte text) ≡ line_of (line_at text p) (ltb (stop_at text p) (length text)) ∷ lines_of (drop (stop_at text p + 1) text)
unfolding line_at stop_at
lines_here text p h = go (ltb stop (length text)) refl
  where
    stop : ℕ
    stop = first_from text p.byte LF

    go : (b : Bool) → ltb stop (length text) ≡ b → lines_of (drop p.byte text) ≡ line_of (take (stop - p.byte) (drop p.byte text)) (ltb stop (length text)) ∷ lines_of (drop (stop + 1) text)
    go true e = rw e (lines_found text p.byte stop (omega arith) refl (ltb-true stop (length text) e))
    go false e =
        let l = ltb-false stop (length text) e in
        let none_left : lines_of (drop (stop + 1) text) ≡ [] = lines_none (drop (stop + 1) text) (omega (arith, length-drop (stop + 1) text)) in
        let all : take (stop - p.byte) (drop p.byte text) ≡ drop p.byte text = take_all (stop - p.byte) (drop p.byte text) (omega (arith, length-drop p.byte text)) in
        rw (e, none_left, all) (lines_ended text p.byte stop (omega arith) refl h l)

pub stop_on : (text : Bytes) (p : Place) → p.byte ≤ length text → p.byte ≤ stop_at text p
unfolding stop_at
stop_on text p h = find_after text p.byte LF (first_from text p.byte LF) h refl

-- a line that breaks no row has its LF
pub line_ended : (r : Reading) (k : LineKey) (l : Line) → fault r k l ≡ none → l.ended ≡ true
unfolding fault
line_ended r k l f = (formed k l (unbroken 2 (row2 k l) _ f).0).ended

pub end_is : is_end End ≡ true
unfolding is_end
end_is = refl

-- a round that ends, and one that goes on
module _ (text : Bytes) (left n : ℕ) (p : Place) (words new : List ℕ) (w : round_after text p words ≡ new) where
  pub round_ends : (a : ReadAnswer) → round_at text n p words ≡ done a → read_from text (suc left) n p words ≡ outcome a new
  unfolding read_from on_round
  round_ends (Ok t) h = rw (h, w)
  round_ends (Err e) h = rw (h, w)

  pub round_goes : (q : Place) → round_at text n p words ≡ going q → read_from text (suc left) n p words ≡ read_from text left (n + 1) q new
  unfolding read_from on_round
  round_goes q h = rw (h, w)

-- the bytes of a line are no more than the text's
pub line_short : (text : Bytes) (p : Place) → length text ≤ max_bytes → length (line_at text p) ≤ max_bytes
unfolding line_at
line_short text p h = omega (arith, length-take (stop_at text p - p.byte) (drop p.byte text), length-drop p.byte text)

-- what the rounds come to where nothing more is read
pub ends_accepted : (r : Reading) (n : ℕ) (stream words : List ℕ) → words ≡ filled stream → Ends nothing r [] n [] stream (outcome (Ok tt) words)
unfolding Reader.read read_of flat_map
ends_accepted r n stream words f =
    record { answer = refl; words = λ m h. let e : r.model ≡ m = cc in ([], e, f ∙ ap filled (sym (append-nil stream))) }

pub ends_refused : (b : Behind) (r : Reading) (ks : List LineKey) (n : ℕ) (ls : List Line) (row : ℕ) (stream words : List ℕ) → Reader.read b r ks n ls ≡ refused row n → Ends b r ks n ls stream (outcome (Err (refusal row n)) words)
unfolding read_of
ends_refused b r ks n ls row stream words e =
    record { answer = ap read_of (sym e); words = λ m h. absurd (no_refusal row n m (sym e ∙ h)) }

-- an entry more in front; an owner behind it is that of its variable
module _ (r : Reading) (ks : List LineKey) (stream : List ℕ) (m : Model) (words : List ℕ) where
  closed_entry : (e : Entry) → Closed (noted r e) (then_due r.model.format e ++ ks) (stream ++ line_words e) m words → Closed r (key_of e ∷ ks) stream m words
  unfolding flat_map
  closed_entry e u = (e ∷ u.0, (refl, u.1), u.2 ∙ ap filled (append_assoc stream (line_words e) (flat_map line_words u.0)))

  abbrev After : Entry → Type 0
  After e = ClosedBehind (behind r.model.format e) (noted r e) (then_due r.model.format e ++ ks) (stream ++ line_words e) m words

  closed_variable : (x : Range) → After (variable_line x none) → Closed r (key_of (variable_line x none) ∷ ks) stream m words
  unfolding behind then_due key_of
  closed_variable x u = go (leb owners_format r.model.format) u
    where
      go : (b : Bool) → ClosedBehind (elim b [ true ↦ owner | false ↦ nothing ]) (noted r (variable_line x none)) ks (stream ++ line_words (variable_line x none)) m words → Closed r (key_of (variable_line x none) ∷ ks) stream m words
      go true u =
          let o = u.0 in
          let v = u.1 in
          closed_entry (variable_line x o)
          (v.0, subst (λ (q : Reading). Follows v.0 q ks m) (owner_noted r x none o) v.1, v.2 ∙ ap (λ (l : List ℕ). filled (l ++ flat_map line_words v.0)) (owned_last stream x none o))
      go false u = closed_entry (variable_line x none) u

  closed_edge : (b : Bool) (due : List ℕ) (q : Reading) (qs : List LineKey) (s : List ℕ) → ClosedBehind (elim b [ true ↦ list due | false ↦ nothing ]) q qs s m words → Closed q qs s m words
  closed_edge true due q qs s u = u
  closed_edge false due q qs s u = u

  closed_line : {e : Entry} → Shape e → owner_said e ≡ none → After e → Closed r (key_of e ∷ ks) stream m words
  unfolding owner_said behind
  closed_line (a_variable x none) o u = closed_variable x u
  closed_line (a_variable x (some k)) o u = absurd (none_some k (sym o))
  closed_line (an_edge x) o u = closed_entry (edge_line x) (closed_edge (leb writes_format r.model.format) (written x.update) (noted r (edge_line x)) (then_due r.model.format (edge_line x) ++ ks) (stream ++ line_words (edge_line x)) u)
  closed_line (lone {e} v b s) o u =
      closed_entry e (subst (λ (q : Behind). ClosedBehind q (noted r e) (then_due r.model.format e ++ ks) (stream ++ line_words e) m words) (b r.model.format) u)

pub ends_line : (r : Reading) (k : LineKey) (ks : List LineKey) (n : ℕ) (l : Line) (ls : List Line) (stream : List ℕ) (x : Outcome) → fault r k l ≡ none
    → Ends (behind r.model.format (entry k l)) (noted r (entry k l)) (then_due r.model.format (entry k l) ++ ks) (suc n) ls (stream ++ line_words (entry k l)) x → Ends nothing r (k ∷ ks) n (l ∷ ls) stream x
ends_line r k ks n l ls stream x f h =
    let same = read_case r k ks n l ls none f in
    record {
      answer = h.answer ∙ ap read_of (sym same);
      words = λ m a.
          subst (λ (j : LineKey). ClosedBehind nothing r (j ∷ ks) stream m x.words) (entry_key k l)
          (closed_line r ks stream m x.words (shape_of (entry k l)) (entry_unowned k l) (h.words m (sym same ∙ a)));
    }

-- a list, or an owner
pub ends_list : (r : Reading) (due : List ℕ) (ks : List LineKey) (n : ℕ) (l : Line) (ls : List Line) (stream : List ℕ) (x : Outcome) → writes_fault r due l ≡ none → Ends nothing r ks (suc n) ls stream x → Ends (list due) r ks n (l ∷ ls) stream x
ends_list r due ks n l ls stream x f h =
    let same = list_case r due ks n l ls none f in
    record { answer = h.answer ∙ ap read_of (sym same); words = λ m a. h.words m (sym same ∙ a) }

pub ends_owner : (r : Reading) (ks : List LineKey) (n : ℕ) (l : Line) (ls : List Line) (stream : List ℕ) (x : Outcome) → owner_fault l ≡ none
    → Ends nothing (with_owner r (the_owner l)) ks (suc n) ls (owned (the_owner l) stream) x → Ends owner r ks n (l ∷ ls) stream x
ends_owner r ks n l ls stream x f h =
    let same = owner_case r ks n l ls none f in
    record { answer = h.answer ∙ ap read_of (sym same); words = λ m a. (the_owner l, h.words m (sym same ∙ a)) }

-- too few lines, too many
pub read_lacking : (r : Reading) (k : LineKey) (ks : List LineKey) (n : ℕ) → Reader.read nothing r (k ∷ ks) n [] ≡ refused 2 n
unfolding Reader.read
read_lacking r k ks n = refl

pub read_no_list : (r : Reading) (due : List ℕ) (ks : List LineKey) (n : ℕ) → Reader.read (list due) r ks n [] ≡ refused 2 n
unfolding Reader.read
read_no_list r due ks n = refl

pub read_no_owner : (r : Reading) (ks : List LineKey) (n : ℕ) → Reader.read owner r ks n [] ≡ refused 2 n
unfolding Reader.read
read_no_owner r ks n = refl

pub read_extra : (r : Reading) (n : ℕ) (l : Line) (ls : List Line) → Reader.read nothing r [] n (l ∷ ls) ≡ refused 2 n
unfolding Reader.read
read_extra r n l ls = refl
