-- The rounds where something is due behind the line before: an owner, or a list.
use Prim.Native.Nat.{ℕ, suc, ◌+◌, ◌-◌, ◌*◌, ◌≤◌, ◌<◌}
use mathlib.Core.Path.{◌≡◌, refl, sym, ◌∙◌, ap, subst}
use mathlib.Core.Bool.{Bool, true, false, not, ◌&&◌, ◌||◌}
use mathlib.Core.List.{List, [], ◌∷◌, ◌++◌, append-nil, map}
use mathlib.Core.Option.{Option, none, some}
use native.Mathlib.Omega.{arith}
use borrow.Author.Tests.{leb-true, leb-false, le-ltb, lt-ltb, ltb-true}
use lib.ListN.{length, take, drop, set, get_or, length-append, length-drop}
use lib.Seq.{drop-append_seam}
use lib.Dec.{leb, ltb}
use Rattle.model.specs.Basic.{exists}
use Rattle.model.specs.Bounds.{owners_format, table_words}
use Rattle.model.specs.Predicate.{words}
use Rattle.model.specs.Predicate as M
use Rattle.model.specs.Lines.{variable_line, Reading, with_model, with_owner, noted}
use Rattle.model.specs.Limits.{variable_count, is_owner, writes_foreign, is_foreign, broken}
use Rattle.model.specs.Table.{biased, code, owner_word, line_words}
use Rattle.model.proofs.LinesLaws.{owner_noted}
use Rattle.model.proofs.Decode.{unbroken}
use Rattle.model.proofs.Tests.{and_no_right}
use Rattle.line_order.specs.Due.{is_end, keys_due}
use Rattle.line_order.specs.Counts.{Counted}
use Rattle.line_order.proofs.CountsLaws.{counted_owner, paced_more}
use Rattle.table_writes.specs.Sets.{all_variables, rest_of}
use Rattle.table_owners.specs.Owners.{foreign_in}
use Rattle.table_owners.proofs.OwnerLaws.{foreign_is}
use Rattle.table_line.specs.Exact.{Declared}
use Rattle.table_line.specs.Line.{ranges_in}
use Rattle.table_check.proofs.ScanLaws.{declared_more}
use Rattle.format.specs.Bytes.{Bytes}
use Rattle.format.specs.Rows.{Line}
use Rattle.format.specs.Spelling.{Behind, nothing, owner, list}
use Rattle.format.specs.Owners.{owner_row2, owner_fault, the_owner}
use Rattle.format.specs.Writes.{row51, writes_fault, writes_row2}
use Rattle.format.specs.Reader.{lines_of}
use Rattle.format.proofs.Exact.{list_case, owner_case}
use Rattle.format.proofs.OwnersLaws.{owner_formed}
use Rattle.format.proofs.WritesLaws.{writes_formed}
use Rattle.text_bytes.proofs.FindLaws.{lines_none}
use Rattle.read_form.specs.Form.{line_of}
use Rattle.std.specs.Prelude.{Result, Ok, Err}
use Rattle.std.specs.Prelude as P
use Rattle.std.specs.Option.{is_some}
use Rattle.read_form.specs.Outcome.{answered}
use Rattle.model.specs.declared.Row.{Row}
use Rattle.read_owner_line.specs.Owner.{owner_read}
use Rattle.read_owner_line.proofs.Meaning.{owner_faulty, owner_told}
use Rattle.read_writes_line.specs.Writes.{told, writes_row}
use Rattle.read_writes_line.proofs.Meaning.{writes_broken, writes_due, writes_owned}
use Rattle.reader.specs.declared.Place.{Place}
use Rattle.reader.specs.declared.Behind.{Behind as Due-first}
use Rattle.reader.specs.Read.{Round, refusal, going, done, place_behind, last_set, writes_others, Outcome, stop_at, line_at, on_owner, owner_round, on_owner_after, owner_round_after, on_list, list_round, round_at, round_after, read_from}
use Rattle.reader.proofs.SheetLaws.{set_there, round_lacking, round_ended, round_owner, round_owned, round_list, round_as_was}
use Rattle.reader.proofs.Filling.{filled, next_in, set_filled}
use Rattle.reader.proofs.Standing.{few_count, Due-list, Due-owner, Stand, owned, variable_last, owned_last, Ends, declared_on, declared_in, lines_here, stop_on, round_ends, round_goes, ends_refused, ends_list, ends_owner, read_no_list, read_no_owner}

-- what the rounds are to come to, from a place where something is due behind the line before
module _ (text : Bytes) (b : Behind) (r : Reading) (n : ℕ) (p : Place) (words stream : List ℕ) (left : ℕ) where
  abbrev pub Goal : Type 0
  Goal = Ends b r (keys_due p.due) (n + 1) (lines_of (drop p.byte text)) stream (read_from text (suc left) (n + 1) p words)

  -- the same, of the lines and the outcome as they are known
  goal : (ls : List Line) (x : Outcome) → lines_of (drop p.byte text) ≡ ls → read_from text (suc left) (n + 1) p words ≡ x → Ends b r (keys_due p.due) (n + 1) ls stream x → Goal
  goal ls x e f g = rw (e, f) g

-- The rounds where an owner is due.
module _ (text : Bytes) (r : Reading) (n : ℕ) (p : Place) (words stream : List ℕ) (h : Stand text owner r n p words stream) (left : ℕ) where
  pub no_owner_left : length text ≤ p.byte → Goal text owner r n p words stream left
  no_owner_left l =
      let none_left = lines_none (drop p.byte text) (omega (arith, length-drop p.byte text)) in
      let off : (is_end p.due.key && false) ≡ false = and_no_right (is_end p.due.key) false refl in
      let some_due : is_some p.behind ≡ true = ap (λ (b : P.Option Due-first). is_some b) h.waits.marked in
      goal text owner r n p words stream left [] _ none_left
      (round_ends text left (n + 1) p words words (sym (round_ended text (n + 1) p words _ refl l)) (Err (refusal 2 (n + 1))) (sym (round_lacking text (n + 1) p words _ refl l false some_due off)))
      (ends_refused owner r (keys_due p.due) (n + 1) [] 2 stream words (read_no_owner r (keys_due p.due) (n + 1)))

  module _ (l : p.byte < length text) where
    abbrev owner_line : Line
    owner_line = line_of (line_at text p) (ltb (stop_at text p) (length text))

    said_round : (x : Result ℕ Row) → owner_read (line_at text p) (ltb (stop_at text p) (length text)) ≡ x → round_at text (n + 1) p words ≡ on_owner text (n + 1) p x
    unfolding owner_round
    said_round x e = sym (round_owner text (n + 1) p words _ refl l h.waits.marked _ refl) ∙ ap (on_owner text (n + 1) p) e

    said_after : (x : Result ℕ Row) → owner_read (line_at text p) (ltb (stop_at text p) (length text)) ≡ x → round_after text p words ≡ on_owner_after text p words x
    unfolding owner_round_after
    said_after x e = sym (round_owned text (n + 1) p words _ refl l h.waits.marked _ refl) ∙ ap (on_owner_after text p words) e

    pub faulty_owner : (row : ℕ) → owner_fault owner_line ≡ some row → Goal text owner r n p words stream left
    unfolding on_owner on_owner_after
    faulty_owner row f =
        let said = owner_faulty (line_at text p) (ltb (stop_at text p) (length text)) row f in
        goal text owner r n p words stream left _ _ (lines_here text p l)
        (round_ends text left (n + 1) p words words (said_after _ said) (Err (refusal row (n + 1))) (said_round _ said))
        (ends_refused owner r (keys_due p.due) (n + 1) _ row stream words (owner_case r (keys_due p.due) (n + 1) owner_line _ (some row) f))

    module _ (f : owner_fault owner_line ≡ none) where
      abbrev o : Option ℕ
      o = the_owner owner_line

      abbrev w : Due-owner r p stream
      w = h.waits

      owner_ended : stop_at text p < length text
      unfolding owner_fault
      owner_ended = ltb-true (stop_at text p) (length text) (owner_formed owner_line (unbroken 2 (owner_row2 owner_line) _ f).0).2

      -- the owner's word is the last, and all others are as they were
      parted : owned o stream ≡ w.first ++ line_words (variable_line w.range o)
      parted = ap (owned o) w.parted ∙ owned_last w.first w.range none o

      same_size : length (owned o stream) ≡ length stream
      unfolding line_words
      same_size =
          ap (length {A = ℕ}) parted ∙ length-append w.first (line_words (variable_line w.range o)) ∙
          sym (ap (length {A = ℕ}) w.parted ∙ length-append w.first (line_words (variable_line w.range none)))

      said_is : with_owner r o ≡ noted w.before (variable_line w.range o)
      said_is = ap (λ (q : Reading). with_owner q o) w.said ∙ owner_noted w.before w.range none o

      declared_owned : Declared (owned o stream) (with_owner r o)
      declared_owned =
          let more = line_words (variable_line w.range o) in
          let there : drop (length w.first) (w.first ++ more) ≡ more ++ [] = drop-append_seam w.first more ∙ sym (append-nil more) in
          let d = declared_on w.first more w.before (omega (arith, w.placed)) w.declared in
          rw (parted, said_is) (declared_more (w.first ++ more) w.before w.range o (length w.first) [] w.placed there w.lawful d)

      -- so few words all find room
      short : length stream ≤ table_words
      unfolding variable_count noted with_model line_words
      short =
          let few = few_count p.due.key p.due (variable_count r) h.few in
          let count = ap (λ (q : Reading). variable_count q) w.said in
          omega (arith, few, count, w.placed, ap (length {A = ℕ}) w.parted, length-append w.first (line_words (variable_line w.range none)), length-append w.before.model.variables (w.range ∷ []))

      new_words : last_set p.at (owner_word o) words ≡ filled (owned o stream)
      new_words =
          let front = w.first ++ biased w.range.low ∷ biased w.range.high ∷ [] in
          let was : stream ≡ front ++ owner_word none ∷ [] = w.parted ∙ variable_last w.first w.range none in
          let size : length stream ≡ length front + 1 = ap (length {A = ℕ}) was ∙ length-append front (owner_word none ∷ []) in
          let at : p.at ≡ length stream = h.next ∙ next_in (length stream) short in
          let place : p.at - 1 ≡ length front = omega arith in
          sym (set_there p.at (owner_word o) words (λ z. absurd (omega (arith, z))) (omega (arith, at, short))) ∙
          ap (λ (i : ℕ). set words i (owner_word o)) place ∙ ap (λ (l : List ℕ). set l (length front) (owner_word o)) (h.full ∙ ap filled was) ∙
          set_filled front (owner_word none) (owner_word o) (omega (arith, size, short)) ∙
          ap filled (sym (variable_last w.first w.range o) ∙ sym parted)

      stand_owned : (new : List ℕ) → new ≡ last_set p.at (owner_word o) words → Stand text nothing (with_owner r o) (n + 1) (place_behind p (stop_at text p)) new (owned o stream)
      unfolding place_behind with_owner with_model variable_count
      stand_owned new e =
          let g = h.going in
          record {
            going =
                record {
                  counted = counted_owner r p.counts o g.counted;
                  paced = paced_more n (n + 1) p.counts (omega arith) g.paced;
                  begun = record { begun = g.begun.begun };
                  format = g.format;
                  few = g.few;
                  declared = declared_owned;
                  placed = rw same_size g.placed;
                  inside = omega arith;
                };
            few = h.few;
            room = rw same_size h.room;
            full = e ∙ new_words;
            next = rw same_size h.next;
            slow = omega (arith, h.slow, stop_on text p (omega arith));
            inside = omega (arith, owner_ended);
            waits = refl;
          }

      pub sound_owner : ((new : List ℕ) → Stand text nothing (with_owner r o) (n + 1) (place_behind p (stop_at text p)) new (owned o stream)
          → Ends nothing (with_owner r o) (keys_due p.due) (n + 1 + 1) (lines_of (drop (stop_at text p + 1) text)) (owned o stream) (read_from text left (n + 1 + 1) (place_behind p (stop_at text p)) new)) → Goal text owner r n p words stream left
      unfolding on_owner on_owner_after
      sound_owner onward =
          let said = owner_told (line_at text p) (ltb (stop_at text p) (length text)) f in
          let new = last_set p.at (owner_word o) words in
          let number : n + 1 + 1 ≡ suc (n + 1) = omega arith in
          goal text owner r n p words stream left _ _ (lines_here text p l)
          (round_goes text left (n + 1) p words new (said_after _ said) (place_behind p (stop_at text p)) (said_round _ said))
          (ends_owner r (keys_due p.due) (n + 1) owner_line _ stream _ f
          (subst (λ (i : ℕ). Ends nothing (with_owner r o) (keys_due p.due) i (lines_of (drop (stop_at text p + 1) text)) (owned o stream) (read_from text left (n + 1 + 1) (place_behind p (stop_at text p)) new)) number (onward new (stand_owned new refl))))

-- What the code asks of row 51 is `is_foreign`: the buffer has the variables with their owners.
others_is : (r : Reading) (p : Place) (words : List ℕ) (due : List ℕ) → Counted r p.counts → Declared words r → (b : Due-list due p) → writes_others p (rest_of all_variables (map code (M.words b.update))) words ≡ is_foreign r due
unfolding writes_others is_foreign writes_foreign ranges_in
others_is r p words due k d b = go (leb owners_format r.model.format) refl
  where
    found : Bool
    found = foreign_in (take (3 * p.counts.variables) (drop 3 words)) p.counts.automata (rest_of all_variables (map code (M.words b.update)))

    sought : Bool
    sought = exists (λ i. not (is_owner (length r.model.automata) (get_or r.model.owners i none))) due

    read : found ≡ sought
    read =
        rw (k.variables, d.words, k.automata, b.writes)
        (foreign_is r.model.variables r.model.owners d.owners_are (length r.model.automata) b.update b.ranged)

    go : (v : Bool) → leb owners_format r.model.format ≡ v → elim (ltb p.counts.format owners_format) as (λ x. Bool) [ true ↦ false | false ↦ found ] ≡ (v && sought)
    go true e = rw (le-ltb p.counts.format owners_format (omega (arith, leb-true owners_format r.model.format e, k.format))) read
    go false e = rw (lt-ltb p.counts.format owners_format (omega (arith, leb-false owners_format r.model.format e, k.format)))

-- The rounds where a list is due.
module _ (text : Bytes) (due : List ℕ) (r : Reading) (n : ℕ) (p : Place) (buffer stream : List ℕ) (h : Stand text (list due) r n p buffer stream) (left : ℕ) where
  pub no_list_left : length text ≤ p.byte → Goal text (list due) r n p buffer stream left
  no_list_left l =
      let none_left = lines_none (drop p.byte text) (omega (arith, length-drop p.byte text)) in
      let off : (is_end p.due.key && false) ≡ false = and_no_right (is_end p.due.key) false refl in
      let some_due : is_some p.behind ≡ true = ap (λ (b : P.Option Due-first). is_some b) h.waits.marked in
      goal text (list due) r n p buffer stream left [] _ none_left
      (round_ends text left (n + 1) p buffer buffer (sym (round_ended text (n + 1) p buffer _ refl l)) (Err (refusal 2 (n + 1))) (sym (round_lacking text (n + 1) p buffer _ refl l false some_due off)))
      (ends_refused (list due) r (keys_due p.due) (n + 1) [] 2 stream buffer (read_no_list r due (keys_due p.due) (n + 1)))

  module _ (l : p.byte < length text) where
    abbrev list_line : Line
    list_line = line_of (line_at text p) (ltb (stop_at text p) (length text))

    abbrev b : Due-list due p
    b = h.waits

    abbrev rest : ℕ
    rest = rest_of all_variables (map code (words b.update))

    -- the row that the line itself breaks, by the code
    abbrev pub row_read : Option ℕ
    row_read = writes_row (line_at text p) (ltb (stop_at text p) (length text)) p.counts.variables rest

    row_is : row_read ≡ writes_row (line_at text p) (ltb (stop_at text p) (length text)) (variable_count r) rest
    row_is = ap (λ (v : ℕ). writes_row (line_at text p) (ltb (stop_at text p) (length text)) v rest) h.going.counted.variables

    list_row : (row : ℕ) → row_read ≡ some row → writes_fault r due list_line ≡ some row
    list_row row e =
        ap (λ (d : List ℕ). writes_fault r d list_line) b.writes ∙
        writes_broken r b.update (line_at text p) (ltb (stop_at text p) (length text)) b.ranged row (sym row_is ∙ e)

    -- where it breaks none, row 51 is left
    list_clear : row_read ≡ none → writes_fault r due list_line ≡ broken 51 (is_foreign r due) none
    unfolding row51
    list_clear e =
        let f = sym row_is ∙ e in
        let list_is = writes_due r b.update (line_at text p) (ltb (stop_at text p) (length text)) b.ranged f ∙ sym b.writes in
        ap (λ (d : List ℕ). writes_fault r d list_line) b.writes ∙
        writes_owned r b.update (line_at text p) (ltb (stop_at text p) (length text)) b.ranged f ∙
        ap (λ (l : List ℕ). broken 51 (is_foreign r l) none) list_is

    kept : round_after text p buffer ≡ buffer
    kept = sym (round_as_was text (n + 1) p buffer _ refl l rest h.waits.marked)

    said_list : (x : Option ℕ) → row_read ≡ x → round_at text (n + 1) p buffer ≡ on_list text (n + 1) p rest buffer (told x)
    unfolding list_round
    said_list x e = sym (round_list text (n + 1) p buffer _ refl l rest h.waits.marked _ refl) ∙ ap (λ (y : Option ℕ). on_list text (n + 1) p rest buffer (told y)) e

    refused_list : (row : ℕ) → writes_fault r due list_line ≡ some row → round_at text (n + 1) p buffer ≡ done (Err (refusal row (n + 1))) → Goal text (list due) r n p buffer stream left
    refused_list row f e =
        goal text (list due) r n p buffer stream left _ _ (lines_here text p l)
        (round_ends text left (n + 1) p buffer buffer kept (Err (refusal row (n + 1))) e)
        (ends_refused (list due) r (keys_due p.due) (n + 1) _ row stream buffer (list_case r due (keys_due p.due) (n + 1) list_line _ (some row) f))

    pub faulty_list : (row : ℕ) → row_read ≡ some row → Goal text (list due) r n p buffer stream left
    unfolding on_list told answered
    faulty_list row e = refused_list row (list_row row e) (said_list (some row) e)

    module _ (e : row_read ≡ none) where
      others : writes_others p rest buffer ≡ is_foreign r due
      others = others_is r p buffer due h.going.counted (declared_in text (list due) r n p buffer stream h) h.waits

      clear_round : (b : Bool) → is_foreign r due ≡ b → round_at text (n + 1) p buffer ≡ elim b as (λ x. Round) [ true ↦ done (Err (refusal 51 (n + 1))) | false ↦ going (place_behind p (stop_at text p)) ]
      unfolding on_list told answered
      clear_round b f = said_list none e ∙ ap (λ (x : Bool). elim x as (λ y. Round) [ true ↦ done (Err (refusal 51 (n + 1))) | false ↦ going (place_behind p (stop_at text p)) ]) (others ∙ f)

      pub foreign_list : is_foreign r due ≡ true → Goal text (list due) r n p buffer stream left
      unfolding broken
      foreign_list f = refused_list 51 (list_clear e ∙ ap (λ (b : Bool). broken 51 b none) f) (clear_round true f)

      module _ (own : is_foreign r due ≡ false) where
        f : writes_fault r due list_line ≡ none
        unfolding broken
        f = list_clear e ∙ ap (λ (b : Bool). broken 51 b none) own

        list_ended : stop_at text p < length text
        unfolding writes_fault
        list_ended = ltb-true (stop_at text p) (length text) (writes_formed list_line (unbroken 2 (writes_row2 list_line) _ f).0).1

        stand_behind : Stand text nothing r (n + 1) (place_behind p (stop_at text p)) buffer stream
        unfolding place_behind
        stand_behind =
            let g = h.going in
            record {
              going = record { counted = g.counted; paced = paced_more n (n + 1) p.counts (omega arith) g.paced; begun = g.begun; format = g.format; few = g.few; declared = g.declared; placed = g.placed; inside = g.inside };
              few = h.few;
              room = h.room;
              full = h.full;
              next = h.next;
              slow = omega (arith, h.slow, stop_on text p (omega arith));
              inside = omega (arith, list_ended);
              waits = refl;
            }

        pub sound_list : (Stand text nothing r (n + 1) (place_behind p (stop_at text p)) buffer stream
            → Ends nothing r (keys_due p.due) (n + 1 + 1) (lines_of (drop (stop_at text p + 1) text)) stream (read_from text left (n + 1 + 1) (place_behind p (stop_at text p)) buffer)) → Goal text (list due) r n p buffer stream left
        sound_list onward =
            let number : n + 1 + 1 ≡ suc (n + 1) = omega arith in
            goal text (list due) r n p buffer stream left _ _ (lines_here text p l)
            (round_goes text left (n + 1) p buffer buffer kept (place_behind p (stop_at text p)) (clear_round false own))
            (ends_list r due (keys_due p.due) (n + 1) list_line _ stream _ f
            (subst (λ (i : ℕ). Ends nothing r (keys_due p.due) i (lines_of (drop (stop_at text p + 1) text)) stream (read_from text left (n + 1 + 1) (place_behind p (stop_at text p)) buffer)) number (onward stand_behind)))
