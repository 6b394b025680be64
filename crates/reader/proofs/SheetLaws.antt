-- Each way out of the code of src/sheet.rt.
use Prim.Native.Nat.{ℕ, zero, suc, ◌+◌, ◌-◌, ◌≤◌, ◌<◌}
use mathlib.Core.Path.{◌≡◌, refl, sym, ◌∙◌, ap}
use mathlib.Core.Bool.{Bool, true, false, not, ◌&&◌, ◌||◌}
use mathlib.Core.List.{List}
use native.Mathlib.Numerals.{sub-one}
use native.Mathlib.Omega.{arith}
use lib.ListN.{length, take, drop, set, length-set}
use lib.Dec.{eqb, leb, ltb}
use borrow.Author.Tests.{eq-eqb, ne_eqb, le-leb, lt-leb, le-ltb, lt-ltb}
use Rattle.model.specs.Bounds.{max_bytes, table_words, owners_format}
use Rattle.model.proofs.Tests.{or_left, or_none, or_right}
use Rattle.line_order.specs.declared.Due.{Due}
use Rattle.line_order.specs.declared.Counts.{Counts}
use Rattle.line_order.specs.Due.{is_end, is_listed, is_owned, due_first, due_after}
use Rattle.line_order.specs.Counts.{counts_none, counts_after}
use Rattle.format.specs.Bytes.{Bytes, LF}
use Rattle.text_bytes.specs.Find.{first_from}
use Rattle.text_bytes.proofs.FindLaws.{first_is}
use Rattle.read_form.specs.declared.LineRead.{LineRead}
use Rattle.read_line.specs.Line.{line_read, line_after}
use Rattle.read_line.proofs.Kept.{line_kept}
use Rattle.table_line.specs.Line.{ranges_in}
use Rattle.table_owners.specs.Owners.{foreign_in}
use Rattle.std.specs.Prelude.{Option, Some, None, Result, Ok, Err}
use Rattle.model.specs.declared.Row.{Row}
use Rattle.reader.specs.declared.Refusal.{Refusal}
use Rattle.read_owner_line.specs.Owner.{owner_read}
use Rattle.read_writes_line.specs.Writes.{told, writes_row}
use Rattle.reader.specs.declared.Place.{Place}
use Rattle.reader.specs.declared.Behind.{Behind}
use Rattle.reader.specs.declared.Behind.TheVariants.{Owner, Writes}
use Rattle.std.specs.Option.{is_some, is_none}
use Rattle.reader.specs.Read.{ReadAnswer, Round, refusal, place_first, place_after, place_behind, stands_behind, last_set, writes_others, Outcome, stop_at, line_at, on_line, line_round, line_round_after, on_owner, owner_round, on_owner_after, owner_round_after, on_list, list_round, due_round, due_round_after, round_at, round_after, on_round, read_from, sheet_read}

-- `Behind::of`
module _ (d : Due) (number : ℕ) (o : Bool) (ho : o ≡ is_owned d) where
  pub behind_owner : o ≡ true → Some Owner ≡ stands_behind d number
  unfolding stands_behind
  behind_owner h = rw (sym ho ∙ h, stands_behind)

  module _ (h : o ≡ false) (l : Bool) (hl : l ≡ is_listed d) where
    pub behind_list : l ≡ true → Some (Writes number) ≡ stands_behind d number
    unfolding stands_behind
    behind_list k = rw (sym ho ∙ h, sym hl ∙ k, stands_behind)

    pub behind_none : l ≡ false → None ≡ stands_behind d number
    unfolding stands_behind
    behind_none k = rw (sym ho ∙ h, sym hl ∙ k, stands_behind)

pub ruleset behind_laws = (behind_owner, behind_list, behind_none)

-- `Place::first`, `Place::after` and `Place::after_behind`
pub first_by : (d : Due) (k : Counts) → d ≡ due_first → k ≡ counts_none → ◌≡◌ {A = Place} (record { due = d; counts = k; at = 0; byte = 0; behind = None }) place_first
unfolding place_first
first_by d k p q = rw (p, q)

pub after_by : (s : Place) (number nodes next stop : ℕ) (d : Due) (k : Counts) (b : Option Behind) → d ≡ due_after s.due number → k ≡ counts_after s.counts s.due.key number nodes → b ≡ stands_behind s.due number
    → ◌≡◌ {A = Place} (record { due = d; counts = k; at = next; byte = stop + 1; behind = b }) (place_after s number nodes next stop)
unfolding place_after
after_by s number nodes next stop d k b p q e = rw (p, q, e)

pub behind_by : (s : Place) (stop : ℕ) → ◌≡◌ {A = Place} (record { due = s.due; counts = s.counts; at = s.at; byte = stop + 1; behind = None }) (place_behind s stop)
unfolding place_behind
behind_by s stop = refl

pub ruleset place_laws = (first_by, after_by, behind_by)

-- `stop_from`
pub stop_after : (text : Bytes) (at r : ℕ) → r ≡ first_from text at LF → at < length text → at ≤ r
stop_after text at r e h = let f = first_is text at LF (omega arith) in omega (arith, e, f)

-- `line_at`
module _ (text : Bytes) (p : Place) (stop : ℕ) (hs : stop ≡ first_from text p.byte LF) where
  pub stop_is : stop ≡ stop_at text p
  unfolding stop_at
  stop_is = hs

  pub bytes_are : take (stop - p.byte) (drop p.byte text) ≡ line_at text p
  unfolding stop_at line_at
  bytes_are = rw hs

  pub ended_is : ltb stop (length text) ≡ ltb (stop_at text p) (length text)
  unfolding stop_at
  ended_is = rw hs

pub ruleset at_laws = (stop_is, bytes_are, ended_is)

-- `line`, where the line at a place is s
module _ (text : Bytes) (n : ℕ) (p : Place) (words : List ℕ) (s : Bytes) (hl : s ≡ line_at text p) (ended : Bool) (he : ended ≡ ltb (stop_at text p) (length text)) where
  module _ (r : Result LineRead Row) (hr : r ≡ line_read s ended p.due.key p.counts words p.at) where
    by_line : on_line text n p r ≡ line_round text n p words
    unfolding line_round
    by_line = rw (hr, hl, he)

    pub line_fault : (w : Row) → r ≡ Err w → Err (record { row = w; line = n }) ≡ line_round text n p words
    unfolding on_line
    line_fault w h = rw h at by_line

    pub line_on : (x : LineRead) → r ≡ Ok x → (stop : ℕ) → stop ≡ stop_at text p → (q : Place) → q ≡ place_after p x.number x.nodes x.next stop → Ok (Some q) ≡ line_round text n p words
    unfolding on_line
    line_on x h stop hs q hq = rw (hq, hs) (rw h at by_line)

  pub line_words_lem : (new : List ℕ) → new ≡ line_after s ended p.due.key p.counts words p.at → new ≡ line_round_after text p words
  unfolding line_round_after
  line_words_lem new h = h ∙ rw (hl, he)

pub ruleset line_laws = (line_fault, line_on, line_words_lem)

-- `set_last`
module _ (at word : ℕ) (old : List ℕ) where
  pub set_first : at ≡ 0 → old ≡ last_set at word old
  unfolding last_set
  set_first h = rw (eq-eqb at 0 h, last_set)

  module _ (h : at ≡ 0 → ⊥) where
    pub set_beyond : table_words < at → old ≡ last_set at word old
    unfolding last_set
    set_beyond l = rw (ne_eqb at 0 h, lt-ltb table_words at l, last_set)

    pub set_there : at ≤ table_words → set old (at - 1) word ≡ last_set at word old
    unfolding last_set
    set_there l = rw (ne_eqb at 0 h, le-ltb table_words at l, last_set)

pub ruleset set_laws = (set_first, set_beyond, set_there)

-- `owner`
module _ (text : Bytes) (n : ℕ) (p : Place) (words : List ℕ) (s : Bytes) (hl : s ≡ line_at text p) (ended : Bool) (he : ended ≡ ltb (stop_at text p) (length text)) (r : Result ℕ Row)
    (hr : r ≡ owner_read s ended) where
  by_owner : on_owner text n p r ≡ owner_round text n p
  unfolding owner_round
  by_owner = rw (hr, hl, he)

  by_owner_after : on_owner_after text p words r ≡ owner_round_after text p words
  unfolding owner_round_after
  by_owner_after = rw (hr, hl, he)

  module _ (w : Row) (h : r ≡ Err w) where
    pub owner_fault_lem : Err (record { row = w; line = n }) ≡ owner_round text n p
    unfolding on_owner
    owner_fault_lem = rw h at by_owner

    pub owner_stays : words ≡ owner_round_after text p words
    unfolding on_owner_after
    owner_stays = rw h at by_owner_after

  module _ (word : ℕ) (h : r ≡ Ok word) where
    pub owner_on : (stop : ℕ) → stop ≡ stop_at text p → (q : Place) → q ≡ place_behind p stop → Ok (Some q) ≡ owner_round text n p
    unfolding on_owner
    owner_on stop hs q hq = rw (hq, hs) (rw h at by_owner)

    pub owner_words : (new : List ℕ) → new ≡ last_set p.at word words → new ≡ owner_round_after text p words
    unfolding on_owner_after
    owner_words new hn = hn ∙ (rw h at by_owner_after)

pub ruleset owner_laws = (owner_fault_lem, owner_stays, owner_on, owner_words)

-- `writes_others`
module _ (p : Place) (rest : ℕ) (words : List ℕ) where
  pub others_early : p.counts.format < owners_format → false ≡ writes_others p rest words
  unfolding writes_others
  others_early h = rw (lt-ltb p.counts.format owners_format h, writes_others)

  pub others_late : owners_format ≤ p.counts.format → (ranges : List ℕ) → ranges ≡ ranges_in words p.counts.variables
      → (r : Bool) → r ≡ foreign_in ranges p.counts.automata rest → r ≡ writes_others p rest words
  unfolding writes_others
  others_late h ranges e r hr =
      hr ∙ ap (λ (l : List ℕ). foreign_in l p.counts.automata rest) e ∙ rw (le-ltb p.counts.format owners_format h, writes_others)

pub ruleset others_laws = (others_early, others_late)

-- `list`
module _ (text : Bytes) (n : ℕ) (p : Place) (rest : ℕ) (words : List ℕ) (s : Bytes) (hl : s ≡ line_at text p) (ended : Bool) (he : ended ≡ ltb (stop_at text p) (length text)) (r : Result (Unit {0}) Row)
    (hr : r ≡ told (writes_row s ended p.counts.variables rest)) where
  by_list : on_list text n p rest words r ≡ list_round text n p rest words
  unfolding list_round
  by_list = rw (hr, hl, he)

  pub list_fault : (w : Row) → r ≡ Err w → Err (record { row = w; line = n }) ≡ list_round text n p rest words
  unfolding on_list
  list_fault w h = rw h at by_list

  module _ (h : r ≡ Ok tt) (b : Bool) (hb : b ≡ writes_others p rest words) where
    sound_list : list_round text n p rest words ≡ elim b as (λ x. Round) [ true ↦ Err (refusal 51 n) | false ↦ Ok (Some (place_behind p (stop_at text p))) ]
    unfolding on_list
    sound_list = sym (rw h at by_list) ∙ ap (λ (x : Bool). elim x as (λ y. Round) [ true ↦ Err (refusal 51 n) | false ↦ Ok (Some (place_behind p (stop_at text p))) ]) (sym hb)

    pub list_others : b ≡ true → Err (refusal 51 n) ≡ list_round text n p rest words
    list_others e = sym (sound_list ∙ ap (λ (x : Bool). elim x as (λ y. Round) [ true ↦ Err (refusal 51 n) | false ↦ Ok (Some (place_behind p (stop_at text p))) ]) e)

    pub list_on : b ≡ false → (stop : ℕ) → stop ≡ stop_at text p → (q : Place) → q ≡ place_behind p stop → Ok (Some q) ≡ list_round text n p rest words
    list_on e stop hs q hq = rw (hq, hs) (sym (sound_list ∙ ap (λ (x : Bool). elim x as (λ y. Round) [ true ↦ Err (refusal 51 n) | false ↦ Ok (Some (place_behind p (stop_at text p))) ]) e))

pub ruleset list_laws = (list_fault, list_others, list_on)

-- `due_behind`
module _ (text : Bytes) (n : ℕ) (p : Place) (words : List ℕ) (b : Behind) where
  module _ (e : b ≡ Owner) where
    pub due_owner : (r : Round) → r ≡ owner_round text n p → r ≡ due_round text n p words (Some b)
    unfolding due_round
    due_owner r h = h ∙ sym (ap (λ (x : Behind). due_round text n p words (Some x)) e)

    pub due_owner_after : (new : List ℕ) → new ≡ owner_round_after text p words → new ≡ due_round_after text p words (Some b)
    unfolding due_round_after
    due_owner_after new h = h ∙ sym (ap (λ (x : Behind). due_round_after text p words (Some x)) e)

  module _ (rest : ℕ) (e : b ≡ Writes rest) where
    pub due_list : (r : Round) → r ≡ list_round text n p rest words → r ≡ due_round text n p words (Some b)
    unfolding due_round
    due_list r h = h ∙ sym (ap (λ (x : Behind). due_round text n p words (Some x)) e)

    pub due_list_after : words ≡ due_round_after text p words (Some b)
    unfolding due_round_after
    due_list_after = sym (ap (λ (x : Behind). due_round_after text p words (Some x)) e)

pub ruleset due_laws = (due_owner, due_owner_after, due_list, due_list_after)

-- `round`
module _ (text : Bytes) (n : ℕ) (p : Place) (words : List ℕ) (e : Bool) (he : e ≡ is_end p.due.key) where
  module _ (h : length text ≤ p.byte) where
    module _ (m : Bool) (hm : is_some p.behind ≡ not m) where
      over : (b : Bool) → (e && m) ≡ b → (is_end p.due.key && is_none p.behind) ≡ b
      over b k = ap (λ (x : Bool). x && is_none p.behind) (sym he) ∙ ap (λ (x : Bool). e && x) (none_is m hm) ∙ k
        where
          none_is : (y : Bool) → is_some p.behind ≡ not y → is_none p.behind ≡ y
          none_is true q = ap not q
          none_is false q = ap not q

      pub round_done : (e && m) ≡ true → Ok None ≡ round_at text n p words
      unfolding round_at
      round_done b = rw (le-leb (length text) p.byte h, over true b, round_at)

      pub round_lacking : (e && m) ≡ false → Err (refusal 2 n) ≡ round_at text n p words
      unfolding round_at
      round_lacking b = rw (le-leb (length text) p.byte h, over false b, round_at)

    pub round_ended : words ≡ round_after text p words
    unfolding round_after
    round_ended = rw (le-leb (length text) p.byte h, round_after)

  -- what is due decides
  module _ (h : p.byte < length text) where
    here : (b : Option Behind) → p.behind ≡ b → round_at text n p words ≡ due_round text n p words b
    unfolding round_at
    here b q = rw (lt-leb (length text) p.byte h, round_at) (ap (due_round text n p words) q)

    here_after : (b : Option Behind) → p.behind ≡ b → round_after text p words ≡ due_round_after text p words b
    unfolding round_after
    here_after b q = rw (lt-leb (length text) p.byte h, round_after) (ap (due_round_after text p words) q)

    module _ (b : Behind) (o : p.behind ≡ Some b) where
      pub round_due : (r : Round) → r ≡ due_round text n p words (Some b) → r ≡ round_at text n p words
      round_due r hr = hr ∙ sym (here (Some b) o)

      pub round_due_after : (new : List ℕ) → new ≡ due_round_after text p words (Some b) → new ≡ round_after text p words
      round_due_after new hn = hn ∙ sym (here_after (Some b) o)

    module _ (o : p.behind ≡ Some Owner) where
      pub round_owner : (r : Round) → r ≡ owner_round text n p → r ≡ round_at text n p words
      unfolding due_round
      round_owner r hr = hr ∙ sym (here (Some Owner) o)

      pub round_owned : (new : List ℕ) → new ≡ owner_round_after text p words → new ≡ round_after text p words
      unfolding due_round_after
      round_owned new hn = hn ∙ sym (here_after (Some Owner) o)

    module _ (rest : ℕ) (o : p.behind ≡ Some (Writes rest)) where
      pub round_list : (r : Round) → r ≡ list_round text n p rest words → r ≡ round_at text n p words
      unfolding due_round
      round_list r hr = hr ∙ sym (here (Some (Writes rest)) o)

      pub round_as_was : words ≡ round_after text p words
      unfolding due_round_after
      round_as_was = sym (here_after (Some (Writes rest)) o)

    module _ (o : p.behind ≡ None) where
      on_key : (b : Bool) → e ≡ b → round_at text n p words ≡ elim b as (λ x. Round) [ true ↦ Err (refusal 2 n) | false ↦ line_round text n p words ]
      unfolding due_round
      on_key b q = here None o ∙ ap (λ (x : Bool). elim x as (λ y. Round) [ true ↦ Err (refusal 2 n) | false ↦ line_round text n p words ]) (sym he ∙ q)

      on_key_after : (b : Bool) → e ≡ b → round_after text p words ≡ elim b as (λ x. List ℕ) [ true ↦ words | false ↦ line_round_after text p words ]
      unfolding due_round_after
      on_key_after b q = here_after None o ∙ ap (λ (x : Bool). elim x as (λ y. List ℕ) [ true ↦ words | false ↦ line_round_after text p words ]) (sym he ∙ q)

      pub round_extra : e ≡ true → Err (refusal 2 n) ≡ round_at text n p words
      round_extra b = sym (on_key true b)

      pub round_stays : e ≡ true → words ≡ round_after text p words
      round_stays b = sym (on_key_after true b)

      pub round_line : e ≡ false → (r : Round) → r ≡ line_round text n p words → r ≡ round_at text n p words
      round_line b r hr = hr ∙ sym (on_key false b)

      pub round_words : e ≡ false → (new : List ℕ) → new ≡ line_round_after text p words → new ≡ round_after text p words
      round_words b new hn = hn ∙ sym (on_key_after false b)

-- `sheet`: from each round on, the rounds that are left come to the same outcome
module _ (text : Bytes) where
  pub sheet_first : (words : List ℕ) (p : Place) → p ≡ place_first → read_from text 65537 1 p words ≡ sheet_read text words
  unfolding sheet_read
  sheet_first words p h = ap (λ (x : Place). read_from text (max_bytes + 1) 1 x words) h

  module _ (n : ℕ) (p : Place) (words : List ℕ) (whole : Outcome) (inv : read_from text (65538 - n) n p words ≡ whole) where
    pub spent_answer : 65538 ≤ n → Err (refusal 2 0) ≡ whole.answer
    unfolding read_from
    spent_answer z =
        let e : 65538 - n ≡ 0 = omega arith in
        ap (λ (o : Outcome). o.answer) (rw e at inv)

    pub spent_words : 65538 ≤ n → words ≡ whole.words
    unfolding read_from
    spent_words z =
        let e : 65538 - n ≡ 0 = omega arith in
        ap (λ (o : Outcome). o.words) (rw e at inv)

    module _ (z : n < 65538) (new : List ℕ) (hn : new ≡ round_after text p words) where
      on : (r : Round) → r ≡ round_at text n p words → on_round text (read_from text (65538 - (n + 1)) (n + 1)) r new ≡ whole
      unfolding read_from
      on r hr =
          let e : 65538 - n ≡ suc (65538 - (n + 1)) = omega arith in
          rw (hr, hn) (rw e at inv)

      pub broken_answer : (e : Refusal) → Err e ≡ round_at text n p words → Err e ≡ whole.answer
      unfolding on_round
      broken_answer e h = ap (λ (o : Outcome). o.answer) (on (Err e) h)

      pub broken_words : (e : Refusal) → Err e ≡ round_at text n p words → new ≡ whole.words
      unfolding on_round
      broken_words e h = ap (λ (o : Outcome). o.words) (on (Err e) h)

      pub done_answer : Ok None ≡ round_at text n p words → Ok tt ≡ whole.answer
      unfolding on_round
      done_answer h = ap (λ (o : Outcome). o.answer) (on (Ok None) h)

      pub done_words : Ok None ≡ round_at text n p words → new ≡ whole.words
      unfolding on_round
      done_words h = ap (λ (o : Outcome). o.words) (on (Ok None) h)

      pub sheet_on : (q : Place) → Ok (Some q) ≡ round_at text n p words → read_from text (65538 - (n + 1)) (n + 1) q new ≡ whole
      unfolding on_round
      sheet_on q h = on (Ok (Some q)) h

-- the buffer keeps its length
line_round_kept : (text : Bytes) (p : Place) (words : List ℕ) → length (line_round_after text p words) ≡ length words
unfolding line_round_after
line_round_kept text p words = line_kept (line_at text p) (ltb (stop_at text p) (length text)) p.due.key p.counts words p.at

last_kept : (at word : ℕ) (old : List ℕ) → length (last_set at word old) ≡ length old
unfolding last_set
last_kept at word old = go (eqb at 0) (ltb table_words at)
  where
    go : (a b : Bool) → length {A = ℕ} (elim a as (λ x. List ℕ) [ true ↦ old | false ↦ elim b as (λ x. List ℕ) [ true ↦ old | false ↦ set old (at - 1) word ] ]) ≡ length old
    go true b = refl
    go false true = refl
    go false false = length-set old (at - 1) word

owner_round_kept : (text : Bytes) (p : Place) (words : List ℕ) → length (owner_round_after text p words) ≡ length words
unfolding owner_round_after on_owner_after
owner_round_kept text p words = go (owner_read (line_at text p) (ltb (stop_at text p) (length text)))
  where
    go : (r : Result ℕ Row) → length (on_owner_after text p words r) ≡ length words
    go (Err w) = refl
    go (Ok word) = last_kept p.at word words

round_kept : (text : Bytes) (p : Place) (words : List ℕ) → length (round_after text p words) ≡ length words
unfolding round_after due_round_after
round_kept text p words = go (leb (length text) p.byte)
  where
    by_key : (v : Bool) → length {A = ℕ} (elim v as (λ x. List ℕ) [ true ↦ words | false ↦ line_round_after text p words ]) ≡ length words
    by_key true = refl
    by_key false = line_round_kept text p words

    by_behind : (b : Option Behind) → length (due_round_after text p words b) ≡ length words
    by_behind (Some Owner) = owner_round_kept text p words
    by_behind (Some (Writes rest)) = refl
    by_behind None = by_key (is_end p.due.key)

    go : (v : Bool) → length {A = ℕ} (elim v as (λ x. List ℕ) [ true ↦ words | false ↦ due_round_after text p words p.behind ]) ≡ length words
    go true = refl
    go false = by_behind p.behind

on_kept : (text : Bytes) (go : Place → List ℕ → Outcome) → ((q : Place) (ws : List ℕ) → length (go q ws).words ≡ length ws) → (r : Round) (new : List ℕ) → length (on_round text go r new).words ≡ length new
unfolding on_round
on_kept text go h (Ok None) new = refl
on_kept text go h (Ok (Some q)) new = h q new
on_kept text go h (Err e) new = refl

read_kept : (text : Bytes) (left n : ℕ) (p : Place) (words : List ℕ) → length (read_from text left n p words).words ≡ length words
unfolding read_from
read_kept text zero n p words = refl
read_kept text (suc left) n p words =
    on_kept text (λ q ws. read_from text left (n + 1) q ws) (λ q ws. read_kept text left (n + 1) q ws) (round_at text n p words) (round_after text p words) ∙ round_kept text p words

pub sheet_kept : (text : Bytes) (words : List ℕ) → length (sheet_read text words).words ≡ length words
unfolding sheet_read
sheet_kept text words = read_kept text (max_bytes + 1) 1 place_first words
