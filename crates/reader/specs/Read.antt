-- What the reader answers, line by line, and what it leaves in the lent table. It is what `read_answer` and
-- `table_after` say: the laws answer_exact and after_exact.
use Rattle.std.specs.Prelude.{ℕ, zero, suc, ◌+◌, ◌-◌, Bool, true, false, ◌&&◌, List, ◌++◌, length, take}
use Rattle.std.specs.Prelude.{drop, set, replicate, eqb, leb, ltb, Option, Some, None, Result, Ok, Err, codes}
use Rattle.std.specs.Fmt.{decimal}
use Rattle.std.specs.Option.{is_none}
use Rattle.model.specs.declared.Row.{Row}
use Rattle.model.specs.Row.{row, row_text}
use Rattle.model.specs.Bounds.{max_bytes, table_words, owners_format}
use Rattle.model.specs.Table.{row18}
use Rattle.line_order.specs.declared.Due.{Due}
use Rattle.line_order.specs.Due.{is_end, is_listed, is_owned, due_first, due_after}
use Rattle.line_order.specs.Counts.{counts_none, counts_after}
use Rattle.format.specs.Bytes.{Bytes, LF}
use Rattle.format.specs.Reader as Reader
use Rattle.format.specs.Reader.{row1}
use Rattle.text_bytes.specs.Find.{first_from}
use Rattle.table_line.specs.Line.{ranges_in}
use Rattle.table_owners.specs.Owners.{foreign_in}
use Rattle.read_form.specs.declared.LineRead.{LineRead}
use Rattle.read_line.specs.Line.{line_read, line_after}
use Rattle.read_owner_line.specs.Owner.{owner_read}
use Rattle.read_writes_line.specs.Writes.{told, writes_row}
use Rattle.reader.specs.declared.Refusal.{Refusal}
use Rattle.reader.specs.declared.Place.{Place}
use Rattle.reader.specs.declared.Behind.{Behind}
use Rattle.reader.specs.declared.Behind.TheVariants.{Owner, Writes}

-- what reading a text answers
abbrev pub ReadAnswer : Type 0
ReadAnswer = Result (Unit {0}) Refusal

abbrev pub refusal : (n line : ℕ) → Refusal
refusal n line = record { row = row n; line = line }

-- what `{}` prints of a refusal
abbrev pub refusal_text : Refusal → List ℕ
refusal_text r = row_text r.row ++ codes ", line " ++ decimal r.line

-- what each answer of the definitions is as the function gives it
unfoldable pub read_of : Reader.ReadAnswer → ReadAnswer
read_of (Reader.refused n line) = Err (refusal n line)
read_of (Reader.accepted m) = Ok tt

unfoldable pub place_first : Place
place_first = record { due = due_first; counts = counts_none; at = 0; byte = 0; behind = None }

-- what stands behind the line that is due, of which this number is told
unfoldable pub stands_behind : Due → (number : ℕ) → Option Behind
stands_behind d number =
    elim (is_owned d) [
      | true ↦ Some Owner
      | false ↦ elim (is_listed d) [ true ↦ Some (Writes number) | false ↦ None ]
    ]

-- after a line with this number and so many nodes, which ended before byte `stop`
unfoldable pub place_after : Place → (number nodes next stop : ℕ) → Place
place_after p number nodes next stop =
    record {
      due = due_after p.due number;
      counts = counts_after p.counts p.due.key number nodes;
      at = next;
      byte = stop + 1;
      behind = stands_behind p.due number;
    }

-- after the owner or the list behind a line, which ended before byte `stop`
unfoldable pub place_behind : Place → (stop : ℕ) → Place
place_behind p stop =
    record { due = p.due; counts = p.counts; at = p.at; byte = stop + 1; behind = None }

-- a word in the place of the last one before `at`
unfoldable pub last_set : (at word : ℕ) → List ℕ → List ℕ
last_set at word old =
    elim (eqb at 0) [
      | true ↦ old
      | false ↦ elim (ltb table_words at) [ true ↦ old | false ↦ set old (at - 1) word ]
    ]

-- row 51 of the edge before a place, which does not mention the variables of the set `rest`
unfoldable pub writes_others : Place → (rest : ℕ) → List ℕ → Bool
writes_others p rest words =
    elim (ltb p.counts.format owners_format) [
      | true ↦ false
      | false ↦ foreign_in (ranges_in words p.counts.variables) p.counts.automata rest
    ]

-- what a round comes to: the place to read on from, or none where all was read; or why the text is refused
abbrev pub Round : Type 0
Round = Result (Option Place) Refusal

abbrev pub going : Place → Round
going p = Ok (Some p)

abbrev pub done : ReadAnswer → Round
done (Ok t) = Ok None
done (Err e) = Err e

-- the answer, and the buffer with the words of the lines so far
pub record Outcome : Type 0 where
  pub answer : ReadAnswer
  pub words : List ℕ

abbrev pub outcome : ReadAnswer → List ℕ → Outcome
outcome a words = record { answer = a; words = words }

module _ (text : Bytes) where
  -- where the line at a place ends, and its bytes
  unfoldable pub stop_at : Place → ℕ
  stop_at p = first_from text p.byte LF

  unfoldable pub line_at : Place → Bytes
  line_at p = take (stop_at p - p.byte) (drop p.byte text)

  -- what the line at a place comes to, by its number, and the buffer then
  unfoldable pub on_line : (line : ℕ) → Place → Result LineRead Row → Round
  on_line line p (Err r) = Err (record { row = r; line = line })
  on_line line p (Ok x) = going (place_after p x.number x.nodes x.next (stop_at p))

  unfoldable pub line_round : (line : ℕ) → Place → List ℕ → Round
  line_round line p words =
      on_line line p (line_read (line_at p) (ltb (stop_at p) (length text)) p.due.key p.counts words p.at)

  unfoldable pub line_round_after : Place → List ℕ → List ℕ
  line_round_after p words = line_after (line_at p) (ltb (stop_at p) (length text)) p.due.key p.counts words p.at

  -- what the owner at a place comes to, and the buffer then
  unfoldable pub on_owner : (line : ℕ) → Place → Result ℕ Row → Round
  on_owner line p (Err r) = Err (record { row = r; line = line })
  on_owner line p (Ok word) = going (place_behind p (stop_at p))

  unfoldable pub owner_round : (line : ℕ) → Place → Round
  owner_round line p = on_owner line p (owner_read (line_at p) (ltb (stop_at p) (length text)))

  unfoldable pub on_owner_after : Place → List ℕ → Result ℕ Row → List ℕ
  on_owner_after p words (Err r) = words
  on_owner_after p words (Ok word) = last_set p.at word words

  unfoldable pub owner_round_after : Place → List ℕ → List ℕ
  owner_round_after p words = on_owner_after p words (owner_read (line_at p) (ltb (stop_at p) (length text)))

  -- what the list at a place comes to: its own rows, and then row 51
  unfoldable pub on_list : (line : ℕ) → Place → (rest : ℕ) → List ℕ → Result (Unit {0}) Row → Round
  on_list line p rest words (Err r) = Err (record { row = r; line = line })
  on_list line p rest words (Ok t) =
      elim (writes_others p rest words) [ true ↦ Err (refusal 51 line) | false ↦ going (place_behind p (stop_at p)) ]

  unfoldable pub list_round : (line : ℕ) → Place → (rest : ℕ) → List ℕ → Round
  list_round line p rest words =
      on_list line p rest words
      (told (writes_row (line_at p) (ltb (stop_at p) (length text)) p.counts.variables rest))

  -- where a line is left: the owner or the list is read that is due first, or the line, if one is due
  unfoldable pub due_round : (line : ℕ) → Place → List ℕ → Option Behind → Round
  due_round line p words (Some Owner) = owner_round line p
  due_round line p words (Some (Writes rest)) = list_round line p rest words
  due_round line p words None =
      elim (is_end p.due.key) [ true ↦ Err (refusal 2 line) | false ↦ line_round line p words ]

  unfoldable pub due_round_after : Place → List ℕ → Option Behind → List ℕ
  due_round_after p words (Some Owner) = owner_round_after p words
  due_round_after p words (Some (Writes rest)) = words
  due_round_after p words None = elim (is_end p.due.key) [ true ↦ words | false ↦ line_round_after p words ]

  -- one round: no line is left, or none is due, or an owner, a list or a line is read
  unfoldable pub round_at : (line : ℕ) → Place → List ℕ → Round
  round_at line p words =
      elim (leb (length text) p.byte) [
        | true ↦
            elim (is_end p.due.key && is_none p.behind) [
              | true ↦ Ok None
              | false ↦ Err (refusal 2 line)
            ]
        | false ↦ due_round line p words p.behind
      ]

  unfoldable pub round_after : Place → List ℕ → List ℕ
  round_after p words =
      elim (leb (length text) p.byte) [ true ↦ words | false ↦ due_round_after p words p.behind ]

  -- from a place on, at most so many rounds; `go` reads on
  unfoldable pub on_round : (go : Place → List ℕ → Outcome) → Round → List ℕ → Outcome
  on_round go (Ok None) words = outcome (Ok tt) words
  on_round go (Ok (Some q)) words = go q words
  on_round go (Err e) words = outcome (Err e) words

  unfoldable pub read_from : (left line : ℕ) → Place → List ℕ → Outcome
  read_from zero line p words = outcome (Err (refusal 2 0)) words
  read_from (suc n) line p words =
      on_round (λ q ws. read_from n (line + 1) q ws) (round_at line p words) (round_after p words)

  -- each line takes a byte at least, and the last round finds the end
  unfoldable pub sheet_read : List ℕ → Outcome
  sheet_read words = read_from (max_bytes + 1) 1 place_first words

-- the words into the first places of a table that has as many
unfoldable pub stored : (words table : List ℕ) → List ℕ
stored words table =
    elim (leb (length words) (length table)) [ true ↦ words ++ drop (length words) table | false ↦ table ]

unfoldable pub stored_if : Outcome → List ℕ → List ℕ
stored_if o table = elim o.answer [ Ok t ↦ stored o.words table | Err e ↦ table ]

-- the table that reading begins with
abbrev pub blank : List ℕ
blank = replicate table_words 0

unfoldable pub read_to : Bytes → List ℕ → ReadAnswer
read_to text table =
    elim (row18 (length table)) [
      | true ↦ Err (refusal 18 0)
      | false ↦ elim (row1 text) [ true ↦ Err (refusal 1 0) | false ↦ (sheet_read text blank).answer ]
    ]

unfoldable pub read_after : Bytes → List ℕ → List ℕ
read_after text table =
    elim (row18 (length table)) [
      | true ↦ table
      | false ↦ elim (row1 text) [ true ↦ table | false ↦ stored_if (sheet_read text blank) table ]
    ]
