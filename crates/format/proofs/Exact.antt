-- A text is accepted as a model exactly when it is the one spelling of that model and the model meets the limits.
use Prim.Native.Nat.{ℕ, suc, ◌≤◌}
use mathlib.Core.Path.{◌≡◌, refl, sym, ◌∙◌, ap, ap₂, subst, subst₂}
use mathlib.Core.Bool.{Bool, true, false}
use mathlib.Core.List.{List, [], ◌∷◌, ◌++◌}
use mathlib.Core.Option.{Option, none, some}
use native.Mathlib.Omega.{arith}
use borrow.Author.Tests.{leb-false, leb-true, le-ltb, lt-leb, ltb-false}
use lib.Dec.{eqb, leb, ltb}
use lib.ListN.{length}
use Rattle.model.specs.Basic.{lacks}
use Rattle.model.specs.Bounds.{max_bytes, owners_format, table_words, writes_format}
use Rattle.model.specs.Table.{row18}
use Rattle.model.specs.Limits.{fault_of, is_early, is_foreign, limits, owner_in_range, within_limits}
use Rattle.model.specs.Lines.{Entry, Key, Reading, at_first, due_at_first, edge, edge_line, key_of, lines, noted, then_due, variable, variable_line, with_owner}
use Rattle.model.specs.Model.{Edge, Model}
use Rattle.model.specs.Predicate.{Range, written}
use Rattle.model.proofs.LinesBack.{lines_follow}
use Rattle.model.proofs.LinesLaws.{Follows, along, follow_lines, owner_noted}
use Rattle.model.proofs.Tests.{and_intro, and_left, and_right, eq_of, of_eq}
use Rattle.model.proofs.Decode.{none_lacks}
use Rattle.model.proofs.LimitLines.{Said}
use Rattle.model.proofs.Parsing.{none_some}
use Rattle.format.specs.Bytes.{Bytes}
use Rattle.format.specs.Owners.{owner_fault, the_owner}
use Rattle.format.specs.Reader.{ReadAnswer, accepted, lines_of, read, read_answer, refused, row1}
use Rattle.format.specs.Rows.{Line, entry, fault}
use Rattle.format.specs.Spelling.{Behind, nothing, owner, list, behind, owner_said, text_of, value_text}
use Rattle.format.specs.Writes.{writes_fault}
use Rattle.format.proofs.EntryLines.{behind_lines, entry_line, lines_all, lines_along, lines_for, same_lines}
use Rattle.format.proofs.LineFaults.{Shape, a_variable, alone, an_edge, early_own, edge_alone, edge_clear, edge_noted, edge_own, fault_law, lone, shape_of, variable_parts, variable_whole}
use Rattle.format.proofs.LineLaws.{entry_key, entry_unowned, line_written, line_of, owner_line, writes_line}
use Rattle.format.proofs.OwnersLaws.{owner_fault_lem, owner_ranged, owner_read, owner_written}
use Rattle.format.proofs.WritesLaws.{writes_owned, writes_written}

-- what a line that breaks no row says breaks none either in the first format, where nothing stands behind it
pub entry_fault : (r : Reading) (k : Key) (l : Line) → fault r k l ≡ none → fault_of (alone r) (entry k l) ≡ none
entry_fault r k l h =
    sym (fault_law r (entry k l) (entry_unowned k l)) ∙ ap (λ j. fault r j (line_of (entry k l))) (entry_key k l) ∙ ap (fault r k) (sym (line_written r k l h)) ∙ h

-- before format 3 no owner can be said, and from then on each can
early_none : (f : ℕ) (o : Option ℕ) → is_early f o ≡ false → leb owners_format f ≡ false → o ≡ none
unfolding is_early
early_none f none h e = refl
early_none f (some k) h e = absurd (omega (arith, leb-false owners_format f e, ltb-false f owners_format h))

late_said : (f : ℕ) (o : Option ℕ) → leb owners_format f ≡ true → is_early f o ≡ false
unfolding is_early
late_said f none e = refl
late_said f (some k) e = le-ltb f owners_format (leb-true owners_format f e)

-- one step of reading, where a key is due, where a list is, and where an owner is
pub read_case : (r : Reading) (k : Key) (ks : List Key) (n : ℕ) (l : Line) (ls : List Line) (o : Option ℕ) → fault r k l ≡ o
    → read nothing r (k ∷ ks) n (l ∷ ls) ≡ elim o [ some row ↦ refused row n | none ↦ read (behind r.model.format (entry k l)) (noted r (entry k l)) (then_due r.model.format (entry k l) ++ ks) (suc n) ls ]
unfolding read
read_case r k ks n l ls o e = ap (λ (x : Option ℕ). elim x as (λ q. ReadAnswer) [ some row ↦ refused row n | none ↦ read (behind r.model.format (entry k l)) (noted r (entry k l)) (then_due r.model.format (entry k l) ++ ks) (suc n) ls ]) e

pub list_case : (r : Reading) (due : List ℕ) (ks : List Key) (n : ℕ) (l : Line) (ls : List Line) (o : Option ℕ) → writes_fault r due l ≡ o
    → read (list due) r ks n (l ∷ ls) ≡ elim o [ some row ↦ refused row n | none ↦ read nothing r ks (suc n) ls ]
unfolding read
list_case r due ks n l ls o e = ap (λ (x : Option ℕ). elim x as (λ q. ReadAnswer) [ some row ↦ refused row n | none ↦ read nothing r ks (suc n) ls ]) e

pub owner_case : (r : Reading) (ks : List Key) (n : ℕ) (l : Line) (ls : List Line) (o : Option ℕ) → owner_fault l ≡ o
    → read owner r ks n (l ∷ ls) ≡ elim o [ some row ↦ refused row n | none ↦ read nothing (with_owner r (the_owner l)) ks (suc n) ls ]
unfolding read
owner_case r ks n l ls o e = ap (λ (x : Option ℕ). elim x as (λ q. ReadAnswer) [ some row ↦ refused row n | none ↦ read nothing (with_owner r (the_owner l)) ks (suc n) ls ]) e

-- The lines of a model within the limits are read as the model. First those of one entry: `Onward` is that the lines after
-- them are.
module _ (r : Reading) (ks : List Key) (later : List Line) (m : Model) where
  abbrev Onward : Entry → Type 0
  Onward e = (n : ℕ) → read nothing (noted r e) (then_due r.model.format e ++ ks) n later ≡ accepted m

  abbrev Reads : Entry → Type 0
  Reads e = (n : ℕ) → read nothing r (key_of e ∷ ks) n (lines_for r.model.format e ++ later) ≡ accepted m

  read_line : (e : Entry) (n : ℕ) (ls : List Line) → owner_said e ≡ none → fault_of (alone r) e ≡ none
      → read nothing r (key_of e ∷ ks) n (line_of e ∷ ls) ≡ read (behind r.model.format e) (noted r e) (then_due r.model.format e ++ ks) (suc n) ls
  read_line e n ls u h =
      read_case r (key_of e) ks n (line_of e) ls none (fault_law r e u ∙ h) ∙
      ap (λ (x : Entry). read (behind r.model.format x) (noted r x) (then_due r.model.format x ++ ks) (suc n) ls) (entry_line (alone r) e h u)

  read_variable : (x : Range) (o : Option ℕ) → fault_of r (variable_line x o) ≡ none → Onward (variable_line x o) → Reads (variable_line x o)
  unfolding behind key_of owner_said then_due value_text
  read_variable x o h on n =
      let v = variable_parts r x o h in
      read_line (variable_line x none) n _ refl v.0 ∙ go v.1 (leb owners_format r.model.format) refl
    where
      go : Said r.model.format o → (b : Bool) → leb owners_format r.model.format ≡ b
          → read (elim b [ true ↦ owner | false ↦ nothing ]) (noted r (variable_line x none)) ks (suc n) (behind_lines (elim b [ true ↦ owner | false ↦ nothing ]) o ++ later) ≡ accepted m
      go s true e =
          owner_case (noted r (variable_line x none)) ks (suc n) (owner_line o) later none (owner_fault_lem o s.0) ∙
          ap (λ (q : Reading). read nothing q ks (suc (suc n)) later) (ap (with_owner (noted r (variable_line x none))) (owner_read o) ∙ owner_noted r x none o) ∙
          on (suc (suc n))
      go s false e = ap (λ (p : Option ℕ). read nothing (noted r (variable_line x p)) ks (suc n) later) (sym (early_none r.model.format o s.1 e)) ∙ on (suc n)

  read_edge : (x : Edge) → fault_of r (edge_line x) ≡ none → Onward (edge_line x) → Reads (edge_line x)
  unfolding behind key_of owner_said then_due
  read_edge x h on n = read_line (edge_line x) n _ refl (sym (edge_alone r x (edge_own r x h)) ∙ h) ∙ go (leb writes_format r.model.format)
    where
      due : List ℕ
      due = written x.update

      go : (b : Bool) → read (elim b [ true ↦ list due | false ↦ nothing ]) (noted r (edge_line x)) ks (suc n) (behind_lines (elim b [ true ↦ list due | false ↦ nothing ]) none ++ later) ≡ accepted m
      go true = list_case (noted r (edge_line x)) due ks (suc n) (writes_line due) later none (edge_clear r x h) ∙ on (suc (suc n))
      go false = on (suc n)

  read_entry : {e : Entry} → Shape e → fault_of r e ≡ none → Onward e → Reads e
  read_entry (a_variable x o) h on n = read_variable x o h on n
  read_entry (an_edge x) h on n = read_edge x h on n
  read_entry (lone {e} u b s) h on n =
      read_line e n _ u (s r ∙ h) ∙ ap (λ (q : Behind). read q (noted r e) (then_due r.model.format e ++ ks) (suc n) (behind_lines q (owner_said e) ++ later)) (b r.model.format) ∙ on (suc n)

read_last : (r : Reading) (n : ℕ) → read nothing r [] n [] ≡ accepted r.model
unfolding read
read_last r n = refl

follow_read : (es : List Entry) (r : Reading) (ks : List Key) (m : Model) → Follows es r ks m → within_limits r es ≡ true → (n : ℕ) → read nothing r ks n (along lines_for r es) ≡ accepted m
unfolding within_limits
follow_read [] r [] m f w n = read_last r n ∙ ap accepted f
follow_read [] r (k ∷ ks) m f w n = absurd f
follow_read (e ∷ es) r [] m f w n = absurd f
follow_read (e ∷ es) r (k ∷ ks) m f w n =
    let ok = none_lacks (fault_of r e) (and_left (lacks (fault_of r e)) (within_limits (noted r e) es) w) in
    let rest = and_right (lacks (fault_of r e)) (within_limits (noted r e) es) w in
    ap (λ q. read nothing r (q ∷ ks) n (along lines_for r (e ∷ es))) (sym f.0) ∙
    read_entry r ks (along lines_for (noted r e) es) m (shape_of e) ok (follow_read es (noted r e) (then_due r.model.format e ++ ks) m f.1 rest) n

-- the lines of the text of a model
text_lines : (m : Model) → lines_of (text_of m) ≡ along lines_for at_first (lines m)
unfolding text_of
text_lines m = lines_all m.format (lines m) ∙ sym (lines_along m)

read_text_of : (m : Model) → limits m ≡ true → read nothing at_first due_at_first 1 (lines_of (text_of m)) ≡ accepted m
unfolding limits
read_text_of m h =
    let owners = eq_of _ _ (and_left (eqb (length m.owners) (length m.variables)) _ h) in
    ap (read nothing at_first due_at_first 1) (text_lines m) ∙ follow_read (lines m) at_first due_at_first m (follow_lines m owners) (and_right (eqb (length m.owners) (length m.variables)) _ h) 1

-- The lines that are accepted are those of entries within the limits.
record Accepts (r : Reading) (ks : List Key) (ls : List Line) (m : Model) : Type 0 where
  entries : List Entry
  follows : Follows entries r ks m
  spelled : ls ≡ along lines_for r entries
  limited : within_limits r entries ≡ true

-- what is due behind the entry before them comes first, and breaks no row
abbrev AcceptsBehind : Behind → Reading → List Key → List Line → Model → Type 0
AcceptsBehind nothing r ks ls m = Accepts r ks ls m
AcceptsBehind owner r ks ls m = (o : Option ℕ) × (later : List Line) × (ls ≡ owner_line o ∷ later) × (owner_in_range o ≡ true) × Accepts (with_owner r o) ks later m
AcceptsBehind (list due) r ks ls m = (later : List Line) × (ls ≡ writes_line due ∷ later) × (is_foreign r due ≡ false) × Accepts r ks later m

module _ (r : Reading) (ks : List Key) (ls : List Line) (m : Model) where
  accepts_entry : (e : Entry) (b : Behind) (later : List Line) → behind r.model.format e ≡ b → fault_of r e ≡ none → ls ≡ behind_lines b (owner_said e) ++ later
      → Accepts (noted r e) (then_due r.model.format e ++ ks) later m → Accepts r (key_of e ∷ ks) (line_of e ∷ ls) m
  unfolding within_limits lacks
  accepts_entry e b later q h s a =
      record {
        entries = e ∷ a.entries;
        follows = (refl, a.follows);
        spelled = ap (λ (xs : List Line). line_of e ∷ xs) (s ∙ ap₂ (λ (c : Behind) (xs : List Line). behind_lines c (owner_said e) ++ xs) (sym q) a.spelled);
        limited = and_intro (ap lacks h) a.limited;
      }

  -- an entry as its line says it, and what stands behind that
  abbrev Continued : Entry → Type 0
  Continued e = AcceptsBehind (behind r.model.format e) (noted r e) (then_due r.model.format e ++ ks) ls m

  accepts_variable : (x : Range) → fault_of (alone r) (variable_line x none) ≡ none → Continued (variable_line x none) → Accepts r (key_of (variable_line x none) ∷ ks) (line_of (variable_line x none) ∷ ls) m
  unfolding behind key_of owner_said then_due value_text owner_in_range is_early
  accepts_variable x h a = go (leb owners_format r.model.format) refl a
    where
      go : (b : Bool) → leb owners_format r.model.format ≡ b → AcceptsBehind (elim b [ true ↦ owner | false ↦ nothing ]) (noted r (variable_line x none)) ks ls m → Accepts r (variable ∷ ks) (line_of (variable_line x none) ∷ ls) m
      go true e a =
          accepts_entry (variable_line x a.0) owner a.1 (rw (e, behind)) (variable_whole r x a.0 h (a.3, late_said r.model.format a.0 e)) a.2
          (subst (λ (q : Reading). Accepts q ks a.1 m) (owner_noted r x none a.0) a.4)
      go false e a = accepts_entry (variable_line x none) nothing ls (rw (e, behind)) (variable_whole r x none h (refl, refl)) refl a

  accepts_edge : (x : Edge) → fault_of (alone r) (edge_line x) ≡ none → Continued (edge_line x) → Accepts r (key_of (edge_line x) ∷ ks) (line_of (edge_line x) ∷ ls) m
  unfolding behind key_of owner_said then_due
  accepts_edge x h a = go (leb writes_format r.model.format) refl a
    where
      due : List ℕ
      due = written x.update

      go : (b : Bool) → leb writes_format r.model.format ≡ b → AcceptsBehind (elim b [ true ↦ list due | false ↦ nothing ]) (noted r (edge_line x)) ks ls m → Accepts r (edge ∷ ks) (line_of (edge_line x) ∷ ls) m
      go true e a = accepts_entry (edge_line x) (list due) a.0 (rw (e, behind)) (edge_alone r x (sym (edge_noted r x due) ∙ a.2) ∙ h) a.1 a.3
      go false e a =
          let early = lt-leb owners_format r.model.format (omega (arith, leb-false writes_format r.model.format e)) in
          accepts_entry (edge_line x) nothing ls (rw (e, behind)) (edge_alone r x (early_own r due early) ∙ h) refl a

  accepts_said : {e : Entry} → Shape e → owner_said e ≡ none → fault_of (alone r) e ≡ none → Continued e → Accepts r (key_of e ∷ ks) (line_of e ∷ ls) m
  unfolding owner_said
  accepts_said (a_variable x none) u h a = accepts_variable x h a
  accepts_said (a_variable x (some k)) u h a = absurd (none_some k (sym u))
  accepts_said (an_edge x) u h a = accepts_edge x h a
  accepts_said (lone {e} u b s) v h a =
      let none_behind = b r.model.format in
      accepts_entry e nothing ls none_behind (sym (s r) ∙ h) refl (subst (λ (q : Behind). AcceptsBehind q (noted r e) (then_due r.model.format e ++ ks) ls m) none_behind a)

  accepts_line : (k : Key) (l : Line) → fault r k l ≡ none → Continued (entry k l) → Accepts r (k ∷ ks) (l ∷ ls) m
  accepts_line k l h a =
      subst₂ (λ (j : Key) (x : Line). Accepts r (j ∷ ks) (x ∷ ls) m) (entry_key k l) (sym (line_written r k l h)) (accepts_said (shape_of (entry k l)) (entry_unowned k l) (entry_fault r k l h) a)

pub no_refusal : (row n : ℕ) (m : Model) → refused row n ≡ accepted m → ⊥
no_refusal row n m h = let z : ◌≡◌ {A = ℕ} 0 1 = cc in omega arith

accepts : (ls : List Line) (b : Behind) (r : Reading) (ks : List Key) (n : ℕ) (m : Model) → read b r ks n ls ≡ accepted m → AcceptsBehind b r ks ls m
unfolding read within_limits
accepts [] nothing r [] n m h = let e : r.model ≡ m = cc in record { entries = []; follows = e; spelled = refl; limited = refl }
accepts [] nothing r (k ∷ ks) n m h = absurd (no_refusal 2 n m h)
accepts [] owner r ks n m h = absurd (no_refusal 2 n m h)
accepts [] (list due) r ks n m h = absurd (no_refusal 2 n m h)
accepts (l ∷ ls) nothing r [] n m h = absurd (no_refusal 2 n m h)
accepts (l ∷ ls) nothing r (k ∷ ks) n m h = go (accepts ls (behind f e) (noted r e) (then_due f e ++ ks) (suc n) m) (fault r k l) refl h
  where
    f : ℕ
    f = r.model.format

    e : Entry
    e = entry k l

    go : (read (behind f e) (noted r e) (then_due f e ++ ks) (suc n) ls ≡ accepted m → AcceptsBehind (behind f e) (noted r e) (then_due f e ++ ks) ls m) → (o : Option ℕ) → fault r k l ≡ o
        → elim o [ some row ↦ refused row n | none ↦ read (behind f e) (noted r e) (then_due f e ++ ks) (suc n) ls ] ≡ accepted m → Accepts r (k ∷ ks) (l ∷ ls) m
    go ih none q g = accepts_line r ks ls m k l q (ih g)
    go ih (some row) q g = absurd (no_refusal row n m g)
accepts (l ∷ ls) owner r ks n m h = go (accepts ls nothing (with_owner r (the_owner l)) ks (suc n) m) (owner_fault l) refl h
  where
    go : (read nothing (with_owner r (the_owner l)) ks (suc n) ls ≡ accepted m → Accepts (with_owner r (the_owner l)) ks ls m) → (o : Option ℕ) → owner_fault l ≡ o
        → elim o [ some row ↦ refused row n | none ↦ read nothing (with_owner r (the_owner l)) ks (suc n) ls ] ≡ accepted m → AcceptsBehind owner r ks (l ∷ ls) m
    go ih none q g = (the_owner l, ls, ap (λ (x : Line). x ∷ ls) (owner_written l q), owner_ranged l q, ih g)
    go ih (some row) q g = absurd (no_refusal row n m g)
accepts (l ∷ ls) (list due) r ks n m h = go (accepts ls nothing r ks (suc n) m) (writes_fault r due l) refl h
  where
    go : (read nothing r ks (suc n) ls ≡ accepted m → Accepts r ks ls m) → (o : Option ℕ) → writes_fault r due l ≡ o
        → elim o [ some row ↦ refused row n | none ↦ read nothing r ks (suc n) ls ] ≡ accepted m → AcceptsBehind (list due) r ks (l ∷ ls) m
    go ih none q g = (ls, ap (λ (x : Line). x ∷ ls) (writes_written r due l q), writes_owned r due l q, ih g)
    go ih (some row) q g = absurd (no_refusal row n m g)

-- the table has room, the text is not too long, the model meets the limits, and the text is its spelling
pub record Exactly (text : Bytes) (table : ℕ) (m : Model) : Type 0 where
  pub room : table_words ≤ table
  pub short : length text ≤ max_bytes
  pub limited : limits m ≡ true
  pub spelled : text ≡ text_of m

exactly : (text : Bytes) (table : ℕ) (m : Model) → table_words ≤ table → length text ≤ max_bytes → read nothing at_first due_at_first 1 (lines_of text) ≡ accepted m → Exactly text table m
unfolding limits
exactly text table m a b h =
    let x = accepts (lines_of text) nothing at_first due_at_first 1 m h in
    let e = lines_follow x.entries m x.follows in
    record {
      room = a;
      short = b;
      limited = and_intro (of_eq _ _ e.1) (ap (within_limits at_first) (sym e.0) ∙ x.limited);
      spelled = same_lines text (text_of m) (x.spelled ∙ ap (along lines_for at_first) e.0 ∙ sym (text_lines m));
    }

-- an accepted text is exactly that
pub accepted_then : (text : Bytes) (table : ℕ) (m : Model) → read_answer text table ≡ accepted m → Exactly text table m
unfolding read_answer row1 row18
accepted_then text table m h = go (ltb table table_words) refl h
  where
    next : table_words ≤ table → (v : Bool) → ltb max_bytes (length text) ≡ v → elim v [ true ↦ refused 1 0 | false ↦ read nothing at_first due_at_first 1 (lines_of text) ] ≡ accepted m → Exactly text table m
    next a true e k = absurd (no_refusal 1 0 m k)
    next a false e k = exactly text table m a (ltb-false max_bytes (length text) e) k

    go : (v : Bool) → ltb table table_words ≡ v → elim v [ true ↦ refused 18 0 | false ↦ elim (ltb max_bytes (length text)) [ true ↦ refused 1 0 | false ↦ read nothing at_first due_at_first 1 (lines_of text) ] ] ≡ accepted m → Exactly text table m
    go true e k = absurd (no_refusal 18 0 m k)
    go false e k = next (ltb-false table table_words e) (ltb max_bytes (length text)) refl k

-- a text that is short enough is read, for a table with room
pub answer_reads : (text : Bytes) (table : ℕ) → table_words ≤ table → length text ≤ max_bytes → read_answer text table ≡ read nothing at_first due_at_first 1 (lines_of text)
unfolding read_answer row1 row18
answer_reads text table a b = rw (le-ltb table table_words a, le-ltb max_bytes (length text) b, read_answer)

-- and all of that is accepted
pub then_accepted : (text : Bytes) (table : ℕ) (m : Model) → Exactly text table m → read_answer text table ≡ accepted m
then_accepted text table m h = answer_reads text table h.room h.short ∙ ap (λ s. read nothing at_first due_at_first 1 (lines_of s)) h.spelled ∙ read_text_of m h.limited

-- models within the limits have different texts
pub text_one_to_one : (m n : Model) → limits m ≡ true → limits n ≡ true → text_of m ≡ text_of n → m ≡ n
text_one_to_one m n h k e =
    let x : accepted m ≡ accepted n = sym (read_text_of m h) ∙ ap (λ s. read nothing at_first due_at_first 1 (lines_of s)) e ∙ read_text_of n k in
    cc
