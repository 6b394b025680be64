-- A refusal is that of the first line at which a row's condition holds, and of the smallest row there.
use Prim.Native.Nat.{ℕ, suc, ◌+◌, ◌≤◌}
use mathlib.Core.Path.{◌≡◌, refl, sym, ◌∙◌, ap, subst}
use mathlib.Core.List.{List, [], ◌∷◌, ◌++◌}
use mathlib.Core.Logic.{◌↔◌}
use mathlib.Core.Option.{Option, none, some}
use native.Mathlib.Omega.{arith}
use lib.ListN.{length}
use Rattle.model.specs.Bounds.{max_bytes, table_words}
use Rattle.model.specs.Lines.{Entry, Key, Reading, at_first, due_at_first, noted, then_due, with_owner}
use Rattle.format.specs.Bytes.{Bytes}
use Rattle.format.specs.Reader.{lines_of, read, read_answer, refused}
use Rattle.format.specs.Rows.{Line, entry, fault}
use Rattle.format.specs.Owners.{owner_fault, the_owner}
use Rattle.format.specs.Spelling.{Behind, nothing, owner, list, behind}
use Rattle.format.specs.Writes.{writes_fault}
pub use Rattle.format.specs.Refused.{Stops, extra, lacking, faulty, later, no_list, faulty_list, after_list, no_owner, faulty_owner, after_owner}
use Rattle.format.proofs.Exact.{answer_reads, list_case, no_refusal, owner_case, read_case}
use Rattle.format.proofs.Smallest.{fault_smallest, fault_none, owner_smallest, owner_none, writes_smallest, writes_none}

stops_read : {b : Behind} {r : Reading} {ks : List Key} {ls : List Line} {row n : ℕ} (m : ℕ) → Stops b r ks ls row n → read b r ks (suc m) ls ≡ refused row (m + n)
stops_read m extra = unfold read in ap (refused 2) (omega arith)
stops_read m lacking = unfold read in ap (refused 2) (omega arith)
stops_read m (faulty {r = r} {k = k} {ks = ks} {l = l} {ls = ls} {row = row} h) = read_case r k ks (suc m) l ls (some row) ((fault_smallest r k l row).1 h) ∙ ap (refused row) (omega arith)
stops_read m (later {r = r} {k = k} {ks = ks} {l = l} {ls = ls} {row = row} {n = n} h s) = read_case r k ks (suc m) l ls none ((fault_none r k l).1 h) ∙ stops_read (suc m) s ∙ ap (refused row) (omega arith)
stops_read m no_list = unfold read in ap (refused 2) (omega arith)
stops_read m (faulty_list {due = due} {r = r} {ks = ks} {l = l} {ls = ls} {row = row} h) = list_case r due ks (suc m) l ls (some row) ((writes_smallest r due l row).1 h) ∙ ap (refused row) (omega arith)
stops_read m (after_list {due = due} {r = r} {ks = ks} {l = l} {ls = ls} {row = row} {n = n} h s) = list_case r due ks (suc m) l ls none ((writes_none r due l).1 h) ∙ stops_read (suc m) s ∙ ap (refused row) (omega arith)
stops_read m no_owner = unfold read in ap (refused 2) (omega arith)
stops_read m (faulty_owner {r = r} {ks = ks} {l = l} {ls = ls} {row = row} h) = owner_case r ks (suc m) l ls (some row) ((owner_smallest l row).1 h) ∙ ap (refused row) (omega arith)
stops_read m (after_owner {r = r} {ks = ks} {l = l} {ls = ls} {row = row} {n = n} h s) = owner_case r ks (suc m) l ls none ((owner_none l).1 h) ∙ stops_read (suc m) s ∙ ap (refused row) (omega arith)

-- refusals that are the same have the same row and line
pub same_refusal : (row n row' n' : ℕ) → refused row n ≡ refused row' n' → (row ≡ row') × (n ≡ n')
same_refusal row n row' n' h =
    let a : row ≡ row' = cc in
    let b : n ≡ n' = cc in
    (a, b)

abbrev StopsAt : Behind → Reading → List Key → List Line → (m row line : ℕ) → Type 0
StopsAt b r ks ls m row line = (n : ℕ) × (line ≡ m + n) × Stops b r ks ls row n

here : (b : Behind) (r : Reading) (ks : List Key) (ls : List Line) (m at row line : ℕ) → Stops b r ks ls at 1 → refused at (suc m) ≡ refused row line → StopsAt b r ks ls m row line
here b r ks ls m at row line s h =
    let e = same_refusal at (suc m) row line h in
    let f = e.1 in
    (1, omega arith, subst (λ (x : ℕ). Stops b r ks ls x 1) e.0 s)

-- a line further on
further : (m row line : ℕ) (b c : Behind) (r q : Reading) (ks js : List Key) (l : Line) (ls : List Line) → ((n : ℕ) → Stops c q js ls row n → Stops b r ks (l ∷ ls) row (suc n)) → StopsAt c q js ls (suc m) row line → StopsAt b r ks (l ∷ ls) m row line
further m row line b c r q ks js l ls f s =
    let e = s.1 in
    (suc s.0, omega arith, f s.0 s.2)

read_stops : (ls : List Line) (b : Behind) (r : Reading) (ks : List Key) (m row line : ℕ) → read b r ks (suc m) ls ≡ refused row line → StopsAt b r ks ls m row line
unfolding read
read_stops [] nothing r [] m row line h = absurd (no_refusal row line r.model (sym h))
read_stops [] nothing r (k ∷ ks) m row line h = here nothing r (k ∷ ks) [] m 2 row line lacking h
read_stops [] (list due) r ks m row line h = here (list due) r ks [] m 2 row line no_list h
read_stops [] owner r ks m row line h = here owner r ks [] m 2 row line no_owner h
read_stops (l ∷ ls) nothing r [] m row line h = here nothing r [] (l ∷ ls) m 2 row line extra h
read_stops (l ∷ ls) nothing r (k ∷ ks) m row line h = go (read_stops ls (behind f e) (noted r e) (then_due f e ++ ks) (suc m) row line) (fault r k l) refl h
  where
    f : ℕ
    f = r.model.format

    e : Entry
    e = entry k l

    go : (read (behind f e) (noted r e) (then_due f e ++ ks) (suc (suc m)) ls ≡ refused row line → StopsAt (behind f e) (noted r e) (then_due f e ++ ks) ls (suc m) row line) → (o : Option ℕ) → fault r k l ≡ o
        → elim o [ some at ↦ refused at (suc m) | none ↦ read (behind f e) (noted r e) (then_due f e ++ ks) (suc (suc m)) ls ] ≡ refused row line → StopsAt nothing r (k ∷ ks) (l ∷ ls) m row line
    go ih (some at) q g = here nothing r (k ∷ ks) (l ∷ ls) m at row line (faulty ((fault_smallest r k l at).0 q)) g
    go ih none q g = further m row line nothing (behind f e) r (noted r e) (k ∷ ks) (then_due f e ++ ks) l ls (λ n s. later ((fault_none r k l).0 q) s) (ih g)
read_stops (l ∷ ls) (list due) r ks m row line h = go (read_stops ls nothing r ks (suc m) row line) (writes_fault r due l) refl h
  where
    go : (read nothing r ks (suc (suc m)) ls ≡ refused row line → StopsAt nothing r ks ls (suc m) row line) → (o : Option ℕ) → writes_fault r due l ≡ o
        → elim o [ some at ↦ refused at (suc m) | none ↦ read nothing r ks (suc (suc m)) ls ] ≡ refused row line → StopsAt (list due) r ks (l ∷ ls) m row line
    go ih (some at) q g = here (list due) r ks (l ∷ ls) m at row line (faulty_list ((writes_smallest r due l at).0 q)) g
    go ih none q g = further m row line (list due) nothing r r ks ks l ls (λ n s. after_list ((writes_none r due l).0 q) s) (ih g)
read_stops (l ∷ ls) owner r ks m row line h = go (read_stops ls nothing (with_owner r (the_owner l)) ks (suc m) row line) (owner_fault l) refl h
  where
    q : Reading
    q = with_owner r (the_owner l)

    go : (read nothing q ks (suc (suc m)) ls ≡ refused row line → StopsAt nothing q ks ls (suc m) row line) → (o : Option ℕ) → owner_fault l ≡ o
        → elim o [ some at ↦ refused at (suc m) | none ↦ read nothing q ks (suc (suc m)) ls ] ≡ refused row line → StopsAt owner r ks (l ∷ ls) m row line
    go ih (some at) e g = here owner r ks (l ∷ ls) m at row line (faulty_owner ((owner_smallest l at).0 e)) g
    go ih none e g = further m row line owner nothing r q ks ks l ls (λ n s. after_owner ((owner_none l).0 e) s) (ih g)

-- a text that is short enough, for a table with room, is refused exactly where and with what reading its lines stops
pub refusal_first : (text : Bytes) (table row n : ℕ) → table_words ≤ table → length text ≤ max_bytes → (read_answer text table ≡ refused row n) ↔ Stops nothing at_first due_at_first (lines_of text) row n
refusal_first text table row n a b = (forth, back)
  where
    forth : read_answer text table ≡ refused row n → Stops nothing at_first due_at_first (lines_of text) row n
    forth h =
        let s = read_stops (lines_of text) nothing at_first due_at_first 0 row n (sym (answer_reads text table a b) ∙ h) in
        let e : s.0 ≡ n = let f = s.1 in omega arith in
        subst (λ (x : ℕ). Stops nothing at_first due_at_first (lines_of text) row x) e s.2

    back : Stops nothing at_first due_at_first (lines_of text) row n → read_answer text table ≡ refused row n
    back s = answer_reads text table a b ∙ stops_read 0 s ∙ ap (refused row) (omega arith)
