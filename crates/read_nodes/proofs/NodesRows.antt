-- The answer by the rows of the text: for any bytes, with a place for every two of them.
use Prim.Native.Nat.{ℕ, suc, ◌+◌, ◌*◌, ◌≤◌}
use mathlib.Core.Path.{◌≡◌, refl, sym, ◌∙◌, ap}
use mathlib.Core.Bool.{Bool, true, false, not, ◌&&◌}
use mathlib.Core.List.{List, [], map, Memᴰ}
use mathlib.Core.Option.{Option, none, some}
use native.Mathlib.Omega.{arith}
use borrow.Author.Tests.{le-leb, leb-true, ltb-true, ltb-false, not-false}
use lib.ListN.{length, take, drop, replicate, length-append, length-take, length-drop, length-map, length-replicate}
use lib.Seq.{take_all}
use lib.Dec.{leb, ltb}
use Rattle.model.specs.Basic.{lacks, or_else}
use Rattle.model.specs.Bounds.{max_nodes, max_depth}
use Rattle.model.specs.Predicate as P
use Rattle.model.specs.Predicate.{Pred, Word, Range, all, words, node_count, depth, all_stay, names_outside, names_new}
use Rattle.model.specs.Parse.{read_pred}
use Rattle.model.specs.Lawful.{LawfulRange}
use Rattle.model.specs.Limits.{broken, is_too_deep, exceeds_span, passes_nodes}
use Rattle.model.specs.Table.{code, word_of}
use Rattle.model.proofs.Decode.{unbroken, is_broken, not_broken}
use Rattle.model.proofs.Parsing.{words_of_read}
use Rattle.table_predicate.specs.declared.Ended.{Ended}
use Rattle.table_predicate.specs.declared.Walked.{Walked}
use Rattle.table_predicate.specs.Walk.{declared_of, walk_at}
use Rattle.table_predicate.proofs.WalkLaws.{walk_words, words_deep}
use Rattle.format.specs.Bytes.{Bytes}
use Rattle.format.specs.Tokens.{tokens, sounds, read_words}
use Rattle.text_bytes.specs.Find.{gap}
use Rattle.text_bytes.proofs.FindLaws.{gap_within}
use Rattle.read_words.specs.Codes.{stray_code}
use Rattle.read_words.specs.declared.reading.WordsError.{WordsError}
use Rattle.read_words.specs.declared.reading.WordsError.TheVariants as W
use Rattle.read_words.specs.Read.{answer, count, written, Reads}
use Rattle.read_words.proofs.Answers.{read_all_words, read_stray_word, never_full, words_read, half_as_many, said_read}
use Rattle.read_form.proofs.Outcomes.{same_row}
use Rattle.model.proofs.Tests.{not_leb}
use Rattle.read_nodes.specs.declared.NodesError.{NodesError}
use Rattle.read_nodes.specs.declared.NodesError.TheVariants as E
use Rattle.std.specs.Prelude.{Result, Ok, Err}
use Rattle.read_nodes.specs.Nodes.{broken_row, told, is_deep, span_fault, walk_fault, extent_fault, nodes_fault, judged_in, on_words, codes_of, nodes_read, nodes_after}
use Rattle.read_nodes.specs.Text.{text_pred, text_fault}
use Rattle.read_nodes.proofs.NodesLaws.{read_front}

-- what an answer says of the rows
pub told_are : (k n : ℕ) (f : Option ℕ) → told k f ≡ Ok n → (f ≡ none) × (n ≡ k)
unfolding told
told_are k n none e = (refl, cc)
told_are k n (some row) e = absurd (let z : ◌≡◌ {A = ℕ} 0 1 = cc in omega arith)

-- what `read` of the words leaves, as a fact of any list
written_long : (cs old : List ℕ) → length (written cs old) ≡ length old
unfolding written count
written_long cs old =
    omega (
      arith,
      length-append (take (length old) (take (gap stray_code cs) cs)) (drop (gap stray_code cs) old),
      length-take (length old) (take (gap stray_code cs) cs),
      length-take (gap stray_code cs) cs,
      length-drop (gap stray_code cs) old,
      gap_within stray_code cs,
    )

-- the lent memory keeps its length
pub after_long : (part : Bytes) (old : List ℕ) → length (nodes_after part old) ≡ length old
unfolding nodes_after
after_long part old = go (sounds [] (tokens part))
  where
    go : (v : Bool) → length {A = ℕ} (elim v as (λ x. List ℕ) [ true ↦ written (codes_of part) old | false ↦ old ]) ≡ length old
    go true = written_long (codes_of part) old
    go false = refl

abbrev blank : ℕ → List ℕ
blank room = replicate {A = ℕ} room 0

reads_are : (part : Bytes) (room : ℕ) → Reads part (blank room) (written (codes_of part) (blank room)) (answer (codes_of part) room)
unfolding codes_of
reads_are part room =
    record { answered = ap (answer (codes_of part)) (sym (length-replicate {A = ℕ} room 0)); memory = refl; long = written_long (codes_of part) (blank room) }

-- the bytes of a predicate, where row 3 is not broken
module _ (part : Bytes) (sound : sounds [] (tokens part) ≡ true) where
  abbrev the_words : List Word
  the_words = read_words (tokens part)

  -- every token spells a word
  record Spelled : Type 0 where
    coded : codes_of part ≡ map code the_words
    back : map word_of (codes_of part) ≡ the_words
    few : 2 * length (codes_of part) ≤ suc (length part)

  module _ (room : ℕ) where
    abbrev after : List ℕ
    after = written (codes_of part) (blank room)

    spelled : (n : ℕ) → answer (codes_of part) room ≡ Ok n → Spelled
    unfolding codes_of
    spelled n e =
        let k : Reads part (blank room) after (Ok n) = rw e at (reads_are part room) in
        let f = read_front part (blank room) after n k in
        let s = said_read (codes_of part) room n (sym e) in
        record {
          coded = sym f.0 ∙ (read_all_words part (blank room) after n sound k).front;
          back = ap (map word_of) (sym f.0) ∙ words_read part (blank room) after n sound k;
          few = omega (arith, f.1, s.0, half_as_many part);
        }

    unspelled : answer (codes_of part) room ≡ Err W.Stray → read_pred the_words ≡ none
    unspelled e = read_stray_word part (blank room) after sound (rw e at (reads_are part room))

    unfilled : length part ≤ 2 * room → answer (codes_of part) room ≡ Err W.Full → ⊥
    unfilled l e = never_full part (blank room) after (omega (arith, length-replicate {A = ℕ} room 0)) (rw e at (reads_are part room))

  -- the predicate that they make
  made : lacks (read_pred the_words) ≡ false → read_pred the_words ≡ some (text_pred part)
  unfolding text_pred lacks or_else
  made h = go (read_pred the_words) refl h
    where
      go : (o : Option Pred) → read_pred the_words ≡ o → lacks o ≡ false → read_pred the_words ≡ some (or_else (all P.none) (read_pred the_words))
      go none e g = absurd (let z : ◌≡◌ {A = ℕ} 0 1 = cc in omega arith)
      go (some p) e g = rw e

-- for variables with these ranges, which stand in these words, after so many nodes
module _ (declared : List Range) (ranges : List ℕ) (are : declared_of ranges ≡ declared) (lawful : (x : Range) → Memᴰ x declared → LawfulRange x) (before : ℕ) where
  -- rows 9 to 11 of the words of a predicate
  module _ (p : Pred) (cs : List ℕ) (said : map word_of cs ≡ words p) where
    lawful_words : (x : Range) → Memᴰ x (declared_of ranges) → LawfulRange x
    lawful_words = rw are lawful

    size : length cs ≡ node_count p
    unfolding node_count
    size = sym (length-map cs word_of) ∙ ap (length {A = Word}) said

    here : map word_of (take (node_count p) (drop 0 cs)) ≡ words p
    here = ap (map word_of) (take_all (node_count p) cs (omega (arith, size))) ∙ said

    many_is : not (leb (before + length cs) max_nodes) ≡ passes_nodes before (words p)
    unfolding passes_nodes node_count
    many_is = not_leb (before + length cs) max_nodes ∙ ap (λ (b : ℕ). ltb max_nodes (before + b)) size

    extent_rows : extent_fault ranges before cs ≡ broken 9 (is_too_deep p) (broken 10 (exceeds_span declared p) (broken 11 (passes_nodes before (words p)) none))
    unfolding extent_fault walk_fault span_fault is_deep is_too_deep exceeds_span
    extent_rows = go (ltb max_depth (depth p)) refl
      where
        go : (t : Bool) → ltb max_depth (depth p) ≡ t
            → walk_fault before (length cs) (walk_at cs ranges 0) ≡ broken 9 t (broken 10 (exceeds_span declared p) (broken 11 (passes_nodes before (words p)) none))
        go true e =
            let s = words_deep cs ranges lawful_words 0 p here (ltb-true max_depth (depth p) e) in
            rw s.1 (is_broken 9 true _ refl ∙ sym (is_broken 9 true _ refl))
        go false e =
            rw (walk_words cs ranges lawful_words 0 p here (ltb-false max_depth (depth p) e), are, many_is)
            (sym (not_broken 9 false _ refl))

  -- all rows of the bytes
  module _ (part : Bytes) (o : Bool) where
    -- those after row 3
    abbrev later : Option ℕ
    later =
        broken 6 (lacks (read_pred (read_words (tokens part))))
        (broken 7 (names_outside (length declared) (read_words (tokens part)))
        (broken 8 (o && names_new (read_words (tokens part)))
        (broken 9 (is_too_deep (text_pred part))
        (broken 10 (exceeds_span declared (text_pred part))
        (broken 11 (passes_nodes before (read_words (tokens part)))
        none)))))

    nodes_rows : (s : sounds [] (tokens part) ≡ true) → Spelled part s → nodes_fault o (length declared) ranges before (codes_of part) ≡ later
    unfolding nodes_fault
    nodes_rows s m =
        same_row 6 _ _ _ _ (ap (λ (l : List Word). lacks (read_pred l)) m.back)
        (λ h. same_row 7 _ _ _ _ (ap (names_outside (length declared)) m.back)
        (λ e. same_row 8 _ _ _ _ (ap (λ (l : List Word). o && names_new l) m.back)
        (λ f.
        let w = words_of_read (read_words (tokens part)) (text_pred part) (made part s h) in
        extent_rows (text_pred part) (codes_of part) (m.back ∙ w) ∙
        ap (λ (l : List Word). broken 9 (is_too_deep (text_pred part)) (broken 10 (exceeds_span declared (text_pred part)) (broken 11 (passes_nodes before l) none))) (sym w))))

    -- there is a place for every two bytes
    module _ (room high : ℕ) (enough : length part ≤ 2 * room) (sorts : length part ≤ 2 * high) where
      judged_rows : (s : sounds [] (tokens part) ≡ true) → Spelled part s
          → judged_in o (length declared) ranges before high (codes_of part) ≡ told (length (codes_of part)) later
      unfolding judged_in
      judged_rows s m =
          let l : length (codes_of part) ≤ high = omega (arith, m.few) in
          rw (le-leb (length (codes_of part)) high l, judged_in) (ap (told (length (codes_of part))) (nodes_rows s m))

      words_rows : (s : sounds [] (tokens part) ≡ true) (a : Result ℕ WordsError) → answer (codes_of part) room ≡ a
          → on_words o (length declared) ranges before high (codes_of part) a ≡ told (length (codes_of part)) later
      unfolding on_words told lacks
      words_rows s (Ok n) e = judged_rows s (spelled part s room n e)
      words_rows s (Err W.Stray) e = ap (told (length (codes_of part))) (sym (is_broken 6 _ _ (ap lacks (unspelled part s room e))))
      words_rows s (Err W.Full) e = absurd (unfilled part s room enough e)

      pub read_rows : nodes_read part o (length declared) ranges before room high ≡ told (length (codes_of part)) (text_fault declared before o part none)
      unfolding nodes_read text_fault told
      read_rows = go (sounds [] (tokens part)) refl
        where
          go : (v : Bool) → sounds [] (tokens part) ≡ v
              → elim v as (λ x. Result ℕ NodesError) [ true ↦ on_words o (length declared) ranges before high (codes_of part) (answer (codes_of part) room) | false ↦ broken_row 3 ]
              ≡ told (length (codes_of part)) (broken 3 (not v) later)
          go true e = words_rows e (answer (codes_of part) room) refl ∙ ap (told (length (codes_of part))) (sym (not_broken 3 _ later refl))
          go false e = ap (told (length (codes_of part))) (sym (is_broken 3 _ later refl))

-- an accepted predicate, and its nodes
pub record Accepted (part : Bytes) (n : ℕ) : Type 0 where
  pub size : n ≡ node_count (text_pred part)
  pub codes : codes_of part ≡ map code (words (text_pred part))
  pub counted : length (codes_of part) ≡ n
  pub few : n ≤ max_nodes

module _ (part : Bytes) (o : Bool) (variables : ℕ) (ranges : List ℕ) (before room high : ℕ) where
  -- each step of the reading went well
  pub record Went (n : ℕ) : Type 0 where
    pub numbers : sounds [] (tokens part) ≡ true
    pub words : answer (codes_of part) room ≡ Ok n
    pub rows : nodes_fault o variables ranges before (codes_of part) ≡ none

  judged_are : (n : ℕ) → judged_in o variables ranges before high (codes_of part) ≡ Ok n → (nodes_fault o variables ranges before (codes_of part) ≡ none) × (n ≡ length (codes_of part))
  unfolding judged_in
  judged_are n e = go (leb (length (codes_of part)) high) e
    where
      go : (v : Bool) → elim v as (λ x. Result ℕ NodesError) [ true ↦ told (length (codes_of part)) (nodes_fault o variables ranges before (codes_of part)) | false ↦ Err E.Full ] ≡ Ok n
          → (nodes_fault o variables ranges before (codes_of part) ≡ none) × (n ≡ length (codes_of part))
      go true k = told_are _ n _ k
      go false k = absurd (let z : ◌≡◌ {A = ℕ} 0 1 = cc in omega arith)

  words_are : (n : ℕ) → sounds [] (tokens part) ≡ true → (a : Result ℕ WordsError) → answer (codes_of part) room ≡ a
      → on_words o variables ranges before high (codes_of part) a ≡ Ok n → Went n
  unfolding on_words
  words_are n s (Ok m) e h =
      let i = judged_are n h in
      let f = read_front part (blank room) (written (codes_of part) (blank room)) m (rw e at (reads_are part room)) in
      record { numbers = s; words = e ∙ ap Ok (sym f.1 ∙ sym i.1); rows = i.0 }
  words_are n s (Err W.Stray) e h = absurd (let z : ◌≡◌ {A = ℕ} 0 1 = cc in omega arith)
  words_are n s (Err W.Full) e h = absurd (let z : ◌≡◌ {A = ℕ} 0 1 = cc in omega arith)

  pub went : (n : ℕ) → nodes_read part o variables ranges before room high ≡ Ok n → Went n
  unfolding nodes_read
  went n h = go (sounds [] (tokens part)) refl h
    where
      go : (v : Bool) → sounds [] (tokens part) ≡ v
          → elim v as (λ x. Result ℕ NodesError) [ true ↦ on_words o variables ranges before high (codes_of part) (answer (codes_of part) room) | false ↦ broken_row 3 ] ≡ Ok n → Went n
      go true e k = words_are n e (answer (codes_of part) room) refl k
      go false e k = absurd (let z : ◌≡◌ {A = ℕ} 0 1 = cc in omega arith)

  -- rows 9 to 11
  extent_few : (ns : List ℕ) → extent_fault ranges before ns ≡ none → before + length ns ≤ max_nodes
  unfolding extent_fault walk_fault span_fault
  extent_few ns h = go (walk_at ns ranges 0) h
    where
      few : (w : Walked) → span_fault before (length ns) w ≡ none → before + length ns ≤ max_nodes
      few w e = leb-true (before + length ns) max_nodes (not-false _ (unbroken 11 _ _ (unbroken 10 _ _ e).1).0)

      go : (q : Result Walked Ended) → walk_fault before (length ns) q ≡ none → before + length ns ≤ max_nodes
      go (Ok w) e = few w e
      go (Err s) e = few s.walk (unbroken 9 _ _ e).1

  pub accepted : (n : ℕ) → nodes_read part o variables ranges before room high ≡ Ok n → Accepted part n
  unfolding nodes_fault node_count
  accepted n h =
      let i = went n h in
      let s = i.numbers in
      let m = spelled part s room n i.words in
      let f = read_front part (blank room) (written (codes_of part) (blank room)) n (rw i.words at (reads_are part room)) in
      let six = unbroken 6 _ _ i.rows in
      let nine = (unbroken 8 _ _ (unbroken 7 _ _ six.1).1).1 in
      let l = extent_few (codes_of part) nine in
      let w = words_of_read (read_words (tokens part)) (text_pred part) (made part s (sym (ap (λ (x : List Word). lacks (read_pred x)) m.back) ∙ six.0)) in
      let c : codes_of part ≡ map code (words (text_pred part)) = m.coded ∙ ap (map code) w in
      record {
        size = sym f.1 ∙ ap (length {A = ℕ}) c ∙ length-map (words (text_pred part)) code;
        codes = c;
        counted = f.1;
        few = omega (arith, f.1);
      }

  -- they stand in front of the lent memory
  pub accepted_stands : (n : ℕ) (old : List ℕ) → length old ≡ room → nodes_read part o variables ranges before room high ≡ Ok n → take n (nodes_after part old) ≡ codes_of part
  unfolding nodes_after codes_of
  accepted_stands n old l h =
      let i = went n h in
      let a : answer (codes_of part) (length old) ≡ Ok n = ap (answer (codes_of part)) l ∙ i.words in
      let k : Reads part old (written (codes_of part) old) (Ok n) = record { answered = sym a; memory = refl; long = written_long (codes_of part) old } in
      ap (take n) (rw (i.numbers, nodes_after)) ∙ (read_front part old (written (codes_of part) old) n k).0

-- more room than enough changes nothing
module _ (part : Bytes) (room high : ℕ) (enough : length part ≤ 2 * room) (sorts : length part ≤ 2 * high) where
  pub answer_same : (most : ℕ) → length part ≤ 2 * most → answer (codes_of part) room ≡ answer (codes_of part) most
  unfolding answer count codes_of
  answer_same most l =
      let g = half_as_many part in
      rw (le-leb (gap stray_code (codes_of part)) room (omega arith), le-leb (gap stray_code (codes_of part)) most (omega arith), answer)

  module _ (o : Bool) (variables : ℕ) (ranges : List ℕ) (before most top : ℕ) (up : length part ≤ 2 * most) (over : length part ≤ 2 * top) where
    words_same : sounds [] (tokens part) ≡ true → (a : Result ℕ WordsError) → answer (codes_of part) room ≡ a
        → on_words o variables ranges before high (codes_of part) a ≡ on_words o variables ranges before top (codes_of part) a
    unfolding on_words judged_in
    words_same s (Ok n) e =
        let f = (spelled part s room n e).few in
        rw (le-leb (length (codes_of part)) high (omega arith), le-leb (length (codes_of part)) top (omega arith), judged_in)
    words_same s (Err W.Stray) e = refl
    words_same s (Err W.Full) e = refl

    pub room_same : nodes_read part o variables ranges before room high ≡ nodes_read part o variables ranges before most top
    unfolding nodes_read
    room_same = go (sounds [] (tokens part)) refl
      where
        go : (v : Bool) → sounds [] (tokens part) ≡ v
            → ◌≡◌ {A = Result ℕ NodesError}
            (elim v as (λ x. Result ℕ NodesError) [ true ↦ on_words o variables ranges before high (codes_of part) (answer (codes_of part) room) | false ↦ broken_row 3 ])
            (elim v as (λ x. Result ℕ NodesError) [ true ↦ on_words o variables ranges before top (codes_of part) (answer (codes_of part) most) | false ↦ broken_row 3 ])
        go true e = words_same e (answer (codes_of part) room) refl ∙ ap (on_words o variables ranges before top (codes_of part)) (answer_same most up)
        go false e = refl

-- In one: of any bytes, with a place for every two of them, the answer is the smallest row of the text that is broken,
-- or the number of the predicate's nodes, and these stand in front of the lent memory.
pub record Exact (declared : List Range) (ranges : List ℕ) (before : ℕ) (part : Bytes) (o : Bool) (old : List ℕ) (high : ℕ) : Type 0 where
  pub answer : nodes_read part o (length declared) ranges before (length old) high ≡ told (node_count (text_pred part)) (text_fault declared before o part none)
  pub memory : text_fault declared before o part none ≡ none → take (node_count (text_pred part)) (nodes_after part old) ≡ map code (words (text_pred part))

pub read_exact : (declared : List Range) (ranges : List ℕ) → declared_of ranges ≡ declared → ((x : Range) → Memᴰ x declared → LawfulRange x)
    → (before : ℕ) (part : Bytes) (o : Bool) (old : List ℕ) (high : ℕ) → length part ≤ 2 * length old → length part ≤ 2 * high
    → Exact declared ranges before part o old high
unfolding told
read_exact declared ranges are lawful before part o old high enough sorts =
    go (text_fault declared before o part none) (read_rows declared ranges are lawful before part o (length old) high enough sorts) refl
  where
    go : (f : Option ℕ) → nodes_read part o (length declared) ranges before (length old) high ≡ told (length (codes_of part)) f → text_fault declared before o part none ≡ f
        → Exact declared ranges before part o old high
    go none e h =
        let a = accepted part o (length declared) ranges before (length old) high (length (codes_of part)) e in
        let s = accepted_stands part o (length declared) ranges before (length old) high (length (codes_of part)) old refl e in
        record { answer = e ∙ ap Ok a.size ∙ rw h; memory = λ q. rw (← a.size) (s ∙ a.codes) }
    go (some row) e h = record { answer = e ∙ rw h; memory = λ q. absurd (let z : ◌≡◌ {A = ℕ} 0 1 = cc in omega arith) }
