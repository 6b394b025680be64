-- Each way out of the code of src/lib.rt.
use Prim.Native.Nat.{ℕ, ◌+◌, ◌≤◌, ◌<◌}
use mathlib.Core.Path.{◌≡◌, refl, sym, ◌∙◌, ap}
use mathlib.Core.Bool.{Bool, true, false, not, ◌&&◌}
use mathlib.Core.List.{List, [], ◌++◌, map}
use mathlib.Core.Option.{Option, none}
use native.Mathlib.Omega.{arith}
use borrow.Author.Tests.{le-leb, lt-leb, not-false, not-true}
use lib.ListN.{length, take, drop}
use lib.Seq.{take_all, take_at, take-length}
use lib.Dec.{leb}
use Rattle.model.specs.Basic.{lacks}
use Rattle.model.specs.Bounds.{max_nodes}
use Rattle.model.specs.Predicate.{names_outside, names_new}
use Rattle.model.specs.Parse.{read_pred}
use Rattle.model.specs.Limits.{broken}
use Rattle.model.specs.Table.{word_of}
use Rattle.table_predicate.specs.declared.Ended.{Ended}
use Rattle.table_predicate.specs.declared.Stopped.TheVariants as S
use Rattle.table_predicate.specs.declared.Walked.{Walked}
use Rattle.table_predicate.specs.Walk.{walk_at}
use Rattle.format.specs.Tokens.{tokens, sounds}
use Rattle.text_bytes.specs.Find.{gap}
use Rattle.text_bytes.proofs.FindLaws.{gap_within}
use Rattle.read_words.specs.Codes.{stray_code}
use Rattle.read_words.specs.declared.reading.WordsError.{WordsError}
use Rattle.read_words.specs.declared.reading.WordsError.TheVariants as W
use Rattle.read_words.specs.Read.{count, written, Reads}
use Rattle.read_words.proofs.Answers.{said_read}
use Rattle.model.proofs.Tests.{not-not}
use Rattle.read_nodes.specs.declared.NodesError.{NodesError}
use Rattle.read_nodes.specs.declared.NodesError.TheVariants as E
use Rattle.std.specs.Prelude.{Result, Ok, Err}
use Rattle.std.specs.Result.{IsErrAnd}
use Rattle.read_nodes.specs.Nodes.{broken_row, nodes_error, walk_error, is_deep, span_fault, walk_fault, told, extent_fault, nodes_fault, judged_in, on_words, codes_of, nodes_read, nodes_after}

-- the first row that is broken is the answer; a row that is not leaves it to the later ones
hit : (n row : ℕ) (b : Bool) (rest : Option ℕ) → b ≡ true → broken_row row ≡ told n (broken row b rest)
unfolding told broken
hit n row b rest h = rw h

pass : (n row : ℕ) (b : Bool) (rest : Option ℕ) (r : Result ℕ NodesError) → b ≡ false → r ≡ told n rest → r ≡ told n (broken row b rest)
unfolding told broken
pass n row b rest r h e = rw h e

by_error : (r : Result ℕ NodesError) (e : NodesError) → IsErrAnd r (λ x. x ≡ e) → r ≡ Err e
by_error (Ok n) e h = absurd h
by_error (Err x) e h = ap Err h

-- `spanned`
module _ (w : Walked) (n before : ℕ) where
  pub spanned_leaves : w.leaves ≡ true → broken_row 10 ≡ told n (span_fault before n w)
  unfolding span_fault
  spanned_leaves g = hit n 10 w.leaves _ g

  module _ (g : w.leaves ≡ false) (b : Bool) (hb : b ≡ leb (before + n) max_nodes) where
    pub spanned_many : not b ≡ true → broken_row 11 ≡ told n (span_fault before n w)
    unfolding span_fault
    spanned_many t = pass n 10 w.leaves _ (broken_row 11) g (hit n 11 _ none (ap not (sym hb) ∙ t))

    pub spanned_fine : not b ≡ false → Ok n ≡ told n (span_fault before n w)
    unfolding span_fault told
    spanned_fine t = pass n 10 w.leaves _ (Ok n) g (pass n 11 _ none (Ok n) (ap not (sym hb) ∙ t) refl)

pub ruleset spanned_laws = (spanned_leaves, spanned_many, spanned_fine)

-- `extent`
module _ (nodes ranges : List ℕ) (before : ℕ) (q : Result Walked Ended) (hq : q ≡ walk_at nodes ranges 0) where
  by_walk : (r : Result ℕ NodesError) → r ≡ told (length nodes) (walk_fault before (length nodes) q) → r ≡ told (length nodes) (extent_fault ranges before nodes)
  unfolding extent_fault
  by_walk r e = rw (← hq) e

  pub extent_past : (w : Walked) → q ≡ Ok w → (r : Result ℕ NodesError) → r ≡ told (length nodes) (span_fault before (length nodes) w) → r ≡ told (length nodes) (extent_fault ranges before nodes)
  unfolding walk_fault
  extent_past w h r z = by_walk r (rw h z)

  module _ (e : Ended) (h : q ≡ Err e) where
    pub extent_stray : e.why ≡ S.Stray → (r : Result ℕ NodesError) → r ≡ told (length nodes) (span_fault before (length nodes) e.walk) → r ≡ told (length nodes) (extent_fault ranges before nodes)
    unfolding walk_fault is_deep broken
    extent_stray s r z = by_walk r (rw (h, s) z)

    pub extent_deep : e.why ≡ S.Deep → (x : NodesError) → x ≡ walk_error e.why → Err x ≡ told (length nodes) (extent_fault ranges before nodes)
    unfolding walk_fault is_deep told broken
    extent_deep s x z = by_walk (Err x) (rw (h, z, s))

pub ruleset extent_laws = (extent_past, extent_stray, extent_deep)

-- `judged`
module _ (nodes ranges : List ℕ) (o : Bool) (variables before high : ℕ) where
  pub judged_full : high < length nodes → Err E.Full ≡ judged_in o variables ranges before high nodes
  unfolding judged_in
  judged_full h = rw (lt-leb (length nodes) high h, judged_in)

  module _ (room : length nodes ≤ high) where
    pub judged_in_lem : (r : Result ℕ NodesError) → r ≡ told (length nodes) (nodes_fault o variables ranges before nodes) → r ≡ judged_in o variables ranges before high nodes
    unfolding judged_in
    judged_in_lem r e = rw (le-leb (length nodes) high room, judged_in) e

    module _ (b : Bool) (hb : b ≡ (leb (length nodes) high && (leb (length nodes) (length nodes) && not (lacks (read_pred (map word_of (take (length nodes) nodes))))))) where
      ill_is : lacks (read_pred (map word_of nodes)) ≡ not b
      ill_is =
          let e : leb (length nodes) (length nodes) ≡ true = le-leb (length nodes) (length nodes) (omega arith) in
          sym (not-not _) ∙ ap not (sym (rw (le-leb (length nodes) high room, e, take-length nodes) at hb))

      pub judged_ill : not b ≡ true → broken_row 6 ≡ judged_in o variables ranges before high nodes
      unfolding nodes_fault
      judged_ill h = judged_in_lem (broken_row 6) (hit (length nodes) 6 _ _ (ill_is ∙ h))

      module _ (h : not b ≡ false) (q : Bool) (hq : q ≡ names_outside variables (map word_of (take (length nodes) nodes))) where
        outside_is : names_outside variables (map word_of nodes) ≡ q
        outside_is = ap (λ (l : List ℕ). names_outside variables (map word_of l)) (sym (take-length nodes)) ∙ sym hq

        pub judged_outside : q ≡ true → broken_row 7 ≡ judged_in o variables ranges before high nodes
        unfolding nodes_fault
        judged_outside g = judged_in_lem (broken_row 7) (pass (length nodes) 6 _ _ (broken_row 7) (ill_is ∙ h) (hit (length nodes) 7 _ _ (outside_is ∙ g)))

        module _ (g : q ≡ false) (w : Bool) (hw : w ≡ names_new (map word_of (take (length nodes) nodes))) where
          new_is : (o && names_new (map word_of nodes)) ≡ (o && w)
          new_is = ap (λ (l : List ℕ). o && names_new (map word_of l)) (sym (take-length nodes)) ∙ ap (λ (x : Bool). o && x) (sym hw)

          pub judged_new : (o && w) ≡ true → broken_row 8 ≡ judged_in o variables ranges before high nodes
          unfolding nodes_fault
          judged_new i =
              judged_in_lem (broken_row 8)
              (pass (length nodes) 6 _ _ (broken_row 8) (ill_is ∙ h)
              (pass (length nodes) 7 _ _ (broken_row 8) (outside_is ∙ g) (hit (length nodes) 8 _ _ (new_is ∙ i))))

          pub judged_rest : (o && w) ≡ false → (r : Result ℕ NodesError) → r ≡ told (length nodes) (extent_fault ranges before nodes) → r ≡ judged_in o variables ranges before high nodes
          unfolding nodes_fault
          judged_rest i r e =
              judged_in_lem r
              (pass (length nodes) 6 _ _ r (ill_is ∙ h)
              (pass (length nodes) 7 _ _ r (outside_is ∙ g) (pass (length nodes) 8 _ _ r (new_is ∙ i) e)))

pub ruleset judged_laws = (judged_full, judged_ill, judged_outside, judged_new, judged_rest)

-- `read`: where all words were read, their codes stand in front
pub read_front : (part old new : List ℕ) (n : ℕ) → Reads part old new (Ok n) → (take n new ≡ codes_of part) × (length (codes_of part) ≡ n)
unfolding codes_of written count
read_front part old new n r =
    let cs = codes_of part in
    let i = said_read cs (length old) n r.answered in
    let t : take n cs ≡ cs = take_all n cs i.2 in
    let g : gap stray_code cs ≡ n = sym i.0 in
    let l : length cs ≡ n = omega (arith, i.2, i.0, gap_within stray_code cs) in
    let m : length cs ≤ length old = omega (arith, i.1) in
    let w : new ≡ cs ++ drop n old = r.memory ∙ rw (g, t, take_all (length old) cs m) in
    (ap (take n) w ∙ take_at cs (drop n old) n l, l)

pub read_within : (part old new : List ℕ) (n : ℕ) → Reads part old new (Ok n) → n ≤ length new
read_within part old new n r =
    let i = said_read (codes_of part) (length old) n (unfold codes_of in r.answered) in
    omega (arith, i.1, r.long)

module _ (part : List ℕ) (o : Bool) (variables : ℕ) (ranges : List ℕ) (before high : ℕ) (old : List ℕ) (b : Bool) (hb : b ≡ sounds [] (tokens part)) where
  module _ (h : not b ≡ true) where
    ill_numbers : sounds [] (tokens part) ≡ false
    ill_numbers = sym hb ∙ not-true b h

    pub read_numbers : broken_row 3 ≡ nodes_read part o variables ranges before (length old) high
    unfolding nodes_read
    read_numbers = rw (ill_numbers, nodes_read)

    pub read_numbers_kept : old ≡ nodes_after part old
    unfolding nodes_after
    read_numbers_kept = rw (ill_numbers, nodes_after)

  module _ (h : not b ≡ false) (new : List ℕ) (q : Result ℕ WordsError) (hq : Reads part old new q) where
    numbers : sounds [] (tokens part) ≡ true
    numbers = sym hb ∙ not-false b h

    pub read_after : new ≡ nodes_after part old
    unfolding nodes_after codes_of
    read_after = rw (numbers, nodes_after) hq.memory

    by_words : (r : Result ℕ NodesError) → r ≡ on_words o variables ranges before high (codes_of part) q → r ≡ nodes_read part o variables ranges before (length old) high
    unfolding nodes_read codes_of
    by_words r e = rw (numbers, nodes_read) (e ∙ ap (on_words o variables ranges before high (codes_of part)) hq.answered)

    pub read_failed : (w : WordsError) → q ≡ Err w → (r : Result ℕ NodesError) → IsErrAnd r (λ x. x ≡ nodes_error w) → r ≡ nodes_read part o variables ranges before (length old) high
    unfolding on_words
    read_failed W.Stray e r z = by_words r (rw e (by_error r (nodes_error W.Stray) z))
    read_failed W.Full e r z = by_words r (rw e (by_error r (nodes_error W.Full) z))

    pub read_words_lem : (n : ℕ) → q ≡ Ok n → (ns : List ℕ) → ns ≡ take n new → (r : Result ℕ NodesError) → r ≡ judged_in o variables ranges before high ns
        → r ≡ nodes_read part o variables ranges before (length old) high
    unfolding on_words
    read_words_lem n e ns hn r hr =
        let f = read_front part old new n (rw e at hq) in
        by_words r (rw e (hr ∙ ap (judged_in o variables ranges before high) (hn ∙ f.0)))

pub ruleset read_laws = (read_within, read_numbers, read_numbers_kept, read_after, read_failed, read_words_lem)
