-- Each way out of the code of src/tree.rt.
use Prim.Native.Nat.{ℕ, suc, ◌+◌, ◌≤◌, ◌<◌}
use mathlib.Core.Path.{◌≡◌, refl, sym, ◌∙◌, ap}
use mathlib.Core.Bool.{Bool, true, false, not}
use mathlib.Core.List.{List, [], ◌∷◌, ◌++◌}
use mathlib.Core.Option.{Option, none, some}
use native.Mathlib.Omega.{arith}
use borrow.Author.Tests.{lt-ltb, le-ltb, eq-eqb, ne_eqb}
use Rattle.model.proofs.Tests.{not-true, not-false}
use Rattle.read_predicate.proofs.ScratchLaws.{scratch_same}
use lib.ListN.{length, take, length-append}
use Rattle.model.specs.Limits.{broken, is_too_large}
use Rattle.model.proofs.Decode.{is_broken, not_broken}
use Rattle.line_order.specs.declared.Counts.{Counts}
use Rattle.line_order.specs.Counts.{capped}
use Rattle.table_append.specs.Append.{next_place, put}
use Rattle.table_append.proofs.Joined.{next_then, put_then}
use Rattle.table_line.specs.Line.{ranges_in}
use Rattle.format.specs.Bytes.{Bytes, bytes}
use Rattle.format.specs.Tokens.{tokens, sounds}
use Rattle.read_composition.specs.declared.compose.Composition.{Composition}
use Rattle.read_composition.specs.Lists.{lists_kept}
use Rattle.read_composition.specs.Read.{of_tree, memory_of, HasRead}
use Rattle.read_predicate.specs.Scratch.{Scratch}
use Rattle.read_starts.specs.declared.judging.Judged.{Judged}
use Rattle.read_starts.specs.Judged.{judged_all, row_of}
use Rattle.read_starts.specs.Words.{starts_words}
use Rattle.read_starts.proofs.StartRows.{judged_few}
use Rattle.read_form.specs.declared.LineRead.{LineRead}
use Rattle.std.specs.Prelude as P
use Rattle.std.specs.Prelude.{Some, None, Result, Ok, Err}
use Rattle.std.specs.Option.{is_some, ok_or}
use Rattle.model.specs.declared.Row.{Row}
use Rattle.model.specs.Row as Row
use Rattle.read_form.specs.Form.{value_after, misformed}
use Rattle.read_form.specs.Outcome.{said, then_row, answered}
use Rattle.read_form.proofs.Outcomes.{lacking, present, answered_fault, answered_sound, written_fault, written_sound}
use Rattle.read_composition_line.specs.Composition.{blank, tree_in, tree_fault, tree_words, tree_read, tree_after, starts_judged, composed_fault, composed_words, part_told, part_after, composed_read, composed_after, part_of, compose_fault, compose_read, compose_after}

-- rows 13, 14 and 16 by the answer of `read_composition::read`
abbrev pub rows_by : P.Option Composition → Option ℕ
rows_by o = broken 13 (not (is_some o)) (broken 14 (not (of_tree o).ordered) (broken 16 (is_too_large (of_tree o).nodes) none))

-- `tree`
module _ (N : ℕ) (s : Bytes) (words : List ℕ) (at : ℕ) where
  module _ (row : ℕ) (e : tree_fault N s ≡ some row) where
    tree_read_fault : Err (Row.row row) ≡ tree_read N s at
    unfolding tree_read
    tree_read_fault = sym (answered_fault (tree_fault N s) row _ e)

    tree_after_fault : words ≡ tree_after N s words at
    unfolding tree_after
    tree_after_fault = sym (written_fault (tree_fault N s) row _ words e)

  module _ (new : List ℕ) (o : P.Option Composition) (ho : HasRead N s blank new o) where
    rows : tree_fault N s ≡ rows_by o
    unfolding tree_fault tree_in
    rows = ap rows_by (sym ho.answer)

    module _ (w : Row) (e : Err w ≡ ok_or o (Row.row 13)) where
      formed_fault : tree_fault N s ≡ some 13
      formed_fault = rows ∙ is_broken 13 _ _ (ap (λ (p : P.Option Composition). not (is_some p)) (lacking o 13 w e).0)

      pub formed_read : Err w ≡ tree_read N s at
      formed_read = ap Err (lacking o 13 w e).1 ∙ tree_read_fault 13 formed_fault

      pub formed_after : words ≡ tree_after N s words at
      formed_after = tree_after_fault 13 formed_fault

    module _ (x : Composition) (e : Ok x ≡ ok_or o (Row.row 13)) where
      its : tree_fault N s ≡ broken 14 (not x.ordered) (broken 16 (is_too_large x.nodes) none)
      its = rows ∙ ap rows_by (present o 13 x e) ∙ not_broken 13 _ _ refl

      module _ (g : x.ordered ≡ false) where
        ordered_fault : tree_fault N s ≡ some 14
        ordered_fault = its ∙ is_broken 14 _ _ (ap not g)

        pub ordered_read : Err (Row.row 14) ≡ tree_read N s at
        ordered_read = tree_read_fault 14 ordered_fault

        pub ordered_after : words ≡ tree_after N s words at
        ordered_after = tree_after_fault 14 ordered_fault

      module _ (g : x.ordered ≡ true) where
        module _ (h : 64 < x.nodes) where
          large_fault : tree_fault N s ≡ some 16
          unfolding is_too_large
          large_fault = its ∙ not_broken 14 _ _ (ap not g) ∙ is_broken 16 _ none (lt-ltb 64 x.nodes h)

          pub large_read : Err (Row.row 16) ≡ tree_read N s at
          large_read = tree_read_fault 16 large_fault

          pub large_after : words ≡ tree_after N s words at
          large_after = tree_after_fault 16 large_fault

        module _ (h : x.nodes ≤ 64) (p : ℕ) (hp : p ≡ next_place at 1) where
          none_broken : tree_fault N s ≡ none
          unfolding is_too_large
          none_broken = its ∙ not_broken 14 _ _ (ap not g) ∙ not_broken 16 _ none (le-ltb 64 x.nodes h)

          its_words : tree_words N s ≡ x.nodes ∷ take x.next new
          unfolding tree_words tree_in
          its_words =
              ap (λ (y : P.Option Composition). (of_tree y).nodes ∷ take (of_tree y).next (memory_of N s blank)) (sym ho.answer ∙ present o 13 x e) ∙
              ap (λ (l : List ℕ). x.nodes ∷ take x.next l) (sym ho.memory)

          its_length : 1 + length (take x.next new) ≡ length (tree_words N s)
          its_length = omega (arith, ap length its_words)

          pub nodes_read : (q : ℕ) → q ≡ next_place p (length (take x.next new)) → Ok (said 0 0 q) ≡ tree_read N s at
          unfolding tree_read
          nodes_read q hq =
              ap (λ (n : ℕ). Ok (said 0 0 n))
              (hq ∙ ap (λ (n : ℕ). next_place n (length (take x.next new))) hp ∙ next_then at 1 (length (take x.next new)) ∙
              ap (next_place at) its_length) ∙
              sym (answered_sound (tree_fault N s) (said 0 0 (next_place at (length (tree_words N s)))) none_broken)

          pub nodes_after : (y z : List ℕ) → y ≡ put at (x.nodes ∷ []) words → z ≡ put p (take x.next new) y → z ≡ tree_after N s words at
          unfolding tree_after
          nodes_after y z hy hz =
              hz ∙ ap (λ (n : ℕ). put n (take x.next new) y) hp ∙ ap (put (next_place at 1) (take x.next new)) hy ∙
              put_then (x.nodes ∷ []) at (take x.next new) words ∙
              ap (λ (l : List ℕ). put at l words) (sym its_words) ∙
              sym (written_sound (tree_fault N s) _ words none_broken)

pub ruleset tree_laws = (ordered_read, ordered_after, large_read, large_after, nodes_read, nodes_after)

-- `starts`
module _ (part : Bytes) (c : Counts) (words : List ℕ) (room high : ℕ) (j : Judged) where
  pub starts_by : (rs : List ℕ) → rs ≡ ranges_in words c.variables → j ≡ judged_all c.variables rs c.nodes room high part
      → j ≡ starts_judged c words part room high
  unfolding starts_judged
  starts_by rs e h = rw (← e) h

  -- for `append_starts`
  pub starts_few : j ≡ starts_judged c words part room high → j.count ≤ 64
  unfolding starts_judged
  starts_few h = rw h (judged_few c.variables (ranges_in words c.variables) c.nodes room high part)

-- what the answer of `tree` says of its rows
module _ (o : Option ℕ) (at : ℕ) (new : List ℕ) where
  row_told : (w : Row) → Err w ≡ answered o (said 0 0 (next_place at (length new))) → o ≡ some w.0
  unfolding answered
  row_told w h = go o h
    where
      go : (x : Option ℕ) → Err w ≡ answered x (said 0 0 (next_place at (length new))) → x ≡ some w.0
      go none e = absurd (let z : ◌≡◌ {A = ℕ} 0 1 = cc in omega arith)
      go (some i) e =
          let z : Row.row i ≡ w = cc in
          ap (λ (u : Row). some u.0) z

  none_told : (x : LineRead) → Ok x ≡ answered o (said 0 0 (next_place at (length new))) → (o ≡ none) × (x.next ≡ next_place at (length new))
  unfolding answered
  none_told x h = go o h
    where
      go : (y : Option ℕ) → Ok x ≡ answered y (said 0 0 (next_place at (length new))) → (y ≡ none) × (x.next ≡ next_place at (length new))
      go none e =
          let z : x ≡ said 0 0 (next_place at (length new)) = cc in
          (refl, ap (λ (l : LineRead). l.next) z)
      go (some i) e = absurd (let z : ◌≡◌ {A = ℕ} 0 1 = cc in omega arith)

-- `composed`
module _ (c : Counts) (words : List ℕ) (part : Bytes) (old : List ℕ) (high at : ℕ) (j : Judged) (hj : j ≡ starts_judged c words part (length old) high) where
  abbrev N : ℕ
  N = c.automata

  abbrev room : ℕ
  room = length old

  rows_by_lem : composed_fault c words part room high ≡ then_row (row_of j.row) (tree_fault N part)
  unfolding composed_fault
  rows_by_lem = ap (λ (x : Judged). then_row (row_of x.row) (tree_fault N part)) (sym hj)

  module _ (w : Row) (e : composed_fault c words part room high ≡ some w.0) where
    part_fault : Err w ≡ composed_read c words part room high at
    unfolding composed_read part_told
    part_fault = sym (answered_fault _ w.0 _ e)

    part_kept : words ≡ composed_after c words part room high at
    unfolding composed_after part_after
    part_kept = sym (written_fault _ w.0 _ words e)

  module _ (w : Row) (h : j.row ≡ Some w) where
    starts_fault : composed_fault c words part room high ≡ some w.0
    unfolding then_row row_of
    starts_fault = rows_by_lem ∙ ap (λ (o : P.Option Row). then_row (row_of o) (tree_fault N part)) h

    pub composed_starts : Err w ≡ composed_read c words part room high at
    composed_starts = part_fault w starts_fault

    pub composed_starts_kept : words ≡ composed_after c words part room high at
    composed_starts_kept = part_kept w starts_fault

  module _ (h : j.row ≡ None) where
    tree_left : composed_fault c words part room high ≡ tree_fault N part
    unfolding then_row row_of
    tree_left = rows_by_lem ∙ ap (λ (o : P.Option Row). then_row (row_of o) (tree_fault N part)) h

    module _ (w : Row) (e : Err w ≡ tree_read N part at) where
      its_row : tree_fault N part ≡ some w.0
      unfolding tree_read
      its_row = row_told (tree_fault N part) at (tree_words N part) w e

      pub composed_tree : Err w ≡ composed_read c words part room high at
      composed_tree = part_fault w (tree_left ∙ its_row)

      pub composed_tree_kept : (mid : List ℕ) → mid ≡ tree_after N part words at → mid ≡ composed_after c words part room high at
      unfolding tree_after
      composed_tree_kept mid hm = hm ∙ written_fault (tree_fault N part) w.0 _ words its_row ∙ part_kept w (tree_left ∙ its_row)

    module _ (x : LineRead) (e : Ok x ≡ tree_read N part at) (lent : List ℕ) (l : Scratch old lent) where
      abbrev later : List ℕ
      later = j.count ∷ starts_words (length lent) part

      its_place : (tree_fault N part ≡ none) × (x.next ≡ next_place at (length (tree_words N part)))
      unfolding tree_read
      its_place = none_told (tree_fault N part) at (tree_words N part) x e

      none_left : composed_fault c words part room high ≡ none
      none_left = tree_left ∙ its_place.0

      all_words : tree_words N part ++ later ≡ composed_words c words part room high
      unfolding composed_words
      all_words =
          ap (λ (n : ℕ). tree_words N part ++ j.count ∷ starts_words n part) l.long ∙
          ap (λ (y : Judged). tree_words N part ++ y.count ∷ starts_words room part) hj

      pub composed_read_lem : (end : ℕ) → end ≡ next_place x.next (suc (length (starts_words (length lent) part)))
          → Ok (said 0 j.nodes end) ≡ composed_read c words part room high at
      unfolding composed_read part_told
      composed_read_lem end he =
          ap (λ (n : ℕ). Ok (said 0 j.nodes n))
          (he ∙ ap (λ (n : ℕ). next_place n (length later)) its_place.1 ∙ next_then at (length (tree_words N part)) (length later) ∙
          ap (next_place at) (sym (length-append (tree_words N part) later)) ∙ ap (λ (w : List ℕ). next_place at (length w)) all_words) ∙
          ap (λ (y : Judged). Ok (said 0 y.nodes (next_place at (length (composed_words c words part room high))))) hj ∙
          sym (answered_sound _ _ none_left)

      pub composed_put : (mid : List ℕ) → mid ≡ tree_after N part words at → (new : List ℕ) → new ≡ put x.next (j.count ∷ starts_words (length lent) part) mid → new ≡ composed_after c words part room high at
      unfolding composed_after part_after tree_after
      composed_put mid hm new hn =
          hn ∙ ap (λ (n : ℕ). put n later mid) its_place.1 ∙
          ap (put (next_place at (length (tree_words N part))) later) (hm ∙ written_sound (tree_fault N part) _ words its_place.0) ∙
          put_then (tree_words N part) at later words ∙ ap (λ (w : List ℕ). put at w words) all_words ∙
          sym (written_sound _ _ words none_left)

pub ruleset composed_laws = (composed_starts, composed_starts_kept, composed_read_lem, composed_put, starts_few, composed_tree, composed_tree_kept)

-- `composition`
module _ (s : Bytes) (ended : Bool) (c : Counts) (words : List ℕ) (room high at : ℕ) where
  module _ (row : ℕ) (e : compose_fault s ended c words room high ≡ some row) where
    line_read_fault : Err (Row.row row) ≡ compose_read s ended c words room high at
    unfolding compose_read part_told
    line_read_fault = sym (answered_fault (compose_fault s ended c words room high) row _ e)

    line_after_fault : words ≡ compose_after s ended c words room high at
    unfolding compose_after part_after
    line_after_fault = sym (written_fault (compose_fault s ended c words room high) row _ words e)

  module _ (m : Bool) (hm : m ≡ misformed (bytes "compose=") 0 s ended) where
    module _ (f : m ≡ true) where
      form_fault : compose_fault s ended c words room high ≡ some 2
      unfolding compose_fault
      form_fault = is_broken 2 _ _ (sym hm ∙ f)

      pub form_read : Err (Row.row 2) ≡ compose_read s ended c words room high at
      form_read = line_read_fault 2 form_fault

      pub form_after : words ≡ compose_after s ended c words room high at
      form_after = line_after_fault 2 form_fault

    module _ (f : m ≡ false) (v : Bytes) (hv : v ≡ value_after (bytes "compose=") s) (n : Bool) (hn : n ≡ sounds [] (tokens v)) where
      numbers_by : sounds [] (tokens (part_of s)) ≡ n
      numbers_by = sym (hn ∙ ap (λ (u : Bytes). sounds [] (tokens u)) hv)

      module _ (g : n ≡ false) where
        numbers_fault : compose_fault s ended c words room high ≡ some 3
        unfolding compose_fault
        numbers_fault = not_broken 2 _ _ (sym hm ∙ f) ∙ is_broken 3 _ _ (ap not (numbers_by ∙ g))

        pub numbers_read : Err (Row.row 3) ≡ compose_read s ended c words room high at
        numbers_read = line_read_fault 3 numbers_fault

        pub numbers_after : words ≡ compose_after s ended c words room high at
        numbers_after = line_after_fault 3 numbers_fault

      module _ (g : n ≡ true) (k : ℕ) (hk : k ≡ capped c.actions) (l : Bool) (hl : l ≡ lists_kept k false (tokens v)) where
        lists_by : lists_kept (capped c.actions) false (tokens (part_of s)) ≡ l
        lists_by = sym (hl ∙ rw (hv, hk))

        module _ (h : l ≡ false) where
          lists_fault : compose_fault s ended c words room high ≡ some 5
          unfolding compose_fault
          lists_fault = not_broken 2 _ _ (sym hm ∙ f) ∙ not_broken 3 _ _ (ap not (numbers_by ∙ g)) ∙ is_broken 5 _ _ (ap not (lists_by ∙ h))

          pub lists_read : Err (Row.row 5) ≡ compose_read s ended c words room high at
          lists_read = line_read_fault 5 lists_fault

          pub lists_after : words ≡ compose_after s ended c words room high at
          lists_after = line_after_fault 5 lists_fault

        module _ (h : l ≡ true) where
          rest_fault : composed_fault c words v room high ≡ compose_fault s ended c words room high
          unfolding compose_fault
          rest_fault =
              ap (λ (u : Bytes). composed_fault c words u room high) hv ∙
              sym (not_broken 2 _ _ (sym hm ∙ f) ∙ not_broken 3 _ _ (ap not (numbers_by ∙ g)) ∙ not_broken 5 _ _ (ap not (lists_by ∙ h)))

          pub rest_read : (q : Result LineRead Row) → q ≡ composed_read c words v room high at → q ≡ compose_read s ended c words room high at
          unfolding compose_read composed_read
          rest_read q hq =
              hq ∙ ap (λ (o : Option ℕ). part_told o c words v room high at) rest_fault ∙
              ap (λ (u : Bytes). part_told (compose_fault s ended c words room high) c words u room high at) hv

          pub rest_after : (y : List ℕ) → y ≡ composed_after c words v room high at → y ≡ compose_after s ended c words room high at
          unfolding compose_after composed_after
          rest_after y hy =
              hy ∙ ap (λ (o : Option ℕ). part_after o c words v room high at) rest_fault ∙
              ap (λ (u : Bytes). part_after (compose_fault s ended c words room high) c words u room high at) hv

pub ruleset composition_laws = (form_read, form_after, numbers_read, numbers_after, lists_read, lists_after, rest_read, rest_after, scratch_same, not-true, not-false)
