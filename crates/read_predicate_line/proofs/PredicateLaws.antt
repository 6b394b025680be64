-- Each way out of the code of src/predicates.rt.
use Prim.Native.Nat.{ℕ, suc, ◌*◌, ◌≤◌}
use mathlib.Core.Path.{◌≡◌, refl, sym, ◌∙◌, ap}
use mathlib.Core.Bool.{Bool, true, false}
use mathlib.Core.List.{List, ◌∷◌}
use mathlib.Core.Option.{Option, none, some}
use native.Mathlib.Omega.{arith}
use lib.ListN.{length, take, length-drop}
use Rattle.model.specs.Bounds.{max_nodes}
use Rattle.model.specs.Limits.{broken}
use Rattle.line_order.specs.declared.Counts.{Counts}
use Rattle.table_line.specs.Line.{ranges_in}
use Rattle.format.specs.Bytes.{Bytes}
use Rattle.std.specs.Prelude.{Result, Ok, Err}
use Rattle.model.specs.declared.Row.{Row}
use Rattle.model.specs.Row as Row
use Rattle.read_nodes.specs.declared.NodesError.{NodesError}
use Rattle.read_nodes.specs.declared.NodesError.TheVariants as E
use Rattle.read_nodes.specs.Nodes.{codes_of, nodes_read, nodes_after}
use Rattle.read_form.proofs.Outcomes.{answered_fault, answered_sound, written_fault, written_sound}
use Rattle.read_nodes.proofs.NodesRows.{accepted, accepted_stands, after_long, room_same}
use Rattle.read_predicate.specs.Scratch.{Scratch}
use Rattle.read_predicate.proofs.ScratchLaws.{scratch_same}
use Rattle.read_form.specs.declared.LineRead.{LineRead}
use Rattle.read_form.specs.Outcome.{said}
use Rattle.table_append.specs.Append.{next_place, put}
use Rattle.read_form.specs.Form.{value_after, misformed}
use Rattle.model.proofs.Decode.{is_broken, not_broken}
use Rattle.read_predicate_line.specs.Predicate.{most_words, predicate_read, row_in, by_row, predicate_fault, line_told, line_after, counted, located_read, located_after, location_fault, location_read, location_after}

-- `predicate`
module _ (part : Bytes) (o : Bool) (c : Counts) (words rs : List ℕ) (room high : ℕ) (e : rs ≡ ranges_in words c.variables) where
  is_read : (x : Result ℕ NodesError) → x ≡ nodes_read part o c.variables rs c.nodes room high → x ≡ predicate_read part o c words room high
  unfolding predicate_read
  is_read x h = rw (← e) h

  pub predicate_fine : (n : ℕ) → Ok n ≡ nodes_read part o c.variables rs c.nodes room high → Ok n ≡ by_row (predicate_read part o c words room high)
  unfolding by_row
  predicate_fine n h = ap by_row (is_read (Ok n) h)

  pub predicate_broken : (w : Row) → Err (E.Row w) ≡ nodes_read part o c.variables rs c.nodes room high → Err w ≡ by_row (predicate_read part o c words room high)
  unfolding by_row
  predicate_broken w h = ap by_row (is_read (Err (E.Row w)) h)

  pub predicate_full : Err E.Full ≡ nodes_read part o c.variables rs c.nodes room high → Err (Row.row 6) ≡ by_row (predicate_read part o c words room high)
  unfolding by_row
  predicate_full h = ap by_row (is_read (Err E.Full) h)

pub ruleset predicate_laws = (predicate_fine, predicate_broken, predicate_full)

-- the lent memory of the nodes
pub scratch_after : (part : Bytes) (old new : List ℕ) → new ≡ nodes_after part old → Scratch old new
scratch_after part old new e = record { long = ap (length {A = ℕ}) e ∙ after_long part old }

pub ruleset scratch_laws = (scratch_same, scratch_after)

-- what its answer says
by_row_fine : (x : Result ℕ NodesError) (n : ℕ) → Ok n ≡ by_row x → x ≡ Ok n
unfolding by_row
by_row_fine (Ok m) n e =
    let q : m ≡ n = cc in
    ap Ok q
by_row_fine (Err (E.Row w)) n e = absurd (let q : ◌≡◌ {A = ℕ} 0 1 = cc in omega arith)
by_row_fine (Err E.Full) n e = absurd (let q : ◌≡◌ {A = ℕ} 0 1 = cc in omega arith)

by_row_broken : (x : Result ℕ NodesError) (w : Row) → Err w ≡ by_row x → row_in x ≡ some w.0
unfolding by_row row_in
by_row_broken (Ok m) w e = absurd (let q : ◌≡◌ {A = ℕ} 0 1 = cc in omega arith)
by_row_broken (Err (E.Row v)) w e =
    let q : v ≡ w = cc in
    ap (λ (u : Row). some u.0) q
by_row_broken (Err E.Full) w e =
    let q : Row.row 6 ≡ w = cc in
    ap (λ (u : Row). some u.0) q

module _ (part : Bytes) (o : Bool) (c : Counts) (words : List ℕ) (room high : ℕ) where
  pub told_row : (w : Row) → Err w ≡ by_row (predicate_read part o c words room high) → predicate_fault part o c words room high ≡ some w.0
  unfolding predicate_fault
  told_row w e = by_row_broken _ w e

  module _ (n : ℕ) (e : Ok n ≡ by_row (predicate_read part o c words room high)) where
    fine : predicate_read part o c words room high ≡ Ok n
    fine = by_row_fine _ n e

    pub told_fine : predicate_fault part o c words room high ≡ none
    unfolding predicate_fault row_in
    told_fine = ap row_in fine

    pub told_size : n ≡ length (codes_of part)
    unfolding predicate_read
    told_size = sym (accepted part o c.variables (ranges_in words c.variables) c.nodes room high n fine).counted

    pub told_few : n ≤ max_nodes
    unfolding predicate_read
    told_few = (accepted part o c.variables (ranges_in words c.variables) c.nodes room high n fine).few

    -- the count and the nodes, from the lent memory
    pub told_stand : (old new : List ℕ) → length old ≡ room → new ≡ nodes_after part old → ◌≡◌ {A = List ℕ} (n ∷ take n new) (counted (codes_of part))
    unfolding predicate_read
    told_stand old new l h =
        ap (λ (x : List ℕ). n ∷ take n x) h ∙
        ap (λ (x : List ℕ). n ∷ x) (accepted_stands part o c.variables (ranges_in words c.variables) c.nodes room high n old l fine) ∙
        ap (λ (m : ℕ). m ∷ codes_of part) told_size

-- more room than enough changes no row
pub fault_same : (part : Bytes) (o : Bool) (c : Counts) (words : List ℕ) (room high most top : ℕ)
    → length part ≤ 2 * room → length part ≤ 2 * high → length part ≤ 2 * most → length part ≤ 2 * top
    → predicate_fault part o c words room high ≡ predicate_fault part o c words most top
unfolding predicate_fault predicate_read
fault_same part o c words room high most top a b d e = ap row_in (room_same part room high a b o c.variables (ranges_in words c.variables) c.nodes most top d e)

-- `located`
module _ (c : Counts) (words : List ℕ) (v : Bytes) (at : ℕ) (old : List ℕ) (high : ℕ) where
  module _ (w : Row) (e : Err w ≡ by_row (predicate_read v true c words (length old) high)) where
    pub located_row : Err w ≡ located_read c words v (length old) high at
    unfolding located_read
    located_row = sym (answered_fault _ w.0 _ (told_row v true c words (length old) high w e))

    pub located_row_kept : words ≡ located_after c words v (length old) high at
    unfolding located_after
    located_row_kept = sym (written_fault _ w.0 _ words (told_row v true c words (length old) high w e))

  module _ (n : ℕ) (e : Ok n ≡ by_row (predicate_read v true c words (length old) high)) where
    pub located_few : n ≤ max_nodes
    located_few = told_few v true c words (length old) high n e

    module _ (new : List ℕ) (m : new ≡ nodes_after v old) where
      stand : ◌≡◌ {A = List ℕ} (n ∷ take n new) (counted (codes_of v))
      stand = told_stand v true c words (length old) high n e old new refl m

      pub located_are : (next : ℕ) → next ≡ next_place at (suc (length (take n new))) → Ok (said 0 n next) ≡ located_read c words v (length old) high at
      unfolding located_read
      located_are next hn =
          ap (λ (m : ℕ). Ok (said 0 n m)) (hn ∙ ap (λ (l : List ℕ). next_place at (length l)) stand) ∙
          ap (λ (m : ℕ). Ok (said 0 m (next_place at (length (counted (codes_of v)))))) (told_size v true c words (length old) high n e) ∙
          sym (answered_sound _ _ (told_fine v true c words (length old) high n e))

      pub located_put : (t : List ℕ) → t ≡ put at (n ∷ take n new) words → t ≡ located_after c words v (length old) high at
      unfolding located_after
      located_put t hn = hn ∙ ap (λ (l : List ℕ). put at l words) stand ∙ sym (written_sound _ _ words (told_fine v true c words (length old) high n e))

pub ruleset located_laws = (located_few, located_are, located_put)

-- `location`
module _ (name s : Bytes) (ended : Bool) (c : Counts) (words : List ℕ) (room high at : ℕ) (p : Bool) (hp : p ≡ misformed name 1 s ended) where
  module _ (h : p ≡ true) where
    form_row : location_fault name s ended c words room high ≡ some 2
    unfolding location_fault
    form_row = is_broken 2 _ _ (sym hp ∙ h)

    pub location_form : Err (Row.row 2) ≡ location_read name s ended c words room high at
    unfolding location_read
    location_form = sym (answered_fault _ 2 _ form_row)

    pub location_form_kept : words ≡ location_after name s ended c words room high at
    unfolding location_after
    location_form_kept = sym (written_fault _ 2 _ words form_row)

  module _ (h : p ≡ false) (v : Bytes) (hv : v ≡ value_after name s) where
    rest_is : predicate_fault v true c words room high ≡ location_fault name s ended c words room high
    unfolding location_fault
    rest_is = ap (λ (x : Bytes). predicate_fault x true c words room high) hv ∙ sym (not_broken 2 _ _ (sym hp ∙ h))

    pub location_value : (r : Result LineRead Row) → r ≡ located_read c words v room high at → r ≡ location_read name s ended c words room high at
    unfolding located_read location_read
    location_value r hr =
        hr ∙ ap (λ (o : Option ℕ). line_told o (length (codes_of v)) at (counted (codes_of v))) rest_is ∙
        ap (λ (x : Bytes). line_told (location_fault name s ended c words room high) (length (codes_of x)) at (counted (codes_of x))) hv

    pub location_value_put : (t : List ℕ) → t ≡ located_after c words v room high at → t ≡ location_after name s ended c words room high at
    unfolding located_after location_after
    location_value_put t ht =
        ht ∙ ap (λ (o : Option ℕ). line_after o at (counted (codes_of v)) words) rest_is ∙
        ap (λ (x : Bytes). line_after (location_fault name s ended c words room high) at (counted (codes_of x)) words) hv

pub ruleset location_laws = (location_form, location_form_kept, location_value, location_value_put)

-- more room than enough changes nothing
module _ (name s : Bytes) (ended : Bool) (c : Counts) (words : List ℕ) (at room : ℕ) (a : length s ≤ 2 * room) (b : length s ≤ 65536) where
  location_same : location_fault name s ended c words room room ≡ location_fault name s ended c words most_words most_words
  unfolding location_fault
  location_same =
      let l = length-drop (length name) s in
      ap (broken 2 (misformed name 1 s ended)) (fault_same (value_after name s) true c words room room most_words most_words (omega arith) (omega arith) (omega arith) (omega arith))

  pub location_room : location_read name s ended c words room room at ≡ location_read name s ended c words most_words most_words at
  unfolding location_read
  location_room = ap (λ (o : Option ℕ). line_told o (length (codes_of (value_after name s))) at (counted (codes_of (value_after name s)))) location_same

  pub location_room_after : location_after name s ended c words room room at ≡ location_after name s ended c words most_words most_words at
  unfolding location_after
  location_room_after = ap (λ (o : Option ℕ). line_after o at (counted (codes_of (value_after name s))) words) location_same
