-- Each way out of the code of src/composition.rt.
use Prim.Native.Nat.{ℕ, suc, ◌+◌, ◌-◌, ◌≤◌, ◌<◌}
use mathlib.Core.Path.{◌≡◌, refl, sym, ◌∙◌, ap}
use mathlib.Core.Bool.{Bool, true, false, not, ◌&&◌}
use mathlib.Core.List.{List, map}
use native.Mathlib.Omega.{arith}
use mir.Syntax.{w64}
use mir.Val.{Fits}
use lib.ListN.{length, get_or, take, drop}
use lib.Dec.{eqb, leb, ltb}
use borrow.Author.Tests.{leb-true, leb-false, eq-eqb, ne_eqb, lt-ltb, le-ltb, le-leb, lt-leb}
use Rattle.model.specs.Basic.{every}
use Rattle.model.specs.Bounds.{max_automata, max_nodes}
use Rattle.model.specs.Predicate.{names_outside}
use Rattle.model.specs.Table.{word_of}
use Rattle.model.proofs.Tests.{and_intro, and_right, and_no_right}
use Rattle.line_order.specs.declared.Counts.{Counts}
use Rattle.line_order.specs.Counts.{most_count, add_up_to, with_nodes, capped}
use Rattle.line_order.proofs.CountsLaws.{add_fits, add_stops}
use Rattle.table_predicate.specs.Walk.{walk_at}
use Rattle.table_predicate.specs.Scan.{is_coded}
use Rattle.table_tree.specs.declared.checked.TreeEnd.{TreeEnd}
use Rattle.table_tree.specs.Checked.{tree_check}
use Rattle.table_line.specs.declared.Line.{Line}
use Rattle.std.specs.Prelude.{Option, Some, None}
use Rattle.table_line.specs.Line.{a_line, ranges_in, walked_to, nodes_sound, predicate_at, location_at, behind_pred, starts_from, starts_at, of_tree, compose_at}
use Rattle.table_line.proofs.PredicateCode.{nodes_in, when_true, when_false, no_left}
use Rattle.table_line.proofs.NumberLines.{when_sound}

-- a sum that is below the highest count is no other than the sum
added_few : (x y n : ℕ) → add_up_to x y + n ≤ max_nodes → x + y + n ≤ max_nodes
added_few x y n h = go (leb (x + y) most_count) refl
  where
    go : (b : Bool) → leb (x + y) most_count ≡ b → x + y + n ≤ max_nodes
    go true e = omega (arith, add_fits x y (leb-true (x + y) most_count e))
    go false e = absurd (omega (arith, add_stops x y (leb-false (x + y) most_count e)))

-- `starts`
module _ (t : List ℕ) where
  -- row 11
  location_few : (at : ℕ) (c : Counts) (number nodes next : ℕ) → location_at t at c ≡ a_line number nodes next → c.nodes + nodes ≤ max_nodes
  unfolding location_at predicate_at nodes_sound
  location_few at c number nodes next h =
      let n = get_or t at 0 in
      let slice = take n (drop (at + 1) t) in
      let s = when_sound _ _ number nodes next (when_sound _ _ number nodes next h).1 in
      let size : n ≡ nodes = ap nodes_in s.1 in
      let h1 = and_right (ltb at (length t)) (leb n (length t - (at + 1)) && nodes_sound t c (at + 1) n) s.0 in
      let h2 = and_right (leb n (length t - (at + 1))) (nodes_sound t c (at + 1) n) h1 in
      let h3 = and_right (every is_coded slice) _ h2 in
      let h4 = and_right (not (names_outside c.variables (map word_of slice))) _ h3 in
      let h5 = and_right (walked_to (walk_at t (ranges_in t c.variables) (at + 1)) (at + 1 + n)) (leb (c.nodes + n) max_nodes) h4 in
      omega (arith, leb-true (c.nodes + n) max_nodes h5)

  module _ (c : Counts) (left next total : ℕ) (whole : Option Line) (inv : starts_from t c left next total ≡ whole) where
    pub starts_end : left ≡ 0 → a_line 0 total next ≡ whole
    unfolding starts_from
    starts_end z = rw z at inv

    module _ (rest : ℕ) (z : left ≡ suc rest) (b : Counts) (hb : b ≡ with_nodes c total) (s : Option Line) (e : s ≡ location_at t next b) where
      same_line : s ≡ location_at t next (with_nodes c total)
      same_line = e ∙ ap (λ (x : Counts). location_at t next x) hb

      pub starts_bad : s ≡ None → None ≡ whole
      unfolding starts_from behind_pred
      starts_bad h = rw (z, ← same_line, h) at inv

      module _ (x : Line) (h : s ≡ Some x) where
        pub starts_on : starts_from t c rest x.next (total + x.nodes) ≡ whole
        unfolding starts_from behind_pred
        starts_on = rw (z, ← same_line, h) at inv

        -- the nodes so far fit
        pub starts_few : total + x.nodes ≤ 4096
        starts_few = omega (arith, added_few c.nodes total x.nodes (location_few next (with_nodes c total) x.number x.nodes x.next (sym same_line ∙ h)))

        pub starts_fits : Fits w64 (total + x.nodes)
        starts_fits = record { fits = omega (arith, starts_few) }

pub ruleset starts_laws = (starts_end, starts_bad, starts_on, starts_few, starts_fits)

-- `behind`
module _ (t : List ℕ) (c : Counts) (at inis : ℕ) where
  pub behind_end : length t ≤ at → None ≡ starts_at t c at inis
  unfolding starts_at
  behind_end h = when_false _ _ (no_left (ltb at (length t)) (eqb (get_or t at 0) inis) (le-ltb at (length t) h))

  module _ (n : ℕ) (e : n ≡ get_or t at 0) where
    pub behind_other : (n ≡ inis → ⊥) → None ≡ starts_at t c at inis
    unfolding starts_at
    behind_other h = when_false _ _ (and_no_right (ltb at (length t)) (eqb (get_or t at 0) inis) (ne_eqb (get_or t at 0) inis (λ q. h (e ∙ q))))

    pub behind_good : at < length t → n ≡ inis → (r : Option Line) → r ≡ starts_from t c inis (at + 1) 0 → r ≡ starts_at t c at inis
    unfolding starts_at
    behind_good l h r hr = hr ∙ when_true _ _ (and_intro (lt-ltb at (length t) l) (eq-eqb (get_or t at 0) inis (sym e ∙ h)))

pub ruleset behind_laws = (behind_end, behind_other, behind_good)

-- `compose`
module _ (t : List ℕ) (at : ℕ) (c : Counts) where
  pub compose_many : 16 < c.automata → None ≡ compose_at t at c
  unfolding compose_at
  compose_many h = when_false _ _ (no_left (leb c.automata max_automata) (leb c.nodes max_nodes) (lt-leb c.automata 16 h))

  pub compose_full : 4096 < c.nodes → None ≡ compose_at t at c
  unfolding compose_at
  compose_full h = when_false _ _ (and_no_right (leb c.automata max_automata) (leb c.nodes max_nodes) (lt-leb c.nodes 4096 h))

  module _ (l : c.automata ≤ 16) (u : c.nodes ≤ 4096) (k : ℕ) (hk : k ≡ capped c.actions) (f : Option TreeEnd) (hf : f ≡ tree_check t at k c.automata) where
    same_tree : f ≡ tree_check t at (capped c.actions) c.automata
    unfolding capped
    same_tree = hf ∙ ap (λ (x : ℕ). tree_check t at x c.automata) hk

    by_tree : of_tree t c f ≡ compose_at t at c
    unfolding compose_at
    by_tree = ap (λ (x : Option TreeEnd). of_tree t c x) same_tree ∙ when_true _ _ (and_intro (le-leb c.automata 16 l) (le-leb c.nodes 4096 u))

    pub compose_good : (x : TreeEnd) → f ≡ Some x → (r : Option Line) → r ≡ starts_at t c x.next x.inis → r ≡ compose_at t at c
    unfolding of_tree
    compose_good x h r e = e ∙ ap (λ (y : Option TreeEnd). of_tree t c y) (sym h) ∙ by_tree

    pub compose_bad : f ≡ None → None ≡ compose_at t at c
    unfolding of_tree
    compose_bad h = ap (λ (y : Option TreeEnd). of_tree t c y) (sym h) ∙ by_tree

pub ruleset compose_laws = (compose_many, compose_full, compose_good, compose_bad)
