-- Each way out of the code of src/predicates.rt.
use Prim.Native.Nat.{ℕ, ◌+◌, ◌-◌, ◌*◌, ◌/◌, ◌≤◌, ◌<◌}
use mathlib.Core.Path.{◌≡◌, refl, sym, ◌∙◌, ap}
use mathlib.Core.Bool.{Bool, true, false, not, ◌&&◌}
use mathlib.Core.List.{List, [], map}
use native.Mathlib.Omega.{arith}
use lib.ListN.{length, get_or, take, drop, drop_of_length-le, length-drop}
use lib.Seq.{take_all, take-nil}
use lib.Dec.{eqb, leb, ltb}
use borrow.Author.Tests.{eqb-true, eqb-false, eq-eqb, ne_eqb, lt-ltb, le-ltb, le-leb, lt-leb, not-true, not-false}
use Rattle.model.specs.Basic.{every}
use Rattle.model.specs.Bounds.{max_nodes}
use Rattle.model.specs.Predicate.{names_outside, names_new}
use Rattle.model.specs.Table.{word_of}
use Rattle.model.proofs.Tests.{and_intro, and_no_right}
use Rattle.line_order.specs.declared.Counts.{Counts}
use Rattle.table_predicate.specs.declared.Ended.{Ended}
use Rattle.table_predicate.specs.declared.Walked.{Walked}
use Rattle.table_predicate.specs.Walk.{walk_at}
use Rattle.table_predicate.specs.Scan.{is_coded}
use Rattle.table_line.specs.declared.Line.{Line}
use Rattle.std.specs.Prelude.{Option, Some, None, Result, Ok, Err, SomeIff}
use Rattle.std.specs.Option.{option_eq}
use Rattle.table_line.specs.Line.{a_line, when, ranges_in, walked_to, nodes_sound, predicate_at, location_at}

-- what a line says
abbrev pub number_in : Option Line → ℕ
number_in (Some x) = x.number
number_in None = 0

abbrev pub nodes_in : Option Line → ℕ
nodes_in (Some x) = x.nodes
nodes_in None = 0

abbrev pub next_in : Option Line → ℕ
next_in (Some x) = x.next
next_in None = 0

pub when_true : (b : Bool) (l : Option Line) → b ≡ true → l ≡ when b l
unfolding when
when_true b l h = rw h

pub when_false : (b : Bool) (l : Option Line) → b ≡ false → None ≡ when b l
unfolding when
when_false b l h = rw h

pub no_left : (a b : Bool) → a ≡ false → (a && b) ≡ false
no_left a b h = rw h

-- `ranges`
module _ (t : List ℕ) (n : ℕ) where
  pub ranges_short : length t < 3 → [] ≡ ranges_in t n
  unfolding ranges_in
  ranges_short h =
      let l : length t ≤ 3 = omega arith in
      rw (drop_of_length-le t l, take-nil {A = ℕ} (3 * n))

  pub ranges_few : 3 ≤ length t → (length t - 3) / 3 < n → take (length t - 3) (drop 3 t) ≡ ranges_in t n
  unfolding ranges_in
  ranges_few h l = take_all (length t - 3) (drop 3 t) (omega (arith, length-drop 3 t)) ∙ sym (take_all (3 * n) (drop 3 t) (omega (arith, length-drop 3 t)))

  pub ranges_all : take (3 + 3 * n - 3) (drop 3 t) ≡ ranges_in t n
  unfolding ranges_in
  ranges_all =
      let e : 3 + 3 * n - 3 ≡ 3 * n = omega arith in
      ap (λ (i : ℕ). take i (drop 3 t)) e

pub ruleset ranges_laws = (ranges_short, ranges_few, ranges_all)

-- `walked_to`
module _ (start n : ℕ) where
  -- from a sum to a difference
  same_place : (next : ℕ) (d : Option ℕ) → SomeIff d (start ≤ next) (next - start) → option_eq eqb d (Some n) ≡ eqb next (start + n)
  same_place next None h = sym (ne_eqb next (start + n) (λ e. h (omega arith)))
  same_place next (Some k) h = by (eqb k n) refl
    where
      by : (b : Bool) → eqb k n ≡ b → eqb k n ≡ eqb next (start + n)
      by true e = e ∙ sym (eq-eqb next (start + n) (let i = eqb-true k n e in omega (arith, h.0, h.1)))
      by false e = e ∙ sym (ne_eqb next (start + n) (λ q. eqb-false k n e (omega (arith, h.0, h.1))))

  module _ (q : Result Walked Ended) where
    pub walked_ended : (s : Ended) → q ≡ Err s → false ≡ walked_to q (start + n)
    unfolding walked_to
    walked_ended s e = rw e

    module _ (w : Walked) (e : q ≡ Ok w) where
      pub walked_out : not w.leaves ≡ false → not w.leaves ≡ walked_to q (start + n)
      unfolding walked_to
      walked_out h = rw (e, h)

      pub walked_on : not w.leaves ≡ true → (d : Option ℕ) → SomeIff d (start ≤ w.next) (w.next - start) → (r : Bool) → r ≡ option_eq eqb d (Some n) → r ≡ walked_to q (start + n)
      unfolding walked_to
      walked_on h d i r f = rw (e, h) (f ∙ same_place w.next d i)

pub ruleset walked_laws = (walked_ended, walked_out)

-- `nodes_sound`
module _ (t : List ℕ) (c : Counts) (start n : ℕ) where
  abbrev coded : Bool
  coded = every is_coded (take n (drop start t))

  abbrev outside : Bool
  outside = names_outside c.variables (map word_of (take n (drop start t)))

  abbrev walked : Bool
  walked = walked_to (walk_at t (ranges_in t c.variables) start) (start + n)

  abbrev few : Bool
  few = leb (c.nodes + n) max_nodes

  module _ (p : Bool) (hp : p ≡ coded) where
    pub nodes_uncoded : not p ≡ true → false ≡ nodes_sound t c start n
    unfolding nodes_sound
    nodes_uncoded h = sym (no_left coded (not outside && (walked && few)) (sym hp ∙ not-true p h))

    module _ (q : Bool) (hq : q ≡ outside) where
      pub nodes_outside : q ≡ true → false ≡ nodes_sound t c start n
      unfolding nodes_sound
      nodes_outside h = sym (and_no_right coded (not outside && (walked && few)) (no_left (not outside) (walked && few) (ap not (sym hq ∙ h))))

      module _ (rs : List ℕ) (hr : rs ≡ ranges_in t c.variables) (w : Result Walked Ended) (hw : w ≡ walk_at t rs start) (o : Bool) (ho : o ≡ walked_to w (start + n)) where
        same_walk : walked ≡ o
        unfolding walked_to
        same_walk = ap (λ (x : List ℕ). walked_to (walk_at t x start) (start + n)) (sym hr) ∙ ap (λ (x : Result Walked Ended). walked_to x (start + n)) (sym hw) ∙ sym ho

        pub nodes_astray : not o ≡ true → false ≡ nodes_sound t c start n
        unfolding nodes_sound
        nodes_astray h = sym (and_no_right coded (not outside && (walked && few)) (and_no_right (not outside) (walked && few) (no_left walked few (same_walk ∙ not-true o h))))

        pub nodes_few : not p ≡ false → q ≡ false → not o ≡ false → (r : Bool) → r ≡ few → r ≡ nodes_sound t c start n
        unfolding nodes_sound
        nodes_few hp' hq' ho' r hr' =
            let a : coded ≡ true = sym hp ∙ not-false p hp' in
            let b : outside ≡ false = sym hq ∙ hq' in
            let d : walked ≡ true = same_walk ∙ not-false o ho' in
            all coded outside walked a b d
          where
            all : (x y z : Bool) → x ≡ true → y ≡ false → z ≡ true → r ≡ (x && (not y && (z && few)))
            all x y z i j k = hr' ∙ rw (i, j, k)

pub ruleset nodes_laws = (nodes_uncoded, nodes_outside, nodes_astray, nodes_few)

-- `predicate`
module _ (t : List ℕ) (at : ℕ) (c : Counts) where
  abbrev rest : Bool
  rest = leb (get_or t at 0) (length t - (at + 1)) && nodes_sound t c (at + 1) (get_or t at 0)

  pub predicate_end : length t ≤ at → None ≡ predicate_at t at c
  unfolding predicate_at
  predicate_end h = when_false _ _ (no_left (ltb at (length t)) rest (le-ltb at (length t) h))

  module _ (n : ℕ) (e : n ≡ get_or t at 0) where
    pub predicate_short : length t - (at + 1) < n → None ≡ predicate_at t at c
    unfolding predicate_at
    predicate_short l = when_false _ _ (and_no_right (ltb at (length t)) rest (no_left (leb (get_or t at 0) (length t - (at + 1))) (nodes_sound t c (at + 1) (get_or t at 0)) (lt-leb (get_or t at 0) (length t - (at + 1)) (omega arith))))

    module _ (r : Bool) (hr : r ≡ nodes_sound t c (at + 1) n) where
      same_nodes : nodes_sound t c (at + 1) (get_or t at 0) ≡ r
      same_nodes = ap (λ (x : ℕ). nodes_sound t c (at + 1) x) (sym e) ∙ sym hr

      pub predicate_bad : r ≡ false → None ≡ predicate_at t at c
      unfolding predicate_at
      predicate_bad h = when_false _ _ (and_no_right (ltb at (length t)) rest (and_no_right (leb (get_or t at 0) (length t - (at + 1))) (nodes_sound t c (at + 1) (get_or t at 0)) (same_nodes ∙ h)))

      pub predicate_good : at < length t → n ≤ length t - (at + 1) → r ≡ true → a_line 0 n (at + 1 + n) ≡ predicate_at t at c
      unfolding predicate_at
      predicate_good h l g = ap (λ (x : ℕ). a_line 0 x (at + 1 + x)) e ∙ when_true (ltb at (length t) && rest) (a_line 0 (get_or t at 0) (at + 1 + get_or t at 0)) (and_intro (lt-ltb at (length t) h) (and_intro (le-leb (get_or t at 0) (length t - (at + 1)) (omega arith)) (same_nodes ∙ g)))

pub ruleset predicate_laws = (predicate_end, predicate_short, predicate_bad, predicate_good)

-- `location`
module _ (t : List ℕ) (at : ℕ) (c : Counts) where
  when_bad : (b : Bool) (l : Option Line) → None ≡ l → None ≡ when b l
  unfolding when
  when_bad true l h = h
  when_bad false l h = refl

  pub location_end : length t ≤ at → None ≡ location_at t at c
  unfolding location_at
  location_end h = when_bad _ _ (predicate_end t at c h)

  module _ (n : ℕ) (e : n ≡ get_or t at 0) (q : Bool) (hq : q ≡ names_new (map word_of (take n (drop (at + 1) t)))) where
    same_new : names_new (map word_of (take (get_or t at 0) (drop (at + 1) t))) ≡ q
    same_new = ap (λ (x : ℕ). names_new (map word_of (take x (drop (at + 1) t)))) (sym e) ∙ sym hq

    pub location_new : q ≡ true → None ≡ location_at t at c
    unfolding location_at
    location_new h = when_false _ _ (ap not (same_new ∙ h))

    pub location_good : q ≡ false → (r : Option Line) → r ≡ predicate_at t at c → r ≡ location_at t at c
    unfolding location_at
    location_good h r hr = hr ∙ when_true _ _ (ap not (same_new ∙ h))

pub ruleset location_laws = (location_end, location_new, location_good)
