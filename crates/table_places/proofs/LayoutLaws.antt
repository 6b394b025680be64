-- Each way out of the code of src/layout.rt; and on a sheet's words the layout says where its parts stand.
use mathlib.Core.Path.{◌≡◌, refl, sym, ap, ◌∙◌}
use mathlib.Core.List.{List, [], ◌∷◌, ◌++◌, map}
use Prim.Native.Nat.{ℕ, zero, suc, ◌+◌, ◌-◌, ◌≤◌, ◌<◌}
use native.Mathlib.Omega.{arith}
use native.Mathlib.Numerals.{add-one}
use lib.ListN.{length, get_or, set, drop, replicate, length-set, length-map, length-replicate, get_or-append}
use lib.Seq.{sets, sets-eq}
use Rattle.model.specs.Bounds.{max_automata, max_variables}
use Rattle.model.specs.Model.{Model}
use Rattle.model.specs.Lawful.{Lawful}
use Rattle.model.specs.Lines.{compose_line}
use Rattle.model.specs.Table.{line_words, sheet_words}
use Rattle.table_places.specs.declared.layout.Layout.{Layout}
use Rattle.table_places.specs.AtMost.{at_most}
use Rattle.table_places.specs.Outline.{actions_in, variables_in, automata_in, first_automaton, first_edge, edge_at, edges_at, after_automaton, passed, automaton_at, tree_at}
use Rattle.table_places.specs.Layout.{places_from, in_array, layout_of, automata_of, variables_of}
use Rattle.table_places.proofs.CodeLaws.{at_most_all, automaton_is}
use Rattle.table_places.proofs.OutlineLaws.{variables_in_lem, automata_in_lem, tree_at_lem}

-- `layout_of`: what is noted so far, and what is to come
pub record Laying (t : List ℕ) (count k at : ℕ) (ss es : List ℕ) : Type 0 where
  pub places : sets ss k (places_from t (count - k) at) ≡ in_array t (places_from t count (first_automaton t))
  pub counts : sets es k (map (edges_at t) (places_from t (count - k) at)) ≡ in_array t (map (edges_at t) (places_from t count (first_automaton t)))
  pub ahead : passed t at (count - k) ≡ passed t (first_automaton t) count
  pub few : count ≤ 16
  pub inside : k ≤ count
  pub long : length ss ≡ 16
  pub long_too : length es ≡ 16

module _ (t : List ℕ) where
  pub laying_begun : (count at end : ℕ) → count ≤ 16 → end ≡ length t → at ≡ first_automaton t → Laying t count 0 at (replicate 16 end) (replicate 16 end)
  unfolding in_array
  laying_begun count at end few ee ea =
      let z : count - 0 ≡ count = omega arith in
      record {
        places = rw (z, ea, ee);
        counts = rw (z, ea, ee);
        ahead = rw (z, ea);
        few = few;
        inside = omega arith;
        long = length-replicate 16 end;
        long_too = length-replicate 16 end;
      }

  module _ (count k at : ℕ) (ss es : List ℕ) (u : Laying t count k at ss es) where
    pub laying_turn : k < count → (place a n next : ℕ) → place ≡ edges_at t at → a ≡ first_edge t place → n ≡ get_or t place 0 → next ≡ edge_at t a n
        → Laying t count (k + 1) next (set ss k at) (set es k place)
    unfolding places_from passed
    laying_turn h place a n next ep ea en er =
        let c : count - k ≡ suc (count - (k + 1)) = omega arith in
        let e : next ≡ after_automaton t at = automaton_is t at place a n next ep ea en er in
        record {
          places = let p = u.places in rw (add-one k, e) (rw (c, add-one k) at p);
          counts = let p = u.counts in rw (add-one k, e, ep) (rw (c, add-one k) at p);
          ahead = let p = u.ahead in rw (add-one k, e) (rw (c, add-one k) at p);
          few = u.few;
          inside = omega arith;
          long = length-set ss k at ∙ u.long;
          long_too = length-set es k place ∙ u.long_too;
        }

    pub laying_end : count ≤ k → (a v n : ℕ) → n ≡ automata_in t → count ≡ at_most max_automata n → a ≡ actions_in t → v ≡ variables_in t
        → ◌≡◌ {A = Layout} (record { actions = a; variables = v; automata = n; sets = ss; edges = es; tree = at }) (layout_of t)
    unfolding layout_of places_from passed
    laying_end h a v n en ec ea ev =
        let z : count - k ≡ 0 = omega arith in
        let c : count ≡ at_most max_automata (automata_in t) = ec ∙ ap (at_most max_automata) en in
        let ps : ss ≡ in_array t (places_from t count (first_automaton t)) = rw z at u.places in
        let cs : es ≡ in_array t (map (edges_at t) (places_from t count (first_automaton t))) = rw z at u.counts in
        let r : at ≡ passed t (first_automaton t) count = rw z at u.ahead in
        rw (ps, cs, r, c, ea, ev, en)

pub ruleset laying_laws = (laying_begun, laying_turn, laying_end)

-- what stands in the places
places_length : (t : List ℕ) (n at : ℕ) → length (places_from t n at) ≡ n
unfolding places_from
places_length t zero at = refl
places_length t (suc n) at = ap suc (places_length t n (after_automaton t at))

place_in : (t : List ℕ) (f : ℕ → ℕ) (n at k : ℕ) → k < n → get_or (map f (places_from t n at)) k 0 ≡ f (passed t at k)
unfolding places_from passed
place_in t f zero at k h = absurd (omega arith)
place_in t f (suc n) at zero h = refl
place_in t f (suc n) at (suc k) h = place_in t f n (after_automaton t at) k (omega arith)

-- an array that n places begin: the places, and then the table's end
pub array_is : (t ps : List ℕ) → length ps ≤ max_automata → in_array t ps ≡ ps ++ drop (0 + length ps) (replicate max_automata (length t))
unfolding in_array
array_is t ps h = sets-eq ps (replicate max_automata (length t)) 0 (omega (arith, length-replicate {A = ℕ} max_automata (length t)))

in_front_lem : (t ps : List ℕ) (k : ℕ) → length ps ≤ max_automata → k < length ps → get_or (in_array t ps) k 0 ≡ get_or ps k 0
in_front_lem t ps k h l = ap (λ (q : List ℕ). get_or q k 0) (array_is t ps h) ∙ get_or-append ps (drop (0 + length ps) (replicate max_automata (length t))) 0 k l

-- as many places as a sheet can have automata
pub sets_long : (t : List ℕ) → length (layout_of t).sets ≡ max_automata
unfolding layout_of in_array
sets_long t = length-sets (places_from t (at_most max_automata (automata_in t)) (first_automaton t)) 0 (replicate max_automata (length t)) ∙ length-replicate max_automata (length t)
  where
    length-sets : (ps : List ℕ) (k : ℕ) (l : List ℕ) → length (sets l k ps) ≡ length l
    length-sets [] k l = refl
    length-sets (p ∷ ps) k l = length-sets ps (suc k) (set l k p) ∙ length-set l k p

module _ (m : Model) (lawful : Lawful m) (t rest : List ℕ) (e : t ≡ sheet_words m ++ rest) where
  pub all_automata : automata_of (layout_of t) ≡ length m.automata
  unfolding automata_of layout_of
  all_automata = rw (automata_in_lem t rest m e) (sym (at_most_all max_automata (length m.automata) lawful.few_automata))

  pub all_variables : variables_of (layout_of t) ≡ length m.variables
  unfolding variables_of layout_of
  all_variables = rw (variables_in_lem t rest m e) (sym (at_most_all max_variables (length m.variables) lawful.few_variables))

  counted : at_most max_automata (automata_in t) ≡ length m.automata
  counted = rw (automata_in_lem t rest m e) (sym (at_most_all max_automata (length m.automata) lawful.few_automata))

  abbrev places : List ℕ
  places = places_from t (length m.automata) (first_automaton t)

  size : length places ≡ length m.automata
  size = places_length t (length m.automata) (first_automaton t)

  pub edges_place : (k : ℕ) → k < length m.automata → get_or (layout_of t).edges k 0 ≡ edges_at t (automaton_at t k)
  unfolding layout_of automaton_at
  edges_place k h =
      let l : length (map (edges_at t) places) ≡ length m.automata = length-map places (edges_at t) ∙ size in
      rw counted
      (in_front_lem t (map (edges_at t) places) k (omega (arith, lawful.few_automata)) (omega arith) ∙ place_in t (edges_at t) (length m.automata) (first_automaton t) k h)

  pub set_place : (k : ℕ) → k < length m.automata → get_or (layout_of t).sets k 0 ≡ automaton_at t k
  unfolding layout_of automaton_at
  set_place k h =
      rw counted
      (in_front_lem t places k (omega (arith, size, lawful.few_automata)) (omega (arith, size)) ∙ ap (λ (l : List ℕ). get_or l k 0) (sym (map_same places)) ∙ place_in t (λ a. a) (length m.automata) (first_automaton t) k h)
    where
      map_same : (l : List ℕ) → map (λ a. a) l ≡ l
      map_same [] = refl
      map_same (a ∷ l) = ap (λ (r : List ℕ). a ∷ r) (map_same l)

  -- past the automata the places are the table's end
  pub no_place : (k : ℕ) → length m.automata ≤ k → k < max_automata → get_or (layout_of t).sets k 0 ≡ length t
  unfolding layout_of
  no_place k h l =
      rw counted
      (ap (λ (q : List ℕ). get_or q k 0) (array_is t places (omega (arith, size, lawful.few_automata))) ∙ past places k (omega (arith, size)) (omega arith))
    where
      ends : (n i j : ℕ) → j + i < n → get_or (drop j (replicate n (length t))) i 0 ≡ length t
      ends zero i j q = absurd (omega arith)
      ends (suc n) zero zero q = refl
      ends (suc n) (suc i) zero q = ends n i zero (omega arith)
      ends (suc n) i (suc j) q = ends n i j (omega arith)

      past : (ps : List ℕ) (i : ℕ) → length ps ≤ i → i < 16 → get_or (ps ++ drop (0 + length ps) (replicate max_automata (length t))) i 0 ≡ length t
      past ps i a b = go ps i (0 + length ps) a (omega arith)
        where
          go : (qs : List ℕ) (j c : ℕ) → length qs ≤ j → c + (j - length qs) < 16 → get_or (qs ++ drop c (replicate max_automata (length t))) j 0 ≡ length t
          go [] j c u v = ends 16 j c (omega arith)
          go (x ∷ qs) zero c u v = absurd (omega arith)
          go (x ∷ qs) (suc j) c u v = go qs j c (omega arith) (omega arith)

  pub tree_place : (layout_of t).tree ≡ tree_at t
  unfolding layout_of tree_at automaton_at
  tree_place = rw (counted, automata_in_lem t rest m e)

  pub tree_line : drop (layout_of t).tree t ≡ line_words (compose_line m.tree) ++ rest
  tree_line = ap (λ (i : ℕ). drop i t) tree_place ∙ tree_at_lem t rest m e
