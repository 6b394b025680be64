-- On a sheet's words, `gather` gives the search what it is to be given: each automaton's candidates, by their masks.
use mathlib.Core.Path.{◌≡◌, refl, sym, ap, ◌∙◌}
use mathlib.Core.List.{List, [], ◌∷◌, ◌++◌, map, Memᴰ}
use mathlib.Core.Bool.{Bool, true, false}
use Prim.Native.Nat.{ℕ, zero, suc, ◌+◌, ◌-◌, ◌≤◌, ◌<◌}
use native.Mathlib.Omega.{arith}
use native.Mathlib.Nat.{add-zero, add-suc}
use native.Mathlib.Numerals.{add-one}
use lib.ListN.{length, get_or, take, drop, set, length-set, length-append, length-map}
use lib.Seq.{drop-cons, drop_at, take_at, take-add, take-take, take-length, take-append-le, get_or-set_same, get_or-set_other}
use lib.Dec.{eqb, leb}
use borrow.Author.Tests.{leb-true, leb-false}
use Rattle.model.specs.Basic.{keep}
use Rattle.model.specs.Bounds.{max_automata, max_edges}
use Rattle.model.specs.Predicate.{words, node_count}
use Rattle.model.specs.Model.{Edge, Automaton, Model, nobody, automaton, edge_total}
use Rattle.model.specs.Lawful.{Lawful}
use Rattle.model.specs.Moves.{under}
use Rattle.model.specs.Rules.{State}
use Rattle.model.specs.Table.{code, sheet_words}
use Rattle.arithmetic.specs.Values.{Inside}
use Rattle.evaluator.proofs.Items.{item_in}
use Rattle.evaluator.proofs.Meaning.{evaluate_lawful}
use Rattle.evaluator.proofs.FewNodes.{update_nodes}
use Rattle.table_places.specs.Outline.{first_edge, edges_at, automaton_at}
use Rattle.table_places.specs.Layout.{layout_of, automata_of}
use Rattle.table_places.proofs.OutlineLaws.{edge_count, first_edge_lem}
use Rattle.table_places.proofs.Standing.{automaton_stands}
use Rattle.table_places.proofs.LayoutLaws.{all_automata, edges_place}
use Rattle.judge_search.specs.Search.{is_candidate, candidates}
use Rattle.judge_search.specs.Masks.{rest_mask, Offers}
use Rattle.judge_candidates.specs.Walk.{kept, Gathering, gathering, leg_of, automaton_on, automaton_next, automata_from, gather_from, masks_after, first_after}
use Rattle.judge_candidates.proofs.EdgeLaws.{Said, Added, automaton_added}

module _ {A : Type 0} where
  keep_fewer : (f : A → Bool) (l : List A) → length (keep f l) ≤ length l
  unfolding keep
  keep_fewer f [] = omega arith
  keep_fewer f (x ∷ l) = go (f x) (keep_fewer f l)
    where
      go : (b : Bool) → length (keep f l) ≤ length l → length {A = A} (elim b as (λ c. List A) [ true ↦ x ∷ keep f l | false ↦ keep f l ]) ≤ suc (length l)
      go true h = omega arith
      go false h = omega arith

-- a stretch between two beginnings, where both begin the list
between : (l p q : List ℕ) → take (length p) l ≡ p → take (length (p ++ q)) l ≡ p ++ q → take (length (p ++ q) - length p) (drop (length p) l) ≡ q
between l p q e f =
    let n = length (p ++ q) - length p in
    let z = length-append p q in
    let size : length p + n ≡ length (p ++ q) = omega arith in
    let whole : p ++ take n (drop (length p) l) ≡ p ++ q =
    ap (λ (v : List ℕ). v ++ take n (drop (length p) l)) (sym e) ∙ sym (take-add (length p) n l) ∙ ap (λ (i : ℕ). take i l) size ∙ f in
    sym (drop_at p (take n (drop (length p) l)) (length p) refl) ∙ ap (drop (length p)) whole ∙ drop_at p q (length p) refl

module _ (w rest : List ℕ) (m : Model) (ok : Lawful m) (sheet : w ≡ sheet_words m ++ rest) (s : State) (a : ℕ) (t : State)
    (olds : Inside m.variables s.values) (news : Inside m.variables t.values) where
  -- the words of an update of the sheet say what it means
  update_said : (k : ℕ) → k < length m.automata → (e : Edge) → Memᴰ e (automaton m k).edges → Said w m s a t k e
  unfolding node_count
  update_said k h e i =
      let ws = words e.update in
      let there = item_in m.automata k nobody h in
      let lawful = ((ok.automata (automaton m k) there).edges e i).update in
      record {
        means = λ place r d.
            evaluate_lawful m.variables s.values t.values olds news e.update w place
            (rw d (take_at (map code ws) r (length ws) (simp length-map))) lawful
            (update_nodes m ok (automaton m k) there e i);
        ranged = lawful.ranged;
      }

  -- the masks of automaton k, and of all automata before it
  abbrev found : ℕ → List ℕ
  found k = map rest_mask (candidates m s a t k)

  unfoldable founds : ℕ → List ℕ
  founds zero = []
  founds (suc k) = founds k ++ found k

  -- what has been gathered when k automata have been passed
  record Gathered (k : ℕ) (g : Gathering) : Type 0 where
    masks : take g.on.count g.on.masks ≡ founds k
    count : g.on.count ≡ length (founds k)
    room : g.on.count + edge_total (drop k m.automata) ≤ max_edges
    long : max_edges ≤ length g.on.masks
    first : (j : ℕ) → j ≤ k → get_or g.first j 0 ≡ length (founds j)
    first_long : max_automata < length g.first

  abbrev next : ℕ → Gathering → Gathering
  next = automaton_next w s.values t.values (layout_of w).edges s.locations t.locations a

  found_fewer : (k : ℕ) → length (found k) ≤ length (automaton m k).edges
  unfolding candidates under
  found_fewer k =
      let es = (automaton m k).edges in
      let p = keep_fewer (is_candidate m s a t k) (under a es) in
      let q = keep_fewer (λ (e : Edge). eqb e.action a) es in
      let l : length (found k) ≡ length (candidates m s a t k) = simp length-map in
      omega arith

  -- one automaton more
  module _ (k : ℕ) (h : k < length m.automata) (g : Gathering) (is : Gathered k g) where
    abbrev x : Automaton
    x = automaton m k

    total : edge_total (drop k m.automata) ≡ length x.edges + edge_total (drop (suc k) m.automata)
    unfolding edge_total
    total = ap edge_total (drop-cons m.automata k nobody h)

    abbrev place : ℕ
    place = get_or (layout_of w).edges k 0

    stored : Added w m s a t k (found k) g.on (automaton_on w s.values t.values (leg_of s.locations t.locations a k) place g.on)
    unfolding candidates
    stored =
        let here = automaton_stands w rest m k h sheet in
        let p : place ≡ edges_at w (automaton_at w k) = edges_place m ok w rest sheet k h in
        automaton_added w m s a t k _ x place g.on (omega (arith, total, is.room)) is.long (update_said k h)
        (ap (λ i. get_or w i 0) p ∙ edge_count w _ x (automaton_at w k) here)
        (ap (λ i. drop (first_edge w i) w) p ∙ first_edge_lem w _ x (automaton_at w k) here)

    ends : length (founds (suc k)) ≡ length (founds k) + length (found k)
    unfolding founds
    ends = length-append (founds k) (found k)

    gathered_next : Gathered (suc k) (next k g)
    unfolding automaton_next founds
    gathered_next =
        let r = stored in
        let n = r.count ∙ ap (λ (i : ℕ). i + length (found k)) is.count ∙ sym ends in
        let size = length-set g.first (k + 1) (next k g).on.count in
        record {
          masks = r.masks ∙ ap (λ (l : List ℕ). l ++ found k) is.masks;
          count = n;
          room = omega (arith, r.count, found_fewer k, total, is.room);
          long = omega (arith, r.long, is.long);
          first = λ j l. place j l n (leb j k) refl;
          first_long = omega (arith, size, is.first_long);
        }
      where
        place : (j : ℕ) → j ≤ suc k → (next k g).on.count ≡ length (founds (suc k)) → (b : Bool) → leb j k ≡ b → get_or (next k g).first j 0 ≡ length (founds j)
        place j l n true q =
            let u = leb-true j k q in
            get_or-set_other g.first (k + 1) j (next k g).on.count 0 (λ z. absurd (omega arith)) ∙ is.first j u
        place j l n false q =
            let u = leb-false j k q in
            let z : j ≡ suc k = omega arith in
            let v : k + 1 < length g.first = omega (arith, is.first_long, ok.few_automata) in
            rw (z, ← add-one k) (get_or-set_same g.first (k + 1) (next k g).on.count 0 v ∙ n)

  all_gathered : (left k : ℕ) (g : Gathering) → k + left ≡ length m.automata → Gathered k g
      → Gathered (length m.automata) (automata_from w s.values t.values (layout_of w).edges s.locations t.locations a left k g)
  unfolding automata_from
  all_gathered zero k g e is =
      let z : k ≡ length m.automata = omega arith in
      rw (← z) is
  all_gathered (suc n) k g e is = rw (add-one k) (all_gathered n (suc k) (next k g) (omega arith) (gathered_next k (omega arith) g is))

  -- the earlier masks begin all
  founds_rise : (j d : ℕ) → length (founds j) ≤ length (founds (j + d))
  unfolding founds
  founds_rise j zero = rw (add-zero j) (omega arith)
  founds_rise j (suc d) = rw (add-suc j d) (omega (arith, founds_rise j d, length-append (founds (j + d)) (found (j + d))))

  founds_begin : (j d : ℕ) → take (length (founds j)) (founds (j + d)) ≡ founds j
  unfolding founds
  founds_begin j zero = rw (add-zero j) (take-length (founds j))
  founds_begin j (suc d) =
      rw (add-suc j d) (take-append-le (length (founds j)) (founds (j + d)) (found (j + d)) (founds_rise j d) ∙ founds_begin j d)

  module _ (g : Gathering) (all : Gathered (length m.automata) g) where
    begins : (j : ℕ) → j ≤ length m.automata → take (length (founds j)) g.on.masks ≡ founds j
    begins j h =
        let d = length m.automata - j in
        let e : j + d ≡ length m.automata = omega arith in
        let up : length (founds j) ≤ length (founds (length m.automata)) = rw (← e) (founds_rise j d) in
        sym (take-take (length (founds j)) g.on.count g.on.masks (omega (arith, all.count))) ∙
        ap (take (length (founds j))) all.masks ∙ rw (← e) (founds_begin j d)

    gathered_offers : Offers m s a t g.on.masks g.first
    unfolding founds
    gathered_offers =
        record {
          rising = λ k h. rw (all.first k (omega arith), all.first (suc k) h) (omega (arith, length-append (founds k) (found k)));
          inside = rw (all.first (length m.automata) (omega arith)) (omega (arith, all.count, all.room, all.long));
          offered = λ k h.
              rw (all.first k (omega arith), all.first (suc k) h)
              (between g.on.masks (founds k) (found k) (begins k (omega arith)) (begins (suc k) h));
        }

  module _ (masks first : List ℕ) (long : max_edges ≤ length masks) (first_long : max_automata < length first) where
    abbrev start : Gathering
    start = gathering (kept masks 0) (set first 0 0)

    gathered_start : Gathered 0 start
    unfolding founds
    gathered_start =
        record {
          masks = refl;
          count = refl;
          room = omega (arith, ok.few_edges);
          long = long;
          first = λ j l. let z : j ≡ 0 = omega arith in rw z (get_or-set_same first 0 0 0 (omega arith));
          first_long = omega (arith, length-set first 0 0);
        }

    all_of : Gathered (length m.automata) (gather_from w s.values t.values (layout_of w).edges s.locations t.locations a (automata_of (layout_of w)) masks (set first 0 0))
    unfolding gather_from
    all_of =
        rw (all_automata m ok w rest sheet) (all_gathered (length m.automata) 0 start (omega arith) gathered_start)

    pub gather_offers : Offers m s a t
        (masks_after w s.values t.values (layout_of w) s.locations t.locations a masks first)
        (first_after w s.values t.values (layout_of w) s.locations t.locations a masks first)
    unfolding masks_after first_after
    gather_offers = gathered_offers (gather_from w s.values t.values (layout_of w).edges s.locations t.locations a (automata_of (layout_of w)) masks (set first 0 0)) all_of
