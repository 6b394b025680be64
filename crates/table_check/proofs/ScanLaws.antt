-- The scan over a table's lines is exact, over whatever reads one line exactly.
use Prim.Native.Nat.{ℕ, zero, suc, ◌+◌, ◌-◌, ◌*◌, ◌≤◌, ◌<◌}
use mathlib.Core.Path.{◌≡◌, refl, sym, ◌∙◌, ap, subst}
use mathlib.Core.Bool.{Bool, true, false, true≢false}
use mathlib.Core.List.Memᴰ
use mathlib.Core.List.{List, [], ◌∷◌, ◌++◌, append_assoc, append-nil, flat_map, Memᴰ}
use mathlib.Core.Logic.{◌↔◌, ◌⊎◌, inl, inr}
use mathlib.Core.Option.{Option, none, some}
use native.Mathlib.Omega.{arith}
use borrow.Author.Tests.{ltb-false}
use lib.ListN.{length, take, drop, replicate, length-append, length-drop}
use lib.Seq.{length-take-le, take-add, drop-drop, drop-append_seam}
use lib.Dec.{eqb}
use Rattle.model.specs.Basic.{every, lacks}
use Rattle.model.specs.Bounds.{max_nodes, table_words}
use Rattle.model.specs.Predicate.{Pred, Range, words, node_count}
use Rattle.model.specs.Model.{Model}
use Rattle.model.specs.Lines.{Key as LineKey, Entry, format_line, actions_line, variables_line, variable_line, variable_lines, automata_line, sync_line, locations_line, init_line, inv_line, edges_line, edge_line, compose_line, key_of, lines, due_at_first, then_due, Reading, at_first, with_model, with_automata, with_pred, with_nodes, noted}
use Rattle.model.specs.Limits.{passes_nodes, variable_count, pred_fault, location_fault, content_fault, fault_of, within_limits, limits}
use Rattle.model.specs.Lawful.{LawfulRange}
use Rattle.model.specs.Table.{line_words, sheet_words, table_of, row19}
use Rattle.model.proofs.Tests.{and_intro, and_left, and_right, eq_of, of_eq}
use Rattle.model.proofs.Parsing.{none_some, got}
use Rattle.model.proofs.LimitLines.{variable_line_lem, starts_clear}
use Rattle.model.proofs.LimitsLaws.{lawful_is}
use Rattle.model.proofs.LinesLaws.{Follows, follow_lines}
use Rattle.model.proofs.LinesBack.{lines_follow}
use Rattle.model.proofs.Decode.{unbroken}
use Rattle.model.proofs.Sizes.{lines_few}
use Rattle.model.proofs.Decode.{none_lacks}
use Rattle.model.proofs.TableLaws.{table_given}
use Rattle.line_order.specs.declared.Key.{Key}
use Rattle.line_order.specs.declared.Key.TheVariants.{Format, Actions, Variables, Variable, Automata, Sync, Locations, Init, Inv, Edges, Edge, Compose, End}
use Rattle.line_order.specs.declared.Due.{Due}
use Rattle.line_order.specs.declared.Counts.{Counts}
use Rattle.line_order.specs.Due.{is_end, if_none, due_variables, due_automata, due_locations, due_edges, due_after_key, due_after, keys_due, later_due, code_of, number_of, Begun}
use Rattle.line_order.specs.Counts.{most_count, nodes_of, Counted, Paced}
use Rattle.line_order.proofs.KeyLaws.{named, no_end}
use Rattle.line_order.proofs.DueLaws.{due_first_lem, format_first, format_after, due_key, due_line, due_end, end_due, due_after_lem}
use Rattle.line_order.proofs.CountsLaws.{paced_first, paced_after, paced_room, counted_first, counted_after, begun_first, begun_at, begun_after}
use Rattle.table_line.specs.declared.Line.{Line}
use Rattle.std.specs.Prelude.{Option as Choice, Some, None}
use Rattle.table_line.specs.Line.{a_line}
use Rattle.table_check.specs.declared.Scan.{Scan}
use Rattle.table_line.specs.Exact.{Declared, LineAt, LineExact}
use Rattle.table_check.specs.Scan.{scan_first, scan_after, zeros_from, scanned, scanned_sheet}

-- words of which each is 0 are so many zeros
zeros_are : (l : List ℕ) → every (λ w. eqb w 0) l ≡ true → l ≡ replicate (length l) 0
unfolding every
zeros_are [] h = refl
zeros_are (w ∷ l) h =
    ap (λ (x : ℕ). x ∷ l) (eq_of w 0 (and_left (eqb w 0) (every (λ x. eqb x 0) l) h)) ∙
    ap (λ (k : List ℕ). 0 ∷ k) (zeros_are l (and_right (eqb w 0) (every (λ x. eqb x 0) l) h))

are_zeros : (n : ℕ) → every (λ w. eqb w 0) (replicate n 0) ≡ true
unfolding every
are_zeros zero = refl
are_zeros (suc n) = are_zeros n

-- a round of the scan: at the end, after a sound line, after a bad one
module _ (line : ℕ → Key → Counts → Choice Line) (fuel : ℕ) (s : Scan) where
  pub scanned_end : is_end s.due.key ≡ true → scanned line (suc fuel) s ≡ some s.at
  unfolding scanned
  scanned_end h = rw (h, scanned)

  pub scanned_sound : (number nodes next : ℕ) → is_end s.due.key ≡ false → line s.at s.due.key s.counts ≡ a_line number nodes next → scanned line (suc fuel) s ≡ scanned line fuel (scan_after s number nodes next)
  unfolding scanned
  scanned_sound number nodes next h e = rw (h, e, scanned)

  pub scanned_bad : is_end s.due.key ≡ false → line s.at s.due.key s.counts ≡ None → scanned line (suc fuel) s ≡ none
  unfolding scanned
  scanned_bad h e = rw (h, e, scanned)

-- where the line that is due begins, if no automaton has been counted yet; `count` variables have been read
abbrev pub Placed : Key → (at count : ℕ) → Type 0
Placed Format at count = (at ≡ 0) × (count ≡ 0)
Placed Actions at count = (at ≡ 1) × (count ≡ 0)
Placed Variables at count = (at ≡ 2) × (count ≡ 0)
Placed Variable at count = at ≡ 3 + 3 * count
Placed Automata at count = Unit {0}
Placed Sync at count = Unit {0}
Placed Locations at count = Unit {0}
Placed Init at count = Unit {0}
Placed Inv at count = Unit {0}
Placed Edges at count = Unit {0}
Placed Edge at count = Unit {0}
Placed Compose at count = Unit {0}
Placed End at count = Unit {0}

placed_either : (n : ℕ) (d f : Due) (at count : ℕ) → Placed d.key at count → Placed f.key at count → Placed (if_none n d f).key at count
unfolding if_none
placed_either zero d f at count p q = p
placed_either (suc n) d f at count p q = q

placed_after : (e : Entry) (d : Due) (r : Reading) (at : ℕ) → Placed (code_of (key_of e)) at (variable_count r) → Placed (due_after_key (code_of (key_of e)) d (number_of e)).key (at + length (line_words e)) (variable_count (noted r e))
unfolding due_after_key due_variables due_automata due_locations due_edges code_of key_of number_of line_words noted with_model variable_count
placed_after (format_line n) d r at h = omega arith
placed_after (actions_line n) d r at h = omega arith
placed_after (variables_line n) d r at h = placed_either n _ _ _ _ tt (omega arith)
placed_after (variable_line x o) d r at h = placed_either (d.variables - 1) _ _ _ _ tt (omega (arith, length-append r.model.variables (x ∷ [])))
placed_after (automata_line n) d r at h = placed_either n _ _ _ _ tt tt
placed_after (sync_line list) d r at h = tt
placed_after (locations_line n) d r at h = placed_either n _ _ _ _ tt tt
placed_after (init_line p) d r at h = tt
placed_after (inv_line p) d r at h = placed_either (d.locations - 1) _ _ _ _ tt tt
placed_after (edges_line n) d r at h = placed_either n _ _ _ _ (placed_either (d.automata - 1) _ _ _ _ tt tt) tt
placed_after (edge_line e) d r at h = placed_either (d.edges - 1) _ _ _ _ (placed_either (d.automata - 1) _ _ _ _ tt tt) tt
placed_after (compose_line c) d r at h = tt

-- a line that breaks no row keeps the nodes few (row 11)
pred_nodes : (r : Reading) (p : Pred) (rest : Option ℕ) → pred_fault r p rest ≡ none → r.nodes + node_count p ≤ max_nodes
unfolding pred_fault passes_nodes node_count
pred_nodes r p rest h = ltb-false max_nodes (r.nodes + length (words p)) (unbroken 11 _ _ (unbroken 10 _ _ (unbroken 9 _ _ h).1).1).0

few_nodes : (r : Reading) (e : Entry) → r.nodes ≤ max_nodes → fault_of r e ≡ none → r.nodes + nodes_of e ≤ max_nodes
unfolding nodes_of fault_of content_fault location_fault lacks
few_nodes r (format_line n) l f = omega arith
few_nodes r (actions_line n) l f = omega arith
few_nodes r (variables_line n) l f = omega arith
few_nodes r (variable_line x o) l f = omega arith
few_nodes r (automata_line n) l f = omega arith
few_nodes r (sync_line list) l f = omega arith
few_nodes r (locations_line n) l f = omega arith
few_nodes r (init_line p) l f = pred_nodes r p none (unbroken 8 _ _ (unbroken 7 _ _ (unbroken 3 _ _ f).1).1).1
few_nodes r (inv_line p) l f = pred_nodes r p none (unbroken 8 _ _ (unbroken 7 _ _ (unbroken 3 _ _ f).1).1).1
few_nodes r (edges_line n) l f = omega arith
few_nodes r (edge_line e) l f = pred_nodes r e.update _ (unbroken 7 _ _ (unbroken 3 _ _ f).1).1
few_nodes r (compose_line c) l f = ((starts_clear r c _).0 (ap lacks (unbroken 5 _ _ (unbroken 3 _ _ f).1).1)).4

-- what a line adds to them
noted_nodes : (r : Reading) (e : Entry) → (noted r e).nodes ≡ r.nodes + nodes_of e
unfolding nodes_of noted with_model with_automata with_pred with_nodes
noted_nodes r (format_line n) = omega arith
noted_nodes r (actions_line n) = omega arith
noted_nodes r (variables_line n) = omega arith
noted_nodes r (variable_line x o) = omega arith
noted_nodes r (automata_line n) = omega arith
noted_nodes r (sync_line list) = omega arith
noted_nodes r (locations_line n) = omega arith
noted_nodes r (init_line p) = omega arith
noted_nodes r (inv_line p) = omega arith
noted_nodes r (edges_line n) = omega arith
noted_nodes r (edge_line e) = omega arith
noted_nodes r (compose_line c) = omega arith

-- one variable more
variables_last : (vs : List Range) (os : List (Option ℕ)) (x : Range) (o : Option ℕ) → length os ≡ length vs → variable_lines (vs ++ x ∷ []) (os ++ o ∷ []) ≡ variable_lines vs os ++ variable_line x o ∷ []
unfolding variable_lines
variables_last [] [] x o n = refl
variables_last [] (p ∷ os) x o n = absurd (omega arith)
variables_last (v ∷ vs) [] x o n = absurd (omega arith)
variables_last (v ∷ vs) (p ∷ os) x o n = ap (λ (l : List Entry). variable_line v p ∷ l) (variables_last vs os x o (omega arith))

flat_last : {A B : Type 0} (f : A → List B) (l : List A) (x : A) → flat_map f (l ++ x ∷ []) ≡ flat_map f l ++ f x
unfolding flat_map
flat_last f [] x = append-nil (f x)
flat_last f (y ∷ l) x = ap (λ (k : List _). f y ++ k) (flat_last f l x) ∙ sym (append_assoc (f y) (flat_map f l) (f x))

-- What going on asks of a line: that its range is lawful, if it has one, and that its nodes do not make too many. A line
-- that breaks no row meets it.
abbrev Ranging : Entry → Type 0
Ranging (format_line n) = Unit {0}
Ranging (actions_line n) = Unit {0}
Ranging (variables_line n) = Unit {0}
Ranging (variable_line x o) = LawfulRange x
Ranging (automata_line n) = Unit {0}
Ranging (sync_line list) = Unit {0}
Ranging (locations_line n) = Unit {0}
Ranging (init_line p) = Unit {0}
Ranging (inv_line p) = Unit {0}
Ranging (edges_line n) = Unit {0}
Ranging (edge_line e) = Unit {0}
Ranging (compose_line c) = Unit {0}

pub record Fair (r : Reading) (e : Entry) : Type 0 where
  pub ranging : Ranging e
  pub few : r.nodes + nodes_of e ≤ max_nodes

ranging_of : (r : Reading) (e : Entry) → fault_of r e ≡ none → Ranging e
unfolding lacks
ranging_of r (format_line n) f = tt
ranging_of r (actions_line n) f = tt
ranging_of r (variables_line n) f = tt
ranging_of r (variable_line x o) f = ((variable_line_lem r x o).0 (ap lacks f)).0
ranging_of r (automata_line n) f = tt
ranging_of r (sync_line list) f = tt
ranging_of r (locations_line n) f = tt
ranging_of r (init_line p) f = tt
ranging_of r (inv_line p) f = tt
ranging_of r (edges_line n) f = tt
ranging_of r (edge_line e) f = tt
ranging_of r (compose_line c) f = tt

pub fair : (r : Reading) (e : Entry) → r.nodes ≤ max_nodes → fault_of r e ≡ none → Fair r e
fair r e l f = record { ranging = ranging_of r e f; few = few_nodes r e l f }

-- After a line, the variables read so far stand in the table: one more at a variable's line, which stands just behind the others.
module _ (t : List ℕ) where
  pub declared_more : (r : Reading) (x : Range) (o : Option ℕ) (at : ℕ) (rest : List ℕ) → at ≡ 3 + 3 * variable_count r → drop at t ≡ line_words (variable_line x o) ++ rest → LawfulRange x → Declared t r → Declared t (noted r (variable_line x o))
  unfolding noted with_model variable_count line_words
  declared_more r x o at rest p w l h =
      record {
        lawful = λ y m. either y (Memᴰ.append_cases vs m);
        owners_are = omega (arith, h.owners_are, length-append vs (x ∷ []), length-append os (o ∷ []));
        words = rw (longer, take-add n 3 (drop 3 t), h.words, three, variables_last vs os x o h.owners_are, flat_last line_words (variable_lines vs os) (variable_line x o));
      }
    where
      vs : List Range
      vs = r.model.variables

      os : List (Option ℕ)
      os = r.model.owners

      n : ℕ
      n = 3 * length vs

      either : (y : Range) → Memᴰ y vs ⊎ Memᴰ y (x ∷ []) → LawfulRange y
      either y (inl m) = h.lawful y m
      either y (inr m) = rw (Memᴰ.eq_of_singleton m) l

      longer : 3 * length (vs ++ x ∷ []) ≡ n + 3
      longer = omega (arith, length-append vs (x ∷ []))

      three : take 3 (drop n (drop 3 t)) ≡ line_words (variable_line x o)
      three = unfold line_words in rw (drop-drop n 3 t, ← p, w)

  declared_after : (r : Reading) (e : Entry) (at : ℕ) (rest : List ℕ) → Placed (code_of (key_of e)) at (variable_count r) → Ranging e → drop at t ≡ line_words e ++ rest → Declared t r → Declared t (noted r e)
  unfolding noted with_model with_automata with_pred with_nodes variable_count key_of code_of
  declared_after r (format_line n) at rest p f w h = record { lawful = h.lawful; owners_are = h.owners_are; words = h.words }
  declared_after r (actions_line n) at rest p f w h = record { lawful = h.lawful; owners_are = h.owners_are; words = h.words }
  declared_after r (variables_line n) at rest p f w h = h
  declared_after r (variable_line x o) at rest p f w h = declared_more r x o at rest p w f h
  declared_after r (automata_line n) at rest p f w h = h
  declared_after r (sync_line list) at rest p f w h = record { lawful = h.lawful; owners_are = h.owners_are; words = h.words }
  declared_after r (locations_line n) at rest p f w h = h
  declared_after r (init_line q) at rest p f w h = record { lawful = h.lawful; owners_are = h.owners_are; words = h.words }
  declared_after r (inv_line q) at rest p f w h = record { lawful = h.lawful; owners_are = h.owners_are; words = h.words }
  declared_after r (edges_line n) at rest p f w h = h
  declared_after r (edge_line e) at rest p f w h = record { lawful = h.lawful; owners_are = h.owners_are; words = h.words }
  declared_after r (compose_line c) at rest p f w h = record { lawful = h.lawful; owners_are = h.owners_are; words = h.words }

-- What holds before each round: n lines have been read, which said r, and the scan s has kept account of them.
pub record Going (t : List ℕ) (n : ℕ) (s : Scan) (r : Reading) : Type 0 where
  pub counted : Counted r s.counts
  pub paced : Paced n s.counts
  pub begun : Begun s.due r
  pub format : s.due.format ≡ r.model.format
  pub few : r.nodes ≤ max_nodes
  pub declared : Declared t r
  pub placed : Placed s.due.key s.at (variable_count r)
  pub inside : s.at ≤ length t

pub going_first : (t : List ℕ) → Going t 0 scan_first at_first
unfolding scan_first at_first variable_count flat_map variable_lines
going_first t =
    record {
      counted = counted_first;
      paced = paced_first;
      begun = begun_first;
      format = format_first;
      few = omega arith;
      declared = record { lawful = λ x m. absurd (Memᴰ.not-nil m); owners_are = refl; words = refl };
      placed = (refl, refl);
      inside = omega arith;
    }

pub going_after : (t : List ℕ) (n : ℕ) (s : Scan) (r : Reading) (e : Entry) (ks : List LineKey) (rest : List ℕ) → n < most_count → keys_due s.due ≡ key_of e ∷ ks → Fair r e → drop s.at t ≡ line_words e ++ rest → Going t n s r → Going t (n + 1) (scan_after s (number_of e) (nodes_of e) (s.at + length (line_words e))) (noted r e)
unfolding scan_after due_after
going_after t n s r e ks rest l q f w g =
    let key = due_key s.due (key_of e) ks q in
    let room = paced_room n s.counts (nodes_of e) l (omega (arith, f.few, g.counted.nodes)) g.paced in
    record {
      counted = rw key (counted_after r s.counts e g.counted room (begun_at s.due r e ks q g.begun));
      paced = paced_after n s.counts s.due.key (number_of e) (nodes_of e) g.paced;
      begun = begun_after s.due r e ks q g.begun;
      format = format_after s.due r g.format e ks q;
      few = omega (arith, f.few, noted_nodes r e);
      declared = declared_after t r e s.at rest (rw key at g.placed) f.ranging w g.declared;
      placed = subst (λ (k : Key). Placed (due_after_key k s.due (number_of e)).key (s.at + length (line_words e)) (variable_count (noted r e))) (sym key) (placed_after e s.due r s.at (rw key at g.placed));
      inside = omega (arith, g.inside, ap (length {A = ℕ}) w, length-drop s.at t, length-append (line_words e) rest);
    }

-- the words of t from `from` up to `to` are those of entries that follow what is due and break no row
record Found (t : List ℕ) (r : Reading) (ks : List LineKey) (from to : ℕ) : Type 0 where
  entries : List Entry
  model : Model
  follows : Follows entries r ks model
  within : within_limits r entries ≡ true
  words : drop from t ≡ flat_map line_words entries ++ drop to t

found_end : (t : List ℕ) (r : Reading) (from to : ℕ) → from ≡ to → Found t r [] from to
unfolding within_limits flat_map
found_end t r from to e = record { entries = []; model = r.model; follows = refl; within = refl; words = ap (λ (i : ℕ). drop i t) e }

found_line : (t : List ℕ) (r : Reading) (k : LineKey) (ks : List LineKey) (at number nodes next to : ℕ) (a : LineAt t r k at number nodes next) → Found t (noted r a.entry) (then_due r.model.format a.entry ++ ks) next to → Found t r (k ∷ ks) at to
unfolding within_limits flat_map lacks
found_line t r k ks at number nodes next to a f =
    record {
      entries = a.entry ∷ f.entries;
      model = f.model;
      follows = (a.keyed, f.follows);
      within = and_intro (ap lacks a.unbroken) f.within;
      words = a.words ∙ ap (λ (l : List ℕ). line_words a.entry ++ l) f.words ∙ sym (append_assoc (line_words a.entry) (flat_map line_words f.entries) (drop to t));
    }

module _ (t : List ℕ) (line : ℕ → Key → Counts → Choice Line) (exact : LineExact t line) where
  -- what the scan passes is there
  scan_sound : (fuel n : ℕ) (s : Scan) (r : Reading) (to : ℕ) → n + fuel ≤ most_count → Going t n s r → scanned line fuel s ≡ some to → Found t r (keys_due s.due) s.at to
  unfolding is_end scan_after
  scan_sound zero n s r to l g h = absurd (none_some to (unfold scanned in h))
  scan_sound (suc fuel) n s r to l g h = by_key (λ s' r' g' h'. scan_sound fuel (n + 1) s' r' to (omega arith) g' h') (named s.due.key)
    where
      Onward : Type 0
      Onward = (s' : Scan) (r' : Reading) → Going t (n + 1) s' r' → scanned line fuel s' ≡ some to → Found t r' (keys_due s'.due) s'.at to

      by_line : (k : LineKey) → s.due.key ≡ code_of k → Onward → (answer : Choice Line) → line s.at s.due.key s.counts ≡ answer → Found t r (keys_due s.due) s.at to
      by_line k key on None e = absurd (none_some to (sym (scanned_bad line fuel s (ap is_end key ∙ no_end k) e) ∙ h))
      by_line k key on (Some read) e =
          let number = read.number in
          let nodes = read.nodes in
          let next = read.next in
          let a = exact.sound r s.counts s.at k number nodes next g.counted g.declared g.inside (rw key at e) in
          let x = a.entry in
          let d = s.due in
          let q = due_line d (key_of x) (key ∙ ap code_of (sym a.keyed)) in
          let s' = scan_after s (number_of x) (nodes_of x) (s.at + length (line_words x)) in
          let same : scan_after s number nodes next ≡ s' = rw (a.numbered, a.counted, ← a.ends) in
          let g' = going_after t n s r x (later_due d) (drop next t) (omega arith) q (fair r x g.few a.unbroken) a.words g in
          let h' = ap (scanned line fuel) (sym same) ∙ sym (scanned_sound line fuel s number nodes next (ap is_end key ∙ no_end k) e) ∙ h in
          let f : Found t (noted r x) (keys_due (due_after d (number_of x))) (s.at + length (line_words x)) to = on s' (noted r x) g' h' in
          rw (due_line d k key) (found_line t r k (later_due d) s.at number nodes next to a (rw (due_after_lem d r g.format x (later_due d) q, ← a.ends) at f))

      by_key : Onward → (s.due.key ≡ End) ⊎ ((k : LineKey) × (s.due.key ≡ code_of k)) → Found t r (keys_due s.due) s.at to
      by_key on (inl e) = rw (end_due s.due e) (found_end t r s.at to (got s.at to (sym (scanned_end line fuel s (ap is_end e)) ∙ h)))
      by_key on (inr k) = by_line k.0 k.1 on (line s.at s.due.key s.counts) refl

  -- what is there the scan passes
  scan_complete : (es : List Entry) (ks : List LineKey) (fuel n : ℕ) (s : Scan) (r : Reading) (m : Model) (rest : List ℕ) → n + fuel ≤ most_count → Going t n s r → keys_due s.due ≡ ks → Follows es r ks m → within_limits r es ≡ true → drop s.at t ≡ flat_map line_words es ++ rest → length es < fuel → (to : ℕ) × (scanned line fuel s ≡ some to) × (drop to t ≡ rest)
  unfolding is_end within_limits flat_map scan_after
  scan_complete [] [] zero n s r m rest l g q f b w i = absurd (omega arith)
  scan_complete [] [] (suc fuel) n s r m rest l g q f b w i = (s.at, scanned_end line fuel s (ap is_end (due_end s.due q)), w)
  scan_complete [] (k ∷ ks) fuel n s r m rest l g q f b w i = absurd f
  scan_complete (e ∷ es) [] fuel n s r m rest l g q f b w i = absurd f
  scan_complete (e ∷ es) (k ∷ ks) zero n s r m rest l g q f b w i = absurd (omega arith)
  scan_complete (e ∷ es) (k ∷ ks) (suc fuel) n s r m rest l g q f b w i =
      let at = s.at in
      let more = flat_map line_words es ++ rest in
      let size = length (line_words e) in
      let q' : keys_due s.due ≡ key_of e ∷ ks = rw f.0 q in
      let key = due_key s.due (key_of e) ks q' in
      let ok = none_lacks (fault_of r e) (and_left (lacks (fault_of r e)) (within_limits (noted r e) es) b) in
      let w' = w ∙ append_assoc (line_words e) (flat_map line_words es) rest in
      let sound = exact.complete r s.counts e at more g.counted g.declared ok w' in
      let step = scanned_sound line fuel s (number_of e) (nodes_of e) (at + size) (ap is_end key ∙ no_end (key_of e)) (ap (λ (j : Key). line at j s.counts) key ∙ sound) in
      let v = sym (drop-drop size at t) ∙ ap (λ (x : List ℕ). drop size x) w' ∙ drop-append_seam (line_words e) more in
      let onward = scan_complete es (then_due r.model.format e ++ ks) fuel (n + 1) (scan_after s (number_of e) (nodes_of e) (at + size)) (noted r e) m rest (omega arith) (going_after t n s r e ks more (omega arith) q' (fair r e g.few ok) w' g) (due_after_lem s.due r g.format e ks q') f.1 (and_right (lacks (fault_of r e)) (within_limits (noted r e) es) b) v (omega arith) in
      (onward.0, step ∙ onward.1, onward.2)

  -- the answer, by what the rounds come to
  scanned_gives : (o : Option ℕ) → scanned line (table_words + 1) scan_first ≡ o → scanned_sheet line t ≡ elim o [ none ↦ false | some at ↦ zeros_from t at ]
  unfolding scanned_sheet
  scanned_gives o e = ap {B = Bool} (λ p. elim p [ none ↦ false | some at ↦ zeros_from t at ]) e

  -- the scan passes a table of 16,384 words exactly if it is some model's
  pub scan_exact : length t ≡ table_words → (scanned_sheet line t ≡ true) ↔ ((m : Model) × (limits m ≡ true) × (t ≡ table_of m))
  unfolding scan_first zeros_from limits table_of sheet_words
  scan_exact whole = (from_scan (scanned line (table_words + 1) scan_first) refl, to_scan)
    where
      from_scan : (o : Option ℕ) → scanned line (table_words + 1) scan_first ≡ o → scanned_sheet line t ≡ true → (m : Model) × (limits m ≡ true) × (t ≡ table_of m)
      from_scan none e h = absurd (true≢false (sym h ∙ scanned_gives none e))
      from_scan (some at) e h =
          let f : Found t at_first due_at_first 0 at = rw due_first_lem at (scan_sound (table_words + 1) 0 scan_first at_first at (omega arith) (going_first t) e) in
          let m = f.model in
          let followed = lines_follow f.entries m f.follows in
          let same = followed.0 in
          let cut : t ≡ sheet_words m ++ drop at t = rw (← same) f.words in
          let zeros = zeros_are (drop at t) (sym (scanned_gives (some at) e) ∙ h) in
          let count : length (drop at t) ≡ table_words - length (sheet_words m) = omega (arith, ap (length {A = ℕ}) cut, length-append (sheet_words m) (drop at t)) in
          (m, and_intro (of_eq _ _ followed.1) (rw (← same) f.within), cut ∙ ap (λ (l : List ℕ). sheet_words m ++ l) (zeros ∙ ap (λ (n : ℕ). replicate n 0) count))

      to_scan : (m : Model) × (limits m ≡ true) × (t ≡ table_of m) → scanned_sheet line t ≡ true
      to_scan h =
          let m = h.0 in
          let zeros = table_words - length (sheet_words m) in
          let lawful = (lawful_is m).0 h.1 in
          let few = lines_few m lawful in
          let c = scan_complete (lines m) due_at_first (table_words + 1) 0 scan_first at_first m (replicate zeros 0) (omega arith) (going_first t) due_first_lem (follow_lines m lawful.owners_are) (and_right (eqb (length m.owners) (length m.variables)) _ h.1) h.2 (omega arith) in
          scanned_gives (some c.0) c.1 ∙ ap (every (λ w. eqb w 0)) c.2 ∙ are_zeros zeros

-- and so it passes the first 16,384 words of a table exactly if row 19 does not refuse the table
pub check_exact_by : (u : List ℕ) (line : ℕ → Key → Counts → Choice Line) → table_words ≤ length u → LineExact (take table_words u) line → (scanned_sheet line (take table_words u) ≡ true) ↔ (row19 u ≡ false)
check_exact_by u line l exact =
    let e = scan_exact (take table_words u) line exact (length-take-le table_words u l) in
    let g = table_given u in
    (λ h. g.1 (e.0 h), λ h. e.1 (g.0 h))
