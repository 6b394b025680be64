-- Definition 4: the merged automaton of a lawful model is its linearization, and the merger gives its text or the first row that
-- refuses.
use mathlib.Core.Path.{◌≡◌, refl, sym, ap, ap₂, ◌∙◌, subst}
use mathlib.Core.Bool.{Bool, true, false, not, ◌&&◌, true≢false}
use mathlib.Core.List.Memᴰ
use mathlib.Core.List.{List, [], ◌∷◌, ◌++◌, map, flat_map, Memᴰ}
use mathlib.Core.Option.{Option, none, some}
use mathlib.Core.Logic.{◌↔◌, ◌⊎◌, inl, inr, ◌≢◌}
use Prim.Native.Nat.{ℕ, zero, suc, pred, ◌+◌, ◌≤◌, ◌<◌}
use native.Mathlib.Omega.{arith}
use borrow.Author.Tests.{leb-true, ltb-false, le-ltb}
use lib.IntN.{pos}
use lib.ListN.{length, length-map}
use lib.Dec.{eqb, leb, ltb}
use Rattle.model.specs.Basic.{keep, once, member, exists, lacks, count_up}
use Rattle.model.specs.Bounds.{table_words}
use Rattle.model.specs.Predicate.{Pred, all, imp, eq, num, old, preds, range}
use Rattle.model.specs.Composition.{Tree, par, syn, ini, leaf, starts}
use Rattle.model.specs.Model.{Model, Location, Edge, Automaton, in_set}
use Rattle.model.specs.Limits.{rises, tree_rises, broken, limits}
use Rattle.model.specs.Lawful.{Lawful}
use Rattle.model.specs.Table.{model_of, row18, row19, unopened, opened, open_table}
use Rattle.model.specs.Moves.{moves}
use Rattle.model.specs.Linear.{pointer_range, merged_owner, pointer, at_locations, at_automata, merged_init, merged_inv, merged_edge, edges_with_repeats, merged_edges, merged_count, linear, row31, row32, row33, row34, merge_fault}
use Rattle.model.proofs.Tests.{and_left, and_right, or_cases, lt_of, eq_of, eq_self, of_eq, exists_intro}
use Rattle.model.proofs.Lists.{keep_in, keep_out}
use Rattle.model.proofs.Bits.{rises_cons}
use Rattle.model.proofs.Parsing.{none_some, got}
use Rattle.model.proofs.TableLaws.{model_given, opened_model}
use Rattle.model.proofs.LimitsLaws.{lawful_is}
use Rattle.model.proofs.Numbered.{Numbered, numbered, size_is}
use Rattle.model.proofs.Merged.{automaton_at_lem}
use Rattle.model.proofs.Owners.{member_in, variable_owner, pointer_owner_lem, owners_length, pointer_owned, pointer_unowned}
use Rattle.model.specs.Equal.{same_edge}
use Rattle.model.proofs.Once.{once_out, once_in, once_first}
use Rattle.model.proofs.EqualLaws.{same_edge_is}
use Rattle.model.proofs.Distinct.{count_is}
use Rattle.model.proofs.LinearLimits.{linear_limited, keep_rises}
use Rattle.format.specs.Bytes.{Bytes}
use Rattle.format.specs.Spelling.{text_of}
use Rattle.format.specs.Reader.{accepted, read_answer}
use Rattle.format.specs.Writer.{row35}
use Rattle.format.specs.Merger.{unmerged, merged, merge_model, merge_answer}
use Rattle.format.proofs.Given.{reader_exact}
use Rattle.format.proofs.TextRuns.{no_merge}
use Rattle.theorem_definition4.specs.Table3.{Position, Transition, rule_17, rule_18_left, rule_18_right, rule_19, rule_21, transition_ini}
use Rattle.theorem_definition4.specs.Definition4.{pointer_to, choices, clauses, edge_for, Fresh, Owned, NoneTwice, none_twice, not_again, IsLinearization, breaks, first_row}
use Rattle.theorem_definition4.proofs.Positions.{positions, positions_length, edge_is}
use Rattle.theorem_definition4.proofs.Table3Is.{wilds_to, conditions_are, set_of, syncs_to, syncs_are, labels_own, transitions_are, values_of, leads_are}

-- init and inv: the clauses of the automata's functions
module _ (m : Model) (part : Location → Pred) where
  choices_are : (i j : ℕ) (ls : List Location) → choices (length m.variables + i) j (map part ls) ≡ at_locations m part i j ls
  unfolding choices at_locations pointer
  choices_are i j [] = refl
  choices_are i j (l ∷ ls) = ap (λ ps. imp (eq (old (length m.variables + i)) (num (pos j))) (part l) ∷ ps) (choices_are i (suc j) ls)

  clauses_are : (i : ℕ) (xs : List Automaton) → clauses (length m.variables) i (map (values_of part) xs) ≡ at_automata m part i xs
  unfolding clauses at_automata
  clauses_are i [] = refl
  clauses_are i (x ∷ xs) = ap₂ (λ ps qs. ps ++ qs) (choices_are i 0 x.locations) (clauses_are (suc i) xs)

-- the pointers' ranges: a function has as many values as its automaton has locations
pointers_are : (part : Location → Pred) (xs : List Automaton) → map pointer_to (map (values_of part) xs) ≡ map pointer_range xs
pointers_are part [] = refl
pointers_are part (x ∷ xs) = ap₂ (λ r rs. r ∷ rs) one (pointers_are part xs)
  where
    one : pointer_to (map part x.locations) ≡ pointer_range x
    one = unfold pointer_to pointer_range in ap (λ n. range (pos 0) (pos (pred n))) (length-map x.locations part)

-- row 7: a lawful model names none of the pointers
fresh_is : (m : Model) → Lawful m → Fresh m
fresh_is m lawful = record {
  inits = λ x i l j. record { unnamed = ((lawful.automata x i).locations l j).init.named };
  invs = λ x i l j. record { unnamed = ((lawful.automata x i).locations l j).inv.named };
  updates = λ x i e j. record { unnamed = ((lawful.automata x i).edges e j).update.named };
  starts = λ p i. record { unnamed = (lawful.starts p i).pred.named };
}

-- request (k): the owners in the merged sheet
owned_is : (m : Model) → Lawful m → Owned m (linear m) (length m.automata)
unfolding linear pointer merged_owner
owned_is m lawful =
    let n = lawful.owners_are in
    record {
      as_many = owners_length m n;
      owned = λ k i l e. variable_owner m n k l ∙ ap merged_owner e;
      unowned = λ k l e. variable_owner m n k l ∙ ap merged_owner e;
      pointers = λ i l f. pointer_owner_lem m n i l ∙ pointer_owned m.format f;
      pointers_before = λ i l f. pointer_owner_lem m n i l ∙ pointer_unowned m.format f;
    }

-- the numbers that are counted up
pub counted_in : (a n count : ℕ) → n ≤ a → a < n + count → Memᴰ a (count_up n count)
unfolding count_up
counted_in a n zero l h = absurd (omega arith)
counted_in a n (suc count) l h = go (eqb a n) refl (λ i. counted_in a (suc n) count i (omega arith))
  where
    go : (b : Bool) → eqb a n ≡ b → (suc n ≤ a → Memᴰ a (count_up (suc n) count)) → Memᴰ a (n ∷ count_up (suc n) count)
    go true e ih = Memᴰ.head (eq_of a n e)
    go false e ih =
        let ne : n ≢ a = λ q. true≢false (sym (of_eq a n (sym q)) ∙ e) in
        Memᴰ.tail (ih (omega arith))

-- the items of a joined list of lists
module _ {A B : Type 0} (f : A → List B) where
  pub joined_in : {x : A} {y : B} {l : List A} → Memᴰ x l → Memᴰ y (f x) → Memᴰ y (flat_map f l)
  unfolding flat_map
  joined_in {y = y} (Memᴰ.head {xs = l} e) h = Memᴰ.append_left (flat_map f l) (subst (λ z. Memᴰ y (f z)) e h)
  joined_in (Memᴰ.tail {x = z} i) h = Memᴰ.append_right (f z) (joined_in i h)

  joined_out : {y : B} (l : List A) → Memᴰ y (flat_map f l) → (x : A) × Memᴰ y (f x)
  unfolding flat_map
  joined_out [] h = absurd (Memᴰ.not-nil h)
  joined_out {y} (x ∷ l) h = go (joined_out l) (Memᴰ.append_cases (f x) h)
    where
      go : (Memᴰ y (flat_map f l) → (z : A) × Memᴰ y (f z)) → Memᴰ y (f x) ⊎ Memᴰ y (flat_map f l) → (z : A) × Memᴰ y (f z)
      go ih (inl i) = (x, i)
      go ih (inr i) = ih i

-- row 12: a transition's action is one of the model's
pub transition_bounded : (m : Model) → Lawful m → (a : ℕ) {c : Tree} {vs : List Position} {r : List Pred} {vs' : List Position} → Transition m a c vs r vs' → a ≤ m.actions
transition_bounded m lawful a (rule_17 {k = k} {e = e} i q) =
    subst (λ (b : ℕ). b ≤ m.actions) q
    (automaton_at_lem m lawful (λ x. Memᴰ e x.edges → e.action ≤ m.actions) (λ j. absurd (Memᴰ.not-nil j)) (λ x h j. (h.edges e j).action) k i)
transition_bounded m lawful a (rule_18_left t s w i) = transition_bounded m lawful a t
transition_bounded m lawful a (rule_18_right t s w i) = transition_bounded m lawful a t
transition_bounded m lawful a (rule_19 t u s z i j) = transition_bounded m lawful a t
transition_bounded m lawful a (rule_21 t) = transition_bounded m lawful a t
transition_bounded m lawful a (transition_ini t) = transition_bounded m lawful a t

-- E: the merged edges are those of the transitions
edges_are : (m : Model) → Lawful m → (e : Edge) → Memᴰ e (merged_edges m)
    ↔ ((a : ℕ) × (vs : List Position) × (r : List Pred) × (vs' : List Position) × Transition m a m.tree vs r vs' × (e ≡ edge_for (length m.variables) a vs r vs'))
unfolding merged_edges edges_with_repeats
edges_are m lawful e = (λ h. there (once_out same_edge all h), λ x. once_in same_edge same_edge_is all (back x))
  where
    edges_of : ℕ → List Edge
    edges_of a = map (merged_edge m a) (moves m a m.tree)

    all : List Edge
    all = flat_map edges_of (count_up 0 (suc m.actions))

    in_order : Numbered 0 m.tree
    in_order = numbered m.tree (length m.automata) lawful.tree.in_order

    there : Memᴰ e all
        → (a : ℕ) × (vs : List Position) × (r : List Pred) × (vs' : List Position) × Transition m a m.tree vs r vs' × (e ≡ edge_for (length m.variables) a vs r vs')
    there h =
        let (a, i) = joined_out edges_of (count_up 0 (suc m.actions)) h in
        let (takers, listed, same) = Memᴰ.of_map (merged_edge m a) (moves m a m.tree) i in
        let labels = labels_own m.tree takers in
        (a, _, _, _, (transitions_are m a m.tree 0 in_order _ _ _).1 (record { takers = takers; listed = listed; labels = labels }), sym (edge_is m a m.tree in_order listed labels ∙ same))

    back : (a : ℕ) × (vs : List Position) × (r : List Pred) × (vs' : List Position) × Transition m a m.tree vs r vs' × (e ≡ edge_for (length m.variables) a vs r vs')
        → Memᴰ e all
    back (a, vs, r, vs', t, q) =
        let l = transition_bounded m lawful a t in
        let x = (transitions_are m a m.tree 0 in_order vs r vs').0 t in
        joined_in edges_of (counted_in a 0 (suc m.actions) (omega arith) (omega arith))
        (Memᴰ.cast (q ∙ edge_is m a m.tree in_order x.listed x.labels) (Memᴰ.map (merged_edge m a) x.listed))

-- and none of them stands twice
kept_once : (f : Edge → Bool) (es : List Edge) → NoneTwice es → NoneTwice (keep f es)
unfolding keep
kept_once f [] h = none_twice
kept_once f (e ∷ es) (not_again n h) = go (f e) (kept_once f es h)
  where
    go : (b : Bool) → NoneTwice (keep f es) → NoneTwice (elim b as (λ c. List Edge) [ true ↦ e ∷ keep f es | false ↦ keep f es ])
    go true k = not_again (λ i. n (keep_out f es i).0) k
    go false k = k

once_set : (es : List Edge) → NoneTwice (once same_edge es)
unfolding once
once_set [] = none_twice
once_set (e ∷ es) = not_again (once_first same_edge same_edge_is e (once same_edge es)) (kept_once (λ f. not (same_edge e f)) (once same_edge es) (once_set es))

-- row 5: what a rising list holds
pub rises_in : (A last : ℕ) (ks : List ℕ) → rises A last ks ≡ true → (a : ℕ) → member a ks ≡ true → (last < a) × (a ≤ A)
unfolding member exists
rises_in A last [] r a h = absurd (true≢false (sym h))
rises_in A last (k ∷ ks) r a h =
    let q = rw (rises_cons A last k ks) at r in
    let b = and_left (ltb last k && leb k A) (rises A k ks) q in
    let low : last < k = lt_of last k (and_left (ltb last k) (leb k A) b) in
    let high : k ≤ A = leb-true k A (and_right (ltb last k) (leb k A) b) in
    go low high (rises_in A k ks (and_right (ltb last k && leb k A) (rises A k ks) q) a) (or_cases (eqb a k) (member a ks) h)
  where
    go : last < k → k ≤ A → (member a ks ≡ true → (k < a) × (a ≤ A)) → (eqb a k ≡ true) ⊎ (member a ks ≡ true) → (last < a) × (a ≤ A)
    go low high ih (inl e) = let q = eq_of a k e in (omega arith, omega arith)
    go low high ih (inr i) = let q = ih i in let p = q.0 in (omega arith, q.1)

-- the members of a list
in_member : (a : ℕ) {ks : List ℕ} → Memᴰ a ks → member a ks ≡ true
unfolding member
in_member a h = exists_intro (eqb a) h (eq_self a)

-- so a composition's set holds actions of 1 to A only
set_bounded : (m : Model) → Lawful m → (a : ℕ) (c : Tree) → tree_rises m.actions c ≡ true → in_set m a c ≡ true → (0 < a) × (a ≤ m.actions)
unfolding tree_rises in_set
set_bounded m lawful a (par c d) r h = go (set_bounded m lawful a c (and_left (tree_rises m.actions c) _ r)) (set_bounded m lawful a d (and_right (tree_rises m.actions c) _ r)) (or_cases (in_set m a c) (in_set m a d) h)
  where
    go : (in_set m a c ≡ true → (0 < a) × (a ≤ m.actions)) → (in_set m a d ≡ true → (0 < a) × (a ≤ m.actions)) → (in_set m a c ≡ true) ⊎ (in_set m a d ≡ true) → (0 < a) × (a ≤ m.actions)
    go f g (inl i) = f i
    go f g (inr i) = g i
set_bounded m lawful a (syn list c) r h = go (set_bounded m lawful a c (and_right (rises m.actions 0 list) _ r)) (or_cases (member a list) (in_set m a c) h)
  where
    go : (in_set m a c ≡ true → (0 < a) × (a ≤ m.actions)) → (member a list ≡ true) ⊎ (in_set m a c ≡ true) → (0 < a) × (a ≤ m.actions)
    go f (inl i) = rises_in m.actions 0 list (and_left (rises m.actions 0 list) (tree_rises m.actions c) r) a i
    go f (inr i) = f i
set_bounded m lawful a (ini p c) r h = set_bounded m lawful a c r h
set_bounded m lawful a (leaf k) r h =
    automaton_at_lem m lawful (λ x. member a x.sync ≡ true → (0 < a) × (a ≤ m.actions)) (λ i. unfold member exists in absurd (true≢false (sym i))) (λ x p i. rises_in m.actions 0 x.sync p.sync a i) k h

-- act_S: the merged set is the composition's, and rises
sync_is : (m : Model) → Lawful m → (a : ℕ) → Memᴰ a (keep (λ b. in_set m b m.tree) (count_up 1 m.actions)) ↔ Memᴰ a (set_of m m.tree)
sync_is m lawful a = (there, back)
  where
    its_set : member a (set_of m m.tree) ≡ in_set m a m.tree
    its_set = syncs_are m a (syncs_to m m.tree)

    there : Memᴰ a (keep (λ b. in_set m b m.tree) (count_up 1 m.actions)) → Memᴰ a (set_of m m.tree)
    there h = member_in a (set_of m m.tree) (its_set ∙ (keep_out (λ b. in_set m b m.tree) (count_up 1 m.actions) h).1)

    back : Memᴰ a (set_of m m.tree) → Memᴰ a (keep (λ b. in_set m b m.tree) (count_up 1 m.actions))
    back h =
        let i : in_set m a m.tree ≡ true = sym its_set ∙ in_member a h in
        let q = set_bounded m lawful a m.tree lawful.tree.lists i in
        let low = q.0 in
        let high = q.1 in
        keep_in (λ b. in_set m b m.tree) (counted_in a 1 m.actions (omega arith) (omega arith)) i

-- the merged automaton is the linearization
pub linear_is : (m : Model) → Lawful m → IsLinearization m (linear m)
unfolding linear merged_init merged_inv
linear_is m lawful = record {
  xs = positions (λ e. e.from) m.tree [];
  fs = map (values_of (λ l. l.init)) m.automata;
  us = starts m.tree;
  gs = map (values_of (λ l. l.inv)) m.automata;
  A = set_of m m.tree;
  leads_xs = wilds_to (λ e. e.from) m.tree;
  leads_fs = leads_are m (λ l. l.init) lawful;
  leads_us = (conditions_are m.tree (starts m.tree)).1 refl;
  leads_gs = leads_are m (λ l. l.inv) lawful;
  leads_A = syncs_to m m.tree;
  as_many =
      length-map m.automata (values_of (λ l. l.init)) ∙ sym (size_is m.tree (length m.automata) lawful.tree.in_order)
      ∙ sym (positions_length (λ e. e.from) m.tree []);
  format = refl;
  actions = refl;
  variables = ap (λ rs. m.variables ++ rs) (sym (pointers_are (λ l. l.init) m.automata));
  owners = subst (Owned m (linear m)) (sym (length-map m.automata (values_of (λ l. l.init)))) (owned_is m lawful);
  fresh = fresh_is m lawful;
  automaton = record { sync = keep (λ a. in_set m a m.tree) (count_up 1 m.actions); locations = record { init = merged_init m; inv = merged_inv m } ∷ []; edges = merged_edges m };
  x = record { init = merged_init m; inv = merged_inv m };
  automata = refl;
  tree = refl;
  locations = refl;
  init = ap (λ ps. all (preds (ps ++ starts m.tree))) (sym (clauses_are m (λ l. l.init) 0 m.automata));
  inv = ap (λ ps. all (preds ps)) (sym (clauses_are m (λ l. l.inv) 0 m.automata));
  edges = edges_are m lawful;
  edges_once = unfold merged_edges in once_set (edges_with_repeats m);
  sync = sync_is m lawful;
  rising = keep_rises (λ a. in_set m a m.tree) m.actions 0 1 m.actions (omega arith) (omega arith);
}

-- a table that opens as a model is that of a lawful one
opens : (t : List ℕ) (m : Model) → row18 (length t) ≡ false → model_of t ≡ some m → open_table t ≡ opened m
unfolding open_table
opens t m e p = rw (e, open_table, p)

pub opened_limited : (t : List ℕ) (m : Model) → open_table t ≡ opened m → limits m ≡ true
opened_limited t m h = (model_given t m (opened_model t m h)).0

-- what the merger says, by what it finds
module _ (t : List ℕ) (b : ℕ) where
  answer_unopened : (row : ℕ) → open_table t ≡ unopened row → merge_answer t b ≡ unmerged row
  unfolding merge_answer
  answer_unopened row e = rw (e, merge_answer)

  module _ (m : Model) (o : open_table t ≡ opened m) where
    answer_refused : (row : ℕ) → merge_fault m ≡ some row → merge_answer t b ≡ unmerged row
    unfolding merge_answer merge_model
    answer_refused row f = rw (o, merge_answer, f, merge_model)

    answer_35 : merge_fault m ≡ none → row35 b (text_of (linear m)) ≡ true → merge_answer t b ≡ unmerged 35
    unfolding merge_answer merge_model
    answer_35 f e = rw (o, merge_answer, f, merge_model, e)

    answer_merged : merge_fault m ≡ none → row35 b (text_of (linear m)) ≡ false → merge_answer t b ≡ merged (text_of (linear m)) (merged_count m)
    unfolding merge_answer merge_model
    answer_merged f e = rw (o, merge_answer, f, merge_model, e)

-- rows 31 to 34 before a later one
unfoldable or_row : Option ℕ → Option ℕ → Option ℕ
or_row none rest = rest
or_row (some row) rest = some row

rows_then : (p q r s : Bool) (rest : Option ℕ) → broken 31 p (broken 32 q (broken 33 r (broken 34 s rest))) ≡ or_row (broken 31 p (broken 32 q (broken 33 r (broken 34 s none)))) rest
unfolding broken or_row
rows_then true q r s rest = refl
rows_then false true r s rest = refl
rows_then false false true s rest = refl
rows_then false false false true rest = refl
rows_then false false false false rest = refl

module _ (t : List ℕ) (b : ℕ) where
  first_18 : row18 (length t) ≡ true → first_row t b ≡ some 18
  unfolding first_row broken
  first_18 e = rw e

  first_19 : row18 (length t) ≡ false → model_of t ≡ none → first_row t b ≡ some 19
  unfolding first_row broken row19 lacks
  first_19 e p = rw (e, p)

  breaks_of : (row : Model → Bool) (m : Model) → model_of t ≡ some m → breaks row t ≡ row m
  unfolding breaks
  breaks_of row m p = rw (p, breaks)

  first_later : (m : Model) → row18 (length t) ≡ false → model_of t ≡ some m → first_row t b ≡ or_row (merge_fault m) (broken 35 (row35 b (text_of (linear m))) none)
  unfolding first_row row19 merge_fault
  first_later m e p =
      rw (e, p, breaks_of row31 m p, breaks_of row32 m p, breaks_of row33 m p, breaks_of row34 m p, breaks_of (λ n. row35 b (text_of (linear n))) m p)
      (unfold broken lacks in rows_then (row31 m) (row32 m) (row33 m) (row34 m) (broken 35 (row35 b (text_of (linear m))) none))

  -- the two ways out: a row refuses, or none does and there is a model
  data Ends : Type 0 where
    refuses : (row : ℕ) → first_row t b ≡ some row → merge_answer t b ≡ unmerged row → Ends
    gives : (m : Model) → first_row t b ≡ none → open_table t ≡ opened m → merge_fault m ≡ none → row35 b (text_of (linear m)) ≡ false → Ends

  ends_model : (m : Model) → row18 (length t) ≡ false → model_of t ≡ some m → Ends
  unfolding or_row broken
  ends_model m e p = go (merge_fault m) refl (row35 b (text_of (linear m))) refl
    where
      go : (o : Option ℕ) → merge_fault m ≡ o → (c : Bool) → row35 b (text_of (linear m)) ≡ c → Ends
      go (some row) f c g = refuses row (first_later m e p ∙ rw f) (answer_refused t b m (opens t m e p) row f)
      go none f true g = refuses 35 (first_later m e p ∙ rw (f, g)) (answer_35 t b m (opens t m e p) f g)
      go none f false g = gives m (first_later m e p ∙ rw (f, g)) (opens t m e p) f g

  ends : Ends
  unfolding open_table
  ends = go (row18 (length t)) refl (model_of t) refl
    where
      go : (c : Bool) → row18 (length t) ≡ c → (o : Option Model) → model_of t ≡ o → Ends
      go true e o p = refuses 18 (first_18 e) (answer_unopened t b 18 (rw (e, open_table)))
      go false e none p = refuses 19 (first_19 e p) (answer_unopened t b 19 (rw (e, open_table, p)))
      go false e (some m) p = ends_model m e p

-- The merger gives a text and a count exactly if the table opens as a model, none of rows 31 to 34 refuses the model and the
-- buffer has room; the text is that of Definition 4's automaton (linear_is) and the count is that of its edges.
pub merge_is_definition_4 : (t : List ℕ) (b : ℕ) (text : Bytes) (edges : ℕ) → (merge_answer t b ≡ merged text edges)
    ↔ ((m : Model) × (open_table t ≡ opened m) × (merge_fault m ≡ none) × (length (text_of (linear m)) ≤ b) × (text ≡ text_of (linear m)) × (edges ≡ length (merged_edges m)))
unfolding row35
merge_is_definition_4 t b text edges = (λ h. there h (ends t b), back)
  where
    there : merge_answer t b ≡ merged text edges → Ends t b
        → (m : Model) × (open_table t ≡ opened m) × (merge_fault m ≡ none) × (length (text_of (linear m)) ≤ b) × (text ≡ text_of (linear m)) × (edges ≡ length (merged_edges m))
    there h (refuses row f e) = absurd (no_merge row edges text (sym e ∙ h))
    there h (gives m f o u g) =
        let q : merged (text_of (linear m)) (merged_count m) ≡ merged text edges = sym (answer_merged t b m o u g) ∙ h in
        let same_text : text ≡ text_of (linear m) = cc in
        let same_count : edges ≡ merged_count m = cc in
        (m, o, u, ltb-false b (length (text_of (linear m))) g, same_text, same_count ∙ sym (count_is m ((lawful_is m).0 (opened_limited t m o))))

    back : (m : Model) × (open_table t ≡ opened m) × (merge_fault m ≡ none) × (length (text_of (linear m)) ≤ b) × (text ≡ text_of (linear m)) × (edges ≡ length (merged_edges m))
        → merge_answer t b ≡ merged text edges
    back (m, o, u, l, q, c) = answer_merged t b m o u (le-ltb b (length (text_of (linear m))) l) ∙ ap₂ merged (sym q) (sym (c ∙ count_is m ((lawful_is m).0 (opened_limited t m o))))

-- the text that the merger gives is read back as Definition 4's automaton of the table's model
pub merged_reads : (t : List ℕ) (b : ℕ) (text : Bytes) (edges : ℕ) → merge_answer t b ≡ merged text edges
    → (m : Model) × (open_table t ≡ opened m) × IsLinearization m (linear m) × (read_answer text table_words ≡ accepted (linear m))
merged_reads t b text edges h =
    let (m, o, u, l, q, c) = (merge_is_definition_4 t b text edges).0 h in
    let limited = opened_limited t m o in
    (m, o, linear_is m ((lawful_is m).0 limited), (reader_exact text table_words (linear m)).1 (omega arith, linear_limited m limited u, q))

-- and it refuses exactly with the first row that is broken
pub merge_refuses : (t : List ℕ) (b row : ℕ) → (merge_answer t b ≡ unmerged row) ↔ (first_row t b ≡ some row)
merge_refuses t b row = (λ h. there h (ends t b), λ h. back h (ends t b))
  where
    there : merge_answer t b ≡ unmerged row → Ends t b → first_row t b ≡ some row
    there h (refuses r f e) =
        let q : unmerged r ≡ unmerged row = sym e ∙ h in
        let s : r ≡ row = cc in
        f ∙ ap some s
    there h (gives m f o u g) = absurd (no_merge row (merged_count m) (text_of (linear m)) (sym h ∙ answer_merged t b m o u g))

    back : first_row t b ≡ some row → Ends t b → merge_answer t b ≡ unmerged row
    back h (refuses r f e) = e ∙ ap unmerged (got r row (sym f ∙ h))
    back h (gives m f o u g) = absurd (none_some row (sym f ∙ h))
