-- The rows as conditions on a line, read as facts: what it means that a line breaks none.
use Prim.Native.Nat.{ℕ, zero, suc, ◌+◌, ◌≤◌, ◌<◌}
use mathlib.Core.Path.{◌≡◌, refl, sym}
use mathlib.Core.Bool.{Bool, true, false, not, ◌&&◌, ◌||◌, true≢false, and-eq-true_iff}
use mathlib.Core.List.Memᴰ
use mathlib.Core.List.{List, [], ◌∷◌, Memᴰ}
use mathlib.Core.Logic.{◌↔◌, ◌⊎◌, inl, inr}
use mathlib.Core.Option as O
use mathlib.Core.Option.{Option}
use native.Mathlib.Omega.{arith}
use borrow.Author.Tests.{leb-true, leb-false, le-leb, lt-leb, not-false}
use lib.ListN.{length}
use lib.Dec.{leb, ltb}
use Rattle.model.specs.Basic.{every, exists, lacks, same, count_up}
use Rattle.model.specs.Bounds.{first_format, last_format, max_depth, max_nodes, max_actions, max_locations, max_edges, max_automata, max_variables, last_automaton, owners_format}
use Rattle.model.specs.Predicate.{Pred, Range, words, depth, names_outside, names_new, node_count, written}
use Rattle.model.specs.Composition.{Tree, par, syn, ini, leaf, leaves, starts, start_nodes}
use Rattle.model.specs.Model.{Edge, edge_total}
use Rattle.model.specs.Lines.{format_line, actions_line, variables_line, variable_line, automata_line, sync_line, locations_line, init_line, edges_line, edge_line, compose_line, Reading}
use Rattle.model.specs.Limits.{in_range, numbers_in_range, tree_in_range, is_crossed, rises, tree_rises, is_too_deep, exceeds_span, passes_nodes, variable_count, location_count, is_astray, is_disordered, is_too_large, passes_edges, owner_in_range, is_early, is_beyond, is_foreign, broken, pred_fault, location_fault, starts_fault, content_fault, fault_of}
use Rattle.model.specs.Lawful.{LawfulRange, LawfulOwner, LawfulPred, LawfulStart, LawfulEdge, LawfulTree}
use Rattle.model.proofs.Tests.{le_of, and_intro, and_right, every_append, exists_none, none_exists}
use Rattle.model.proofs.Lists.{same_of, same_self}
use Rattle.model.proofs.Parsing.{none_some}

-- a row that is not broken, and its tests as facts
clear : (n : ℕ) (b : Bool) (rest : Option ℕ) → (lacks (broken n b rest) ≡ true) ↔ ((b ≡ false) × (lacks rest ≡ true))
unfolding lacks broken
clear n true rest = (λ h. absurd (true≢false (sym h)), λ h. absurd (true≢false h.0))
clear n false rest = (λ h. (refl, h), λ h. h.1)

unless : (b : Bool) → (not b ≡ false) ↔ (b ≡ true)
unless b = (not-false b, λ h. rw h)

at_most : (a b : ℕ) → (leb a b ≡ true) ↔ (a ≤ b)
at_most a b = (leb-true a b, le-leb a b)

above : (a b : ℕ) → (leb a b ≡ false) ↔ (b < a)
above a b = (leb-false a b, lt-leb a b)

neither : (a b : Bool) → ((a || b) ≡ false) ↔ ((a ≡ false) × (b ≡ false))
neither true b = (λ h. absurd (true≢false h), λ h. h.0)
neither false b = (λ h. (refl, h), λ h. h.1)

same_is : (k l : List ℕ) → (same k l ≡ true) ↔ (k ≡ l)
same_is k l = (same_of k l, λ e. rw e (same_self l))

ruleset rows = (clear, unless, at_most, above, neither, same_is, and-eq-true_iff)

-- a list that rises to A, and the leaves in their order, have no number above the limit (row 3)
pub rises_ranged : (A last : ℕ) (list : List ℕ) → A ≤ max_actions → rises A last list ≡ true → every (λ k. leb k max_actions) list ≡ true
unfolding rises every
rises_ranged A last [] a h = refl
rises_ranged A last (k ∷ ks) a h = go (ltb last k && leb k A) refl h (λ g. rises_ranged A k ks a g)
  where
    go : (t : Bool) → (ltb last k && leb k A) ≡ t → elim t [ true ↦ rises A k ks | false ↦ false ] ≡ true → (rises A k ks ≡ true → every (λ k. leb k max_actions) ks ≡ true) → every (λ k. leb k max_actions) (k ∷ ks) ≡ true
    go true e h ih = let l = leb-true k A (and_right (ltb last k) (leb k A) e) in and_intro (le-leb k max_actions (omega arith)) (ih h)
    go false e h ih = absurd (true≢false (sym h))

counted_ranged : (n count : ℕ) → n + count ≤ max_automata → every (λ k. leb k last_automaton) (count_up n count) ≡ true
unfolding every count_up
counted_ranged n zero h = refl
counted_ranged n (suc count) h = and_intro (le-leb n last_automaton (omega arith)) (counted_ranged (suc n) count (omega arith))

-- the numbers of every P after `ini`
abbrev StartsRanged : Tree → Type 0
StartsRanged c = (p : Pred) → Memᴰ p (starts c) → every in_range (words p) ≡ true

nodes_ranged : (A : ℕ) (c : Tree) → A ≤ max_actions → tree_rises A c ≡ true → every (λ k. leb k last_automaton) (leaves c) ≡ true → StartsRanged c → tree_in_range c ≡ true
unfolding tree_rises tree_in_range leaves every starts
nodes_ranged A (par c d) a h l s =
    let g = simp and-eq-true_iff at h in
    let k = simp (every_append (λ k. leb k last_automaton) (leaves c) (leaves d), and-eq-true_iff) at l in
    and_intro (nodes_ranged A c a g.0 k.0 (λ p i. s p (Memᴰ.append_left (starts d) i))) (nodes_ranged A d a g.1 k.1 (λ p i. s p (Memᴰ.append_right (starts c) i)))
nodes_ranged A (syn list c) a h l s = let g = simp and-eq-true_iff at h in and_intro (rises_ranged A 0 list a g.0) (nodes_ranged A c a g.1 l s)
nodes_ranged A (ini p c) a h l s = and_intro (s p (Memᴰ.head refl)) (nodes_ranged A c a h l (λ q i. s q (Memᴰ.tail i)))
nodes_ranged A (leaf k) a h l s = let g = simp and-eq-true_iff at l in g.0

pub tree_ranged : (A N : ℕ) (c : Tree) → A ≤ max_actions → N ≤ max_automata → LawfulTree A N c → StartsRanged c → tree_in_range c ≡ true
tree_ranged A N c a n h s = nodes_ranged A c a h.lists (rw h.in_order (counted_ranged 0 N (omega arith))) s

pub starts_ranged : (c : Tree) → tree_in_range c ≡ true → StartsRanged c
unfolding tree_in_range starts
starts_ranged (par c d) h p i =
    let g = simp and-eq-true_iff at h in
    go (starts_ranged c g.0 p) (starts_ranged d g.1 p) (Memᴰ.append_cases (starts c) i)
  where
    go : (Memᴰ p (starts c) → every in_range (words p) ≡ true) → (Memᴰ p (starts d) → every in_range (words p) ≡ true) → Memᴰ p (starts c) ⊎ Memᴰ p (starts d) → every in_range (words p) ≡ true
    go f g (inl j) = f j
    go f g (inr j) = g j
starts_ranged (syn list c) h p i = let g = simp and-eq-true_iff at h in starts_ranged c g.1 p i
starts_ranged (ini q c) h p i =
    let g = simp and-eq-true_iff at h in
    go i g.0 (starts_ranged c g.1 p)
  where
    go : Memᴰ p (q ∷ starts c) → every in_range (words q) ≡ true → (Memᴰ p (starts c) → every in_range (words p) ≡ true) → every in_range (words p) ≡ true
    go (Memᴰ.head e) f g = rw e f
    go (Memᴰ.tail j) f g = g j
starts_ranged (leaf k) h p i = absurd (Memᴰ.not-nil i)

-- the lines of counts
pub format_line_lem : (r : Reading) (n : ℕ) → (lacks (fault_of r (format_line n)) ≡ true) ↔ ((first_format ≤ n) × (n ≤ last_format))
unfolding fault_of numbers_in_range content_fault lacks
format_line_lem r n = (λ h. let g = simp rows at h in g.0, λ h. simp rows (h, refl))

pub actions_line_lem : (r : Reading) (n : ℕ) → (lacks (fault_of r (actions_line n)) ≡ true) ↔ (n ≤ max_actions)
unfolding fault_of numbers_in_range content_fault lacks
actions_line_lem r n = (λ h. let g = simp rows at h in g.0, λ h. simp rows (h, refl))

pub variables_line_lem : (r : Reading) (n : ℕ) → (lacks (fault_of r (variables_line n)) ≡ true) ↔ (n ≤ max_variables)
unfolding fault_of numbers_in_range content_fault lacks
variables_line_lem r n = (λ h. let g = simp rows at h in g.0, λ h. simp rows (h, refl))

pub automata_line_lem : (r : Reading) (n : ℕ) → (lacks (fault_of r (automata_line n)) ≡ true) ↔ ((1 ≤ n) × (n ≤ max_automata) × (exists (is_beyond n) r.model.owners ≡ false))
unfolding fault_of numbers_in_range content_fault lacks
automata_line_lem r n = (λ h. let g = simp rows at h in (g.0.0, g.0.1, g.1.0), λ h. simp rows ((h.0, h.1), (h.2, refl)))

pub locations_line_lem : (r : Reading) (n : ℕ) → (lacks (fault_of r (locations_line n)) ≡ true) ↔ ((1 ≤ n) × (n ≤ max_locations))
unfolding fault_of numbers_in_range content_fault lacks
locations_line_lem r n = (λ h. let g = simp rows at h in g.0, λ h. simp rows (h, refl))

pub edges_line_lem : (r : Reading) (n : ℕ) → (lacks (fault_of r (edges_line n)) ≡ true) ↔ (edge_total r.model.automata + n ≤ max_edges)
unfolding fault_of numbers_in_range content_fault passes_edges lacks
edges_line_lem r n = (λ h. let g = simp rows at h in omega (arith, g.1.0), λ h. simp rows (omega arith, (omega arith, refl)))

-- the lines of the parts
-- an owner that can be said in a format
abbrev pub Said : ℕ → Option ℕ → Type 0
Said f o = (owner_in_range o ≡ true) × (is_early f o ≡ false)

pub variable_line_lem : (r : Reading) (x : Range) (o : Option ℕ) → (lacks (fault_of r (variable_line x o)) ≡ true) ↔ (LawfulRange x × Said r.model.format o)
unfolding fault_of numbers_in_range content_fault is_crossed lacks
variable_line_lem r x o = (
  λ h. let g = simp rows at h in (record { low = g.0.0; high = g.0.1.0; ordered = g.1.1.0 }, (g.0.1.1, g.1.0)),
  λ h. simp rows ((h.0.low, (h.0.high, h.1.0)), (h.1.1, (h.0.ordered, refl))),
)

-- one that is said, and is among N automata
pub owner_lawful : (f N : ℕ) (o : Option ℕ) → is_early f o ≡ false → is_beyond N o ≡ false → LawfulOwner f N o
unfolding is_early is_beyond
owner_lawful f N O.none e b = record { said = λ k h. absurd (none_some k h); below = λ k h. absurd (none_some k h) }
owner_lawful f N (O.some j) e b = record { said = λ k h. omega (arith, leb-false (suc f) owners_format e); below = λ k h. let same : j ≡ k = cc in rw (← same) (leb-false N j b) }

pub lawful_owner : (f N : ℕ) (o : Option ℕ) → N ≤ max_automata → LawfulOwner f N o → Said f o × (is_beyond N o ≡ false)
unfolding is_early is_beyond owner_in_range
lawful_owner f N O.none l h = ((refl, refl), refl)
lawful_owner f N (O.some j) l h =
    let b = h.below j refl in
    let s = h.said j refl in
    ((le-leb j last_automaton (omega arith), lt-leb (suc f) owners_format (omega arith)), lt-leb N j b)

pub sync_line_lem : (r : Reading) (list : List ℕ) → r.model.actions ≤ max_actions → (lacks (fault_of r (sync_line list)) ≡ true) ↔ (rises r.model.actions 0 list ≡ true)
unfolding fault_of numbers_in_range content_fault lacks
sync_line_lem r list a = (λ h. let g = simp rows at h in g.1.0, λ h. simp rows (rises_ranged r.model.actions 0 list a h, (h, refl)))

pub state_line : (r : Reading) (p : Pred) → (lacks (fault_of r (init_line p)) ≡ true) ↔ (LawfulPred r.model.variables p × (names_new (words p) ≡ false) × (r.nodes + node_count p ≤ max_nodes))
unfolding fault_of numbers_in_range content_fault location_fault pred_fault is_too_deep exceeds_span passes_nodes variable_count node_count lacks
state_line r p = (
  λ h.
      let g = simp rows at h in (
        record { ranged = g.0; named = g.1.0; shallow = omega (arith, g.1.1.1.0); spanned = g.1.1.1.1.0 },
        g.1.1.0,
        omega (arith, g.1.1.1.1.1.0),
      ),
  λ h. simp rows (h.0.ranged, (h.0.named, (h.1, (omega (arith, h.0.shallow), (h.0.spanned, (omega (arith, h.2), refl)))))),
)

pub edge_line_lem : (r : Reading) (e : Edge) → r.model.actions ≤ max_actions → location_count r ≤ max_locations → (lacks (fault_of r (edge_line e)) ≡ true) ↔ (LawfulEdge r.model.variables r.model.actions (location_count r) e × (r.nodes + node_count e.update ≤ max_nodes) × (is_foreign r (written e.update) ≡ false))
unfolding fault_of numbers_in_range content_fault pred_fault is_too_deep exceeds_span passes_nodes variable_count node_count is_astray lacks
edge_line_lem r e a l = (
  λ h.
      let g = simp rows at h in (
        record {
          from = g.1.1.1.1.1.0.0;
          action = omega (arith, g.1.1.1.1.1.0.1.0);
          to = g.1.1.1.1.1.0.1.1;
          update = record { ranged = g.0.1.1.1; named = g.1.0; shallow = omega (arith, g.1.1.0); spanned = g.1.1.1.0 };
        },
        omega (arith, g.1.1.1.1.0),
        g.1.1.1.1.1.1.0,
      ),
  λ h. simp rows (
    (omega (arith, h.0.from), (omega (arith, h.0.action), (omega (arith, h.0.to), h.0.update.ranged))),
    (h.0.update.named, (omega (arith, h.0.update.shallow), (h.0.update.spanned, (omega (arith, h.1), ((h.0.from, (omega (arith, h.0.action), h.0.to)), (h.2, refl)))))),
  ),
)

-- the rows of all P after `ini`
abbrev LawfulStarts : Reading → Tree → Type 0
LawfulStarts r c = ((p : Pred) → Memᴰ p (starts c) → LawfulStart r.model.variables p) × (r.nodes + start_nodes c ≤ max_nodes)

pub starts_clear : (r : Reading) (c : Tree) (rest : Option ℕ) → (lacks (starts_fault r (starts c) rest) ≡ true) ↔
    ((exists (λ p. names_outside (variable_count r) (words p)) (starts c) ≡ false) × (exists (λ p. names_new (words p)) (starts c) ≡ false) × (exists is_too_deep (starts c) ≡ false) × (exists (exceeds_span r.model.variables) (starts c) ≡ false) × (r.nodes + start_nodes c ≤ max_nodes) × (lacks rest ≡ true))
unfolding starts_fault passes_nodes start_nodes
starts_clear r c rest = (λ h. let g = simp (clear, above) at h in (g.0, g.1.0, g.1.1.0, g.1.1.1.0, omega (arith, g.1.1.1.1.0), g.1.1.1.1.1), λ h. simp (clear, above) (h.0, (h.1, (h.2, (h.3, (omega (arith, h.4), h.5))))))

starts_lawful : (r : Reading) (c : Tree) (rest : Option ℕ) → tree_in_range c ≡ true → lacks (starts_fault r (starts c) rest) ≡ true → LawfulStarts r c × (lacks rest ≡ true)
unfolding is_too_deep exceeds_span variable_count
starts_lawful r c rest k h =
    let g = (starts_clear r c rest).0 h in (
      (
        λ p i. record {
          pred = record {
            ranged = starts_ranged c k p i;
            named = exists_none (λ p. names_outside (variable_count r) (words p)) (starts c) g.0 p i;
            shallow = le_of max_depth (depth p) (exists_none is_too_deep (starts c) g.2 p i);
            spanned = not-false _ (exists_none (exceeds_span r.model.variables) (starts c) g.3 p i);
          };
          old = exists_none (λ p. names_new (words p)) (starts c) g.1 p i;
        },
        g.4,
      ),
      g.5,
    )

lawful_starts : (r : Reading) (c : Tree) (rest : Option ℕ) → LawfulStarts r c → lacks rest ≡ true → lacks (starts_fault r (starts c) rest) ≡ true
unfolding is_too_deep exceeds_span variable_count
lawful_starts r c rest h k = (starts_clear r c rest).1 (
  none_exists (λ p. names_outside (variable_count r) (words p)) (starts c) (λ p i. (h.0 p i).pred.named),
  none_exists (λ p. names_new (words p)) (starts c) (λ p i. (h.0 p i).old),
  none_exists is_too_deep (starts c) (λ p i. let l = (h.0 p i).pred.shallow in lt-leb (suc max_depth) (depth p) (omega arith)),
  none_exists (exceeds_span r.model.variables) (starts c) (λ p i. rw (h.0 p i).pred.spanned),
  h.1,
  k,
)

pub tree_line : (r : Reading) (c : Tree) → r.model.actions ≤ max_actions → length r.model.automata ≤ max_automata → (lacks (fault_of r (compose_line c)) ≡ true) ↔ (LawfulTree r.model.actions (length r.model.automata) c × LawfulStarts r c)
unfolding fault_of numbers_in_range content_fault is_disordered is_too_large lacks
tree_line r c a n = (
  λ h.
      let g = simp rows at h in
      let s = starts_lawful r c _ g.0 g.1.1 in
      let k = simp rows at s.1 in
      (record { lists = g.1.0; filled = k.0; in_order = k.1.0; size = omega (arith, k.1.1.0) }, s.0),
  λ h. simp rows (
    tree_ranged r.model.actions (length r.model.automata) c a n h.0 (λ p i. (h.1.0 p i).pred.ranged),
    (h.0.lists, lawful_starts r c _ h.1 (simp rows (h.0.filled, (h.0.in_order, (omega (arith, h.0.size), refl))))),
  ),
)
