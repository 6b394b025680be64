-- Each way out of the code of src/one_line.rt.
use Prim.Native.Nat.{ℕ, ◌+◌, ◌-◌, ◌≤◌, ◌<◌}
use mathlib.Core.Path.{◌≡◌, refl, sym, ◌∙◌, ap, ap₂}
use mathlib.Core.Bool.{Bool, true, false, not, ◌&&◌, ◌||◌}
use mathlib.Core.List.{List}
use native.Mathlib.Omega.{arith}
use lib.ListN.{length, get_or, take, drop}
use lib.Dec.{eqb, leb, ltb}
use borrow.Author.Tests.{lt-ltb, le-ltb, le-leb, lt-leb, not-true, not-false}
use Rattle.model.specs.Bounds.{first_format, last_format, max_edges}
use Rattle.model.specs.Limits.{rises}
use Rattle.model.specs.Table.{set_of}
use Rattle.model.proofs.Tests.{and_intro, and_no_right, or_left, or_none}
use Rattle.line_order.specs.declared.Key.{Key}
use Rattle.line_order.specs.declared.Key.TheVariants.{Format, Actions, Variables, Variable, Automata, Sync, Locations, Init, Inv, Edges, Edge, Compose, End}
use Rattle.line_order.specs.declared.Counts.{Counts}
use Rattle.line_order.specs.Counts.{capped}
use Rattle.table_line.specs.declared.Line.{Line}
use Rattle.std.specs.Prelude.{Option, Some, None}
use Rattle.table_line.specs.Line.{a_line, when, number_at, owner_sound, variable_sound, variable_at, ranges_in, automata_at, sync_at, predicate_at, location_at, edges_at, ends_sound, owns_at, owning, edge_at, compose_at, line_at}
use Rattle.table_writes.specs.Sets.{all_variables, rest_of}
use Rattle.table_owners.specs.Owners.{beyond_in, foreign_in}
use Rattle.table_line.proofs.PredicateCode.{when_true, when_false, no_left}

-- `number`
module _ (t : List ℕ) (at least most : ℕ) where
  pub number_end : length t ≤ at → None ≡ number_at t at least most
  unfolding number_at
  number_end h = when_false _ _ (no_left (ltb at (length t)) (leb least (get_or t at 0) && leb (get_or t at 0) most) (le-ltb at (length t) h))

  module _ (n : ℕ) (e : n ≡ get_or t at 0) where
    pub number_low : n < least → None ≡ number_at t at least most
    unfolding number_at
    number_low l = when_false _ _ (and_no_right (ltb at (length t)) (leb least (get_or t at 0) && leb (get_or t at 0) most) (no_left (leb least (get_or t at 0)) (leb (get_or t at 0) most) (lt-leb least (get_or t at 0) (omega arith))))

    pub number_high : most < n → None ≡ number_at t at least most
    unfolding number_at
    number_high l = when_false _ _ (and_no_right (ltb at (length t)) (leb least (get_or t at 0) && leb (get_or t at 0) most) (and_no_right (leb least (get_or t at 0)) (leb (get_or t at 0) most) (lt-leb (get_or t at 0) most (omega arith))))

    pub number_good : at < length t → least ≤ n → n ≤ most → a_line n 0 (at + 1) ≡ number_at t at least most
    unfolding number_at
    number_good h l m = ap (λ x. a_line x 0 (at + 1)) e ∙ when_true (ltb at (length t) && (leb least (get_or t at 0) && leb (get_or t at 0) most)) (a_line (get_or t at 0) 0 (at + 1)) (and_intro (lt-ltb at (length t) h) (and_intro (le-leb least (get_or t at 0) (omega arith)) (le-leb (get_or t at 0) most (omega arith))))

pub ruleset number_laws = (number_end, number_low, number_high, number_good)

-- `variable_sound`
pub variable_by : (f low high w : ℕ) → (leb high 2000000000 && (leb low high && (leb w 16 && (eqb w 0 || leb 3 f)))) ≡ variable_sound f low high w
unfolding variable_sound owner_sound
variable_by f low high w = refl

-- `variable`
module _ (t : List ℕ) (at f : ℕ) where
  abbrev fine : Bool
  fine = variable_sound f (get_or t at 0) (get_or t (at + 1) 0) (get_or t (at + 2) 0)

  pub variable_end : length t ≤ at → None ≡ variable_at t at f
  unfolding variable_at
  variable_end h = when_false _ _ (no_left (ltb (at + 2) (length t)) fine (le-ltb (at + 2) (length t) (omega arith)))

  pub variable_short : length t - at ≤ 2 → None ≡ variable_at t at f
  unfolding variable_at
  variable_short h = when_false _ _ (no_left (ltb (at + 2) (length t)) fine (le-ltb (at + 2) (length t) (omega arith)))

  module _ (o : ℕ) (ho : o ≡ get_or t (at + 2) 0) (b : Bool) (hb : b ≡ variable_sound f (get_or t at 0) (get_or t (at + 1) 0) o) where
    same_fine : fine ≡ b
    unfolding variable_sound
    same_fine = ap (variable_sound f (get_or t at 0) (get_or t (at + 1) 0)) (sym ho) ∙ sym hb

    pub variable_by_sound : 2 < length t - at → (r : Option Line) → r ≡ when b (a_line 0 0 (at + 3)) → r ≡ variable_at t at f
    unfolding variable_at when
    variable_by_sound h r e = e ∙ rw (lt-ltb (at + 2) (length t) (omega arith), same_fine)

    pub variable_good : 2 < length t - at → not b ≡ false → a_line 0 0 (at + 3) ≡ variable_at t at f
    variable_good h q = variable_by_sound h _ (unfold when in rw (not-false b q))

    pub variable_bad : 2 < length t - at → not b ≡ true → None ≡ variable_at t at f
    variable_bad h q = variable_by_sound h _ (unfold when in rw (not-true b q))

pub ruleset variable_laws = (variable_end, variable_short, variable_good, variable_bad)

-- `automata`
module _ (t : List ℕ) (at : ℕ) (c : Counts) where
  pub automata_end : length t ≤ at → None ≡ automata_at t at c
  unfolding automata_at
  automata_end h = go (not (beyond_in (ranges_in t c.variables) (get_or t at 0))) (number_end t at 1 16 h)
    where
      go : (b : Bool) {l : Option Line} → None ≡ l → None ≡ when b l
      go true e = unfold when in e
      go false e = unfold when in refl

  module _ (n : ℕ) (hn : n ≡ get_or t at 0) (ws : List ℕ) (hw : ws ≡ ranges_in t c.variables) (b : Bool) (hb : b ≡ beyond_in ws n) where
    same_beyond : beyond_in (ranges_in t c.variables) (get_or t at 0) ≡ b
    unfolding beyond_in
    same_beyond = ap₂ beyond_in (sym hw) (sym hn) ∙ sym hb

    pub automata_beyond : b ≡ true → None ≡ automata_at t at c
    unfolding automata_at
    automata_beyond h = when_false _ _ (ap not (same_beyond ∙ h))

    pub automata_good : b ≡ false → (r : Option Line) → r ≡ number_at t at 1 16 → r ≡ automata_at t at c
    unfolding automata_at
    automata_good h r e = e ∙ when_true _ _ (ap not (same_beyond ∙ h))

pub ruleset automata_laws = (automata_end, automata_beyond, automata_good)

-- `sync`
module _ (t : List ℕ) (at a : ℕ) where
  pub sync_end : length t ≤ at → None ≡ sync_at t at a
  unfolding sync_at
  sync_end h = when_false _ _ (no_left (ltb (at + 1) (length t)) (rises (capped a) 0 (set_of (get_or t at 0) (get_or t (at + 1) 0))) (le-ltb (at + 1) (length t) (omega arith)))

  pub sync_short : length t ≤ at + 1 → None ≡ sync_at t at a
  unfolding sync_at
  sync_short h = when_false _ _ (no_left (ltb (at + 1) (length t)) (rises (capped a) 0 (set_of (get_or t at 0) (get_or t (at + 1) 0))) (le-ltb (at + 1) (length t) h))

  module _ (k : ℕ) (hk : k ≡ capped a) (p : Bool) (hp : p ≡ rises k 0 (set_of (get_or t at 0) (get_or t (at + 1) 0))) where
    same_cap : rises (capped a) 0 (set_of (get_or t at 0) (get_or t (at + 1) 0)) ≡ p
    unfolding capped
    same_cap = ap (λ (x : ℕ). rises x 0 (set_of (get_or t at 0) (get_or t (at + 1) 0))) (sym hk) ∙ sym hp

    pub sync_good : at + 1 < length t → p ≡ true → a_line 0 0 (at + 2) ≡ sync_at t at a
    unfolding sync_at
    sync_good h e = when_true _ _ (and_intro (lt-ltb (at + 1) (length t) h) (same_cap ∙ e))

    pub sync_bad : p ≡ false → None ≡ sync_at t at a
    unfolding sync_at
    sync_bad e = when_false _ _ (and_no_right (ltb (at + 1) (length t)) (rises (capped a) 0 (set_of (get_or t at 0) (get_or t (at + 1) 0))) (same_cap ∙ e))

pub ruleset sync_laws = (sync_end, sync_short, sync_good, sync_bad)

-- `edges`
module _ (t : List ℕ) (at : ℕ) (c : Counts) where
  pub edges_end : length t ≤ at → None ≡ edges_at t at c
  unfolding edges_at
  edges_end h = when_false _ _ (no_left (ltb at (length t)) (leb (c.edges + get_or t at 0) max_edges) (le-ltb at (length t) h))

  module _ (n : ℕ) (e : n ≡ get_or t at 0) (q : Bool) (hq : q ≡ leb (c.edges + n) 512) where
    same_edges : leb (c.edges + get_or t at 0) max_edges ≡ q
    same_edges = ap (λ (x : ℕ). leb (c.edges + x) max_edges) (sym e) ∙ sym hq

    pub edges_good : at < length t → q ≡ true → a_line n 0 (at + 1) ≡ edges_at t at c
    unfolding edges_at
    edges_good h g = ap (λ (x : ℕ). a_line x 0 (at + 1)) e ∙ when_true (ltb at (length t) && leb (c.edges + get_or t at 0) max_edges) (a_line (get_or t at 0) 0 (at + 1)) (and_intro (lt-ltb at (length t) h) (same_edges ∙ g))

    pub edges_bad : q ≡ false → None ≡ edges_at t at c
    unfolding edges_at
    edges_bad g = when_false _ _ (and_no_right (ltb at (length t)) (leb (c.edges + get_or t at 0) max_edges) (same_edges ∙ g))

pub ruleset edges_laws = (edges_end, edges_good, edges_bad)

-- `ends_sound`
pub ends_by : (c : Counts) (f a g : ℕ) → ((leb f 31 && (leb a 63 && leb g 31)) && (ltb f c.locations && (leb a c.actions && ltb g c.locations))) ≡ ends_sound c f a g
unfolding ends_sound
ends_by c f a g = refl

-- `owns`
module _ (t : List ℕ) (at : ℕ) (c : Counts) (nodes : ℕ) where
  pub owns_early : c.format < 3 → true ≡ owns_at t c at nodes
  unfolding owns_at
  owns_early f = sym (or_left _ (lt-ltb c.format 3 f))

  module _ (late : 3 ≤ c.format) where
    pub owns_end : length t ≤ at → false ≡ owns_at t c at nodes
    unfolding owns_at
    owns_end e = sym (or_none (le-ltb c.format 3 late) (no_left (ltb at (length t)) _ (le-ltb at (length t) e)))

    module _ (there : at < length t) (rest : ℕ) (hr : rest ≡ rest_of all_variables (take nodes (drop (at + 1) t))) (ws : List ℕ) (hw : ws ≡ ranges_in t c.variables) (b : Bool) (hb : b ≡ foreign_in ws c.automata rest) where
      same_foreign : foreign_in (ranges_in t c.variables) c.automata (rest_of all_variables (take nodes (drop (at + 1) t))) ≡ b
      unfolding foreign_in
      same_foreign = ap₂ (λ (x : List ℕ) (y : ℕ). foreign_in x c.automata y) (sym hw) (sym hr) ∙ sym hb

      pub owns_by : not b ≡ owns_at t c at nodes
      unfolding owns_at
      owns_by = sym (rw (le-ltb c.format 3 late, lt-ltb at (length t) there, same_foreign))

pub ruleset owns_laws = (owns_early, owns_end, owns_by)

-- `edge`
module _ (t : List ℕ) (at : ℕ) (c : Counts) where
  abbrev both : Bool
  both = ends_sound c (get_or t at 0) (get_or t (at + 1) 0) (get_or t (at + 2) 0)

  pub edge_end : length t ≤ at → None ≡ edge_at t at c
  unfolding edge_at
  edge_end h = when_false _ _ (no_left (ltb (at + 2) (length t)) both (le-ltb (at + 2) (length t) (omega arith)))

  pub edge_short : length t - at ≤ 2 → None ≡ edge_at t at c
  unfolding edge_at
  edge_short h = when_false _ _ (no_left (ltb (at + 2) (length t)) both (le-ltb (at + 2) (length t) (omega arith)))

  module _ (f a g : ℕ) (hf : f ≡ get_or t at 0) (ha : a ≡ get_or t (at + 1) 0) (hg : g ≡ get_or t (at + 2) 0) (q : Bool) (hq : q ≡ ends_sound c f a g) where
    same_ends : both ≡ q
    unfolding ends_sound
    same_ends = ap (λ (x : ℕ). ends_sound c x (get_or t (at + 1) 0) (get_or t (at + 2) 0)) (sym hf) ∙ ap (λ (x : ℕ). ends_sound c f x (get_or t (at + 2) 0)) (sym ha) ∙ ap (λ (x : ℕ). ends_sound c f a x) (sym hg) ∙ sym hq

    pub edge_unsound : not q ≡ true → None ≡ edge_at t at c
    unfolding edge_at
    edge_unsound h = when_false _ _ (and_no_right (ltb (at + 2) (length t)) both (same_ends ∙ not-true q h))

    module _ (l : 2 < length t - at) (h : not q ≡ false) (p : Option Line) (hp : p ≡ predicate_at t (at + 3) c) where
      good_ends : owning t c (at + 3) p ≡ edge_at t at c
      unfolding edge_at owning
      good_ends = ap (owning t c (at + 3)) hp ∙ when_true _ _ (and_intro (lt-ltb (at + 2) (length t) (omega arith)) (same_ends ∙ not-false q h))

      pub edge_lineless : p ≡ None → None ≡ edge_at t at c
      edge_lineless e = unfold owning in rw e at good_ends

      module _ (x : Line) (e : p ≡ Some x) (b : Bool) (hb : b ≡ owns_at t c (at + 3) x.nodes) where
        pub edge_foreign : not b ≡ true → None ≡ edge_at t at c
        edge_foreign k = unfold owning when in rw (e, ← hb, not-true b k) at good_ends

        pub edge_good : not b ≡ false → Some x ≡ edge_at t at c
        edge_good k = unfold owning when in rw (e, ← hb, not-false b k) at good_ends

pub ruleset edge_laws = (edge_end, edge_short, edge_unsound, edge_lineless, edge_foreign, edge_good)

-- `line`
module _ (t : List ℕ) (at : ℕ) (c : Counts) (k : Key) where
  pub line_format : k ≡ Format → (r : Option Line) → r ≡ number_at t at first_format last_format → r ≡ line_at t at k c
  unfolding line_at
  line_format h r e = rw h e

  pub line_actions : k ≡ Actions → (r : Option Line) → r ≡ number_at t at 0 63 → r ≡ line_at t at k c
  unfolding line_at
  line_actions h r e = rw h e

  pub line_variables : k ≡ Variables → (r : Option Line) → r ≡ number_at t at 0 48 → r ≡ line_at t at k c
  unfolding line_at
  line_variables h r e = rw h e

  pub line_variable : k ≡ Variable → (r : Option Line) → r ≡ variable_at t at c.format → r ≡ line_at t at k c
  unfolding line_at
  line_variable h r e = rw h e

  pub line_automata : k ≡ Automata → (r : Option Line) → r ≡ automata_at t at c → r ≡ line_at t at k c
  unfolding line_at
  line_automata h r e = rw h e

  pub line_sync : k ≡ Sync → (r : Option Line) → r ≡ sync_at t at c.actions → r ≡ line_at t at k c
  unfolding line_at
  line_sync h r e = rw h e

  pub line_locations : k ≡ Locations → (r : Option Line) → r ≡ number_at t at 1 32 → r ≡ line_at t at k c
  unfolding line_at
  line_locations h r e = rw h e

  pub line_init : k ≡ Init → (r : Option Line) → r ≡ location_at t at c → r ≡ line_at t at k c
  unfolding line_at
  line_init h r e = rw h e

  pub line_inv : k ≡ Inv → (r : Option Line) → r ≡ location_at t at c → r ≡ line_at t at k c
  unfolding line_at
  line_inv h r e = rw h e

  pub line_edges : k ≡ Edges → (r : Option Line) → r ≡ edges_at t at c → r ≡ line_at t at k c
  unfolding line_at
  line_edges h r e = rw h e

  pub line_edge : k ≡ Edge → (r : Option Line) → r ≡ edge_at t at c → r ≡ line_at t at k c
  unfolding line_at
  line_edge h r e = rw h e

  pub line_compose : k ≡ Compose → (r : Option Line) → r ≡ compose_at t at c → r ≡ line_at t at k c
  unfolding line_at
  line_compose h r e = rw h e

  pub line_end : k ≡ End → None ≡ line_at t at k c
  unfolding line_at
  line_end h = rw h

pub ruleset line_laws = (line_format, line_actions, line_variables, line_variable, line_automata, line_sync, line_locations, line_init, line_inv, line_edges, line_edge, line_compose, line_end)
