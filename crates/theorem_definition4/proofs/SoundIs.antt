-- Theorems 5 to 8: the linear rules say of a composition what the symbolic rules say, by induction over its structure.
use mathlib.Core.Path.{◌≡◌, refl, sym, ap, ap₂, ◌∙◌, subst, subst₂}
use mathlib.Core.Bool.{Bool, true, false, ◌&&◌, ◌||◌, and_assoc, or_comm, or-false}
use mathlib.Core.List.Memᴰ
use mathlib.Core.List.{List, [], ◌∷◌, ◌++◌, map, Memᴰ}
use Prim.Native.Nat.{ℕ, suc, ◌+◌, ◌<◌}
use native.Mathlib.Omega.{arith}
use lib.ListN.{length, get_or, length-append, get_or-map}
use lib.Dec.{eqb}
use Rattle.model.specs.Basic.{member}
use Rattle.model.specs.Predicate.{Pred, all, none}
use Rattle.model.specs.Composition.{Tree, par, syn, ini, leaf}
use Rattle.model.specs.Model.{Model, Location, Edge, automaton, location, nowhere}
use Rattle.model.specs.Lawful.{Lawful}
use Rattle.model.proofs.Tests.{and_left, and_right, and_intro, eq_of, eq_self, exists_append}
use Rattle.model.proofs.Numbered.{size}
use Rattle.model.proofs.Merged.{automaton_at_lem}
use Rattle.theorem_definition4.specs.Table2.{SymbolicEnvironment, rule_9, rule_12, rule_14, environment_ini, SymbolicAction, rule_8, rule_10, rule_11_left, rule_11_right, rule_13, action_ini}
use Rattle.theorem_definition4.specs.Table3.{Position, at, WildCards, wild_15, wild_16, wild_20, wild_ini, Leads, rule_15, rule_16, rule_20, rule_ini, StartConditions, start_15, start_16, start_20, start_ini}
use Rattle.theorem_definition4.specs.Table3.{Syncs, sync_15, sync_16, sync_20, sync_ini, Transition, rule_17, rule_18_left, rule_18_right, rule_19, rule_21, transition_ini}
use Rattle.theorem_definition4.specs.Sound.{LocationsOf, of_leaf, of_par, of_syn, of_ini, chosen, fits, below, put, overwritten, LeadsTo, StepsTo, LinearIsSymbolic}
use Rattle.theorem_definition4.proofs.Table3Is.{wilds_to, syncs_one}

-- the functions of Sound over two sides' sequences
module _ {X Y : Type 0} (f : X → ℕ → Y) (F : List X → List ℕ → List Y) (empty : F [] [] ≡ []) (first : (x : X) (xs : List X) (l : ℕ) (ls : List ℕ) → F (x ∷ xs) (l ∷ ls) ≡ f x l ∷ F xs ls) where
  item_by_item : (xs ys : List X) (ls ks : List ℕ) → length xs ≡ length ls → F (xs ++ ys) (ls ++ ks) ≡ F xs ls ++ F ys ks
  item_by_item [] ys [] ks h = ap (λ zs. zs ++ F ys ks) (sym empty)
  item_by_item [] ys (l ∷ ls) ks h = absurd (omega arith)
  item_by_item (x ∷ xs) ys [] ks h = absurd (omega arith)
  item_by_item (x ∷ xs) ys (l ∷ ls) ks h =
      first x (xs ++ ys) l (ls ++ ks) ∙ ap (λ zs. f x l ∷ zs) (item_by_item xs ys ls ks (omega arith)) ∙ ap (λ zs. zs ++ F ys ks) (sym (first x xs l ls))

chosen_append : (fs gs : List (List Pred)) (ls ks : List ℕ) → length fs ≡ length ls → chosen (fs ++ gs) (ls ++ ks) ≡ chosen fs ls ++ chosen gs ks
unfolding chosen
chosen_append = item_by_item (λ f l. get_or f l (all none)) chosen refl (λ f fs l ls. refl)

overwritten_append : (vs ws : List Position) (ls ks : List ℕ) → length vs ≡ length ls → overwritten (vs ++ ws) (ls ++ ks) ≡ overwritten vs ls ++ overwritten ws ks
unfolding overwritten
overwritten_append = item_by_item put overwritten refl (λ v vs l ls. refl)

below_append : (vs ws : List Position) (ls ks : List ℕ) → length vs ≡ length ls → below (vs ++ ws) (ls ++ ks) ≡ (below vs ls && below ws ks)
unfolding below
below_append [] ws [] ks h = refl
below_append [] ws (l ∷ ls) ks h = absurd (omega arith)
below_append (v ∷ vs) ws [] ks h = absurd (omega arith)
below_append (v ∷ vs) ws (l ∷ ls) ks h =
    ap (λ b. fits v l && b) (below_append vs ws ls ks (omega arith)) ∙ sym (and_assoc (fits v l) (below vs ls) (below ws ks))

overwritten_length : (vs : List Position) (ls : List ℕ) → length vs ≡ length ls → length (overwritten vs ls) ≡ length ls
unfolding overwritten
overwritten_length [] ls h = refl
overwritten_length (v ∷ vs) [] h = absurd (omega arith)
overwritten_length (v ∷ vs) (l ∷ ls) h = ap suc (overwritten_length vs ls (omega arith))

member_append : (a : ℕ) (A B : List ℕ) → member a (A ++ B) ≡ (member a A || member a B)
unfolding member
member_append a A B = exists_append (eqb a) A B

-- every sequence has an item for each automaton
two_long : {X : Type 0} (c d : Tree) (xs ys : List X) → length xs ≡ size c → length ys ≡ size d → length (xs ++ ys) ≡ size (par c d)
unfolding size
two_long c d xs ys p q = length-append xs ys ∙ ap₂ (λ (j k : ℕ). j + k) p q

wilds_long : {c : Tree} {xs : List Position} → WildCards c xs → length xs ≡ size c
unfolding size
wilds_long wild_15 = refl
wilds_long (wild_16 {c = c} {d = d} {xs = xs} {ys = ys} p q) = two_long c d xs ys (wilds_long p) (wilds_long q)
wilds_long (wild_20 p) = wilds_long p
wilds_long (wild_ini p) = wilds_long p

module _ {m : Model} where
  leads_long : {part : Location → Pred} {c : Tree} {fs : List (List Pred)} → Leads m part c fs → length fs ≡ size c
  unfolding size
  leads_long rule_15 = refl
  leads_long (rule_16 {c = c} {d = d} {fs = fs} {gs = gs} p q) = two_long c d fs gs (leads_long p) (leads_long q)
  leads_long (rule_20 p) = leads_long p
  leads_long (rule_ini p) = leads_long p

  located_long : {c : Tree} {ls : List ℕ} → LocationsOf m c ls → length ls ≡ size c
  unfolding size
  located_long (of_leaf h) = refl
  located_long (of_par {c = c} {d = d} {ls = ls} {ks = ks} p q) = two_long c d ls ks (located_long p) (located_long q)
  located_long (of_syn p) = located_long p
  located_long (of_ini p) = located_long p

  transition_long : {a : ℕ} {c : Tree} {vs : List Position} {r : List Pred} {vs' : List Position} → Transition m a c vs r vs' → (length vs ≡ size c) × (length vs' ≡ size c)
  unfolding size
  transition_long (rule_17 h q) = (refl, refl)
  transition_long (rule_18_left {c = c} {d = d} {vs = vs} {vs' = vs'} {xs = xs} t s p n) =
      let x = transition_long t in
      let y = wilds_long p in
      (two_long c d vs xs x.0 y, two_long c d vs' xs x.1 y)
  transition_long (rule_18_right {c = c} {d = d} {vs = vs} {vs' = vs'} {xs = xs} t s p n) =
      let x = transition_long t in
      let y = wilds_long p in
      (two_long c d xs vs y x.0, two_long c d xs vs' y x.1)
  transition_long (rule_19 {c = c} {d = d} {vs = vs} {vs' = vs'} {ws = ws} {ws' = ws'} t u s z p q) =
      let x = transition_long t in
      let y = transition_long u in
      (two_long c d vs ws x.0 y.0, two_long c d vs' ws' x.1 y.1)
  transition_long (rule_21 t) = transition_long t
  transition_long (transition_ini t) = transition_long t

  -- a side at rest: its wild-cards fit everywhere and overwrite nothing
  rest_fits : {c : Tree} {xs : List Position} {ls : List ℕ} → WildCards c xs → LocationsOf m c ls → (below xs ls ≡ true) × (overwritten xs ls ≡ ls)
  unfolding below fits overwritten put
  rest_fits wild_15 (of_leaf h) = (refl, refl)
  rest_fits (wild_16 {xs = xs} {ys = ys} p q) (of_par {ls = ls} {ks = ks} x y) =
      let long = wilds_long p ∙ sym (located_long x) in
      let s = rest_fits p x in
      let t = rest_fits q y in
      (below_append xs ys ls ks long ∙ and_intro s.0 t.0, overwritten_append xs ys ls ks long ∙ ap₂ (λ ls ks. ls ++ ks) s.1 t.1)
  rest_fits (wild_20 p) (of_syn x) = rest_fits p x
  rest_fits (wild_ini p) (of_ini x) = rest_fits p x

-- a leaf's functions are its automaton's
leaf_chosen : (m : Model) (part : Location → Pred) → part nowhere ≡ all none → (k v : ℕ)
    → part (location m k v) ∷ [] ≡ chosen (map part (automaton m k).locations ∷ []) (v ∷ [])
unfolding chosen
leaf_chosen m part e k v =
    ap (λ p. p ∷ []) (sym (get_or-map part (automaton m k).locations v nowhere) ∙ ap (get_or (map part (automaton m k).locations) v) e)

module _ {m : Model} where
  -- Theorem 5: what a composition leads to, at a location of each automaton
  rests : {c : Tree} {ls : List ℕ} {fs gs : List (List Pred)} {us : List Pred} {A : List ℕ}
      → LocationsOf m c ls → Leads m (λ x. x.init) c fs → StartConditions c us → Leads m (λ x. x.inv) c gs → Syncs m c A
      → SymbolicEnvironment m c (chosen fs ls) us (chosen gs ls) A ls
  rests (of_leaf {k = k} {v = v} h) rule_15 start_15 rule_15 sync_15 =
      subst₂ (λ u n. SymbolicEnvironment m (leaf k) u [] n (automaton m k).sync (v ∷ [])) (leaf_chosen m (λ x. x.init) refl k v) (leaf_chosen m (λ x. x.inv) refl k v) (rule_9 h)
  rests (of_par {c = c} {d = d} {ls = ls} {ks = ks} x y) (rule_16 {fs = fs} {gs = fs'} f f') (start_16 {us = us} {ws = ws} i i') (rule_16 {fs = gs} {gs = gs'} g g') (sync_16 {A = A} {B = B} s s') =
      subst₂ (λ u n. SymbolicEnvironment m (par c d) u (us ++ ws) n (A ++ B) (ls ++ ks))
      (sym (chosen_append fs fs' ls ks (leads_long f ∙ sym (located_long x))))
      (sym (chosen_append gs gs' ls ks (leads_long g ∙ sym (located_long x))))
      (rule_12 (rests x f i g s) (rests y f' i' g' s'))
  rests (of_syn x) (rule_20 f) (start_20 i) (rule_20 g) (sync_20 s) = rule_14 (rests x f i g s)
  rests (of_ini x) (rule_ini f) (start_ini i) (rule_ini g) (sync_ini s) = environment_ini (rests x f i g s)

  leads_rests : {c : Tree} {ls : List ℕ} {u s n : List Pred} {A : List ℕ} → LeadsTo m c ls u s n A → SymbolicEnvironment m c u s n A ls
  leads_rests {c = c} {ls = ls} {s = s} {A = A} x =
      subst₂ (λ u n. SymbolicEnvironment m c u s n A ls) (sym x.init) (sym x.inv) (rests x.located x.leads_fs x.starts x.leads_gs x.leads_A)

  -- Theorem 6: the parts of an environment transition lead to the parts of its labels
  abbrev lead_leaf : {k v : ℕ} → v < length (automaton m k).locations → LeadsTo m (leaf k) (v ∷ []) ((location m k v).init ∷ []) [] ((location m k v).inv ∷ []) (automaton m k).sync
  lead_leaf {k} {v} h = record {
    located = of_leaf h;
    fs = map (λ x. x.init) (automaton m k).locations ∷ [];
    gs = map (λ x. x.inv) (automaton m k).locations ∷ [];
    leads_fs = rule_15;
    leads_gs = rule_15;
    leads_A = sync_15;
    init = leaf_chosen m (λ x. x.init) refl k v;
    starts = start_15;
    inv = leaf_chosen m (λ x. x.inv) refl k v;
  }

  abbrev lead_par : {c d : Tree} {ls ks : List ℕ} {u s n w t q : List Pred} {A B : List ℕ} → LeadsTo m c ls u s n A → LeadsTo m d ks w t q B
      → LeadsTo m (par c d) (ls ++ ks) (u ++ w) (s ++ t) (n ++ q) (A ++ B)
  lead_par {ls = ls} {ks = ks} x y = record {
    located = of_par x.located y.located;
    fs = x.fs ++ y.fs;
    gs = x.gs ++ y.gs;
    leads_fs = rule_16 x.leads_fs y.leads_fs;
    leads_gs = rule_16 x.leads_gs y.leads_gs;
    leads_A = sync_16 x.leads_A y.leads_A;
    init = ap₂ (λ u w. u ++ w) x.init y.init ∙ sym (chosen_append x.fs y.fs ls ks (leads_long x.leads_fs ∙ sym (located_long x.located)));
    starts = start_16 x.starts y.starts;
    inv = ap₂ (λ u w. u ++ w) x.inv y.inv ∙ sym (chosen_append x.gs y.gs ls ks (leads_long x.leads_gs ∙ sym (located_long x.located)));
  }

  abbrev lead_syn : (list : List ℕ) {c : Tree} {ls : List ℕ} {u s n : List Pred} {A : List ℕ} → LeadsTo m c ls u s n A → LeadsTo m (syn list c) ls u s n (list ++ A)
  lead_syn list x = record {
    located = of_syn x.located;
    fs = x.fs;
    gs = x.gs;
    leads_fs = rule_20 x.leads_fs;
    leads_gs = rule_20 x.leads_gs;
    leads_A = sync_20 x.leads_A;
    init = x.init;
    starts = start_20 x.starts;
    inv = x.inv;
  }

  abbrev lead_ini : (p : Pred) {c : Tree} {ls : List ℕ} {u s n : List Pred} {A : List ℕ} → LeadsTo m c ls u s n A → LeadsTo m (ini p c) ls u (p ∷ s) n A
  lead_ini p x = record {
    located = of_ini x.located;
    fs = x.fs;
    gs = x.gs;
    leads_fs = rule_ini x.leads_fs;
    leads_gs = rule_ini x.leads_gs;
    leads_A = sync_ini x.leads_A;
    init = x.init;
    starts = start_ini x.starts;
    inv = x.inv;
  }

  rests_leads : {c : Tree} {ls : List ℕ} {u s n : List Pred} {A : List ℕ} → SymbolicEnvironment m c u s n A ls → LeadsTo m c ls u s n A
  rests_leads (rule_9 h) = lead_leaf h
  rests_leads (rule_12 p q) = lead_par (rests_leads p) (rests_leads q)
  rests_leads (rule_14 {list = list} p) = lead_syn list (rests_leads p)
  rests_leads (environment_ini {p = p} q) = lead_ini p (rests_leads q)

-- Theorem 7: a linear transition at locations that it fits is a symbolic one
module _ {m : Model} {a : ℕ} where
  -- the same transition under labels that are equal
  acts_as : {c : Tree} {b b⁺ : Bool} {u u⁺ s n n⁺ n' n'⁺ r : List Pred} {ks ks⁺ : List ℕ}
      → b ≡ b⁺ → u ≡ u⁺ → n ≡ n⁺ → n' ≡ n'⁺ → ks ≡ ks⁺ → SymbolicAction m a c b u s n n' r ks → SymbolicAction m a c b⁺ u⁺ s n⁺ n'⁺ r ks⁺
  acts_as {c = c} {b⁺ = b⁺} {u⁺ = u⁺} {s = s} {n = n} {n⁺ = n⁺} {n' = n'} {n'⁺ = n'⁺} {r = r} {ks = ks} p q f g v x =
      subst (λ js. SymbolicAction m a c b⁺ u⁺ s n⁺ n'⁺ r js) v
      (subst₂ (λ i j. SymbolicAction m a c b⁺ u⁺ s i j r ks) f g
      (subst₂ (λ i j. SymbolicAction m a c i j s n n' r ks) p q x))

  -- what two sides do is told of the whole
  module _ {c d : Tree} (fs fs' gs gs' : List (List Pred)) (ls ks : List ℕ) (vs ws : List Position)
      (f : length fs ≡ length ls) (g : length gs ≡ length ls) (v : length vs ≡ length ls) where
    acts_par : {b b⁺ : Bool} {s r : List Pred} → b ≡ b⁺
        → SymbolicAction m a (par c d) b (chosen fs ls ++ chosen fs' ks) s (chosen gs ls ++ chosen gs' ks) (chosen gs (overwritten vs ls) ++ chosen gs' (overwritten ws ks)) r (overwritten vs ls ++ overwritten ws ks)
        → SymbolicAction m a (par c d) b⁺ (chosen (fs ++ fs') (ls ++ ks)) s (chosen (gs ++ gs') (ls ++ ks)) (chosen (gs ++ gs') (overwritten (vs ++ ws) (ls ++ ks))) r (overwritten (vs ++ ws) (ls ++ ks))
    acts_par e x =
        let there = sym (overwritten_append vs ws ls ks v) in
        acts_as e (sym (chosen_append fs fs' ls ks f)) (sym (chosen_append gs gs' ls ks g))
        (sym (chosen_append gs gs' (overwritten vs ls) (overwritten ws ks) (g ∙ sym (overwritten_length vs ls v))) ∙ ap (chosen (gs ++ gs')) there)
        there x

  acts : {c : Tree} {vs vs' : List Position} {r : List Pred} {ls : List ℕ} {fs gs : List (List Pred)} {us : List Pred} {A : List ℕ}
      → Transition m a c vs r vs' → LocationsOf m c ls → Leads m (λ x. x.init) c fs → StartConditions c us → Leads m (λ x. x.inv) c gs → Syncs m c A → below vs ls ≡ true
      → SymbolicAction m a c (member a A) (chosen fs ls) us (chosen gs ls) (chosen gs (overwritten vs' ls)) r (overwritten vs' ls)
  unfolding below fits overwritten put
  acts (rule_17 {k = k} {e = e} i q) (of_leaf {v = v} l) rule_15 start_15 rule_15 sync_15 h =
      let same : e.from ≡ v = eq_of e.from v (and_left (eqb e.from v) true h) in
      let init_at : ℕ → List Pred = λ j. chosen (map (λ (x : Location). x.init) (automaton m k).locations ∷ []) (j ∷ []) in
      let inv_at : ℕ → List Pred = λ j. chosen (map (λ (x : Location). x.inv) (automaton m k).locations ∷ []) (j ∷ []) in
      acts_as refl (leaf_chosen m (λ x. x.init) refl k e.from ∙ ap init_at same) (leaf_chosen m (λ x. x.inv) refl k e.from ∙ ap inv_at same)
      (leaf_chosen m (λ x. x.inv) refl k e.to) refl (rule_8 i q)
  acts (rule_18_left {vs = vs} {vs' = vs'} {xs = xs} t z p n) (of_par {ls = ls} {ks = ks} x y) (rule_16 {fs = fs} {gs = fs'} f f') (start_16 j j') (rule_16 {fs = gs} {gs = gs'} g g') (sync_16 {A = A} {B = B} s s') h =
      let long = located_long x in
      let free : member a B ≡ false = ap (member a) (syncs_one m s' z) ∙ n in
      let here = and_left (below vs ls) (below xs ks) (sym (below_append vs xs ls ks ((transition_long t).0 ∙ sym long)) ∙ h) in
      acts_par fs fs' gs gs' ls ks vs' xs (leads_long f ∙ sym long) (leads_long g ∙ sym long) ((transition_long t).1 ∙ sym long)
      (sym (member_append a A B ∙ ap (λ b. member a A || b) free ∙ or-false (member a A)))
      (rw (rest_fits p y).1 (rule_11_left (acts t x f j g s here) (rests y f' j' g' s') free))
  acts (rule_18_right {vs = vs} {vs' = vs'} {xs = xs} t z p n) (of_par {ls = ls} {ks = ks} x y) (rule_16 {fs = fs} {gs = fs'} f f') (start_16 j j') (rule_16 {fs = gs} {gs = gs'} g g') (sync_16 {A = A} {B = B} s s') h =
      let long = located_long x in
      let free : member a A ≡ false = ap (member a) (syncs_one m s z) ∙ n in
      let here = and_right (below xs ls) (below vs ks) (sym (below_append xs vs ls ks (wilds_long p ∙ sym long)) ∙ h) in
      acts_par fs fs' gs gs' ls ks xs vs' (leads_long f ∙ sym long) (leads_long g ∙ sym long) (wilds_long p ∙ sym long)
      (sym (member_append a A B ∙ ap (λ b. b || member a B) free))
      (rw (rest_fits p x).1 (rule_11_right (rests x f j g s) (acts t y f' j' g' s' here) free))
  acts (rule_19 {vs = vs} {vs' = vs'} {ws = ws} {ws' = ws'} t t' z z' n n') (of_par {ls = ls} {ks = ks} x y) (rule_16 {fs = fs} {gs = fs'} f f') (start_16 j j') (rule_16 {fs = gs} {gs = gs'} g g') (sync_16 {A = A} {B = B} s s') h =
      let long = located_long x in
      let both = sym (below_append vs ws ls ks ((transition_long t).0 ∙ sym long)) ∙ h in
      let in_A : member a A ≡ true = ap (member a) (syncs_one m s z) ∙ n in
      let in_B : member a B ≡ true = ap (member a) (syncs_one m s' z') ∙ n' in
      acts_par fs fs' gs gs' ls ks vs' ws' (leads_long f ∙ sym long) (leads_long g ∙ sym long) ((transition_long t).1 ∙ sym long)
      (sym (member_append a A B ∙ ap (λ b. b || member a B) in_A))
      (rule_10
      (acts_as in_A refl refl refl refl (acts t x f j g s (and_left (below vs ls) (below ws ks) both)))
      (acts_as in_B refl refl refl refl (acts t' y f' j' g' s' (and_right (below vs ls) (below ws ks) both))))
  acts (rule_21 {list = list} t) (of_syn x) (rule_20 f) (start_20 j) (rule_20 g) (sync_20 {A = A} s) h =
      acts_as (or_comm (member a A) (member a list) ∙ sym (member_append a list A)) refl refl refl refl (rule_13 (acts t x f j g s h))
  acts (transition_ini t) (of_ini x) (rule_ini f) (start_ini j) (rule_ini g) (sync_ini s) h = action_ini (acts t x f j g s h)

  steps_acts : {c : Tree} {b : Bool} {u s n n' r : List Pred} {ls ks : List ℕ} → StepsTo m c a b u s n n' r ls ks → SymbolicAction m a c b u s n n' r ks
  steps_acts x =
      let l = x.leads in
      acts_as (sym x.marked) (sym l.init) (sym l.inv) (ap (chosen l.gs) (sym x.reached) ∙ sym x.inv') (sym x.reached)
      (acts x.transition l.located l.leads_fs l.starts l.leads_gs l.leads_A x.matched)

-- Theorem 8: a symbolic transition is a linear one at locations that it fits
module _ {m : Model} where
  -- what a side does, or does not if it is at rest: all of a step but its transition and its mark
  record Side (c : Tree) (ls : List ℕ) (u s n : List Pred) (A : List ℕ) (leads : LeadsTo m c ls u s n A) (vs vs' : List Position) (n' : List Pred) (ks : List ℕ) : Type 0 where
    long : length vs ≡ length ls
    long' : length vs' ≡ length ls
    matched : below vs ls ≡ true
    reached : ks ≡ overwritten vs' ls
    inv' : n' ≡ chosen leads.gs ks

  steps_side : {c : Tree} {a : ℕ} {b : Bool} {u s n n' r : List Pred} {ls ks : List ℕ} → (x : StepsTo m c a b u s n n' r ls ks)
      → Side c ls u s n x.A x.leads x.vs x.vs' n' ks
  steps_side x =
      let long = sym (located_long x.leads.located) in
      let both = transition_long x.transition in
      record { long = both.0 ∙ long; long' = both.1 ∙ long; matched = x.matched; reached = x.reached; inv' = x.inv' }

  rest_side : {c : Tree} {ls : List ℕ} {u s n : List Pred} {A : List ℕ} {xs : List Position} (x : LeadsTo m c ls u s n A) → WildCards c xs
      → Side c ls u s n A x xs xs n ls
  rest_side x p =
      let long = wilds_long p ∙ sym (located_long x.located) in
      let fit = rest_fits p x.located in
      record { long = long; long' = long; matched = fit.0; reached = sym fit.1; inv' = x.inv }

  side_par : {c d : Tree} {ls js : List ℕ} {u s n w t q : List Pred} {A B : List ℕ} {x : LeadsTo m c ls u s n A} {y : LeadsTo m d js w t q B}
      {vs vs' ws ws' : List Position} {n' q' : List Pred} {ks is : List ℕ}
      → Side c ls u s n A x vs vs' n' ks → Side d js w t q B y ws ws' q' is
      → Side (par c d) (ls ++ js) (u ++ w) (s ++ t) (n ++ q) (A ++ B) (lead_par x y) (vs ++ ws) (vs' ++ ws') (n' ++ q') (ks ++ is)
  side_par {ls = ls} {js = js} {x = x} {y = y} {vs = vs} {vs' = vs'} {ws = ws} {ws' = ws'} {ks = ks} {is = is} h k =
      let located = located_long x.located in
      let few = leads_long x.leads_gs ∙ sym located ∙ sym (overwritten_length vs' ls h.long') ∙ ap length (sym h.reached) in
      record {
        long = length-append vs ws ∙ ap₂ (λ (i j : ℕ). i + j) h.long k.long ∙ sym (length-append ls js);
        long' = length-append vs' ws' ∙ ap₂ (λ (i j : ℕ). i + j) h.long' k.long' ∙ sym (length-append ls js);
        matched = below_append vs ws ls js h.long ∙ and_intro h.matched k.matched;
        reached = ap₂ (λ ks is. ks ++ is) h.reached k.reached ∙ sym (overwritten_append vs' ws' ls js h.long');
        inv' = ap₂ (λ n q. n ++ q) h.inv' k.inv' ∙ sym (chosen_append x.gs y.gs ks is few);
      }

  -- under a `syn` or an `ini`
  side_over : {c d : Tree} {ls : List ℕ} {u s t n : List Pred} {A B : List ℕ} {x : LeadsTo m c ls u s n A} {y : LeadsTo m d ls u t n B}
      {vs vs' : List Position} {n' : List Pred} {ks : List ℕ}
      → Side c ls u s n A x vs vs' n' ks → x.gs ≡ y.gs → Side d ls u t n B y vs vs' n' ks
  side_over {ks = ks} h e =
      record { long = h.long; long' = h.long'; matched = h.matched; reached = h.reached; inv' = h.inv' ∙ ap (λ gs. chosen gs ks) e }

  -- with its transition it is a step
  side_steps : {c : Tree} {a : ℕ} {b : Bool} {u s n n' r : List Pred} {ls ks A : List ℕ} {vs vs' : List Position} (x : LeadsTo m c ls u s n A)
      → Side c ls u s n A x vs vs' n' ks → Transition m a c vs r vs' → b ≡ member a A → StepsTo m c a b u s n n' r ls ks
  side_steps {A = A} {vs = vs} {vs' = vs'} x h t e =
      record { A = A; leads = x; vs = vs; vs' = vs'; transition = t; matched = h.matched; reached = h.reached; inv' = h.inv'; marked = e }

  -- row 12: an edge begins in a location of its automaton
  edge_begins : Lawful m → (k : ℕ) (e : Edge) → Memᴰ e (automaton m k).edges → e.from < length (automaton m k).locations
  edge_begins lawful k e =
      automaton_at_lem m lawful (λ x. Memᴰ e x.edges → e.from < length x.locations) (λ i. absurd (Memᴰ.not-nil i)) (λ x h i. (h.edges e i).from) k

  acts_steps : Lawful m → {a : ℕ} {c : Tree} {b : Bool} {u s n n' r : List Pred} {ks : List ℕ} → SymbolicAction m a c b u s n n' r ks
      → (ls : List ℕ) × StepsTo m c a b u s n n' r ls ks
  unfolding below fits overwritten put
  acts_steps lawful (rule_8 {k = k} {e = e} i q) = (
    e.from ∷ [],
    record {
      A = (automaton m k).sync;
      leads = lead_leaf (edge_begins lawful k e i);
      vs = at e.from ∷ [];
      vs' = at e.to ∷ [];
      transition = rule_17 i q;
      matched = and_intro (eq_self e.from) refl;
      reached = refl;
      inv' = leaf_chosen m (λ x. x.inv) refl k e.to;
      marked = refl;
    },
  )
  acts_steps lawful {a = a} (rule_10 p q) =
      let (ls, x) = acts_steps lawful p in
      let (js, y) = acts_steps lawful q in (
        ls ++ js,
        side_steps (lead_par x.leads y.leads) (side_par (steps_side x) (steps_side y))
            (rule_19 x.transition y.transition x.leads.leads_A y.leads.leads_A (sym x.marked) (sym y.marked))
            (sym (member_append a x.A y.A ∙ ap (λ b. b || member a y.A) (sym x.marked))),
      )
  acts_steps lawful {a = a} (rule_11_left {d = d} {A = A} {ks = ks} p q e) =
      let (ls, x) = acts_steps lawful p in
      let y = rests_leads q in
      let rest = wilds_to (λ e. e.from) d in (
        ls ++ ks,
        side_steps (lead_par x.leads y) (side_par (steps_side x) (rest_side y rest)) (rule_18_left x.transition y.leads_A rest e)
            (x.marked ∙ sym (member_append a x.A A ∙ ap (λ b. member a x.A || b) e ∙ or-false (member a x.A))),
      )
  acts_steps lawful {a = a} (rule_11_right {c = c} {A = A} {ks = ks} q p e) =
      let (ls, x) = acts_steps lawful p in
      let y = rests_leads q in
      let rest = wilds_to (λ e. e.from) c in (
        ks ++ ls,
        side_steps (lead_par y x.leads) (side_par (rest_side y rest) (steps_side x)) (rule_18_right x.transition y.leads_A rest e)
            (x.marked ∙ sym (member_append a A x.A ∙ ap (λ b. b || member a x.A) e)),
      )
  acts_steps lawful {a = a} (rule_13 {list = list} p) =
      let (ls, x) = acts_steps lawful p in (
        ls,
        side_steps (lead_syn list x.leads) (side_over (steps_side x) refl) (rule_21 x.transition)
            (ap (λ b. b || member a list) x.marked ∙ or_comm (member a x.A) (member a list) ∙ sym (member_append a list x.A)),
      )
  acts_steps lawful (action_ini {p = p} q) =
      let (ls, x) = acts_steps lawful q in
      (ls, side_steps (lead_ini p x.leads) (side_over (steps_side x) refl) (transition_ini x.transition) x.marked)

-- theorems 5 to 8 hold of every sheet within the limits
pub linear_is_symbolic : (m : Model) → Lawful m → LinearIsSymbolic m
linear_is_symbolic m lawful = record {
  theorem_5 = λ c ls u s n A x. leads_rests x;
  theorem_6 = λ c ls u s n A x. rests_leads x;
  theorem_7 = λ c a b u s n n' r ls ks x. steps_acts x;
  theorem_8 = λ c a b u s n n' r ks x. acts_steps lawful x;
}
