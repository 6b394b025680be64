-- Table 3: its transitions are the moves of specs/Moves, and what a composition leads to is one list, by its automata.
use mathlib.Core.Path.{◌≡◌, refl, sym, ap, ap₂, ◌∙◌, subst, subst₃}
use mathlib.Core.Bool.{true, ◌||◌}
use mathlib.Core.List.Memᴰ
use mathlib.Core.List.{List, [], ◌∷◌, ◌++◌, map, map-append, Memᴰ}
use mathlib.Core.Logic.{◌↔◌}
use Prim.Native.Nat.{ℕ, zero, suc, ◌+◌}
use lib.ListN.{length, get_or}
use lib.Dec.{eqb}
use Rattle.model.specs.Basic.{count_up, member}
use Rattle.model.specs.Predicate.{Pred}
use Rattle.model.specs.Composition.{Tree, par, syn, ini, leaf, leaves, starts}
use Rattle.model.specs.Model.{Model, Location, Edge, Automaton, automaton, nobody, in_set}
use Rattle.model.specs.Lawful.{Lawful}
use Rattle.model.specs.Rules.{Taker}
use Rattle.model.specs.Moves.{sides, under, alone, moves}
use Rattle.model.proofs.Tests.{eq_self, exists_append, or_same}
use Rattle.model.proofs.Numbered.{size, Numbered}
use Rattle.model.proofs.Takers.{under_in, under_out, pairs_in, Sides, both, left_one, right_one, sides_out, sides_left, sides_right}
use Rattle.theorem_definition4.specs.Table3.{Position, at, WildCards, wild_15, wild_16, wild_20, wild_ini, Leads, rule_15, rule_16, rule_20, rule_ini, StartConditions, start_15, start_16, start_20, start_ini}
use Rattle.theorem_definition4.specs.Table3.{Syncs, sync_15, sync_16, sync_20, sync_ini, Transition, rule_17, rule_18_left, rule_18_right, rule_19, rule_21, transition_ini}
use Rattle.theorem_definition4.proofs.Positions.{place, positions, LabelsOf, labels_par, labels_left, nobody_inside, moves_inside}

-- a composition leads to the wild-cards: where its automata are if none takes an edge
pub wilds_to : (part : Edge → ℕ) (c : Tree) → WildCards c (positions part c [])
unfolding positions place
wilds_to part (par c d) = wild_16 (wilds_to part c) (wilds_to part d)
wilds_to part (syn list c) = wild_20 (wilds_to part c)
wilds_to part (ini p c) = wild_ini (wilds_to part c)
wilds_to part (leaf k) = wild_15

-- and to no others
pub wilds_only : (part : Edge → ℕ) {c : Tree} {xs : List Position} → WildCards c xs → xs ≡ positions part c []
unfolding positions place
wilds_only part wild_15 = refl
wilds_only part (wild_16 p q) = ap₂ (λ xs ys. xs ++ ys) (wilds_only part p) (wilds_only part q)
wilds_only part (wild_20 p) = wilds_only part p
wilds_only part (wild_ini p) = wilds_only part p

-- so the wild-cards are one sequence
pub wilds_one : {c : Tree} {xs ys : List Position} → WildCards c xs → WildCards c ys → xs ≡ ys
wilds_one p q = wilds_only (λ e. e.from) p ∙ sym (wilds_only (λ e. e.from) q)

-- a composition leads to the start conditions of its tree, and to nothing else
conditions_to : (c : Tree) → StartConditions c (starts c)
unfolding starts
conditions_to (par c d) = start_16 (conditions_to c) (conditions_to d)
conditions_to (syn list c) = start_20 (conditions_to c)
conditions_to (ini p c) = start_ini (conditions_to c)
conditions_to (leaf k) = start_15

conditions_only : {c : Tree} {us : List Pred} → StartConditions c us → us ≡ starts c
unfolding starts
conditions_only start_15 = refl
conditions_only (start_16 p q) = ap₂ (λ us ws. us ++ ws) (conditions_only p) (conditions_only q)
conditions_only (start_20 p) = conditions_only p
conditions_only (start_ini {p = u} p) = ap (λ us. u ∷ us) (conditions_only p)

pub conditions_are : (c : Tree) (us : List Pred) → StartConditions c us ↔ (us ≡ starts c)
conditions_are c us = (conditions_only, λ e. subst (StartConditions c) (sym e) (conditions_to c))

module _ (m : Model) where
  -- the synchronising set, as a list
  unfoldable pub set_of : Tree → List ℕ
  set_of (par c d) = set_of c ++ set_of d
  set_of (syn list c) = list ++ set_of c
  set_of (ini p c) = set_of c
  set_of (leaf k) = (automaton m k).sync

  -- a composition leads to this set (sync)
  pub syncs_to : (c : Tree) → Syncs m c (set_of c)
  unfolding set_of
  syncs_to (par c d) = sync_16 (syncs_to c) (syncs_to d)
  syncs_to (syn list c) = sync_20 (syncs_to c)
  syncs_to (ini p c) = sync_ini (syncs_to c)
  syncs_to (leaf k) = sync_15

  syncs_only : {c : Tree} {A : List ℕ} → Syncs m c A → A ≡ set_of c
  unfolding set_of
  syncs_only sync_15 = refl
  syncs_only (sync_16 p q) = ap₂ (λ A B. A ++ B) (syncs_only p) (syncs_only q)
  syncs_only (sync_20 {list = list} p) = ap (λ A. list ++ A) (syncs_only p)
  syncs_only (sync_ini p) = syncs_only p

  -- and to no other set
  pub syncs_one : {c : Tree} {A B : List ℕ} → Syncs m c A → Syncs m c B → A ≡ B
  syncs_one p q = syncs_only p ∙ sym (syncs_only q)

  -- `in_set` says whether an action is in it
  pub syncs_are : (a : ℕ) {c : Tree} {A : List ℕ} → Syncs m c A → member a A ≡ in_set m a c
  unfolding in_set member
  syncs_are a sync_15 = refl
  syncs_are a (sync_16 {A = A} {B = B} p q) = exists_append (eqb a) A B ∙ or_same (syncs_are a p) (syncs_are a q)
  syncs_are a (sync_20 {list = list} {A = A} p) = exists_append (eqb a) list A ∙ ap (λ b. member a list || b) (syncs_are a p)
  syncs_are a (sync_ini p) = syncs_are a p

-- an action of both sides' sets: the pairs
sides_both : {x y : List Taker} {xs ys : List (List Taker)} → Memᴰ x xs → Memᴰ y ys → Memᴰ (x ++ y) (sides true true xs ys)
unfolding sides
sides_both p q = pairs_in p q

-- the labels of no takers are a composition's wild-cards
pub labels_rest : {c : Tree} {xs : List Position} → WildCards c xs → LabelsOf c [] xs [] xs
labels_rest p = record { before = wilds_only (λ e. e.from) p; conjuncts = refl; after = wilds_only (λ e. e.to) p }

-- every list of takers has its labels
pub labels_own : (c : Tree) (x : List Taker) → LabelsOf c x (positions (λ e. e.from) c x) (map (λ y. y.edge.update) x) (positions (λ e. e.to) c x)
labels_own c x = record { before = refl; conjuncts = refl; after = refl }

-- the labels of one automaton that takes an edge
pub labels_alone : (k : ℕ) (e : Edge) → LabelsOf (leaf k) (alone k e) (at e.from ∷ []) (e.update ∷ []) (at e.to ∷ [])
unfolding positions place
labels_alone k e = record { before = rw (eq_self k); conjuncts = refl; after = rw (eq_self k) }

-- and of what stands over a composition, `syn` or `ini`
labels_over : {c d : Tree} {x : List Taker} {vs : List Position} {r : List Pred} {vs' : List Position} → ((part : Edge → ℕ) → positions part c x ≡ positions part d x) → LabelsOf c x vs r vs' → LabelsOf d x vs r vs'
labels_over same p = record { before = p.before ∙ same (λ e. e.from); conjuncts = p.conjuncts; after = p.after ∙ same (λ e. e.to) }

module _ (m : Model) (a : ℕ) where
  -- the takers of a transition, which are a move
  pub record TakenBy (c : Tree) (vs : List Position) (r : List Pred) (vs' : List Position) : Type 0 where
    pub takers : List Taker
    pub listed : Memᴰ takers (moves m a c)
    pub labels : LabelsOf c takers vs r vs'

  transition_listed : {c : Tree} {vs : List Position} {r : List Pred} {vs' : List Position} → (i : ℕ) → Numbered i c → Transition m a c vs r vs' → TakenBy c vs r vs'
  unfolding moves Numbered positions
  transition_listed i w (rule_17 {k = k} {e = e} h q) = record { takers = alone k e; listed = Memᴰ.map (alone k) (under_in a h q); labels = labels_alone k e }
  transition_listed i w (rule_18_left {c = c} {d = d} t s p n) =
      let x = transition_listed i w.0 t in
      record {
        takers = x.takers;
        listed = rw (sym (syncs_are m a s) ∙ n) (sides_left (in_set m a c) (moves m a d) x.listed);
        labels = labels_left c d i w x.takers (moves_inside m a c i w.0 x.listed) x.labels (labels_rest p);
      }
  transition_listed i w (rule_18_right {c = c} {d = d} t s p n) =
      let y = transition_listed (i + size c) w.1 t in
      record {
        takers = y.takers;
        listed = rw (sym (syncs_are m a s) ∙ n) (sides_right (in_set m a d) (moves m a c) y.listed);
        labels = labels_par c d i w [] y.takers (nobody_inside i (size c)) (moves_inside m a d (i + size c) w.1 y.listed) (labels_rest p) y.labels;
      }
  transition_listed i w (rule_19 {c = c} {d = d} t u s z p q) =
      let x = transition_listed i w.0 t in
      let y = transition_listed (i + size c) w.1 u in
      record {
        takers = x.takers ++ y.takers;
        listed = rw (sym (syncs_are m a s) ∙ p, sym (syncs_are m a z) ∙ q) (sides_both x.listed y.listed);
        labels = labels_par c d i w x.takers y.takers (moves_inside m a c i w.0 x.listed) (moves_inside m a d (i + size c) w.1 y.listed) x.labels y.labels;
      }
  transition_listed i w (rule_21 t) =
      let x = transition_listed i w t in
      record { takers = x.takers; listed = x.listed; labels = labels_over (λ part. refl) x.labels }
  transition_listed i w (transition_ini t) =
      let x = transition_listed i w t in
      record { takers = x.takers; listed = x.listed; labels = labels_over (λ part. refl) x.labels }

  -- labels of the same takers are the same
  relabelled : {c : Tree} {x : List Taker} {vs ws : List Position} {r q : List Pred} {vs' ws' : List Position}
      → LabelsOf c x vs r vs' → LabelsOf c x ws q ws' → Transition m a c vs r vs' → Transition m a c ws q ws'
  relabelled {c = c} p q t =
      subst₃ (Transition m a c) (p.before ∙ sym q.before) (p.conjuncts ∙ sym q.conjuncts) (p.after ∙ sym q.after) t

  -- the transition with these takers' labels
  abbrev Own : Tree → List Taker → Type 0
  Own c x = Transition m a c (positions (λ e. e.from) c x) (map (λ y. y.edge.update) x) (positions (λ e. e.to) c x)

  listed_transition : (c : Tree) (i : ℕ) → Numbered i c → (x : List Taker) → Memᴰ x (moves m a c) → Own c x
  unfolding moves Numbered positions
  listed_transition (par c d) i w x h =
      go (listed_transition c i w.0) (listed_transition d (i + size c) w.1) (sides_out (in_set m a c) (in_set m a d) (moves m a c) (moves m a d) h)
    where
      rest_c : WildCards c (positions (λ e. e.from) c [])
      rest_c = wilds_to (λ e. e.from) c

      rest_d : WildCards d (positions (λ e. e.from) d [])
      rest_d = wilds_to (λ e. e.from) d

      go : ((y : List Taker) → Memᴰ y (moves m a c) → Own c y) → ((y : List Taker) → Memᴰ y (moves m a d) → Own d y)
          → Sides (in_set m a c) (in_set m a d) (moves m a c) (moves m a d) x
          → Own (par c d) x
      go f g (both b e r) =
          subst (Own (par c d)) (sym r.whole)
          (relabelled
          (labels_par c d i w r.left r.right (moves_inside m a c i w.0 r.in_left) (moves_inside m a d (i + size c) w.1 r.in_right) (labels_own c r.left) (labels_own d r.right))
          (labels_own (par c d) (r.left ++ r.right))
          (rule_19 (f r.left r.in_left) (g r.right r.in_right) (syncs_to m c) (syncs_to m d) (syncs_are m a (syncs_to m c) ∙ b) (syncs_are m a (syncs_to m d) ∙ e)))
      go f g (left_one e r) =
          relabelled (labels_left c d i w x (moves_inside m a c i w.0 r) (labels_own c x) (labels_rest rest_d)) (labels_own (par c d) x)
          (rule_18_left (f x r) (syncs_to m d) rest_d (syncs_are m a (syncs_to m d) ∙ e))
      go f g (right_one b r) =
          relabelled (labels_par c d i w [] x (nobody_inside i (size c)) (moves_inside m a d (i + size c) w.1 r) (labels_rest rest_c) (labels_own d x)) (labels_own (par c d) x)
          (rule_18_right (g x r) (syncs_to m c) rest_c (syncs_are m a (syncs_to m c) ∙ b))
  listed_transition (syn list c) i w x h = rule_21 (listed_transition c i w x h)
  listed_transition (ini p c) i w x h = transition_ini (listed_transition c i w x h)
  listed_transition (leaf k) i w x h =
      let r = Memᴰ.of_map (alone k) (under a (automaton m k).edges) h in
      let e = under_out a (automaton m k).edges r.1 in
      subst (Own (leaf k)) r.2 (relabelled (labels_alone k r.0) (labels_own (leaf k) (alone k r.0)) (rule_17 e.0 e.1))

-- The transitions of a composition are its moves: vs and vs' say where the takers are, r their updates.
pub transitions_are : (m : Model) (a : ℕ) (c : Tree) (i : ℕ) → Numbered i c → (vs : List Position) (r : List Pred) (vs' : List Position)
    → Transition m a c vs r vs' ↔ TakenBy m a c vs r vs'
transitions_are m a c i w vs r vs' = (
  transition_listed m a i w,
  λ x. relabelled m a (labels_own c x.takers) x.labels (listed_transition m a c i w x.takers x.listed),
)

-- counting from one higher
count_higher : {A : Type 0} (f : ℕ → A) (n count : ℕ) → map f (count_up (suc n) count) ≡ map (λ k. f (suc k)) (count_up n count)
unfolding count_up
count_higher f n zero = refl
count_higher f n (suc count) = ap (λ l. f (suc n) ∷ l) (count_higher f (suc n) count)

-- the items by their places are the items
by_places : {A : Type 0} (f : Automaton → A) (xs : List Automaton) → map (λ k. f (get_or xs k nobody)) (count_up 0 (length xs)) ≡ map f xs
unfolding count_up
by_places f [] = refl
by_places f (x ∷ xs) = ap (λ l. f x ∷ l) (count_higher (λ k. f (get_or (x ∷ xs) k nobody)) 0 (length xs) ∙ by_places f xs)

-- an automaton's function, as the list of its values
abbrev pub values_of : (Location → Pred) → Automaton → List Pred
values_of part x = map part x.locations

module _ (m : Model) (part : Location → Pred) where
  -- a composition leads to its leaves' functions
  leads_to : (c : Tree) → Leads m part c (map (λ k. values_of part (automaton m k)) (leaves c))
  unfolding leaves
  leads_to (par c d) = subst (Leads m part (par c d)) (sym (map-append (λ k. values_of part (automaton m k)) (leaves c) (leaves d))) (rule_16 (leads_to c) (leads_to d))
  leads_to (syn list c) = rule_20 (leads_to c)
  leads_to (ini p c) = rule_ini (leads_to c)
  leads_to (leaf k) = rule_15

  leads_only : {c : Tree} {fs : List (List Pred)} → Leads m part c fs → fs ≡ map (λ k. values_of part (automaton m k)) (leaves c)
  unfolding leaves
  leads_only rule_15 = refl
  leads_only (rule_16 {c = c} {d = d} p q) = ap₂ (λ fs gs. fs ++ gs) (leads_only p) (leads_only q) ∙ sym (map-append (λ k. values_of part (automaton m k)) (leaves c) (leaves d))
  leads_only (rule_20 p) = leads_only p
  leads_only (rule_ini p) = leads_only p

  -- and to nothing else
  pub leads_one : (c : Tree) (fs gs : List (List Pred)) → Leads m part c fs → Leads m part c gs → fs ≡ gs
  leads_one c fs gs p q = leads_only p ∙ sym (leads_only q)

  -- of a lawful model the leaves are the automata in order (row 14)
  pub leads_are : Lawful m → Leads m part m.tree (map (values_of part) m.automata)
  leads_are lawful =
      let e = ap (map (λ k. values_of part (automaton m k))) lawful.tree.in_order ∙ by_places (values_of part) m.automata in
      subst (Leads m part m.tree) e (leads_to m.tree)
