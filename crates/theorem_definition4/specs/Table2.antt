-- Table 2 of source document 003: the symbolic SOS rules, each constructor named by its rule. What a transition leads
-- to, p[ls], is p with automaton i begun in location ls.i, so that the sequence ls says it. Predicates that are joined
-- by ∧ are lists of conjuncts. What must hold at the start is u and s together: u are the initial predicates of the
-- locations, s the start conditions. The label s and the rules for `ini p` (request (a)) are not in Table 2; they are
-- for the initialization operator of source document 000.
use Rattle.std.specs.Prelude.{◌≡◌, Bool, true, false, ◌||◌, ℕ, ◌<◌, length}
use mathlib.Core.List.{List, [], ◌∷◌, ◌++◌, Memᴰ}
use Rattle.model.specs.Basic.{member}
use Rattle.model.specs.Predicate.{Pred}
use Rattle.model.specs.Composition.{Tree, par, syn, ini, leaf}
use Rattle.model.specs.Model.{Model, Edge, automaton, location}

module _ (m : Model) where
  -- ⟨p⟩ —u,s,n,A→ ⟨p[ls]⟩: the environment transitions
  pub data SymbolicEnvironment : Tree → (u s n : List Pred) (A ls : List ℕ) → Type 0 where
    rule_9 : {k v : ℕ} → v < length (automaton m k).locations
        → SymbolicEnvironment (leaf k) ((location m k v).init ∷ []) [] ((location m k v).inv ∷ []) (automaton m k).sync
        (v ∷ [])
    rule_12 : {c d : Tree} {u s n w t q : List Pred} {A B ls ks : List ℕ}
        → SymbolicEnvironment c u s n A ls → SymbolicEnvironment d w t q B ks
        → SymbolicEnvironment (par c d) (u ++ w) (s ++ t) (n ++ q) (A ++ B) (ls ++ ks)
    rule_14 : {list : List ℕ} {c : Tree} {u s n : List Pred} {A ls : List ℕ} → SymbolicEnvironment c u s n A ls
        → SymbolicEnvironment (syn list c) u s n (list ++ A) ls
    environment_ini : {p : Pred} {c : Tree} {u s n : List Pred} {A ls : List ℕ} → SymbolicEnvironment c u s n A ls
        → SymbolicEnvironment (ini p c) u (p ∷ s) n A ls

  -- ⟨p⟩ —a,b,u,s,n,n',r→ ⟨p[ls]⟩: the action transitions under a. Where the document's rule 11 has the invariant of the
  -- other side after the step, it is the one before: that side is at rest.
  pub data SymbolicAction (a : ℕ) : Tree → (b : Bool) (u s n n' r : List Pred) (ls : List ℕ) → Type 0 where
    rule_8 : {k : ℕ} {e : Edge} → Memᴰ e (automaton m k).edges → e.action ≡ a
        → SymbolicAction a (leaf k) (member a (automaton m k).sync) ((location m k e.from).init ∷ []) []
        ((location m k e.from).inv ∷ []) ((location m k e.to).inv ∷ []) (e.update ∷ []) (e.to ∷ [])
    rule_10 : {c d : Tree} {u s n n' r w t q q' x : List Pred} {ls ks : List ℕ}
        → SymbolicAction a c true u s n n' r ls → SymbolicAction a d true w t q q' x ks
        → SymbolicAction a (par c d) true (u ++ w) (s ++ t) (n ++ q) (n' ++ q') (r ++ x) (ls ++ ks)
    rule_11_left : {c d : Tree} {b : Bool} {u s n n' r w t q : List Pred} {A ls ks : List ℕ}
        → SymbolicAction a c b u s n n' r ls → SymbolicEnvironment d w t q A ks → member a A ≡ false
        → SymbolicAction a (par c d) b (u ++ w) (s ++ t) (n ++ q) (n' ++ q) r (ls ++ ks)
    rule_11_right : {c d : Tree} {b : Bool} {u s n n' r w t q : List Pred} {A ls ks : List ℕ}
        → SymbolicEnvironment c w t q A ks → SymbolicAction a d b u s n n' r ls → member a A ≡ false
        → SymbolicAction a (par c d) b (w ++ u) (t ++ s) (q ++ n) (q ++ n') r (ks ++ ls)
    rule_13 : {list : List ℕ} {c : Tree} {b : Bool} {u s n n' r : List Pred} {ls : List ℕ}
        → SymbolicAction a c b u s n n' r ls
        → SymbolicAction a (syn list c) (b || member a list) u s n n' r ls
    action_ini : {p : Pred} {c : Tree} {b : Bool} {u s n n' r : List Pred} {ls : List ℕ}
        → SymbolicAction a c b u s n n' r ls
        → SymbolicAction a (ini p c) b u (p ∷ s) n n' r ls
