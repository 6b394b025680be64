-- Table 3 of source document 003: the linear SOS rules, each constructor named by its rule. `leaf k` is the k-th
-- automaton, `par` is the parallel composition, `syn list` is the operator that adds synchronising actions. The rules
-- that the document leaves out, since they are like 15, 16 and 20, have the numbers of those.
-- `ini p` (request (a)) is the initialization operator of source document 000, which Table 3 does not have. It leads to
-- what stands under it, but for the predicate at the start: StartConditions.
use Rattle.std.specs.Prelude.{◌≡◌, true, false, ℕ}
use mathlib.Core.List.{List, [], ◌∷◌, ◌++◌, map, Memᴰ}
use Rattle.model.specs.Basic.{member}
use Rattle.model.specs.Predicate.{Pred}
use Rattle.model.specs.Composition.{Tree, par, syn, ini, leaf}
use Rattle.model.specs.Model.{Model, Location, Edge, automaton}

-- what stands in a sequence vs: a location, or the wild-card
pub data Position : Type 0 where
  wild : Position
  at : ℕ → Position

-- p leads to xs (#): a wild-card for each automaton
pub data WildCards : Tree → List Position → Type 0 where
  wild_15 : {k : ℕ} → WildCards (leaf k) (wild ∷ [])
  wild_16 : {c d : Tree} {xs ys : List Position} → WildCards c xs → WildCards d ys → WildCards (par c d) (xs ++ ys)
  wild_20 : {list : List ℕ} {c : Tree} {xs : List Position} → WildCards c xs → WildCards (syn list c) xs
  wild_ini : {p : Pred} {c : Tree} {xs : List Position} → WildCards c xs → WildCards (ini p c) xs

-- p leads to us: the start conditions of its `ini`, left to right, outer first. Section 5.8 of source document 000: the
-- linear form of u over p has u joined to the predicate that p has.
pub data StartConditions : Tree → List Pred → Type 0 where
  start_15 : {k : ℕ} → StartConditions (leaf k) []
  start_16 : {c d : Tree} {us ws : List Pred} → StartConditions c us → StartConditions d ws
      → StartConditions (par c d) (us ++ ws)
  start_20 : {list : List ℕ} {c : Tree} {us : List Pred} → StartConditions c us → StartConditions (syn list c) us
  start_ini : {p : Pred} {c : Tree} {us : List Pred} → StartConditions c us → StartConditions (ini p c) (p ∷ us)

module _ (m : Model) where
  -- p leads to fs (ipred, or inv; `part` says which): the functions from locations to predicates of its automata, left
  -- to right. A function is the list of its values, by location.
  pub data Leads (part : Location → Pred) : Tree → List (List Pred) → Type 0 where
    rule_15 : {k : ℕ} → Leads part (leaf k) (map part (automaton m k).locations ∷ [])
    rule_16 : {c d : Tree} {fs gs : List (List Pred)} → Leads part c fs → Leads part d gs
        → Leads part (par c d) (fs ++ gs)
    rule_20 : {list : List ℕ} {c : Tree} {fs : List (List Pred)} → Leads part c fs → Leads part (syn list c) fs
    rule_ini : {p : Pred} {c : Tree} {fs : List (List Pred)} → Leads part c fs → Leads part (ini p c) fs

  -- p leads to A (sync): its synchronising actions. A set is a list, and its union with another the two in a row.
  pub data Syncs : Tree → List ℕ → Type 0 where
    sync_15 : {k : ℕ} → Syncs (leaf k) (automaton m k).sync
    sync_16 : {c d : Tree} {A B : List ℕ} → Syncs c A → Syncs d B → Syncs (par c d) (A ++ B)
    sync_20 : {list : List ℕ} {c : Tree} {A : List ℕ} → Syncs c A → Syncs (syn list c) (list ++ A)
    sync_ini : {p : Pred} {c : Tree} {A : List ℕ} → Syncs c A → Syncs (ini p c) A

  -- p ⊨ ⟨vs⟩ —a,r→ ⟨vs'⟩: the action transitions under a. r is the list of its conjuncts.
  pub data Transition (a : ℕ) : Tree → (vs : List Position) (r : List Pred) (vs' : List Position) → Type 0 where
    rule_17 : {k : ℕ} {e : Edge} → Memᴰ e (automaton m k).edges → e.action ≡ a
        → Transition a (leaf k) (at e.from ∷ []) (e.update ∷ []) (at e.to ∷ [])
    rule_18_left : {c d : Tree} {vs vs' xs : List Position} {r : List Pred} {A : List ℕ} → Transition a c vs r vs'
        → Syncs d A → WildCards d xs → member a A ≡ false
        → Transition a (par c d) (vs ++ xs) r (vs' ++ xs)
    rule_18_right : {c d : Tree} {vs vs' xs : List Position} {r : List Pred} {A : List ℕ} → Transition a d vs r vs'
        → Syncs c A → WildCards c xs → member a A ≡ false
        → Transition a (par c d) (xs ++ vs) r (xs ++ vs')
    rule_19 : {c d : Tree} {vs vs' ws ws' : List Position} {r q : List Pred} {A B : List ℕ}
        → Transition a c vs r vs' → Transition a d ws q ws'
        → Syncs c A → Syncs d B → member a A ≡ true → member a B ≡ true
        → Transition a (par c d) (vs ++ ws) (r ++ q) (vs' ++ ws')
    rule_21 : {list : List ℕ} {c : Tree} {vs vs' : List Position} {r : List Pred} → Transition a c vs r vs'
        → Transition a (syn list c) vs r vs'
    transition_ini : {p : Pred} {c : Tree} {vs vs' : List Position} {r : List Pred} → Transition a c vs r vs'
        → Transition a (ini p c) vs r vs'
