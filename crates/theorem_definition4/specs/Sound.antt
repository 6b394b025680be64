-- Theorems 5 to 8 of source document 003, as statements: what the linear rules (Table 3) say of a composition is what
-- the symbolic rules (Table 2) say of it, the start conditions of its `ini` with the rest.
use Rattle.std.specs.Prelude.{◌≡◌, Bool, true, false, ◌&&◌, List, [], ◌∷◌, ◌++◌, ℕ, ◌<◌, length, get_or, eqb}
use Rattle.model.specs.Basic.{member}
use Rattle.model.specs.Predicate.{Pred, all, none}
use Rattle.model.specs.Composition.{Tree, par, syn, ini, leaf}
use Rattle.model.specs.Model.{Model, automaton}
use Rattle.theorem_definition4.specs.Table2.{SymbolicEnvironment, SymbolicAction}
use Rattle.theorem_definition4.specs.Table3.{Position, wild, at, Leads, StartConditions, Syncs, Transition}

-- ls ∈ locsof(p): a location of each automaton, left to right
pub data LocationsOf (m : Model) : Tree → List ℕ → Type 0 where
  of_leaf : {k v : ℕ} → v < length (automaton m k).locations → LocationsOf m (leaf k) (v ∷ [])
  of_par : {c d : Tree} {ls ks : List ℕ} → LocationsOf m c ls → LocationsOf m d ks → LocationsOf m (par c d) (ls ++ ks)
  of_syn : {list : List ℕ} {c : Tree} {ls : List ℕ} → LocationsOf m c ls → LocationsOf m (syn list c) ls
  of_ini : {p : Pred} {c : Tree} {ls : List ℕ} → LocationsOf m c ls → LocationsOf m (ini p c) ls

-- fs.i(ls.i), for each i
unfoldable pub chosen : List (List Pred) → List ℕ → List Pred
chosen (f ∷ fs) (l ∷ ls) = get_or f l (all none) ∷ chosen fs ls
chosen (f ∷ fs) [] = []
chosen [] ls = []

-- Definition 3: vs ⊑ ls, each of vs is the wild-card or the location there
unfoldable pub fits : Position → ℕ → Bool
fits wild l = true
fits (at v) l = eqb v l

unfoldable pub below : List Position → List ℕ → Bool
below [] ls = true
below (v ∷ vs) (l ∷ ls) = fits v l && below vs ls
below (v ∷ vs) [] = false

-- vs ≻ ls: ls overwritten by the locations of vs
unfoldable pub put : Position → ℕ → ℕ
put wild l = l
put (at v) l = v

unfoldable pub overwritten : List Position → List ℕ → List ℕ
overwritten [] ls = ls
overwritten (v ∷ vs) (l ∷ ls) = put v l ∷ overwritten vs ls
overwritten (v ∷ vs) [] = []

module _ (m : Model) (c : Tree) where
  -- What the theorems on environment transitions ask: conditions 1 to 3.
  pub record LeadsTo (ls : List ℕ) (u s n : List Pred) (A : List ℕ) : Type 0 where
    pub located : LocationsOf m c ls
    pub fs : List (List Pred)
    pub gs : List (List Pred)
    pub leads_fs : Leads m (λ x. x.init) c fs
    pub leads_gs : Leads m (λ x. x.inv) c gs
    pub leads_A : Syncs m c A
    pub init : u ≡ chosen fs ls
    pub starts : StartConditions c s
    pub inv : n ≡ chosen gs ls

  -- What those on action transitions ask.
  pub record StepsTo (a : ℕ) (b : Bool) (u s n n' r : List Pred) (ls ks : List ℕ) : Type 0 where
    pub A : List ℕ
    pub leads : LeadsTo ls u s n A
    pub vs : List Position
    pub vs' : List Position
    pub transition : Transition m a c vs r vs'
    pub matched : below vs ls ≡ true
    pub reached : ks ≡ overwritten vs' ls
    pub inv' : n' ≡ chosen leads.gs ks
    pub marked : b ≡ member a A

-- of every sheet within the limits, and every part of its composition
pub record LinearIsSymbolic (m : Model) : Type 0 where
  -- Theorems 5 and 6: the leads-to transitions are sound and complete
  pub theorem_5 : (c : Tree) (ls : List ℕ) (u s n : List Pred) (A : List ℕ)
      → LeadsTo m c ls u s n A → SymbolicEnvironment m c u s n A ls
  pub theorem_6 : (c : Tree) (ls : List ℕ) (u s n : List Pred) (A : List ℕ)
      → SymbolicEnvironment m c u s n A ls → LeadsTo m c ls u s n A
  -- Theorems 7 and 8: so are the linear action transitions
  pub theorem_7 : (c : Tree) (a : ℕ) (b : Bool) (u s n n' r : List Pred) (ls ks : List ℕ)
      → StepsTo m c a b u s n n' r ls ks → SymbolicAction m a c b u s n n' r ks
  pub theorem_8 : (c : Tree) (a : ℕ) (b : Bool) (u s n n' r : List Pred) (ks : List ℕ)
      → SymbolicAction m a c b u s n n' r ks → (ls : List ℕ) × StepsTo m c a b u s n n' r ls ks
