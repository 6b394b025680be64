-- "The sheet text": what a sheet says. An item's number is its place in its list, and V, N, L and E are the lists'
-- lengths.
use Rattle.std.specs.Prelude.{ℕ, ◌+◌, Bool, ◌||◌, List, [], ◌∷◌, length, get_or}
use Rattle.std.proofs.Math.Option as O
use Rattle.std.proofs.Math.Option.{Option}
use Rattle.model.specs.Basic.{member}
use Rattle.model.specs.Predicate.{Pred, all, none, Range}
use Rattle.model.specs.Composition.{Tree, par, syn, ini, leaf}

-- `init=P` and `inv=P`
pub record Location : Type 0 where
  pub init : Pred
  pub inv : Pred

-- `edge=FROM,ACT,TO,P`
pub record Edge : Type 0 where
  pub from : ℕ
  pub action : ℕ
  pub to : ℕ
  pub update : Pred

pub record Automaton : Type 0 where
  pub sync : List ℕ
  pub locations : List Location
  pub edges : List Edge

-- `format` is the number of the text's format; `actions` is A, the highest action; 0 is the silent action, which no set
-- holds. `variables` has the range of each variable, and `owners` the automaton that owns it, if one does (request (k);
-- before format 3 none has an owner).
pub record Model : Type 0 where
  pub format : ℕ
  pub actions : ℕ
  pub variables : List Range
  pub owners : List (Option ℕ)
  pub automata : List Automaton
  pub tree : Tree

-- automaton k, and its location j; past the end one that says nothing, which an accepted sheet never reaches
abbrev pub nowhere : Location
nowhere = record { init = all none; inv = all none }

abbrev pub nobody : Automaton
nobody = record { sync = []; locations = []; edges = [] }

abbrev pub automaton : Model → ℕ → Automaton
automaton m k = get_or m.automata k nobody

abbrev pub location : Model → ℕ → ℕ → Location
location m k j = get_or (automaton m k).locations j nowhere

-- the owner of variable k
abbrev pub owner_of : Model → ℕ → Option ℕ
owner_of m k = get_or m.owners k O.none

-- "Steps": is action a in the synchronising set of a composition?
unfoldable pub in_set : Model → ℕ → Tree → Bool
in_set m a (par c d) = in_set m a c || in_set m a d
in_set m a (syn list c) = member a list || in_set m a c
in_set m a (ini p c) = in_set m a c
in_set m a (leaf k) = member a (automaton m k).sync

-- all edges of some automata (row 15)
unfoldable pub edge_total : List Automaton → ℕ
edge_total [] = 0
edge_total (x ∷ xs) = length x.edges + edge_total xs
