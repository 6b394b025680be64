-- "Steps": the rules of Table 1 of source document 003, with the frame rule that the format puts in place of Table 1's;
-- and for `ini` (request (a)) the initialization operator of source document 000.
use Rattle.std.specs.Prelude.{◌≡◌, Bool, true, false, ◌||◌, ℕ, ◌<◌, ℤ, pos, length, get_or}
use mathlib.Core.List.{List, [], ◌∷◌, ◌++◌, Memᴰ}
use Rattle.std.proofs.Math.Option.{some}
use Rattle.model.specs.Basic.{member, exists}
use Rattle.model.specs.Predicate.{Pred, holds, mentions}
use Rattle.model.specs.Composition.{Tree, par, syn, ini, leaf}
use Rattle.model.specs.Model.{Model, Edge, automaton, location, owner_of, in_set}

-- phase 0 is start, phase 1 running
pub data Phase : Type 0 where
  start running : Phase

-- a state: the phase, each automaton's location, each variable's value
pub record State : Type 0 where
  pub phase : Phase
  pub locations : List ℕ
  pub values : List ℤ

-- what a step leads to: the oven runs from then on
abbrev pub reached : List ℕ → List ℤ → State
reached locations values = record { phase = running; locations = locations; values = values }

-- automaton k's location, and variable k's value
abbrev pub at : State → ℕ → ℕ
at s k = get_or s.locations k 0

abbrev pub val : State → ℕ → ℤ
val s k = get_or s.values k (pos 0)

-- P holds of a state's values; init and inv mention no new value (row 8), so the second list plays no part
abbrev pub holds_in : State → Pred → Bool
holds_in s p = holds s.values s.values p

-- `ini P C` is as C, where P holds: P is asked of the old values in phase 0, and afterwards it plays no part
pub record Starts (s : State) (p : Pred) : Type 0 where
  pub condition : s.phase ≡ start → holds_in s p ≡ true

-- an automaton, by its number, and the edge that it takes
pub record Taker : Type 0 where
  pub automaton : ℕ
  pub edge : Edge

-- is `nK` in the update of one of the edges that are taken?
unfoldable pub mentioned : ℕ → List Taker → Bool
mentioned k takers = exists (λ x. mentions k x.edge.update) takers

-- from state s to state t under action a
module _ (m : Model) (s : State) (a : ℕ) (t : State) where
  -- rule 1 without its last premise, for which `frame` of Step below stands: automaton k takes edge e
  pub record Takes (k : ℕ) (e : Edge) : Type 0 where
    pub listed : Memᴰ e (automaton m k).edges
    pub action : e.action ≡ a
    pub from : at s k ≡ e.from
    pub to : at t k ≡ e.to
    pub init : s.phase ≡ start → holds_in s (location m k (at s k)).init ≡ true
    pub inv : holds_in s (location m k (at s k)).inv ≡ true
    pub inv' : holds_in t (location m k (at t k)).inv ≡ true
    pub update : holds s.values t.values e.update ≡ true

module _ (m : Model) (s t : State) where
  -- rule 2: automaton k is still
  pub record Still (k : ℕ) : Type 0 where
    pub stays : at s k ≡ at t k
    pub init : s.phase ≡ start → holds_in s (location m k (at s k)).init ≡ true
    pub inv : holds_in s (location m k (at s k)).inv ≡ true
    pub inv' : holds_in t (location m k (at s k)).inv ≡ true

  -- rules 2, 5 and 7, and that of `ini`: every automaton of a composition is still. (Their label, the synchronising
  -- set, is `in_set`.)
  pub data Rests : Tree → Type 0 where
    rule_2 : {k : ℕ} → Still k → Rests (leaf k)
    rule_5 : {c d : Tree} → Rests c → Rests d → Rests (par c d)
    rule_7 : {list : List ℕ} {c : Tree} → Rests c → Rests (syn list c)
    ini_rests : {p : Pred} {c : Tree} → Starts s p → Rests c → Rests (ini p c)

module _ (m : Model) (s : State) (a : ℕ) (t : State) where
  -- rules 1, 3, 4 and 6, and that of `ini`: the takers by whom a composition takes the action. Rule 3 is for an action
  -- that both sides of a `par` synchronise on; rule 4 leaves the side at rest that does not.
  pub data Moves : Tree → List Taker → Type 0 where
    rule_1 : {k : ℕ} {e : Edge} → Takes m s a t k e → Moves (leaf k) (record { automaton = k; edge = e } ∷ [])
    rule_3 : {c d : Tree} {x y : List Taker} → in_set m a c ≡ true → in_set m a d ≡ true → Moves c x → Moves d y
        → Moves (par c d) (x ++ y)
    rule_4_left : {c d : Tree} {x : List Taker} → Moves c x → Rests m s t d → in_set m a d ≡ false → Moves (par c d) x
    rule_4_right : {c d : Tree} {y : List Taker} → Rests m s t c → Moves d y → in_set m a c ≡ false → Moves (par c d) y
    rule_6 : {list : List ℕ} {c : Tree} {x : List Taker} → Moves c x → Moves (syn list c) x
    ini_moves : {p : Pred} {c : Tree} {x : List Taker} → Starts s p → Moves c x → Moves (ini p c) x

  -- the same rules with the marks that Table 1 gives them; the law table_1_is says that both state the same
  pub data MarkedMoves : Tree → Bool → List Taker → Type 0 where
    marked_1 : {k : ℕ} {e : Edge} → Takes m s a t k e
        → MarkedMoves (leaf k) (member a (automaton m k).sync) (record { automaton = k; edge = e } ∷ [])
    marked_3 : {c d : Tree} {x y : List Taker} → MarkedMoves c true x → MarkedMoves d true y
        → MarkedMoves (par c d) true (x ++ y)
    marked_4_left : {c d : Tree} {b : Bool} {x : List Taker} → MarkedMoves c b x → Rests m s t d → in_set m a d ≡ false
        → MarkedMoves (par c d) b x
    marked_4_right : {c d : Tree} {b : Bool} {y : List Taker} → Rests m s t c → MarkedMoves d b y → in_set m a c ≡ false
        → MarkedMoves (par c d) b y
    marked_6 : {list : List ℕ} {c : Tree} {b : Bool} {x : List Taker} → MarkedMoves c b x
        → MarkedMoves (syn list c) (b || member a list) x
    marked_ini : {p : Pred} {c : Tree} {b : Bool} {x : List Taker} → Starts s p → MarkedMoves c b x
        → MarkedMoves (ini p c) b x

  pub record Step (mark : Bool) : Type 0 where
    pub takers : List Taker
    pub moves : Moves m.tree takers
    pub ended : t.phase ≡ running
    -- Where the format departs from Table 1: the takers' updates together say which variables they set, and the others
    -- stay. (Table 1 holds the variables to their values for each automaton by itself.)
    pub frame : (k : ℕ) → k < length m.variables → mentioned k takers ≡ false → val s k ≡ val t k
    -- the mark: is the action in the whole's set?
    pub marked : mark ≡ in_set m a m.tree

-- rules 2, 5 and 7 for the whole: the locations stay, and the values may become others that every invariant allows;
-- only a variable that nobody owns may change (request (k))
abbrev pub changed : State → List ℤ → State
changed s values = reached s.locations values

pub record Environment (m : Model) (s : State) (values : List ℤ) : Type 0 where
  pub still : Rests m s (changed s values) m.tree
  pub owned : (k i : ℕ) → k < length m.variables → owner_of m k ≡ some i → val s k ≡ val (changed s values) k
