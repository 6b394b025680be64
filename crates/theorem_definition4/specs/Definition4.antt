-- Definition 4 of source document 003, the linearization, part by part and in its order; and when the merger gives no
-- text.
use Rattle.std.specs.Prelude.{◌≡◌, Bool, true, false, ◌↔◌, ℕ, suc, pred, ◌+◌, ◌≤◌, ◌<◌, pos, length}
use mathlib.Core.List.{List, [], ◌∷◌, ◌++◌, map, Memᴰ}
use Rattle.std.proofs.Math.Option.{Option, none, some}
use Rattle.model.specs.Bounds.{owners_format}
use Rattle.model.specs.Predicate.{Pred, all, imp, eq, num, old, new, preds, words, names_outside, Range, range}
use Rattle.model.specs.Composition.{leaf, starts}
use Rattle.model.specs.Model.{Model, Location, Edge, Automaton, owner_of}
use Rattle.model.specs.Limits.{rises, broken}
use Rattle.model.specs.Table.{model_of, row18, row19}
use Rattle.model.specs.Linear.{linear, row31, row32, row33, row34}
use Rattle.format.specs.Spelling.{text_of}
use Rattle.format.specs.Writer.{row35}
use Rattle.theorem_definition4.specs.Table3.{Position, wild, at, WildCards, Leads, StartConditions, Syncs}
use Rattle.theorem_definition4.specs.Table3.{Transition}

-- ls.i ∈ dom(fs.i): the locations of the i-th automaton are 0 to L-1
unfoldable pub pointer_to : List Pred → Range
pointer_to f = range (pos 0) (pos (pred (length f)))

-- ls.i = v ⇒ fs.i(v), for each v in dom(fs.i) from j on, where ls.i is variable k
unfoldable pub choices : (k j : ℕ) → List Pred → List Pred
choices k j [] = []
choices k j (p ∷ ps) = imp (eq (old k) (num (pos j))) p ∷ choices k (suc j) ps

-- the same for each i, from i on, where ls.0 is variable v
unfoldable pub clauses : (v i : ℕ) → List (List Pred) → List Pred
clauses v i [] = []
clauses v i (f ∷ fs) = choices (v + i) 0 f ++ clauses v (suc i) fs

-- ls.i = vs.i ∧ ls.i⁺ = vs'.i, for each i with vs.i other than the wild-card, from i on
unfoldable pub pointed : (v i : ℕ) (vs vs' : List Position) → List Pred
pointed v i (at l ∷ vs) (at l' ∷ vs') =
    eq (old (v + i)) (num (pos l)) ∷ eq (new (v + i)) (num (pos l')) ∷ pointed v (suc i) vs vs'
pointed v i (at l ∷ vs) (wild ∷ vs') = pointed v (suc i) vs vs'
pointed v i (wild ∷ vs) (l' ∷ vs') = pointed v (suc i) vs vs'
pointed v i (l ∷ vs) [] = []
pointed v i [] vs' = []

-- (x, a, r ∧ .., x), where x is location 0
unfoldable pub edge_for : (v a : ℕ) (vs : List Position) (r : List Pred) (vs' : List Position) → Edge
edge_for v a vs r vs' =
    record { from = 0; action = a; to = 0; update = all (preds (r ++ pointed v 0 vs vs')) }

-- ls.i ∉ FV(p): no predicate names a variable from number V on
pub record Unnamed (m : Model) (p : Pred) : Type 0 where
  pub unnamed : names_outside (length m.variables) (words p) ≡ false

pub record Fresh (m : Model) : Type 0 where
  pub inits : (x : Automaton) → Memᴰ x m.automata → (l : Location) → Memᴰ l x.locations
      → Unnamed m l.init
  pub invs : (x : Automaton) → Memᴰ x m.automata → (l : Location) → Memᴰ l x.locations
      → Unnamed m l.inv
  pub updates : (x : Automaton) → Memᴰ x m.automata → (e : Edge) → Memᴰ e x.edges
      → Unnamed m e.update
  pub starts : (p : Pred) → Memᴰ p (starts m.tree) → Unnamed m p

-- Request (k), which Definition 4 knows nothing of: who owns the variables of l. The merged automaton, automaton 0 of
-- l, owns what an automaton of m owns and, from format 3 on, the n pointers; nobody owns the others.
pub record Owned (m l : Model) (n : ℕ) : Type 0 where
  pub as_many : length l.owners ≡ length m.variables + n
  pub owned : (k i : ℕ) → k < length m.variables → owner_of m k ≡ some i → owner_of l k ≡ some 0
  pub unowned : (k : ℕ) → k < length m.variables → owner_of m k ≡ none → owner_of l k ≡ none
  pub pointers : (i : ℕ) → i < n → owners_format ≤ m.format → owner_of l (length m.variables + i) ≡ some 0
  pub pointers_before : (i : ℕ) → i < n → m.format < owners_format → owner_of l (length m.variables + i) ≡ none

-- a list in which no edge stands twice
pub data NoneTwice : List Edge → Type 0 where
  none_twice : NoneTwice []
  not_again : {e : Edge} {es : List Edge} → (Memᴰ e es → ⊥) → NoneTwice es → NoneTwice (e ∷ es)

-- L(p) = (({x}, init, inv, E, act_S), ls), where p is the composition of m: l is this automaton, as a sheet.
pub record IsLinearization (m l : Model) : Type 0 where
  -- p leads to xs (#), to fs (ipred), to us (its start conditions), to gs (inv) and to A (sync); n is the length of xs,
  -- and so of fs
  pub xs : List Position
  pub fs : List (List Pred)
  pub us : List Pred
  pub gs : List (List Pred)
  pub A : List ℕ
  pub leads_xs : WildCards m.tree xs
  pub leads_fs : Leads m (λ x. x.init) m.tree fs
  pub leads_us : StartConditions m.tree us
  pub leads_gs : Leads m (λ x. x.inv) m.tree gs
  pub leads_A : Syncs m m.tree A
  pub as_many : length fs ≡ length xs
  -- a sheet declares its format, its actions, its variables and their owners: the composition's, and behind these the
  -- pointers ls, n of them, and none of them in FV(p)
  pub format : l.format ≡ m.format
  pub actions : l.actions ≡ m.actions
  pub variables : l.variables ≡ m.variables ++ map pointer_to fs
  pub owners : Owned m l (length fs)
  pub fresh : Fresh m
  -- one automaton, which is the whole composition, with one location x
  pub automaton : Automaton
  pub x : Location
  pub automata : l.automata ≡ automaton ∷ []
  pub tree : l.tree ≡ leaf 0
  pub locations : automaton.locations ≡ x ∷ []
  -- init(x). Where the format departs: the ranges of the pointers, above, stand for the second conjunct; and after the
  -- implications stand the start conditions (request (a)).
  pub init : x.init ≡ all (preds (clauses (length m.variables) 0 fs ++ us))
  -- inv(x)
  pub inv : x.inv ≡ all (preds (clauses (length m.variables) 0 gs))
  -- E: an edge from x to x for each transition
  pub edges : (e : Edge)
      → Memᴰ e automaton.edges
      ↔ ((a : ℕ) × (vs : List Position) × (r : List Pred) × (vs' : List Position)
      × Transition m a m.tree vs r vs' × (e ≡ edge_for (length m.variables) a vs r vs'))
  -- and E is a set: transitions that give equal edges give one
  pub edges_once : NoneTwice automaton.edges
  -- act_S is A; a sheet's list of it rises, from 1 or more up to the highest action
  pub sync : (a : ℕ) → Memᴰ a automaton.sync ↔ Memᴰ a A
  pub rising : rises m.actions 0 automaton.sync ≡ true

-- does the model of a table break a row? A table without a model breaks row 19 before.
unfoldable pub breaks : (Model → Bool) → List ℕ → Bool
breaks row t = elim (model_of t) [ none ↦ false | some m ↦ row m ]

-- the first of the merger's rows that refuses table t with a buffer of b bytes
unfoldable pub first_row : (t : List ℕ) (b : ℕ) → Option ℕ
first_row t b =
    broken 18 (row18 (length t))
    (broken 19 (row19 t)
    (broken 31 (breaks row31 t)
    (broken 32 (breaks row32 t)
    (broken 33 (breaks row33 t)
    (broken 34 (breaks row34 t)
    (broken 35 (breaks (λ m. row35 b (text_of (linear m))) t)
    none))))))
