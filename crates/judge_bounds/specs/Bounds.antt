-- What the functions that count promise each other. Sets of variables are numbers, bit K for variable K; an edge is the
-- set of the variables that its update does not mention.
use Rattle.std.specs.Prelude.{ℕ, suc, ◌+◌, ◌-◌, ◌*◌, ◌/◌, ◌%◌, ◌^◌, ◌≤◌, ◌<◌, ◌≡◌, true, ◌⊎◌, length, get_or}
use Rattle.std.specs.Prelude.{Option, MatchOption}
use mathlib.Core.List.{List, [], ◌∷◌, map, Memᴰ}
use Rattle.std.specs.Int.Bits.{bit_and}
use Rattle.std.specs.Int.Count.{ones}
use Rattle.model.specs.Basic.{keep, count_up}
use Rattle.model.specs.Table.{bit}
use Rattle.judge_cover.specs.Cover.{coverable, group, groups_of, within}

-- the takers among the first k automata, and the groups of their edges
unfoldable pub takers_to : (takers k : ℕ) → List ℕ
takers_to takers k = keep (bit takers) (count_up 0 k)

unfoldable pub groups_to : (masks first : List ℕ) (takers k : ℕ) → List (List ℕ)
groups_to masks first takers k = map (λ j. group masks (get_or first j 0) (get_or first (suc j) 0)) (takers_to takers k)

-- what a set weighs, variable by variable
unfoldable pub weight : (weights : List ℕ) (set : ℕ) → ℕ
weight [] set = 0
weight (w ∷ ws) set = (set % 2) * w + weight ws (set / 2)

-- k is the first variable of a set
pub record Lowest (set k : ℕ) : Type 0 where
  pub small : k < 64
  pub split : set ≡ (set / 2 ^ k / 2 * 2 + 1) * 2 ^ k

-- what an edge r covers of u
abbrev pub covers : (u r : ℕ) → ℕ
covers u r = u - bit_and u r

-- No edge of a group covers more of u than this weight.
abbrev pub TakesAtMost : (weights : List ℕ) (u : ℕ) (g : List ℕ) (took : ℕ) → Type 0
TakesAtMost weights u g took = (r : ℕ) → Memᴰ r g → weight weights (covers u r) ≤ took

-- no edge of automaton k does, if it takes the action
pub record TakerTakes (masks first : List ℕ) (takers k : ℕ) (weights : List ℕ) (u took : ℕ) : Type 0 where
  pub each : bit takers k ≡ true → TakesAtMost weights u (group masks (get_or first k 0) (get_or first (k + 1) 0)) took

-- An edge mentions nothing of the part; or nothing outside it, and no more than m of it.
abbrev pub Fits : (part out m r : ℕ) → Type 0
Fits part out m r = (bit_and part r ≡ part) ⊎ ((bit_and out r ≡ out) × (ones part ≤ m + ones (bit_and part r)))

abbrev pub AllFit : (part out m : ℕ) (g : List ℕ) → Type 0
AllFit part out m g = (r : ℕ) → Memᴰ r g → Fits part out m r

-- the edges of automaton k, if it takes the action; of all takers
pub record TakerFits (masks first : List ℕ) (takers k part out m : ℕ) : Type 0 where
  pub each : bit takers k ≡ true → AllFit part out m (group masks (get_or first k 0) (get_or first (k + 1) 0))

pub record TakersFit (masks first : List ℕ) (takers part out m : ℕ) : Type 0 where
  pub each : (g : List ℕ) → Memᴰ g (groups_of masks first takers) → AllFit part out m g

-- r is no less than m, and P holds of it
pub record Grown (P : ℕ → Type 0) (m r : ℕ) : Type 0 where
  pub holds : P r
  pub grown : m ≤ r
  pub small : m ≤ 64 → r ≤ 64

-- r is none, or such a number
abbrev pub Fitted : (P : ℕ → Type 0) (m : ℕ) (r : Option ℕ) → Type 0
Fitted P m r = MatchOption r (Unit {0}) (Grown P m)

-- that an edge fits; the edges of a group; those of automaton k
pub record EdgeFitted (part out edge m : ℕ) (r : Option ℕ) : Type 0 where
  pub fitted : Fitted (λ n. Fits part out n edge) m r

pub record GroupFitted (part out : ℕ) (g : List ℕ) (m : ℕ) (r : Option ℕ) : Type 0 where
  pub fitted : Fitted (λ n. AllFit part out n g) m r

pub record TakerFitted (masks first : List ℕ) (takers k part out m : ℕ) (r : Option ℕ) : Type 0 where
  pub fitted : Fitted (TakerFits masks first takers k part out) m r

-- how many edges a set needs, if none covers more than m of it
unfoldable pub pieces : (m set : ℕ) → ℕ
pieces m set = (ones set + (m - 1)) / m

-- A part and what is outside it are in the rest, of which less is left.
pub record Sound (rest part out : ℕ) : Type 0 where
  pub inside : within part rest ≡ true
  pub outside : within out rest ≡ true
  pub less : out < rest

-- A cover of u has so many edges at least.
pub record AtLeast (masks first : List ℕ) (takers u need : ℕ) : Type 0 where
  pub enough : coverable (groups_of masks first takers) u ≡ true → need ≤ length (groups_of masks first takers)
