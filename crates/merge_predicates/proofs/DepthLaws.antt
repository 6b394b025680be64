-- Each way out of the code of src/depth.rt.
use mathlib.Core.Path.{◌≡◌, refl, ap, ◌∙◌}
use mathlib.Core.Bool.{Bool, true, false, ◌||◌}
use mathlib.Core.List.{List, [], ◌∷◌}
use Prim.Native.Nat.{ℕ, zero, suc, ◌+◌, ◌-◌, ◌≤◌, ◌<◌, max}
use native.Mathlib.Omega.{arith}
use Rattle.std.proofs.Common.{◌⊎◌, inl, inr}
use Rattle.std.proofs.lemmas.Bool.{cases_lt}
use lib.ListN.{get_or}
use lib.Dec.{ltb}
use borrow.Author.Tests.{lt-ltb, le-ltb}
use Rattle.node_words.specs.declared.Node.{Node}
use Rattle.node_words.specs.declared.Node.TheVariants.{All, Any, Not, Imp, Eq, Le, Number, Old, New, Add, Sub, Mul, If}
use Rattle.node_words.specs.declared.Node.TheVariants.{Stray}
use Rattle.node_words.specs.Nodes.{meant, node_of}
use Rattle.node_words.proofs.NodeLaws.{word_by, Other, by_others}
use Rattle.table_places.specs.Outline.{reach, nodes_place, after_predicate}
use Rattle.merge_predicates.specs.declared.depth.Depth.{Depth}
use Rattle.merge_append.specs.NodeWords.{capped}
use Rattle.merge_predicates.specs.Depths.{arity, operands_of, depth_to, greater, deepest, depth_at, is_deeper}
use Rattle.merge_predicates.specs.Depths.{values_deeper, starts_deeper}

-- `operands_of`
abbrev not_two : List Node
not_two = All 0 ∷ Any 0 ∷ Not ∷ Number 0 ∷ Old 0 ∷ New 0 ∷ If ∷ Stray ∷ []

abbrev with_operands : List Node
with_operands = All 0 ∷ Any 0 ∷ Not ∷ Imp ∷ Eq ∷ Le ∷ Add ∷ Sub ∷ Mul ∷ If ∷ []

module _ (n : Node) where
  pub arity_many : (k r : ℕ) → (n ≡ All k) ⊎ (n ≡ Any k) → r ≡ k → r ≡ arity (meant n)
  unfolding arity meant
  arity_many k r h e = elim h [ inl f ↦ rw f e | inr f ↦ rw f e ]

  pub arity_one : n ≡ Not → 1 ≡ arity (meant n)
  unfolding arity meant
  arity_one h = rw h

  pub arity_two : Other not_two n → 2 ≡ arity (meant n)
  unfolding arity meant
  arity_two o =
      by_others (λ (m : Node). 2 ≡ arity (meant m)) not_two n o
      (tt, tt, tt, refl, refl, refl, tt, tt, tt, refl, refl, refl, tt, tt)

  pub arity_three : n ≡ If → 3 ≡ arity (meant n)
  unfolding arity meant
  arity_three h = rw h

  pub arity_none : Other with_operands n → 0 ≡ arity (meant n)
  unfolding arity meant
  arity_none o =
      let none : (k : ℕ) → ◌≡◌ {A = ℕ} 0 0 = λ k. refl in
      by_others (λ (m : Node). 0 ≡ arity (meant m)) with_operands n o
      (tt, tt, tt, tt, tt, tt, none, none, none, tt, tt, tt, tt, refl)

pub ruleset arity_laws = (arity_many, arity_one, arity_two, arity_three, arity_none)

-- `operands_at`
pub operands_is : (t : List ℕ) (at w : ℕ) (n : Node) (r : ℕ) → n ≡ node_of w → r ≡ arity (meant n) → w ≡ get_or t at 0
    → r ≡ operands_of (get_or t at 0)
unfolding operands_of
operands_is t at w n r is e f = rw (← f, word_by w n n is refl) e

-- `greater`
greater_is : (a b : ℕ) → max a b ≡ greater a b
unfolding greater
greater_is a b =
    elim (cases_lt a b) [
      | inl h ↦ let z : max a b ≡ b = omega arith in rw (z, lt-ltb a b h, greater)
      | inr h ↦ let z : max a b ≡ a = omega arith in rw (z, le-ltb a b h, greater)
    ]

-- `depth_at`
module _ (t : List ℕ) where
  abbrev D : ℕ → ℕ → Depth
  D = depth_at t

  pub depth_none : (left at : ℕ) → left ≡ 0 → depth_to 0 at ≡ D left at
  unfolding depth_at
  depth_none left at z = rw z

  module _ (left at count : ℕ) (ek : count ≡ operands_of (get_or t at 0)) where
    pub deepest_first : (s : ℕ) → s ≡ reach t at 1 → deepest (D (left - 1)) (count - 0) s 0
        ≡ deepest (D (left - 1)) (operands_of (get_or t at 0)) (reach t at 1) 0
    deepest_first s es = let z : count - 0 ≡ count = omega arith in rw (z, es, ek)

  module _ (below count i next d : ℕ) (whole : Depth) (u : deepest (D below) (count - i) next d ≡ whole) where
    pub deepest_turn : i < count → (x : Depth) (g : ℕ) → x ≡ D below next → g ≡ max d x.depth
        → deepest (D below) (count - (i + 1)) x.next g ≡ whole
    unfolding deepest
    deepest_turn h x g ex eg =
        let m : count - i ≡ suc (count - (i + 1)) = omega arith in
        let is : g ≡ greater d (D below next).depth =
        eg ∙ greater_is d x.depth ∙ ap (λ (y : Depth). greater d y.depth) ex in
        rw (is, ex) (rw m at u)

  pub depth_is : (left at count i next d r : ℕ) → (left ≡ 0 → ⊥)
      → deepest (D (left - 1)) (count - i) next d
      ≡ deepest (D (left - 1)) (operands_of (get_or t at 0)) (reach t at 1) 0
      → count ≤ i → r ≡ capped (1 + d) → depth_to r next ≡ D left at
  unfolding depth_at deepest
  depth_is zero at count i next d r y u h e = absurd (y refl)
  depth_is (suc n) at count i next d r y u h e =
      let m : suc n - 1 ≡ n = omega arith in
      let z : count - i ≡ 0 = omega arith in
      let j : depth_to d next ≡ deepest (D n) (operands_of (get_or t at 0)) (reach t at 1) 0 = rw (z, m) at u in
      rw (← j, e)

-- `is_deeper`
pub deeper_is : (t : List ℕ) (most at s : ℕ) (d : Depth) → s ≡ nodes_place t at → d ≡ depth_at t 25 s
    → ltb most d.depth ≡ is_deeper t most at
unfolding is_deeper
deeper_is t most at s d e f = rw (f, e)

-- `merged_deep`
module _ (t places : List ℕ) (count i : ℕ) (whole : Bool) (u : values_deeper t 22 places i (count - i) ≡ whole) where
  pub values_none : count ≤ i → false ≡ whole
  unfolding values_deeper
  values_none h = let z : count - i ≡ 0 = omega arith in rw z at u

  module _ (h : i < count) (p : ℕ) (b : Bool) (ep : p ≡ get_or places i 0) (eb : b ≡ is_deeper t 22 p) where
    split : (b || values_deeper t 22 places (i + 1) (count - (i + 1))) ≡ whole
    unfolding values_deeper
    split = let n : count - i ≡ suc (count - (i + 1)) = omega arith in rw (eb, ep) (rw n at u)

    pub values_deep : b ≡ true → true ≡ whole
    values_deep q = rw q at split

    pub values_on : b ≡ false → values_deeper t 22 places (i + 1) (count - (i + 1)) ≡ whole
    values_on q = rw q at split

-- `starts_deep`
module _ (t : List ℕ) (place count i : ℕ) (whole : Bool) (u : starts_deeper t 23 place (count - i) ≡ whole) where
  pub starts_none : count ≤ i → false ≡ whole
  unfolding starts_deeper
  starts_none h = let z : count - i ≡ 0 = omega arith in rw z at u

  module _ (h : i < count) (b : Bool) (eb : b ≡ is_deeper t 23 place) where
    first_start_lem : (b || starts_deeper t 23 (after_predicate t place) (count - (i + 1))) ≡ whole
    unfolding starts_deeper
    first_start_lem = let n : count - i ≡ suc (count - (i + 1)) = omega arith in rw eb (rw n at u)

    pub starts_deep : b ≡ true → true ≡ whole
    starts_deep q = rw q at first_start_lem

    pub starts_on : b ≡ false → (p : ℕ) → p ≡ after_predicate t place → starts_deeper t 23 p (count - (i + 1)) ≡ whole
    starts_on q p e = rw e (rw q at first_start_lem)

-- what src/depth.rt needs
pub ruleset depth_laws = (
  arity_laws,
  operands_is,
  depth_none,
  deepest_first,
  deepest_turn,
  depth_is,
  deeper_is,
  values_none,
  values_deep,
  values_on,
  starts_none,
  starts_deep,
  starts_on,
)
