-- Why a bound says no: let W be a number of each set of uncovered variables, which no edge of a group lowers by more than
-- the group's bound, whatever else is covered already. Then a cover takes off no more than the bounds together.
use mathlib.Core.Path.{◌≡◌, refl, sym, ap, ◌∙◌, subst}
use mathlib.Core.Bool.{true, false}
use mathlib.Core.List.{List, [], ◌∷◌, ◌++◌, map, map-append, append_assoc, append-nil, Memᴰ}
use Prim.Native.Nat.{ℕ, suc, ◌+◌, ◌-◌, ◌≤◌, ◌<◌}
use native.Mathlib.Omega.{arith}
use native.Mathlib.Numerals.{add-one}
use lib.ListN.{length, get_or, length-map}
use lib.Bits.{bit_and}
use borrow.Author.Tests.{eqb-true}
use Rattle.model.specs.Basic.{keep, count_up}
use Rattle.model.specs.Table.{bit}
use Rattle.model.proofs.Tests.{exists_elim}
use Rattle.model.proofs.Lists.{keep_append, keep_first, keep_skip}
use Rattle.judge_cover.specs.Cover.{coverable, group, groups_of}
use Rattle.judge_cover.proofs.Counting.{count_last}
use Rattle.judge_cover.proofs.CodeLaws.{Placed, placed}
use Rattle.judge_bounds.specs.Bounds.{takers_to, groups_to}

-- no edge of a group lowers W by more than b
abbrev pub Lowers : (W : ℕ → ℕ) (g : List ℕ) (b : ℕ) → Type 0
Lowers W g b = (r : ℕ) → Memᴰ r g → (s : ℕ) → W s ≤ b + W (bit_and s r)

-- what is left of s once some groups have chosen, and what that has taken off
pub record Left (W : ℕ → ℕ) (hs : List (List ℕ)) (s total : ℕ) : Type 0 where
  pub at : ℕ
  pub covers : coverable hs at ≡ true
  pub less : W s ≤ total + W at

pub record Lowered (W : ℕ → ℕ) (gs : List (List ℕ)) (total : ℕ) : Type 0 where
  pub each : (hs : List (List ℕ)) (s : ℕ) → coverable (gs ++ hs) s ≡ true → Left W hs s total

pub lowered_none : (W : ℕ → ℕ) → Lowered W [] 0
lowered_none W = record { each = λ hs s h. record { at = s; covers = h; less = omega arith } }

pub lowered_one : (W : ℕ → ℕ) (g : List ℕ) (b : ℕ) → Lowers W g b → Lowered W (g ∷ []) b
unfolding coverable
lowered_one W g b o = record { each = one }
  where
    one : (hs : List (List ℕ)) (s : ℕ) → coverable (g ∷ hs) s ≡ true → Left W hs s b
    one hs s h =
        let e = exists_elim (λ r. coverable hs (bit_and s r)) g h in
        record { at = bit_and s e.0; covers = e.2; less = o e.0 e.1 s }

pub lowered_append : (W : ℕ → ℕ) (fs gs : List (List ℕ)) (a b : ℕ) → Lowered W fs a → Lowered W gs b → Lowered W (fs ++ gs) (a + b)
lowered_append W fs gs a b x y = record { each = both }
  where
    both : (hs : List (List ℕ)) (s : ℕ) → coverable ((fs ++ gs) ++ hs) s ≡ true → Left W hs s (a + b)
    both hs s h =
        let c = x.each (gs ++ hs) s (sym (ap (λ l. coverable l s) (append_assoc fs gs hs)) ∙ h) in
        let d = y.each hs c.at c.covers in
        record { at = d.at; covers = d.covers; less = omega (arith, c.less, d.less) }

-- by one for each group
pub lowered_all : (W : ℕ → ℕ) (gs : List (List ℕ)) → ((g : List ℕ) → Memᴰ g gs → Lowers W g 1) → Lowered W gs (length gs)
lowered_all W [] f = lowered_none W
lowered_all W (g ∷ gs) f =
    let e : 1 + length gs ≡ length (g ∷ gs) = omega arith in
    subst (Lowered W (g ∷ gs)) e
    (lowered_append W (g ∷ []) gs 1 (length gs) (lowered_one W g 1 (f g (Memᴰ.head refl))) (lowered_all W gs (λ h i. f h (Memᴰ.tail i))))

pub lowered_done : (W : ℕ → ℕ) (gs : List (List ℕ)) (total : ℕ) → Lowered W gs total → W 0 ≡ 0 → (s : ℕ) → coverable gs s ≡ true → W s ≤ total
unfolding coverable
lowered_done W gs total l z s h =
    let a = l.each [] s (ap (λ x. coverable x s) (append-nil gs) ∙ h) in
    omega (arith, a.less, ap W (eqb-true a.at 0 a.covers), z)

-- the takers among the first automata, one by one, and their groups
module _ (takers k : ℕ) where
  takers_next : (l : List ℕ) → keep (bit takers) (k ∷ []) ≡ l → takers_to takers (k + 1) ≡ takers_to takers k ++ l
  unfolding takers_to
  takers_next l e = ap (keep (bit takers)) (count_last k) ∙ keep_append (bit takers) (count_up 0 k) (k ∷ [])
      ∙ ap (λ y. keep (bit takers) (count_up 0 k) ++ y) e

  pub takers_more : bit takers k ≡ true → takers_to takers (k + 1) ≡ takers_to takers k ++ k ∷ []
  unfolding keep
  takers_more h = takers_next (k ∷ []) (keep_first (bit takers) k [] h)

  pub takers_same : bit takers k ≡ false → takers_to takers (k + 1) ≡ takers_to takers k
  unfolding keep
  takers_same h = takers_next [] (keep_skip (bit takers) k [] h) ∙ append-nil (takers_to takers k)

module _ (masks first : List ℕ) (takers k : ℕ) where
  pub groups_more : bit takers k ≡ true
      → groups_to masks first takers (k + 1) ≡ groups_to masks first takers k ++ group masks (get_or first k 0) (get_or first (k + 1) 0) ∷ []
  unfolding groups_to
  groups_more h =
      let f : ℕ → List ℕ = λ j. group masks (get_or first j 0) (get_or first (suc j) 0) in
      ap (map f) (takers_more takers k h) ∙ map-append f (takers_to takers k) (k ∷ [])
      ∙ ap (λ n. map f (takers_to takers k) ++ group masks (get_or first k 0) (get_or first n 0) ∷ []) (sym (add-one k))

  pub groups_same : bit takers k ≡ false → groups_to masks first takers (k + 1) ≡ groups_to masks first takers k
  unfolding groups_to
  groups_same h = ap (map (λ j. group masks (get_or first j 0) (get_or first (suc j) 0))) (takers_same takers k h)

pub groups_none : (masks first : List ℕ) (takers : ℕ) → groups_to masks first takers 0 ≡ []
unfolding groups_to takers_to keep count_up
groups_none masks first takers = refl

pub groups_all : (masks first : List ℕ) (takers : ℕ) → groups_to masks first takers 16 ≡ groups_of masks first takers
unfolding groups_to takers_to groups_of
groups_all masks first takers = refl

pub groups_length : (masks first : List ℕ) (takers : ℕ) → length (groups_of masks first takers) ≡ length (takers_to takers 16)
unfolding groups_of takers_to
groups_length masks first takers = length-map (keep (bit takers) (count_up 0 16)) (λ j. group masks (get_or first j 0) (get_or first (suc j) 0))

-- What holds of the edges from one place up to another holds of a group's edges.
pub each_edge : (P : ℕ → Type 0) (masks : List ℕ) (from to i : ℕ) → to ≤ i → ((j : ℕ) → from ≤ j → j < i → P (get_or masks j 0))
    → (r : ℕ) → Memᴰ r (group masks from to) → P r
unfolding group
each_edge P masks from to i l h r m = go (placed masks (to - from) from r m)
  where
    go : Placed masks from (to - from) r → P r
    go p =
        let low = p.low in
        let high = p.high in
        subst P (sym p.is) (h p.at low (omega arith))
