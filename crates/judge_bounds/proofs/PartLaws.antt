-- How many edges parts need: an edge lowers the number by no more than one, so BoundLaws says how many a cover has. And each way out of src/parts.rt.
use mathlib.Core.Path.{◌≡◌, refl, sym, ap, ◌∙◌, subst}
use mathlib.Core.Bool.{Bool, true, false}
use mathlib.Core.List.Memᴰ
use mathlib.Core.List.{List, [], ◌∷◌, ◌++◌, Memᴰ}
use mathlib.Core.Logic.{◌⊎◌, inl, inr}
use Prim.Native.Nat.{ℕ, suc, ◌+◌, ◌-◌, ◌*◌, ◌/◌, ◌%◌, ◌^◌, ◌≤◌, ◌<◌, min}
use native.Mathlib.Omega.{arith}
use native.Mathlib.Nat.{div-eq_of_lt, div-le_self, div-lt_iff_lt-mul, le-div_iff_mul-le, lt-mul-div-succ}
use native.Mathlib.Nat.{mul-add, mul-one, mul_comm, add-mul, one-mul}
use Rattle.std.proofs.lemmas.Grind.{div_ceil_times}
use lib.ListN.{length, get_or}
use lib.Bits.{bit_and, and_self, and_zero_r}
use lib.Count.{ones, ones_in, ones-le}
use lib.Dec.{ltb}
use borrow.Author.Tests.{ltb-true}
use Rattle.model.specs.Table.{bit}
use Rattle.judge_cover.specs.Cover.{coverable, group, groups_of}
use Rattle.judge_cover.proofs.BitLaws.{and_assoc, and_swap, parts_cover_less}
use Rattle.judge_cover.proofs.CodeLaws.{other}
use Rattle.judge_cover.proofs.CoverLaws.{within_is}
use Rattle.std.specs.Prelude.{Some, None}
use Rattle.judge_bounds.specs.Bounds.{takers_to, groups_to, Fits, AllFit, EdgeFitted, GroupFitted}
use Rattle.judge_bounds.specs.Bounds.{TakerFitted, TakersFit, AtLeast, Sound, pieces}
use Rattle.judge_bounds.proofs.BoundLaws.{Lowers, lowered_all, lowered_done, groups_more, groups_same, groups_none, groups_all, groups_length, each_edge}

-- `fit`, `fit_all`, `fit_of`, `most`
pub fits_more : (part out m n r : ℕ) → m ≤ n → Fits part out m r → Fits part out n r
fits_more part out m n r l (inl e) = inl e
fits_more part out m n r l (inr (e, h)) = inr (e, omega arith)

pub record Fitting (masks : List ℕ) (from part out least m i : ℕ) : Type 0 where
  pub grown : least ≤ m
  pub small : least ≤ 64 → m ≤ 64
  pub each : (j : ℕ) → from ≤ j → j < i → Fits part out m (get_or masks j 0)

module _ (masks : List ℕ) (from part out least : ℕ) where
  pub fitting_first : Fitting masks from part out least least from
  fitting_first = record { grown = omega arith; small = λ h. h; each = λ j l h. absurd (omega arith) }

  module _ (m i : ℕ) (s : Fitting masks from part out least m i) where
    pub fitting_more : (r n : ℕ) → r ≡ get_or masks i 0 → EdgeFitted part out r m (Some n)
        → Fitting masks from part out least n (i + 1)
    fitting_more r n er f = record {
      grown = omega (arith, s.grown, f.fitted.grown);
      small = λ h. f.fitted.small (s.small h);
      each = λ j a b. elim (other j i b) [
        | inl e ↦ subst (Fits part out n) (er ∙ ap (λ x. get_or masks x 0) (sym e)) f.fitted.holds
        | inr e ↦ fits_more part out m n (get_or masks j 0) f.fitted.grown (s.each j a e)
      ];
    }

    pub fitting_done : (to : ℕ) → to ≤ i → GroupFitted part out (group masks from to) least (Some m)
    fitting_done to h = record {
      fitted = record {
        holds = each_edge (Fits part out m) masks from to i h s.each;
        grown = s.grown;
        small = s.small;
      };
    }

  pub fitting_failed : (to : ℕ) → GroupFitted part out (group masks from to) least None
  fitting_failed to = record { fitted = tt }

pub ruleset fitting_laws = (fitting_first, fitting_more, fitting_done, fitting_failed)

-- the groups of the first k automata
pub record Spreading (masks first : List ℕ) (takers part out m k : ℕ) : Type 0 where
  pub low : k ≤ 16
  pub some : 0 < m
  pub small : m ≤ 64
  pub each : (g : List ℕ) → Memᴰ g (groups_to masks first takers k) → AllFit part out m g

each_more : (P : List ℕ → Type 0) (gs : List (List ℕ)) (h : List ℕ) → ((g : List ℕ) → Memᴰ g gs → P g) → P h
    → (g : List ℕ) → Memᴰ g (gs ++ h ∷ []) → P g
each_more P [] h f p g i = go (Memᴰ.cases_cons i)
  where
    go : (g ≡ h) ⊎ Memᴰ g [] → P g
    go (inl e) = subst P (sym e) p
    go (inr j) = absurd (Memᴰ.not-nil j)
each_more P (x ∷ gs) h f p g i = go (each_more P gs h (λ k m. f k (Memᴰ.tail m)) p g) (Memᴰ.cases_cons i)
  where
    go : (Memᴰ g (gs ++ h ∷ []) → P g) → (g ≡ x) ⊎ Memᴰ g (gs ++ h ∷ []) → P g
    go ih (inl e) = f g (Memᴰ.head e)
    go ih (inr j) = ih j

module _ (masks first : List ℕ) (takers part out : ℕ) where
  pub spreading_first : Spreading masks first takers part out 1 0
  spreading_first = record {
    low = omega arith;
    some = omega arith;
    small = omega arith;
    each = λ g i. absurd (Memᴰ.not-nil (subst (Memᴰ g) (groups_none masks first takers) i));
  }

  module _ (m k : ℕ) (s : Spreading masks first takers part out m k) where
    pub spreading_more : k < 16 → (n : ℕ) → TakerFitted masks first takers k part out m (Some n)
        → Spreading masks first takers part out n (k + 1)
    spreading_more h n f = record {
      low = omega arith;
      some = omega (arith, s.some, f.fitted.grown);
      small = f.fitted.small s.small;
      each = go (bit takers k) refl;
    }
      where
        before : (g : List ℕ) → Memᴰ g (groups_to masks first takers k) → AllFit part out n g
        before x i r j = fits_more part out m n r f.fitted.grown (s.each x i r j)

        go : (b : Bool) → bit takers k ≡ b → (g : List ℕ) → Memᴰ g (groups_to masks first takers (k + 1)) → AllFit part out n g
        go true e = rw (groups_more masks first takers k e)
            (each_more (AllFit part out n) (groups_to masks first takers k) _ before (f.fitted.holds.each e))
        go false e = rw (groups_same masks first takers k e) before

    pub spreading_done : 16 ≤ k → TakersFit masks first takers part out m
    spreading_done h =
        let low = s.low in
        let e : k ≡ 16 = omega arith in
        record { each = λ g i. s.each g (subst (Memᴰ g) (sym (ap (groups_to masks first takers) e ∙ groups_all masks first takers)) i) }

pub ruleset spreading_laws = (spreading_first, spreading_more, spreading_done)

-- How many edges a set needs falls by no more than one where one edge is added.
pieces_zero : (m : ℕ) → 0 < m → pieces m 0 ≡ 0
unfolding pieces ones ones_in
pieces_zero m p = div-eq_of_lt (omega arith)

-- the library rounds up to the same number
ceil_is : (m x : ℕ) → 0 < m → x / m + min 1 (x % m) ≡ (x + (m - 1)) / m
ceil_is m x p =
    let q = x / m + min 1 (x % m) in
    let t = div_ceil_times x m p in
    let low : x ≤ q * m = t.0 in
    let high : q * m < x + m = t.1 in
    let a : q ≤ (x + (m - 1)) / m = (le-div_iff_mul-le p).1 (omega arith) in
    let b : (x + (m - 1)) / m < q + 1 = (div-lt_iff_lt-mul p).1 (omega (arith, add-mul q 1 m, one-mul m)) in
    omega arith

module _ (m part x q : ℕ) (p : 0 < m) (e : x ≡ ones part) (eq : q ≡ x / m + min 1 (x % m)) where
  pub pieces_is : q ≡ pieces m part
  unfolding pieces
  pieces_is = eq ∙ ceil_is m x p ∙ ap (λ y. (y + (m - 1)) / m) e

  pub pieces_few : part < 2 ^ 64 → m ≤ 64 → q ≤ 128
  pieces_few h l = omega (arith, ceil_is m x p, div-le_self (x + (m - 1)) m, ones-le 64 part h)

fewer : (m x y : ℕ) → 0 < m → x ≤ m + y → (x + (m - 1)) / m ≤ suc ((y + (m - 1)) / m)
fewer m x y p h =
    let q = (y + (m - 1)) / m in
    let a : y + (m - 1) < m * (q + 1) = lt-mul-div-succ (y + (m - 1)) p in
    let b : x + (m - 1) < (q + 2) * m = omega (arith, a, mul-add m q 1, mul-one m, add-mul q 2 m, mul_comm m q) in
    let c : (x + (m - 1)) / m < q + 2 = (div-lt_iff_lt-mul p).1 b in
    omega arith

pieces_fewer : (part m r s : ℕ) → 0 < m → ones part ≤ m + ones (bit_and part r) → pieces m (bit_and part s) ≤ suc (pieces m (bit_and part (bit_and s r)))
unfolding pieces
pieces_fewer part m r s p h =
    fewer m (ones (bit_and part s)) (ones (bit_and part (bit_and s r))) p
    (omega (arith, parts_cover_less part s r, ap ones (and_assoc part s r)))

left_alone : (part r s : ℕ) → bit_and part r ≡ part → bit_and part (bit_and s r) ≡ bit_and part s
left_alone part r s e = sym (and_assoc part s r) ∙ and_swap part s r ∙ ap (λ x. bit_and x s) e

inner : (part rest r : ℕ) → bit_and part rest ≡ part → bit_and rest r ≡ rest → bit_and part r ≡ part
inner part rest r e h = ap (λ x. bit_and x r) (sym e) ∙ and_assoc part rest r ∙ ap (bit_and part) h ∙ e

-- W is how many edges the parts found so far need: no edge lowers it by more than one, and each edge leaves it as it is or
-- mentions nothing of the rest.
pub record Counted (gs : List (List ℕ)) (u rest need : ℕ) : Type 0 where
  pub W : ℕ → ℕ
  pub one : (g : List ℕ) → Memᴰ g gs → Lowers W g 1
  pub apart : (g : List ℕ) → Memᴰ g gs → (r : ℕ) → Memᴰ r g → ((s : ℕ) → W (bit_and s r) ≡ W s) ⊎ (bit_and rest r ≡ rest)
  pub none : W 0 ≡ 0
  pub all : need ≡ W u
  pub inside : bit_and rest u ≡ rest

counted_first : (gs : List (List ℕ)) (u : ℕ) → Counted gs u u 0
counted_first gs u = record {
  W = λ s. 0;
  one = λ g i r j s. omega arith;
  apart = λ g i r j. inl (λ s. refl);
  none = refl;
  all = refl;
  inside = and_self u;
}

module _ (gs : List (List ℕ)) (u rest need : ℕ) (c : Counted gs u rest need) (part out m : ℕ) (p : 0 < m)
    (part_in : bit_and part rest ≡ part) (out-in : bit_and out rest ≡ out)
    (fit : (g : List ℕ) → Memᴰ g gs → AllFit part out m g) where
  abbrev more : ℕ → ℕ
  more s = c.W s + pieces m (bit_and part s)

  one_more_lem : (g : List ℕ) → Memᴰ g gs → Lowers more g 1
  one_more_lem g i r j s = go (c.apart g i r j) (fit g i r j)
    where
      go : ((s : ℕ) → c.W (bit_and s r) ≡ c.W s) ⊎ (bit_and rest r ≡ rest) → Fits part out m r → more s ≤ 1 + more (bit_and s r)
      go (inl same) (inl e) = omega (arith, same s, ap (pieces m) (left_alone part r s e))
      go (inl same) (inr (e, l)) = omega (arith, same s, pieces_fewer part m r s p l)
      go (inr e) f = omega (arith, c.one g i r j s, ap (pieces m) (left_alone part r s (inner part rest r part_in e)))

  apart_more : (g : List ℕ) → Memᴰ g gs → (r : ℕ) → Memᴰ r g → ((s : ℕ) → more (bit_and s r) ≡ more s) ⊎ (bit_and out r ≡ out)
  apart_more g i r j = go (c.apart g i r j) (fit g i r j)
    where
      go : ((s : ℕ) → c.W (bit_and s r) ≡ c.W s) ⊎ (bit_and rest r ≡ rest) → Fits part out m r → ((s : ℕ) → more (bit_and s r) ≡ more s) ⊎ (bit_and out r ≡ out)
      go (inl same) (inl e) = inl (λ s. omega (arith, same s, ap (pieces m) (left_alone part r s e)))
      go (inl same) (inr (e, l)) = inr e
      go (inr e) f = inr (inner out rest r out-in e)

  counted_more : Counted gs u out (need + pieces m part)
  counted_more = record {
    W = more;
    one = one_more_lem;
    apart = apart_more;
    none = omega (arith, c.none, ap (pieces m) (and_zero_r part), pieces_zero m p);
    all = omega (arith, c.all, ap (pieces m) (inner part rest u part_in c.inside));
    inside = inner out rest u out-in c.inside;
  }

-- `needed`
pub record Needing (masks first : List ℕ) (takers u need rest : ℕ) : Type 0 where
  pub small : need ≤ 144
  pub counted : Counted (groups_of masks first takers) u rest need

module _ (masks first : List ℕ) (takers u : ℕ) where
  pub needing_first : Needing masks first takers u 0 u
  needing_first = record { small = omega arith; counted = counted_first (groups_of masks first takers) u }

  module _ (need rest : ℕ) (s : Needing masks first takers u need rest) where
    pub needing_more : (part out m n : ℕ) → need ≤ 16 → Sound rest part out → 0 < m
        → TakersFit masks first takers part out m → n ≡ pieces m part → n ≤ 128
        → Needing masks first takers u (need + n) out
    needing_more part out m n l x p f e h = record {
      small = omega arith;
      counted = rw e (counted_more (groups_of masks first takers) u rest need s.counted part out m p
          (within_is part rest x.inside) (within_is out rest x.outside) f.each);
    }

    -- a cover has as many edges
    pub needing_done : AtLeast masks first takers u need
    needing_done = record {
      enough = λ h.
          let c = s.counted in
          let gs = groups_of masks first takers in
          omega (arith, lowered_done c.W gs (length gs) (lowered_all c.W gs c.one) c.none u h, c.all);
    }

pub ruleset needing_laws = (needing_first, needing_more, needing_done)

-- `short`
pub short_is : (masks first : List ℕ) (takers u n need : ℕ) → n ≡ length (takers_to takers 16) → AtLeast masks first takers u need
    → ltb n need ≡ true → coverable (groups_of masks first takers) u ≡ false
short_is masks first takers u n need e a l = go (coverable (groups_of masks first takers) u) refl
  where
    go : (b : Bool) → coverable (groups_of masks first takers) u ≡ b → b ≡ false
    go false x = refl
    go true x = absurd (omega (arith, a.enough x, ltb-true n need l, e, groups_length masks first takers))
