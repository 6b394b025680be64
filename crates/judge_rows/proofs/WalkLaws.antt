-- A loop that tests one number after the other, and the test of each by itself.
use mathlib.Core.Path.{◌≡◌, refl, sym, ap, ◌∙◌}
use mathlib.Core.Bool.{Bool, true, false, ◌&&◌}
use Prim.Native.Nat.{ℕ, zero, suc, ◌+◌, ◌<◌}
use native.Mathlib.Omega.{arith}
use native.Mathlib.Nat.{zero-add, sub-zero}
use native.Mathlib.Numerals.{add-one}
use Rattle.std.specs.Prelude.{List, Option, MatchOption}
use Rattle.std.specs.declared.ops.Range.{Range}
use Rattle.std.specs.List.{list_all, range_with_len, FoldsTo}
use Rattle.std.specs.Fn.{Called}
use Rattle.std.specs.Iterator.{YieldsThen}
use Rattle.std.proofs.iter.Yields.{nat_range_steps}
use Rattle.std.proofs.lemmas.Iterator.{YieldsList-from_range}
use Rattle.std.proofs.lemmas.Iterator.Search.{all_from_yields_List}
use denote.Param.Members.{Mut}
use Rattle.model.specs.Basic.{each}
use Rattle.model.proofs.Tests.{each_ext, and_same}
use Rattle.judge_rows.specs.Each.{each_from}

module _ (test : ℕ → Bool) where
  from_cons : (k left : ℕ) → each_from test k (suc left) ≡ (test k && each_from test (suc k) left)
  from_cons k left = go (test k) refl
    where
      go : (b : Bool) → test k ≡ b → each_from test k (suc left) ≡ (b && each_from test (suc k) left)
      go true e = unfold each_from in rw (e, each_from)
      go false e = unfold each_from in rw (e, each_from)

  -- the walk is the library's test of a list
  pub from_all : (k left : ℕ) → list_all test (range_with_len k left) ≡ each_from test k left
  unfolding each_from
  from_all k zero = refl
  from_all k (suc left) =
      ap (λ (b : Bool). test k && b) (ap (λ (i : ℕ). list_all test (range_with_len i left)) (add-one k) ∙ from_all (suc k) left) ∙ sym (from_cons k left)

  each_from_lem : (k left : ℕ) → each_from test k left ≡ each left (λ i. test (k + i))
  unfolding each_from each
  each_from_lem k zero = refl
  each_from_lem k (suc left) =
      let z : k ≡ k + 0 = omega arith in
      from_cons k left ∙ and_same (ap test z) (each_from_lem (suc k) left ∙ each_ext left _ _ (λ i l. ap test (omega arith)))

  -- so the whole walk is a test of each
  pub each_walked : (n : ℕ) (f : ℕ → Bool) → ((k : ℕ) → k < n → test k ≡ f k) → each_from test 0 n ≡ each n f
  each_walked n f h = each_from_lem 0 n ∙ each_ext n _ f (λ k l. ap test (zero-add k) ∙ h k l)

-- what `all` over the first n numbers answers
pub each_ran : {F : Type 0} {g : Mut F (ℕ × Unit {0}) Bool} {s : Range ℕ} (test : ℕ → Bool) (n : ℕ) (u : Range ℕ) (f : F) (r : Bool)
    → (xs : List ℕ) × (o : Option ℕ) × (j : F) × YieldsThen nat_range_steps s xs o u × FoldsTo (λ p x q. Called g p (x, tt) true q) f xs j
    × MatchOption o (r ≡ true) (λ x. (r ≡ false) × ((h : F) × Called g j (x, tt) false h))
    → s ≡ record { start = 0; end = n } → ((x : ℕ) (b : Bool) (q : F) → Called g f (x, tt) b q → (q ≡ f) × (b ≡ test x)) → r ≡ each_from test 0 n
each_ran test n u f r ran e calls =
    all_from_yields_List test u f r ran (YieldsList-from_range 0 n n e (sub-zero n)) calls ∙ from_all test 0 n
