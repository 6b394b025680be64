-- Equal edges have the same hash: their words are the same, and so many.
use mathlib.Core.Path.{◌≡◌, refl, sym, ap, ap₂, ◌∙◌}
use mathlib.Core.Bool.{Bool, true, false}
use mathlib.Core.List.{List, ◌∷◌}
use Prim.Native.Nat.{ℕ, zero, suc, ◌+◌, ◌≤◌}
use native.Mathlib.Omega.{arith}
use lib.ListN.{length, get_or, drop}
use lib.Dec.{eqb, leb}
use borrow.Author.Tests.{eqb-true, eq-eqb, leb-true, leb-false}
use Rattle.model.proofs.Tests.{never}
use Rattle.table_places.specs.Outline.{reach, update_place}
use Rattle.table_places.proofs.OutlineLaws.{reach_is}
use Rattle.merge_append.specs.Runs.{run}
use Rattle.merge_append.specs.NodeWords.{capped, most}
use Rattle.merge_distinct.specs.Equality.{edge_length, same_run, same_edge_at, hash_from, hash_at}

-- a step to the end or past it
pub reach_past : (t : List ℕ) (at n : ℕ) → length t ≤ at + n → reach t at n ≡ length t
unfolding reach
reach_past t at n h = go (leb (at + n) (length t)) refl
  where
    go : (b : Bool) → leb (at + n) (length t) ≡ b → reach t at n ≡ length t
    go true e = let l = leb-true (at + n) (length t) e in rw (e, reach) (omega arith)
    go false e = rw (e, reach)

-- two steps are one
pub reach_reach : (t : List ℕ) (at m n : ℕ) → reach t (reach t at m) n ≡ reach t at (m + n)
unfolding reach
reach_reach t at m n = go (leb (at + m) (length t)) refl
  where
    go : (b : Bool) → leb (at + m) (length t) ≡ b → reach t (reach t at m) n ≡ reach t at (m + n)
    go true e =
        let s : at + m + n ≡ at + (m + n) = omega arith in
        ap (λ (k : ℕ). reach t k n) (reach_is t at m (leb-true (at + m) (length t) e)) ∙
        ap (λ (k : ℕ). elim (leb k (length t)) [ true ↦ k | false ↦ length t ]) s
    go false e =
        let l = leb-false (at + m) (length t) e in
        let near : length t ≤ at + m = omega arith in
        let there : length t ≤ length t + n = omega arith in
        let far : length t ≤ at + (m + n) = omega arith in
        ap (λ (k : ℕ). reach t k n) (reach_past t at m near) ∙ reach_past t (length t) n there ∙ sym (reach_past t at (m + n) far)

module _ (t : List ℕ) where
  -- the first words are the same, and so are those after them
  pub same_first : (a b n : ℕ) → same_run t a b (suc n) ≡ true
      → (get_or t a 0 ≡ get_or t b 0) × (same_run t (reach t a 1) (reach t b 1) n ≡ true)
  unfolding same_run
  same_first a b n h = go (eqb (get_or t a 0) (get_or t b 0)) refl
    where
      go : (x : Bool) → eqb (get_or t a 0) (get_or t b 0) ≡ x
          → (get_or t a 0 ≡ get_or t b 0) × (same_run t (reach t a 1) (reach t b 1) n ≡ true)
      go true e = (eqb-true (get_or t a 0) (get_or t b 0) e, rw (e, same_run) at h)
      go false e = never (rw (e, same_run) at h)

  -- the words are the same
  pub run_same : (a b n : ℕ) → same_run t a b n ≡ true → run t a n ≡ run t b n
  unfolding run
  run_same a b zero h = refl
  run_same a b (suc n) h =
      let s = same_first a b n h in
      ap₂ (λ (w : ℕ) (ws : List ℕ). w ∷ ws) s.0 (run_same (reach t a 1) (reach t b 1) n s.1)

  -- and where the words are the same, they are found to be
  pub same_of_run : (a b n : ℕ) → run t a n ≡ run t b n → same_run t a b n ≡ true
  unfolding run same_run
  same_of_run a b zero h = refl
  same_of_run a b (suc n) h =
      let first : eqb (get_or t a 0) (get_or t b 0) ≡ true = eq-eqb (get_or t a 0) (get_or t b 0) (ap (λ (l : List ℕ). get_or l 0 0) h) in
      rw (first, same_run) (same_of_run (reach t a 1) (reach t b 1) n (ap (drop 1) h))

  -- where four words are the same, the fourth is
  fourth : (a b n : ℕ) → same_run t a b (suc (suc (suc (suc n)))) ≡ true
      → get_or t (reach t a 3) 0 ≡ get_or t (reach t b 3) 0
  fourth a b n h =
      let one = same_first a b (suc (suc (suc n))) h in
      let two = same_first (reach t a 1) (reach t b 1) (suc (suc n)) one.1 in
      let three = same_first (reach t (reach t a 1) 1) (reach t (reach t b 1) 1) (suc n) two.1 in
      let four = same_first (reach t (reach t (reach t a 1) 1) 1) (reach t (reach t (reach t b 1) 1) 1) n three.1 in
      ap (λ (k : ℕ). get_or t k 0) (sym (thrice a)) ∙ four.0 ∙ ap (λ (k : ℕ). get_or t k 0) (thrice b)
    where
      thrice : (at : ℕ) → reach t (reach t (reach t at 1) 1) 1 ≡ reach t at 3
      thrice at = ap (λ (k : ℕ). reach t k 1) (reach_reach t at 1 1) ∙ reach_reach t at 2 1

  -- an edge has four words at least
  pub four_words : (at : ℕ) → 4 ≤ edge_length t at
  unfolding edge_length capped
  four_words at = go (get_or t (update_place t at) 0)
    where
      go : (w : ℕ) → 4 ≤ capped (4 + w)
      go w = cases (leb (4 + w) most) refl
        where
          cases : (b : Bool) → leb (4 + w) most ≡ b → 4 ≤ capped (4 + w)
          cases true e = rw (e, capped) (omega arith)
          cases false e = rw (e, capped) (omega arith)

  -- equal edges have as many words
  pub same_length : (a b : ℕ) → same_edge_at t a b ≡ true → edge_length t a ≡ edge_length t b
  unfolding same_edge_at edge_length update_place
  same_length a b h = go (edge_length t a) (four_words a) h
    where
      go : (n : ℕ) → 4 ≤ n → same_run t a b n ≡ true → edge_length t a ≡ edge_length t b
      go (suc (suc (suc (suc n)))) l e = ap (λ (w : ℕ). capped (4 + w)) (fourth a b n e)
      go zero l e = absurd (omega arith)
      go (suc zero) l e = absurd (omega arith)
      go (suc (suc zero)) l e = absurd (omega arith)
      go (suc (suc (suc zero))) l e = absurd (omega arith)

  -- equal edges have the same hash
  pub same_hash : (a b : ℕ) → same_edge_at t a b ≡ true → hash_at t a ≡ hash_at t b
  unfolding same_edge_at hash_at
  same_hash a b h =
      ap (hash_from 0) (run_same a b (edge_length t a) h ∙ ap (run t b) (same_length a b h))
