-- Each way out of the code of src/equality.rt; and equal edges have the same hash.
use mathlib.Core.Path.{◌≡◌, refl}
use mathlib.Core.Bool.{Bool, true, false}
use mathlib.Core.List.{List}
use Prim.Native.Nat.{ℕ, suc, ◌+◌, ◌-◌, ◌*◌, ◌%◌, ◌≤◌, ◌<◌}
use native.Mathlib.Omega.{arith}
use native.Mathlib.Nat.{mod-lt}
use lib.ListN.{get_or}
use lib.Dec.{eqb}
use borrow.Author.Tests.{eq-eqb, ne_eqb}
use Rattle.table_places.specs.Outline.{reach, update_place}
use Rattle.merge_append.specs.Runs.{run}
use Rattle.merge_append.specs.NodeWords.{capped}
use Rattle.merge_distinct.specs.Equality.{edge_length, same_run, same_edge_at, mixed, hash_from, hash_at}

-- `edge_length`
pub length_is : (t : List ℕ) (at p w r : ℕ) → p ≡ update_place t at → w ≡ get_or t p 0 → r ≡ capped (4 + w)
    → r ≡ edge_length t at
unfolding edge_length
length_is t at p w r ep ew er = rw (er, ew, ep)

-- `same_words`: from each turn on, the definition goes on to the same answer
module _ (t : List ℕ) (a b count i : ℕ) (whole : Bool) (u : same_run t a b (count - i) ≡ whole) where
  pub same_end : count ≤ i → true ≡ whole
  unfolding same_run
  same_end h = let z : count - i ≡ 0 = omega arith in rw z at u

  module _ (h : i < count) (v w : ℕ) (ev : v ≡ get_or t a 0) (ew : w ≡ get_or t b 0) where
    pub same_not : (v ≡ w → ⊥) → false ≡ whole
    unfolding same_run
    same_not y =
        let n : count - i ≡ suc (count - (i + 1)) = omega arith in
        let differ : eqb (get_or t a 0) (get_or t b 0) ≡ false = rw (← ev, ← ew) (ne_eqb v w y) in
        let j = rw n at u in
        rw (differ, same_run) at j

    pub same_on : v ≡ w → (c d : ℕ) → c ≡ reach t a 1 → d ≡ reach t b 1 → same_run t c d (count - (i + 1)) ≡ whole
    unfolding same_run
    same_on e c d ec ed =
        let n : count - i ≡ suc (count - (i + 1)) = omega arith in
        let equal : eqb (get_or t a 0) (get_or t b 0) ≡ true = rw (← ev, ← ew) (eq-eqb v w e) in
        let j = rw n at u in
        rw (ec, ed) (rw (equal, same_run) at j)

-- `same_edge`
pub same_edge_is : (t : List ℕ) (at other n : ℕ) (r : Bool) → n ≡ edge_length t at → r ≡ same_run t at other n
    → r ≡ same_edge_at t at other
unfolding same_edge_at
same_edge_is t at other n r en er = rw (er, en)

-- `mixed`
pub mixed_is : (sum word : ℕ) → (sum % 4093 * 31 + word % 4294967296) % 4093 ≡ mixed sum word
unfolding mixed
mixed_is sum word = refl

pub mixed_small : (sum word : ℕ) → (sum % 4093 * 31 + word % 4294967296) % 4093 < 4096
mixed_small sum word =
    let h : (sum % 4093 * 31 + word % 4294967296) % 4093 < 4093 =
    mod-lt (sum % 4093 * 31 + word % 4294967296) (omega arith) in
    omega arith

-- `hash`: from each turn on, the definition goes on to the same number
pub hash_begun : (t : List ℕ) (at n : ℕ) → n ≡ edge_length t at → hash_from 0 (run t at (n - 0)) ≡ hash_at t at
unfolding hash_at
hash_begun t at n e = let z : n - 0 ≡ n = omega arith in rw (z, e)

module _ (t : List ℕ) (place count i sum whole : ℕ) (u : hash_from sum (run t place (count - i)) ≡ whole) where
  pub hash_turn : i < count → (w s p : ℕ) → w ≡ get_or t place 0 → s ≡ mixed sum w → p ≡ reach t place 1
      → hash_from s (run t p (count - (i + 1))) ≡ whole
  unfolding hash_from run
  hash_turn h w s p ew es ep =
      let n : count - i ≡ suc (count - (i + 1)) = omega arith in
      rw (ep, es, ew) (rw n at u)

  pub hash_end : count ≤ i → sum ≡ whole
  unfolding hash_from run
  hash_end h = let z : count - i ≡ 0 = omega arith in rw z at u

-- what src/equality.rt needs
pub ruleset equality_laws = (
  length_is,
  same_end,
  same_not,
  same_on,
  same_edge_is,
  mixed_is,
  mixed_small,
  hash_begun,
  hash_turn,
  hash_end,
)
