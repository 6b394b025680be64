-- The leaves of a composition, numbered in order (row 14).
use mathlib.Core.Path.{◌≡◌, subst}
use mathlib.Core.List.{List, [], ◌++◌, append_assoc, append-nil, nil≢cons, cons≢nil, head-eq_of_cons-eq, tail-eq_of_cons-eq}
use Prim.Native.Nat.{ℕ, zero, suc, ◌+◌, ◌≤◌, ◌<◌}
use native.Mathlib.Omega.{arith}
use native.Mathlib.Numerals.{add-one}
use native.Mathlib.Nat.{add_assoc}
use native.Mathlib.Decide.{dec_lt}
use Rattle.model.specs.Basic.{count_up}
use Rattle.model.specs.Composition.{Tree, par, syn, ini, leaf, leaves}

-- the number of leaves
unfoldable pub size : Tree → ℕ
size (par c d) = size c + size d
size (syn list c) = size c
size (ini p c) = size c
size (leaf k) = 1

-- the leaves are n, n + 1, and so on
unfoldable pub Numbered : ℕ → Tree → Type 0
Numbered i (par c d) = Numbered i c × Numbered (i + size c) d
Numbered i (syn list c) = Numbered i c
Numbered i (ini p c) = Numbered i c
Numbered i (leaf k) = k ≡ i

record Split (c : Tree) (i count : ℕ) (rest : List ℕ) : Type 0 where
  numbered : Numbered i c
  left : ℕ
  rest_is : rest ≡ count_up (i + size c) left
  count_is : count ≡ size c + left

split : (c : Tree) (i count : ℕ) (rest : List ℕ) → leaves c ++ rest ≡ count_up i count → Split c i count rest
unfolding size Numbered leaves count_up
split (par c d) i count rest h =
    let x = split c i count (leaves d ++ rest) (rw append_assoc at h) in
    let y = split d (i + size c) x.left rest x.rest_is in
    record {
      numbered = (x.numbered, y.numbered);
      left = y.left;
      rest_is = rw (← add_assoc i (size c) (size d)) y.rest_is;
      count_is = omega (arith, x.count_is, y.count_is);
    }
split (syn list c) i count rest h = let x = split c i count rest h in record { numbered = x.numbered; left = x.left; rest_is = x.rest_is; count_is = x.count_is }
split (ini p c) i count rest h = let x = split c i count rest h in record { numbered = x.numbered; left = x.left; rest_is = x.rest_is; count_is = x.count_is }
split (leaf k) i zero rest h = absurd (cons≢nil h)
split (leaf k) i (suc count) rest h = record {
  numbered = head-eq_of_cons-eq h;
  left = count;
  rest_is = rw add-one (tail-eq_of_cons-eq h);
  count_is = omega arith;
}

pub numbered : (c : Tree) (count : ℕ) → leaves c ≡ count_up 0 count → Numbered 0 c
numbered c count h = (split c 0 count [] (rw append-nil h)).numbered

pub size_is : (c : Tree) (count : ℕ) → leaves c ≡ count_up 0 count → size c ≡ count
unfolding count_up
size_is c count h = go (split c 0 count [] (rw append-nil h)).left (split c 0 count [] (rw append-nil h)).rest_is (split c 0 count [] (rw append-nil h)).count_is
  where
    go : (left : ℕ) → [] ≡ count_up (0 + size c) left → count ≡ size c + left → size c ≡ count
    go zero e p = omega arith
    go (suc left) e p = absurd (nil≢cons e)

-- P holds of every leaf
unfoldable pub Leaves : (ℕ → Type 0) → Tree → Type 0
Leaves P (par c d) = Leaves P c × Leaves P d
Leaves P (syn list c) = Leaves P c
Leaves P (ini p c) = Leaves P c
Leaves P (leaf k) = P k

pub leaves_all : {P : ℕ → Type 0} → ((k : ℕ) → P k) → (c : Tree) → Leaves P c
unfolding Leaves
leaves_all f (par c d) = (leaves_all f c, leaves_all f d)
leaves_all f (syn list c) = leaves_all f c
leaves_all f (ini p c) = leaves_all f c
leaves_all f (leaf k) = f k

pub leaves_map : {P Q : ℕ → Type 0} → ((k : ℕ) → P k → Q k) → (c : Tree) → Leaves P c → Leaves Q c
unfolding Leaves
leaves_map f (par c d) h = (leaves_map f c h.0, leaves_map f d h.1)
leaves_map f (syn list c) h = leaves_map f c h
leaves_map f (ini p c) h = leaves_map f c h
leaves_map f (leaf k) h = f k h

pub leaves_in : {P : ℕ → Type 0} (c : Tree) (i : ℕ) → Numbered i c → ((k : ℕ) → i ≤ k → k < i + size c → P k) → Leaves P c
unfolding Leaves Numbered size
leaves_in (par c d) i w h = (
  leaves_in c i w.0 (λ k x y. h k x (omega arith)),
  leaves_in d (i + size c) w.1 (λ k x y. h k (omega arith) (omega arith)),
)
leaves_in (syn list c) i w h = leaves_in c i w h
leaves_in (ini p c) i w h = leaves_in c i w h
leaves_in (leaf k) i w h = h k (omega arith) (omega arith)

pub leaves_out : (P : ℕ → Type 0) (c : Tree) (i : ℕ) → Numbered i c → Leaves P c → (k : ℕ) → i ≤ k → k < i + size c → P k
unfolding Leaves Numbered size
leaves_out P (par c d) i w h k x y = go (dec_lt k (i + size c)) (λ z. leaves_out P c i w.0 h.0 k x z) (λ z. leaves_out P d (i + size c) w.1 h.1 k z (omega arith))
  where
    go : Dec (k < i + size c) → (k < i + size c → P k) → (i + size c ≤ k → P k) → P k
    go (yes z) f g = f z
    go (no z) f g = g (omega arith)
leaves_out P (syn list c) i w h k x y = leaves_out P c i w h k x y
leaves_out P (ini p c) i w h k x y = leaves_out P c i w h k x y
leaves_out P (leaf j) i w h k x y = let e : j ≡ k = omega arith in subst P e h
