-- The k-th of the moves of a leaf, of pairs, and of one side after the other.
use mathlib.Core.Path.{◌≡◌, refl, sym, ap, ◌∙◌}
use mathlib.Core.List.{List, [], ◌∷◌, ◌++◌, map}
use Prim.Native.Nat.{ℕ, zero, suc, ◌+◌, ◌-◌, ◌*◌, ◌≤◌, ◌<◌}
use native.Mathlib.Omega.{arith}
use native.Mathlib.Nat.{zero-mul, suc-mul, zero-add, add_comm, add_assoc}
use lib.ListN.{length, get_or, length-map, get_or-append}
use lib.Seq.{get_or-append-add}
use Rattle.model.specs.Rules.{Taker}
use Rattle.model.specs.Moves.{pairs}

-- a place within a list, whatever stands past its end
pub map_at : {A B : Type 0} (f : A → B) (l : List A) (k : ℕ) (d : A) (e : B) → k < length l → get_or (map f l) k e ≡ f (get_or l k d)
map_at f [] k d e h = absurd (omega arith)
map_at f (x ∷ l) zero d e h = refl
map_at f (x ∷ l) (suc k) d e h = map_at f l k d e (omega arith)

-- the left slowest: a whole round of the right for each of the left
pub pairs_at : (xs ys : List (List Taker)) (q r : ℕ) → q < length xs → r < length ys → get_or (pairs xs ys) (q * length ys + r) [] ≡ get_or xs q [] ++ get_or ys r []
unfolding pairs
pairs_at [] ys q r h l = absurd (omega arith)
pairs_at (x ∷ xs) ys zero r h l =
    let z : zero * length ys + r ≡ r = ap (λ n. n + r) (zero-mul (length ys)) ∙ zero-add r in
    let row = map (λ y. x ++ y) ys in
    ap (λ n. get_or (row ++ pairs xs ys) n []) z
    ∙ get_or-append row (pairs xs ys) [] r (rw (length-map ys (λ y. x ++ y)) l)
    ∙ map_at (λ y. x ++ y) ys r [] [] l
pairs_at (x ∷ xs) ys (suc q) r h l =
    let row = map (λ y. x ++ y) ys in
    let z : suc q * length ys + r ≡ length row + (q * length ys + r) =
    ap (λ n. n + r) (suc-mul q (length ys) ∙ add_comm (q * length ys) (length ys))
    ∙ add_assoc (length ys) (q * length ys) r
    ∙ ap (λ n. n + (q * length ys + r)) (sym (length-map ys (λ y. x ++ y))) in
    ap (λ n. get_or (row ++ pairs xs ys) n []) z
    ∙ get_or-append-add row (pairs xs ys) (q * length ys + r) []
    ∙ pairs_at xs ys q r (omega arith) l

-- past the left's, the right's
pub then_at : (xs ys : List (List Taker)) (k : ℕ) → length xs ≤ k → get_or (xs ++ ys) k [] ≡ get_or ys (k - length xs) []
then_at xs ys k h =
    let z : k ≡ length xs + (k - length xs) = omega arith in
    ap (λ n. get_or (xs ++ ys) n []) z ∙ get_or-append-add xs ys (k - length xs) []
