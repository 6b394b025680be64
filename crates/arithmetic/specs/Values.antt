-- What the laws on intervals suppose of the variables' values, and what they say of the numbers on the way.
use Rattle.std.specs.Prelude.{◌≡◌, true, List, ℕ, ◌<◌, ℤ, pos, length, get_or}
use Rattle.std.specs.Int.{w64}
use Rattle.std.proofs.Common.{SFits}
use Rattle.model.specs.Basic.{between}
use Rattle.model.specs.Predicate.{Pred, Preds, Expr, all, any, negate, imp, eq, le, none, more, num, old, new, add, sub}
use Rattle.model.specs.Predicate.{mul, choose, Range, range, value}

-- each declared variable's value lies in its range
abbrev pub Inside : List Range → List ℤ → Type 0
Inside declared values =
    (k : ℕ) → k < length declared →
    between (get_or declared k (range (pos 0) (pos 0))).low (get_or declared k (range (pos 0) (pos 0))).high
    (get_or values k (pos 0)) ≡ true

-- an i64 holds the value of every expression in P, also of the ones inside an `if`'s predicate
module _ (before after : List ℤ) where
  abbrev pub Held : Expr → Type 0
  Held x = SFits w64 (value before after x)

  unfoldable mutual
    pub Small : Pred → Type 0
    Small (all ps) = SmallAll ps
    Small (any ps) = SmallAll ps
    Small (negate p) = Small p
    Small (imp p q) = Small p × Small q
    Small (eq x y) = SmallIn x × SmallIn y
    Small (le x y) = SmallIn x × SmallIn y

    pub SmallAll : Preds → Type 0
    SmallAll none = Unit {0}
    SmallAll (more p ps) = Small p × SmallAll ps

    pub SmallIn : Expr → Type 0
    SmallIn (num z) = Held (num z)
    SmallIn (old k) = Held (old k)
    SmallIn (new k) = Held (new k)
    SmallIn (add x y) = SmallIn x × SmallIn y × Held (add x y)
    SmallIn (sub x y) = SmallIn x × SmallIn y × Held (sub x y)
    SmallIn (mul x y) = SmallIn x × SmallIn y × Held (mul x y)
    SmallIn (choose p x y) = Small p × SmallIn x × SmallIn y × Held (choose p x y)
