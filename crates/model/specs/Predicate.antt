-- "The sheet text": predicates and expressions, what they mean, and how large they are.
use Rattle.std.specs.Prelude.{ℕ, suc, max, Bool, true, false, not, cond, ◌&&◌, ◌||◌, List, [], ◌∷◌, ◌++◌, ℤ, pos}
use Rattle.std.specs.Prelude.{◌+ℤ◌, ◌-ℤ◌, ◌*ℤ◌, length, get_or, eqb, leb}
use Rattle.std.specs.Int.Signed.{le_z}
use Rattle.model.specs.Basic.{eq_z, exists, keep, count_up}
use Rattle.model.specs.Bounds.{max_variables, least_value, greatest_value}

mutual
  -- `all K P..`, `any K P..`, `not P`, `imp P P`, `eq X X`, `le X X`; K is the number of operands
  pub data Pred : Type 0 where
    all any : Preds → Pred
    negate : Pred → Pred
    imp : Pred → Pred → Pred
    eq le : Expr → Expr → Pred

  pub data Preds : Type 0 where
    none : Preds
    more : Pred → Preds → Preds

  -- a number, `vK` (old), `nK` (new), `add`, `sub`, `mul`, `if P X X`
  pub data Expr : Type 0 where
    num : ℤ → Expr
    old new : ℕ → Expr
    add sub mul : Expr → Expr → Expr
    choose : Pred → Expr → Expr → Expr

unfoldable pub preds : List Pred → Preds
preds [] = none
preds (p ∷ ps) = more p (preds ps)

unfoldable pub operands : Preds → ℕ
operands none = 0
operands (more p ps) = suc (operands ps)

-- The meaning, given the values before and after a step: `vK` reads variable K's value before, `nK` its value after.
module _ (before after : List ℤ) where
  unfoldable mutual
    pub holds : Pred → Bool
    holds (all ps) = all_hold ps
    holds (any ps) = any_holds ps
    holds (negate p) = not (holds p)
    holds (imp p q) = not (holds p) || holds q
    holds (eq x y) = eq_z (value x) (value y)
    holds (le x y) = le_z (value x) (value y)

    -- `all 0` is true
    pub all_hold : Preds → Bool
    all_hold none = true
    all_hold (more p ps) = holds p && all_hold ps

    -- `any 0` is false
    pub any_holds : Preds → Bool
    any_holds none = false
    any_holds (more p ps) = holds p || any_holds ps

    pub value : Expr → ℤ
    value (num z) = z
    value (old k) = get_or before k (pos 0)
    value (new k) = get_or after k (pos 0)
    value (add x y) = value x +ℤ value y
    value (sub x y) = value x -ℤ value y
    value (mul x y) = value x *ℤ value y
    value (choose p x y) = cond (holds p) (value x) (value y)

-- The words, in prefix order. `all K` and `any K` are one word, and each word is one node.
-- `stray` is in no predicate: a token or a table word that is none of the others is read as it.
pub data Word : Type 0 where
  all_of any_of : ℕ → Word
  not_word imp_word eq_word le_word : Word
  num_word : ℤ → Word
  old_word new_word : ℕ → Word
  add_word sub_word mul_word if_word : Word
  stray : Word

unfoldable mutual
  pub words : Pred → List Word
  words (all ps) = all_of (operands ps) ∷ words_all ps
  words (any ps) = any_of (operands ps) ∷ words_all ps
  words (negate p) = not_word ∷ words p
  words (imp p q) = imp_word ∷ words p ++ words q
  words (eq x y) = eq_word ∷ words_of x ++ words_of y
  words (le x y) = le_word ∷ words_of x ++ words_of y

  pub words_all : Preds → List Word
  words_all none = []
  words_all (more p ps) = words p ++ words_all ps

  pub words_of : Expr → List Word
  words_of (num z) = num_word z ∷ []
  words_of (old k) = old_word k ∷ []
  words_of (new k) = new_word k ∷ []
  words_of (add x y) = add_word ∷ words_of x ++ words_of y
  words_of (sub x y) = sub_word ∷ words_of x ++ words_of y
  words_of (mul x y) = mul_word ∷ words_of x ++ words_of y
  words_of (choose p x y) = if_word ∷ words p ++ (words_of x ++ words_of y)

unfoldable pub node_count : Pred → ℕ
node_count p = length (words p)

-- the variable that a word names, and whose value, old or new
pub data Named : Type 0 where
  nothing : Named
  the_old the_new : ℕ → Named

unfoldable pub named : Word → Named
named (all_of k) = nothing
named (any_of k) = nothing
named not_word = nothing
named imp_word = nothing
named eq_word = nothing
named le_word = nothing
named (num_word z) = nothing
named (old_word k) = the_old k
named (new_word k) = the_new k
named add_word = nothing
named sub_word = nothing
named mul_word = nothing
named if_word = nothing
named stray = nothing

-- a variable whose number is `count` or more
unfoldable pub is_outside : ℕ → Named → Bool
is_outside count nothing = false
is_outside count (the_old k) = leb count k
is_outside count (the_new k) = leb count k

unfoldable pub is_new : Named → Bool
is_new nothing = false
is_new (the_old k) = false
is_new (the_new k) = true

unfoldable pub is_new_of : ℕ → Named → Bool
is_new_of k nothing = false
is_new_of k (the_old j) = false
is_new_of k (the_new j) = eqb k j

-- row 7: a word names a variable that is not among the first `count`; row 8: a word names a new value
unfoldable pub names_outside : ℕ → List Word → Bool
names_outside count ws = exists (λ w. is_outside count (named w)) ws

unfoldable pub names_new : List Word → Bool
names_new ws = exists (λ w. is_new (named w)) ws

-- P mentions `nK` ("Steps", the frame rule)
unfoldable pub mentions : ℕ → Pred → Bool
mentions k p = exists (λ w. is_new_of k (named w)) (words p)

-- the variables whose new value P mentions, rising: what an edge with this update writes (request (f))
unfoldable pub written : Pred → List ℕ
written p = keep (λ k. mentions k p) (count_up 0 max_variables)

-- how deep the nodes nest; a leaf counts 1
unfoldable mutual
  pub depth : Pred → ℕ
  depth (all ps) = suc (depth_all ps)
  depth (any ps) = suc (depth_all ps)
  depth (negate p) = suc (depth p)
  depth (imp p q) = suc (max (depth p) (depth q))
  depth (eq x y) = suc (max (depth_of x) (depth_of y))
  depth (le x y) = suc (max (depth_of x) (depth_of y))

  pub depth_all : Preds → ℕ
  depth_all none = 0
  depth_all (more p ps) = max (depth p) (depth_all ps)

  pub depth_of : Expr → ℕ
  depth_of (num z) = 1
  depth_of (old k) = 1
  depth_of (new k) = 1
  depth_of (add x y) = suc (max (depth_of x) (depth_of y))
  depth_of (sub x y) = suc (max (depth_of x) (depth_of y))
  depth_of (mul x y) = suc (max (depth_of x) (depth_of y))
  depth_of (choose p x y) = suc (max (depth p) (max (depth_of x) (depth_of y)))

-- Row 10: between which numbers an expression can lie, its variables being anywhere in their ranges.
pub record Range : Type 0 where
  pub low : ℤ
  pub high : ℤ

unfoldable pub range : ℤ → ℤ → Range
range a b = record { low = a; high = b }

unfoldable pub least : ℤ → ℤ → ℤ
least a b = cond (le_z a b) a b

unfoldable pub greatest : ℤ → ℤ → ℤ
greatest a b = cond (le_z a b) b a

-- the smallest interval around both
unfoldable pub hull : Range → Range → Range
hull r s = range (least r.low s.low) (greatest r.high s.high)

-- the smallest interval around the four products of the ends
unfoldable pub times : Range → Range → Range
times r s =
    hull
    (hull (range (r.low *ℤ s.low) (r.low *ℤ s.low)) (range (r.low *ℤ s.high) (r.low *ℤ s.high)))
    (hull (range (r.high *ℤ s.low) (r.high *ℤ s.low)) (range (r.high *ℤ s.high) (r.high *ℤ s.high)))

module _ (declared : List Range) where
  unfoldable pub interval : Expr → Range
  interval (num z) = range z z
  interval (old k) = get_or declared k (range (pos 0) (pos 0))
  interval (new k) = get_or declared k (range (pos 0) (pos 0))
  interval (add x y) = range ((interval x).low +ℤ (interval y).low) ((interval x).high +ℤ (interval y).high)
  interval (sub x y) = range ((interval x).low -ℤ (interval y).high) ((interval x).high -ℤ (interval y).low)
  interval (mul x y) = times (interval x) (interval y)
  interval (choose p x y) = hull (interval x) (interval y)

  -- the interval stays within the span of row 10
  unfoldable pub stays : Expr → Bool
  stays x = le_z least_value (interval x).low && le_z (interval x).high greatest_value

  -- so do those of all expressions in P, also the ones inside an `if`'s predicate
  unfoldable mutual
    pub all_stay : Pred → Bool
    all_stay (all ps) = all_stay_all ps
    all_stay (any ps) = all_stay_all ps
    all_stay (negate p) = all_stay p
    all_stay (imp p q) = all_stay p && all_stay q
    all_stay (eq x y) = all_stay_in x && all_stay_in y
    all_stay (le x y) = all_stay_in x && all_stay_in y

    pub all_stay_all : Preds → Bool
    all_stay_all none = true
    all_stay_all (more p ps) = all_stay p && all_stay_all ps

    pub all_stay_in : Expr → Bool
    all_stay_in (num z) = stays (num z)
    all_stay_in (old k) = stays (old k)
    all_stay_in (new k) = stays (new k)
    all_stay_in (add x y) = all_stay_in x && (all_stay_in y && stays (add x y))
    all_stay_in (sub x y) = all_stay_in x && (all_stay_in y && stays (sub x y))
    all_stay_in (mul x y) = all_stay_in x && (all_stay_in y && stays (mul x y))
    all_stay_in (choose p x y) = all_stay p && (all_stay_in x && (all_stay_in y && stays (choose p x y)))
