-- Sets of variables as numbers, bit K for variable K, and those that node words write.
use Rattle.std.specs.Prelude.{Bool, true, false, List, [], ◌∷◌, ℕ, zero, suc, ◌+◌, ◌-◌, ◌^◌}
use Rattle.std.specs.List.{fold}
use Rattle.model.specs.Predicate.{named, nothing, the_old, the_new}
use Rattle.model.specs.Table.{bit, word_of}

-- the numbers below n of which f holds, as bits of one number
unfoldable pub mask : (ℕ → Bool) → ℕ → ℕ
mask f zero = 0
mask f (suc n) = elim (f n) [ true ↦ 2 ^ n + mask f n | false ↦ mask f n ]

-- all 48 variables
abbrev pub all_variables : ℕ
all_variables = 281474976710655

-- a set without k; a set without the items of a list
unfoldable pub clear : (set k : ℕ) → ℕ
clear set k = elim (bit set k) [ true ↦ set - 2 ^ k | false ↦ set ]

unfoldable pub cleared : (set : ℕ) → List ℕ → ℕ
cleared set [] = set
cleared set (k ∷ ks) = cleared (clear set k) ks

-- what a set is after a node word, and after some: one that names a new value takes the variable out
unfoldable pub left_out : (set word : ℕ) → ℕ
left_out set word = elim (named (word_of word)) [ nothing ↦ set | the_old k ↦ set | the_new k ↦ clear set k ]

unfoldable pub rest_of : (set : ℕ) → List ℕ → ℕ
rest_of set words = fold left_out set words

-- the variables whose new values node words name
unfoldable pub written_set : List ℕ → ℕ
written_set ws = all_variables - rest_of all_variables ws
