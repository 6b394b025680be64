-- What the walk finds on any words. On the words of a predicate it is what rows 9 and 10 ask: the laws walk_of,
-- walk_deep and walk_back.
use Rattle.std.specs.Prelude.{Bool, true, false, not, ◌&&◌, ◌||◌, List, [], ◌∷◌, ℕ, zero, suc, ◌+◌, pos, ◌+ℤ◌, ◌-ℤ◌}
use Rattle.std.specs.Prelude.{length, get_or, ltb, Result, Ok, Err, ⊤, ℤ}
use Rattle.std.specs.Int.Signed.{le_z}
use Rattle.model.specs.Bounds.{least_value, greatest_value, max_depth}
use Rattle.model.specs.Predicate.{Word, Range, range, hull, times, all_of, any_of, not_word, imp_word, eq_word, le_word}
use Rattle.model.specs.Predicate.{num_word, old_word, new_word, add_word, sub_word, mul_word, if_word, stray}
use Rattle.model.specs.Table.{unbiased}
use Rattle.node_words.specs.declared.Node.{Node}
use Rattle.node_words.specs.Nodes.{meant, node_of}
use Rattle.arithmetic.specs.Cut.{cut}
use Rattle.table_predicate.specs.declared.Stopped.{Stopped}
use Rattle.table_predicate.specs.declared.Stopped.TheVariants.{Deep, Stray}
use Rattle.table_predicate.specs.declared.Walked.{Walked}
use Rattle.table_predicate.specs.declared.Ended.{Ended}
use Rattle.table_predicate.specs.declared.Interval.{Interval}
use Rattle.table_predicate.specs.declared.Halt.{Halt}
use Rattle.table_predicate.specs.declared.Join.{Join}
use Rattle.table_predicate.specs.declared.Join.TheVariants.{Sum, Difference, Product, Either}

-- the ranges that the words of variables say: three words each, of which the last is for the owner
unfoldable pub declared_of : List ℕ → List Range
declared_of [] = []
declared_of (a ∷ []) = []
declared_of (a ∷ b ∷ []) = []
declared_of (a ∷ b ∷ c ∷ ws) = range (unbiased a) (unbiased b) ∷ declared_of ws

-- a walk that came to a place
abbrev pub place : (leaves : Bool) (next : ℕ) → Walked
place leaves next = record { leaves = leaves; next = next }

-- a walk that ended: why, and how far it came
abbrev pub ended : Stopped → Walked → Ended
ended why w = record { why = why; walk = w }

-- a walk that has entered a node, and the node
pub record Entered : Type 0 where
  pub walk : Walked
  pub node : Node

-- a walk that is past an expression, and the expression's interval, cut to what an i64 holds
pub record Reach : Type 0 where
  pub walk : Walked
  pub low : ℤ
  pub high : ℤ

abbrev pub reach_of : Walked → Interval → Reach
reach_of w x = record { walk = w; low = x.low; high = x.high }

-- an expression in which the walk ended: why, and its interval, with 0 for what was not walked of it
pub record Fall : Type 0 where
  pub why : Stopped
  pub reach : Reach

abbrev pub fall : Stopped → Reach → Fall
fall why x = record { why = why; reach = x }

abbrev pub unreached : Walked → Reach
unreached w = record { walk = w; low = pos 0; high = pos 0 }

abbrev pub halt : Stopped → Halt
halt why = record { why = why; interval = record { low = pos 0; high = pos 0 } }

-- what a function answers, with the walk as it leaves it
unfoldable pub with_node : Result Node Stopped → Walked → Result Entered Ended
with_node (Ok node) w = Ok (record { walk = w; node = node })
with_node (Err why) w = Err (ended why w)

unfoldable pub with_walk : Result ⊤ Stopped → Walked → Result Walked Ended
with_walk (Ok u) w = Ok w
with_walk (Err why) w = Err (ended why w)

unfoldable pub with_interval : Result Interval Halt → Walked → Result Reach Fall
with_interval (Ok x) w = Ok (reach_of w x)
with_interval (Err h) w = Err (fall h.why (reach_of w h.interval))

-- on from what a walk came to, unless it ended
unfoldable pub go_on : {A B : Type 0} → Result A Ended → (A → Result B Ended) → Result B Ended
go_on (Ok a) next = next a
go_on (Err e) next = Err e

-- the same into an expression, and past one
unfoldable pub go_into : {A : Type 0} → Result A Ended → (A → Result Reach Fall) → Result Reach Fall
go_into (Ok a) next = next a
go_into (Err e) next = Err (fall e.why (unreached e.walk))

unfoldable pub go_past : Result Reach Fall → (Reach → Result Walked Ended) → Result Walked Ended
go_past (Ok x) next = next x
go_past (Err e) next = Err (ended e.why e.reach.walk)

-- on to the next node
unfoldable pub entered : List ℕ → Walked → Result Entered Ended
entered words w =
    elim (ltb w.next (length words)) [
      | false ↦ Err (ended Stray w)
      | true ↦
          Ok
          (record {
            walk = record { leaves = w.leaves; next = w.next + 1 };
            node = node_of (get_or words w.next 0);
          })
    ]

-- past an expression with an interval, which is checked, and cut to what an i64 holds
unfoldable pub in_span : Range → Bool
in_span r = le_z least_value r.low && le_z r.high greatest_value

unfoldable pub reached : Walked → Range → Reach
reached w r = record {
  walk = record { leaves = w.leaves || not (in_span r); next = w.next };
  low = cut r.low;
  high = cut r.high;
}

abbrev pub ends : Reach → Range
ends x = range x.low x.high

abbrev pub span : Interval → Range
span x = range x.low x.high

-- the intervals of `add` and `sub`
unfoldable pub plus : Range → Range → Range
plus r s = range (r.low +ℤ s.low) (r.high +ℤ s.high)

unfoldable pub minus : Range → Range → Range
minus r s = range (r.low -ℤ s.high) (r.high -ℤ s.low)

-- Below, P walks the next predicate, and E the next expression.
-- `count` predicates in a row
unfoldable pub gather : (P : Walked → Result Walked Ended) → (count : ℕ) → Walked → Result Walked Ended
gather P zero w = Ok w
gather P (suc n) w = go_on (P w) (gather P n)

-- two expressions in a row
abbrev pub couple : (E : Walked → Result Reach Fall) → Walked → Result Walked Ended
couple E w = go_past (E w) (λ x. go_past (E x.walk) (λ y. Ok y.walk))

-- and joined; where the walk ends in one of them, with 0 for what was not walked
unfoldable pub join_of : Join → Range → Range → Range
join_of Sum = plus
join_of Difference = minus
join_of Product = times
join_of Either = hull

unfoldable pub joined_to : (f : Range → Range → Range) → Reach → Result Reach Fall → Result Reach Fall
joined_to f x (Ok y) = Ok (reached y.walk (f (ends x) (ends y)))
joined_to f x (Err e) = Err (fall e.why (reached e.reach.walk (f (ends x) (ends e.reach))))

unfoldable pub joined_from :
    (E : Walked → Result Reach Fall) (f : Range → Range → Range) → Result Reach Fall → Result Reach Fall
joined_from E f (Ok x) = joined_to f x (E x.walk)
joined_from E f (Err e) = Err (fall e.why (reached e.reach.walk (f (ends e.reach) (range (pos 0) (pos 0)))))

abbrev pub joined : (E : Walked → Result Reach Fall) → (Range → Range → Range) → Walked → Result Reach Fall
joined E f w = joined_from E f (E w)

-- the predicate that begins with a word, from its operands on; no predicate begins with the later words
unfoldable pub predicate_by :
    (P : Walked → Result Walked Ended) (E : Walked → Result Reach Fall) → Word → Walked → Result Walked Ended
predicate_by P E (all_of k) w = gather P k w
predicate_by P E (any_of k) w = gather P k w
predicate_by P E not_word w = P w
predicate_by P E imp_word w = go_on (P w) P
predicate_by P E eq_word w = couple E w
predicate_by P E le_word w = couple E w
predicate_by P E (num_word z) w = Err (ended Stray w)
predicate_by P E (old_word k) w = Err (ended Stray w)
predicate_by P E (new_word k) w = Err (ended Stray w)
predicate_by P E add_word w = Err (ended Stray w)
predicate_by P E sub_word w = Err (ended Stray w)
predicate_by P E mul_word w = Err (ended Stray w)
predicate_by P E if_word w = Err (ended Stray w)
predicate_by P E stray w = Err (ended Stray w)

-- the same for expressions, given the declared ranges; no expression begins with the first words or the last
unfoldable pub expression_by :
    (P : Walked → Result Walked Ended) (E : Walked → Result Reach Fall) (declared : List Range) → Word → Walked
    → Result Reach Fall
expression_by P E declared (all_of k) w = Err (fall Stray (unreached w))
expression_by P E declared (any_of k) w = Err (fall Stray (unreached w))
expression_by P E declared not_word w = Err (fall Stray (unreached w))
expression_by P E declared imp_word w = Err (fall Stray (unreached w))
expression_by P E declared eq_word w = Err (fall Stray (unreached w))
expression_by P E declared le_word w = Err (fall Stray (unreached w))
expression_by P E declared (num_word z) w = Ok (reached w (range z z))
expression_by P E declared (old_word k) w = Ok (reached w (get_or declared k (range (pos 0) (pos 0))))
expression_by P E declared (new_word k) w = Ok (reached w (get_or declared k (range (pos 0) (pos 0))))
expression_by P E declared add_word w = joined E plus w
expression_by P E declared sub_word w = joined E minus w
expression_by P E declared mul_word w = joined E times w
expression_by P E declared if_word w = go_into (P w) (joined E hull)
expression_by P E declared stray w = Err (fall Stray (unreached w))

-- the predicate, or the expression, that comes next, with nodes nested at most `left` deep
module _ (words ranges : List ℕ) where
  unfoldable mutual
    pub predicate_at : (left : ℕ) → Walked → Result Walked Ended
    predicate_at zero w = Err (ended Deep w)
    predicate_at (suc n) w =
        go_on (entered words w)
        (λ e. predicate_by (λ v. predicate_at n v) (λ v. expression_at n v) (meant e.node) e.walk)

    pub expression_at : (left : ℕ) → Walked → Result Reach Fall
    expression_at zero w = Err (fall Deep (unreached w))
    expression_at (suc n) w =
        go_into (entered words w)
        (λ e.
        expression_by (λ v. predicate_at n v) (λ v. expression_at n v) (declared_of ranges) (meant e.node) e.walk)

  -- from a place on
  unfoldable pub walk_at : (at : ℕ) → Result Walked Ended
  walk_at at = predicate_at max_depth (place false at)
