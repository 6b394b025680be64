-- Each way out of the code of src/judging.rt.
use Prim.Native.Nat.{ℕ, ◌+◌, ◌-◌, ◌≤◌, ◌<◌}
use mathlib.Core.Path.{◌≡◌, refl, sym, ◌∙◌, ap}
use mathlib.Core.Bool.{Bool, true, false}
use mathlib.Core.List.{List, ◌∷◌}
use native.Mathlib.Omega.{arith}
use borrow.Author.Tests.{le-leb, lt-leb, leb-true, lt-ltb, le-ltb}
use lib.ListN.{length, take, drop}
use lib.Dec.{leb, ltb}
use Rattle.format.specs.Bytes.{Bytes}
use Rattle.read_nodes.specs.declared.NodesError.{NodesError}
use Rattle.read_nodes.specs.declared.NodesError.TheVariants as E
use Rattle.read_nodes.specs.Nodes.{nodes_read}
use Rattle.read_predicate.specs.Scratch.{Scratch}
use Rattle.std.specs.Prelude as Std
use Rattle.std.specs.Prelude.{Some, None, Result, Ok, Err}
use Rattle.std.specs.Bool.{then_some}
use Rattle.model.specs.declared.Row.{Row}
use Rattle.model.specs.Row as R
use Rattle.read_extent.specs.Extent.{after_start, next_start}
use Rattle.read_starts.specs.declared.judging.Judged.{Judged}
use Rattle.read_starts.specs.Judged.{sum_up, smaller, one_more, judged, begun, with_start, judged_from, judged_all}
use Rattle.read_starts.proofs.PartLaws.{texts_from, texts_start, texts_none, texts_next, texts_later}

-- `sum`
module _ (a b : ℕ) (p : Bool) (e : p ≡ leb (a + b) 4096) where
  pub sum_small : p ≡ true → a + b < 18446744073709551616
  sum_small h = let l = leb-true (a + b) 4096 (sym e ∙ h) in omega arith

  pub sum_in : p ≡ true → a + b ≡ sum_up a b
  unfolding sum_up
  sum_in h = rw (← e, h, sum_up)

  pub sum_over : p ≡ false → 4096 + 1 ≡ sum_up a b
  unfolding sum_up
  sum_over h = rw (← e, h, sum_up)

pub ruleset sum_laws = (sum_small, sum_in, sum_over)

-- `smaller`
module _ (row : Row) (sofar : Std.Option Row) where
  pub smaller_first : sofar ≡ None → row ≡ smaller row sofar
  unfolding smaller
  smaller_first h = rw h

  module _ (least : Row) (h : sofar ≡ Some least) where
    pub smaller_row : row.0 ≤ least.0 → row ≡ smaller row sofar
    unfolding smaller
    smaller_row l = rw (h, le-leb row.0 least.0 l, smaller)

    pub smaller_sofar : least.0 < row.0 → least ≡ smaller row sofar
    unfolding smaller
    smaller_sofar l = rw (h, lt-leb row.0 least.0 l, smaller)

pub ruleset smaller_laws = (smaller_first, smaller_row, smaller_sofar)

-- `one_more_lem`
module _ (count : ℕ) where
  pub more_in : count < 64 → count + 1 ≡ one_more count
  unfolding one_more
  more_in h = rw (lt-ltb count 64 h, one_more)

  pub more_over : 64 ≤ count → count ≡ one_more count
  unfolding one_more
  more_over h = rw (le-ltb count 64 h, one_more)

pub ruleset more_laws = (more_in, more_over)

-- `begun`
pub begun_is : (before : ℕ) (row : Std.Option Row) → row ≡ then_some (ltb 4096 before) (R.row 11) → judged row 0 0 ≡ begun before
unfolding begun
begun_is before row e = ap (λ (r : Std.Option Row). judged r 0 0) e ∙ go (ltb 4096 before)
  where
    go : (v : Bool) → judged (then_some v (R.row 11)) 0 0 ≡ elim v as (λ x. Judged) [ true ↦ judged (Some (R.row 11)) 0 0 | false ↦ judged None 0 0 ]
    go true = refl
    go false = refl

pub ruleset begun_laws = (begun_is)

-- `with_start`
module _ (j : Judged) (read : Result ℕ NodesError) (c : ℕ) (hc : c ≡ one_more j.count) where
  pub with_are : (n s : ℕ) → read ≡ Ok n → s ≡ sum_up j.nodes n → judged j.row s c ≡ with_start j read
  unfolding with_start
  with_are n s e h = rw (e, h, hc)

  pub with_row : (row s : Row) (error : NodesError) → read ≡ Err error → error ≡ E.Row row → s ≡ smaller row j.row → judged (Some s) j.nodes c ≡ with_start j read
  unfolding with_start
  with_row row s error e i h = rw (e, i, h, hc)

  pub with_full : (s : Row) → read ≡ Err E.Full → s ≡ smaller (R.row 6) j.row → judged (Some s) j.nodes c ≡ with_start j read
  unfolding with_start
  with_full s e h = rw (e, h, hc)

pub ruleset with_laws = (with_are, with_row, with_full)

-- `judge`
module _ (variables : ℕ) (ranges : List ℕ) (before room high : ℕ) (s : Bytes) where
  abbrev pub Goes : Judged → ℕ → Type 0
  Goes j from = judged_all variables ranges before room high s ≡ judged_from variables ranges before room high j (texts_from s from)

  pub judge_start : (j : Judged) → j ≡ begun before → Goes j 0
  unfolding judged_all
  judge_start j e = ap (judged_from variables ranges before room high (begun before)) (texts_start s) ∙ rw e

  module _ (j : Judged) (from : ℕ) (g : Goes j from) where
    module _ (x : Std.Option ℕ) (e : x ≡ next_start s from) where
      pub judge_none : x ≡ None → j ≡ judged_all variables ranges before room high s
      unfolding judged_from
      judge_none z = sym (g ∙ ap (judged_from variables ranges before room high j) (texts_none s from (sym e ∙ z)))

      module _ (at next : ℕ) (z : x ≡ Some at) (y : next ≡ after_start s at) where
        pub judge_less : length s + 1 - next < length s + 1 - from
        judge_less = let l = texts_later s from at (sym e ∙ z) in omega (arith, l.0, l.1)

        -- with lent memory that is as long as at first
        pub judge_on : (nodes₀ nodes : List ℕ) → Scratch nodes₀ nodes → length nodes₀ ≡ room
            → (sorts₀ sorts : List Bool) → Scratch sorts₀ sorts → length sorts₀ ≡ high
            → (p : Bytes) (sofar : ℕ) (read : Result ℕ NodesError) (k : Judged) → p ≡ take (next - 1 - at) (drop at s) → sofar ≡ sum_up before j.nodes
            → read ≡ nodes_read p true variables ranges sofar (length nodes) (length sorts) → k ≡ with_start j read → Goes k next
        unfolding judged_from
        judge_on nodes₀ nodes ln rn sorts₀ sorts ls rs p sofar read k a b c d =
            let here : p ∷ texts_from s next ≡ texts_from s from =
            sym (texts_next s from at (sym e ∙ z) ∙ rw (← y, ← a)) in
            let said : read ≡ nodes_read p true variables ranges (sum_up before j.nodes) room high =
            c ∙ rw (b, ln.long, rn, ls.long, rs) in
            g ∙ rw (← here, d, said)

pub ruleset judge_laws = (judge_start, judge_none, judge_less, judge_on)
