-- Each way out of the code of src/starts.rt.
use mathlib.Core.Path.{◌≡◌, refl, ap}
use mathlib.Core.List.{List}
use Prim.Native.Nat.{ℕ, suc, ◌+◌, ◌-◌, ◌≤◌, ◌<◌}
use native.Mathlib.Omega.{arith}
use lib.ListN.{get_or}
use Rattle.table_places.specs.declared.layout.Layout.{Layout}
use Rattle.table_places.specs.Outline.{after_predicate}
use Rattle.table_places.specs.Starts.{starts_at, start_count, first_start}
use Rattle.merge_append.specs.declared.append.Filling.{Filling}
use Rattle.merge_append.specs.Append.{Filled}
use Rattle.merge_append.specs.Runs.{nodes_at}
use Rattle.merge_append.specs.NodeWords.{capped}
use Rattle.merge_append.proofs.AppendLaws.{Underway, begun, on_by, ended}
use Rattle.merge_predicates.specs.declared.starts.Starts.{Starts}
use Rattle.merge_predicates.specs.Starts.{starts_of, no_starts, add_starts, start_nodes_at}

-- `starts_of`
pub starts_is : (t : List ℕ) (x : Layout) (at first count : ℕ) → at ≡ starts_at t x.tree → first ≡ first_start t at
    → count ≡ start_count t at → ◌≡◌ {A = Starts} (record { first = first; count = count }) (starts_of t x)
unfolding starts_of
starts_is t x at first count e f g = rw (f, g, e)

-- `no_starts`
pub none_is : ◌≡◌ {A = Starts} (record { first = 0; count = 0 }) no_starts
unfolding no_starts
none_is = refl

-- `starts_nodes`
module _ (t : List ℕ) (place count i sum whole : ℕ) (u : add_starts t place (count - i) sum ≡ whole) where
  pub sum_turn : i < count → (n a p : ℕ) → n ≡ get_or t place 0 → a ≡ capped (sum + n) → p ≡ after_predicate t place
      → add_starts t p (count - (i + 1)) a ≡ whole
  unfolding add_starts
  sum_turn h n a p en ea ep =
      let m : count - i ≡ suc (count - (i + 1)) = omega arith in
      rw (ea, en, ep) (rw m at u)

  pub sum_end : count ≤ i → sum ≡ whole
  unfolding add_starts
  sum_end h = let z : count - i ≡ 0 = omega arith in rw z at u

-- what the equations in src/starts.rt need
pub ruleset start_laws = (starts_is, none_is, sum_turn, sum_end)

-- `copied`
module _ (t whole : List ℕ) (old now : Filling) (place count i : ℕ)
    (u : Underway whole old (start_nodes_at t place (count - i)) now) where
  pub copied_turn : i < count → (p : ℕ) (new : Filling) → Filled (nodes_at t place) now new
      → p ≡ after_predicate t place → Underway whole old (start_nodes_at t p (count - (i + 1))) new
  unfolding start_nodes_at
  copied_turn h p new a e =
      let m : count - i ≡ suc (count - (i + 1)) = omega arith in
      rw e (on_by u (ap (start_nodes_at t place) m) a)

  pub copied_end : count ≤ i → Filled whole old now
  unfolding start_nodes_at
  copied_end h = let z : count - i ≡ 0 = omega arith in ended u (ap (start_nodes_at t place) z)

pub copied_begun : (t : List ℕ) (place count : ℕ) (old : Filling)
    → Underway (start_nodes_at t place count) old (start_nodes_at t place (count - 0)) old
copied_begun t place count old =
    let z : count - 0 ≡ count = omega arith in rw z (begun (start_nodes_at t place count) old)

pub ruleset copied_laws = (copied_begun, copied_turn, copied_end)
