-- What the functions of the search promise each other.
use Rattle.std.specs.Prelude.{ℕ, suc, ◌+◌, ◌-◌, ◌≤◌, ◌<◌, ◌≡◌, Bool, true, false, not, ◌&&◌, length, get_or}
use Rattle.std.specs.Prelude.{Option, MatchOption}
use mathlib.Core.List.{List, ◌++◌, map, Memᴰ}
use Rattle.std.specs.Int.Bits.{bit_and}
use Rattle.std.specs.Int.Count.{ones}
use Rattle.model.specs.Basic.{exists, keep, count_up, sum}
use Rattle.model.specs.Table.{bit}
use Rattle.judge_cover.specs.Cover.{coverable, group, groups, within, left_by, worth, past, useful}

unfoldable pub advanced : ℕ → Bool → ℕ
advanced n true = n + 1
advanced n false = n

-- a list without item k, as far as 16 items
pub record Without (k : ℕ) (list rest : List ℕ) : Type 0 where
  pub each : (i : ℕ) → i < 16 → get_or rest i 0 ≡ get_or list (past k i) 0

-- The groups stand one after the other, in the first `size` places and the first 512.
pub record InRow (starts ends : List ℕ) (n size : ℕ) : Type 0 where
  pub next : (k : ℕ) → suc k < n → get_or ends k 0 ≤ get_or starts (suc k) 0
  pub inside : (k : ℕ) → k < n → get_or ends k 0 ≤ size
  pub low : (k : ℕ) → k < n → get_or ends k 0 ≤ 512

-- The groups stand one after the other, each with an edge, in the first `size` places.
pub record Laid (starts ends : List ℕ) (n size : ℕ) : Type 0 where
  pub some : (k : ℕ) → k < n → get_or starts k 0 < get_or ends k 0
  pub next : (k : ℕ) → suc k < n → get_or ends k 0 ≤ get_or starts (suc k) 0
  pub inside : (k : ℕ) → k < n → get_or ends k 0 ≤ size

-- From where the first group begins it is no further than `size` places to where one ends.
pub record Spans (starts ends : List ℕ) (n size : ℕ) : Type 0 where
  pub near : (k : ℕ) → k < n → get_or ends k 0 ≤ get_or starts 0 0 + size

-- the end of the last group, if there is one
pub record Last (ends : List ℕ) (n r : ℕ) : Type 0 where
  pub none : n ≡ 0 → r ≡ 0
  pub some : 0 < n → r ≡ get_or ends (n - 1) 0

-- no edge of a group covers more than b variables of u
abbrev pub CoversAtMost : (u : ℕ) (g : List ℕ) (b : ℕ) → Type 0
CoversAtMost u g b = (r : ℕ) → Memᴰ r g → ones u ≤ b + ones (bit_and u r)

-- such a bound for each of n groups, and the sum of them
pub record BoundsOf (masks starts ends : List ℕ) (n u : ℕ) (gains : List ℕ) (total : ℕ) : Type 0 where
  pub each : (k : ℕ) → k < n → CoversAtMost u (group masks (get_or starts k 0) (get_or ends k 0)) (get_or gains k 0)
  pub all : total ≡ sum (map (λ k. get_or gains k 0) (count_up 0 n))

-- a part of a set, which has a variable if the set has one
pub record PartOf (w u : ℕ) : Type 0 where
  pub inside : within w u ≡ true
  pub some : 0 < u → 0 < w

-- Those edges of a group that pass a test stand from one place up to another; before it, and from the group's end on,
-- nothing has changed.
pub record SiftedTo (p : ℕ → Bool) (masks : List ℕ) (from to : ℕ) (before after : List ℕ) (count next : ℕ)
    : Type 0 where
  pub size : length after ≡ length before
  pub grown : count ≤ next
  pub slow : next + from ≤ count + to
  pub same : (i : ℕ) → i < count → get_or after i 0 ≡ get_or before i 0
  pub rest : (i : ℕ) → to ≤ i → count ≤ from → get_or after i 0 ≡ get_or before i 0
  pub edges : group after count next ≡ keep p (group masks from to)

-- the useful edges of a group, a bound for them, and the total that has it in place of the old one
pub record Passed (masks : List ℕ) (from to u total gain : ℕ) (before after : List ℕ) (count next most less : ℕ)
    : Type 0 where
  pub sifted : SiftedTo (useful u total gain) masks from to before after count next
  pub bound : CoversAtMost u (group masks from to) most
  pub all : less + gain ≡ total + most

-- groups that can cover what others can, and what they cover at most
pub record Narrowed (masks from to : List ℕ) (n u : ℕ) (kept starts ends gains : List ℕ) (total : ℕ) : Type 0 where
  pub laid : Laid starts ends n (length kept)
  pub bounds : BoundsOf kept starts ends n u gains total
  pub same : coverable (groups kept starts ends n) u ≡ coverable (groups masks from to n) u

-- No total says that there is no cover.
pub record NarrowedTo (masks from to : List ℕ) (n u : ℕ) (before kept starts ends gains : List ℕ) (total : Option ℕ)
    : Type 0 where
  pub size : length kept ≡ length before
  pub starts_size : length starts ≡ 16
  pub ends_size : length ends ≡ 16
  pub gains_size : length gains ≡ 16
  pub outcome : MatchOption total (coverable (groups masks from to n) u ≡ false)
      (Narrowed masks from to n u kept starts ends gains)

-- the groups from group k on
unfoldable pub groups_from : (masks starts ends : List ℕ) (k n : ℕ) → List (List ℕ)
groups_from masks starts ends k n = map (λ j. group masks (get_or starts j 0) (get_or ends j 0)) (count_up k (n - k))

-- all groups but group k
unfoldable pub others_at : (masks starts ends : List ℕ) (n k : ℕ) → List (List ℕ)
others_at masks starts ends n k = groups masks starts ends k ++ groups_from masks starts ends (suc k) n

-- an edge of group k that mentions v, with which the other groups cover the rest
unfoldable pub through_at : (masks starts ends : List ℕ) (n u v k : ℕ) → Bool
through_at masks starts ends n u v k =
    exists (λ r. not (bit r v) && coverable (others_at masks starts ends n k) (bit_and u r))
    (group masks (get_or starts k 0) (get_or ends k 0))

-- the same, by the places of the edges that are worth a try
abbrev pub tries_at : (masks : List ℕ) (from to : ℕ) (starts ends : List ℕ) (m u v i : ℕ) → Bool
tries_at masks from to starts ends m u v i =
    worth masks from to u v i && coverable (groups masks starts ends m) (left_by masks u i)
