-- Words put into a buffer, and the place after them.
use Prim.Native.Nat.{ℕ, ◌+◌, ◌≤◌, ◌<◌}
use mathlib.Core.Path.{◌≡◌, refl, ◌∙◌}
use mathlib.Core.Bool.{Bool, true, false}
use mathlib.Core.List.{List, [], ◌∷◌}
use native.Mathlib.Omega.{arith}
use borrow.Author.Tests.{le-leb, lt-leb, lt-ltb, le-ltb, leb-true}
use lib.ListN.{length, set, length-set}
use lib.Dec.{leb, ltb}
use Rattle.model.specs.Bounds.{table_words}
use Rattle.table_append.specs.Append.{next_place, put}

-- words put into a buffer leave it as long as it was
pub put_kept : (new : List ℕ) (at : ℕ) (old : List ℕ) → length (put at new old) ≡ length old
unfolding put
put_kept [] at old = refl
put_kept (w ∷ ws) at old = go (ltb at table_words) (put_kept ws (at + 1) (set old at w) ∙ length-set old at w)
  where
    go : (b : Bool) → length (put (at + 1) ws (set old at w)) ≡ length old → length {A = ℕ} (elim b as (λ x. List ℕ) [ true ↦ put (at + 1) ws (set old at w) | false ↦ old ]) ≡ length old
    go true h = h
    go false h = refl

-- where there is no room
pub put_past : (new : List ℕ) (at : ℕ) (old : List ℕ) → table_words ≤ at → old ≡ put at new old
unfolding put
put_past [] at old h = refl
put_past (w ∷ ws) at old h = rw (le-ltb at table_words h, put)

pub next_past : (at n : ℕ) → table_words ≤ at → table_words ≡ next_place at n
unfolding next_place
next_past at n h = go (leb (at + n) table_words) refl
  where
    go : (b : Bool) → leb (at + n) table_words ≡ b → ◌≡◌ {A = ℕ} table_words (elim b as (λ x. ℕ) [ true ↦ at + n | false ↦ table_words ])
    go true e = let l = leb-true (at + n) table_words e in omega arith
    go false e = refl

pub next_in : (at n : ℕ) → at + n ≤ table_words → at + n ≡ next_place at n
unfolding next_place
next_in at n h = rw (le-leb (at + n) table_words h, next_place)

pub next_over : (at n : ℕ) → table_words < at + n → table_words ≡ next_place at n
unfolding next_place
next_over at n h = rw (lt-leb (at + n) table_words h, next_place)

-- `append_one`
pub one_next : (at : ℕ) → at < table_words → at + 1 ≡ next_place at 1
one_next at h = next_in at 1 (omega arith)

pub one_put : (at w : ℕ) (old : List ℕ) → at < table_words → set old at w ≡ put at (w ∷ []) old
unfolding put
one_put at w old h = rw (lt-ltb at table_words h, put)

pub ruleset one_laws = (put_past, next_past, one_next, one_put)
