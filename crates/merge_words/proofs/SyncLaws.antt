-- Each way out of the code of src/sync.rt.
use mathlib.Core.Path.{◌≡◌, ap, ◌∙◌}
use mathlib.Core.Bool.{Bool, true, false}
use mathlib.Core.List.{List, [], ◌∷◌}
use Prim.Native.Nat.{ℕ, suc, ◌+◌, ◌-◌, ◌*◌, ◌%◌, ◌≤◌, ◌<◌}
use native.Mathlib.Omega.{arith}
use Rattle.std.proofs.Common.{add-zero}
use mir.Val.{bool_byte}
use borrow.Author.Tests.{eq-eqb, ne_eqb, le-leb, lt-leb}
use Rattle.table_tree.specs.Members.{in_set_at}
use Rattle.table_places.specs.declared.layout.Layout.{Layout}
use Rattle.table_places.specs.Outline.{nodes_place}
use Rattle.merge_append.specs.declared.append.Filling.{Filling}
use Rattle.merge_append.specs.Append.{Filled}
use Rattle.table_places.specs.Own.{own_sets}
use Rattle.merge_words.specs.declared.sync.Sets.{Sets}
use Rattle.merge_words.specs.Sync.{is_shared, shifted, bits_from, sets_of, words_of}

-- `shared`
module _ (t own : List ℕ) (x : Layout) (action : ℕ) where
  pub shared_silent : action ≡ 0 → false ≡ is_shared t x own action
  unfolding is_shared
  shared_silent z = rw (eq-eqb action 0 z)

  module _ (some : action ≡ 0 → ⊥) (a : ℕ) (e : a ≡ action) where
    pub shared_past : x.actions < a → false ≡ is_shared t x own action
    unfolding is_shared
    shared_past h = rw (ne_eqb action 0 some, lt-leb action x.actions (rw e at h))

    pub shared_inside : a ≤ x.actions → (at : ℕ) (b : Bool) → at ≡ nodes_place t x.tree → b ≡ in_set_at t own action at
        → b ≡ is_shared t x own action
    unfolding is_shared
    shared_inside h at b ep eb = rw (ne_eqb action 0 some, le-leb action x.actions (rw e at h)) (eb ∙ ap (in_set_at t own action) ep)

pub ruleset shared_laws = (shared_silent, shared_past, shared_inside)

-- `shifted`
pub shifted_is : (w : ℕ) (b : Bool) (n : ℕ) → n ≡ bool_byte b → w % 2147483648 * 2 + n ≡ shifted w b
unfolding shifted
shifted_is w true n e = rw e
shifted_is w false n e = rw (e, add-zero)

-- `bits`
module _ (t own : List ℕ) (x : Layout) (from left word whole : ℕ) (i : bits_from (is_shared t x own) from left word ≡ whole) where
  pub bits_turn : 0 < left → (b : Bool) (w : ℕ) → b ≡ is_shared t x own (from + (left - 1)) → w ≡ shifted word b → bits_from (is_shared t x own) from (left - 1) w ≡ whole
  unfolding bits_from
  bits_turn h b w eb ew =
      let n : left ≡ suc (left - 1) = omega arith in
      rw (ew, eb) (rw n at i)

  pub bits_end : left ≤ 0 → word ≡ whole
  unfolding bits_from
  bits_end h = let z : left ≡ 0 = omega arith in rw z at i

pub ruleset bits_laws = (bits_turn, bits_end)

-- `gather`
pub gather_is : (t own : List ℕ) (x : Layout) (low high : ℕ) → own ≡ own_sets t x.sets → low ≡ bits_from (is_shared t x own) 0 32 0 → high ≡ bits_from (is_shared t x own) 32 32 0
    → record { own = own; low = low; high = high } ≡ sets_of t x
unfolding sets_of
gather_is t own x low high eo el eh = rw (el, eh, eo)

-- `write`
pub write_is : (s : Sets) (l h : ℕ) (old new : Filling) → l ≡ s.low → h ≡ s.high → Filled (l ∷ h ∷ []) old new
    → Filled (words_of s) old new
unfolding words_of
write_is s l h old new el eh p = rw (← el, ← eh) p
