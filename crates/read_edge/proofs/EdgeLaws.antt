-- Each way out of the code of src/lib.rt, and what it says.
use Prim.Native.Nat.{ℕ}
use mathlib.Core.Path.{◌≡◌, refl, sym, ◌∙◌, ap}
use mathlib.Core.Bool.{Bool, true, false, ◌||◌}
use native.Mathlib.Omega.{arith}
use lib.IntN.{pos}
use lib.Dec.{leb, ltb}
use Rattle.std.specs.Prelude.{Option, Some, None}
use Rattle.line_order.specs.declared.Counts.{Counts}
use Rattle.format.specs.Bytes.{Bytes}
use Rattle.format.specs.Number.{within, natural_of}
use Rattle.text_numbers.specs.Number.{natural_in}
use Rattle.text_numbers.proofs.NumberLaws.{natural_said, natural_denied}
use Rattle.read_form.specs.Form.{field_in}
use Rattle.read_edge.specs.declared.Ends.{Ends}
use Rattle.read_edge.specs.Edge.{ends_sound, ends_of, ends_in, astray}

-- `read_ends`
ends_no : (v : Bytes) (r : Option Ends) → r ≡ None → ends_sound v ≡ false → r ≡ ends_in v
unfolding ends_in
ends_no v r e h = rw (h, ends_in) e

ends_yes : (v : Bytes) → ends_sound v ≡ true → Some (ends_of v) ≡ ends_in v
unfolding ends_in
ends_yes v h = rw (h, ends_in)

-- one number
module _ (s f : Bytes) (hf : f ≡ s) (high : ℕ) where
  number_out : None ≡ natural_in f high → within (pos 0) (pos high) s ≡ false
  number_out e = natural_denied s high (rw hf at (sym e))

  number_in : (n : ℕ) → Some n ≡ natural_in f high → (within (pos 0) (pos high) s ≡ true) × (natural_of s ≡ n)
  number_in n e = natural_said s high n (rw hf at (sym e))

module _ (v f : Bytes) (hf : f ≡ field_in 0 v) (r : Option Ends) where
  pub ends_from : r ≡ None → None ≡ natural_in f 31 → r ≡ ends_in v
  unfolding ends_sound
  ends_from k e = ends_no v r k (rw (number_out (field_in 0 v) f hf 31 e))

  module _ (from : ℕ) (e : Some from ≡ natural_in f 31) (g : Bytes) (hg : g ≡ field_in 1 v) where
    pub ends_action : r ≡ None → None ≡ natural_in g 63 → r ≡ ends_in v
    unfolding ends_sound
    ends_action k i = ends_no v r k (rw ((number_in (field_in 0 v) f hf 31 from e).0, number_out (field_in 1 v) g hg 63 i))

    module _ (action : ℕ) (i : Some action ≡ natural_in g 63) (h : Bytes) (hh : h ≡ field_in 2 v) where
      pub ends_to : r ≡ None → None ≡ natural_in h 31 → r ≡ ends_in v
      unfolding ends_sound
      ends_to k j =
          ends_no v r k
          (rw ((number_in (field_in 0 v) f hf 31 from e).0, (number_in (field_in 1 v) g hg 63 action i).0, number_out (field_in 2 v) h hh 31 j))

module _ (v f : Bytes) (hf : f ≡ field_in 0 v) (from : ℕ) (e : Some from ≡ natural_in f 31) where
  module _ (g : Bytes) (hg : g ≡ field_in 1 v) (action : ℕ) (i : Some action ≡ natural_in g 63) where
    pub ends_are : (h : Bytes) → h ≡ field_in 2 v → (to : ℕ) → Some to ≡ natural_in h 31 → Some (record { from = from; action = action; to = to }) ≡ ends_in v
    unfolding ends_sound ends_of
    ends_are h hh to j =
        let a = number_in (field_in 0 v) f hf 31 from e in
        let b = number_in (field_in 1 v) g hg 63 action i in
        let d = number_in (field_in 2 v) h hh 31 to j in
        let all : ends_sound v ≡ true = rw (a.0, b.0, d.0) in
        rw (← a.1, ← b.1, ← d.1) (ends_yes v all)

pub ruleset ends_laws = (ends_from, ends_action, ends_to, ends_are)

-- `astray`
pub astray_by : (c : Counts) (from action to i j k : ℕ) → i ≡ from → j ≡ action → k ≡ to → (leb c.locations i || (ltb c.actions j || leb c.locations k)) ≡ astray c from action to
unfolding astray
astray_by c from action to i j k hi hj hk = rw (hi, hj, hk)

-- what was read says what stands there
pub ends_none : (v : Bytes) → ends_in v ≡ None → ends_sound v ≡ false
unfolding ends_in
ends_none v e = go (ends_sound v) e
  where
    go : (b : Bool) → elim b as (λ x. Option Ends) [ true ↦ Some (ends_of v) | false ↦ None ] ≡ None → b ≡ false
    go true k = absurd (let q : ◌≡◌ {A = ℕ} 0 1 = cc in omega arith)
    go false k = refl

pub ends_some : (v : Bytes) (ends : Ends) → ends_in v ≡ Some ends → (ends_sound v ≡ true) × (ends_of v ≡ ends)
unfolding ends_in
ends_some v ends e = go (ends_sound v) refl e
  where
    go : (b : Bool) → ends_sound v ≡ b → elim b as (λ x. Option Ends) [ true ↦ Some (ends_of v) | false ↦ None ] ≡ Some ends → (ends_sound v ≡ true) × (ends_of v ≡ ends)
    go true h k = (h, cc)
    go false h k = absurd (let q : ◌≡◌ {A = ℕ} 0 1 = cc in omega arith)
