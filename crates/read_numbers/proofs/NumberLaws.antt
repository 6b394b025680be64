-- Each way out of the code of src/number.rt.
use Prim.Native.Nat.{ℕ, zero, suc, ◌+◌, ◌≤◌, ◌<◌}
use mathlib.Core.Path.{◌≡◌, refl, sym, ◌∙◌, ap}
use mathlib.Core.Bool.{Bool, true, false, true≢false, ◌&&◌, and-true}
use mathlib.Core.List.{[], ◌∷◌}
use mathlib.Core.Option.{Option, none, some}
use native.Mathlib.Omega.{arith}
use borrow.Author.Tests.{le-leb, lt-leb, lt-ltb, le-ltb, leb-true, leb-false}
use lib.IntN.{ℤ, pos, negsuc}
use lib.Dec.{eqb, leb}
use Rattle.model.specs.Basic.{between, or_else}
use Rattle.model.specs.Bounds.{max_edges}
use Rattle.model.proofs.Tests.{and_right, and_no_right}
use Rattle.format.specs.Bytes.{Bytes}
use Rattle.format.specs.Number.{natural, unsigned, negative, number, is_between, within, natural_of}
use Rattle.std.specs.Prelude as P
use Rattle.std.specs.Prelude.{Some, None, Result, Ok, Err}
use Rattle.std.specs.Option.{ok_or}
use Rattle.model.specs.declared.Row.{Row}
use Rattle.model.specs.Row.{row}
use Rattle.text_numbers.specs.Number.{natural_in}
use Rattle.text_numbers.proofs.NumberLaws.{natural_said, natural_denied}
use Rattle.read_form.specs.Form.{value_after, misformed}
use Rattle.read_form.proofs.Outcomes.{lacking, present}
use Rattle.read_numbers.specs.Number.{count_in, few_edges}

-- a number with no minus is its digits' number
number_natural : (s : Bytes) (n : ℕ) → number s ≡ some (pos n) → natural_of s ≡ n
unfolding number natural_of
number_natural [] n h = absurd (let q : ◌≡◌ {A = ℕ} 0 1 = cc in omega arith)
number_natural (b ∷ t) n h = go (eqb b 45) h
  where
    minus_not : (o : Option ℕ) → negative o ≡ some (pos n) → ⊥
    minus_not none k = let q : ◌≡◌ {A = ℕ} 0 1 = (unfold negative in cc) in omega arith
    minus_not (some zero) k = let q : ◌≡◌ {A = ℕ} 0 1 = (unfold negative in cc) in omega arith
    minus_not (some (suc m)) k = let q : ◌≡◌ {A = ℕ} 0 1 = (unfold negative in cc) in omega arith

    plain : (o : Option ℕ) → unsigned o ≡ some (pos n) → or_else 0 o ≡ n
    plain none k = absurd (let q : ◌≡◌ {A = ℕ} 0 1 = (unfold unsigned in cc) in omega arith)
    plain (some m) k = unfold or_else unsigned in cc

    go : (v : Bool) → elim v as (λ x. Option ℤ) [ true ↦ negative (natural t) | false ↦ unsigned (natural (b ∷ t)) ] ≡ some (pos n) → or_else 0 (natural (b ∷ t)) ≡ n
    go true k = absurd (minus_not (natural t) k)
    go false k = plain (natural (b ∷ t)) k

-- a number up to `high` is from `low` on exactly if it is not less
within_from : (s : Bytes) (low high k : ℕ) → within (pos 0) (pos high) s ≡ true → natural_of s ≡ k → within (pos low) (pos high) s ≡ leb low k
unfolding within is_between between
within_from s low high k h e = go (number s) refl h
  where
    go : (o : Option ℤ) → number s ≡ o → is_between (pos 0) (pos high) o ≡ true → is_between (pos low) (pos high) o ≡ leb low k
    go none q w = absurd (true≢false (sym w))
    go (some (pos n)) q w = rw (and_right (leb 0 n) (leb n high) w, and-true (leb low n)) (ap (leb low) (sym (number_natural s n q) ∙ e))
    go (some (negsuc n)) q w = absurd (true≢false (sym w))

within_out : (s : Bytes) (low high : ℕ) → within (pos 0) (pos high) s ≡ false → within (pos low) (pos high) s ≡ false
unfolding within is_between between
within_out s low high h = go (number s) h
  where
    go : (o : Option ℤ) → is_between (pos 0) (pos high) o ≡ false → is_between (pos low) (pos high) o ≡ false
    go none w = refl
    go (some (pos n)) w = and_no_right (leb low n) (leb n high) (sym (ap (λ (x : Bool). x && leb n high) (le-leb 0 n (omega arith))) ∙ w)
    go (some (negsuc n)) w = refl

-- `one_number`
module _ (name : Bytes) (low high : ℕ) (s : Bytes) (ended : Bool) (b : Bool) (hb : b ≡ misformed name 1 s ended) where
  pub number_form : b ≡ true → Err (row 2) ≡ count_in name low high s ended
  unfolding count_in
  number_form h = rw (sym hb ∙ h, count_in)

  module _ (k : b ≡ false) (v : Bytes) (hv : v ≡ value_after name s) (o : P.Option ℕ) (ho : o ≡ natural_in v high) where
    module _ (n : ℕ) (e : Ok n ≡ ok_or o (row 3)) where
      said : (within (pos 0) (pos high) (value_after name s) ≡ true) × (natural_of (value_after name s) ≡ n)
      said = natural_said (value_after name s) high n (sym (ap (λ (x : Bytes). natural_in x high) hv) ∙ sym ho ∙ present o 3 n e)

      pub number_low : n < low → Err (row 3) ≡ count_in name low high s ended
      unfolding count_in
      number_low l = rw (sym hb ∙ k, within_from (value_after name s) low high n said.0 said.1, lt-leb low n l, count_in)

      pub number_is : low ≤ n → Ok n ≡ count_in name low high s ended
      unfolding count_in
      number_is l = rw (sym hb ∙ k, within_from (value_after name s) low high n said.0 said.1, le-leb low n l, count_in) (ap (λ (x : ℕ). Ok x) (sym said.1))

    pub number_out : (r : Row) → Err r ≡ ok_or o (row 3) → Err r ≡ count_in name low high s ended
    unfolding count_in
    number_out r e =
        let q = lacking o 3 r e in
        let out = natural_denied (value_after name s) high (sym (ap (λ (x : Bytes). natural_in x high) hv) ∙ sym ho ∙ q.0) in
        rw (q.1, sym hb ∙ k, within_out (value_after name s) low high out, count_in)

pub ruleset number_laws = (number_form, number_low, number_is, number_out)

-- `few_edges`
module _ (before : ℕ) (c : Result ℕ Row) where
  pub few_unsound : (r : Row) → c ≡ Err r → Err r ≡ few_edges before c
  unfolding few_edges
  few_unsound r e = rw e

  module _ (n : ℕ) (e : c ≡ Ok n) (i : ℕ) (hi : i ≡ n) (p : Bool) (hp : p ≡ leb (before + i) max_edges) where
    pub few_past : p ≡ false → Err (row 15) ≡ few_edges before c
    unfolding few_edges
    few_past h =
        let l = leb-false (before + i) 512 (sym hp ∙ h) in
        rw (e, ← hi, lt-ltb 512 (before + i) l, few_edges)

    pub few_fit : p ≡ true → Ok n ≡ few_edges before c
    unfolding few_edges
    few_fit h =
        let l = leb-true (before + i) 512 (sym hp ∙ h) in
        sym (rw (e, ← hi, le-ltb 512 (before + i) l, few_edges) (ap (λ (x : ℕ). Ok x) (sym hi)))

pub ruleset few_laws = (few_unsound, few_past, few_fit)
