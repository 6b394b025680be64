-- Codes: each way out of the code of src/codes.rt.
use Prim.Native.Nat.{ℕ, suc, ◌+◌, ◌-◌, ◌^◌, ◌≤◌, ◌<◌}
use mathlib.Core.Path.{◌≡◌, refl, sym, ◌∙◌, ap}
use mathlib.Core.Bool.{Bool, true, false, cond}
use mathlib.Core.List.{List, [], ◌∷◌}
use mathlib.Core.Option.{Option, none, some}
use native.Mathlib.Omega.{arith}
use borrow.Author.Tests.{eq-eqb, ne_eqb, ltb-true, leb-true}
use lib.ListN.{length, take, drop}
use lib.IntN.{ℤ, pos, negsuc, nat_abs, ◌+ℤ◌}
use lib.Dec.{eqb, leb, ltb}
use mir.Syntax.{w32, w64}
use mir.Val.{SFits, to_z, of_z}
use mir.ValLaws.{to_z-of_z}
use Rattle.model.specs.Basic.{between, same}
use Rattle.model.specs.Bounds.{least_number, greatest_number, bias}
use Rattle.model.specs.Predicate.{Word, num_word, stray}
use Rattle.model.specs.Limits.{in_range}
use Rattle.model.specs.Table.{code, biased}
use Rattle.format.specs.Bytes.{Bytes, 'n, 'v}
use Rattle.format.specs.Number.{within, is_between, natural}
use Rattle.format.specs.Tokens.{numeral, find, spellings}
use Rattle.arithmetic.proofs.Signed.{widened}
use Rattle.text_numbers.specs.Number.{integer_in, natural_in, up_to}
use Rattle.std.specs.Prelude as Std
use Rattle.std.specs.Prelude.{Some, None, Result, Ok, Err}
use Rattle.std.specs.Result.{OkIff, result_unwrap_or}
use Rattle.std.specs.Int.{FitsUnsignedBits}
use Rattle.text_numbers.proofs.NumberLaws.{natural_in_lem, integer_said, integer_denied, natural_said, natural_denied}
use Rattle.text_bytes.proofs.Places.{take_rest}
use Rattle.node_words.specs.declared.Node.{Node}
use Rattle.node_words.specs.declared.Node.TheVariants.{All, Any, Number, Old, New, Stray}
use Rattle.node_words.specs.Nodes.{meant, node_for, fitted, word_for}
use Rattle.node_words.proofs.NodeLaws.{all_held, any_held, old_held, new_held, word_for_lem}
use Rattle.read_words.specs.declared.codes.Numbered.{Numbered}
use Rattle.read_words.specs.declared.codes.Numbered.TheVariants as C
use Rattle.read_tokens.specs.Shape.{shape_of}
use Rattle.read_words.specs.Codes.{word_with, number_code, argument_code, variable_code, word_code, count_code}
use Rattle.read_tokens.specs.declared.tokens.Shape.{Shape}
use Rattle.read_tokens.specs.declared.tokens.Shape.TheVariants.{Bare, Lettered, Plain}
use Rattle.read_tokens.proofs.ShapeLaws.{from_shape, numeral_is, lettered_long}

-- `keyword_code`: the words before are not it, and this one is
module _ (t : Bytes) (n : ℕ) (k : Bytes) (w : Word) (ws : List (Bytes × Word)) (p : Bool) (e : p ≡ same k t) where
  pub keyword_here : p ≡ true → n ≡ code w → n ≡ code (find stray ((k, w) ∷ ws) t)
  unfolding find
  keyword_here h g = rw (← e, h, find) g

  pub keyword_on : p ≡ false → n ≡ code (find stray ws t) → n ≡ code (find stray ((k, w) ∷ ws) t)
  unfolding find
  keyword_on h g = rw (← e, h, find) g

pub keyword_none : (t : Bytes) (n : ℕ) → n ≡ code stray → n ≡ code (find stray [] t)
unfolding find
keyword_none t n e = e

pub ruleset keyword_laws = (keyword_here, keyword_on, keyword_none)

-- `biased`: the sum is read as a number of 32 bits, or as 0
by_fit : {E : Type 0} (r : Result ℕ E) (n : ℕ) → n < 2 ^ 32 → OkIff r (n < 2 ^ 32) n → result_unwrap_or r 0 ≡ n
by_fit (Ok x) n l h = h.1
by_fit (Err e) n l h = absurd (h l)

by_none : {E : Type 0} (r : Result ℕ E) (v : ℕ) → OkIff r ⊥ v → result_unwrap_or r 0 ≡ 0
by_none (Ok x) v h = absurd h.0
by_none (Err e) v h = refl

pub biased_by : {E : Type 0} (z : ℤ) (r : Result ℕ E) → SFits w32 z → OkIff r (FitsUnsignedBits 32 (z +ℤ pos bias)) (nat_abs (z +ℤ pos bias)) → result_unwrap_or r 0 ≡ biased z
unfolding biased
biased_by (pos n) r f h = by_fit r (n + bias) (omega (arith, f.sfits)) h ∙ omega arith
biased_by (negsuc n) r f h = go (ltb bias (suc n)) refl h
  where
    moved : Bool → ℤ
    moved v = cond v (negsuc (suc n - suc bias)) (pos (bias - suc n))

    go : (v : Bool) → ltb bias (suc n) ≡ v → OkIff r (FitsUnsignedBits 32 (moved v)) (nat_abs (moved v)) → result_unwrap_or r 0 ≡ bias - suc n
    go true e k = by_none r _ k ∙ omega (arith, ltb-true bias (suc n) e)
    go false e k = by_fit r (bias - suc n) (omega arith) k

shifted : (z : ℤ) → SFits w32 z → SFits w64 (z +ℤ pos bias)
shifted (pos n) f = record { sfits = omega (arith, f.sfits) }
shifted (negsuc n) f = go (ltb bias (suc n))
  where
    go : (v : Bool) → SFits w64 (cond v (negsuc (suc n - suc bias)) (pos (bias - suc n)))
    go true = record { sfits = omega (arith, f.sfits) }
    go false = record { sfits = omega arith }

pub moved_sum : (z : ℤ) → SFits w32 z → (a b : ℤ) → a ≡ to_z w32 (of_z w32 z) → b ≡ pos 1000000000
    → to_z w64 (of_z w64 (to_z w64 (of_z w64 a) +ℤ to_z w64 (of_z w64 b))) ≡ z +ℤ pos bias
moved_sum z f a b e g = rw (e, g, widened z f) (to_z-of_z w64 _ (shifted z f))

-- `number_code`
module _ (s : Bytes) (m : Std.Option ℤ) (e : m ≡ integer_in s least_number greatest_number) where
  pub number_in : (z : ℤ) → m ≡ Some z → (b : ℕ) → b ≡ biased z → (r : ℕ) → r ≡ word_for (Number b) → r ≡ number_code s
  unfolding number_code within is_between node_for in_range
  number_in z h b f r g =
      let i = integer_said s least_number greatest_number z (sym e ∙ h) in
      let j : between least_number greatest_number z ≡ true = rw i.2 at i.0 in
      rw (i.0, number_code, i.1) (g ∙ ap (λ (n : ℕ). word_for (Number n)) f ∙ word_for_lem (num_word z) j)

  pub number_out : m ≡ None → (r : ℕ) → r ≡ code stray → r ≡ number_code s
  unfolding number_code
  number_out h r g = rw (integer_denied s least_number greatest_number (sym e ∙ h), number_code) g

pub ruleset number_laws = (number_in, number_out)

-- `argument_code`
up_small : (o : Option ℕ) (high k : ℕ) → up_to high o ≡ Some k → k ≤ high
unfolding up_to
up_small none high k e = absurd (let z : ◌≡◌ {A = ℕ} 0 1 = cc in omega arith)
up_small (some n) high k e = go (leb n high) refl e
  where
    go : (v : Bool) → leb n high ≡ v → elim v [ true ↦ Some n | false ↦ None ] ≡ Some k → k ≤ high
    go true h g = let z : n ≡ k = cc in omega (arith, leb-true n high h)
    go false h g = absurd (let z : ◌≡◌ {A = ℕ} 0 1 = cc in omega arith)

-- the word of a node with a small number is the code
with_code : (which : Numbered) (k : ℕ) → k ≤ 512 → word_for (node_for (word_with which k)) ≡ code (word_with which k)
unfolding word_with node_for
with_code C.All k h = all_held k (omega arith)
with_code C.Any k h = any_held k (omega arith)
with_code C.Old k h = old_held k (omega arith)
with_code C.New k h = new_held k (omega arith)

module _ (which : Numbered) (high : ℕ) (s : Bytes) (m : Std.Option ℕ) (e : m ≡ natural_in s high) where
  pub argument_in : high ≤ 512 → (k : ℕ) → m ≡ Some k → (n : Node) → n ≡ node_for (word_with which k) → (r : ℕ) → r ≡ word_for n → r ≡ argument_code which high s
  unfolding argument_code
  argument_in l k h n f r g =
      let i = natural_said s high k (sym e ∙ h) in
      let u = up_small (natural s) high k (sym (natural_in_lem s high) ∙ sym e ∙ h) in
      rw (i.0, argument_code, i.1) (g ∙ ap word_for f ∙ with_code which k (omega arith))

  pub argument_out : m ≡ None → (r : ℕ) → r ≡ code stray → r ≡ argument_code which high s
  unfolding argument_code
  argument_out h r g = rw (natural_denied s high (sym e ∙ h), argument_code) g

pub ruleset argument_laws = (argument_in, argument_out)

-- `node_with`
module _ (which : Numbered) (k : ℕ) where
  pub with_all : which ≡ C.All → All k ≡ node_for (word_with which k)
  unfolding word_with node_for
  with_all h = rw h

  pub with_any : which ≡ C.Any → Any k ≡ node_for (word_with which k)
  unfolding word_with node_for
  with_any h = rw h

  pub with_old : which ≡ C.Old → Old k ≡ node_for (word_with which k)
  unfolding word_with node_for
  with_old h = rw h

  pub with_new : which ≡ C.New → New k ≡ node_for (word_with which k)
  unfolding word_with node_for
  with_new h = rw h

pub ruleset with_laws = (with_all, with_any, with_old, with_new)

-- `stray_code` and `is_stray`
pub stray_is : (r : ℕ) → r ≡ word_for Stray → r ≡ code stray
unfolding word_for fitted meant
stray_is r e = e

pub stray_test : (c r : ℕ) → r ≡ code stray → eqb c r ≡ eqb c (code stray)
stray_test c r e = rw e

-- `variable_code`
module _ (letter : ℕ) (s : Bytes) where
  pub variable_old : (r : ℕ) → letter ≡ 118 → r ≡ argument_code C.Old 47 s → r ≡ variable_code letter s
  unfolding variable_code
  variable_old r h e = rw (eq-eqb letter 'v h, variable_code) e

  module _ (h : letter ≡ 118 → ⊥) where
    pub variable_new : (r : ℕ) → letter ≡ 110 → r ≡ argument_code C.New 47 s → r ≡ variable_code letter s
    unfolding variable_code
    variable_new r k e = rw (ne_eqb letter 'v h, variable_code, eq-eqb letter 'n k, variable_code) e

    pub variable_none : (letter ≡ 110 → ⊥) → (r : ℕ) → r ≡ code stray → r ≡ variable_code letter s
    unfolding variable_code
    variable_none k r e = rw (ne_eqb letter 'v h, variable_code, ne_eqb letter 'n k, variable_code) e

pub ruleset variable_laws = (variable_old, variable_new, variable_none)

-- `word_code` and `count_code`
module _ (t : Bytes) (x : Shape) (e : x ≡ shape_of t) where
  by_shape : (y : Shape) → x ≡ y → numeral t ≡ from_shape y t
  by_shape y h = numeral_is t ∙ ap (λ (z : Shape). from_shape z t) (sym e ∙ h)

  pub word_bare : (r : ℕ) → x ≡ Bare → r ≡ number_code t → r ≡ word_code t
  unfolding word_code from_shape
  word_bare r h g = rw (by_shape Bare h, word_code) g

  pub word_lettered : (b : ℕ) (r : ℕ) → x ≡ Lettered b → r ≡ variable_code b (take (length t - 1) (drop 1 t)) → r ≡ word_code t
  unfolding word_code from_shape
  word_lettered b r h g = rw (by_shape (Lettered b) h, word_code) (rw (take_rest t 1) at g)

  pub word_plain : (r : ℕ) → x ≡ Plain → r ≡ code (find stray spellings t) → r ≡ word_code t
  unfolding word_code from_shape
  word_plain r h g = rw (by_shape Plain h, word_code) g

  module _ (which : Numbered) where
    pub count_bare : (r : ℕ) → x ≡ Bare → r ≡ argument_code which 512 t → r ≡ count_code which t
    unfolding count_code from_shape
    count_bare r h g = rw (by_shape Bare h, count_code) g

    pub count_other : (x ≡ Bare → ⊥) → (r : ℕ) → r ≡ code stray → r ≡ count_code which t
    unfolding count_code from_shape
    count_other h r g = go x refl
      where
        go : (y : Shape) → x ≡ y → r ≡ count_code which t
        go Bare e = absurd (h e)
        go (Lettered b) e = rw (by_shape (Lettered b) e, count_code) g
        go Plain e = rw (by_shape Plain e, count_code) g

pub ruleset word_laws = (word_bare, word_lettered, word_plain)

pub ruleset count_laws = (count_bare, count_other)

-- what follows a letter
pub ruleset long_laws = (lettered_long)
