-- Each way out of the code of src/lib.rt.
use Prim.Native.Nat.{ℕ, ◌+◌, ◌≤◌}
use mathlib.Core.Path.{◌≡◌, refl, sym, ◌∙◌}
use mathlib.Core.Bool.{Bool, true, false}
use mathlib.Core.Option.{Option, none, some}
use native.Mathlib.Omega.{arith}
use native.Mathlib.Numerals.{add-one}
use borrow.Author.Tests.{leb-true}
use mir.Syntax.{w32}
use mir.Val.{Fits}
use lib.Dec.{leb}
use Rattle.model.specs.Basic.{same}
use Rattle.model.specs.Bounds.{last_automaton}
use Rattle.format.specs.Bytes.{Bytes}
use Rattle.format.specs.Number.{natural}
use Rattle.std.specs.Prelude as P
use Rattle.std.specs.Prelude.{Some, None, Result, Ok, Err}
use Rattle.model.specs.declared.Row.{Row}
use Rattle.model.specs.Row.{row}
use Rattle.text_numbers.specs.Number.{natural_in, up_to}
use Rattle.text_numbers.proofs.NumberLaws.{natural_in_lem, natural_said, natural_denied}
use Rattle.read_form.specs.Form.{value_after, misformed}
use Rattle.read_owner_line.specs.Owner.{owner_name, nobody, owner_in, owner_read}

-- a number that was read is in its range
up_to_lem : (high n : ℕ) (o : Option ℕ) → up_to high o ≡ Some n → n ≤ high
unfolding up_to
up_to_lem high n none e = absurd (let q : ◌≡◌ {A = ℕ} 0 1 = cc in omega arith)
up_to_lem high n (some m) e = go (leb m high) refl e
  where
    go : (b : Bool) → leb m high ≡ b → elim b as (λ x. P.Option ℕ) [ true ↦ Some m | false ↦ None ] ≡ Some n → n ≤ high
    go true k f = let l = leb-true m high k in let same : m ≡ n = cc in omega arith
    go false k f = absurd (let q : ◌≡◌ {A = ℕ} 0 1 = cc in omega arith)

-- `owner`
module _ (v : Bytes) (b : Bool) (hb : b ≡ same v nobody) where
  pub owner_none : b ≡ true → Ok 0 ≡ owner_in v
  unfolding owner_in
  owner_none h = rw (sym hb ∙ h, owner_in)

  module _ (k : b ≡ false) (m : P.Option ℕ) (hm : m ≡ natural_in v last_automaton) where
    pub owner_number : (n : ℕ) → m ≡ Some n → Ok (n + 1) ≡ owner_in v
    unfolding owner_in
    owner_number n e =
        let said = natural_said v last_automaton n (sym hm ∙ e) in
        rw (sym hb ∙ k, said.0, said.1, add-one n, owner_in)

    pub owner_out : m ≡ None → Err (row 3) ≡ owner_in v
    unfolding owner_in
    owner_out e = rw (sym hb ∙ k, natural_denied v last_automaton (sym hm ∙ e), owner_in)

-- the word fits 32 bits
pub word_fits : (v : Bytes) (m : P.Option ℕ) (n : ℕ) → m ≡ natural_in v last_automaton → m ≡ Some n → Fits w32 (n + 1)
word_fits v m n hm e =
    let l = up_to_lem last_automaton n (natural v) (sym (natural_in_lem v last_automaton) ∙ sym hm ∙ e) in
    record { fits = omega arith }

pub ruleset owner_laws = (owner_none, owner_number, owner_out, word_fits)

-- `read`
module _ (s : Bytes) (ended : Bool) (b : Bool) (hb : b ≡ misformed owner_name 1 s ended) where
  pub read_misformed : b ≡ true → Err (row 2) ≡ owner_read s ended
  unfolding owner_read
  read_misformed h = rw (sym hb ∙ h, owner_read)

  pub read_owner : b ≡ false → (v : Bytes) → v ≡ value_after owner_name s → (r : Result ℕ Row) → r ≡ owner_in v → r ≡ owner_read s ended
  unfolding owner_read
  read_owner h v hv r hr = hr ∙ rw (sym hb ∙ h, hv, owner_read)

pub ruleset read_laws = (read_misformed, read_owner)
