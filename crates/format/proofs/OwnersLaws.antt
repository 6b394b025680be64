-- The line `owner=` breaks no row exactly if it is the one spelling of an owner that an automaton can be.
use Prim.Native.Nat.{ℕ}
use mathlib.Core.Path.{◌≡◌, refl, ◌∙◌, ap}
use mathlib.Core.Bool.{Bool, true, false, not, ◌||◌}
use mathlib.Core.List.{[], ◌∷◌, ◌++◌}
use mathlib.Core.Option.{Option, none, some}
use native.Mathlib.Omega.{arith}
use borrow.Author.Tests.{eqb-true, not-false}
use lib.Dec.{eqb}
use lib.IntN.{pos}
use lib.ListN.{length}
use Rattle.model.specs.Basic.{every, same}
use Rattle.model.specs.Bounds.{last_automaton}
use Rattle.model.specs.Limits.{broken, owner_in_range}
use Rattle.model.proofs.Decode.{unbroken}
use Rattle.model.proofs.Lists.{same_of, same_self}
use Rattle.format.specs.Bytes.{Bytes, begins, comma, parts}
use Rattle.format.specs.Number.{decimal, natural_of, within}
use Rattle.format.specs.Owners.{is_none, owner_fault, owner_row2, owner_row3, owner_value, the_owner}
use Rattle.format.specs.Rows.{Line, printable}
use Rattle.format.specs.Spelling.{none_word, owner_key, text_of_owner}
use Rattle.format.proofs.BytesLaws.{differ_first, parts_free}
use Rattle.format.proofs.EntryLines.{dropped}
use Rattle.format.proofs.FaultLaws.{begins_self, print_every, within_zero}
use Rattle.format.proofs.LineLaws.{begins_inv, neither, owner_line}
use Rattle.format.proofs.NumberLaws.{leading}
use Rattle.format.proofs.ReadLaws.{number_of_lem}
use Rattle.format.proofs.Spans.{owner_free, owner_span}
use Rattle.format.proofs.TokenLaws.{count_decimal}

-- what row 2 asks
pub owner_formed : (l : Line) → owner_row2 l ≡ false → (begins owner_key l.bytes ≡ true) × (length (parts comma (owner_value l)) ≡ 1) × (l.ended ≡ true)
unfolding owner_row2
owner_formed l h =
    let a = neither (not (begins owner_key l.bytes)) _ h in
    let b = neither (not (eqb (length (parts comma (owner_value l))) 1)) _ a.1 in
    let c = neither (not (every printable l.bytes)) _ b.1 in
    (not-false _ a.0, eqb-true _ _ (not-false _ b.0), not-false _ c.1)

-- what row 3 asks: the value is the text of the owner that it says, which is `none` or one that an automaton can be
pub owner_sound : (l : Line) → owner_row3 l ≡ false → (owner_value l ≡ text_of_owner (the_owner l)) × (owner_in_range (the_owner l) ≡ true)
unfolding owner_row3 the_owner is_none text_of_owner owner_in_range
owner_sound l h = go (is_none l) refl (not-false _ h)
  where
    go : (b : Bool) → is_none l ≡ b → (b || within (pos 0) (pos last_automaton) (owner_value l)) ≡ true
        → (owner_value l ≡ text_of_owner (elim b [ true ↦ none | false ↦ some (natural_of (owner_value l)) ])) × (owner_in_range (elim b [ true ↦ none | false ↦ some (natural_of (owner_value l)) ]) ≡ true)
    go true e k = (same_of _ none_word e, refl)
    go false e k = number_of_lem last_automaton (owner_value l) k

-- a line that breaks no row is the line of the owner that it says
module _ (l : Line) (h : owner_fault l ≡ none) where
  clear : (owner_row2 l ≡ false) × (owner_row3 l ≡ false)
  unfolding owner_fault
  clear = let b = unbroken 2 (owner_row2 l) _ h in (b.0, (unbroken 3 (owner_row3 l) none b.1).0)

  pub owner_written : l ≡ owner_line (the_owner l)
  unfolding owner_value
  owner_written =
      let f = owner_formed l clear.0 in
      let w = begins_inv owner_key l.bytes f.0 ∙ ap (λ v. owner_key ++ v) (owner_sound l clear.1).0 in
      ap (λ (b : Bool). record { bytes = l.bytes; ended = b }) f.2 ∙ ap (λ (s : Bytes). record { bytes = s; ended = true }) w

  pub owner_ranged : owner_in_range (the_owner l) ≡ true
  owner_ranged = (owner_sound l clear.1).1

-- and the line of an owner says that owner, and breaks no row if an automaton can be it
value_is : (o : Option ℕ) → owner_value (owner_line o) ≡ text_of_owner o
unfolding owner_value
value_is o = dropped owner_key (text_of_owner o)

-- no number is spelled `none`
number_word : (k : ℕ) → same (decimal k) none_word ≡ false
unfolding none_word
number_word k =
    let d = leading k in
    ap (λ s. same s none_word) d.whole ∙ differ_first d.first 110 d.rest (111 ∷ 110 ∷ 101 ∷ []) (λ e. omega (arith, d.high))

none_is : is_none (owner_line none) ≡ true
unfolding is_none text_of_owner
none_is = ap (λ s. same s none_word) (value_is none) ∙ same_self none_word

some_is : (k : ℕ) → is_none (owner_line (some k)) ≡ false
unfolding is_none text_of_owner
some_is k = ap (λ s. same s none_word) (value_is (some k)) ∙ number_word k

pub owner_read : (o : Option ℕ) → the_owner (owner_line o) ≡ o
unfolding the_owner text_of_owner
owner_read none = rw (none_is, the_owner)
owner_read (some k) = rw (some_is k, the_owner) (ap some (ap natural_of (value_is (some k)) ∙ count_decimal k))

formed : (o : Option ℕ) → owner_row2 (owner_line o) ≡ false
unfolding owner_row2
formed o = rw (begins_self owner_key (text_of_owner o), value_is o, parts_free comma (text_of_owner o) (owner_free o), print_every (owner_key ++ text_of_owner o) (owner_span o))

sound : (o : Option ℕ) → owner_row3 (owner_line o) ≡ not (owner_in_range o)
unfolding owner_row3 owner_in_range text_of_owner
sound none = rw none_is
sound (some k) = rw (some_is k, value_is (some k), within_zero last_automaton k)

pub owner_fault_lem : (o : Option ℕ) → owner_in_range o ≡ true → owner_fault (owner_line o) ≡ none
unfolding owner_fault broken
owner_fault_lem o h = rw (formed o, sound o, h)
