-- The parts of a table's size stay apart: a sheet has no more actions, variables and automata than it may have.
use Prim.Native.Nat.{ℕ, ◌^◌, ◌<◌}
use mathlib.Core.Path.{◌≡◌, refl}
use mathlib.Core.List.{List}
use lib.ListN.{length}
use native.Mathlib.Nat.{mod-eq_of_lt}
use native.Mathlib.Omega.{arith}
use Rattle.model.proofs.LimitsLaws.{lawful_is}
use Rattle.model.proofs.TableLaws.{model_given}
use Rattle.model.specs.Table.{open_table}
use Rattle.judge.specs.TableSize.{size_of}
use Rattle.answer_numbers.specs.Told.{counted_number}
use Rattle.exports.specs.Numbers.{size_number}
use Rattle.exports.proofs.OpenCases.{open_cases}

pub size_few : (t : List ℕ) → counted_number (size_of (open_table t)) ≡ size_number (open_table t)
unfolding counted_number size_of size_number
size_few t =
    open_cases t (λ o. counted_number (size_of o) ≡ size_number o) refl refl
    (λ m e.
    let lawful = (lawful_is m).0 (model_given t m e).0 in
    let a : m.actions < 2 ^ 16 = omega (arith, lawful.few_actions) in
    let v : length m.variables < 2 ^ 8 = omega (arith, lawful.few_variables) in
    let n : length m.automata < 2 ^ 8 = omega (arith, lawful.few_automata) in
    rw (mod-eq_of_lt a, mod-eq_of_lt v, mod-eq_of_lt n))
