-- The parts of the merger's number stay apart: its text is one that the reader accepts, and has no more edges than a sheet may have.
use Prim.Native.Nat.{ℕ, ◌^◌, ◌≤◌, ◌<◌}
use mathlib.Core.Path.{◌≡◌, refl}
use mathlib.Core.Bool.{Bool, true, false}
use mathlib.Core.List.{List}
use mathlib.Core.Option.{Option, none, some}
use native.Mathlib.Nat.{mod-eq_of_lt}
use native.Mathlib.Omega.{arith}
use borrow.Author.Tests.{ltb-false}
use lib.ListN.{length}
use Rattle.model.specs.Bounds.{max_bytes, max_edges}
use Rattle.model.specs.Lawful.{Lawful}
use Rattle.model.specs.Linear.{linear, merged_count, row31, row32, merge_fault}
use Rattle.model.specs.Model.{Model}
use Rattle.model.specs.Table.{unopened, opened}
use Rattle.model.proofs.LimitsLaws.{lawful_is}
use Rattle.model.proofs.LinearLimits.{linear_lawful}
use Rattle.model.proofs.TableLaws.{model_given}
use Rattle.format.specs.Bytes.{Bytes}
use Rattle.format.specs.Merger.{MergeAnswer, unmerged, merged, merge_model, merge_answer}
use Rattle.format.specs.Spelling.{text_of}
use Rattle.format.specs.Writer.{row35}
use Rattle.format.proofs.FitsLaws.{text_fits}
use Rattle.merger.specs.Answers.{merge_of}
use Rattle.answer_numbers.specs.Told.{merged_number}
use Rattle.model.proofs.Decode.{unbroken}
use Rattle.exports.specs.Numbers.{merge_number}
use Rattle.exports.proofs.OpenCases.{open_cases}

-- the number that the function gives is that of the answer
pub record Apart (a : MergeAnswer) : Type 0 where
  pub same : merged_number (merge_of a) ≡ merge_number a

refusal_apart : (row : ℕ) → Apart (unmerged row)
unfolding merged_number merge_of merge_number
refusal_apart row = record { same = refl }

parts_apart : (text : Bytes) (edges : ℕ) → length text ≤ max_bytes → edges ≤ max_edges → Apart (merged text edges)
unfolding merged_number merge_of merge_number
parts_apart text edges short few =
    let n : length text < 2 ^ 17 = omega (arith, short) in
    let e : edges < 2 ^ 15 = omega (arith, few) in
    record { same = rw (mod-eq_of_lt n, mod-eq_of_lt e) }

few_edges : (m : Model) → merge_fault m ≡ none → merged_count m ≤ max_edges
unfolding merge_fault row32
few_edges m h =
    let a = unbroken 31 (row31 m) _ h in
    let b = unbroken 32 (row32 m) _ a.1 in
    ltb-false max_edges (merged_count m) b.0

model_apart : (m : Model) (buffer : ℕ) → Lawful m → Apart (merge_model m buffer)
unfolding merge_model
model_apart m buffer lawful = go (merge_fault m) refl
  where
    written : merge_fault m ≡ none → (b : Bool) → Apart (elim b [ true ↦ unmerged 35 | false ↦ merged (text_of (linear m)) (merged_count m) ])
    written e true = refusal_apart 35
    written e false = parts_apart (text_of (linear m)) (merged_count m) (text_fits (linear m) (linear_lawful m lawful e)) (few_edges m e)

    go : (o : Option ℕ) → merge_fault m ≡ o → Apart (elim o [ some row ↦ unmerged row | none ↦ elim (row35 buffer (text_of (linear m))) [ true ↦ unmerged 35 | false ↦ merged (text_of (linear m)) (merged_count m) ] ])
    go (some row) e = refusal_apart row
    go none e = written e (row35 buffer (text_of (linear m)))

merge_apart : (t : List ℕ) (buffer : ℕ) → Apart (merge_answer t buffer)
unfolding merge_answer
merge_apart t buffer =
    open_cases t (λ o. Apart (elim o [ unopened row ↦ unmerged row | opened m ↦ merge_model m buffer ])) (refusal_apart 18) (refusal_apart 19)
    (λ m e. model_apart m buffer ((lawful_is m).0 (model_given t m e).0))

pub merge_fits : (t : List ℕ) (buffer : ℕ) → merged_number (merge_of (merge_answer t buffer)) ≡ merge_number (merge_answer t buffer)
merge_fits t buffer = (merge_apart t buffer).same
