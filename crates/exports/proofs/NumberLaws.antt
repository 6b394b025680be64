-- The numbers of answers: one law for each exported function.
use Prim.Native.Nat.{ℕ, ◌%◌, ◌^◌}
use mathlib.Core.Path.{◌≡◌, refl, ap, ◌∙◌}
use mathlib.Core.List.{List}
use lib.IntN.{ℤ}
use Rattle.model.specs.Table.{open_table}
use Rattle.model.specs.Judge as J
use Rattle.judge_call.specs.Answers.{answer_number}
use Rattle.std.specs.Prelude.{Result, ⊤}
use Rattle.model.specs.declared.Row.{Row}
use Rattle.judge_rows.specs.declared.Phase.{Phase}
use Rattle.judge_runs.specs.declared.RunError.{RunError}
use Rattle.judge.specs.declared.TableSize.{TableSize}
use Rattle.judge.specs.RunAnswer.{run_answer, ran_of}
use Rattle.judge.specs.TableSize.{size_of}
use Rattle.judge_call.proofs.NumberLaws.{step_fits, environment_fits, unwrapped}
use Rattle.format.specs.Bytes.{Bytes}
use Rattle.format.specs.Merger.{merge_answer}
use Rattle.format.specs.Reader.{read_answer}
use Rattle.format.specs.Writer.{WriteAnswer, unwritten, written, buffer_after}
use Rattle.merger.specs.Answers.{merge_of}
use Rattle.merger.specs.declared.Merged.{Merged}
use Rattle.reader.specs.Read.{read_of}
use Rattle.reader.specs.declared.Refusal.{Refusal}
use Rattle.write_words.specs.Answer.{given, Answered}
use Rattle.answer_numbers.specs.Told.{told_number, written_number, merged_number, ran_number, counted_number}
use Rattle.exports.specs.Numbers.{read_number, write_number, merge_number, run_number, size_number}
use Rattle.exports.proofs.LineBound.{line_fits}
use Rattle.exports.proofs.MergeBound.{merge_fits}
use Rattle.exports.proofs.RunBound.{run_rowed}
use Rattle.exports.proofs.SizeBound.{size_few}

module _ (t : List ℕ) (phase : ℕ) (l : List ℕ) (v : List ℤ) (x : J.Answer) (r : ℕ) (h : r ≡ answer_number x % 2 ^ 32) where
  -- `sheet_step`
  pub step_law : (a : ℕ) (l' : List ℕ) (v' : List ℤ) → x ≡ J.step_answer t phase l v a l' v' → r ≡ answer_number (J.step_answer t phase l v a l' v')
  step_law a l' v' e = unwrapped (step_fits t phase l v a l' v') e h

  -- `sheet_environment`
  pub environment_law : (v' : List ℤ) → x ≡ J.environment_answer t phase l v v' → r ≡ answer_number (J.environment_answer t phase l v v')
  environment_law v' e = unwrapped (environment_fits t phase l v v') e h

-- `sheet_read`
pub read_number_lem : (text : Bytes) (table : ℕ) (x : Result ⊤ Refusal) (r : ℕ) → x ≡ read_of (read_answer text table) → r ≡ told_number x
    → r ≡ read_number (read_answer text table)
read_number_lem text table x r h e = e ∙ ap told_number h ∙ line_fits text table

-- `sheet_write`
given_number : (a : WriteAnswer) → written_number (given a) ≡ write_number a
unfolding written_number write_number given
given_number (unwritten row) = refl
given_number (written text) = refl

module _ (a : WriteAnswer) (old new : Bytes) (x : Result ℕ Row) (h : Answered a old new x) where
  pub write_length : (r : ℕ) → r ≡ written_number x → r ≡ write_number a
  write_length r e = e ∙ ap written_number h.answer ∙ given_number a

  pub write_memory : new ≡ buffer_after a old
  write_memory = h.memory

pub ruleset write_laws = (write_length, write_memory)

-- `sheet_merge`
pub merge_number_lem : (t : List ℕ) (buffer : ℕ) (x : Result Merged Row) (r : ℕ) → x ≡ merge_of (merge_answer t buffer) → r ≡ merged_number x
    → r ≡ merge_number (merge_answer t buffer)
merge_number_lem t buffer x r h e = e ∙ ap merged_number h ∙ merge_fits t buffer

-- `sheet_run`
pub run_number_lem : (t : List ℕ) (phase : ℕ) (l : List ℕ) (v : List ℤ) (actions ls : List ℕ) (vs : List ℤ) (answers ends endv : ℕ) (x : Result Phase RunError) (r : ℕ)
    → x ≡ ran_of (run_answer t phase l v actions ls vs answers ends endv) → r ≡ ran_number x
    → r ≡ run_number (run_answer t phase l v actions ls vs answers ends endv)
run_number_lem t phase l v actions ls vs answers ends endv x r h e =
    e ∙ ap ran_number h ∙ (run_rowed t phase l v actions ls vs answers ends endv).same

-- `sheet_size`
pub size_number_lem : (t : List ℕ) (x : Result TableSize Row) (r : ℕ) → x ≡ size_of (open_table t) → r ≡ counted_number x → r ≡ size_number (open_table t)
size_number_lem t x r h e = e ∙ ap counted_number h ∙ size_few t
