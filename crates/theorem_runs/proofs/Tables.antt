-- The two tables: the one is the text's model's, the other the merged model's.
use Prim.Native.Nat.{ℕ, ◌≤◌}
use mathlib.Core.Path.{◌≡◌, refl, sym, ap, ◌∙◌}
use mathlib.Core.List.{List}
use mathlib.Core.Option.{none}
use native.Mathlib.Omega.{arith}
use lib.ListN.{length, drop}
use Rattle.model.specs.Bounds.{table_words}
use Rattle.model.specs.Model.{Model}
use Rattle.model.specs.Table.{opened, open_table}
use Rattle.model.specs.Linear.{linear, merge_fault}
use Rattle.model.proofs.LinearLimits.{linear_limited}
use Rattle.model.proofs.TableJudge.{table_opens}
use Rattle.format.specs.Bytes.{Bytes}
use Rattle.format.specs.Spelling.{text_of}
use Rattle.format.specs.Reader.{accepted, read_answer, table_after}
use Rattle.format.specs.Merger.{merged, merge_model, merge_answer}
use Rattle.format.specs.Program.{program_output}
use Rattle.format.proofs.Exact.{accepted_then}
use Rattle.format.proofs.Given.{reader_exact}
use Rattle.format.proofs.TextRuns.{program_prints, table_read, merged_then}

-- the table that the reader gives opens as the model
pub text_opens : (text : Bytes) (m : Model) (lent : List ℕ) → read_answer text (length lent) ≡ accepted m → open_table (table_after text lent) ≡ opened m
text_opens text m lent reads = ap open_table (table_read text lent m reads) ∙ table_opens m (accepted_then text (length lent) m reads).limited (drop table_words lent)

module _ (text : Bytes) (m : Model) (lent : List ℕ) (reads : read_answer text (length lent) ≡ accepted m) (lent' : List ℕ) (room : table_words ≤ length lent') where
  spelling_opens : merge_fault m ≡ none → open_table (table_after (text_of (linear m)) lent') ≡ opened (linear m)
  spelling_opens u =
      let limited = linear_limited m (accepted_then text (length lent) m reads).limited u in
      text_opens (text_of (linear m)) (linear m) lent' ((reader_exact (text_of (linear m)) (length lent') (linear m)).1 (room, limited, refl))

  -- the merged text as the merger gives it, for the first table
  pub merged_opens : (buffer : ℕ) (text' : Bytes) (edges : ℕ) → merge_answer (table_after text lent) buffer ≡ merged text' edges → open_table (table_after text' lent') ≡ opened (linear m)
  unfolding merge_answer
  merged_opens buffer text' edges h =
      let answer : merge_answer (table_after text lent) buffer ≡ merge_model m buffer = rw (text_opens text m lent reads, merge_answer) in
      let e = merged_then m buffer text' edges (sym answer ∙ h) in
      rw e.1 (spelling_opens e.0)

  -- and as the program prints it
  pub program_opens : merge_fault m ≡ none → open_table (table_after (program_output text) lent') ≡ opened (linear m)
  program_opens u =
      let x = accepted_then text (length lent) m reads in
      rw (program_prints text m ((reader_exact text table_words m).1 (omega arith, x.limited, x.spelled)) u) (spelling_opens u)
