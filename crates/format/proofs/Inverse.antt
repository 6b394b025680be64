-- Reader and writer are inverse: an accepted text is written back from its table, and the text of a good table gives that table again.
use Prim.Native.Nat.{ℕ, ◌≤◌}
use mathlib.Core.Path.{◌≡◌, refl, sym, ap}
use mathlib.Core.Bool.{true}
use mathlib.Core.List.{List, ◌++◌}
use native.Mathlib.Omega.{arith}
use borrow.Author.Tests.{le-ltb}
use lib.ListN.{length}
use Rattle.model.specs.Bounds.{table_words}
use Rattle.model.specs.Model.{Model}
use Rattle.model.specs.Limits.{limits}
use Rattle.model.specs.Table.{table_of}
use Rattle.model.proofs.LimitsLaws.{lawful_is}
use Rattle.model.proofs.TableJudge.{table_opens}
use Rattle.format.specs.Bytes.{Bytes}
use Rattle.format.specs.Spelling.{text_of}
use Rattle.format.specs.Reader.{accepted, read_answer}
use Rattle.format.specs.Writer.{written, write_answer, row35}
use Rattle.format.proofs.Exact.{accepted_then, then_accepted}
use Rattle.format.proofs.FitsLaws.{text_fits}

-- what was read is written back, whatever follows the table
pub written_back : (text : Bytes) (n : ℕ) (m : Model) (rest : List ℕ) (buffer : ℕ) → read_answer text n ≡ accepted m → length text ≤ buffer → write_answer (table_of m ++ rest) buffer ≡ written text
unfolding write_answer row35
written_back text n m rest buffer a h =
    let x = accepted_then text n m a in
    let room : length (text_of m) ≤ buffer = omega (arith, h, ap (length {A = ℕ}) x.spelled) in
    rw (table_opens m x.limited rest, le-ltb buffer (length (text_of m)) room, write_answer) (ap written (sym x.spelled))

-- what is written from the table of a model within the limits is read back as that model
pub read_back : (m : Model) (n : ℕ) → limits m ≡ true → table_words ≤ n → read_answer (text_of m) n ≡ accepted m
read_back m n h l = then_accepted (text_of m) n m (record { room = l; short = text_fits m ((lawful_is m).0 h); limited = h; spelled = refl })
