-- Without its lists an accepted text of a format without owners is that of the same sheet in format 1.
use Prim.Native.Nat.{ℕ, ◌<◌}
use mathlib.Core.Path.{◌≡◌, sym, ap, ◌∙◌}
use mathlib.Core.Bool.{false}
use borrow.Author.Tests.{lt-leb}
use lib.Dec.{leb}
use native.Mathlib.Omega.{arith}
use Rattle.model.specs.Bounds.{table_words, owners_format}
use Rattle.model.specs.Model.{Model}
use Rattle.model.specs.Linear.{linear}
use Rattle.format.specs.Bytes.{Bytes}
use Rattle.format.specs.Spelling.{text_of}
use Rattle.format.specs.Reader.{accepted, read_answer}
use Rattle.format.proofs.Given.{reader_exact}
use Rattle.format.proofs.Inverse.{read_back}
use Rattle.theorem_lists.specs.Lists.{ListsDropped, in_format, without_lists}
use Rattle.theorem_lists.proofs.SameSheet.{limits_same, tables_judge}
use Rattle.theorem_lists.proofs.SameMerged.{linear_same, fault_same}
use Rattle.theorem_lists.proofs.Without.{lists_away}

-- the merged sheet has the sheet's format
merged_unowned : (m : Model) → leb owners_format m.format ≡ false → leb owners_format (linear m).format ≡ false
unfolding linear
merged_unowned m h = h

pub lists_dropped : (text : Bytes) (table : ℕ) (m : Model) → read_answer text table ≡ accepted m → m.format < owners_format → ListsDropped text m
lists_dropped text table m reads early =
    let r = (reader_exact text table m).0 reads in
    let unowned : leb owners_format m.format ≡ false = lt-leb owners_format m.format early in
    let limited = limits_same 1 (omega arith) (omega arith) m early r.1 in
    let same = linear_same 1 m (omega arith) early in
    record {
      reads = ap (λ (t : Bytes). read_answer t table_words) (ap without_lists r.2 ∙ lists_away m unowned) ∙ read_back (in_format 1 m) table_words limited (omega arith);
      judged = tables_judge 1 (omega arith) (omega arith) m early r.1;
      rows = fault_same 1 m;
      merged = same;
      merged_text = ap text_of same ∙ sym (lists_away (linear m) (merged_unowned m unowned));
    }
