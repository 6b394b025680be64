-- `reader::sheet::sheet` meets its contract: from each round on, the rounds that are left come to the same outcome.
use Prim.Native.Nat.{◌-◌, ◌≤◌}
use mathlib.Core.Path.{◌≡◌}
use lib.ListN.{length}
use Rattle.model.specs.Bounds.{max_bytes}
use Rattle.reader.specs.Read.{read_from, sheet_read}
use Rattle.reader.proofs.sheet.sheet.Given as goal

abbrev pub invariant-loop-number : goal.invariant-loop-number
invariant-loop-number l = (read_from l.text (65538 - l.number) l.number l.place l.words ≡ sheet_read l.text l.initial.words) × (length l.text ≤ max_bytes)
