-- `table_line::composition::starts` meets its contract: from each turn on, the definition goes on to the same line.
use mathlib.Core.Path.{◌≡◌}
use Prim.Native.Nat.{◌-◌, ◌≤◌}
use Rattle.table_line.specs.Line.{starts_from}
use Rattle.table_line.proofs.composition.starts.Given as goal

abbrev pub invariant-loop : goal.invariant-loop
invariant-loop l = (l.total ≤ 4096) × (starts_from l.t l.counts (l.count - l.counter) l.next l.total ≡ starts_from l.t l.counts l.count l.at 0)
