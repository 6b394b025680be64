-- What it means that a function reads the lines of a table exactly.
use Rattle.std.specs.Prelude.{Option, ℕ, ◌+◌, ◌*◌, ◌≤◌, ◌≡◌, length, take, drop}
use Rattle.std.proofs.Math.Option.{none}
use mathlib.Core.List.{List, ◌++◌, flat_map, Memᴰ}
use Rattle.model.specs.Predicate.{Range}
use Rattle.model.specs.Lines.{Key as LineKey, Entry, key_of, variable_lines, Reading}
use Rattle.model.specs.Limits.{variable_count, fault_of}
use Rattle.model.specs.Lawful.{LawfulRange}
use Rattle.model.specs.Table.{line_words}
use Rattle.line_order.specs.declared.Key.{Key}
use Rattle.line_order.specs.declared.Counts.{Counts}
use Rattle.line_order.specs.Due.{code_of, number_of}
use Rattle.line_order.specs.Counts.{nodes_of, Counted}
use Rattle.table_line.specs.declared.Line.{Line}
use Rattle.table_line.specs.Line.{a_line}

-- The variables read so far have lawful ranges, and an owner or none each, and stand in the table from word 3 on, so
-- that they can be read there again.
pub record Declared (t : List ℕ) (r : Reading) : Type 0 where
  pub lawful : (x : Range) → Memᴰ x r.model.variables → LawfulRange x
  pub owners_are : length r.model.owners ≡ length r.model.variables
  pub words : take (3 * variable_count r) (drop 3 t) ≡
      flat_map line_words (variable_lines r.model.variables r.model.owners)

-- The words of t from `at` up to `next` are those of a line with the key k, which has this number and so many nodes and
-- breaks no row.
pub record LineAt (t : List ℕ) (r : Reading) (k : LineKey) (at number nodes next : ℕ) : Type 0 where
  pub entry : Entry
  pub keyed : key_of entry ≡ k
  pub numbered : number_of entry ≡ number
  pub counted : nodes_of entry ≡ nodes
  pub unbroken : fault_of r entry ≡ none
  pub words : drop at t ≡ line_words entry ++ drop next t
  pub ends : next ≡ at + length (line_words entry)

-- `line` finds sound exactly the lines that stand in the table t
pub record LineExact (t : List ℕ) (line : ℕ → Key → Counts → Option Line) : Type 0 where
  pub sound : (r : Reading) (c : Counts) (at : ℕ) (k : LineKey) (number nodes next : ℕ) → Counted r c → Declared t r
      → at ≤ length t
      → line at (code_of k) c ≡ a_line number nodes next → LineAt t r k at number nodes next
  pub complete : (r : Reading) (c : Counts) (e : Entry) (at : ℕ) (rest : List ℕ) → Counted r c → Declared t r
      → fault_of r e ≡ none
      → drop at t ≡ line_words e ++ rest
      → line at (code_of (key_of e)) c ≡ a_line (number_of e) (nodes_of e) (at + length (line_words e))
