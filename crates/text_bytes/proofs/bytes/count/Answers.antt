use mathlib.Core.Path.{◌≡◌, ◌∙◌}
use native.Mathlib.Omega.{arith}
use borrow.Author.Rules.{rules}
use lib.Dec.{eqb}
use Rattle.std.proofs.iter.runs.Made.{chains}
use Rattle.std.specs.List.{count_by}
use Rattle.std.proofs.lemmas.List.Sums.{count_by-le-length}
use Rattle.text_bytes.proofs.FindLaws.{count_is}
use Rattle.text_bytes.proofs.bytes.count.Goals as goal

pub returns : goal.returns
returns c = let e : c.count.result ≡ count_by (λ b. eqb b c.args.byte) c.args.s.now = search (rules, chains) in
    (e ∙ count_is _ _, omega (arith, count_by-le-length (λ b. eqb b c.args.byte) c.args.s.now))
