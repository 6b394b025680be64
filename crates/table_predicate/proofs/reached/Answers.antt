-- `table_predicate::reached` meets its contract: an i64 needs no cut.
use mir.Syntax.{w64}
use mir.ValLaws.{to_z-of_z}
use Rattle.model.specs.Predicate.{range}
use Rattle.arithmetic.proofs.CutLaws.{cut_fits}
use Rattle.table_predicate.specs.Walk.{reached, in_span}
use Rattle.table_predicate.proofs.reached.Goals as goal

pub returns : goal.returns
unfolding reached range in_span
returns c = let low = c.ranges.low in
    let high = c.ranges.high in
    rw (cut_fits c.args.low low, cut_fits c.args.high high, c.in_span.ensures, to_z-of_z w64 c.args.low low, to_z-of_z w64 c.args.high high, in_span)
