-- An interval whose ends were cut says of row 10 what the whole interval says.
use mathlib.Core.Path.{◌≡◌}
use lib.IntN.{ℤ, ◌*ℤ◌}
use Rattle.model.specs.Predicate.{range, Range, least, greatest, hull, times}
use Rattle.arithmetic.specs.Cut.{cut}
use Rattle.arithmetic.proofs.CutLaws.{cut_again, cut_least, cut_greatest, least_cut, greatest_cut}
use Rattle.table_predicate.specs.declared.Walked.{Walked}
use Rattle.table_predicate.specs.Walk.{in_span, reached}

pub reached_cut : (w : Walked) (low high : ℤ) → reached w (range (cut low) (cut high)) ≡ reached w (range low high)
unfolding reached range in_span
reached_cut w low high = rw (least_cut low, greatest_cut high, cut_again low, cut_again high)

-- the four corners, each cut
pub reached_times : (w : Walked) (r s : Range)
    → reached w (range (least (least (cut (r.low *ℤ s.low)) (cut (r.low *ℤ s.high))) (least (cut (r.high *ℤ s.low)) (cut (r.high *ℤ s.high))))
    (greatest (greatest (cut (r.low *ℤ s.low)) (cut (r.low *ℤ s.high))) (greatest (cut (r.high *ℤ s.low)) (cut (r.high *ℤ s.high))))) ≡ reached w (times r s)
unfolding times hull range
reached_times w r s =
    let a = r.low *ℤ s.low in
    let b = r.low *ℤ s.high in
    let c = r.high *ℤ s.low in
    let d = r.high *ℤ s.high in
    rw (← cut_least a b, ← cut_least c d, ← cut_least (least a b) (least c d), ← cut_greatest a b, ← cut_greatest c d, ← cut_greatest (greatest a b) (greatest c d))
    (reached_cut w (least (least a b) (least c d)) (greatest (greatest a b) (greatest c d)))
