-- `merge_output::refusal` meets its contract: there is room for each of its parts.
use mathlib.Core.Path.{refl}
use borrow.Author.Rules.{rules}
use Rattle.merge_output.proofs.OutputLaws.{refusal_is, line_fits, comma_fits, row_fits, key_fits}
use Rattle.merge_output.proofs.refusal.Goals as goal

pub returns-in_err-a : goal.returns-in_err-a
returns-in_err-a c = key_fits c.args.r.row.0 c.args.r.line c.args.out.now c.requires (search rules) _ _ c.in_err-a.ensures

pub returns-in_err-b : goal.returns-in_err-b
returns-in_err-b c =
    row_fits c.args.r.row.0 c.args.r.line c.args.out.now c.requires (search rules) _ _ c.in_ok-a.ensures _ _ c.in_err-b.ensures

pub returns-in_err-c : goal.returns-in_err-c
returns-in_err-c c =
    comma_fits c.args.r.row.0 c.args.r.line c.args.out.now c.requires (search rules) _ _ c.in_ok-a.ensures _ _ c.in_ok-b.ensures _ _ c.in_err-c.ensures

pub returns-in_err-d : goal.returns-in_err-d
returns-in_err-d c =
    line_fits c.args.r.row.0 c.args.r.line c.args.out.now c.requires (search rules) _ _ c.in_ok-a.ensures _ _ c.in_ok-b.ensures _ _ c.in_ok-c.ensures _ refl _ _ c.in_err-d.ensures

pub returns : goal.returns
returns c =
    refusal_is c.args.r.row.0 c.args.r.line c.args.out.now c.requires (search rules) _ _ c.in_ok-a.ensures _ _ c.in_ok-b.ensures _ _ c.in_ok-c.ensures _ refl _ _ c.in_ok-d.ensures _ _ c.copy-3.ensures
