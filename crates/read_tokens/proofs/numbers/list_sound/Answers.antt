use Rattle.std.proofs.Common.{rules, tests, ◌∙◌, pos}
use Rattle.std.proofs.lemmas.Iterator.Search.{all_from_yields_List}
use Rattle.std.proofs.lemmas.Iterator.Splits.{YieldsList-from_slice_split}
use Rattle.model.specs.Bounds.{max_actions}
use Rattle.format.specs.Number.{within}
use Rattle.format.specs.Bytes.{comma}
use Rattle.read_tokens.proofs.NumbersLaws.{every_part}
use Rattle.read_tokens.proofs.numbers.list_sound.Goals as goal

pub returns : goal.returns
returns c =
    all_from_yields_List (within (pos 0) (pos max_actions)) _ _ _ c.all.ensures.ran
    (YieldsList-from_slice_split _ _ c.args.part.now c.split.ensures.rest c.split.ensures.done c.split.ensures.closure (λ x r q k. search (rules, tests)))
    (λ x b q k. search (rules, tests))
    ∙ every_part (within (pos 0) (pos max_actions)) comma c.args.part.now
