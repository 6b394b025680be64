use Rattle.std.proofs.Common.{arith}
use Rattle.std.proofs.lemmas.Grind.{common_steps}
use Rattle.read_starts.proofs.WordsLaws.{place_by}
use Rattle.read_starts.proofs.words.place.Goals as goal

pub returns : goal.returns
returns c = place_by c.args.at c.min.result (λ h. grind (arith, common_steps)) (λ h. grind (arith, common_steps))
