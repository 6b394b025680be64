use Rattle.judge_cover.proofs.CodeLaws.{names_here}
use borrow.Author.Rules.{rules}
use Rattle.judge_cover.proofs.edges.names.Goals as goal

pub returns-then-not-in_word : goal.returns-then-not-in_word
returns-then-not-in_word c = search (rules, names_here)
