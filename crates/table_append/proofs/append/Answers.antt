-- `table_append::append` meets its contract: what is left goes on from the place that was reached.
use mathlib.Core.Path.{◌≡◌, ap, ◌∙◌}
use mathlib.Core.List.{List}
use Prim.Native.Nat.{ℕ}
use native.Mathlib.Omega.{arith}
use lib.ListN.{length, take}
use Rattle.std.proofs.lemmas.List.{take_min}
use Rattle.table_append.specs.Append.{next_place, put}
use Rattle.table_append.proofs.AppendLaws.{put_past, next_past}
use Rattle.table_append.proofs.Joined.{onward_first, onward_turn, onward_end}
use Rattle.table_append.proofs.append.Goals as goal

pub returns-then-at-ge-WORDS : goal.returns-then-at-ge-WORDS
returns-then-at-ge-WORDS c =
    (next_past c.args.at _ c.if-at-ge-WORDS.true, put_past _ c.args.at c.args.words.now c.if-at-ge-WORDS.true)

pub loop-word-init : goal.loop-word-init
loop-word-init c = onward_first (take c.min.result c.args.from.now) c.args.at c.args.words.now (omega (arith, c.if-at-ge-WORDS.false))

pub loop-word-preserved : goal.loop-word-preserved
loop-word-preserved c =
    onward_turn _ _ _ _ _ _ c.loop-word.invariant c.loop-word-test.true _ _ c.append_one-next.ensures.0 c.append_one-next.ensures.1

pub returns : goal.returns
returns c =
    let done = onward_end _ _ _ _ _ _ c.loop-word.invariant c.loop-word-test.false in
    let all : take c.min.result c.args.from.now ≡ take c.args.n c.args.from.now =
    ap (λ (k : ℕ). take k c.args.from.now) c.min.ensures ∙ take_min c.args.n c.args.from.now in (
      done.0 ∙ ap (λ (l : List ℕ). next_place c.args.at (length l)) all,
      done.1 ∙ ap (λ (l : List ℕ). put c.args.at l c.args.words.now) all,
    )
