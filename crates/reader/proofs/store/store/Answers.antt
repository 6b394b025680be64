-- `store` meets its contract: each way out is a law of StoreLaws.
use Rattle.reader.proofs.StoreLaws.{store_short, store_all}
use Rattle.reader.proofs.store.store.Goals as goal

pub returns-then-table-words : goal.returns-then-table-words
returns-then-table-words c = store_short _ _ c.if-table-words.true

pub returns : goal.returns
returns c = store_all _ _ c.if-table-words.false _ c.copy_from_slice.ensures.after
