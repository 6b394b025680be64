-- `table_tree::members::member_at` calls itself, and meets its contract: each way out is a law of MemberLaws. The measure is
-- the nodes left.
use Rattle.table_tree.proofs.MemberLaws.{member_at_laws, member_left}
use borrow.Author.Rules.{rules}
use Rattle.table_tree.proofs.members.+member_at.Goals as goal

pub returns-then-left-eq0 : goal.returns-then-left-eq0
returns-then-left-eq0 t c = search (rules, member_at_laws)

pub member_at-d-requires : goal.member_at-d-requires
member_at-d-requires t c = let l = member_left _ _ _ _ _ _ c.member_at-c.ensures in
    search rules

pub returns-in-Par : goal.returns-in-Par
returns-in-Par t c = search (rules, member_at_laws)

pub returns-in-Syn : goal.returns-in-Syn
returns-in-Syn t c = search (rules, member_at_laws)

pub returns-in-Leaf : goal.returns-in-Leaf
returns-in-Leaf t c = search (rules, member_at_laws)

pub returns-in-Stray : goal.returns-in-Stray
returns-in-Stray t c = search (rules, member_at_laws)
