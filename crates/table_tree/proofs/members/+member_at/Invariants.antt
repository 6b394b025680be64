-- `table_tree::members::member_at` calls itself, and meets its contract: each way out is a law of MemberLaws. The measure is
-- the nodes left.
use Rattle.table_tree.proofs.members.+member_at.Given as goal

abbrev pub decreases-member_at : goal.decreases-member_at
decreases-member_at l = l.left
