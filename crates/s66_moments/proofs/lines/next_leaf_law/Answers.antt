use Rattle.s66_moments.proofs.NextLeaves.{next-late, turned-late}
use Rattle.s66_moments.proofs.lines.next_leaf_law.Goals as goal

pub returns-clause-next : goal.returns-clause-next
returns-clause-next c = λ b low known prefix arcs n stage steps remains late. next-late b low known prefix arcs n stage steps remains late

pub returns-clause-turned : goal.returns-clause-turned
returns-clause-turned c = λ b low known prefix m n is_m is_n first placed. turned-late b low known prefix m n is_m is_n first placed
