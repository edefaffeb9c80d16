use Rattle.std.proofs.Common.{subst, sym}
use Rattle.s66_model.specs.{IsIssue}
use Rattle.s66_model.proofs.Issue.{issue-is, issue-only}
use Rattle.s66_model.proofs.timing.issue_law.Goals as goal

pub returns : goal.returns
returns c = λ b s r t. (issue-only b s r t, λ e. subst (IsIssue b s r) (sym e) (issue-is b s r))
