use Rattle.std.proofs.Common.{ap, arith, length}
use Rattle.s66_ledger.specs.{AnswerOf}
use Rattle.s66_ledger.proofs.SeenNodes.{length-nodes}
use Rattle.s66_ledger.proofs.answer.Answer.line_count.Goals as goal

pub returns : goal.returns
returns c = omega (arith, c.len.ensures, length-nodes c.self.inside.best.problem c.self.inside.nodes.items, ap (λ (a : AnswerOf). length a.state.nodes) c.self.view_is)
