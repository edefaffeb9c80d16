use Rattle.std.proofs.Common.{ℕ, ◌+◌, ◌∙◌, cond, ap, sym}
use Rattle.s66_isa.specs.{greatest, memory_pair, Memory}
use Rattle.s66_model.specs.{Point}
use Rattle.s66_checker.proofs.WordsOfPoints.{none-waits}
use Rattle.s66_checker.proofs.replay.past.Past.memory_wait.Goals as goal

pub returns-in-None : goal.returns-in-None
returns-in-None c =
    sym (ap (λ (m : Memory). greatest (λ (p : Point). cond {A = ℕ} (memory_pair p.row.memory m) (p.start + 1) 0) c.args.self.now) c.in-None.is ∙ none-waits c.args.self.now)
