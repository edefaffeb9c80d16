use Rattle.std.proofs.Common.{◌∙◌, ap, sym}
use Rattle.s66_model.specs.{end_of, total, total_of}
use Rattle.s66_checker.specs.Checked.{Checked}
use Rattle.s66_checker.proofs.Reversed.{greatest-reverse}
use Rattle.s66_checker.proofs.replay.prefix.Prefix.total.Goals as goal

pub returns : goal.returns
returns c =
    c.total.ensures ∙ sym (greatest-reverse end_of c.self.inside.past) ∙ ap total c.self.invariant.timed
    ∙ ap (λ (q : Checked). total_of q.problem q.numbers) c.self.view_is
