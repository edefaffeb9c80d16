use Rattle.std.proofs.Common.{◌∙◌, ap, sym}
use Rattle.s66_model.specs.{row_at, point_of, points_of}
use Rattle.s66_checker.specs.Checked.{Checked}
use Rattle.s66_checker.proofs.PrefixSteps.{prefix-timed, point-next}
use Rattle.s66_checker.proofs.replay.prefix.Prefix.next_point.Goals as goal

pub next_point-requires : goal.next_point-requires
next_point-requires c = prefix-timed _ _ _ _ _ _ _ c.self.invariant

pub returns-clause-value : goal.returns-clause-value
returns-clause-value c =
    let n = c.args.n in
    let row = c.duplicate.ensures ∙ c.row.ensures ∙ ap (λ (q : Checked). row_at q.problem n) (sym c.self.view_is) in
    point-next _ _ _ _ _ _ c.self.inside.past n c.duplicate.result c.next_point.result c.self.invariant row c.next_point.ensures
    ∙ ap (λ (q : Checked). point_of q.problem (points_of q.problem q.numbers) n) c.self.view_is
