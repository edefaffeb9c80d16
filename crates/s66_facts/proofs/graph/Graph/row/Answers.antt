use Rattle.std.proofs.Common.{◌-◌, get_or, length, ap, arith, ◌∙◌}
use Rattle.s66_model.specs.{row_at}
use Rattle.s66_facts.specs.{Ground}
use Rattle.s66_facts.proofs.Latest.{row-kept}
use Rattle.s66_facts.proofs.graph.Graph.row.Goals as goal

pub returns : goal.returns
returns c =
    let few = ap (λ (g : Ground). length g.problem.block) c.self.view_is in
    c.index-as_slice-n.is
    ∙ (ap (λ rs. get_or rs (c.args.n - 1) c.index-as_slice-n.result) c.as_slice.ensures.value
    ∙ (row-kept c.self.inside.block.items c.self.inside.profile c.self.inside.rows.items c.args.n c.index-as_slice-n.result c.self.invariant.known_rows c.requires.0 (omega (arith, few, c.requires.1))
    ∙ ap (λ (g : Ground). row_at g.problem c.args.n) c.self.view_is))
