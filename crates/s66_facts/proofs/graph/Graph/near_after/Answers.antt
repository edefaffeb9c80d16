use Rattle.std.proofs.Common.{◌-◌, get_or, ap, sym, subst, ◌∙◌}
use Rattle.s66_isa.specs.{no_set}
use Rattle.s66_moments.specs.{IsNumber}
use Rattle.s66_facts.specs.{before_in, IsNear, Ground}
use Rattle.s66_facts.proofs.NearEach.{turned-near}
use Rattle.s66_facts.proofs.graph.Graph.near_after.Goals as goal

pub returns : goal.returns
returns c =
    let g : Ground = record { problem = record { block = c.self.inside.block.items; profile = c.self.inside.profile }; marks = c.self.inside.before.items; loads = c.self.inside.loads } in
    let n = c.args.n in
    let is_n : IsNumber g.problem n = subst (λ (k : Ground). IsNumber k.problem n) (sym c.self.view_is) c.requires in
    subst (λ (k : Ground). IsNear k.problem (λ m i. before_in k.marks i m) c.marks_at.result n) c.self.view_is
    (subst (λ near. IsNear g.problem (λ m i. before_in g.marks i m) near n) (sym (c.marks_at.ensures ∙ ap (λ ms. get_or ms (n - 1) no_set) c.as_slice.ensures.value))
    (turned-near g.problem g.marks c.self.inside.after.items (get_or c.self.inside.near_after.items (n - 1) no_set) n c.self.invariant.turned (c.self.invariant.near_after.each n is_n)))
