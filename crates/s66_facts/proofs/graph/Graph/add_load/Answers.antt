use Rattle.std.proofs.Common.{◌≡◌, List, true, sym, arith, subst}
use Rattle.s66_moments.specs.{KnownArc, is_arc_up}
use Rattle.s66_facts.specs.{before_in, Ground, IsAcyclic}
use Rattle.s66_facts.proofs.LoadTaken.{load-ordered}
use Rattle.s66_facts.proofs.graph.Graph.add_load.Goals as goal

pub invariant_of-self : goal.invariant_of-self
invariant_of-self c =
    let last : KnownArc = record { from = c.args.from.now; wait = c.args.wait; to = c.args.to.now } in
    let g : Ground = record { problem = record { block = c.self.inside.block.items; profile = c.self.inside.profile }; marks = c.self.inside.before.items; loads = c.self.inside.loads } in
    let up : is_arc_up g.problem (before_in g.marks) last.from last.to ≡ true = subst (λ (k : Ground). is_arc_up k.problem (before_in k.marks) last.from last.to ≡ true) (sym c.self.view_is) c.requires.up in
    record {
      ordered = subst (λ (loads : List KnownArc). IsAcyclic (record { problem = g.problem; marks = g.marks; loads = loads })) (sym c.push.ensures) (load-ordered g last c.self.invariant.ordered (omega (arith, c.ranges.wait)) up);
      known_rows = c.self.invariant.known_rows;
      count = c.self.invariant.count;
      turned = c.self.invariant.turned;
      near_before = c.self.invariant.near_before;
      near_after = c.self.invariant.near_after;
    }
