use Rattle.std.proofs.Common.{◌+◌, ◌-◌, ◌*◌, ◌≤◌, ◌≡◌}
use Rattle.s66_isa.specs.{BLOCK_LIMIT}
use Rattle.s66_node.proofs.GrowTurns.{IsGrowing}
use Rattle.s66_node.proofs.WalkTurns.{work}
use Rattle.s66_node.proofs.grow.grow.Given as goal

abbrev pub invariant-loop-frame : goal.invariant-loop-frame
invariant-loop-frame g l =
    record {
      problem : l.walk.problem ≡ l.fn.walk.problem;
      kept : g.L.Least.kept l.incumbent ≡ l.best;
      falls : l.best ≤ g.L.Least.kept l.fn.incumbent;
      lowest : (g.L.Least.lowest l.incumbent ≡ g.L.Least.lowest l.fn.incumbent) × (g.L.Least.lowest l.fn.incumbent ≤ l.best);
      suits : g.N.Naming.suits l.names l.fn.walk.problem;
      grows : IsGrowing l.rule l.fn.walk.problem (g.L.Least.kept l.fn.incumbent) l.allowance l.fn.walk.numbers l.walk.numbers l.frames.items l.grown l.best (g.N.Naming.names l.names);
    }

abbrev pub decreases-loop-frame : goal.decreases-loop-frame
decreases-loop-frame g l = (l.allowance - l.grown.splits) * (BLOCK_LIMIT + 2) + work l.frames.items
