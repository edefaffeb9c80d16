use Rattle.std.proofs.Common.{◌≡◌, IfSome, subst}
use Rattle.s66_isa.specs.{Among}
use Rattle.s66_model.specs.{WrittenEarlier, IsIncomplete, DominatesByRule}
use Rattle.s66_node.proofs.Terminals.{passed-name}
use Rattle.s66_node.proofs.grow.unsplit_by_name.Goals as goal

pub returns-in-Some-clause-found : goal.returns-in-Some-clause-found
returns-in-Some-clause-found g c =
    λ best due.
    let b = c.args.walk.now.problem in
    let at = c.args.walk.now.numbers in
    let numbers = c.in-Some.name.value.numbers.items in
    let dominates : IsIncomplete b.block at → DominatesByRule c.args.rule b numbers at = subst (λ found. IfSome found (λ name. IsIncomplete b.block at → DominatesByRule c.args.rule b name.value.numbers.items at)) c.in-Some.is c.in_ok-name.ensures.dominates in
    let known : c.args.rule ≡ WrittenEarlier → Among numbers (g.N.Naming.names c.args.names.now) = λ by. subst (λ found. IfSome found (λ name. Among name.value.numbers.items (g.N.Naming.names c.args.names.now))) c.in-Some.is (c.in_ok-name.ensures.known by) in
    record {
      value = c.requires.value;
      left = (due, dominates due.0);
      knows = λ by name is. subst (λ x. Among x (g.N.Naming.names c.args.names.now)) (passed-name numbers name is) (known by);
    }

pub returns-else-may_split-clause-found : goal.returns-else-may_split-clause-found
returns-else-may_split-clause-found g c = λ best due. record { value = c.requires.value; left = due; knows = λ by name is. absurd cc }
