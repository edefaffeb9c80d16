use Rattle.std.proofs.Common.{◌∙◌, [], arith, ap, sym, get_or, length}
use Rattle.s66_node.specs.{Node}
use Rattle.s66_ledger.specs.{prefixes, no_stored}
use Rattle.s66_ledger.proofs.NodePrefixes.{get_or-any, name-below, name-root}
use Rattle.s66_ledger.proofs.path.name_of.Goals.{then-value-node, else-value-node}
use Rattle.s66_ledger.proofs.path.name_of.Goals as goal

pub prefix_of-requires-clause-few : goal.prefix_of-requires-clause-few
prefix_of-requires-clause-few c =
    let xs = c.args.nodes.now in
    let i = c.args.node in
    let value = get_or-any xs i _ no_stored (λ (x : Node). x.value) c.requires.within in
    elim c.if-value-node.branch [
      | then-value-node w ↦
          omega (arith, c.requires.few, ap length (name-below xs i _ c.requires.within value w.if-value-node.true), ap (λ k. length (get_or (prefixes xs) k [])) w.named-is)
      | else-value-node w ↦
          omega (arith, c.requires.few, ap length (name-root xs i _ c.requires.within value w.if-value-node.false), ap (λ k. length (get_or (prefixes xs) k [])) w.named-is)
    ]

pub returns : goal.returns
returns c =
    let xs = c.args.nodes.now in
    let i = c.args.node in
    let value = get_or-any xs i _ no_stored (λ (x : Node). x.value) c.requires.within in
    elim c.if-value-node.branch [
      | then-value-node w ↦
          c.prefix_of.ensures ∙ (ap (λ k. get_or (prefixes xs) k []) w.named-is ∙ sym (name-below xs i _ c.requires.within value w.if-value-node.true))
      | else-value-node w ↦
          c.prefix_of.ensures ∙ (ap (λ k. get_or (prefixes xs) k []) w.named-is ∙ sym (name-root xs i _ c.requires.within value w.if-value-node.false))
    ]
