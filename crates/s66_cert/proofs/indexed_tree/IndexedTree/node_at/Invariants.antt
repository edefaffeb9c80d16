use Rattle.std.proofs.Common.{◌≡◌, ◌<◌, [], length, drop}
use Rattle.s66_model.specs.{node_named}
use Rattle.s66_cert.specs.{tree_of_lines, tree_at}
use Rattle.s66_cert.proofs.indexed_tree.IndexedTree.node_at.Given as goal

-- the node is the one of the rest of the name, from the line at the place
abbrev pub invariant-loop-number : goal.invariant-loop-number
invariant-loop-number l = record {
  within : l.place < length l.self;
  rest : node_named [] (tree_at l.self l.place) (drop l.number-index l.name) ≡ node_named [] (tree_of_lines l.self) l.name;
}
