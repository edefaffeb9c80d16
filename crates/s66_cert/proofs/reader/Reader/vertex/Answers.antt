use Rattle.s66_cert.specs.{state}
use Rattle.s66_cert.proofs.Places.{few_trees}
use Rattle.s66_cert.proofs.reader.Reader.vertex.Goals as goal

pub take_vertex-requires-clause-few : goal.take_vertex-requires-clause-few
take_vertex-requires-clause-few c = few_trees (state c.args.self.now) c.in-AtTree.is c.requires.fine
