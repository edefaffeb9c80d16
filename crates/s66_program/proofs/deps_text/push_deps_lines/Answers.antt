use Rattle.std.proofs.Common.{ℕ, List, ◌∙◌, sym, ap, length}
use Rattle.s66_line.specs.{instrs_of}
use Rattle.s66_time.proofs.Opened.{count-needs}
use Rattle.s66_program.proofs.deps_text.push_deps_lines.Goals as goal

pub pairs-pairs-requires-clause-count : goal.pairs-pairs-requires-clause-count
pairs-pairs-requires-clause-count c = c.count.ensures.value ∙ sym (ap (λ (ns : List (List ℕ)). length ns) c.of-dependences.ensures ∙ count-needs (instrs_of c.args.block.now))
