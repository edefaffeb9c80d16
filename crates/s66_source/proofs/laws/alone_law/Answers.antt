use Rattle.s66_source.specs.{classed_lines}
use Rattle.s66_source.proofs.AloneLines.{alone-none, none-copied}
use Rattle.s66_source.proofs.laws.alone_law.Goals as goal

pub returns : goal.returns
returns c = λ source k m at alone.
    let (line, here, bytes, none) = alone-none source k m at alone in
    (line, here, bytes, none, none-copied (classed_lines source) line none)
