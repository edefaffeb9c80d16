use Rattle.s66_source.specs.{classed_lines}
use Rattle.s66_source.proofs.AloneLines.{none-copied}
use Rattle.s66_lint.specs.{guarded}
use Rattle.s66_lint.proofs.GuardedLines.{guard-kept}
use Rattle.s66_lint.proofs.guard.laws.guard_kept_law.Goals as goal

pub returns : goal.returns
returns c = λ marks text cut k written at alone.
    let (line, here, bytes, none) = guard-kept marks text cut k written at alone in
    (line, here, bytes, none, none-copied (classed_lines (record { cut = cut; text = guarded marks text })) line none)
