use Rattle.std.proofs.Common.{◌++◌, ◌∙◌, ap, List, ℕ}
use Rattle.s66_source.proofs.KeptLines.{counted-line, given-line, match-map, printed-line}
use Rattle.s66_source.proofs.keeper.Keeper.print_line.Goals as goal

pub put_line-requires-clause-placed : goal.put_line-requires-clause-placed
put_line-requires-clause-placed c = λ p b some_placed some_block.
    given-line c.args.self.now c.args.number c.args.begun c.owner.result c.args.line.now _ c.next_block-block.result c.is_some-begins.result c.next_block-block.ensures.value c.is_some-begins.ensures c.owner.ensures
    _ p b c.requires.keeper.given (match-map _ c.placed-placed.result _ c.placed-placed.ensures) some_placed some_block

pub returns-clause-text : goal.returns-clause-text
returns-clause-text c =
    c.in_ok-put_line.ensures
    ∙ ap (λ (text : List ℕ). c.args.out.now.items ++ text)
    (printed-line c.args.self.now c.args.number c.args.begun c.owner.result c.args.line.now _ c.next_block-block.result c.is_some-begins.result c.next_block-block.ensures.value c.is_some-begins.ensures c.owner.ensures
    _ (match-map _ c.placed-placed.result _ c.placed-placed.ensures))

pub returns-clause-begun : goal.returns-clause-begun
returns-clause-begun c =
    counted-line c.args.self.now c.args.number c.args.begun c.owner.result c.args.line.now _ c.next_block-block.result c.is_some-begins.result c.next_block-block.ensures.value c.is_some-begins.ensures c.owner.ensures
    _ c.count_after.ensures
