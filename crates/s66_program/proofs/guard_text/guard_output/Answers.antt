use Rattle.std.proofs.Common.{◌≡◌, ℕ, Bool, List, Ok, ap, subst, sym}
use Rattle.std.specs.Global.{Vec}
use Rattle.s66_command.specs.{Asked}
use Rattle.s66_line.specs.{Block}
use Rattle.s66_source.specs.{blocks_of, classed_lines, source_of}
use Rattle.s66_lint.specs.{IsGuard}
use Rattle.s66_program.specs.{IsGuardOutput, IsAskedOutput, source_in}
use Rattle.s66_program.proofs.guard_text.guard_output.Goals as goal

pub returns-clause-ok : goal.returns-clause-ok
returns-clause-ok c = λ p.
    let input = c.args.input.now in
    let command = c.args.command in
    let guarded = c.in_ok-guarded.guarded in
    let output = c.finished_with.result.output in
    let blocks : List Block = blocks_of (classed_lines c.in_ok-_source._source) in
    let read = subst (λ (cut : Bool). source_of (record { cut = cut; text = input }) ≡ Ok blocks) c.reads_cut.ensures c.in_ok-_source.ensures.read in
    let text = ap (λ (text : Vec ℕ). text.items) c.finished_with.ensures.text in
    let guard = subst (λ (text : List ℕ). IsGuard input text guarded.regions guarded.lines) (sym text) c.in_ok-guarded.ensures in
    let wrote : IsGuardOutput (source_in command input) output.text.items output.status = (blocks, read, (guarded.regions, guarded.lines, guard), c.finished_with.ensures.status) in
    subst (λ (asked : Asked). IsAskedOutput p asked command.block (source_in command input) output.text.items output.status) (sym c.requires) wrote
