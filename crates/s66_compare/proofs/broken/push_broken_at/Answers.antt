use Rattle.std.proofs.Common.{◌≡◌, ◌++◌, ◌∙◌, ap, ap₂, codes}
use Rattle.std.proofs.lemmas.Result.{IfOk-equal}
use Rattle.s66_isa.specs.{instr_at}
use Rattle.s66_line.specs.{instrs_of}
use Rattle.s66_compare.specs.{broken_at, pair_text, reason}
use Rattle.s66_compare.proofs.Texts.{three-pieces}
use Rattle.s66_compare.proofs.broken.push_broken_at.Goals as goal

pub returns : goal.returns
returns c =
    let out = c.args.out.now.items in
    let block = c.args.block.now in
    let early = c.args.early in
    let late = c.args.late in
    let first : c.push_pair.new.out.items ≡ out ++ pair_text block early late = c.in_ok-push_pair.ensures in
    let second : c.extend_from_slice.new.self.items ≡ c.push_pair.new.out.items ++ codes ": " = c.in_ok-extend_from_slice.ensures.items in
    IfOk-equal c.push_reason.result c.push_reason.new.out.items (c.extend_from_slice.new.self.items ++ reason c.instr.result c.instr-2.result) (out ++ broken_at block early late) c.push_reason.ensures
    (ap₂ (λ text words. text ++ words) (second ∙ ap (λ text. text ++ codes ": ") first) (ap₂ reason c.instr.ensures c.instr-2.ensures)
    ∙ three-pieces out (pair_text block early late) (codes ": ") (reason (instr_at (instrs_of block) late) (instr_at (instrs_of block) early)))
