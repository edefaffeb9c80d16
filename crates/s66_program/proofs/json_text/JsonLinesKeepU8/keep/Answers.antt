use Rattle.std.proofs.Common.{ℕ, ◌∙◌, ◌++◌, List, ap, ap₂}
use Rattle.s66_isa.specs.{Profile}
use Rattle.s66_line.specs.{instrs_of}
use Rattle.s66_time.specs.Ordered.{Ordered}
use Rattle.s66_views.specs.{found_data, json_line}
use Rattle.s66_answer.specs.{answer_in}
use Rattle.s66_program.specs.{entry_at, as_written}
use Rattle.s66_program.proofs.json_text.JsonLinesKeepU8.keep.Goals as goal

pub push_json_found-requires : goal.push_json_found-requires
push_json_found-requires c = ap (λ (o : Ordered). o.block) (c.order.ensures c.args.answer.strategy c.args.answer.profile.now c.args.answer.block.now c.requires)

pub returns : goal.returns
returns c =
    let strategy = c.args.answer.strategy in
    let p = c.args.answer.profile.now in
    let block = c.args.answer.block.now in
    let line : Profile → List ℕ → ℕ → ℕ → List ℕ =
    λ q ns bound splits.
    c.args.parts.now.items
    ++ json_line c.args.answer.number (entry_at c.args.self.now.entries.now c.args.answer.number) block (as_written q (instrs_of block)) (found_data (record { problem = record { block = instrs_of block; profile = q }; numbers = ns }) bound splits)
    in
    c.in_ok-push_json_found.ensures.line
    ∙ ap (λ name. c.args.parts.now.items ++ json_line c.args.answer.number name block (as_written c.new-timer.result (instrs_of block))
    (found_data (record { problem = record { block = instrs_of block; profile = c.new-timer.result }; numbers = c.order.result.now.numbers }) c.bound.result c.splits.result)) c.entry_at.ensures
    ∙ ap₂ (λ (q : Profile) (o : Ordered). line q o.numbers c.bound.result c.splits.result) c.new-timer.ensures (c.order.ensures strategy p block c.requires)
    ∙ ap₂ (λ bound splits. line p (answer_in c.args.answer.found).order bound splits) c.bound.ensures c.splits.ensures
