use Rattle.std.proofs.Common.{ℕ, List, ◌≡◌, ◌+◌, ◌-◌, ◌++◌, [], ◌∙◌, sym, ap, arith, length, get_or, append_assoc}
use Rattle.s66_isa.specs.{rising, numbers_in}
use Rattle.s66_isa.proofs.Lists.{rising-next}
use Rattle.s66_model.specs.{needs}
use Rattle.s66_line.specs.{instrs_of}
use Rattle.s66_time.proofs.Readiness.{needs-at}
use Rattle.s66_time.proofs.Opened.{count-needs}
use Rattle.s66_program.specs.{needs_line, needs_lines}
use Rattle.s66_program.proofs.deps_text.push_needs_lines.Goals as goal

pub needs-needs-requires : goal.needs-needs-requires
needs-needs-requires c = (omega arith, omega (arith, ap (λ (all : List (List ℕ)). length all) c.requires, count-needs (instrs_of c.args.block.now)))

pub loop-position-preserved : goal.loop-position-preserved
loop-position-preserved c =
    let block = instrs_of c.args.block.now in
    let i = c.loop-position.position in
    let before = c.loop-position.out.items in
    let found = numbers_in c.needs-needs.result in
    let rest = needs_lines block (rising (length block - (i + 1)) (i + 1 + 1)) in
    let needed : found ≡ needs block (i + 1) =
    c.needs-needs.ensures ∙ (ap (λ (all : List (List ℕ)). get_or all (i + 1 - 1) []) c.requires ∙ needs-at block (i + 1) (omega arith) (omega arith)) in
    ap (λ xs. xs ++ rest) c.in_ok-push_needs_line.ensures
    ∙ (append_assoc before (needs_line (i + 1) found) rest
    ∙ (ap (λ ns. before ++ (needs_line (i + 1) ns ++ rest)) needed
    ∙ (ap (λ ns. before ++ needs_lines block ns) (sym (rising-next (length block) i (omega arith)))
    ∙ c.loop-position.invariant)))
