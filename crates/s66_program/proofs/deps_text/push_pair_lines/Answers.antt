use Rattle.std.proofs.Common.{ℕ, List, ◌+◌, ◌-◌, ◌++◌, [], ◌∙◌, ap, append_assoc, arith, flat_map, get_or, length, sym}
use Rattle.s66_isa.specs.{rising}
use Rattle.s66_isa.proofs.Lists.{rising-next}
use Rattle.s66_model.specs.{needs}
use Rattle.s66_line.specs.{instrs_of}
use Rattle.s66_time.proofs.Readiness.{needs-at}
use Rattle.s66_time.proofs.Opened.{count-needs}
use Rattle.s66_program.specs.{pair_line}
use Rattle.s66_program.proofs.deps_text.push_pair_lines.Goals as goal

pub needs-needs-requires : goal.needs-needs-requires
needs-needs-requires c = (omega arith, omega (arith, ap (λ (all : List (List ℕ)). length all) c.requires, count-needs (instrs_of c.args.block.now)))

pub push_pairs_of-requires-clause-needs : goal.push_pairs_of-requires-clause-needs
push_pairs_of-requires-clause-needs c =
    let block = instrs_of c.args.block.now in
    let i = c.loop-position.position in
    c.needs-needs.ensures ∙ (ap (λ (all : List (List ℕ)). get_or all (i + 1 - 1) []) c.requires ∙ needs-at block (i + 1) (omega arith) (omega arith))

pub loop-position-preserved : goal.loop-position-preserved
loop-position-preserved c =
    let block = c.args.block.now in
    let count = length (instrs_of block) in
    let i = c.loop-position.position in
    let lines : ℕ → List ℕ = λ n. flat_map (pair_line block n) (needs (instrs_of block) n) in
    let rest = flat_map lines (rising (count - (i + 1)) (i + 1 + 1)) in
    ap (λ xs. xs ++ rest) c.in_ok-push_pairs_of.ensures
    ∙ (append_assoc c.loop-position.out.items (lines (i + 1)) rest
    ∙ (ap (λ ns. c.loop-position.out.items ++ flat_map lines ns) (sym (rising-next count i (omega arith)))
    ∙ c.loop-position.invariant))
