use Rattle.std.proofs.Common.{ℕ, List, ◌≡◌, ◌+◌, ◌-◌, ◌++◌, [], ◌∙◌, true, false, sym, ap, arith, length, get_or, append_assoc, codes, nat_lt, lt-ltb}
use Rattle.std.proofs.lemmas.Result.{IfOk-equal}
use Rattle.serde_json.specs.Written.{comma_if}
use Rattle.s66_isa.specs.{rising}
use Rattle.s66_isa.proofs.Lists.{rising-next}
use Rattle.s66_line.specs.{instrs_of}
use Rattle.s66_time.proofs.Readiness.{needs-at}
use Rattle.s66_time.proofs.Opened.{count-needs}
use Rattle.s66_views.specs.{json_instruction_text, json_instructions_text, json_listed}
use Rattle.s66_views.proofs.Appended.{of-three}
use Rattle.s66_views.proofs.json_lines.instruction.push_instructions.Goals as goal

pub loop-position-init : goal.loop-position-init
loop-position-init c =
    let block = instrs_of c.args.block.now in
    let text : ℕ → List ℕ = json_instruction_text c.args.profile.now c.args.block.now in
    let start = codes ",\"instructions\":[" in
    let none : length block - 0 ≡ length block = omega arith in
    ap (λ zs. zs ++ json_listed text (nat_lt 0 0) (rising (length block - 0) (0 + 1))) c.in_ok-push_text.ensures
    ∙ append_assoc c.args.out.now.items start (json_listed text false (rising (length block - 0) 1)) ∙ ap (λ k. c.args.out.now.items ++ (start ++ json_listed text false (rising k 1))) none

pub needs-after-requires : goal.needs-after-requires
needs-after-requires c = (omega arith, omega (arith, ap (λ (all : List (List ℕ)). length all) c.of-dependences.ensures, count-needs (instrs_of c.args.block.now)))

pub push_instruction-requires-clause-after : goal.push_instruction-requires-clause-after
push_instruction-requires-clause-after c =
    let block = instrs_of c.args.block.now in
    let i = c.loop-position.position in
    c.needs-after.ensures ∙ (ap (λ (all : List (List ℕ)). get_or all (i + 1 - 1) []) c.of-dependences.ensures ∙ needs-at block (i + 1) (omega arith) (omega arith))

pub loop-position-preserved : goal.loop-position-preserved
loop-position-preserved c =
    let block = instrs_of c.args.block.now in
    let i = c.loop-position.position in
    let before = c.loop-position.out.items in
    let text : ℕ → List ℕ = json_instruction_text c.args.profile.now c.args.block.now in
    let comma = comma_if (nat_lt 0 i) in
    let ns = rising (length block - (i + 1)) (i + 1 + 1) in
    let later : nat_lt 0 (i + 1) ≡ true = lt-ltb 0 (i + 1) (omega arith) in
    ap (λ zs. zs ++ json_listed text (nat_lt 0 (i + 1)) ns) (c.in_ok-push_instruction.ensures ∙ ap (λ zs. zs ++ text (i + 1)) c.in_ok-push_comma.ensures)
    ∙ of-three before comma (text (i + 1)) (json_listed text (nat_lt 0 (i + 1)) ns) ∙ ap (λ b. before ++ (comma ++ (text (i + 1) ++ json_listed text b ns))) later
    ∙ sym (ap (λ ms. before ++ json_listed text (nat_lt 0 i) ms) (rising-next (length block) i (omega arith))) ∙ c.loop-position.invariant

pub returns : goal.returns
unfolding json_instructions_text
returns c =
    let block = instrs_of c.args.block.now in
    let i = c.loop-position.position in
    let text : ℕ → List ℕ = json_instruction_text c.args.profile.now c.args.block.now in
    let past : length block - i ≡ 0 = omega arith in
    let none : rising (length block - i) (i + 1) ≡ [] = ap (λ k. rising k (i + 1)) past in
    IfOk-equal c.push_text-2.result _ _ _ c.push_text-2.ensures
    (sym (ap (λ ns. c.loop-position.out.items ++ json_listed text (nat_lt 0 i) ns) none) ∙ c.loop-position.invariant)
