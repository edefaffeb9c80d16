use Rattle.std.proofs.Common.{rules, OnOk, ◌≡◌, ◌++◌, ◌∙◌, ap, codes}
use Rattle.std.proofs.lemmas.Result.{IfOk-equal}
use Rattle.s66_isa.specs.{instr_at}
use Rattle.s66_line.specs.{instrs_of}
use Rattle.s66_why.specs.{hazards, hazards_text}
use Rattle.s66_program.specs.{named}
use Rattle.s66_program.proofs.Pieces.{regrouped}
use Rattle.s66_program.proofs.deps_text.push_pair_line.Goals as goal

pub returns : goal.returns
returns c =
    let out = c.args.out.now.items in
    let block = c.args.block.now in
    let later = named block c.args.later in
    let earlier = named block c.args.earlier in
    let why = hazards_text (hazards (instr_at (instrs_of block) c.args.earlier) (instr_at (instrs_of block) c.args.later)) in
    let ended : OnOk c.extend_from_slice-3.result (c.extend_from_slice-3.new.self.items ≡ c.push_reasons.new.out.items ++ codes "\n") = search rules in
    let after : c.extend_from_slice.new.self.items ≡ c.push_named.new.out.items ++ codes " AFTER " = search rules in
    let colon : c.extend_from_slice-2.new.self.items ≡ c.push_named-2.new.out.items ++ codes ": " = search rules in
    IfOk-equal c.extend_from_slice-3.result _ _ _ ended
    (ap (λ xs. xs ++ codes "\n") (c.in_ok-push_reasons.ensures ∙ ap (λ xs. xs ++ why) (colon ∙ ap (λ xs. xs ++ codes ": ")
    (c.in_ok-push_named-2.ensures ∙ ap (λ xs. xs ++ earlier) (after ∙ ap (λ xs. xs ++ codes " AFTER ") c.in_ok-push_named.ensures))))
    ∙ regrouped out later (codes " AFTER ") earlier (codes ": ") why (codes "\n"))
