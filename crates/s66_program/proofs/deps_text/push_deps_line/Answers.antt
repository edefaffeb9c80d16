use Rattle.std.proofs.Common.{rules, OnOk, ℕ, List, ◌≡◌, ◌++◌, ◌∙◌, ap, ap₂, codes, decimal}
use Rattle.std.proofs.lemmas.Result.{IfOk-equal}
use Rattle.s66_program.specs.{block_head}
use Rattle.s66_program.proofs.Pieces.{regrouped}
use Rattle.s66_program.proofs.deps_text.push_deps_line.Goals as goal

pub returns : goal.returns
returns c =
    let out = c.args.out.now.items in
    let head = block_head c.args.number c.args.block.now in
    let line : ℕ → ℕ → List ℕ = λ count pairs. head ++ codes " COUNT " ++ decimal count ++ codes " DEPENDENCES " ++ decimal pairs ++ codes "\n" in
    let ended : OnOk c.extend_from_slice.result (c.extend_from_slice.new.self.items ≡ c.push_field-2.new.out.items ++ codes "\n") = search rules in
    IfOk-equal c.extend_from_slice.result _ _ _ ended
    (ap (λ xs. xs ++ codes "\n") (c.in_ok-push_field-2.ensures ∙ ap (λ xs. xs ++ codes " DEPENDENCES " ++ decimal c.args.pairs)
    (c.in_ok-push_field.ensures ∙ ap (λ xs. xs ++ codes " COUNT " ++ decimal c.count-count.result) c.in_ok-push_block_head.ensures))
    ∙ (regrouped out head (codes " COUNT ") (decimal c.count-count.result) (codes " DEPENDENCES ") (decimal c.args.pairs) (codes "\n")
    ∙ ap₂ (λ count pairs. out ++ line count pairs) c.count-count.ensures.value c.requires))
