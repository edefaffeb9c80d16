use Rattle.std.proofs.Common.{List, ℕ, ◌∙◌, ap, sym}
use Rattle.s66_model.specs.{Chain}
use Rattle.s66_checker.specs.{has_links}
use Rattle.s66_checker.proofs.LeafBounds.{walk-none}
use Rattle.s66_checker.proofs.leaf.chain_value.Goals as goal

pub returns-then-not-is_remaining-clause-links : goal.returns-then-not-is_remaining-clause-links
returns-then-not-is_remaining-clause-links c =
    let b = c.args.prefix.now.problem in
    let ns = c.args.prefix.now.numbers in
    sym (ap (λ (ms : List ℕ). has_links b ns (Chain ms)) c.in_ok-first.ensures.cases.0 ∙ walk-none b ns c.in_ok-first.first.now c.in_ok-first.later.now (sym c.is_remaining.ensures ∙ c.if-not-is_remaining.true))
