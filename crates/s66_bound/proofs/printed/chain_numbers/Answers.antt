use Rattle.std.proofs.Common.{◌≡◌, ◌∷◌, true, length, sym, subst, ap, arith, ◌∙◌}
use Rattle.s66_isa.specs.{Among}
use Rattle.s66_model.specs.{is_remaining, chain_front, walk_after}
use Rattle.s66_model.proofs.Remaining.{remaining-parts, remaining-among}
use Rattle.s66_model.proofs.Floors.{some-remains}
use Rattle.s66_model.proofs.PrintedChain.{longest_chain-static}
use Rattle.s66_model.proofs.WalkOver.{chain_front-remains}
use Rattle.s66_time.specs.{problem_of}
use Rattle.s66_bound.proofs.printed.chain_numbers.Goals as goal

pub walk_from-requires-clause-rest : goal.walk_from-requires-clause-rest
walk_from-requires-clause-rest c = λ n among.
    let t = c.args.clock.now in
    let b = problem_of t in
    let (low, high, new) = remaining-parts b.block t.numbers n (remaining-among b.block t.numbers n (subst (λ ns. Among n ns) c.requires.rest.numbers among)) in
    (low, omega (arith, high, c.requires.costs.count))

pub walk_from-requires-clause-first : goal.walk_from-requires-clause-first
walk_from-requires-clause-first c =
    let t = c.args.clock.now in
    let b = problem_of t in
    let (n, stays) = some-remains b.block t.numbers c.requires.rest.begins c.requires.some in
    let (low, high, new) = remaining-parts b.block t.numbers (chain_front b t.numbers) (chain_front-remains b t.numbers c.requires.rest.begins n stays) in
    (omega (arith, low, c.first_of_chain-first.ensures), omega (arith, high, c.requires.costs.count, c.first_of_chain-first.ensures))

pub returns : goal.returns
returns c =
    let t = c.args.clock.now in
    let b = problem_of t in
    let (n, stays) = some-remains b.block t.numbers c.requires.rest.begins c.requires.some in
    let remains : is_remaining b.block t.numbers c.first_of_chain-first.result ≡ true =
    subst (λ m. is_remaining b.block t.numbers m ≡ true) (sym c.first_of_chain-first.ensures) (chain_front-remains b t.numbers c.requires.rest.begins n stays)
    in
    c.walk_from.ensures b t.numbers c.requires.costs c.requires.tables c.requires.rest.begins c.requires.rest.numbers remains
    ∙ (ap (λ m. m ∷ walk_after b (length b.block) m) c.first_of_chain-first.ensures ∙ sym (longest_chain-static b t.numbers c.requires.rest.begins n stays))
