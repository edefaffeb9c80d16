use Rattle.std.proofs.Common.{ℕ, ◌+◌, List, ap, sym, subst, arith, drop, get_or, ◌∙◌}
use Rattle.std.proofs.lemmas.List.{drop_all}
use Rattle.s66_isa.specs.{Boolean, all_kinds}
use Rattle.s66_model.specs.{Chain, Load, Parcels}
use Rattle.s66_model.proofs.FloorWalk.{leaves_from, leaves-step}
use Rattle.s66_time.specs.{problem_of}
use Rattle.s66_bound.proofs.FirstGreatest.{IsToCome, chain-met, chain-passed, load-at_most, other-passed, other-met, last-met}
use Rattle.s66_bound.proofs.floors.floor_of_value.Goals as goal

pub returns-then-chain_of-value-clause-leaf : goal.returns-then-chain_of-value-clause-leaf
returns-then-chain_of-value-clause-leaf c =
    let t = c.args.clock.now in
    let b = problem_of t in
    ap (λ (numbers : List ℕ). Chain numbers) c.chain_numbers.ensures
    ∙ chain-met b t.numbers c.args.value c.requires.value c.requires.rest.begins c.requires.some (omega (arith, c.chain_of.ensures, c.if-chain_of-value.true))

pub loop-kind-init : goal.loop-kind-init
loop-kind-init c =
    let t = c.args.clock.now in
    chain-passed (problem_of t) t.numbers c.args.value c.requires.value c.requires.rest.begins c.requires.some (λ met. c.if-chain_of-value.false (c.chain_of.ensures ∙ met))

pub returns-then-load_of-value-clause-leaf : goal.returns-then-load_of-value-clause-leaf
returns-then-load_of-value-clause-leaf c =
    let t = c.args.clock.now in
    let i : ℕ = c.loop-kind.kind-index in
    other-met (problem_of t) t.numbers c.args.value c.requires.value (Load (get_or all_kinds i Boolean)) (leaves_from (drop (i + 1) all_kinds)) (subst (IsToCome (problem_of t) t.numbers c.args.value) (leaves-step all_kinds i Boolean c.loop-kind-test.true) c.loop-kind.invariant) (sym c.load_of.ensures ∙ c.if-load_of-value.true)

pub loop-kind-preserved : goal.loop-kind-preserved
loop-kind-preserved c =
    let t = c.args.clock.now in
    let b = problem_of t in
    let i : ℕ = c.loop-kind.kind-index in
    other-passed b t.numbers c.args.value c.requires.value (Load (get_or all_kinds i Boolean)) (leaves_from (drop (i + 1) all_kinds)) (subst (IsToCome b t.numbers c.args.value) (leaves-step all_kinds i Boolean c.loop-kind-test.true) c.loop-kind.invariant)
    (load-at_most b t.numbers c.args.value c.requires.value c.requires.rest.begins c.requires.some i Boolean c.loop-kind-test.true) (λ met. c.if-load_of-value.false (c.load_of.ensures ∙ met))

pub returns-clause-leaf : goal.returns-clause-leaf
returns-clause-leaf c =
    let t = c.args.clock.now in
    let b = problem_of t in
    last-met b t.numbers c.args.value c.requires.value Parcels
    (subst (λ kinds. IsToCome b t.numbers c.args.value (leaves_from kinds)) (drop_all c.loop-kind.kind-index all_kinds c.loop-kind-test.false) c.loop-kind.invariant)
