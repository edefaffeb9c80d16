use Rattle.std.proofs.Common.{ℕ, ◌≡◌, ◌+◌, ◌-◌, ◌∙◌, Bool, length, get_or, ap, sym, arith}
use Rattle.s66_isa.specs.{has, numbers_in, no_set}
use Rattle.s66_isa.proofs.Sets.{within, within-none, numbers_in-filter}
use Rattle.s66_time.proofs.graph.openings.opened_by.Goals as goal

pub loop-position-init : goal.loop-position-init
loop-position-init c = λ m. ap (has m) c.empty-opened.ensures ∙ sym (within-none (λ a. has c.args.n (numbers_in (get_or c.args.direct.now (a - 1) no_set))) m)

pub returns : goal.returns
returns c =
    let test : ℕ → Bool = λ a. has c.args.n (numbers_in (get_or c.args.direct.now (a - 1) no_set)) in
    let all : c.loop-position.position ≡ length c.args.direct.now = omega arith in
    numbers_in-filter c.loop-position.opened test (length c.args.direct.now) (omega (arith, c.requires)) (λ m. c.loop-position.invariant m ∙ ap (λ k. within test (k + 1) m) all)
