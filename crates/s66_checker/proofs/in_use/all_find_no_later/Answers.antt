use Rattle.std.proofs.Common.{ℕ, Bool, true≢false, ◌∙◌, sym}
use Rattle.s66_model.specs.{is_remaining}
use Rattle.s66_facts.specs.{known_of as known_in}
use Rattle.s66_checker.specs.{number_finds_no_later}
use Rattle.s66_checker.proofs.FoundInUse.{next-found}
use Rattle.s66_checker.proofs.in_use.all_find_no_later.Goals.{else-is_remaining-via-then-is_remaining+else-not-number_finds_no_later, else-is_remaining-via-else-is_remaining}
use Rattle.s66_checker.proofs.in_use.all_find_no_later.Goals as goal

pub loop-position-preserved : goal.loop-position-preserved
loop-position-preserved c =
    let at = c.args.at.now in
    let left : ℕ → Bool = is_remaining at.problem.block at.numbers in
    let found : ℕ → Bool = number_finds_no_later at.problem (known_in c.args.known.now) c.args.own.now.numbers at.numbers in
    next-found left found c.loop-position.position c.loop-position.invariant
    (elim c.else-is_remaining.branch [
      | else-is_remaining-via-then-is_remaining+else-not-number_finds_no_later w ↦ (λ is. sym w.number_finds_no_later.ensures ∙ w.if-not-number_finds_no_later.false)
      | else-is_remaining-via-else-is_remaining w ↦ (λ is. absurd (true≢false (sym is ∙ (sym c.is_remaining.ensures ∙ w.if-is_remaining.false))))
    ])
