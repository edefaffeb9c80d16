use Rattle.std.proofs.Common.{ℕ, ◌+◌, ◌++◌, ◌∷◌, [], List, ◌≡◌, length, subst, sym, ap, arith, true, ◌∙◌}
use Rattle.s66_model.specs.{is_ready}
use Rattle.s66_model.proofs.Beginnings.{length-rising}
use Rattle.s66_line.specs.{instrs_of, Block}
use Rattle.s66_time.specs.Ticking.{Ticking}
use Rattle.s66_time.proofs.OrderNumbers.{rising-more}
use Rattle.s66_tools.proofs.SourceOrder.{source-ready}
use Rattle.s66_tools.proofs.rounds.push_first.Goals as goal

pub push-requires : goal.push-requires
push-requires c =
    let i = c.loop-position.position in
    let block = instrs_of c.loop-position.clock.block in
    subst (λ (ns : List ℕ). is_ready block ns (i + 1) ≡ true) (sym c.loop-position.invariant.numbers)
    (source-ready block i (i + 1) (omega (arith, c.requires.within, ap (λ (b : Block). length (instrs_of b)) c.loop-position.invariant.block)) (omega arith))

pub loop-position-preserved : goal.loop-position-preserved
loop-position-preserved c =
    let i = c.loop-position.position in
    record {
      block = ap (λ (t : Ticking). t.block) c.push.ensures.value ∙ c.loop-position.invariant.block;
      numbers = ap (λ (t : Ticking). t.numbers) c.push.ensures.value ∙ ap (λ (ns : List ℕ). ns ++ (i + 1) ∷ []) c.loop-position.invariant.numbers ∙ sym (rising-more i);
    }

pub returns-clause-count : goal.returns-clause-count
returns-clause-count c = omega (arith, ap (length {A = ℕ}) c.loop-position.invariant.numbers, length-rising c.loop-position.position 1)
