use Rattle.std.proofs.Common.{◌∙◌, ◌||◌, eqb, sym, subst, ap, arith, take, get_or, inl, inr, refl, length-take}
use Rattle.std.proofs.lemmas.List.{take_more}
use Rattle.s66_isa.specs.{has}
use Rattle.s66_isa.proofs.Sets.{numbers_in-range}
use Rattle.s66_model.specs.{IsFront, IsBeginning}
use Rattle.s66_model.proofs.LegalOrders.{has-push}
use Rattle.s66_model.proofs.Beginnings.{beginning-front}
use Rattle.s66_model.proofs.Remaining.{step-begins}
use Rattle.s66_line.specs.{instrs_of}
use Rattle.s66_time.proofs.Readiness.{has-ready_same}
use Rattle.s66_time.proofs.LongestBeginning.{beginning-few, not_ready}
use Rattle.s66_time.proofs.graph.beginning.beginning_length.Goals as goal

pub returns-then-not-has : goal.returns-then-not-has
returns-then-not-has c =
    let ns = c.args.numbers.now in
    let i = c.loop-position.position in
    record {
      front =
          let block = instrs_of c.args.block.now in
          let tells = c.has.ensures ∙ has-ready_same block _ (take i ns) _ (get_or ns i 0) (c.ready.ensures block c.of-dependences.ensures) c.loop-position.invariant.placed in
          record {
            within = omega arith;
            front = beginning-front block (take i ns) c.loop-position.invariant.beginning;
            longest = inr (not_ready block ns i 0 (omega arith) (sym tells ∙ c.if-not-has.true));
          };
      few = omega (arith, length-take i ns, beginning-few (instrs_of c.args.block.now) (take i ns) c.loop-position.invariant.beginning);
    }

pub with-placed-requires : goal.with-placed-requires
with-placed-requires c = numbers_in-range c.ready.result (get_or c.args.numbers.now c.loop-position.position 0) (sym c.has.ensures ∙ c.if-not-has.false)

pub loop-position-preserved : goal.loop-position-preserved
loop-position-preserved c =
    let block = instrs_of c.args.block.now in
    let ns = c.args.numbers.now in
    let i = c.loop-position.position in
    let n = get_or ns i 0 in
    let tells = c.has.ensures ∙ has-ready_same block _ (take i ns) _ n (c.ready.ensures block c.of-dependences.ensures) c.loop-position.invariant.placed in
    let more = take_more ns i 0 (omega arith) in
    record {
      placed = λ m.
          (c.with-placed.ensures m
          ∙ (ap (λ b. eqb m n || b) (c.loop-position.invariant.placed m)
          ∙ (sym (has-push m n (take i ns))
          ∙ ap (has m) (sym more))));
      beginning = subst (IsBeginning block) (sym more) (step-begins block (take i ns) n c.loop-position.invariant.beginning (sym tells ∙ c.if-not-has.false));
    }

pub returns : goal.returns
returns c =
    let ns = c.args.numbers.now in
    let i = c.loop-position.position in
    record {
      front =
          let block = instrs_of c.args.block.now in
          record {
            within = omega arith;
            front = subst (λ k. IsFront block (take k ns)) (omega arith) (beginning-front block (take i ns) c.loop-position.invariant.beginning);
            longest = inl refl;
          };
      few = omega (arith, length-take i ns, beginning-few (instrs_of c.args.block.now) (take i ns) c.loop-position.invariant.beginning);
    }
