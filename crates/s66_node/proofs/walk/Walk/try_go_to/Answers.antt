use Rattle.std.proofs.Common.{◌≡◌, true, false, [], ◌∷◌, ◌++◌, ap, sym, subst, get_or, take, arith, ◌∙◌, true≢false}
use Rattle.std.proofs.lemmas.List.{take_more}
use Rattle.s66_model.specs.{IsBeginning, is_ready}
use Rattle.s66_model.proofs.Remaining.{step-begins}
use Rattle.s66_node.specs.Walked.{Walked}
use Rattle.s66_node.proofs.Standing.{ready-at}
use Rattle.s66_node.proofs.walk.Walk.try_go_to.Goals as goal

pub returns-then-not-is_ready-clause-begins : goal.returns-then-not-is_ready-clause-begins
returns-then-not-is_ready-clause-begins c =
    let ns = c.args.prefix.now in
    let i = c.loop-position.position in
    (λ is. absurd (true≢false (sym is)), λ h. absurd (true≢false (sym (ready-at c.args.self.now.problem.block ns i h (omega arith)) ∙ subst (λ (x : Walked). is_ready x.problem.block x.numbers (get_or ns i 0) ≡ false) c.loop-position.invariant.front (sym c.is_ready.ensures ∙ c.if-not-is_ready.true))))

pub push-requires : goal.push-requires
push-requires c = sym c.is_ready.ensures ∙ c.if-not-is_ready.false

pub loop-position-preserved : goal.loop-position-preserved
loop-position-preserved c =
    let block = c.args.self.now.problem.block in
    let ns = c.args.prefix.now in
    let i = c.loop-position.position in
    let n = get_or ns i 0 in
    let here = subst (λ (x : Walked). is_ready x.problem.block x.numbers n ≡ true) c.loop-position.invariant.front (sym c.is_ready.ensures ∙ c.if-not-is_ready.false) in
    let more = take_more ns i 0 (omega arith) in
    record {
      front =
          c.push.ensures
          ∙ (ap (λ (x : Walked). record x { numbers = x.numbers ++ n ∷ [] }) c.loop-position.invariant.front
          ∙ ap (λ ms. record c.args.self.now { numbers = ms }) (sym more));
      begins = subst (IsBeginning block) (sym more) (step-begins block (take i ns) n c.loop-position.invariant.begins here);
    }
