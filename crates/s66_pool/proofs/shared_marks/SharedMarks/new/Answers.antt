use Rattle.std.proofs.Common.{◌≡◌, All, sym, ap, subst, length, arith}
use Rattle.s66_model.specs.{Problem}
use Rattle.s66_node.specs.{MarkTable}
use Rattle.s66_pool.proofs.PartSteps.{opens}
use Rattle.s66_pool.proofs.shared_marks.SharedMarks.new.Goals as goal

pub new-requires : goal.new-requires
new-requires c =
    let own : All (λ x. x.problem ≡ c.new-key.result.problem) c.in_ok-parts.parts.items =
    subst (λ (p : Problem). All (λ (x : MarkTable). x.problem ≡ p) c.in_ok-parts.parts.items) (sym (ap (λ (m : MarkTable). m.problem) c.new-key.ensures)) c.in_ok-parts.ensures.own in
    opens _ _ _ (omega (arith, ap length c.as_slice.ensures.value, c.in_ok-words.ensures.len, c.in_ok-parts.ensures.count)) own
