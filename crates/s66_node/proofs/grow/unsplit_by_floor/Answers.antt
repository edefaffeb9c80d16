use Rattle.std.proofs.Common.{◌≤◌, ◌⊎◌, true≢false, ◌∙◌, sym, refl, arith, inl, inr}
use Rattle.s66_model.specs.{IsComplete, IsIncomplete}
use Rattle.s66_node.proofs.grow.unsplit_by_floor.Goals.{then-is_complete-via-then-is_complete, then-is_complete-via-else-is_complete+then-value-best}
use Rattle.s66_node.proofs.grow.unsplit_by_floor.Goals as goal

pub returns-then-is_complete-clause-found : goal.returns-then-is_complete-clause-found
returns-then-is_complete-clause-found c =
    let either : IsComplete c.args.walk.now.problem.block c.args.walk.now.numbers ⊎ (c.args.best ≤ c.args.value) =
    elim c.then-is_complete.branch [
      | then-is_complete-via-then-is_complete w ↦ inl (c.is_complete.ensures.complete.0 w.if-is_complete.true)
      | then-is_complete-via-else-is_complete+then-value-best w ↦ inr (omega (arith, w.if-value-best.true))
    ] in
    record {
      value = c.requires;
      left = (refl, elim either [ inl whole ↦ inl whole | inr le ↦ inr (omega (arith, le, c.requires)) ]);
      knows = λ by name is. absurd cc;
    }

pub returns-else-may_split-clause-found : goal.returns-else-may_split-clause-found
returns-else-may_split-clause-found c =
    let part : IsIncomplete c.args.walk.now.problem.block c.args.walk.now.numbers =
    elim c.is_complete.ensures.incomplete [ inl whole ↦ absurd (true≢false (sym whole ∙ c.if-is_complete.false)) | inr part ↦ part ] in
    record { value = c.requires; left = (part, omega (arith, c.requires, c.if-value-best.false)); knows = λ by name is. absurd cc }
