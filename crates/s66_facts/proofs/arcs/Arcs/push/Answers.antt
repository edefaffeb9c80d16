use Rattle.std.proofs.Common.{ℕ, List, sym, subst}
use Rattle.s66_isa.specs.{BLOCK_LIMIT}
use Rattle.s66_moments.specs.{KnownArc}
use Rattle.s66_facts.specs.{Forward, Backward, number_of, IsPushed, IsChained}
use Rattle.s66_facts.proofs.Chained.{chained-push}
use Rattle.s66_facts.proofs.arcs.Arcs.push.Goals as goal

pub invariant_of-self : goal.invariant_of-self
invariant_of-self c =
    let arcs : List KnownArc = c.self.inside.all.items in
    let other : KnownArc = c.args.arc in
    let (to, from) = c.self.invariant in
    let old_to = c.self.inside.to in
    let new_to = c.push.new.self in
    let old_from = c.self.inside.from in
    let new_from = c.push-2.new.self in
    let pushed_to : IsPushed BLOCK_LIMIT arcs other (number_of other.to) old_to.last old_to.before.items new_to.last new_to.before.items =
    subst (λ (ls : List KnownArc). IsPushed BLOCK_LIMIT ls other (number_of other.to) old_to.last old_to.before.items new_to.last new_to.before.items) c.as_slice-all.ensures.value
    (subst (λ (k : ℕ). IsPushed BLOCK_LIMIT c.as_slice-all.result.now other k old_to.last old_to.before.items new_to.last new_to.before.items) c.number_of.ensures c.push.ensures) in
    let pushed_from : IsPushed BLOCK_LIMIT arcs other (number_of other.from) old_from.last old_from.before.items new_from.last new_from.before.items =
    subst (λ (ls : List KnownArc). IsPushed BLOCK_LIMIT ls other (number_of other.from) old_from.last old_from.before.items new_from.last new_from.before.items) c.as_slice-all.ensures.value
    (subst (λ (k : ℕ). IsPushed BLOCK_LIMIT c.as_slice-all.result.now other k old_from.last old_from.before.items new_from.last new_from.before.items) c.number_of-2.ensures c.push-2.ensures) in (
      subst (λ (ls : List KnownArc). IsChained BLOCK_LIMIT Forward ls new_to.last new_to.before.items) (sym c.push-3.ensures.items) (chained-push BLOCK_LIMIT Forward arcs old_to.last old_to.before.items new_to.last new_to.before.items other to pushed_to),
      subst (λ (ls : List KnownArc). IsChained BLOCK_LIMIT Backward ls new_from.last new_from.before.items) (sym c.push-3.ensures.items) (chained-push BLOCK_LIMIT Backward arcs old_from.last old_from.before.items new_from.last new_from.before.items other from pushed_from),
    )
