use Rattle.std.proofs.Common.{subst, sym}
use Rattle.s66_answer.specs.{AreKept, bounded_in}
use Rattle.s66_answer.proofs.KeptParts.{kept-each}
use Rattle.s66_answer.proofs.kept.keep_side_by_side.Goals as goal

pub returns : goal.returns
returns g c =
    let s = c.args.searches.now in
    let p = s.profile.now in
    let part = g.K.Keep.part s.what.now s.strategy p in
    let n = s.before in
    let blocks = s.blocks.now in
    let each = c.in_ok-each.each.items in
    let all = c.in_ok-all.all in
    subst (AreKept part s.strategy p n blocks all.parts.items) (sym c.in_ok-all.ensures.bounded)
    (subst (λ xs. AreKept part s.strategy p n blocks xs (bounded_in each)) (sym c.in_ok-all.ensures.parts)
    (kept-each part s.strategy p n blocks each c.in_ok-each.ensures.count c.in_ok-each.ensures.made))
