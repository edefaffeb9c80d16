use Rattle.std.proofs.Common.{◌≡◌, length, true, subst, arith, leb, le-leb}
use Rattle.std.proofs.lemmas.Bool.{and_from}
use Rattle.s66_facts.specs.{is_in}
use Rattle.s66_facts.proofs.Paired.{ArePaired, pair-is, paired-push}
use Rattle.s66_facts.proofs.pairs.with_pair.Goals as goal

pub loop-position-preserved : goal.loop-position-preserved
loop-position-preserved c =
    let both = paired-push c.args.before.now c.loop-position.all.items c.push.new.self.items c.marks_with_pair-sooner.result c.args.j c.args.k c.loop-position.position c.loop-position.invariant.count c.loop-position.invariant.paired c.marks_with_pair-sooner.ensures c.push.ensures.items in
    record { count = both.0; paired = both.1 }

pub returns-clause-pairs : goal.returns-clause-pairs
returns-clause-pairs c =
    let old = c.args.before.now in
    let new = c.loop-position.all.items in
    let end : c.loop-position.position ≡ length old = omega (arith, c.loop-position-test.false, c.loop-position.auto.position-end) in
    let in_j : is_in old c.args.j ≡ true = and_from (leb 1 c.args.j) (leb c.args.j (length old)) (le-leb 1 c.args.j c.requires.j.0) (le-leb c.args.j (length old) c.requires.j.1) in
    let in_k : is_in old c.args.k ≡ true = and_from (leb 1 c.args.k) (leb c.args.k (length old)) (le-leb 1 c.args.k c.requires.k.0) (le-leb c.args.k (length old) c.requires.k.1) in
    pair-is old new c.args.j c.args.k (subst (λ i. length new ≡ i) end c.loop-position.invariant.count) in_j in_k (subst (λ i. ArePaired old c.args.j c.args.k i new) end c.loop-position.invariant.paired)
