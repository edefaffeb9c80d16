use Rattle.std.proofs.Common.{◌≡◌, ◌-◌, [], arith, get_or}
use Rattle.s66_ledger.specs.{prefixes, no_stored}
use Rattle.s66_ledger.proofs.NodePrefixes.{prefix-last}
use Rattle.s66_ledger.proofs.ParentPaths.{turn-none, turn-not, turn-last}
use Rattle.s66_ledger.proofs.path.is_over.Goals as goal

pub returns-then-rest-eq0 : goal.returns-then-rest-eq0
returns-then-rest-eq0 c =
    let l = c.loop-i in
    let (above, is) = prefix-last c.args.nodes.now l.i no_stored c.loop-i-test.true l.invariant.within in
    turn-none (get_or (prefixes c.args.nodes.now) l.i []) above c.args.prefix.now _ l.rest (get_or (prefixes c.args.nodes.now) c.args.node [] ≡ c.args.prefix.now) l.invariant.so is c.if-rest-eq0.true

pub returns-then-nodes-i : goal.returns-then-nodes-i
returns-then-nodes-i c =
    let l = c.loop-i in
    let (above, is) = prefix-last c.args.nodes.now l.i _ c.loop-i-test.true l.invariant.within in
    turn-not (get_or (prefixes c.args.nodes.now) l.i []) above c.args.prefix.now _ l.rest (get_or (prefixes c.args.nodes.now) c.args.node [] ≡ c.args.prefix.now) l.invariant.so is (l.rest - 1) _ (omega (arith, c.if-rest-eq0.false)) (omega (arith, c.if-rest-eq0.false, l.invariant.rest)) c.if-nodes-i.true

pub returns : goal.returns
returns c =
    let l = c.loop-i in
    turn-last c.args.nodes.now l.i l.rest c.args.prefix.now (get_or (prefixes c.args.nodes.now) c.args.node [] ≡ c.args.prefix.now) l.invariant.so (omega (arith, c.requires)) (omega (arith, c.loop-i-test.false)) l.invariant.rest
