use Rattle.std.proofs.Common.{rules, refl, arith}
use Rattle.s66_share.proofs.Books.{opened-agree}
use Rattle.s66_share.proofs.Turns.{opens, begins_at, began_is, settles_at, settled_is}
use Rattle.s66_share.proofs.lock.Lock.found.Goals as goal

pub vacant-requires : goal.vacant-requires
vacant-requires g c = opens _ _ (omega arith)

pub load-requires : goal.load-requires
load-requires g c = (search rules, search rules, begins_at _ _ _ _ _ _ _ c.in_ok-table.ensures.4)

pub store-requires : goal.store-requires
store-requires g c =
    let began = began_is _ _ _ _ c.in_ok-table.ensures.4 c.load.ensures.2 in
    (search rules, search rules, settles_at _ _ _ _ _ _ _ c.in_ok-table.ensures.1 c.exchange.ensures.3 _ _ began refl (opened-agree (g.S.Summed.summary c.args.value)))

pub returns-clause-books : goal.returns-clause-books
returns-clause-books g c =
    let began = began_is _ _ _ _ c.in_ok-table.ensures.4 c.load.ensures.2 in
    settled_is _ _ _ _ _ _ began c.exchange.ensures.3 c.store.ensures.2
