use Rattle.std.proofs.Common.{rules}
use Rattle.s66_share.proofs.Turns.{gives_left}
use Rattle.s66_share.proofs.lock.Lock.give.Goals as goal

pub store-requires : goal.store-requires
store-requires g c = (search rules, search rules, gives_left _ _ _ _ _ _ _ c.args.self.now.one_slot c.exchange.ensures.3 c.requires.holding c.requires.agrees c.requires.follows)
