use Rattle.std.proofs.Common.{rules}
use Rattle.s66_share.proofs.Turns.{gives_read}
use Rattle.s66_share.proofs.lock.Lock.give_read.Goals as goal

pub store-requires : goal.store-requires
store-requires g c = (search rules, search rules, gives_read _ _ _ _ _ _ _ c.args.self.now.one_slot c.exchange.ensures.3 c.requires.holding c.requires.agrees c.requires.follows)
