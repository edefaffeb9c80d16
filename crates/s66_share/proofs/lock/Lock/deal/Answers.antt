use Rattle.std.proofs.Common.{rules, ap}
use Rattle.s66_share.proofs.Turns.{deals}
use Rattle.s66_share.proofs.Dealt.{deals_first, founder_left}
use Rattle.s66_share.proofs.lock.Lock.deal.Goals as goal

pub split_seat-requires : goal.split_seat-requires
split_seat-requires g c = (c.requires.here, search rules, deals _ _ _ _ (ap (λ m. m.0.stage) c.requires.idle))

pub returns-clause-rest : goal.returns-clause-rest
returns-clause-rest g c = founder_left _ _ c.requires.idle c.split_seat.ensures.2

pub returns-clause-dealt : goal.returns-clause-dealt
returns-clause-dealt g c = deals_first c.split_seat.result _ c.requires.some_book c.split_seat.ensures.4
