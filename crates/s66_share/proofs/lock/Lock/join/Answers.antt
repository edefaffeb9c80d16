use Rattle.std.proofs.Common.{rules, ap}
use Rattle.s66_share.proofs.Turns.{merges}
use Rattle.s66_share.proofs.lock.Lock.join.Goals as goal

pub join_seat-requires : goal.join_seat-requires
join_seat-requires g c =
    (c.requires.here.0, c.requires.here.1, ap (λ m. m.1) c.requires.idle.1, search rules, merges _ _ _ _ _ _ (ap (λ m. m.0.stage) c.requires.idle.0) (ap (λ m. m.0.stage) c.requires.idle.1))
