use Rattle.s66_share.proofs.Turns.{closed_value, closed_once, closed_some}
use Rattle.s66_share.proofs.lock.Lock.close.Goals as goal

pub returns : goal.returns
returns g c = record {
  search = (closed_value _ _ _ _ _ _ c.requires.idle c.requires.every c.close_with-closed.ensures.values.2 _ c.in-Some.ensures.value).0;
  agrees = (closed_value _ _ _ _ _ _ c.requires.idle c.requires.every c.close_with-closed.ensures.values.2 _ c.in-Some.ensures.value).1;
  once = closed_once _ _ _ _ _ _ c.requires.idle c.requires.every c.close_with-closed.ensures.values.2;
}

pub unreachable-requires : goal.unreachable-requires
unreachable-requires g c = closed_some _ _ _ _ _ _ c.requires.idle c.requires.every c.close_with-closed.ensures.values.2 c.in-None.ensures.value
