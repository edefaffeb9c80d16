-- A timed order has as many points as numbers.
use Rattle.std.proofs.Common.{◌≡◌, [], arith, length, reverse}
use Rattle.std.proofs.lemmas.List.{length-reverse}
use Rattle.s66_model.specs.{points_of}
use Rattle.s66_model.proofs.PointTimes.{points_after-length}
use Rattle.s66_time.specs.TimedOrder.{TimedOrder}

pub points_length : (t : TimedOrder) → length (reverse (points_of t.problem t.numbers)) ≡ length t.numbers
points_length t = omega (arith, length-reverse (points_of t.problem t.numbers), points_after-length t.problem [] t.numbers)
