use Rattle.s66_time.specs.{point_of_tick}
use Rattle.s66_time.proofs.ClockPoints.{pushed-words}
use Rattle.s66_time.proofs.WorkOfKinds.{worked-few}
use Rattle.s66_time.proofs.words.Words.push.Goals as goal

pub take-requires-clause-worked : goal.take-requires-clause-worked
take-requires-clause-worked c = worked-few c.args.profile.now c.args.self.now c.args.row.now.kind c.requires.follows

pub returns-clause-words : goal.returns-clause-words
returns-clause-words c = λ s is turn.
    let p = c.args.profile.now in
    let q = point_of_tick c.args.number c.args.row.now c.tick_among-tick.result in
    pushed-words p s c.args.self.now c.take.new.self c.args.row.now c.args.number c.tick_among-tick.result.unit q c.tick_among-tick.ensures.good is c.tick_among-tick.ensures.soonest (c.tick_among-tick.ensures.value s c.args.number is turn) c.take.ensures.takes
