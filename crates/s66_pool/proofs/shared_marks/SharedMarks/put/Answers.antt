use Rattle.s66_pool.proofs.PartSteps.{slot_of, held_at}
use Rattle.s66_pool.proofs.shared_marks.SharedMarks.put.Goals as goal

pub slot_mut-held-requires : goal.slot_mut-held-requires
slot_mut-held-requires g c = (c.take.ensures.0, slot_of _ _ _ c.take.ensures.1)

pub give-requires-clause-has : goal.give-requires-clause-has
give-requires-clause-has g c = (c.take.ensures.0, held_at _ _ _ _ _ c.take.ensures.1 c.slot_mut-held.ensures.value c.put.ensures.same)
