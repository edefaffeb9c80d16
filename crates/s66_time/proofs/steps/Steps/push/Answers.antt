use Rattle.std.proofs.Common.{ap, ◌+◌, ◌≡◌, ◌∙◌, ◌++◌, [], ◌∷◌, length, take, set, List, length-set}
use Rattle.std.proofs.lemmas.List.{take_more_set}
use Rattle.arrayvec.specs.ArrayVec.{with_items}
use Rattle.arrayvec.proofs.ArrayVecLemmas.{items-with_items}
use Rattle.s66_time.specs.{Step}
use Rattle.s66_time.proofs.steps.Steps.push.Goals as goal

pub returns-clause-step : goal.returns-clause-step
returns-clause-step c =
    let count = c.self.inside.count in
    let step : Step = c.push.new.step in
    let places = c.make_room.new.places in
    let slice : List Step = c.deref_mut.result.now in
    let written : take (count + 1) (with_items places (set slice count step)).items ≡ c.args.self.now ++ step ∷ [] =
    ap (take (count + 1)) (items-with_items places (set slice count step) (length-set slice count step ∙ ap length c.deref_mut.ensures.value))
    ∙ ap (λ (steps : List Step). take (count + 1) (set steps count step)) c.deref_mut.ensures.value
    ∙ take_more_set places.items count step c.make_room.ensures.room
    ∙ ap (λ (steps : List Step). steps ++ step ∷ []) (c.make_room.ensures.kept ∙ c.self.view_is) in
    (step, written, c.push.ensures.number, c.push.ensures.back)
