use Rattle.std.proofs.Common.{◌≡◌, reverse, drop}
use Rattle.s66_isa.specs.{every, copies_of}
use Rattle.s66_model.specs.{free_times}
use Rattle.s66_checker.specs.{are_places_no_later, are_units_no_later}
use Rattle.s66_checker.proofs.replay.dominance.are_all_units_no_later.Given as goal

-- all depends on the kinds that are left
abbrev pub invariant-loop-kind : goal.invariant-loop-kind
invariant-loop-kind l =
    every (λ kind. are_places_no_later (copies_of l.profile kind) l.clamp (free_times kind (reverse l.own)) (free_times kind (reverse l.other))) (drop l.kind-index l.kind-items) ≡ are_units_no_later l.profile l.clamp (reverse l.own) (reverse l.other)
