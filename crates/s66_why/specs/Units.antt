-- To be believed: which unit of its kind each instruction of a timed order takes.
use Rattle.std.specs.Prelude.{ℕ, if◌then◌else◌, List, [], ◌∷◌, filter, map, nat_le, reverse}
use Rattle.s66_isa.specs.{Kind, latency_of, same_kind}
use Rattle.s66_model.specs.{Point, latest_result, points_of}
use Rattle.s66_time.specs.TimedOrder.{TimedOrder}
use Rattle.s66_why.specs.declared.work.Work.{Work}

-- the times of an instruction and of its unit
abbrev pub work : Point → Work
work p =
    record {
      number = p.number;
      kind = p.row.kind;
      issue = p.issue;
      start = p.start;
      latency = latency_of p.row;
      done = latest_result p;
      free = p.free;
      hold = p.row.hold;
    }

-- in the order in which they issue
abbrev pub works : TimedOrder → List Work
works t = map work (reverse (points_of t.problem t.numbers))

abbrev pub works_of_kind : Kind → List Work → List Work
works_of_kind kind ws = filter (λ (w : Work). same_kind w.kind kind) ws

-- what a unit does that is free at t: it takes the first instruction that issues then or later, and so on
abbrev pub taken_from : ℕ → List Work → List Work
taken_from t [] = []
taken_from t (w ∷ ws) = if nat_le t w.issue then w ∷ taken_from w.free ws else taken_from t ws

-- and what is left to other units
abbrev pub left_from : ℕ → List Work → List Work
left_from t [] = []
left_from t (w ∷ ws) = if nat_le t w.issue then left_from w.free ws else w ∷ left_from t ws
