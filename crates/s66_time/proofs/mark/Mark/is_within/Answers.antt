use Rattle.std.proofs.Common.{rules, arith, IsTrue}
use Rattle.s66_model.specs.{Clamp}
use Rattle.s66_time.proofs.MarksWithin.{marks-no_later, no_later-done, no_later-read, no_later-rest}
use Rattle.s66_time.proofs.mark.Mark.is_within.Goals as goal

pub returns-then-not-are_no_later : goal.returns-then-not-are_no_later
returns-then-not-are_no_later c = λ b other prefix of_other of_prefix.
    let clamp : Clamp = record { readers = c.args.readers; others = c.args.others } in (
      λ f. absurd (search rules),
      λ h. (let yes : IsTrue c.are_no_later.result = c.are_no_later.ensures.1 (no_later-done b clamp other prefix c.args.self.now c.args.other.now of_other of_prefix h) in search rules),
    )

pub returns-then-not-are_no_later-2 : goal.returns-then-not-are_no_later-2
returns-then-not-are_no_later-2 c = λ b other prefix of_other of_prefix.
    let clamp : Clamp = record { readers = c.args.readers; others = c.args.others } in (
      λ f. absurd (search rules),
      λ h. (let yes : IsTrue c.are_no_later-2.result = c.are_no_later-2.ensures.1 (no_later-rest b clamp other prefix c.args.self.now c.args.other.now of_other of_prefix h) in search rules),
    )

pub returns : goal.returns
returns c = λ b other prefix of_other of_prefix.
    let clamp : Clamp = record { readers = c.args.readers; others = c.args.others } in (
      λ yes. marks-no_later b clamp other prefix c.args.self.now c.args.other.now of_other of_prefix (omega (arith, c.if-self-other.false)) (omega (arith, c.if-self-other-2.false)) (c.are_no_later.ensures.0 (search rules)) (c.are_no_later-2.ensures.0 (search rules)) (c.are_no_later-3.ensures.0 yes),
      λ h. c.are_no_later-3.ensures.1 (no_later-read b clamp other prefix c.args.self.now c.args.other.now of_other of_prefix h),
    )
