use Rattle.std.proofs.Common.{[], refl}
use Rattle.s66_moments.specs.{facts_after, premises_first, premises_after, shown_by_all}
use Rattle.s66_moments.proofs.SupposedLines.{after-stands, closed-sound}
use Rattle.s66_checker.proofs.DominanceTests.{written-Decides, clamped-Decides, document-digits}
use Rattle.s66_checker.proofs.InUseTests.{in_use-shown, clamped-in_use}
use Rattle.s66_checker.proofs.laws.dominating_law.Goals as goal

pub returns : goal.returns
returns c = record {
  written = written-Decides;
  clamped = clamped-Decides;
  in_use = λ b bound steps name at taken closed.
      let facts = facts_after [] (shown_by_all b (premises_first b) steps) in
      let premises = premises_after (premises_first b) steps in
      in_use-shown b bound premises.known name at facts (closed-sound b bound facts premises (after-stands b bound steps taken).1 closed).is_known;
  clamped_in_use = clamped-in_use;
  none_named = λ b name at. refl;
  digits = document-digits;
}
