use Rattle.std.proofs.Common.{ℕ, ◌≡◌, true, List, [], None}
use Rattle.s66_model.specs.{Problem}
use Rattle.s66_moments.specs.{FactStep, Fact, facts_after, Premises, premises_first, premises_after, are_steps_taken, shown_by_all}
use Rattle.s66_moments.proofs.KnownLines.{IsSound, arcs-steps, arcs-own, arcs-rise, next-too_late, turned-too_late, span-tail}
use Rattle.s66_moments.proofs.LoadLeaves.{loaded-closed}
use Rattle.s66_moments.proofs.Turns.{turn-comes}
use Rattle.s66_moments.proofs.SupposedLines.{Stands, after-stands, closed-sound}
use Rattle.s66_moments.proofs.suppositions.supposition_law.Goals as goal

abbrev facts : Problem → List FactStep → List Fact
facts b steps = facts_after [] (shown_by_all b (premises_first b) steps)

abbrev after : Problem → List FactStep → Premises
after b steps = premises_after (premises_first b) steps

stands : (b : Problem) (bound : ℕ) (steps : List FactStep) → are_steps_taken b bound (premises_first b) steps ≡ true → Stands b bound (facts b steps) (after b steps)
stands b bound steps taken = (after-stands b bound steps taken).1

sound : (b : Problem) (bound : ℕ) (steps : List FactStep) → are_steps_taken b bound (premises_first b) steps ≡ true → (after b steps).supposed ≡ None → IsSound b (facts b steps) (after b steps).known
sound b bound steps taken none = closed-sound b bound (facts b steps) (after b steps) (stands b bound steps taken) none

pub returns : goal.returns
returns c = record {
  founded = λ b bound steps taken. (after-stands b bound steps taken).0;
  transitive = λ b bound steps taken. (stands b bound steps taken).sound.transitive;
  no_ring = λ b bound steps taken. (stands b bound steps taken).sound.no_ring;
  rising = λ b bound steps taken. (let all = stands b bound steps taken in arcs-rise b all.facts (after b steps).known all.sound);
  own = λ b bound steps taken. (let all = stands b bound steps taken in arcs-own b all.facts (after b steps).known all.sound);
  tails = λ b bound steps e taken is. (let all = stands b bound steps taken in span-tail b all.facts (after b steps).known all.sound e is);
  known = λ b bound steps taken none. (sound b bound steps taken none).is_known;
  steps = λ b bound steps taken none. arcs-steps b (facts b steps) (after b steps).known (sound b bound steps taken none);
  next = λ b bound steps prefix n taken none remains le. next-too_late b (facts b steps) (after b steps).known (sound b bound steps taken none) bound prefix n remains le;
  turned = λ b bound steps prefix m n taken none turned. turned-too_late b (facts b steps) (after b steps).known (sound b bound steps taken none) bound prefix m n turned;
  loaded = λ b bound steps prefix after2 numbers taken none loaded. loaded-closed b (facts b steps) (after b steps).known (sound b bound steps taken none) prefix bound after2 numbers loaded;
  no_sooner = λ b bound steps prefix n taken none left. turn-comes b (facts b steps) (after b steps).known (sound b bound steps taken none).is_known bound prefix n left;
}
