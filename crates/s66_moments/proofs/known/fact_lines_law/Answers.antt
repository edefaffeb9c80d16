use Rattle.std.proofs.Common.{ℕ, ◌≡◌, true, List, [], map}
use Rattle.s66_model.specs.{Problem}
use Rattle.s66_moments.specs.{FactLine, Fact, facts_after, Known, line_of, known_first, known_after, are_taken}
use Rattle.s66_moments.proofs.KnownLines.{IsSound, after-sound, arcs-steps, arcs-own, arcs-rise, next-too_late, turned-too_late, span-tail}
use Rattle.s66_moments.proofs.LoadLeaves.{loaded-closed}
use Rattle.s66_moments.proofs.Turns.{turn-comes}
use Rattle.s66_moments.proofs.known.fact_lines_law.Goals as goal

abbrev facts : Problem → List FactLine → List Fact
facts b lines = facts_after [] (map (line_of b) lines)

abbrev known : Problem → List FactLine → Known
known b lines = known_after (known_first b) lines

sound : (b : Problem) (bound : ℕ) (lines : List FactLine) → are_taken b bound (known_first b) lines ≡ true → IsSound b (facts b lines) (known b lines)
sound b bound lines taken = (after-sound b bound lines taken).1

pub returns : goal.returns
returns c = record {
  founded = λ b bound lines taken. (after-sound b bound lines taken).0;
  known = λ b bound lines taken. (sound b bound lines taken).is_known;
  transitive = λ b bound lines taken. (sound b bound lines taken).transitive;
  no_ring = λ b bound lines taken. (sound b bound lines taken).no_ring;
  steps = λ b bound lines taken. arcs-steps b (facts b lines) (known b lines) (sound b bound lines taken);
  rising = λ b bound lines taken. arcs-rise b (facts b lines) (known b lines) (sound b bound lines taken);
  own = λ b bound lines taken. arcs-own b (facts b lines) (known b lines) (sound b bound lines taken);
  tails = λ b bound lines e taken is. span-tail b (facts b lines) (known b lines) (sound b bound lines taken) e is;
  next = λ b bound lines prefix n taken remains le. next-too_late b (facts b lines) (known b lines) (sound b bound lines taken) bound prefix n remains le;
  turned = λ b bound lines prefix m n taken turned. turned-too_late b (facts b lines) (known b lines) (sound b bound lines taken) bound prefix m n turned;
  loaded = λ b bound lines prefix after numbers taken loaded. loaded-closed b (facts b lines) (known b lines) (sound b bound lines taken) prefix bound after numbers loaded;
  no_sooner = λ b bound lines prefix n taken left. turn-comes b (facts b lines) (known b lines) (sound b bound lines taken).is_known bound prefix n left;
}
