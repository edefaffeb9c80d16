use Rattle.std.proofs.Common.{ap, Option, List, ℕ, Bor, option_map}
use Rattle.s66_cert.proofs.Spelled.{refused}
use Rattle.s66_cert.proofs.parse.instruction_line.Goals as goal

pub returns-in_default : goal.returns-in_default
returns-in_default c =
    refused _ c.in_ok-bytes.bytes.now (ap (λ (o : Option (Bor (List ℕ))). option_map (λ (r : Bor (List ℕ)). r.now) o) c.in_ok-bytes.was) c.in_default.ensures.none
