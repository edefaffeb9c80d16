-- Words in which clap finds a fault give no command, but its usage (`command_of`).
use Rattle.std.proofs.Common.{◌≡◌, inl, inr, true, refl, subst, List}
use Rattle.clap.specs.Words.{App, HasKind, Text, fault_of, is_simple_and_free, kind_of}
use Rattle.clap.specs.declared.error.Error.{Error}
use Rattle.s66_command.specs.{IsUsageOf, Refuses, s66_app, Bad, Help, OutOfMemory}
use Rattle.s66_command.specs.declared.usage.Usage.{Usage}

refused-by : (usage : Usage) (e : Error) (words : List Text) → HasKind (fault_of s66_app words) e → IsUsageOf (kind_of e) usage → Refuses words usage
refused-by (Help text) e words (inl memory) (inl help) = cc
refused-by (Help text) e words (inl memory) (inr version) = cc
refused-by (Help text) e words (inr among) is = (kind_of e, among, is)
refused-by (Bad text) e words (inl memory) is = absurd (is.1 memory)
refused-by (Bad text) e words (inr among) is = inl (kind_of e, among, is.0)
refused-by OutOfMemory e words has is = tt

pub refused : (usage : Usage) (e : Error) (a : App) (words : List Text) → a ≡ s66_app → (is_simple_and_free a ≡ true → HasKind (fault_of a words) e) →
    IsUsageOf (kind_of e) usage → Refuses words usage
refused usage e a words is kinds given =
    refused-by usage e words (subst (λ (b : App). is_simple_and_free b ≡ true → HasKind (fault_of b words) e) is kinds refl) given
