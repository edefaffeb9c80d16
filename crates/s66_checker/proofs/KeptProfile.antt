-- A document's profile has the numbers of one.
use Rattle.std.proofs.Common.{◌≤◌, ℕ, List, [], ◌∷◌, All}
use Rattle.std.proofs.lemmas.List.Elements.{All-cons, All-nil}
use Rattle.s66_isa.specs.{IsProfile, BLOCK_LIMIT, PROFILE_LIMIT}
use Rattle.s66_cert.specs.{Document, AreIn, IsDocument}

all-in : (low high : ℕ) (ns : List ℕ) → AreIn low high ns → All (λ n. (low ≤ n) × (n ≤ high)) ns
all-in low high [] are = All-nil (λ n. (low ≤ n) × (n ≤ high))
all-in low high (n ∷ ns) are = All-cons (λ m. (low ≤ m) × (m ≤ high)) n ns (are.0, are.1) (all-in low high ns are.2)

pub profile-kept : (d : Document) → IsDocument BLOCK_LIMIT d → IsProfile d.profile
profile-kept d is = (is.profile.0, all-in 1 PROFILE_LIMIT d.profile is.profile.1)
