-- Each result in a row has a short latency, so that times fit into the machine's numbers.
use Rattle.std.proofs.Common.{ℕ, ◌<◌, ◌≤◌, ◌≡◌, List, length, get_or, subst, sym}
use Rattle.s66_isa.specs.{Among, Write}
use Rattle.s66_line.proofs.OperationLaw.{among-at}

pub short-latency : (writes ws : List Write) (i : ℕ) (w : Write) → ws ≡ writes → i < length ws → w ≡ get_or ws i w → ((v : Write) → Among v writes → (1 ≤ v.latency) × (v.latency ≤ 100)) → w.latency ≤ 100
short-latency writes ws i w is lt at short =
    (short w (subst (λ (v : Write). Among v writes) (sym at) (subst (λ (vs : List Write). Among (get_or ws i w) vs) is (among-at ws i w lt)))).1
