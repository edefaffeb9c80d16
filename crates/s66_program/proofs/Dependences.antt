-- The pairs that depend, as `deps` counts them by the lists of each instruction.
use Rattle.std.proofs.Common.{ℕ, ◌+◌, ◌<◌, ◌≡◌, List, length, drop, get_or, ap}
use Rattle.std.proofs.lemmas.List.{drop_more}
use Rattle.s66_isa.specs.{weigh}

pub weigh-drop : {X : Type 0} (f : X → ℕ) (xs : List X) (i : ℕ) (d : X) → i < length xs → weigh f (drop i xs) ≡ f (get_or xs i d) + weigh f (drop (i + 1) xs)
weigh-drop f xs i d lt = ap (weigh f) (drop_more xs i d lt)
