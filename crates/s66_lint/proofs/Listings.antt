-- Findings stay in order with those of the next lines.
use Rattle.std.proofs.Common.{◌≡◌, ◌≤◌, ◌++◌, ◌∷◌, ℕ, true, List, [], nat_le, ◌&&◌, refl, arith}
use Rattle.std.proofs.lemmas.Bool.{and_parts, and_from}
use Rattle.s66_lint.specs.{is_in_order, Finding}

-- up to a later line
pub order-later : (first last more : ℕ) (all : List Finding) → last ≤ more → is_in_order first last all ≡ true → is_in_order first more all ≡ true
order-later first last more [] below h = refl
order-later first last more (f ∷ all) below h =
    let (here, rest) = and_parts (nat_le first f.number && nat_le f.number last) (is_in_order f.number last all) h in
    let (begins, ends) = and_parts (nat_le first f.number) (nat_le f.number last) here in
    let ends_later : nat_le f.number more ≡ true = grind (arith, ends, below) in
    and_from (nat_le first f.number && nat_le f.number more) (is_in_order f.number more all)
    (and_from (nat_le first f.number) (nat_le f.number more) begins ends_later) (order-later f.number last more all below rest)

-- with one finding more, of the last line
pub order-with : (first last : ℕ) (all : List Finding) (f : Finding) → first ≤ last → f.number ≡ last → is_in_order first last all ≡ true → is_in_order first last (all ++ f ∷ []) ≡ true
order-with first last [] f below same h = grind (arith, below, same)
order-with first last (g ∷ all) f below same h =
    let (here, rest) = and_parts (nat_le first g.number && nat_le g.number last) (is_in_order g.number last all) h in
    let (begins, ends) = and_parts (nat_le first g.number) (nat_le g.number last) here in
    let within : g.number ≤ last = grind (arith, ends) in
    and_from (nat_le first g.number && nat_le g.number last) (is_in_order g.number last (all ++ f ∷ []))
    here (order-with g.number last all f within same rest)
