-- To be believed: what is shown of a block beside its source order.
use Rattle.std.specs.Prelude.{ℕ, ◌≡◌, List, [], ◌∷◌, ⊤}
use Rattle.s66_line.specs.{Block, instrs_of}
use Rattle.s66_time.specs.Ordered.{Ordered}

-- the name by which it is entered, empty if there is none; an order, what every order takes at least, and sentences that say why no
-- order is faster; none if they aren't shown
pub record FoundOrder : Type 0 where
  pub entry : List ℕ
  pub order : Ordered
  pub bound : ℕ
  pub reasons : List ℕ

-- one for each block, with an order of it
abbrev pub AreOf : List Block → List FoundOrder → Type 0
AreOf [] [] = ⊤
AreOf [] (f ∷ fs) = ⊥
AreOf (b ∷ bs) [] = ⊥
AreOf (b ∷ bs) (f ∷ fs) = (f.order.block ≡ instrs_of b) × AreOf bs fs
