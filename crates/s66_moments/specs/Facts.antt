-- To be believed: facts of an order, and which facts all legal orders have that take less than a time and have some facts already.
use Rattle.std.specs.Prelude.{ℕ, ◌+◌, ◌*◌, ◌≡◌, ◌≤◌, ◌<◌, true, false, max, List, [], ◌∷◌, ◌++◌, length}
use Rattle.s66_isa.specs.{Kind, least, weigh, has, same_kind}
use Rattle.s66_model.specs.{Problem, row_at, copies, total_of, IsLegal, over}
use Rattle.s66_moments.specs.declared.moment.Stage.TheVariants.{Issue, Free}
use Rattle.s66_moments.specs.declared.moment.Moment.{Moment}
use Rattle.s66_moments.specs.declared.moment.Moment.TheVariants.{At}
use Rattle.s66_moments.specs.Moments.{time_of}

pub data Fact : Type 0 where
  -- the second moment comes so much later than the first at least, less the last number
  Arc : Moment → ℕ → Moment → ℕ → Fact
  -- the first number stands before the second
  Before : ℕ → ℕ → Fact
  -- the order begins with this prefix
  Begins : List ℕ → Fact

abbrev pub IsSo : Problem → List ℕ → Fact → Type 0
IsSo b order (Arc e w f v) = time_of b order e + w ≤ time_of b order f + v
IsSo b order (Before m n) = (front rest : List ℕ) × (order ≡ front ++ n ∷ rest) × (has m front ≡ true)
IsSo b order (Begins prefix) = (rest : List ℕ) × (order ≡ prefix ++ rest)

abbrev pub AreSo : Problem → List ℕ → List Fact → Type 0
AreSo b order [] = Unit {0}
AreSo b order (fact ∷ facts) = IsSo b order fact × AreSo b order facts

-- every legal order that takes less than low and has the known facts has this one
abbrev pub Follows : Problem → ℕ → List Fact → Fact → Type 0
Follows b low known fact = (order : List ℕ) → IsLegal b.block order → total_of b order < low → AreSo b order known → IsSo b order fact

-- no legal order that takes less than low has the known facts
abbrev pub NoOrder : Problem → ℕ → List Fact → Type 0
NoOrder b low known = (order : List ℕ) → IsLegal b.block order → total_of b order < low → AreSo b order known → ⊥

abbrev pub IsNumber : Problem → ℕ → Type 0
IsNumber b n = (1 ≤ n) × (n ≤ length b.block)

-- both need the only unit of their kind
abbrev pub IsOnlyUnit : Problem → ℕ → ℕ → Type 0
IsOnlyUnit b m n = (same_kind (row_at b m).kind (row_at b n).kind ≡ true) × (copies b (row_at b n).kind ≡ 1)

-- THE LOAD OF UNITS BETWEEN TWO MOMENTS

-- the unit of an instruction works for so long, from a moment and so much more on
pub record Work : Type 0 where
  pub number : ℕ
  pub amount : ℕ
  pub from : Moment
  pub more : ℕ

-- For how long so many units have work if they share these amounts, each of which is one unit's own: their sum over the units, rounded
-- up. And one unit has as many of them at least as there are over the units, rounded up, and each is at least the least.
abbrev pub shared_time : {X : Type 0} → (amount : X → ℕ) → List X → (units : ℕ) → ℕ
shared_time amount xs units = max (over (weigh amount xs) units) (over (length xs) units * least amount xs)

-- all works, shared by the copies of the kind
abbrev pub load_time : Problem → Kind → List Work → ℕ
load_time b kind works = shared_time (λ (u : Work). u.amount) works (copies b kind)

-- none of the numbers is there twice
abbrev pub AreOnce : List ℕ → Type 0
AreOnce [] = Unit {0}
AreOnce (n ∷ ns) = (has n ns ≡ false) × AreOnce ns

-- the time from `after` behind one moment to `left` before another, if `less` is added to that one
pub record Window : Type 0 where
  pub from : Moment
  pub after : ℕ
  pub to : Moment
  pub left : ℕ
  pub less : ℕ

-- A unit of the kind does the work in the window: no sooner than its instruction issues, and until it is free at the latest.
pub record IsWithin (b : Problem) (low : ℕ) (known : List Fact) (kind : Kind) (window : Window) (u : Work) : Type 0 where
  pub is_number : IsNumber b u.number
  pub is_kind : same_kind (row_at b u.number).kind kind ≡ true
  pub issued : Follows b low known (Arc (At u.number Issue) 0 u.from u.more)
  pub begun : Follows b low known (Arc window.from window.after u.from u.more)
  pub held : Follows b low known (Arc u.from (u.more + u.amount) (At u.number Free) 0)
  pub ended : Follows b low known (Arc u.from (u.more + u.amount + window.left) window.to window.less)
