-- How a prefix is left that isn't split, by its floor.
use Rattle.std.proofs.Common.{ℕ, ◌≤◌, ◌≡◌, ◌≢◌, Bool, true, false, nat_lt, ◌&&◌, List, [], ◌∷◌, ◌++◌, length, refl, sym, ap, arith, inl, inr, ◌∙◌, subst, Option, append-nil}
use Rattle.std.proofs.lemmas.Bool.{cases_Bool}
use Rattle.s66_isa.specs.{every}
use Rattle.s66_model.specs.{Rule, NoneNamed, Problem, IsBeginning, IsComplete, IsLegal, Leaf, Whole, Chain, Load, Parcels, value, longest_chain, first_greatest, after_chain, floor, Terminal, Carries}
use Rattle.s66_model.specs.{Frontier, Passed, TerminalHolds, IsNamedIn, TerminalHoldsWhile, whole_at, Tree}
use Rattle.s66_model.proofs.LegalOrders.{order-legal}
use Rattle.s66_model.proofs.Floors.{floor-part, floor-whole}
use Rattle.s66_node.specs.{WholeOrder, Span, span, IsLeft, IsFound, IsLeast, terminal_by, Unsplit}
use Rattle.s66_node.specs.declared.grow.Unsplit.TheVariants as unsplit

-- THE FLOOR OF AN INCOMPLETE PREFIX is no whole order

abbrev is_bound : Leaf → Bool
is_bound Whole = false
is_bound (Chain numbers) = true
is_bound (Load kind) = true
is_bound Parcels = true

bound-none : (at : List ℕ) (leaf : Leaf) → is_bound leaf ≡ true → whole_at at (Carries leaf) ≡ []
bound-none at Whole h = absurd cc
bound-none at (Chain numbers) h = refl
bound-none at (Load kind) h = refl
bound-none at Parcels h = refl

and-parts : (x y : Bool) → (x && y) ≡ true → (x ≡ true) × (y ≡ true)
and-parts true y h = (refl, h)
and-parts false y h = absurd cc

first-bound : (f : Leaf → ℕ) (leaf : Leaf) (others : List Leaf) → is_bound leaf ≡ true → every is_bound others ≡ true → is_bound (first_greatest f leaf others) ≡ true
first-bound f leaf [] h each = h
first-bound f leaf (other ∷ others) h each =
    let parts = and-parts (is_bound other) (every is_bound others) each in
    elim (cases_Bool (nat_lt (f leaf) (f other))) [
      | inl is ↦ rw is (first-bound f other others parts.0 parts.1)
      | inr is ↦ rw is (first-bound f leaf others h parts.1)
    ]

part-none : (b : Problem) (at : List ℕ) → length at ≢ length b.block → whole_at at (Carries (floor b at)) ≡ []
part-none b at ne =
    bound-none at (floor b at) (ap is_bound (floor-part b at ne) ∙ first-bound (value b at) (Chain (longest_chain b at)) after_chain refl refl)

-- WHOLE ORDERS

-- none if it isn't a complete prefix that is a leaf
pub found-none : (rule : Rule) (b : Problem) (best : Span) (at : List ℕ) (known : List (List ℕ)) (u : Unsplit) → IsFound rule b best at known u → ((v : ℕ) → u ≡ unsplit.Leaf v → length at ≢ length b.block) → whole_at at (terminal_by b at u) ≡ []
found-none rule b best at known (unsplit.Leaf v) h part = part-none b at (part v refl)
found-none rule b best at known (unsplit.Open v) h part = refl
found-none rule b best at known (unsplit.Dominated v name) h part = refl

pub whole-order : (b : Problem) (at : List ℕ) → IsComplete b.block at → whole_at at (Carries (floor b at)) ≡ at ∷ []
whole-order b at h = ap (λ leaf. whole_at at (Carries leaf)) (floor-whole b at h)

pub whole-legal : (b : Problem) (at : List ℕ) → IsBeginning b.block at → IsComplete b.block at → IsLegal b.block at
whole-legal b at begins h = order-legal b.block at (begins, h)

pub least-same : (b : Problem) (found orders : List (List ℕ)) (least : Option WholeOrder) → orders ≡ [] → IsLeast b found least → IsLeast b (found ++ orders) least
least-same b found orders least none h = subst (λ xs. IsLeast b xs least) (sym (ap (λ xs. found ++ xs) none ∙ append-nil found)) h

-- IN A PIECE over this prefix, with this tree, if the name is as the rule asks

module _ (rule : Rule) (b : Problem) (prefix : List ℕ) (tree : Tree Terminal) where
  abbrev pub IsNamed : List ℕ → Terminal → Type 0
  IsNamed at terminal = (name : List ℕ) → terminal ≡ Passed name → IsNamedIn rule prefix tree at name

  pub left-holds : (best : Span) (at : List ℕ) (terminal : Terminal) → IsLeft rule b best at terminal × IsNamed at terminal → TerminalHolds rule b prefix tree at terminal
  left-holds best at (Carries leaf) (h, named) = h.0
  left-holds best at Frontier (h, named) = h.0
  left-holds best at (Passed name) (h, named) = (h.1, named name refl)

  pub left-while : (best : Span) (at : List ℕ) (terminal : Terminal) → IsLeft rule b best at terminal × IsNamed at terminal → TerminalHoldsWhile rule b best.high best.low prefix tree at terminal
  left-while best at (Carries leaf) (h, named) = (h.0, elim h.1 [ inl whole ↦ inl whole | inr le ↦ inr (omega (arith, le, ap (value b at) h.0)) ])
  left-while best at Frontier (h, named) = h
  left-while best at (Passed name) (h, named) = ((h.1, named name refl), h.0.1)

pub passed-name : (n name : List ℕ) → Passed n ≡ Passed name → n ≡ name
passed-name n name e = cc

-- WITHOUT NAMES

-- a prefix is left so by any rule
pub left-any : (rule : Rule) (b : Problem) (best : Span) (at : List ℕ) (terminal : Terminal) → IsLeft NoneNamed b best at terminal → IsLeft rule b best at terminal
left-any rule b best at (Carries leaf) h = h
left-any rule b best at Frontier h = h
left-any rule b best at (Passed name) h = absurd h.1

-- and none is dominated
pub left-unnamed : (b : Problem) (best : Span) (at : List ℕ) (terminal : Terminal) (name : List ℕ) → IsLeft NoneNamed b best at terminal → terminal ≡ Passed name → ⊥
left-unnamed b best at terminal name h is = (subst (IsLeft NoneNamed b best at) is h).1

-- WHILE THE BEST TIME FALLS

-- it is left so by wider best times
pub left-wider : (rule : Rule) (b : Problem) (high low more less : ℕ) (at : List ℕ) (terminal : Terminal) → high ≤ more → less ≤ low → IsLeft rule b (span high low) at terminal → IsLeft rule b (span more less) at terminal
left-wider rule b high low more less at (Carries leaf) up down h = (h.0, elim h.1 [ inl whole ↦ inl whole | inr le ↦ inr (omega arith) ])
left-wider rule b high low more less at Frontier up down h = (h.0, omega (arith, h.1))
left-wider rule b high low more less at (Passed name) up down h = ((h.0.0, omega (arith, h.0.1)), h.1)
