use Rattle.std.proofs.Common.{ℕ, ◌≡◌, ◌<◌, ◌∙◌, List, [], ◌∷◌, length, refl, sym, arith, inl, true≢false}
use Rattle.s66_isa.specs.{has, numbers_in}
use Rattle.s66_isa.proofs.Lists.{among-has}
use Rattle.s66_test_search.proofs.walk.undo_last.Goals as goal

some-there : (xs ys : List ℕ) → ((m : ℕ) → has m xs ≡ has m ys) → 0 < length xs → 0 < length ys
some-there [] ys same some = absurd (omega (arith, some))
some-there (x ∷ xs) [] same some = absurd (true≢false (sym (among-has x (x ∷ xs) (inl refl)) ∙ same x))
some-there (x ∷ xs) (y ∷ ys) same some = omega arith

pub undo-requires : goal.undo-requires
undo-requires c =
    some-there (numbers_in c.pushed.result) c.args.clock.now.numbers c.pushed.ensures.value (omega (arith, c.count-is_pushed.ensures, c.if-is_pushed.true))
