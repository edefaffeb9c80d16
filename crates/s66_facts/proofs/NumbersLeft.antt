-- The numbers of a block that are left, and whether one of them passes a test.
use Rattle.std.proofs.Common.{ℕ, ◌+◌, ◌-◌, ◌≡◌, ◌<◌, ◌∙◌, Bool, true, false, refl, ap}
use Rattle.s66_isa.specs.{some_of, rising}
use Rattle.s66_isa.proofs.Lists.{rising-next}

pub some-here : (test : ℕ → Bool) (n i : ℕ) → i < n → test (i + 1) ≡ true → some_of test (rising (n - i) (i + 1)) ≡ true
some-here test n i lt is = ap (some_of test) (rising-next n i lt) ∙ rw is refl

pub some-later : (test : ℕ → Bool) (n i : ℕ) → i < n → test (i + 1) ≡ false → some_of test (rising (n - i) (i + 1)) ≡ some_of test (rising (n - (i + 1)) (i + 1 + 1))
some-later test n i lt off = ap (some_of test) (rising-next n i lt) ∙ rw off refl
