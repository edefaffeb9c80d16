-- Used by contracts: the prefixes that a walk over a tree in preorder has still to reach, by the prefix at which it is.
use Rattle.std.specs.Prelude.{ℕ, suc, ◌-◌, ◌≡◌, Bool, true, false, List, [], ◌∷◌, ◌++◌, Option, None, Some, length, map, filter}
use Rattle.s66_isa.specs.{Instr, rising}
use Rattle.s66_model.specs.LegalOrder.{is_ready}

-- the ready numbers above n, rising
abbrev pub ready_above : List Instr → List ℕ → ℕ → List ℕ
ready_above block prefix n = filter (is_ready block prefix) (rising (length block - n) (suc n))

-- the least ready number above n; none only if there is none
abbrev pub IsNextReady : List Instr → List ℕ → ℕ → Option ℕ → Type 0
IsNextReady block prefix n None = ready_above block prefix n ≡ []
IsNextReady block prefix n (Some m) = ready_above block prefix n ≡ m ∷ ready_above block prefix m

-- the prefix with each of these numbers after it
abbrev pub children : List ℕ → List ℕ → List (List ℕ)
children prefix numbers = map (λ n. prefix ++ n ∷ []) numbers

-- if each prefix is split into all ready numbers: at each place of the path after the prefix, from the last place on, the ready
-- numbers above the one there
abbrev pub later : List Instr → List ℕ → List ℕ → List (List ℕ)
later block prefix [] = []
later block prefix (n ∷ path) = later block (prefix ++ n ∷ []) path ++ children prefix (ready_above block prefix n)

-- what is to come if the walk goes on with this prefix, and if it has ended
abbrev pub coming : List Instr → Bool → List ℕ → List (List ℕ)
coming block true prefix = prefix ∷ later block [] prefix
coming block false prefix = []
