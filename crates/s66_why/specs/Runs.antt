-- Used by contracts within the crate alone: the letters of a row as runs of equal ones.
use Rattle.std.specs.Prelude.{ℕ, ◌+◌, ◌-◌, ◌^◌, ◌≤◌, ◌<◌, if◌then◌else◌, nat_lt}
use Rattle.s66_why.specs.declared.activity.Activity.{Activity}
use Rattle.s66_why.specs.declared.activity.TheConstants.{ISSUES, WAITS, WORKS, WAITS_FOR_READERS, IDLE}

-- this letter in each minor cycle before the end, and from there on the others
abbrev pub until : ℕ → ℕ → (ℕ → ℕ) → ℕ → ℕ
until end letter others cycle = if nat_lt cycle end then letter else others cycle

abbrev pub runs : Activity → ℕ → ℕ
runs a =
    until a.issue IDLE
    (until (a.issue + 1) ISSUES
    (until a.start WAITS
    (until a.finish WORKS
    (until a.done WAITS_FOR_READERS (λ cycle. IDLE)))))

-- the times that an activity of a timed order has
abbrev pub IsInOrder : Activity → Type 0
IsInOrder a = (a.issue < 2 ^ 64 - 1) × (a.issue ≤ a.start) × (a.start ≤ a.finish)
