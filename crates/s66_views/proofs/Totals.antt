-- The last row of the list of blocks has the sums of all rows.
use Rattle.std.proofs.Common.{ℕ, List, ◌≡◌, refl}
use Rattle.s66_isa.specs.{tally, weigh}
use Rattle.s66_views.specs.{Summary, is_best, total_of_all, total_row}

pub total-is : (bs : List Summary) (count source time best : ℕ) → count ≡ weigh (λ (b : Summary). b.count) bs → source ≡ weigh (λ (b : Summary). b.source) bs →
    time ≡ weigh (λ (b : Summary). b.time) bs → best ≡ tally is_best bs → total_row count source time best ≡ total_of_all bs
total-is bs count source time best is_count is_source is_time is_best = rw (is_count, is_source, is_time, is_best) refl
