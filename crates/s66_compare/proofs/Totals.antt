-- The sums of all rows, as `push_total` writes them, are those of the definition.
use Rattle.std.proofs.Common.{ℕ, List, ◌≡◌, ◌∙◌, ap}
use Rattle.s66_isa.specs.{tally, weigh}
use Rattle.s66_compare.specs.{total_line, total_text, has_new, has_old, is_legal, new_time, old_time, Row}

pub total-same : (rows : List Row) (blocks time new_blocks more legal : ℕ) → blocks ≡ tally has_old rows → time ≡ weigh old_time rows → new_blocks ≡ tally has_new rows → more ≡ weigh new_time rows → legal ≡ tally is_legal rows →
    total_text blocks time new_blocks more legal ≡ total_line rows
total-same rows blocks time new_blocks more legal a b c d e =
    ap (λ n. total_text n time new_blocks more legal) a
    ∙ ap (λ n. total_text (tally has_old rows) n new_blocks more legal) b
    ∙ ap (λ n. total_text (tally has_old rows) (weigh old_time rows) n more legal) c
    ∙ ap (λ n. total_text (tally has_old rows) (weigh old_time rows) (tally has_new rows) n legal) d
    ∙ ap (λ n. total_text (tally has_old rows) (weigh old_time rows) (tally has_new rows) (weigh new_time rows) n) e
