-- The rows of the units of a kind, one after the other.
use Rattle.std.proofs.Common.{ℕ, suc, ◌+◌, ◌-◌, ◌<◌, ◌≡◌, ◌∙◌, List, ◌++◌, ap, append_assoc, arith, sym}
use Rattle.s66_isa.specs.{Kind}
use Rattle.s66_why.specs.{Work, copy_rows, unit_row, left_from, taken_from}

pub copy-more : (most i width cycles : ℕ) (kind : Kind) (ws mine rest : List Work) (out mid new : List ℕ) → i < most → mine ≡ taken_from 0 ws → rest ≡ left_from 0 ws →
    mid ++ copy_rows (most - i) (i + 1) width cycles kind ws ≡ out → new ≡ mid ++ unit_row width cycles kind (i + 1) mine → new ++ copy_rows (most - (i + 1)) (i + 1 + 1) width cycles kind rest ≡ out
copy-more most i width cycles kind ws mine rest out mid new lt is_mine is_rest first more =
    let n : most - i ≡ suc (most - (i + 1)) = omega arith in
    let others = copy_rows (most - (i + 1)) (i + 1 + 1) width cycles kind (left_from 0 ws) in
    ap (λ us. new ++ copy_rows (most - (i + 1)) (i + 1 + 1) width cycles kind us) is_rest ∙ ap (λ zs. zs ++ others) (more ∙ ap (λ us. mid ++ unit_row width cycles kind (i + 1) us) is_mine)
    ∙ append_assoc mid (unit_row width cycles kind (i + 1) (taken_from 0 ws)) others ∙ sym (ap (λ k. mid ++ copy_rows k (i + 1) width cycles kind ws) n) ∙ first
