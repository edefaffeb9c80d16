-- What a reader read stays in range, and its lines are those of the text.
use Rattle.std.proofs.Common.{◌≡◌, ◌≤◌, ◌<◌, ◌+◌, ◌-◌, ℕ, suc, false, List, [], ◌∷◌, length, take, drop, get_or, refl, sym, ap, ◌∙◌, arith, eqb, drop-cons, ne_eqb, Result, Ok, Err, OnOk}
use Rattle.s66_isa.specs.{BLOCK_LIMIT}
use Rattle.s66_line.proofs.SignCuts.{one_more}
use Rattle.s66_cert.specs.{IsFine, DocumentLine, IsLineInRange, DocumentState, step_at, step, steps, and_then, whole_lines, last_bytes, Steps, SPLIT_LIMIT, CertError}
use Rattle.s66_cert.proofs.FirstFault.{outcome-at, ok-count}
use Rattle.s66_cert.proofs.Sound.{step-fine}

pub fine-kept : (s new : DocumentState) (result : Result (Unit {0}) CertError) (l : DocumentLine) → IsLineInRange BLOCK_LIMIT l → IsFine SPLIT_LIMIT s → Steps new result (step_at SPLIT_LIMIT s s.place l) → OnOk result (IsFine SPLIT_LIMIT new)
fine-kept s new (Ok u) l is fine made = step-fine SPLIT_LIMIT s new l is fine made
fine-kept s new (Err e) l is fine made = tt

pub count-kept : (s new : DocumentState) (result : Result (Unit {0}) CertError) (l : DocumentLine) → Steps new result (step_at SPLIT_LIMIT s s.place l) → OnOk result (new.count ≡ s.count + 1)
count-kept s new (Ok u) l made = omega (arith, ok-count s new (λ most. step_at most s s.place l) SPLIT_LIMIT (outcome-at s s.place l) made)
count-kept s new (Err e) l made = tt

-- THE LINE THAT IS BEGUN

cut-newline : (line text : List ℕ) (i : ℕ) → i < length text → get_or text i 0 ≡ 10 →
    (whole_lines line (drop i text) ≡ line ∷ whole_lines [] (drop (i + 1) text)) × (last_bytes line (drop i text) ≡ last_bytes [] (drop (i + 1) text))
cut-newline line text i within newline =
    let rest : drop i text ≡ 10 ∷ drop (suc i) text = drop-cons text i 0 within ∙ ap (λ b. b ∷ drop (suc i) text) newline in
    let next : i + 1 ≡ suc i = omega arith in
    rw (next, rest) (refl, refl)

pub cut-more : (text : List ℕ) (begin i : ℕ) → begin ≤ i → i < length text → (get_or text i 0 ≡ 10 → ⊥) →
    (whole_lines (take (i - begin) (drop begin text)) (drop i text) ≡ whole_lines (take (i + 1 - begin) (drop begin text)) (drop (i + 1) text))
    × (last_bytes (take (i - begin) (drop begin text)) (drop i text) ≡ last_bytes (take (i + 1 - begin) (drop begin text)) (drop (i + 1) text))
cut-more text begin i begun within other =
    let next : i + 1 ≡ suc i = omega arith in
    let differs : eqb (get_or text i 0) 10 ≡ false = ne_eqb (get_or text i 0) 10 other in
    let longer = one_more text begin i begun within in
    let rest : drop i text ≡ get_or text i 0 ∷ drop (suc i) text = drop-cons text i 0 within in
    rw (longer, next, rest, differs) (refl, refl)

-- the rest after a line that was read
pub steps-newline : (s t : DocumentState) (line text : List ℕ) (i : ℕ) (whole : Result DocumentState CertError) → i < length text → get_or text i 0 ≡ 10 → step BLOCK_LIMIT SPLIT_LIMIT s line ≡ Ok t →
    steps BLOCK_LIMIT SPLIT_LIMIT s (whole_lines line (drop i text)) ≡ whole → steps BLOCK_LIMIT SPLIT_LIMIT t (whole_lines (take (i + 1 - (i + 1)) (drop (i + 1) text)) (drop (i + 1) text)) ≡ whole
steps-newline s t line text i whole within newline made same =
    let none : i + 1 - (i + 1) ≡ 0 = omega arith in
    let cut : steps BLOCK_LIMIT SPLIT_LIMIT s (line ∷ whole_lines [] (drop (i + 1) text)) ≡ whole = ap (steps BLOCK_LIMIT SPLIT_LIMIT s) (sym (cut-newline line text i within newline).0) ∙ same in
    rw none (sym (ap (λ r. and_then r (λ u. steps BLOCK_LIMIT SPLIT_LIMIT u (whole_lines [] (drop (i + 1) text)))) made) ∙ cut)

pub last-newline : (line text : List ℕ) (i : ℕ) (whole : List ℕ) → i < length text → get_or text i 0 ≡ 10 → last_bytes line (drop i text) ≡ whole → last_bytes (take (i + 1 - (i + 1)) (drop (i + 1) text)) (drop (i + 1) text) ≡ whole
last-newline line text i whole within newline same =
    let none : i + 1 - (i + 1) ≡ 0 = omega arith in
    rw none (sym (cut-newline line text i within newline).1 ∙ same)
