-- What a page has of the instructions of a timed order in a loop: rows, bars, ticks and sums, one round more.
use Rattle.std.proofs.Common.{ℕ, suc, ◌+◌, ◌-◌, ◌<◌, ◌≡◌, List, [], ◌∷◌, ◌++◌, ap, append_assoc, arith, flat_map, length, take, get_or, reverse, sym, ◌∙◌, append-nil}
use Rattle.std.proofs.lemmas.Grind.{flat_map-append}
use Rattle.std.proofs.lemmas.List.{length-reverse, take_more}
use Rattle.s66_isa.specs.{weigh, Kind}
use Rattle.s66_isa.proofs.Lists.{weigh-append}
use Rattle.s66_model.specs.{Point}
use Rattle.s66_line.specs.{Block, bytes_of}
use Rattle.s66_why.specs.{stretches_at, Work, left_from, taken_from, work}
use Rattle.s66_why.proofs.Earlier.{earlier-more}
use Rattle.s66_views.specs.{page_instruction_row, instruction_rows, row_head, row_marks, unit_row_of, unit_rows}

-- ONE MORE

pub texts-more : {X : Type 0} (f : X → List ℕ) (xs : List X) (i : ℕ) (d : X) (out mid new : List ℕ) → i < length xs → mid ≡ out ++ flat_map f (take i xs) → new ≡ mid ++ f (get_or xs i d) →
    new ≡ out ++ flat_map f (take (i + 1) xs)
texts-more f xs i d out mid new lt first more =
    let x = get_or xs i d in
    let whole : flat_map f (take (i + 1) xs) ≡ flat_map f (take i xs) ++ f x =
    ap (flat_map f) (take_more xs i d lt) ∙ flat_map-append f (take i xs) (x ∷ []) ∙ ap (λ zs. flat_map f (take i xs) ++ zs) (append-nil (f x)) in
    more ∙ ap (λ zs. zs ++ f x) first ∙ append_assoc out (flat_map f (take i xs)) (f x) ∙ ap (λ zs. out ++ zs) (sym whole)

pub weigh-more : {X : Type 0} (f : X → ℕ) (xs : List X) (i : ℕ) (d : X) → i < length xs → weigh f (take (i + 1) xs) ≡ weigh f (take i xs) + f (get_or xs i d)
weigh-more f xs i d lt = ap (weigh f) (take_more xs i d lt) ∙ weigh-append f (take i xs) (get_or xs i d ∷ []) ∙ omega arith

pub rows-more : (block : Block) (on : List ℕ) (ps : List Point) (i : ℕ) (p : Point) (text : List ℕ) (earlier : List Point) (w : Work) (out mid new : List ℕ) → i < length ps → p ≡ get_or ps i p →
    text ≡ bytes_of block p.number → earlier ≡ take i ps → w ≡ work p → mid ≡ out ++ instruction_rows block on (reverse (take i ps)) →
    new ≡ mid ++ (row_head text on p.number (length earlier + 1) ++ row_marks (stretches_at (reverse earlier) p) w) → new ≡ out ++ instruction_rows block on (reverse (take (i + 1) ps))
rows-more block on ps i p text earlier w out mid new lt at is_text is_earlier is_work first more =
    let s : List Point = reverse (take i ps) in
    let row : row_head text on p.number (length earlier + 1) ++ row_marks (stretches_at (reverse earlier) p) w ≡ page_instruction_row block on s p =
    rw (is_text, is_earlier, is_work) (ap (λ n. row_head (bytes_of block p.number) on p.number (n + 1) ++ row_marks (stretches_at s p) (work p)) (sym (length-reverse (take i ps)))) in
    more ∙ ap (λ zs. mid ++ zs) row ∙ ap (λ zs. zs ++ page_instruction_row block on s p) first ∙ append_assoc out (instruction_rows block on s) (page_instruction_row block on s p)
    ∙ sym (ap (λ u. out ++ instruction_rows block on u) (earlier-more ps i p lt at))

-- the row of one more unit
pub unit-more : (most i : ℕ) (kind : Kind) (total : ℕ) (ws mine rest : List Work) (out mid new : List ℕ) → i < most → mine ≡ taken_from 0 ws → rest ≡ left_from 0 ws →
    mid ++ unit_rows (most - i) kind total ws ≡ out → new ≡ mid ++ unit_row_of kind total mine → new ++ unit_rows (most - (i + 1)) kind total rest ≡ out
unit-more most i kind total ws mine rest out mid new lt is_mine is_rest first more =
    let n : most - i ≡ suc (most - (i + 1)) = omega arith in
    let others = unit_rows (most - (i + 1)) kind total (left_from 0 ws) in
    ap (λ us. new ++ unit_rows (most - (i + 1)) kind total us) is_rest ∙ ap (λ zs. zs ++ others) (more ∙ ap (λ us. mid ++ unit_row_of kind total us) is_mine)
    ∙ append_assoc mid (unit_row_of kind total (taken_from 0 ws)) others ∙ sym (ap (λ k. mid ++ unit_rows k kind total ws) n) ∙ first
