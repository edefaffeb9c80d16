-- Whether `--cut` leaves each line of a text alone, one line after the other.
use Rattle.std.proofs.Common.{◌≡◌, ◌<◌, ◌≤◌, ◌+◌, ◌-◌, ℕ, zero, suc, Bool, true, false, List, [], ◌∷◌, ◌++◌, length, take, nat_lt, refl, ap, ◌∙◌, arith, append_assoc, length-append, sym}
use Rattle.std.proofs.Common.{if◌then◌else◌, append-nil, ltb-false}
use Rattle.s66_line.specs.{lines_from, LINE_BYTES_LIMIT}
use Rattle.s66_source.specs.{after_line, is_alone, is_continued, Standing}
use Rattle.s66_lint.specs.{alone_from, as_read}

-- the first line of a text, and then those after it
pub alone_from-found : (s : Standing) (text line more : List ℕ) (continued : Bool) → lines_from [] text ≡ line ∷ lines_from [] more → continued ≡ is_continued (lines_from [] more) →
    alone_from s (lines_from [] text) ≡ is_alone true s (as_read line) continued ∷ alone_from (after_line true s (as_read line)) (lines_from [] more)
alone_from-found s text line more continued cut same =
    ap (alone_from s) cut ∙ ap (λ next. is_alone true s (as_read line) next ∷ alone_from (after_line true s (as_read line)) (lines_from [] more)) (sym same)

-- ONE MORE of a list is taken, up to a limit

pub one-more : (limit : ℕ) (taken : List Bool) (b : Bool) (rest : List Bool) → length taken < limit →
    (taken ++ b ∷ []) ++ take (limit - length (taken ++ b ∷ [])) rest ≡ taken ++ take (limit - length taken) (b ∷ rest)
one-more limit taken b rest few =
    let longer : length (taken ++ b ∷ []) ≡ suc (length taken) = length-append taken (b ∷ []) ∙ omega arith in
    let next : limit - length taken ≡ suc (limit - suc (length taken)) = omega (arith, few) in
    rw (longer, next) (append_assoc taken (b ∷ []) (take (limit - suc (length taken)) rest))

-- nothing more
pub no-more : (limit : ℕ) (taken rest : List Bool) → limit ≤ length taken → taken ++ take (limit - length taken) rest ≡ taken
no-more limit taken rest all =
    let none : limit - length taken ≡ 0 = omega (arith, all) in
    rw none (append-nil taken)

abbrev nothing : List Bool
nothing = []

take-none : (n : ℕ) → take n nothing ≡ nothing
take-none zero = refl
take-none (suc n) = refl

-- of no line
pub none-left : (limit : ℕ) (taken : List Bool) → taken ++ take limit nothing ≡ taken
none-left limit taken = ap (λ more. taken ++ more) (take-none limit) ∙ append-nil taken

-- A LINE AS IT IS READ isn't too long
pub length-read : (line : List ℕ) → length (as_read line) ≤ LINE_BYTES_LIMIT
length-read line = by_length (nat_lt LINE_BYTES_LIMIT (length line)) refl
  where
    by_length : (t : Bool) → nat_lt LINE_BYTES_LIMIT (length line) ≡ t → length {A = ℕ} (if t then [] else line) ≤ LINE_BYTES_LIMIT
    by_length true stated = omega arith
    by_length false stated = ltb-false LINE_BYTES_LIMIT (length line) stated
