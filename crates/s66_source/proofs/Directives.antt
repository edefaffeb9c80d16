-- What a directive is by its first letter, and that it is the same in upper case.
use Rattle.std.proofs.Common.{◌≡◌, ◌==◌, ◌&&◌, ◌||◌, ℕ, zero, suc, Bool, true, false, not, if◌then◌else◌, List, [], ◌∷◌, drop, take, refl, sym, ap, ap₂, ◌∙◌, lit<}
use Rattle.s66_line.specs.{continues, is_comment, operation, upper, upper_byte}
use Rattle.s66_line.proofs.UpperCase.{kept, upper-twice}
use Rattle.s66_source.specs.{counting_text, Standing, after_directive, after_operation, directive_cover, has_operation, with_directive, with_operation, directs, is_directive, is_letter}
use Rattle.s66_source.specs.{DIRECTIVE_LIMIT}

twice : (first rest : Bool) → (first && (first && rest)) ≡ (first && rest)
twice true rest = refl
twice false rest = refl

pub front_decides : (letter : ℕ) (bytes : List ℕ) → (is_letter (upper_byte letter) && directs (upper (take DIRECTIVE_LIMIT (letter ∷ bytes)))) ≡ directs (upper (take DIRECTIVE_LIMIT (letter ∷ bytes)))
front_decides letter bytes = twice (is_letter (upper_byte letter)) _

upper-take : (n : ℕ) (bytes : List ℕ) → take n (upper bytes) ≡ upper (take n bytes)
upper-take zero [] = refl
upper-take zero (b ∷ bytes) = refl
upper-take (suc n) [] = refl
upper-take (suc n) (b ∷ bytes) = ap (λ bs. upper_byte b ∷ bs) (upper-take n bytes)

pub same-directive : (line : List ℕ) → is_directive (upper line) ≡ is_directive line
same-directive [] = refl
same-directive (s ∷ line) =
    ap₂ (λ star text. star && directs text) (kept s 42 (lit< tt)) (ap upper (upper-take DIRECTIVE_LIMIT line) ∙ upper-twice (take DIRECTIVE_LIMIT line))

pub same-text : (line : List ℕ) → upper (drop 1 (upper line)) ≡ upper (drop 1 line)
same-text [] = refl
same-text (s ∷ line) = upper-twice line

pub no-star : (b : ℕ) (line : List ℕ) → (b == 42) ≡ false → is_directive (b ∷ line) ≡ false
no-star b line other = rw other refl

-- AFTER A LINE

pub by_operation : (s : Standing) (line : List ℕ) → is_directive line ≡ false →
    (if has_operation line then after_operation s (upper (operation line)) (upper (counting_text line)) else s) ≡ with_operation true s line
by_operation s line none =
    ap (λ is. if has_operation line then after_operation s (upper (operation line)) (upper (counting_text line)) else (if is then after_directive s (directive_cover (upper (drop 1 line))) else s)) (sym none)

pub by_directive : (s : Standing) (line : List ℕ) → is_comment line ≡ true → with_directive true s line ≡ with_operation true s line
by_directive s line comment =
    ap (λ is. if not (is || continues line) then after_operation s (upper (operation line)) (upper (counting_text line)) else with_directive true s line) (sym comment)
