-- To be believed: texts in a page by which a browser would run or fetch something.
use Rattle.std.specs.Prelude.{ℕ, Bool, true, false, ◌&&◌, ◌==◌, not, List, [], ◌∷◌, codes}

abbrev pub begins_with : (word text : List ℕ) → Bool
begins_with [] text = true
begins_with (a ∷ word) [] = false
begins_with (a ∷ word) (b ∷ text) = a == b && begins_with word text

-- the word, which is not empty, stands nowhere in the text
abbrev pub is_free_of : (word text : List ℕ) → Bool
is_free_of word [] = true
is_free_of word (b ∷ text) = not (begins_with word (b ∷ text)) && is_free_of word text

-- no script, no address, no file; the words `<script`, `http`, `src`, `url(` and `@import` stand nowhere in it
abbrev pub is_still : List ℕ → Bool
is_still text =
    is_free_of (codes "<script") text && is_free_of (codes "http") text && is_free_of (codes "src") text && is_free_of (codes "url(") text
    && is_free_of (codes "@import") text
