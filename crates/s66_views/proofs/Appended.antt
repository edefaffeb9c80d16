-- A member of JSON that is appended in three to seven pieces is their text; cited by each function of `src/` that appends several.
use Rattle.std.proofs.Common.{ℕ, ◌≡◌, ◌∙◌, List, ◌++◌, append_assoc}

pub of-three : (o a b c : List ℕ) → o ++ a ++ b ++ c ≡ o ++ (a ++ (b ++ c))
of-three o a b c = append_assoc (o ++ a) b c ∙ append_assoc o a (b ++ c)

pub of-four : (o a b c d : List ℕ) → o ++ a ++ b ++ c ++ d ≡ o ++ (a ++ (b ++ (c ++ d)))
of-four o a b c d = append_assoc (o ++ a ++ b) c d ∙ of-three o a b (c ++ d)

pub of-five : (o a b c d e : List ℕ) → o ++ a ++ b ++ c ++ d ++ e ≡ o ++ (a ++ (b ++ (c ++ (d ++ e))))
of-five o a b c d e = append_assoc (o ++ a ++ b ++ c) d e ∙ of-four o a b c (d ++ e)

pub of-six : (o a b c d e f : List ℕ) → o ++ a ++ b ++ c ++ d ++ e ++ f ≡ o ++ (a ++ (b ++ (c ++ (d ++ (e ++ f)))))
of-six o a b c d e f = append_assoc (o ++ a ++ b ++ c ++ d) e f ∙ of-five o a b c d (e ++ f)

pub of-seven : (o a b c d e f g : List ℕ) → o ++ a ++ b ++ c ++ d ++ e ++ f ++ g ≡ o ++ (a ++ (b ++ (c ++ (d ++ (e ++ (f ++ g))))))
of-seven o a b c d e f g = append_assoc (o ++ a ++ b ++ c ++ d ++ e) f g ∙ of-six o a b c d e (f ++ g)
