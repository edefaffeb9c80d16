-- The texts of points, the first first, one after the other, and of the sums of their stretches.
use Rattle.std.proofs.Common.{ℕ, ◌+◌, ◌<◌, ◌≡◌, ◌∙◌, List, [], ◌∷◌, ◌++◌, ap, append_assoc, arith, get_or, length, length-take, refl, reverse, sym, take, nat_lt, lt-ltb}
use Rattle.std.proofs.lemmas.List.{length-reverse}
use Rattle.serde_json.specs.Written.{comma_if}
use Rattle.s66_model.specs.{Point}
use Rattle.s66_why.specs.{Lost, Stretch, Conflict, First, Second, Third, sum_of, lost, stretches_at}
use Rattle.s66_why.proofs.Earlier.{earlier-more}
use Rattle.s66_views.specs.{is_some, lost_of, lost_text, point_text, points_text}

some-length : (s : List Point) → is_some s ≡ nat_lt 0 (length s)
some-length [] = refl
some-length (p ∷ s) = sym (lt-ltb 0 (length (p ∷ s)) (omega arith))

pub some-before : (ps : List Point) (i : ℕ) → i < length ps → is_some (reverse (take i ps)) ≡ nat_lt 0 i
some-before ps i lt =
    let count : length (reverse (take i ps)) ≡ i = omega (arith, lt, length-reverse (take i ps), length-take i ps) in
    some-length (reverse (take i ps)) ∙ ap (λ k. nat_lt 0 k) count

-- one more point
pub points-more : (ps : List Point) (i : ℕ) (p : Point) (waits : List Stretch) (out mid comma new : List ℕ) → i < length ps → p ≡ get_or ps i p → waits ≡ stretches_at (reverse (take i ps)) p →
    mid ≡ out ++ points_text (reverse (take i ps)) → comma ≡ mid ++ comma_if (nat_lt 0 i) → new ≡ comma ++ point_text p waits → new ≡ out ++ points_text (reverse (take (i + 1) ps))
points-more ps i p waits out mid comma new lt at is first put more =
    let s : List Point = reverse (take i ps) in
    let before = points_text s in
    let text = point_text p (stretches_at s p) in
    more ∙ ap (λ (xs : List Stretch). comma ++ point_text p xs) is ∙ ap (λ zs. zs ++ text) (put ∙ ap (λ zs. zs ++ comma_if (nat_lt 0 i)) first)
    ∙ append_assoc (out ++ before) (comma_if (nat_lt 0 i)) text ∙ append_assoc out before (comma_if (nat_lt 0 i) ++ text)
    ∙ ap (λ b. out ++ (before ++ (comma_if b ++ text))) (sym (some-before ps i lt))
    ∙ ap (λ (u : List Point). out ++ points_text u) (sym (earlier-more ps i p lt at))

pub lost-texts : (l : Lost) (xs : List Stretch) → ((conflict : Conflict) → sum_of l conflict ≡ lost conflict xs) → lost_text l.first l.second l.third ≡ lost_of xs
lost-texts l xs same = rw (same First, same Second, same Third) refl
