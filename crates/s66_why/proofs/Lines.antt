-- Lines of stretches appended one after the other, and their sums, as `push_all_lines` makes them.
use Rattle.std.proofs.Common.{ℕ, ◌+◌, ◌<◌, ◌≡◌, List, [], ◌∷◌, ◌++◌, ◌∙◌, ap, arith, append_assoc, flat_map, get_or, length, refl, sym, take, if◌then◌else◌, ◌==◌, ◌-◌, append-nil}
use Rattle.std.proofs.lemmas.Grind.{flat_map-append}
use Rattle.std.proofs.lemmas.List.{take_more}
use Rattle.s66_isa.specs.{Write}
use Rattle.s66_isa.proofs.Lists.{weigh-append}
use Rattle.s66_why.specs.{Conflict, First, Second, Third, Stretch, Lost, sum_of, sums_line, conflict_number, lost, lost_line}

pub lines-more : (line : Stretch → List ℕ) (out mid new : List ℕ) (xs ys : List Stretch) → mid ≡ out ++ flat_map line xs → new ≡ mid ++ flat_map line ys → new ≡ out ++ flat_map line (xs ++ ys)
lines-more line out mid new xs ys first more =
    more ∙ ap (λ zs. zs ++ flat_map line ys) first ∙ append_assoc out (flat_map line xs) (flat_map line ys)
    ∙ ap (λ zs. out ++ zs) (sym (flat_map-append line xs ys))

pub lost-append : (conflict : Conflict) (xs ys : List Stretch) → lost conflict (xs ++ ys) ≡ lost conflict xs + lost conflict ys
lost-append conflict xs ys = weigh-append (λ (x : Stretch). if conflict_number x.conflict == conflict_number conflict then x.to - x.from else 0) xs ys

pub lost-more : (conflict : Conflict) (old mid new : ℕ) (xs ys : List Stretch) → mid ≡ old + lost conflict xs → new ≡ mid + lost conflict ys → new ≡ old + lost conflict (xs ++ ys)
lost-more conflict old mid new xs ys first more = omega (arith, first, more, lost-append conflict xs ys)

-- the stretches of one more result
pub parts-none : (f : Write → List Stretch) (a b : List Stretch) (ws : List Write) → a ++ b ++ flat_map f (take 0 ws) ≡ a ++ b
parts-none f a b ws = append-nil (a ++ b)

pub parts-more : (f : Write → List Stretch) (a b : List Stretch) (ws : List Write) (i : ℕ) (w : Write) → i < length ws → w ≡ get_or ws i w →
    a ++ b ++ flat_map f (take (i + 1) ws) ≡ a ++ b ++ flat_map f (take i ws) ++ f w
parts-more f a b ws i w lt at =
    let whole : flat_map f (take (i + 1) ws) ≡ flat_map f (take i ws) ++ f w =
    ap (flat_map f) (take_more ws i w lt ∙ ap (λ v. take i ws ++ v ∷ []) (sym at)) ∙ flat_map-append f (take i ws) (w ∷ []) ∙ ap (λ zs. flat_map f (take i ws) ++ zs) (append-nil (f w)) in
    ap (λ zs. (a ++ b) ++ zs) whole ∙ sym (append_assoc (a ++ b) (flat_map f (take i ws)) (f w))

pub line-of-sums : (l : Lost) (xs : List Stretch) → ((conflict : Conflict) → sum_of l conflict ≡ lost conflict xs) → sums_line l ≡ lost_line xs
line-of-sums l xs same = rw (same First, same Second, same Third) refl
