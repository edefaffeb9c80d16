use Rattle.std.proofs.Common.{ℕ, List, [], ◌∷◌, ◌≡◌, ◌≤◌, ◌∙◌, zero, suc, ap, arith, get_or, length, map, refl, sym, Bor}
use Rattle.std.proofs.lemmas.List.{get_or-map}
use Rattle.s66_command.proofs.changes.name_among.Goals as goal

past : (names : List (Bor (List ℕ))) (place : ℕ) → length names ≤ place → get_or (map (λ (known : Bor (List ℕ)). known.now) names) place [] ≡ []
past [] place few = refl
past (name ∷ names) zero few = absurd (omega (arith, few))
past (name ∷ names) (suc place) few = past names place (omega (arith, few))

pub returns-in-Some : goal.returns-in-Some
returns-in-Some c =
    let (is, at, some, (within, holds), any) = c.in-Some.ensures.lookup in
    c.as_bytes.ensures.value ∙ ap (λ (known : Bor (List ℕ)). known.now) at ∙ sym (get_or-map (λ (known : Bor (List ℕ)). known.now) c.args.names.now c.args.place c.in-Some.name.now [] within)

pub returns-in-None : goal.returns-in-None
returns-in-None c =
    let (is, at, some, few, any) = c.in-None.ensures.lookup in
    sym (past c.args.names.now c.args.place few)
