-- The passes that a lane deals to thieves, one after the other, are all it has.
use Rattle.std.proofs.Common.{◌≡◌, ℕ, ◌+◌, List, [], ◌∷◌, ◌++◌, length, map, All, add-one, sym, refl, ap, subst, ◌∙◌, arith, rules, length-append}
use Rattle.std.proofs.lemmas.List.{map-append}
use Rattle.std.proofs.lemmas.List.Elements.{All-append, All-nil}
use Rattle.s66_isa.specs.{rising}
use Rattle.s66_model.proofs.Beginnings.{rising-push}
use Rattle.s66_share.specs.{LaneId, PassOf}

-- a lane's first passes, which have taken nothing
pub record AreDealt (lane : LaneId) (n : ℕ) (passes : List PassOf) : Type 0 where
  pub count : length passes ≡ n
  pub numbers : map (λ p. p.number) passes ≡ rising n 0
  pub fresh : All (λ p. (p.lane ≡ lane) × (p.taken ≡ [])) passes

pub dealt-none : (lane : LaneId) → AreDealt lane 0 []
dealt-none lane = record { count = refl; numbers = refl; fresh = All-nil _ }

pub dealt-push : (lane : LaneId) (old new : List PassOf) (p : PassOf) (n : ℕ) → AreDealt lane n old → new ≡ old ++ p ∷ [] → p ≡ record { lane = lane; number = n; taken = [] } → AreDealt lane (n + 1) new
dealt-push lane old new p n dealt is same =
    let step : rising (n + 1) 0 ≡ rising n 0 ++ n ∷ [] = rw add-one (rising-push n 0 ∙ ap (λ k. rising n 0 ++ k ∷ []) (omega arith)) in
    let IsFresh : PassOf → Type 0 = λ q. (q.lane ≡ lane) × (q.taken ≡ []) in
    let alone : All IsFresh (p ∷ []) = search (rules, same) in
    record {
      count = ap length is ∙ (length-append old (p ∷ []) ∙ ap (λ k. k + 1) dealt.count);
      numbers =
          ap (map (λ u. u.number)) is
          ∙ (map-append (λ (u : PassOf). u.number) old (p ∷ []) ∙ (ap (λ ns. ns ++ p.number ∷ []) dealt.numbers ∙ (ap (λ (u : PassOf). rising n 0 ++ u.number ∷ []) same ∙ sym step)));
      fresh = subst (All IsFresh) (sym is) (All-append IsFresh old (p ∷ []) dealt.fresh alone);
    }
