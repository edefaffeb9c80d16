-- Numbers that are smaller at the first place where they differ, and which names a table has.
use Rattle.std.proofs.Common.{ℕ, zero, suc, ◌<◌, ◌≡◌, ◌⊎◌, List, [], ◌∷◌, ◌++◌, length, take, get_or, map, refl, arith, inl, inr, ap, subst, length-append, Some, set}
use Rattle.std.proofs.lemmas.List.{map-append}
use Rattle.std.proofs.lemmas.List.Elements.{All-pop}
use Rattle.s66_isa.specs.{Among}
use Rattle.s66_model.specs.{Problem, IsEarlier}
use Rattle.s66_node.specs.{MarkEntry, IsEntry, AreEntries, numbers_of}
use Rattle.s66_node.proofs.Leasts.{among-either}

pub earlier-at : (ns ms : List ℕ) (i : ℕ) → take i ns ≡ take i ms → i < length ns → i < length ms → get_or ns i 0 < get_or ms i 0 → IsEarlier ns ms
earlier-at [] ms i same left right lt = absurd (omega (arith, left))
earlier-at (n ∷ ns) [] i same left right lt = absurd (omega (arith, right))
earlier-at (n ∷ ns) (m ∷ ms) zero same left right lt = inl lt
earlier-at (n ∷ ns) (m ∷ ms) (suc i) same left right lt =
    inr (heads n m ns ms i same, earlier-at ns ms i (tails n m ns ms i same) (omega (arith, left)) (omega (arith, right)) lt)
  where
    heads : (n m : ℕ) (ns ms : List ℕ) (i : ℕ) → take (suc i) (n ∷ ns) ≡ take (suc i) (m ∷ ms) → n ≡ m
    heads n m ns ms i e = cc

    tails : (n m : ℕ) (ns ms : List ℕ) (i : ℕ) → take (suc i) (n ∷ ns) ≡ take (suc i) (m ∷ ms) → take i ns ≡ take i ms
    tails n m ns ms i e = cc

pub names-set : (entries : List MarkEntry) (i : ℕ) (e : MarkEntry) (name : List ℕ) → Among name (map numbers_of (set entries i e)) → (name ≡ numbers_of e) ⊎ Among name (map numbers_of entries)
names-set [] i e name among = absurd among
names-set (x ∷ entries) zero e name (inl is) = inl is
names-set (x ∷ entries) zero e name (inr among) = inr (inr among)
names-set (x ∷ entries) (suc i) e name (inl is) = inr (inl is)
names-set (x ∷ entries) (suc i) e name (inr among) =
    elim (names-set entries i e name among) [ inl is ↦ inl is | inr there ↦ inr (inr there) ]

pub names-push : (entries : List MarkEntry) (e : MarkEntry) (name : List ℕ) → Among name (map numbers_of (entries ++ e ∷ [])) → (name ≡ numbers_of e) ⊎ Among name (map numbers_of entries)
names-push entries e name among =
    among-either name (map numbers_of entries) (numbers_of e ∷ []) ((name ≡ numbers_of e) ⊎ Among name (map numbers_of entries))
    (λ there. inr there) (λ here. elim here [ inl is ↦ inl is | inr none ↦ absurd none ])
    (subst (Among name) (map-append numbers_of entries (e ∷ [])) among)

pub names-at : (entries : List MarkEntry) (i : ℕ) (e : MarkEntry) → i < length entries → Among (numbers_of (get_or entries i e)) (map numbers_of entries)
names-at [] i e lt = absurd (omega (arith, lt))
names-at (x ∷ entries) zero e lt = inl refl
names-at (x ∷ entries) (suc i) e lt = inr (names-at entries i e (omega (arith, lt)))

-- the last entry is taken out
pub names-pop : (entries : List MarkEntry) (e : MarkEntry) → map numbers_of (entries ++ e ∷ []) ≡ map numbers_of entries ++ numbers_of e ∷ []
names-pop entries e = map-append numbers_of entries (e ∷ [])

pub entries-pop : (b : Problem) (old entries : List MarkEntry) (e : MarkEntry) → old ≡ entries ++ e ∷ [] → AreEntries b old → AreEntries b entries × IsEntry b e
entries-pop b old entries e is are =
    let (each, last) = All-pop (IsEntry b) old entries (Some e) is are.each in
    (record { few = omega (arith, are.few, ap length is, length-append entries (e ∷ [])); each = each }, last)
