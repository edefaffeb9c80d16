-- Two texts that are told to standard error one after the other are told as one.
use Rattle.std.specs.Io.KnownBytes.{Appends}
use Rattle.std.proofs.Common.{◌≡◌, ◌+◌, ℕ, List, ◌++◌, Option, None, Some, length, take, append_assoc, refl, sym, ap, ◌∙◌, subst, inl, inr, arith, take_all}
use Rattle.std.proofs.Math.Seq.{take-append-add, take-append_seam}
use Rattle.std.proofs.lemmas.Bool.{cases_lt}
use Rattle.std.proofs.lemmas.List.{take-append-le}
use Rattle.s66_device.specs.{WriteFails, Writer, Writes}
use Rattle.s66_program.specs.{Tells}

appends-both : (old mid new : Option (List ℕ)) (first second : List ℕ) → Appends old mid first → Appends mid new second → Appends old new (first ++ second)
appends-both None mid new first second h k = tt
appends-both (Some xs) None new first second h k = absurd h
appends-both (Some xs) (Some ys) None first second h k = absurd k
appends-both (Some xs) (Some ys) (Some zs) first second h k = rw (k, h, append_assoc) refl

-- a beginning of the first text is one of both
beginning : (first second : List ℕ) (k : ℕ) → (n : ℕ) × (take n (first ++ second) ≡ take k first)
beginning first second k =
    elim (cases_lt (length first) k) [
      | inl more ↦ (length first, take-append_seam first second ∙ sym (take_all k first (omega (arith, more))))
      | inr few ↦ (k, take-append-le k first second few)
    ]

pub told-both : (old mid new : Writer) (first second : List ℕ) → Writes old mid first → Tells mid new second → Tells old new (first ++ second)
told-both old mid new first second h (inl k) = inl (appends-both old.bytes mid.bytes new.bytes first second h.0 k.0, k.1 ∙ h.1)
told-both old mid new first second h (inr k) =
    inr (
      (length first + k.0.0, subst (Appends old.bytes new.bytes) (sym (take-append-add first second k.0.0)) (appends-both old.bytes mid.bytes new.bytes first (take k.0.0 second) h.0 k.0.1)),
      k.1 ∙ ap (λ n. n + 1) h.1,
    )

pub told-first : (old new : Writer) (first second : List ℕ) → WriteFails old new first → Tells old new (first ++ second)
told-first old new first second h =
    let begun = beginning first second h.0.0 in
    inr ((begun.0, subst (Appends old.bytes new.bytes) (sym begun.1) h.0.1), h.1)
