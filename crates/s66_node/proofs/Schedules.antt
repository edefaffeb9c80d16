-- A schedule goes on with numbers that are ready until it is a whole order, and each push gives an issue.
use Rattle.std.proofs.Common.{ℕ, ◌+◌, ◌-◌, ◌<◌, ◌≤◌, ◌≡◌, true, List, [], ◌∷◌, ◌++◌, length, take, refl, sym, ap, subst, arith, length-append, inl, inr, ◌∙◌}
use Rattle.std.proofs.lemmas.Bool.{cases_eq}
use Rattle.std.proofs.lemmas.List.{take-append-le}
use Rattle.s66_isa.specs.{Instr, Among, Row}
use Rattle.s66_model.specs.{Problem, row_at, point_of, points_of, next, is_ready, ready, GoesOn, IsBeginning, IsComplete, IsIncomplete}
use Rattle.s66_model.proofs.Beginnings.{beginning-front}
use Rattle.s66_model.proofs.PointTimes.{points_after-append, point_of-row}
use Rattle.s66_model.proofs.Remaining.{among-ready, ready-among, legal-parts, rest-first, step-begins}
use Rattle.s66_time.proofs.LongestBeginning.{beginning-few}
use Rattle.s66_node.specs.Walked.{Walked}

-- the next slot after a push is its issue and its parcels
pub next-push : (b : Problem) (prefix : List ℕ) (n : ℕ) → next (points_of b (prefix ++ n ∷ [])) ≡ (point_of b (points_of b prefix) n).issue + (row_at b n).parcels
next-push b prefix n =
    let row : (point_of b (points_of b prefix) n).row ≡ row_at b n = point_of-row b (points_of b prefix) n in
    ap next (points_after-append b [] prefix (n ∷ []))
    ∙ ap (λ (r : Row). (point_of b (points_of b prefix) n).issue + r.parcels) row

-- after an incomplete beginning some number is ready
some-ready : (block : List Instr) (prefix : List ℕ) → IsBeginning block prefix → IsIncomplete block prefix → (n : ℕ) × (is_ready block prefix n ≡ true)
some-ready block prefix begins part =
    let (rest, legal) = beginning-front block prefix begins in
    let completes = (legal-parts block prefix rest legal).1 in
    let (n, more, is) = rest-first block prefix rest part completes.1 in
    let goes : GoesOn block prefix (n ∷ more) = subst (GoesOn block prefix) is completes.0 in
    (n, goes.0)

pub none-ready : (block : List Instr) (prefix : List ℕ) → IsBeginning block prefix → ready block prefix ≡ [] → IsComplete block prefix
none-ready block prefix begins none =
    elim (cases_eq (length prefix) (length block)) [
      | inl whole ↦ whole
      | inr other ↦
          let (n, now) = some-ready block prefix begins (omega (arith, beginning-few block prefix begins, other)) in
          absurd (subst (Among n) none (among-ready block prefix n now))
    ]

-- these numbers are ready after the prefix
abbrev pub AreReady : List Instr → List ℕ → List ℕ → Type 0
AreReady block prefix ns = (m : ℕ) → Among m ns → is_ready block prefix m ≡ true

pub all-ready : (block : List Instr) (prefix ns : List ℕ) → ns ≡ ready block prefix → AreReady block prefix ns
all-ready block prefix ns are = λ m among. ready-among block prefix m (subst (Among m) are among)

-- so is the first that is taken out, and those that are left
pub taken-ready : (block : List Instr) (prefix ns rest : List ℕ) (n : ℕ) → ns ≡ n ∷ rest → AreReady block prefix ns → (is_ready block prefix n ≡ true) × AreReady block prefix rest
taken-ready block prefix ns rest n is are =
    (are n (subst (Among n) (sym is) (inl refl)), λ m among. are m (subst (Among m) (sym is) (inr among)))

-- a number that is ready finds room
pub ready-short : (block : List Instr) (prefix : List ℕ) (n : ℕ) → IsBeginning block prefix → is_ready block prefix n ≡ true → length prefix < length block
ready-short block prefix n begins now =
    omega (arith, beginning-few block (prefix ++ n ∷ []) (step-begins block prefix n begins now), length-append prefix (n ∷ []))

-- the walk has gone on from where it was
pub record HasGoneOn (old w : Walked) : Type 0 where
  pub same : w.problem ≡ old.problem
  pub begins : IsBeginning w.problem.block w.numbers
  pub more : length old.numbers ≤ length w.numbers
  pub continues : take (length old.numbers) w.numbers ≡ old.numbers

-- and each push goes on towards the whole order
pub push-goes : (old w same next : Walked) (n : ℕ) → HasGoneOn old w → is_ready w.problem.block w.numbers n ≡ true → same ≡ w → next ≡ record same { numbers = same.numbers ++ n ∷ [] } →
    HasGoneOn old next × (length next.problem.block - length next.numbers < length w.problem.block - length w.numbers)
push-goes old w same next n gone now is pushed =
    let all : next ≡ record w { numbers = w.numbers ++ n ∷ [] } = pushed ∙ ap (λ (x : Walked). record x { numbers = x.numbers ++ n ∷ [] }) is in
    subst (λ (x : Walked). HasGoneOn old x × (length x.problem.block - length x.numbers < length w.problem.block - length w.numbers)) (sym all) (
      record {
        same = gone.same;
        begins = step-begins w.problem.block w.numbers n gone.begins now;
        more = omega (arith, gone.more, length-append w.numbers (n ∷ []));
        continues = take-append-le (length old.numbers) w.numbers (n ∷ []) gone.more ∙ gone.continues;
      },
      omega (arith, ready-short w.problem.block w.numbers n gone.begins now, length-append w.numbers (n ∷ [])),
    )
