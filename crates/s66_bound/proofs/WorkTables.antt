-- The work of each kind, of the whole block and of what remains.
use Rattle.std.proofs.Common.{ℕ, ◌+◌, ◌*◌, ◌≤◌, ◌≡◌, ◌≢◌, true≢false, List, [], ◌∷◌, length, set, get_or, sym, ap, arith, inl, inr, ◌∙◌, eqb-true, eq-eqb, get_or-set_same, get_or-set_other}
use Rattle.std.proofs.lemmas.Bool.{cases_Bool, cond_both, cond-true, cond-false}
use Rattle.s66_isa.specs.{kind_number, same_kind, Kind, weigh, rising}
use Rattle.s66_isa.proofs.Lists.{weigh-append}
use Rattle.s66_model.specs.{Problem, Point, row_at, point_of, points_of, points_after, IsBeginning, sum_remaining, work_of}
use Rattle.s66_model.proofs.LegalOrders.{sum_remaining-run}
use Rattle.s66_model.proofs.PointTimes.{good-at, point_of-row}
use Rattle.s66_time.proofs.OrderNumbers.{rising-more}
use Rattle.s66_time.proofs.WorkOfKinds.{kinds-few}
use Rattle.s66_bound.specs.{HasWorks}

abbrev pub work_at : Problem → Kind → ℕ → ℕ
work_at b kind n = work_of kind (row_at b n)

-- of the first numbers
abbrev pub HasFirstWorks : Problem → ℕ → List ℕ → Type 0
HasFirstWorks b count words = (kind : Kind) → get_or words (kind_number kind) 0 ≡ weigh (work_at b kind) (rising count 1)

pub works-step : (b : Problem) (count kind work : ℕ) (words : List ℕ) → length words ≡ 7 → HasFirstWorks b count words → kind ≡ kind_number (row_at b (count + 1)).kind → work ≡ (row_at b (count + 1)).hold + 1 →
    HasFirstWorks b (count + 1) (set words kind (get_or words kind 0 + work))
works-step b count place work words size known is_place is_work kind =
    let n = count + 1 in
    let new = get_or words place 0 + work in
    let more : weigh (work_at b kind) (rising (count + 1) 1) ≡ weigh (work_at b kind) (rising count 1) + work_at b kind n =
    omega (arith, ap (weigh (work_at b kind)) (rising-more count), weigh-append (work_at b kind) (rising count 1) (n ∷ []))
    in
    elim (cases_Bool (same_kind (row_at b n).kind kind)) [
      | inl same ↦
          let here : place ≡ kind_number kind = is_place ∙ eqb-true (kind_number (row_at b n).kind) (kind_number kind) same in
          omega (
            arith,
            ap (λ k. get_or (set words place new) k 0) here,
            get_or-set_same words place new 0 (omega (arith, size, is_place, kinds-few (row_at b n).kind)),
            ap (λ k. get_or words k 0) here,
            known kind,
            more,
            is_work,
            cond-true {A = ℕ} (same_kind (row_at b n).kind kind) ((row_at b n).hold + 1) 0 same,
          )
      | inr other ↦
          let apart : kind_number kind ≢ place = λ e. true≢false (sym (eq-eqb (kind_number (row_at b n).kind) (kind_number kind) (sym (e ∙ is_place))) ∙ other) in
          omega (arith, get_or-set_other words place (kind_number kind) new 0 apart, known kind, more, cond-false {A = ℕ} (same_kind (row_at b n).kind kind) ((row_at b n).hold + 1) 0 other)
    ]

pub work-most : (b : Problem) (kind : Kind) (ns : List ℕ) → weigh (work_at b kind) ns ≤ 101 * length ns
work-most b kind [] = omega arith
work-most b kind (n ∷ ns) =
    let own : work_at b kind n ≤ 101 =
    cond_both (same_kind (row_at b n).kind kind) ((row_at b n).hold + 1) 0 (λ k. k ≤ 101) (λ is. omega (arith, (good-at b n).hold.1)) (λ off. omega arith)
    in
    omega (arith, own, work-most b kind ns)

-- WHAT REMAINS

pushed-after : (b : Problem) (kind : Kind) (s : List Point) (ns : List ℕ) →
    weigh (λ (p : Point). work_of kind p.row) (points_after b s ns) ≡ weigh (λ (p : Point). work_of kind p.row) s + weigh (work_at b kind) ns
pushed-after b kind s [] = omega arith
pushed-after b kind s (n ∷ ns) = omega (arith, pushed-after b kind (point_of b s n ∷ s) ns, ap (work_of kind) (point_of-row b s n))

-- what the block has and is not pushed
pub work-remains : (b : Problem) (prefix words : List ℕ) (kind : Kind) (all pushed : ℕ) → IsBeginning b.block prefix → HasWorks b words → all ≡ get_or words (kind_number kind) 0 →
    pushed ≡ weigh (λ (p : Point). work_of kind p.row) (points_of b prefix) → all ≡ pushed + sum_remaining b.block prefix (work_at b kind)
work-remains b prefix words kind all pushed begins known is_all is_pushed =
    omega (arith, is_all, known kind, is_pushed, pushed-after b kind [] prefix, sum_remaining-run b.block (work_at b kind) [] prefix begins)
