-- The work of each kind by the points that were pushed.
use Rattle.std.proofs.Common.{ℕ, ◌+◌, ◌*◌, ◌≤◌, ◌≡◌, ◌≢◌, true≢false, List, [], ◌∷◌, length, set, get_or, sym, ap, arith, inl, inr, ◌∙◌, eqb-true, eq-eqb, get_or-set_same, get_or-set_other}
use Rattle.std.proofs.lemmas.Bool.{cases_Bool, cond_both, cond-true, cond-false}
use Rattle.s66_isa.specs.{kind_number, same_kind, Kind, Boolean, Shift, Add, LongAdd, Multiply, Divide, Increment, Profile, greatest}
use Rattle.s66_model.specs.{Point, work_of}
use Rattle.s66_time.specs.{Words, WORK_LIMIT, worked_of, AreWordsInTurn}

pub kinds-few : (kind : Kind) → kind_number kind ≤ 6
kinds-few Boolean = omega arith
kinds-few Shift = omega arith
kinds-few Add = omega arith
kinds-few LongAdd = omega arith
kinds-few Multiply = omega arith
kinds-few Divide = omega arith
kinds-few Increment = omega arith

pub worked-step : (s : List Point) (q : Point) (words words2 : List ℕ) → length words ≡ 7 → ((kind : Kind) → get_or words (kind_number kind) 0 ≡ worked_of kind s) →
    words2 ≡ set words (kind_number q.row.kind) (get_or words (kind_number q.row.kind) 0 + (q.row.hold + 1)) → (kind : Kind) → get_or words2 (kind_number kind) 0 ≡ worked_of kind (q ∷ s)
worked-step s q words words2 size known is kind =
    let place = kind_number q.row.kind in
    let new = get_or words place 0 + (q.row.hold + 1) in
    ap (λ ws. get_or ws (kind_number kind) 0) is
    ∙ elim (cases_Bool (same_kind q.row.kind kind)) [
      | inl same ↦
          let here : place ≡ kind_number kind = eqb-true place (kind_number kind) same in
          omega (
            arith,
            ap (λ k. get_or (set words place new) k 0) here,
            get_or-set_same words place new 0 (omega (arith, size, kinds-few q.row.kind)),
            ap (λ k. get_or words k 0) here,
            known kind,
            cond-true {A = ℕ} (same_kind q.row.kind kind) (q.row.hold + 1) 0 same,
          )
      | inr other ↦
          let apart : kind_number kind ≢ place = λ e. true≢false (sym (eq-eqb place (kind_number kind) (sym e)) ∙ other) in
          omega (arith, get_or-set_other words place (kind_number kind) new 0 apart, known kind, cond-false {A = ℕ} (same_kind q.row.kind kind) (q.row.hold + 1) 0 other)
    ]

worked-most : (kind : Kind) (s : List Point) → greatest (λ (p : Point). p.row.hold) s ≤ 100 → worked_of kind s ≤ 101 * length s
worked-most kind [] small = omega arith
worked-most kind (p ∷ s) small =
    let own : work_of kind p.row ≤ 101 = cond_both (same_kind p.row.kind kind) (p.row.hold + 1) 0 (λ k. k ≤ 101) (λ is. omega (arith, small)) (λ off. omega arith) in
    omega (arith, own, worked-most kind s (omega (arith, small)))

pub worked-few : (p : Profile) (w : Words) (kind : Kind) → AreWordsInTurn p w → get_or w.worked (kind_number kind) 0 ≤ WORK_LIMIT
worked-few p w kind (s, is, turn) = omega (arith, is.worked kind, worked-most kind s turn.holds, turn.few)
