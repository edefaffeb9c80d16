use Rattle.std.proofs.Common.{ℕ, ◌≡◌, ◌+◌, ◌-◌, ◌++◌, ◌∙◌, List, OnOk, codes, ap, rules, arith}
use Rattle.std.proofs.lemmas.Result.{IfOk-equal}
use Rattle.s66_isa.specs.{Row}
use Rattle.s66_model.specs.{Problem, row_at, sum_remaining, if_last, tail}
use Rattle.s66_cert.specs.{document_of}
use Rattle.s66_why.specs.{on_right}
use Rattle.s66_checker.specs.{problem_of}
use Rattle.s66_reasons.specs.{if_last_words, last_slot}
use Rattle.s66_reasons.proofs.Texts.{row-pushed}
use Rattle.s66_reasons.proofs.parcels.push_last.Goals as goal

pub returns : goal.returns
returns c =
    let d = document_of c.args.document.now in
    let b : Problem = problem_of d in
    let q : Problem = c.args.prefix.now.problem in
    let at : List ℕ = c.args.prefix.now.numbers in
    let n = c.args.n in
    let slot : ℕ = c.args.next + c.saturating_sub.result in
    let time : ℕ = c.tail-time.result in
    let rest : c.saturating_sub.result ≡ sum_remaining q.block at (λ m. (row_at q m).parcels) - (row_at q n).parcels =
    omega (arith, c.saturating_sub.ensures, c.own_parcels.ensures, ap (λ (r : Row). r.parcels) c.row-row.ensures, c.requires.parcels) in
    let slot_is : slot ≡ last_slot b at n = omega (arith, rest, c.requires.next) ∙ ap (λ (p : Problem). last_slot p at n) c.requires.problem in
    let time_is : time ≡ tail (row_at b n) = c.tail-time.ensures ∙ ap tail c.row-row.ensures ∙ ap (λ (p : Problem). tail (row_at p n)) c.requires.problem in
    let number : slot + time ≡ if_last b at n = omega (arith, slot_is, time_is) in
    let words : if_last_words d n slot time ≡ if_last_words d n (last_slot b at n) (tail (row_at b n)) =
    ap (λ k. if_last_words d n k time) slot_is ∙ ap (λ k. if_last_words d n (last_slot b at n) k) time_is in
    let ended : OnOk c.extend_from_slice.result (c.extend_from_slice.new.self.items ≡ c.push_if_last.new.out.items ++ codes "\n") = search rules in
    IfOk-equal c.extend_from_slice.result _ _ _
    (row-pushed c.extend_from_slice.result c.args.out.now.items _ _ _ (if_last_words d n slot time) (slot + time) c.in_ok-push_number.ensures c.in_ok-push_if_last.ensures ended)
    (ap (λ k. c.args.out.now.items ++ (on_right 4 k ++ codes "  " ++ if_last_words d n slot time ++ codes "\n")) number
    ∙ ap (λ (ws : List ℕ). c.args.out.now.items ++ (on_right 4 (if_last b at n) ++ codes "  " ++ ws ++ codes "\n")) words)
