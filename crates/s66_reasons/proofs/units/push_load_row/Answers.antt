use Rattle.std.proofs.Common.{ℕ, ◌≡◌, ◌++◌, ◌∙◌, List, OnOk, codes, ap, append_assoc, rules}
use Rattle.std.proofs.lemmas.Result.{IfOk-equal}
use Rattle.s66_model.specs.{Problem, copies, next, load}
use Rattle.s66_cert.specs.{document_of}
use Rattle.s66_why.specs.{on_right}
use Rattle.s66_reasons.specs.{longest_use, after_words, load_words, numbers_of, slot_after, work, work_before}
use Rattle.s66_reasons.proofs.Texts.{row-pushed}
use Rattle.s66_reasons.proofs.units.push_load_row.Goals as goal

pub push_after-requires : goal.push_after-requires
push_after-requires c = c.next-slot.ensures.value ∙ ap next c.points.ensures.value

pub returns : goal.returns
returns c =
    let d = document_of c.args.document.now in
    let q = c.args.prefix.now in
    let p : Problem = q.problem in
    let at : List ℕ = q.numbers in
    let kind = c.args.kind in
    let out = c.args.out.now.items in
    let given : List ℕ = c.args.numbers.now in
    let slot = c.next-slot.result in
    let total = c.remaining_work-total.result in
    let said : Problem → ℕ → ℕ → ℕ → List ℕ → List ℕ =
    λ (b : Problem) one many most (ns : List ℕ). load_words d one kind (copies b kind) many most ns ++ after_words many (work_before b at kind) one in
    let words : load_words d slot kind c.copies-copies.result total c.longest_use-most.result given ++ after_words total (work_before p at kind) slot
    ≡ said p (slot_after p at) (work p at kind) (longest_use p (numbers_of p at kind)) (numbers_of p at kind) =
    ap (λ k. load_words d slot kind k total c.longest_use-most.result given ++ after_words total (work_before p at kind) slot) c.copies-copies.ensures.value
    ∙ ap (λ k. said p k total c.longest_use-most.result given) (c.next-slot.ensures.value ∙ ap next c.points.ensures.value)
    ∙ ap (λ k. said p (slot_after p at) k c.longest_use-most.result given) c.remaining_work-total.ensures.value
    ∙ ap (λ k. said p (slot_after p at) (work p at kind) k given) c.longest_use-most.ensures
    ∙ ap (λ (ns : List ℕ). said p (slot_after p at) (work p at kind) (longest_use p ns) ns) c.requires.numbers in
    let row : Problem → ℕ → List ℕ → List ℕ = λ (b : Problem) k ws. out ++ (on_right 4 k ++ codes "  " ++ ws ++ codes "\n") in
    let both = c.in_ok-push_after.ensures ∙ ap (λ xs. xs ++ after_words total (work_before p at kind) slot) c.in_ok-push_load_words.ensures
    ∙ append_assoc _ (load_words d slot kind c.copies-copies.result total c.longest_use-most.result given) (after_words total (work_before p at kind) slot) in
    let ended : OnOk c.extend_from_slice.result (c.extend_from_slice.new.self.items ≡ c.push_after.new.out.items ++ codes "\n") = search rules in
    IfOk-equal c.extend_from_slice.result _ _ _
    (row-pushed c.extend_from_slice.result out _ _ _ _ c.load.result c.in_ok-push_number.ensures both ended)
    (ap (λ k. row p k (load_words d slot kind c.copies-copies.result total c.longest_use-most.result given ++ after_words total (work_before p at kind) slot)) c.load.ensures
    ∙ ap (λ (ws : List ℕ). row p (load p at kind) ws) words
    ∙ ap (λ (b : Problem). row b (load b at kind) (said b (slot_after b at) (work b at kind) (longest_use b (numbers_of b at kind)) (numbers_of b at kind))) c.requires.problem)
