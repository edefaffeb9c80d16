use Rattle.std.proofs.Common.{ℕ, ◌≡◌, ◌++◌, ◌∙◌, List, OnOk, codes, ap, length, rules}
use Rattle.std.proofs.lemmas.Result.{IfOk-equal}
use Rattle.s66_model.specs.{Problem}
use Rattle.s66_moments.specs.{Origin, End}
use Rattle.s66_cert.specs.{document_of}
use Rattle.s66_why.specs.{on_right}
use Rattle.s66_reasons.specs.{Work, load_end, load_sentence, work_of_load}
use Rattle.s66_reasons.proofs.Texts.{row-pushed}
use Rattle.s66_reasons.proofs.leaf.push_left_row.Goals as goal

pub returns : goal.returns
returns c =
    let d = document_of c.args.document.now in
    let out = c.args.out.now.items in
    let q : Problem = c.args.prefix.now.problem in
    let after = c.args.after in
    let ns : List ℕ = c.args.numbers.now in
    let bound : c.bound-bound.result ≡ d.bound = c.bound-bound.ensures in
    let row : ℕ → List ℕ → List ℕ = λ k ws. out ++ (on_right 4 k ++ codes "  " ++ ws ++ codes "\n") in
    let said : Problem → Work → ℕ → List ℕ = λ p w k. row (load_end w after k (length ns)) (load_sentence p Origin End after k ns) in
    let ended : OnOk c.extend_from_slice.result (c.extend_from_slice.new.self.items ≡ c.push_load_sentence.new.out.items ++ codes "\n") = search rules in
    IfOk-equal c.extend_from_slice.result _ _ _
    (row-pushed c.extend_from_slice.result out _ _ _ (load_sentence q Origin End after c.bound-bound.result ns) c.load_end.result c.in_ok-push_number.ensures c.in_ok-push_load_sentence.ensures ended)
    (ap (λ k. row k (load_sentence q Origin End after c.bound-bound.result ns)) c.load_end.ensures
    ∙ ap (λ (w : Work). said q w c.bound-bound.result) c.of-work.ensures
    ∙ ap (λ k. said q (work_of_load q ns) k) bound
    ∙ ap (λ (p : Problem). said p (work_of_load p ns) d.bound) c.requires.same)
