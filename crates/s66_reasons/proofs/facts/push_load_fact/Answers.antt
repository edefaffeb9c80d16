use Rattle.std.proofs.Common.{rules, ℕ, ◌≡◌, ◌++◌, ◌∙◌, [], true, List, ap, sym, subst}
use Rattle.std.proofs.lemmas.Result.{IfOk-equal}
use Rattle.s66_isa.specs.{every}
use Rattle.s66_model.specs.{Problem, is_remaining}
use Rattle.s66_facts.specs.{known_of as known_in}
use Rattle.s66_reasons.specs.{load_sentence}
use Rattle.s66_reasons.proofs.FactTexts.{taken-remain}
use Rattle.s66_reasons.proofs.facts.push_load_fact.Goals as goal

pub push_load_sentence-requires : goal.push_load_sentence-requires
push_load_sentence-requires c =
    let b : Problem = c.args.facts.now.problem in
    let stay : every (is_remaining b.block []) c.args.load.now.numbers.items ≡ true = taken-remain b (known_in c.args.facts.now) c.args.load.now c.requires.taken in
    record {
      some = search rules;
      few = search rules;
      remain = ap (λ (ms : List ℕ). every (is_remaining c.args.prefix.now.problem.block ms) c.as_slice-numbers.result.now) c.requires.start
          ∙ ap (λ (ns : List ℕ). every (is_remaining c.args.prefix.now.problem.block []) ns) c.as_slice-numbers.ensures.value
          ∙ subst (λ (q : Problem). every (is_remaining q.block []) c.args.load.now.numbers.items ≡ true) (sym c.requires.same) stay;
    }

pub returns : goal.returns
returns c =
    let load = c.args.load.now in
    IfOk-equal c.push_load_sentence.result _ _ _ c.push_load_sentence.ensures
    (ap (λ (ns : List ℕ). c.args.out.now.items ++ load_sentence c.args.prefix.now.problem load.from load.to load.after load.wait ns) c.as_slice-numbers.ensures.value)
