use Rattle.std.proofs.Common.{ℕ, ◌+◌, ◌<◌, ◌≡◌, ◌∙◌, cond, max, List, set, get_or, length, ltb, ap, sym, subst, rules}
use Rattle.s66_isa.specs.{Reg, greatest, same_reg, has_reg, kind_number, word_of}
use Rattle.s66_model.specs.{ResultAt}
use Rattle.s66_checker.specs.{never_busy, AreFree}
use Rattle.s66_checker.proofs.WordsOfPoints.{words-push}
use Rattle.s66_checker.proofs.replay.words.Words.push.Goals as goal

pub returns : goal.returns
returns c = λ xs are.
    let w = c.args.self.now in
    let p = c.args.point.now in
    let place : c.kind_number-place.result ≡ kind_number p.row.kind = c.kind_number-place.ensures.value ∙ ap kind_number c.kind.ensures in
    let within : c.kind_number-place.result < length w.free = search rules in
    words-push xs w _ p are
    (λ r low. c.raise_results.ensures r low ∙ ap (λ (ds : List ResultAt). max (word_of w.done.words r) (greatest (λ (d : ResultAt). cond {A = ℕ} (same_reg d.reg r) d.time 0) ds)) c.results.ensures)
    (λ r low. c.raise_all.ensures r low ∙ ap (λ (rs : List Reg). max (word_of w.read.words r) (cond {A = ℕ} (has_reg r rs) c.after_start.result 0)) c.reads.ensures ∙ ap (λ (t : ℕ). max (word_of w.read.words r) (cond {A = ℕ} (has_reg r p.row.reads) t 0)) c.after_start.ensures)
    c.with.result
    (λ busy free. subst (λ (f : ℕ). AreFree (λ t. busy t + cond {A = ℕ} (ltb t f) 1 0) c.with.result) c.free.ensures (c.with.ensures busy (subst (λ (i : ℕ). AreFree busy (get_or w.free i never_busy)) (sym place) free)))
    (subst (λ (i : ℕ). i < length w.free) place within)
    (ap (λ (i : ℕ). set w.free i c.with.result) place)
    (c.max-self.ensures ∙ ap (max w.load) c.memory_wait.ensures)
    (c.max-self-2.ensures ∙ ap (max w.store) c.memory_wait-2.ensures)
    (c.max-self-3.ensures ∙ ap (max w.total) c.end.ensures)
