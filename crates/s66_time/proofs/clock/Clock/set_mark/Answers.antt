use Rattle.std.proofs.Common.{ℕ, ap, arith, sym, subst, ◌+◌, ◌%◌, ◌≡◌, ◌<◌, ◌∙◌, get_or}
use Rattle.s66_isa.specs.{Kind}
use Rattle.s66_model.specs.{Problem}
use Rattle.s66_line.specs.{instrs_of}
use Rattle.s66_time.specs.{kept_of, first_kept, words_from, kept_in, problem_of, IsMarkOf}
use Rattle.s66_time.specs.Ticking.{Ticking}
use Rattle.s66_time.proofs.Clocks.{clock-words, clock-turn}
use Rattle.s66_time.proofs.KeptUnits.{count-same, first-same}
use Rattle.s66_time.proofs.LatestWords.{own-at}
use Rattle.s66_time.proofs.MarkedWords.{latest-free}
use Rattle.s66_time.proofs.clock.Clock.set_mark.Goals as goal

pub set-requires-clause-follows : goal.set-requires-clause-follows
set-requires-clause-follows c = (_, clock-words _ _ _ c.self.invariant.clock, clock-turn _ _ _ c.self.invariant.clock)

pub returns : goal.returns
returns c =
    let b : Problem = record { block = instrs_of c.self.inside.block.now; profile = c.self.inside.profile } in
    let m = c.set.new.self in
    let f : Kind → ℕ = kept_in c.self.inside.shape.kept in
    let same : (kind : Kind) → f kind ≡ kept_of b kind = c.self.invariant.kept in
    let is = clock-words b _ _ c.self.invariant.clock in
    subst (λ (t : Ticking). IsMarkOf (problem_of t) t.numbers m) c.self.view_is
    (record {
      begins = c.self.invariant.clock.begins;
      few = c.self.invariant.clock.few;
      digits = c.self.invariant.digits;
      next = c.set.ensures.progress.0 ∙ is.next;
      total = c.set.ensures.progress.1 ∙ is.total;
      phase = c.set.ensures.progress.2 ∙ ap (λ n. n % 4) is.parcel;
      count = c.set.ensures.count ∙ count-same f (kept_of b) same;
      writers = λ r low. c.set.ensures.writers r low ∙ is.done r low;
      readers = λ r low. c.set.ensures.readers r low ∙ is.read r low;
      references = c.set.ensures.memory.0 ∙ is.refs;
      stores = c.set.ensures.memory.1 ∙ is.stores;
      units = λ kind i lt.
          let within : i < f kind = omega (arith, lt, same kind) in
          sym (own-at (first_kept f kind) (f kind) i m.words.words within ∙ ap (λ n. get_or m.words.words (n + i) 0) (first-same f (kept_of b) kind same))
          ∙ latest-free _ _ _ kind (f kind) (words_from (first_kept f kind) (f kind) m.words.words) is (omega (arith, same kind)) (c.set.ensures.units kind) i within;
    })
