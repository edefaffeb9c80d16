use Rattle.std.proofs.Common.{ap, ◌∙◌, ◌+◌, max, cond, ℕ, List, length, take, set, get_or, refl}
use Rattle.s66_isa.specs.Table.{Reg}
use Rattle.s66_isa.specs.{same_reg, has_reg, kind_number, Row, greatest, word_of}
use Rattle.s66_model.specs.{ResultAt}
use Rattle.s66_time.proofs.ClockPoints.{words-back}
use Rattle.s66_time.proofs.words.Words.take.Goals as goal

pub returns-clause-back : goal.returns-clause-back
returns-clause-back c =
    let w = c.args.self.now in
    words-back w.done.words c.raise_results.new.self.words w.read.words c.raise_all.new.self.words w.units.words w.worked w.progress (take (length c.as_slice-results.result.now) c.raise_results.new.saved) (take (length c.as_slice-reads.result.now) c.raise_all.new.saved) c.args.tick.now.unit _ _ _ c.raise_results.ensures.saved c.raise_all.ensures.saved

pub returns-clause-takes : goal.returns-clause-takes
returns-clause-takes c =
    let w = c.args.self.now in
    record {
      done = λ (r : Reg) small. c.raise_results.ensures.words r small ∙ ap (λ ds. max (word_of w.done.words r) (greatest (λ (d : ResultAt). cond {A = ℕ} (same_reg d.reg r) d.time 0) ds)) c.as_slice-results.ensures.value;
      read = λ (r : Reg) small. c.raise_all.ensures.words r small ∙ ap (λ (rs : List Reg). max (word_of w.read.words r) (cond {A = ℕ} (has_reg r rs) (c.args.tick.now.start + 1) 0)) c.as_slice-reads.ensures.value ∙ ap (λ (x : Row). max (word_of w.read.words r) (cond {A = ℕ} (has_reg r x.reads) (c.args.tick.now.start + 1) 0)) c.row.view_is;
      units = refl;
      worked =
          ap (λ k. set w.worked k (get_or w.worked k 0 + (c.row.inside.hold + 1))) c.kind_number-kind.ensures.value
          ∙ ap (λ (x : Row). set w.worked (kind_number x.kind) (get_or w.worked (kind_number x.kind) 0 + (x.hold + 1))) c.row.view_is;
      refs = c.after-self.ensures.refs;
      stores = c.after-self.ensures.stores;
      parcel = c.after-self.ensures.parcel;
      next = c.after-self.ensures.next;
      total = c.after-self.ensures.total;
      pushed = c.after-self.ensures.pushed;
    }
