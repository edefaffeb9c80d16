use Rattle.std.proofs.Common.{rules, arith, ◌<◌, ◌∙◌, subst, length, set, get_or-set_same, get_or-set_other, length-set}
use Rattle.s66_time.specs.{first_kept, words_from, kept_in, AreLatest, first_unit}
use Rattle.s66_time.proofs.MarkedWords.{early-done, early-read, early-refs, early-stores, early-units}
use Rattle.s66_time.proofs.mark.Mark.set.Goals as goal

pub put_registers-requires-clause-early : goal.put_registers-requires-clause-early
put_registers-requires-clause-early c =
    let (s, is, turn) = c.requires.follows in
    early-done c.args.profile.now s c.args.words.now is turn

pub put_registers-requires-2-clause-early : goal.put_registers-requires-2-clause-early
put_registers-requires-2-clause-early c =
    let (s, is, turn) = c.requires.follows in
    early-read c.args.profile.now s c.args.words.now is turn

pub overflow_cast-marked : goal.overflow_cast-marked
overflow_cast-marked c =
    let (s, is, turn) = c.requires.follows in
    let early : c.args.words.now.progress.refs < 65536 = early-refs c.args.profile.now s c.args.words.now is turn in
    search rules

pub overflow_cast-marked-2 : goal.overflow_cast-marked-2
overflow_cast-marked-2 c =
    let (s, is, turn) = c.requires.follows in
    let early : c.args.words.now.progress.stores < 65536 = early-stores c.args.profile.now s c.args.words.now is turn in
    search rules

pub put_all_units-count-requires : goal.put_all_units-count-requires
put_all_units-count-requires c = λ kind i lt.
    let (s, is, turn) = c.requires.follows in
    early-units c.args.profile.now s c.args.words.now is turn kind i (omega (arith, lt, c.requires.copies kind))

pub returns-clause-memory : goal.returns-clause-memory
returns-clause-memory c =
    let words = c.put_registers-2.new.self.words in
    let refs = c.args.words.now.progress.refs in
    let within : 48 < length words = omega (arith, c.put_registers-2.ensures.size) in
    let within_too : 49 < length (set words 48 refs) = omega (arith, length-set words 48 refs, c.put_registers-2.ensures.size) in (
      c.put_all_units-count.ensures.others 48 (omega arith)
          ∙ get_or-set_other (set words 48 refs) 49 48 c.args.words.now.progress.stores 0 (λ e. omega (arith, e))
          ∙ get_or-set_same words 48 refs 0 within,
      c.put_all_units-count.ensures.others 49 (omega arith)
          ∙ get_or-set_same (set words 48 refs) 49 c.args.words.now.progress.stores 0 within_too,
    )

pub returns-clause-units : goal.returns-clause-units
returns-clause-units c = λ kind.
    let f = kept_in c.args.shape.now.kept in
    subst (λ n. AreLatest (f kind) (words_from (first_unit kind) n c.args.words.now.units.words) (words_from (first_kept f kind) (f kind) c.put_all_units-count.new.self.words)) (c.requires.copies kind) (c.put_all_units-count.ensures.latest kind)
