use Rattle.std.proofs.Common.{◌∙◌, arith, ap, sym, reverse}
use Rattle.s66_isa.specs.{Row}
use Rattle.s66_checker.proofs.FoundNoLater.{results-fail, units-fail, operands-fail, memory-fails, readers-left, results-stated, units-stated, operands-stated, readers-stated, memory-stated}
use Rattle.s66_checker.proofs.replay.dominance.finds_no_later.Goals as goal

pub returns-then-not-are_results_no_later : goal.returns-then-not-are_results_no_later
returns-then-not-are_results_no_later c =
    let own = c.args.own.now in
    let other = c.args.other.now in
    let results = results-stated c.args.copies own other c.args.issue c.args.start c.args.row.now _ c.are_results_no_later.result (c.as_slice-writes.ensures.value ∙ ap (λ (r : Row). r.writes) c.row.view_is) c.are_results_no_later.ensures in
    results-fail c.args.copies (reverse own) (reverse other) c.args.issue c.args.start c.args.row.now (sym results ∙ c.if-not-are_results_no_later.true)

pub returns-then-not-are_units_no_later : goal.returns-then-not-are_units_no_later
returns-then-not-are_units_no_later c =
    let own = c.args.own.now in
    let other = c.args.other.now in
    let results = results-stated c.args.copies own other c.args.issue c.args.start c.args.row.now _ c.are_results_no_later.result (c.as_slice-writes.ensures.value ∙ ap (λ (r : Row). r.writes) c.row.view_is) c.are_results_no_later.ensures in
    let units = units-stated c.args.copies own other c.args.issue c.args.start c.args.row.now c.row.inside.kind c.are_units_no_later.result (ap (λ (r : Row). r.kind) c.row.view_is) c.are_units_no_later.ensures in
    units-fail c.args.copies (reverse own) (reverse other) c.args.issue c.args.start c.args.row.now (sym results ∙ c.if-not-are_results_no_later.false) (sym units ∙ c.if-not-are_units_no_later.true)

pub returns-then-not-are_operands_no_later : goal.returns-then-not-are_operands_no_later
returns-then-not-are_operands_no_later c =
    let own = c.args.own.now in
    let other = c.args.other.now in
    let results = results-stated c.args.copies own other c.args.issue c.args.start c.args.row.now _ c.are_results_no_later.result (c.as_slice-writes.ensures.value ∙ ap (λ (r : Row). r.writes) c.row.view_is) c.are_results_no_later.ensures in
    let units = units-stated c.args.copies own other c.args.issue c.args.start c.args.row.now c.row.inside.kind c.are_units_no_later.result (ap (λ (r : Row). r.kind) c.row.view_is) c.are_units_no_later.ensures in
    let operands = operands-stated c.args.copies own other c.args.issue c.args.start c.args.row.now _ c.are_operands_no_later.result (c.as_slice.ensures.value ∙ ap (λ (r : Row). r.reads) c.row.view_is) c.are_operands_no_later.ensures in
    operands-fail c.args.copies (reverse own) (reverse other) c.args.issue c.args.start c.args.row.now (sym results ∙ c.if-not-are_results_no_later.false) (sym units ∙ c.if-not-are_units_no_later.false) (sym operands ∙ c.if-not-are_operands_no_later.true)

pub returns-then-memory_wait-max : goal.returns-then-memory_wait-max
returns-then-memory_wait-max c =
    let own = c.args.own.now in
    let other = c.args.other.now in
    let results = results-stated c.args.copies own other c.args.issue c.args.start c.args.row.now _ c.are_results_no_later.result (c.as_slice-writes.ensures.value ∙ ap (λ (r : Row). r.writes) c.row.view_is) c.are_results_no_later.ensures in
    let units = units-stated c.args.copies own other c.args.issue c.args.start c.args.row.now c.row.inside.kind c.are_units_no_later.result (ap (λ (r : Row). r.kind) c.row.view_is) c.are_units_no_later.ensures in
    let operands = operands-stated c.args.copies own other c.args.issue c.args.start c.args.row.now _ c.are_operands_no_later.result (c.as_slice.ensures.value ∙ ap (λ (r : Row). r.reads) c.row.view_is) c.are_operands_no_later.ensures in
    let memory = ap (λ (r : Row). r.memory) c.row.view_is in
    memory-fails c.args.copies (reverse own) (reverse other) c.args.issue c.args.start c.args.row.now (sym results ∙ c.if-not-are_results_no_later.false) (sym units ∙ c.if-not-are_units_no_later.false) (sym operands ∙ c.if-not-are_operands_no_later.false)
    (omega (arith, c.if-memory_wait-max.true, c.max.ensures, c.memory_wait.ensures ∙ memory-stated own c.row.inside.memory c.args.row.now memory, c.memory_wait-2.ensures ∙ memory-stated other c.row.inside.memory c.args.row.now memory))

pub returns : goal.returns
returns c =
    let own = c.args.own.now in
    let other = c.args.other.now in
    let writes = c.as_slice-writes.ensures.value ∙ ap (λ (r : Row). r.writes) c.row.view_is in
    let results = results-stated c.args.copies own other c.args.issue c.args.start c.args.row.now _ c.are_results_no_later.result writes c.are_results_no_later.ensures in
    let units = units-stated c.args.copies own other c.args.issue c.args.start c.args.row.now c.row.inside.kind c.are_units_no_later.result (ap (λ (r : Row). r.kind) c.row.view_is) c.are_units_no_later.ensures in
    let operands = operands-stated c.args.copies own other c.args.issue c.args.start c.args.row.now _ c.are_operands_no_later.result (c.as_slice.ensures.value ∙ ap (λ (r : Row). r.reads) c.row.view_is) c.are_operands_no_later.ensures in
    let memory = ap (λ (r : Row). r.memory) c.row.view_is in
    readers-stated c.args.copies own other c.args.issue c.args.start c.args.row.now _ c.are_readers_no_later.result writes c.are_readers_no_later.ensures
    ∙ readers-left c.args.copies (reverse own) (reverse other) c.args.issue c.args.start c.args.row.now (sym results ∙ c.if-not-are_results_no_later.false) (sym units ∙ c.if-not-are_units_no_later.false) (sym operands ∙ c.if-not-are_operands_no_later.false)
    (omega (arith, c.if-memory_wait-max.false, c.max.ensures, c.memory_wait.ensures ∙ memory-stated own c.row.inside.memory c.args.row.now memory, c.memory_wait-2.ensures ∙ memory-stated other c.row.inside.memory c.args.row.now memory))
