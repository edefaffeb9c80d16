use Rattle.std.proofs.Common.{ℕ, ◌-◌, ◌≡◌, ◌≤◌, List, length, map, get_or, sym, ap, subst, arith, ◌∙◌}
use Rattle.s66_isa.specs.{Instr, BLOCK_LIMIT, row, Set, has, numbers_in, no_set}
use Rattle.s66_model.specs.{Problem}
use Rattle.s66_moments.specs.{known_first, KnownArc}
use Rattle.s66_facts.specs.{before_in, IsClosedUpTo, IsAcyclic, known_of}
use Rattle.s66_facts.proofs.FirstKnown.{before-is, first-known, first-ordered}
use Rattle.s66_facts.proofs.NearEach.{turned-is, all-are}
use Rattle.s66_facts.proofs.graph.Graph.close.Goals as goal

pub invariant_of-result : goal.invariant_of-result
invariant_of-result c =
    let copied : c.in-Ok.copy.items ≡ c.args.block.now = c.in-Ok.ensures.0 in
    let block : List Instr = c.in-Ok.copy.items in
    let b : Problem = record { block = block; profile = c.args.profile.now } in
    let marks = c.before_each-before.result.items in
    let few : length block ≤ BLOCK_LIMIT = omega (arith, ap (λ (is : List Instr). length is) copied, c.requires) in
    let count : length marks ≡ length block = c.before_each-before.ensures.count ∙ ap (λ (is : List Instr). length is) (sym copied) in
    let closed : IsClosedUpTo block marks (length block) = subst (λ (is : List Instr). IsClosedUpTo is marks (length is)) (sym copied) c.before_each-before.ensures.closed in
    let after = c.turned-after.result.items in
    let count_after : length after ≡ length block = c.turned-after.ensures.count ∙ (ap (λ (ms : List Set). length ms) c.as_slice-2.ensures.value ∙ count) in
    let each : (n : ℕ) → 1 ≤ n → n ≤ length marks → (m : ℕ) → has m (numbers_in (get_or after (n - 1) no_set)) ≡ before_in marks n m =
    subst (λ (ms : List Set). (n : ℕ) → 1 ≤ n → n ≤ length ms → (m : ℕ) → has m (numbers_in (get_or after (n - 1) no_set)) ≡ before_in ms n m) c.as_slice-2.ensures.value c.turned-after.ensures.each in
    let turned : (m n : ℕ) → before_in after n m ≡ before_in marks m n = turned-is b marks after count count_after each in
    record {
      ordered = subst (λ (loads : List KnownArc). IsAcyclic (record { problem = b; marks = marks; loads = loads })) (sym c.none.ensures) (first-ordered b marks few count closed);
      known_rows = c.rows_of.ensures ∙ ap (map (row c.args.profile.now)) (sym copied);
      count = count_after;
      turned = turned;
      near_before = all-are b marks c.copy_of-near_before.result.items count (c.copy_of-near_before.ensures ∙ c.as_slice.ensures.value) (λ n is_n m low. closed n m is_n.0 is_n.1 low ∙ sym (ap (λ f. f m n) (before-is block marks count closed)));
      near_after = all-are b after c.copy_of-near_after.result.items count_after (c.copy_of-near_after.ensures ∙ c.as_slice-3.ensures.value) (λ n is_n m low. each n is_n.0 (omega (arith, is_n.1, count)) m ∙ sym (turned n m));
    }

pub returns-clause-known : goal.returns-clause-known
returns-clause-known c =
    let copied : c.in-Ok.copy.items ≡ c.args.block.now = c.in-Ok.ensures.0 in
    let block : List Instr = c.in-Ok.copy.items in
    let b : Problem = record { block = block; profile = c.args.profile.now } in
    let marks = c.before_each-before.result.items in
    let count : length marks ≡ length block = c.before_each-before.ensures.count ∙ ap (λ (is : List Instr). length is) (sym copied) in
    let closed : IsClosedUpTo block marks (length block) = subst (λ (is : List Instr). IsClosedUpTo is marks (length is)) (sym copied) c.before_each-before.ensures.closed in
    subst (λ (loads : List KnownArc). known_of (record { problem = b; marks = marks; loads = loads }) ≡ known_first b) (sym c.none.ensures) (first-known b marks count closed)
