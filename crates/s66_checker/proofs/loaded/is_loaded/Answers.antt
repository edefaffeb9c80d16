use Rattle.std.proofs.Common.{ℕ, List, Bool, ◌&&◌, ◌∙◌, length, map, ltb, sym, arith, le-ltb, eqb-true}
use Rattle.std.proofs.lemmas.Bool.{and_left, and_right}
use Rattle.s66_isa.specs.{every}
use Rattle.s66_moments.specs.{use_time, use_of, kind_of_load, are_rising, is_left}
use Rattle.s66_facts.specs.{known_of as known_in}
use Rattle.s66_checker.proofs.LoadsLeft.{rising-few, gone}
use Rattle.s66_checker.proofs.loaded.is_loaded.Goals.{then-is_empty-via-then-is_empty, then-is_empty-via-else-is_empty+then-not-are_rising}
use Rattle.s66_checker.proofs.loaded.is_loaded.Goals.{then-is_empty-via-else-is_empty+else-not-are_rising+then-not-are_remaining}
use Rattle.s66_checker.proofs.loaded.is_loaded.Goals as goal

pub returns-then-is_empty : goal.returns-then-is_empty
returns-then-is_empty c =
    let q = c.args.prefix.now in
    let known = known_in c.args.known.now in
    let ns : List ℕ = c.args.numbers.now in
    let kind = kind_of_load q.problem ns in
    let time : ℕ = use_time q.problem kind (map (use_of q.problem) ns) in
    let some : Bool = ltb 0 (length ns) in
    let left : Bool = every (is_left q.problem known q.numbers kind c.args.bound c.args.after time) ns in
    sym (elim c.then-is_empty.branch [
      | then-is_empty-via-then-is_empty w ↦ and_left (some && are_rising ns) left (and_left some (are_rising ns) (le-ltb 0 (length ns) (omega (arith, eqb-true (length ns) 0 (sym c.is_empty.ensures ∙ w.if-is_empty.true)))))
      | then-is_empty-via-else-is_empty+then-not-are_rising w ↦ and_left (some && are_rising ns) left (and_right some (are_rising ns) (sym w.are_rising.ensures ∙ w.if-not-are_rising.true))
      | then-is_empty-via-else-is_empty+else-not-are_rising+then-not-are_remaining w ↦
          and_right (some && are_rising ns) left (gone q.problem q.numbers known kind c.args.bound c.args.after time ns (sym w.are_remaining.ensures ∙ w.if-not-are_remaining.true))
    ])

pub use_time-time-requires-clause-few : goal.use_time-time-requires-clause-few
use_time-time-requires-clause-few c =
    let q = c.args.prefix.now in
    let ns : List ℕ = c.args.numbers.now in
    omega (arith, c.requires.few, rising-few q.problem q.numbers ns (sym c.are_rising.ensures ∙ c.if-not-are_rising.false) (sym c.are_remaining.ensures ∙ c.if-not-are_remaining.false))
