use Rattle.std.proofs.Common.{ℕ, ◌≡◌, ◌≢◌, ◌+◌, ◌∙◌, true, false, sym, subst, ap, arith, inl, inr, refl, eq-eqb, ne_eqb}
use Rattle.s66_isa.specs.{first_that, Among, numbers_in}
use Rattle.s66_model.specs.{row_at, is_remaining, head, chain, longest_tail}
use Rattle.s66_model.proofs.Remaining.{remaining-parts, remaining-among}
use Rattle.s66_model.proofs.FloorParts.{head-fits}
use Rattle.s66_model.proofs.WalkOver.{first-passed, first-failed}
use Rattle.s66_line.specs.{instrs_of}
use Rattle.s66_time.specs.{problem_of, points}
use Rattle.s66_bound.proofs.Heads.{heads_chain}
use Rattle.s66_bound.proofs.printed.first_of_chain.Goals.{else-saturating_sub-latest-via-then-saturating_sub-latest+else-head_of-longest, else-saturating_sub-latest-via-else-saturating_sub-latest}
use Rattle.s66_bound.proofs.printed.first_of_chain.Goals as goal

pub loop-number-init : goal.loop-number-init
loop-number-init c =
    let t = c.args.clock.now in
    record {
      found = ap (first_that (heads_chain (problem_of t) t.numbers)) c.requires.rest.numbers;
      remain = λ n among. remaining-among (instrs_of t.block) t.numbers n (subst (λ ns. Among n ns) c.requires.rest.numbers among);
    }

pub head_of-requires-clause-number : goal.head_of-requires-clause-number
head_of-requires-clause-number c =
    let t = c.args.clock.now in
    let n : ℕ = c.in-Some.number in
    let (low, high, new) = remaining-parts (instrs_of t.block) t.numbers n (c.loop-number.invariant.remain n (subst (λ ns. Among n ns) (sym c.in-Some.ensures.some) (inl refl))) in
    (low, high)

pub overflow_add-head_of : goal.overflow_add-head_of
overflow_add-head_of c =
    let t = c.args.clock.now in
    let n : ℕ = c.in-Some.number in
    let stays : is_remaining (instrs_of t.block) t.numbers n ≡ true = c.loop-number.invariant.remain n (subst (λ ns. Among n ns) (sym c.in-Some.ensures.some) (inl refl)) in
    let (low, high, new) = remaining-parts (instrs_of t.block) t.numbers n stays in
    omega (arith, c.head_of.ensures, c.requires.tables.longest n low high, head-fits (problem_of t) t.numbers n c.requires.rest.begins c.requires.rest.few c.requires.some stays)

pub returns-then-head_of-longest : goal.returns-then-head_of-longest
returns-then-head_of-longest c =
    let t = c.args.clock.now in
    let b = problem_of t in
    let n : ℕ = c.in-Some.number in
    let stays : is_remaining b.block t.numbers n ≡ true = c.loop-number.invariant.remain n (subst (λ ns. Among n ns) (sym c.in-Some.ensures.some) (inl refl)) in
    let (low, high, new) = remaining-parts b.block t.numbers n stays in
    let heads : heads_chain b t.numbers n ≡ true =
    eq-eqb (head (points t) (row_at b n) + longest_tail b n) (chain b t.numbers) (omega (arith, c.if-head_of-longest.true, c.head_of.ensures, c.requires.tables.longest n low high, c.requires.value))
    in
    sym (first-passed (heads_chain b t.numbers) n (numbers_in c.pop_first.new.self) heads)
    ∙ (ap (first_that (heads_chain b t.numbers)) (sym c.in-Some.ensures.some) ∙ c.loop-number.invariant.found)

pub loop-number-preserved : goal.loop-number-preserved
loop-number-preserved c =
    let t = c.args.clock.now in
    let b = problem_of t in
    let n : ℕ = c.in-Some.number in
    let stays : is_remaining b.block t.numbers n ≡ true = c.loop-number.invariant.remain n (subst (λ ns. Among n ns) (sym c.in-Some.ensures.some) (inl refl)) in
    let (low, high, new) = remaining-parts b.block t.numbers n stays in
    let past : head (points t) (row_at b n) + longest_tail b n ≢ chain b t.numbers = λ same.
    elim c.else-saturating_sub-latest.branch [
      | else-saturating_sub-latest-via-then-saturating_sub-latest+else-head_of-longest w ↦
          w.if-head_of-longest.false (omega (arith, same, w.head_of.ensures, c.requires.tables.longest n low high, c.requires.value))
      | else-saturating_sub-latest-via-else-saturating_sub-latest w ↦
          absurd (omega (arith, same, w.if-saturating_sub-latest.false, c.saturating_sub.ensures, c.latest_head-latest.ensures n, c.requires.tables.longest n low high, c.requires.value))
    ] in
    let off : heads_chain b t.numbers n ≡ false = ne_eqb (head (points t) (row_at b n) + longest_tail b n) (chain b t.numbers) past in
    record {
      found =
          sym (first-failed (heads_chain b t.numbers) n (numbers_in c.pop_first.new.self) off)
          ∙ (ap (first_that (heads_chain b t.numbers)) (sym c.in-Some.ensures.some) ∙ c.loop-number.invariant.found);
      remain = λ m among. c.loop-number.invariant.remain m (subst (λ ns. Among m ns) (sym c.in-Some.ensures.some) (inr among));
    }
