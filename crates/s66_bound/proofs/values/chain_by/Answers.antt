use Rattle.std.proofs.Common.{ℕ, ◌+◌, ◌≡◌, ◌≤◌, not, ◌&&◌, List, length, get_or, sym, subst, arith}
use Rattle.s66_isa.specs.{has, index_of, Set, numbers_in, no_set}
use Rattle.s66_isa.specs.Table.{Reg}
use Rattle.s66_model.specs.{Problem, longest_tail, chain_by}
use Rattle.s66_model.proofs.FloorParts.{by-fits}
use Rattle.s66_time.specs.{problem_of}
use Rattle.s66_time.proofs.RankOrder.{ranks-both}
use Rattle.s66_bound.specs.{AreRanks, HasUsers}
use Rattle.s66_bound.proofs.RemainingSums.{is_user, by-greatest, by-none}
use Rattle.s66_bound.proofs.values.chain_by.Goals as goal

-- the ranks of the users that remain
users-are : (b : Problem) (prefix : List ℕ) (sets : List Set) (x : Reg) (i : ℕ) (ranks both : Set) → HasUsers b sets → i ≡ index_of x → x.digit ≤ 7 → AreRanks b (λ n. not (has n prefix)) ranks →
    ((r : ℕ) → has r (numbers_in both) ≡ (has r (numbers_in ranks) && has r (numbers_in (get_or sets i no_set)))) → AreRanks b (λ n. not (has n prefix) && is_user b x n) both
users-are b prefix sets x i ranks both known here digit left joined =
    ranks-both (longest_tail b) (length b.block) (λ n. not (has n prefix)) (is_user b x) ranks (get_or sets i no_set) both left (subst (λ k. AreRanks b (is_user b x) (get_or sets k no_set)) (sym here) (known x digit)) joined

module _ (c : goal.After-done_of) where
  sum-is : c.done_of.result + c.in-Some.tail ≡ chain_by (problem_of c.args.clock.now) c.args.clock.now.numbers c.args.register
  sum-is =
      let t = c.args.clock.now in
      let b = problem_of t in
      let x = c.args.register in
      by-greatest b t.numbers x c.done_of.result c.in-Some.tail c.done_of.ensures
      (c.in-Some.ensures.some (longest_tail b) (length b.block) (λ n. not (has n t.numbers) && is_user b x n) c.requires.tables.ranking (users-are b t.numbers c.args.tables.now.users_by_rank x c.index.result c.args.ranks.now c.both-users.result c.requires.tables.users c.index.ensures.value c.index.ensures.digit c.requires.ranks c.both-users.ensures))

pub overflow_add-result : goal.overflow_add-result
overflow_add-result c =
    let t = c.args.clock.now in
    omega (arith, sum-is c, by-fits (problem_of t) t.numbers c.args.register c.requires.begins c.requires.tables.few c.requires.some)

pub returns-in-Some : goal.returns-in-Some
returns-in-Some c = sum-is c

pub returns-in-None : goal.returns-in-None
returns-in-None c =
    let t = c.args.clock.now in
    let b = problem_of t in
    let x = c.args.register in
    sym (by-none b t.numbers x c.both-users.result
    (users-are b t.numbers c.args.tables.now.users_by_rank x c.index.result c.args.ranks.now c.both-users.result c.requires.tables.users c.index.ensures.value c.index.ensures.digit c.requires.ranks c.both-users.ensures) c.in-None.ensures.none)
