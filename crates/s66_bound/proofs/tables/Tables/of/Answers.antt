use Rattle.std.proofs.Common.{ℕ, ◌-◌, ◌≡◌, List, length, get_or, sym, subst, arith, rules}
use Rattle.s66_model.specs.{Problem, longest_tail, HasWords}
use Rattle.s66_time.specs.{Ranking}
use Rattle.s66_time.specs.Ranks as by_word
use Rattle.s66_time.proofs.RankOrder.{ranking-same}
use Rattle.s66_bound.specs.{AreEnds, IsRanking, HasSingles}
use Rattle.s66_bound.proofs.tables.Tables.of.Goals as goal

-- the words of the costs are the longest tails of the block
by-tail : (b : Problem) (words : List ℕ) (count : ℕ) (ranking : Ranking) → HasWords b (longest_tail b) words → count ≡ length b.block → by_word.IsRanking (λ n. get_or words (n - 1) 0) count ranking → IsRanking b ranking
by-tail b words count ranking longest all is =
    subst (λ k. by_word.IsRanking (longest_tail b) k ranking) all
    (ranking-same (λ n. get_or words (n - 1) 0) (longest_tail b) count (λ n low high. longest n low (omega (arith, high, all))) ranking is)

pub users_by_rank-requires-clause-known : goal.users_by_rank-requires-clause-known
users_by_rank-requires-clause-known c =
    let (b, are) = c.requires.known in
    (b, are, by-tail b _ _ _ (c.longest_tails-longest.ensures b are) are.count c.of-by_tail.ensures.ranking)

pub returns : goal.returns
returns c = λ b same are.
    let longest = c.longest_tails-longest.ensures b are in
    let ranking = by-tail b _ _ _ longest are.count c.of-by_tail.ensures.ranking in
    record {
      few = omega (arith, are.count, c.requires.few);
      all = search rules;
      long = c.long_numbers.ensures b are;
      longest = longest;
      spare = c.spares-spare.ensures b are;
      ranking = ranking;
      ends = subst (λ k. AreEnds c.spares-spare.result k c.ends_of.result) are.count c.ends_of.ensures;
      works = c.works_by_kind.ensures b are;
      singles = λ has. subst HasSingles (sym same) (c.has_singles.ensures has);
      users = c.users_by_rank.ensures b are ranking;
      written = c.written_registers.ensures.written b are;
      registers = c.written_registers.ensures.registers;
    }
