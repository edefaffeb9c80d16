use Rattle.std.proofs.Common.{◌≡◌, length, length-set, refl, sym, subst, arith, inl, inr, ◌∙◌, get_or-set_other}
use Rattle.std.proofs.lemmas.Bool.{cases_eq}
use Rattle.std.proofs.lemmas.Grind.{get_or-set_at}
use Rattle.s66_isa.specs.Table.{Reg}
use Rattle.s66_isa.specs.{index_of, no_set}
use Rattle.s66_isa.proofs.RegisterBits.{index-apart}
use Rattle.s66_isa.proofs.SameRegister.{same_reg-true}
use Rattle.s66_model.specs.{row_at, uses, longest_tail}
use Rattle.s66_time.proofs.RankOrder.{those-within, ranks-those}
use Rattle.s66_bound.specs.{AreRanks}
use Rattle.s66_bound.proofs.tables.users_by_rank.Goals as goal

pub ranks-requires : goal.ranks-requires
ranks-requires c =
    let (b, are, ranking) = c.requires.known in
    record { known = (longest_tail b, length b.block, ranking, those-within b.block (λ n. uses (row_at b n) c.register_at.result) c.users_of.result (c.users_of.ensures b are)) }

pub loop-index-preserved : goal.loop-index-preserved
loop-index-preserved c =
    let users = c.loop-index.users in
    let i = c.loop-index.index in
    let more = c.ranks.result in
    let r = c.register_at.result in
    record {
      size = length-set users i more ∙ c.loop-index.invariant.size;
      known = λ b are ranking x digit below.
          elim (cases_eq (index_of x) i) [
            | inl here ↦
                let same : r ≡ x = same_reg-true r x (index-apart r x c.register_at.ensures.digit digit (c.register_at.ensures.value ∙ sym here)) in
                let those = c.users_of.ensures b are in
                let ranks : AreRanks b (λ n. uses (row_at b n) r) more =
                ranks-those (longest_tail b) (length b.block) b.block (λ n. uses (row_at b n) r) c.users_of.result more refl those (c.ranks.ensures (longest_tail b) (length b.block) ranking (those-within b.block (λ n. uses (row_at b n) r) c.users_of.result those))
                in
                subst (AreRanks b (λ n. uses (row_at b n) x)) (sym (get_or-set_at users i (index_of x) more no_set here (omega (arith, c.loop-index.invariant.size))))
                (subst (λ (y : Reg). AreRanks b (λ n. uses (row_at b n) y) more) same ranks)
            | inr past ↦
                subst (AreRanks b (λ n. uses (row_at b n) x)) (sym (get_or-set_other users i (index_of x) more no_set past))
                (c.loop-index.invariant.known b are ranking x digit (omega (arith, past, below)))
          ];
    }
