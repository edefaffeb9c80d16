use Rattle.std.proofs.Common.{◌≡◌, ◌<◌, ◌∙◌, All, Global, IfOk, Vec, ap, arith, length, subst, sym}
use Rattle.s66_answer.specs.{ArePut, Made}
use Rattle.s66_answer.proofs.Places.{none-put}
use Rattle.s66_answer.proofs.turns.make_each.Goals as goal

pub put_share-requires : goal.put_share-requires
put_share-requires g c =
    let gives = g.W.Task.gives c.args.task.now in
    let count : length c.as_mut_slice-places.result.now ≡ c.args.count = ap length c.as_mut_slice-places.ensures.value ∙ c.in_ok-empty.ensures.count in
    record {
      within = subst (λ n. All (λ (m : Made g.row.T.Denot). (m.number < n) × gives m.number m.value) c.share_out-theirs.result.1.items) (sym count) c.share_out-theirs.ensures.own;
      put = subst (ArePut gives) (sym c.as_mut_slice-places.ensures.value) (none-put gives c.in_ok-empty.empty.items c.in_ok-empty.ensures.empty);
    }

pub put_shares-requires : goal.put_shares-requires
put_shares-requires g c =
    let gives = g.W.Task.gives c.args.task.now in
    let count : length c.put_share.new.places ≡ c.args.count = c.put_share.ensures.count ∙ (ap length c.as_mut_slice-places.ensures.value ∙ c.in_ok-empty.ensures.count) in
    record {
      within =
          subst (λ n. All (λ (s : Vec (Made g.row.T.Denot) Global). All (λ (m : Made g.row.T.Denot). (m.number < n) × gives m.number m.value) s.items) c.share_out-theirs.result.0.items) (sym count) c.share_out-theirs.ensures.others;
      put = c.put_share.ensures.put;
    }

pub take_all-requires : goal.take_all-requires
take_all-requires g c =
    let count : length c.put_shares.new.places ≡ c.args.count = c.put_shares.ensures.count ∙ (c.put_share.ensures.count ∙ (ap length c.as_mut_slice-places.ensures.value ∙ c.in_ok-empty.ensures.count)) in
    record { accepts = λ i within. c.requires i (omega (arith, within, count)); put = c.put_shares.ensures.put }

pub returns : goal.returns
returns g c =
    let count : length c.put_shares.new.places ≡ c.args.count = c.put_shares.ensures.count ∙ (c.put_share.ensures.count ∙ (ap length c.as_mut_slice-places.ensures.value ∙ c.in_ok-empty.ensures.count)) in
    record { count = subst (λ n. IfOk c.take_all.result (λ (all : Vec g.row.T.Denot Global). length all.items ≡ n)) count c.take_all.ensures.count; made = c.take_all.ensures.made }
