use Rattle.std.proofs.Common.{◌≡◌, ◌++◌, OnOk, codes, rules}
use Rattle.s66_reasons.proofs.Texts.{row-pushed}
use Rattle.s66_reasons.proofs.leaf.push_issue_row.Goals as goal

pub returns : goal.returns
returns c =
    let ended : OnOk c.extend_from_slice.result (c.extend_from_slice.new.self.items ≡ c.push_around.new.out.items ++ codes "\n") = search rules in
    row-pushed c.extend_from_slice.result c.args.out.now.items _ _ _ _ 0 c.in_ok-push_number.ensures c.in_ok-push_around.ensures ended
