use Rattle.std.proofs.Common.{List, ◌≡◌, ◌+◌, ◌++◌, ◌∙◌, ◌∷◌, ap, append_assoc, arith, drop, sym}
use Rattle.std.proofs.lemmas.List.{drop_more}
use Rattle.s66_isa.specs.{Profile}
use Rattle.s66_line.specs.{Block}
use Rattle.s66_program.specs.{lines_of_blocks}
use Rattle.s66_program.proofs.listing.text_of_blocks.Goals as goal

pub loop-i-preserved : goal.loop-i-preserved
loop-i-preserved g c =
    let lines = g.L.Listing.lines c.args.listing.now in
    let own = lines c.args.profile.now in
    let n = c.args.before in
    let blocks = c.args.blocks.now in
    let i = c.loop-i.i in
    let out = c.loop-i.out.items in
    let block = c.index-blocks-i.result in
    let rest = drop (i + 1) blocks in
    let mine = own (n + i + 1) block in
    let left : drop i blocks ≡ block ∷ rest = drop_more blocks i block c.loop-i-test.true ∙ ap (λ (b : Block). b ∷ rest) (sym c.index-blocks-i.is) in
    let from : n + (i + 1) ≡ n + i + 1 = omega arith in
    let pushed : c.push_lines.new.out.items ≡ out ++ mine = c.in_ok-push_lines.ensures.lines ∙ ap (λ (q : Profile). out ++ lines q (n + i + 1) block) c.loop-i.invariant.profile in
    record {
      profile = c.in_ok-push_lines.ensures.profile ∙ c.loop-i.invariant.profile;
      lines = ap (λ xs. xs ++ lines_of_blocks own (n + (i + 1)) rest) pushed ∙ append_assoc out mine (lines_of_blocks own (n + (i + 1)) rest)
          ∙ ap (λ k. out ++ (mine ++ lines_of_blocks own k rest)) from ∙ sym (ap (λ (bs : List Block). out ++ lines_of_blocks own (n + i) bs) left) ∙ c.loop-i.invariant.lines;
    }
