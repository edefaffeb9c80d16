use Rattle.std.proofs.Common.{ℕ, List, [], ◌∷◌, Option, None, Some, Ok, ◌≡◌, ◌≤◌, ◌<◌, ◌^◌, ◌-◌, ◌++◌, ◌∙◌, ap, ap₂, arith, drop, length, refl, subst, sym, take}
use Rattle.s66_isa.specs.{Profile}
use Rattle.s66_command.specs.{Strategy}
use Rattle.s66_line.specs.{Block}
use Rattle.s66_source.specs.{Reading, SOURCE_LINES_LIMIT, source_of}
use Rattle.s66_source.proofs.FewBlocks.{few-blocks}
use Rattle.s66_views.specs.{AreOf, FoundOrder, page_text}
use Rattle.s66_answer.specs.{Status, Answer, AreAnswers, status_of, before, shown, AreAnswered}
use Rattle.s66_answer.proofs.KeptParts.{kept-whole, of-read}
use Rattle.s66_program.specs.{entries_of, all_found, found_part}
use Rattle.s66_program.proofs.FoundAnswers.{found-of}
use Rattle.s66_program.proofs.page_text.page_output.Goals as goal

few-one : (blocks : List Block) → length (take 1 blocks) ≤ 1
few-one [] = omega arith
few-one (block ∷ blocks) = omega arith

few-shown : (only : Option ℕ) (blocks : List Block) → length blocks ≤ SOURCE_LINES_LIMIT → length (shown only blocks) < 2 ^ 31
few-shown None blocks few = omega (arith, few)
few-shown (Some n) blocks few = omega (arith, few-one (drop (n - 1) blocks))

-- what is found of the blocks that were read
found : (entries : List (List ℕ)) (strategy : Strategy) (p : Profile) (only : Option ℕ) (source : Reading) (status : Status) (blocks : List Block) (fs : List FoundOrder) → source_of source ≡ Ok blocks →
    AreAnswered (found_part entries strategy p) strategy p only source fs status →
    (answers : List Answer) × AreAnswers strategy p (shown only blocks) answers × (fs ≡ all_found entries strategy.search.rule p (before only) (shown only blocks) answers) × (status ≡ status_of answers)
found entries strategy p only source status blocks fs read kept =
    of-read (λ bs answers. fs ≡ all_found entries strategy.search.rule p (before only) bs answers) strategy p only source status blocks read
    (kept-whole (found_part entries strategy p) strategy p (all_found entries strategy.search.rule p) (λ n. refl) (λ n b bs a more. refl) only source fs status kept)

pub push_page-requires-clause-few : goal.push_page-requires-clause-few
push_page-requires-clause-few g c =
    let blocks = c.blocks-2.result.now in
    subst (λ (bs : List Block). length bs < 2 ^ 31) (sym c.shown-blocks.ensures) (few-shown c.args.only blocks (few-blocks c.args.source.now blocks c.blocks-2.ensures))

pub push_page-requires-clause-found : goal.push_page-requires-clause-found
push_page-requires-clause-found g c =
    let strategy = c.args.strategy in
    let p = c.args.profile.now in
    let only = c.args.only in
    let blocks = c.blocks-2.result.now in
    let all = c.in_ok-all.all in
    let (answers, are, is, ends) = found c.as_slice.result.now strategy p only c.args.source.now all.status blocks all.parts.items c.blocks-2.ensures c.in_ok-all.ensures in
    subst (λ (bs : List Block). AreOf bs c.as_slice-2.result.now) (sym c.shown-blocks.ensures)
    (subst (AreOf (shown only blocks)) (sym (c.as_slice-2.ensures.value ∙ is)) (found-of c.as_slice.result.now strategy strategy.search.rule p (before only) (shown only blocks) answers are))

pub returns : goal.returns
returns g c =
    let p = c.args.profile.now in
    let only = c.args.only in
    let blocks = c.blocks-2.result.now in
    let n = c.blocks_before.result in
    let all = c.in_ok-all.all in
    let (answers, are, is, ends) = found c.as_slice.result.now c.args.strategy p only c.args.source.now all.status blocks all.parts.items c.blocks-2.ensures c.in_ok-all.ensures in
    let rule = c.args.strategy.search.rule in
    let names : c.as_slice.result.now ≡ entries_of c.args.source.now = c.as_slice.ensures.value ∙ c.in_ok-entries.ensures in
    let page = all_found c.as_slice.result.now rule p (before only) (shown only blocks) answers in
    let text : c.push_page.new.out.items ≡ page_text p (before only) (shown only blocks) (all_found (entries_of c.args.source.now) rule p (before only) (shown only blocks) answers) =
    c.in_ok-push_page.ensures ∙ ap (λ xs. xs ++ page_text p n c.shown-blocks.result.now c.as_slice-2.result.now) c.new-text.ensures.items
    ∙ ap (λ (fs : List FoundOrder). page_text p n c.shown-blocks.result.now fs) (c.as_slice-2.ensures.value ∙ is) ∙ ap₂ (λ k bs. page_text p k bs page) c.blocks_before.ensures.value c.shown-blocks.ensures
    ∙ ap (λ (entries : List (List ℕ)). page_text p (before only) (shown only blocks) (all_found entries rule p (before only) (shown only blocks) answers)) names
    in
    (blocks, c.blocks-2.ensures, (answers, are, text, ends))
