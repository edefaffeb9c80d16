use Rattle.std.proofs.Common.{ℕ, ◌≡◌, ◌≤◌, ◌∙◌, Bool, List, Ok, Option, length, ap, ap₂, refl, sym, subst}
use Rattle.s66_isa.specs.{Profile}
use Rattle.s66_command.specs.{Strategy}
use Rattle.s66_line.specs.{Block}
use Rattle.s66_source.specs.{Reading, SOURCE_LINES_LIMIT, ArePlaced, Placed, source_of}
use Rattle.s66_answer.specs.{Status, Answer, AreAnswers, status_of, before, shown, AreAnswered}
use Rattle.s66_answer.proofs.KeptParts.{kept-whole, of-read}
use Rattle.s66_program.specs.{entries_of, Orders, loops_of, Loop, Row, all_placed, placed_part, AreNumbered, IsSumText, orders_of, sum_rows_of}
use Rattle.s66_program.proofs.PlacedAnswers.{all-within}
use Rattle.s66_program.proofs.SumRows.{few-rows, length-placed, rows-numbered}
use Rattle.s66_program.proofs.sum_text.sum_output.Goals as goal

module _ (strategy : Strategy) (p : Profile) (trace : Bool) (only : Option ℕ) (source : Reading) (status : Status) (blocks : List Block) (ps : List Placed)
    (read : source_of source ≡ Ok blocks) (kept : AreAnswered (placed_part p trace) strategy p only source ps status) where
  placed : (answers : List Answer) × AreAnswers strategy p (shown only blocks) answers × (ps ≡ all_placed p trace (shown only blocks) answers) × (status ≡ status_of answers)
  placed =
      of-read (λ bs answers. ps ≡ all_placed p trace bs answers) strategy p only source status blocks read
      (kept-whole (placed_part p trace) strategy p (λ n. all_placed p trace) (λ n. refl) (λ n b bs a more. refl) only source ps status kept)

  placed-shown : ArePlaced (shown only blocks) ps
  placed-shown =
      let (answers, are, is, ends) = placed in
      subst (ArePlaced (shown only blocks)) (sym is) (all-within strategy p trace (shown only blocks) answers are)

pub rows_of-requires-clause-found : goal.rows_of-requires-clause-found
rows_of-requires-clause-found g c =
    let only = c.args.only in
    let blocks = c.blocks-2.result.now in
    let all = c.in_ok-all.all in
    let are = placed-shown c.args.strategy c.args.profile.now c.args.style.trace only c.args.source.now all.status blocks all.parts.items c.blocks-2.ensures c.in_ok-all.ensures in
    ap (λ (ps : List Placed). length ps) c.as_slice-found.ensures.value ∙ length-placed (shown only blocks) all.parts.items are ∙ sym (ap (λ (bs : List Block). length bs) c.shown-blocks.ensures)

pub rows_of-requires-clause-placed : goal.rows_of-requires-clause-placed
rows_of-requires-clause-placed g c =
    let all = c.in_ok-all.all in
    let are = placed-shown c.args.strategy c.args.profile.now c.args.style.trace c.args.only c.args.source.now all.status c.blocks-2.result.now all.parts.items c.blocks-2.ensures c.in_ok-all.ensures in
    subst (λ (bs : List Block). ArePlaced bs c.as_slice-found.result.now) (sym c.shown-blocks.ensures) (subst (ArePlaced (shown c.args.only c.blocks-2.result.now)) (sym c.as_slice-found.ensures.value) are)

pub loops_of-requires-clause-placed : goal.loops_of-requires-clause-placed
loops_of-requires-clause-placed g c =
    let all = c.in_ok-all.all in
    let are = placed-shown c.args.strategy c.args.profile.now c.args.style.trace c.args.only c.args.source.now all.status c.blocks-2.result.now all.parts.items c.blocks-2.ensures c.in_ok-all.ensures in
    subst (λ (bs : List Block). ArePlaced bs c.as_slice-found.result.now) (sym c.shown-blocks.ensures) (subst (ArePlaced (shown c.args.only c.blocks-2.result.now)) (sym c.as_slice-found.ensures.value) are)

pub sum_text-requires : goal.sum_text-requires
sum_text-requires g c =
    let only = c.args.only in
    let blocks = c.blocks-2.result.now in
    let ps = c.in_ok-all.all.parts.items in
    let same : c.in_ok-rows.rows.items ≡ sum_rows_of (before only) (shown only blocks) ps =
    c.in_ok-rows.ensures ∙ ap (sum_rows_of c.blocks_before-before.result c.shown-blocks.result.now) c.as_slice-found.ensures.value ∙ ap₂ (λ n bs. sum_rows_of n bs ps) c.blocks_before-before.ensures.value c.shown-blocks.ensures
    in
    record {
      numbered = subst AreNumbered (sym same) (rows-numbered (before only) (shown only blocks) ps);
      few = subst (λ (rows : List Row). length rows ≤ SOURCE_LINES_LIMIT) (sym same) (few-rows c.args.source.now only blocks ps c.blocks-2.ensures);
    }

pub returns : goal.returns
returns g c =
    let p = c.args.profile.now in
    let only = c.args.only in
    let style = c.args.style in
    let source = c.args.source.now in
    let blocks = c.blocks-2.result.now in
    let all = c.in_ok-all.all in
    let text = c.in_ok-text.text.items in
    let (answers, are, is, ends) = placed c.args.strategy p style.trace only source all.status blocks all.parts.items c.blocks-2.ensures c.in_ok-all.ensures in
    let ps = all_placed p style.trace (shown only blocks) answers in
    let found : c.as_slice-found.result.now ≡ ps = c.as_slice-found.ensures.value ∙ is in
    let rows : c.in_ok-rows.rows.items ≡ sum_rows_of (before only) (shown only blocks) ps =
    c.in_ok-rows.ensures ∙ ap (sum_rows_of c.blocks_before-before.result c.shown-blocks.result.now) found
    ∙ ap₂ (λ n bs. sum_rows_of n bs ps) c.blocks_before-before.ensures.value c.shown-blocks.ensures in
    let orders : record { before = c.blocks_before-before.result; blocks = c.shown-blocks.result.now; found = c.as_slice-found.result.now } ≡ orders_of only (shown only blocks) ps =
    rw (c.blocks_before-before.ensures.value, c.shown-blocks.ensures, found) refl in
    let loops : c.as_slice.result.now ≡ loops_of (orders_of only (shown only blocks) ps) source =
    c.as_slice.ensures.value ∙ c.in_ok-loops.ensures ∙ ap (λ (o : Orders). loops_of o source) orders in
    let names : c.as_slice-2.result.now ≡ entries_of source = c.as_slice-2.ensures.value ∙ c.in_ok-entries.ensures in
    let said : IsSumText p style (loops_of (orders_of only (shown only blocks) ps) source) (entries_of source) (sum_rows_of (before only) (shown only blocks) ps) text =
    subst (λ (xs : List Row). IsSumText p style (loops_of (orders_of only (shown only blocks) ps) source) (entries_of source) xs text) rows
    (subst (λ (names : List (List ℕ)). IsSumText p style (loops_of (orders_of only (shown only blocks) ps) source) names c.in_ok-rows.rows.items text) names
    (subst (λ (ls : List (Option Loop)). IsSumText p style ls c.as_slice-2.result.now c.in_ok-rows.rows.items text) loops c.in_ok-text.ensures)) in
    (blocks, c.blocks-2.ensures, (answers, are, said, ends))
