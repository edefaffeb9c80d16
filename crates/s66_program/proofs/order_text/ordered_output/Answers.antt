use Rattle.std.proofs.Common.{◌≡◌, ◌∙◌, ◌++◌, List, None, Option, ap, ap₂, length, min, refl, replicate, subst, sym}
use Rattle.s66_line.specs.{Block}
use Rattle.s66_source.specs.{Placed, AreGiven, printed_in, blocks_of, classed_lines}
use Rattle.s66_answer.specs.{before, shown}
use Rattle.s66_answer.proofs.KeptParts.{kept-whole}
use Rattle.s66_program.specs.{all_given, columns_by, given_part}
use Rattle.s66_program.proofs.KeptAnswers.{given-within, same-blocks, standing-same}
use Rattle.s66_program.proofs.order_text.ordered_output.Goals as goal

pub print_source-requires : goal.print_source-requires
print_source-requires g c =
    let strategy = c.args.strategy in
    let p = c.args.profile.now in
    let style = c.args.style in
    let source = c.args.source.now in
    let only = c.args.only in
    let (blocks, read, (answers, are, is, ends)) =
    kept-whole (given_part p style) strategy p (λ n. all_given p style) (λ n. refl) (λ n b bs a more. refl) only source c.in_ok-parts.field-0.parts.items c.in_ok-parts.field-0.status c.in_ok-parts.ensures
    in
    let standing : c.min-standing.result ≡ min (before only) (length blocks) =
    c.min-standing.ensures ∙ ap₂ (λ k (bs : List Block). min k (length bs)) c.blocks_before.ensures.value (same-blocks source c.blocks-2.result.now blocks c.blocks-2.ensures read) in
    let given : c.as_slice.result.now ≡ replicate c.min-standing.result None ++ all_given p style (shown only blocks) answers =
    c.as_slice.ensures.value ∙ c.in_ok-given.ensures ∙ ap (λ (gs : List (Option Placed)). replicate c.min-standing.result None ++ gs) is in
    subst (AreGiven (blocks_of (classed_lines source))) (sym given) (given-within strategy p style only source blocks answers c.min-standing.result read are standing)

pub returns : goal.returns
returns g c =
    let strategy = c.args.strategy in
    let p = c.args.profile.now in
    let style = c.args.style in
    let source = c.args.source.now in
    let only = c.args.only in
    let (blocks, read, (answers, are, is, ends)) =
    kept-whole (given_part p style) strategy p (λ n. all_given p style) (λ n. refl) (λ n b bs a more. refl) only source c.in_ok-parts.field-0.parts.items c.in_ok-parts.field-0.status c.in_ok-parts.ensures
    in
    let standing : c.min-standing.result ≡ min (before only) (length blocks) =
    c.min-standing.ensures ∙ ap₂ (λ k (bs : List Block). min k (length bs)) c.blocks_before.ensures.value (same-blocks source c.blocks-2.result.now blocks c.blocks-2.ensures read) in
    let gs : List (Option Placed) = all_given p style (shown only blocks) answers in
    let ended : c.in_ok-parts.status ≡ c.in_ok-parts.field-0.status = rw c.in_ok-parts.status-is refl in
    let given : c.as_slice.result.now ≡ replicate c.min-standing.result None ++ gs =
    c.as_slice.ensures.value ∙ c.in_ok-given.ensures ∙ ap (λ (gs : List (Option Placed)). replicate c.min-standing.result None ++ gs) is in (
      blocks,
      read,
      (
        answers,
        are,
        c.in_ok-print_source.ensures ∙ ap₂ (λ columns given. printed_in style.quiet columns source given) c.columns_by.ensures given
            ∙ standing-same style.quiet (columns_by style.columns) source blocks c.min-standing.result (before only) gs read standing,
        (let told = ends in cc),
      ),
    )
