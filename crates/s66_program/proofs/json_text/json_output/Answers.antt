use Rattle.std.proofs.Common.{ℕ, ◌≡◌, ◌∙◌, IfOk, List, Option, subst, sym}
use Rattle.s66_command.specs.{Strategy}
use Rattle.s66_answer.specs.{Output}
use Rattle.s66_program.specs.{entries_of, IsJsonOutput, written_line, IsListing}
use Rattle.s66_program.proofs.json_text.json_output.Goals as goal

pub returns-in-None : goal.returns-in-None
returns-in-None g c =
    let names : c.as_slice.result.now ≡ entries_of c.args.source.now = c.as_slice.ensures.value ∙ c.in_ok-entries.ensures in
    subst (λ (order : Option Strategy). IfOk c.listing_output.result (λ (output : Output). IsJsonOutput c.args.profile.now order c.args.only c.args.source.now output.text.items output.status)) (sym c.in-None.is)
    (subst (λ (entries : List (List ℕ)). IfOk c.listing_output.result (λ (output : Output). IsListing (written_line entries c.args.profile.now) c.args.only c.args.source.now output.text.items output.status)) names
    c.listing_output.ensures)
