use Rattle.std.proofs.Common.{ℕ, ◌≡◌, ◌+◌, ◌∙◌, List, [], ◌∷◌, length, refl, subst, sym}
use Rattle.std.proofs.lemmas.Bool.{eqb-false}
use Rattle.std.proofs.lemmas.List.{take_rest}
use Rattle.s66_line.specs.{last_line}
use Rattle.s66_line.proofs.LineCuts.{IsFirstNewline, lines_from-found, last-none}
use Rattle.s66_source.proofs.lines.cut_line.Goals as goal

last-alone : (line : List ℕ) → (length line ≡ 0 → ⊥) → last_line line ≡ line ∷ []
last-alone [] some = absurd (some refl)
last-alone (b ∷ line) some = refl

pub returns-in-Some-clause-line : goal.returns-in-Some-clause-line
returns-in-Some-clause-line c =
    let text = c.args.text.now in
    rw (take_rest text (c.in-Some.end + 1)) (lines_from-found [] text c.in-Some.end (subst (IsFirstNewline text) c.in-Some.is c.memchr.ensures))

pub returns-else-is_empty-clause-line : goal.returns-else-is_empty-clause-line
returns-else-is_empty-clause-line c =
    let text = c.args.text.now in
    last-none text (subst (IsFirstNewline text) c.in_default.is c.memchr.ensures) ∙ last-alone text (eqb-false (length text) 0 (sym c.is_empty.ensures ∙ c.if-is_empty.false))
