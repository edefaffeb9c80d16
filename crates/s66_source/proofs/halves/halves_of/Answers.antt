use Rattle.std.proofs.Common.{ℕ, Bool, true, false, List, ◌≡◌, ◌+◌, ◌-◌, ◌∙◌, Option, length, drop, take, ap, subst, sym, arith, length-drop}
use Rattle.std.proofs.lemmas.List.{take_rest}
use Rattle.s66_line.proofs.LineCuts.{IsFirstNewline}
use Rattle.s66_source.specs.{is_new_mark}
use Rattle.s66_source.proofs.HalvesFound.{last-mark, last-other, mark-here, mark-later}
use Rattle.s66_source.proofs.halves.halves_of.Goals as goal

-- the bytes from a place on, as the code cuts them
abbrev from : ℕ → List ℕ → List ℕ
from begin text = take (length text - begin) (drop begin text)

first : (text : List ℕ) (begin : ℕ) (o p : Option ℕ) → o ≡ p → IsFirstNewline (from begin text) o → IsFirstNewline (drop begin text) p
first text begin o p is cut = subst (λ xs. IsFirstNewline xs p) (take_rest text begin) (subst (IsFirstNewline (from begin text)) is cut)

-- whether a line from there on is the mark
marked : (text : List ℕ) (begin k : ℕ) (is : Bool) → is_new_mark (take (begin + k - begin) (drop begin text)) ≡ is → is_new_mark (take k (drop begin text)) ≡ is
marked text begin k is stated =
    let same : k ≡ begin + k - begin = omega arith in
    ap (λ n. is_new_mark (take n (drop begin text))) same ∙ stated

last_marked : (text : List ℕ) (begin : ℕ) (is : Bool) → is_new_mark (from begin text) ≡ is → is_new_mark (drop begin text) ≡ is
last_marked text begin is stated = subst (λ xs. is_new_mark xs ≡ is) (take_rest text begin) stated

pub returns-then-is_new_mark : goal.returns-then-is_new_mark
returns-then-is_new_mark c =
    let text = c.args.text.now in
    let begin = c.loop-length.begin in
    let k = c.in-Some.length in
    rw (take_rest text (begin + k + 1)) (mark-here text begin k (first text begin _ _ c.in-Some.is c.memchr.ensures) (marked text begin k true (sym c.is_new_mark.ensures ∙ c.if-is_new_mark.true)) c.loop-length.invariant.none)

pub loop-length-preserved : goal.loop-length-preserved
loop-length-preserved c =
    let text = c.args.text.now in
    let begin = c.loop-length.begin in
    let k = c.in-Some.length in
    let found = first text begin _ _ c.in-Some.is c.memchr.ensures in
    record {
      within = (let high = found.0.high in omega (arith, high, length-drop begin text));
      none = mark-later text begin k found (marked text begin k false (sym c.is_new_mark.ensures ∙ c.if-is_new_mark.false)) c.loop-length.invariant.none;
    }

pub returns-then-is_new_mark-2 : goal.returns-then-is_new_mark-2
returns-then-is_new_mark-2 c =
    let text = c.args.text.now in
    let begin = c.loop-length.begin in
    sym (last-mark (take begin text) (drop begin text) (first text begin _ _ c.in_default.is c.memchr.ensures) (last_marked text begin true (sym c.is_new_mark-2.ensures ∙ c.if-is_new_mark-2.true))) ∙ c.loop-length.invariant.none

pub returns : goal.returns
returns c =
    let text = c.args.text.now in
    let begin = c.loop-length.begin in
    sym (last-other (take begin text) (drop begin text) (first text begin _ _ c.in_default.is c.memchr.ensures) (last_marked text begin false (sym c.is_new_mark-2.ensures ∙ c.if-is_new_mark-2.false))) ∙ c.loop-length.invariant.none
