-- With `--cut` nothing is refused for its operand; without it, and without a switch, nothing is left alone.
use Rattle.std.proofs.Common.{◌≡◌, ◌||◌, ℕ, suc, Bool, true, false, not, if◌then◌else◌, List, [], ◌∷◌, Option, None, Some, refl, Err}
use Rattle.std.proofs.lemmas.Bool.{and_parts, and_from, not-true}
use Rattle.s66_isa.specs.{every}
use Rattle.s66_line.specs.{Block, by_operation, class_of, is_code, is_located, body, continues, is_comment, lines_of, from_operation, Class, Comment, Other, Refused, Pad, Instruction}
use Rattle.s66_source.specs.{Flagged, after_line, at_first, class_at, flagged_from, is_alone, is_continued, is_held, is_doubtful, is_far, is_off_switch, is_on_switch, redefined_by, Standing}
use Rattle.s66_source.specs.{Redefined, is_redefined, blocks_of, classed_lines, classes_from, label_after, operand_refusal, or_else, place_after, refusal, run_after, source_of, unless_refused}
use Rattle.s66_source.specs.{SourceError, BadOperand, LineTooLong, TooLarge}

-- WITH `--cut` what would be refused is left alone

of-two : (number : ℕ) (first : Bool) (c : Class) → operand_refusal number c ≡ None → operand_refusal number (if first then Other else c) ≡ None
of-two number true c taken = refl
of-two number false c taken = taken

by-class : (number : ℕ) (known : Redefined) (c : Class) (line : List ℕ) → operand_refusal number (if is_doubtful known c line then Other else c) ≡ None
by-class number known Comment line = refl
by-class number known Other line = refl
by-class number known Refused line = refl
by-class number known (Pad located) line = of-two number (is_redefined known (from_operation line)) (Pad located) refl
by-class number known (Instruction located n) line = of-two number (is_redefined known (from_operation line) || is_far line) (Instruction located n) refl

by-fields : (number : ℕ) (known : Redefined) (comment comma after : Bool) (c : Class) (line : List ℕ) →
    operand_refusal number (if is_doubtful known (if comment then Comment else (if comma then Refused else c)) line then Other
    else (if comment then Comment else (if comma then (if after then Refused else Other) else c))) ≡ None
by-fields number known true comma after c line = refl
by-fields number known false true after c line = refl
by-fields number known false false after c line = by-class number known c line

none-held : (number : ℕ) (known : Redefined) (held after : Bool) (line : List ℕ) → operand_refusal number (if held || is_doubtful known (class_of true line) (body line) then Other else class_of after line) ≡ None
none-held number known true after line = refl
none-held number known false after line =
    by-fields number known (is_comment (body line)) (continues (body line)) after (by_operation (is_located (body line)) (from_operation (body line))) (body line)

pub none-refused : (number : ℕ) (after continued : Bool) (s : Standing) (line : List ℕ) → operand_refusal number (class_at after (record { alone = is_alone true s line continued; bytes = line })) ≡ None
none-refused number after continued s line = none-held number s.redefined (is_held true s line continued) after line

-- it is refused, if at all, for another reason
abbrev IsOther : Option SourceError → Type 0
IsOther None = Unit {0}
IsOther (Some (BadOperand line)) = ⊥
IsOther (Some e) = Unit {0}

other-line : (long many : Bool) (number : ℕ) (o r : Option SourceError) → o ≡ None → IsOther r → IsOther (or_else (if long then Some (LineTooLong number) else (if many then Some TooLarge else o)) r)
other-line true many number o r none h = tt
other-line false true number o r none h = tt
other-line false false number None r none h = h
other-line false false number (Some e) r none h = cc

other-refusal : (lines : List (List ℕ)) (number run index : ℕ) (label : List ℕ) (after : Bool) (s : Standing) → IsOther (refusal (classes_from number run index label after (flagged_from true s lines)))
other-refusal [] number run index label after s = tt
other-refusal (line ∷ lines) number run index label after s =
    let c = class_at after (record { alone = is_alone true s line (is_continued lines); bytes = line }) in
    other-line _ _ number (operand_refusal number c) _ (none-refused number after (is_continued lines) s line)
    (other-refusal lines (suc number) (run_after run c) (place_after index c) (label_after label c line) (is_code c) (after_line true s line))

not-operand : (r : Option SourceError) (blocks : List Block) (line : ℕ) → IsOther r → unless_refused r blocks ≡ Err (BadOperand line) → ⊥
not-operand None blocks line h e = cc
not-operand (Some (BadOperand n)) blocks line h e = h
not-operand (Some (LineTooLong n)) blocks line h e = cc
not-operand (Some TooLarge) blocks line h e = cc
not-operand (Some e') blocks line h e = cc

pub no-operand : (text : List ℕ) (line : ℕ) → source_of (record { cut = true; text = text }) ≡ Err (BadOperand line) → ⊥
no-operand text line e =
    not-operand (refusal (classed_lines (record { cut = true; text = text }))) (blocks_of (classed_lines (record { cut = true; text = text }))) line (other-refusal (lines_of text) 1 0 0 [] false (at_first (redefined_by (record { cut = true; text = text })))) e

-- WITHOUT IT, and without a switch

abbrev is_on : Flagged → Bool
is_on line = not line.alone

stays-on : (on : Bool) (off off_line : Bool) → off ≡ false → off_line ≡ false → (if on then false else (off || off_line)) ≡ false
stays-on true off off_line h k = refl
stays-on false off off_line h k = rw (h, k) refl

pub none-alone : (lines : List (List ℕ)) (s : Standing) → s.off ≡ false → every (λ line. not (is_off_switch (body line))) lines ≡ true → every is_on (flagged_from false s lines) ≡ true
none-alone [] s on none = refl
none-alone (line ∷ lines) s on none =
    let both = and_parts (not (is_off_switch (body line))) (every (λ line. not (is_off_switch (body line))) lines) none in
    let here : is_off_switch (body line) ≡ false = not-true (is_off_switch (body line)) both.0 in
    and_from (not (is_alone false s line (is_continued lines))) _ (rw (on, here) refl)
    (none-alone lines (after_line false s line) (stays-on (is_on_switch (body line)) s.off (is_off_switch (body line)) on here) both.1)
