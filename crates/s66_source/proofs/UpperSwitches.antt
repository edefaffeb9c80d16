-- Letters in upper case leave what is left alone as it is.
use Rattle.std.proofs.Common.{◌≡◌, ◌-◌, ◌&&◌, ◌||◌, ℕ, Bool, true, false, if◌then◌else◌, List, [], ◌∷◌, codes, length, map, nat_lt, refl, sym, ap, ap₂, ◌∙◌, nat_le, None, bytes_eq, is_some}
use Rattle.s66_line.specs.{by_operation, class_of, class_of_operand, is_pad, is_located, instr_of, operation_of, is_filled, after_word, body, operation, from_operand, from_operation, skip_blanks}
use Rattle.s66_line.specs.{upper, word, continues, is_comment, label_bytes, Class, Other, Pad, Comment, Refused, Instruction}
use Rattle.s66_line.proofs.UpperCase.{length-upper, same-comment, same-continues, same-location, same-operation, upper-from_operation, upper-if, upper-trim, upper-twice, upper-label_bytes}
use Rattle.s66_source.specs.{counting_text, is_covering, Flagged, after_body, after_directive, after_operation, directive_cover, has_operation, with_directive, after_line, class_at, is_alone}
use Rattle.s66_source.specs.{is_continued, is_directive, is_switch, is_off_switch, is_on_switch, flagged_from, with_operation, is_doubtful, distance, is_far, is_held, Standing, Redefined}
use Rattle.s66_source.specs.{is_redefined}
use Rattle.s66_source.proofs.CharactersRead.{same-operand_in, same-operation_in, same-runs_on, upper-next}
use Rattle.s66_source.proofs.ReadBack.{class_of_body}
use Rattle.s66_source.proofs.Directives.{same-directive, same-text}
use Rattle.s66_source.proofs.RedefinedCase.{redefined-upper, same-word}
use Rattle.s66_source.proofs.ReadLine.{filled-upper}

-- CLASSES

same-by_operation : (located : Bool) (bytes : List ℕ) → by_operation located (upper bytes) ≡ by_operation located bytes
same-by_operation located bytes =
    ap₂ (λ operation whole. if is_pad operation then Pad located else (if is_some (operation_of operation) then class_of_operand located whole else Other))
    (same-operation_in bytes)
    (ap₂ (λ runs n. if runs then None else n) (same-runs_on bytes) (ap₂ instr_of (same-operation_in bytes) (same-operand_in bytes)))

same-body : (after : Bool) (line : List ℕ) → class_of_body after (upper line) ≡ class_of_body after line
same-body after line = rw (same-comment line, same-continues line, same-location line, upper-from_operation line, same-by_operation (is_located line) (from_operation line)) refl

same-class : (after : Bool) (line : List ℕ) → class_of after (upper line) ≡ class_of after line
same-class after line = ap (class_of_body after) (upper-trim line) ∙ same-body after (body line)

-- WORDS

same-switch : (second line : List ℕ) → is_switch second (upper line) ≡ is_switch second line
same-switch second line =
    ap₂ (λ first next. bytes_eq first (codes "*S66") && bytes_eq next second) (same-word line) (ap (λ l. upper (word l)) (upper-next line) ∙ same-word (skip_blanks (after_word line)))

-- WHAT AN OPERATION COVERS

upper-from_operand : (line : List ℕ) → from_operand (upper line) ≡ upper (from_operand line)
upper-from_operand line = ap (λ l. skip_blanks (after_word l)) (upper-from_operation line) ∙ upper-next (from_operation line)

same-counting : (line : List ℕ) → upper (counting_text (upper line)) ≡ upper (counting_text line)
same-counting line =
    let rest : List ℕ = from_operand line in
    let near : Bool = nat_lt (length line - length rest) 29 in
    ap (λ r. upper (if nat_lt (length (upper line) - length r) 29 then r else [])) (upper-from_operand line)
    ∙ ap₂ (λ m n. upper (if nat_lt (m - n) 29 then upper rest else [])) (length-upper line) (length-upper rest)
    ∙ upper-if near (upper rest) []
    ∙ ap (λ text. if near then text else []) (upper-twice rest)
    ∙ sym (upper-if near rest [])

same-with_directive : (cut : Bool) (s : Standing) (line : List ℕ) → with_directive cut s (upper line) ≡ with_directive cut s line
same-with_directive cut s line =
    ap₂ (λ is text. if cut && is then after_directive s (directive_cover text) else s) (same-directive line) (same-text line)

same-with_operation : (cut : Bool) (s : Standing) (line : List ℕ) → with_operation cut s (upper line) ≡ with_operation cut s line
same-with_operation cut s line =
    rw (same-comment line, same-continues line, same-operation line, same-counting line)
    (ap (λ (t : Standing). if cut && has_operation line then after_operation s (upper (operation line)) (upper (counting_text line)) else t) (same-with_directive cut s line))

-- WHAT STANDS after a line

same-after_body : (cut : Bool) (s : Standing) (line : List ℕ) → after_body cut s (upper line) ≡ after_body cut s line
same-after_body cut s line =
    ap (λ (t : Standing). record t { off = if is_on_switch (upper line) then false else (s.off || is_off_switch (upper line)) }) (same-with_operation cut s line)
    ∙ ap₂ (λ on off. record (with_operation cut s line) { off = if on then false else (s.off || off) }) (same-switch (codes "ON") line) (same-switch (codes "OFF") line)

same-after : (cut : Bool) (s : Standing) (line : List ℕ) → after_line cut s (upper line) ≡ after_line cut s line
same-after cut s line = ap (after_body cut s) (upper-trim line) ∙ same-after_body cut s (body line)

-- WHAT IS LEFT ALONE

abbrev held_by : Bool → Standing → Bool → Bool → Bool → Bool
held_by cut s continued off directive = s.off || (off || (cut && (nat_lt 0 s.bodies || (is_covering s.cover || (continued || directive)))))

abbrev body_alone : Bool → Standing → Bool → List ℕ → Class → Bool
body_alone cut s continued line c = held_by cut s continued (is_off_switch line) (is_directive line) || (cut && is_doubtful s.redefined c line)

same-distance : (bytes : List ℕ) → distance (upper bytes) ≡ distance bytes
same-distance bytes = ap₂ (λ all rest. all - rest) (length-upper bytes) (ap length (upper-next bytes) ∙ length-upper (skip_blanks (after_word bytes)))

abbrev far_by : Bool → ℕ → ℕ → ℕ → Bool
far_by filled behind label place = filled && (nat_le 19 behind || (nat_lt label 10 && nat_le 29 place))

same-far : (line : List ℕ) → is_far (upper line) ≡ is_far line
same-far line =
    ap₂ (λ filled behind. far_by filled behind (length (label_bytes (upper line))) (length (upper line) - length (from_operand (upper line)))) (ap is_filled (upper-from_operand line) ∙ filled-upper (from_operand line))
    (ap distance (upper-from_operation line) ∙ same-distance (from_operation line))
    ∙ ap₂ (far_by (is_filled (from_operand line)) (distance (from_operation line))) (ap length (upper-label_bytes line) ∙ length-upper (label_bytes line))
    (ap₂ (λ all rest. all - rest) (length-upper line) (ap length (upper-from_operand line) ∙ length-upper (from_operand line)))

same-redefined : (known : Redefined) (line : List ℕ) → is_redefined known (from_operation (upper line)) ≡ is_redefined known (from_operation line)
same-redefined known line = ap (is_redefined known) (upper-from_operation line) ∙ redefined-upper known (from_operation line)

same-doubt : (known : Redefined) (c : Class) (line : List ℕ) → is_doubtful known c (upper line) ≡ is_doubtful known c line
same-doubt known Comment line = refl
same-doubt known Other line = refl
same-doubt known Refused line = refl
same-doubt known (Pad located) line = same-redefined known line
same-doubt known (Instruction located n) line = ap₂ (λ again far. again || far) (same-redefined known line) (same-far line)

same-alone : (cut : Bool) (s : Standing) (line : List ℕ) (continued : Bool) → is_alone cut s (upper line) continued ≡ is_alone cut s line continued
same-alone cut s line continued =
    ap₂ (body_alone cut s continued) (upper-trim line) (same-class true line)
    ∙ ap₂ (λ off directive. held_by cut s continued off directive || (cut && is_doubtful s.redefined (class_of true line) (upper (body line)))) (same-switch (codes "OFF") (body line)) (same-directive (body line))
    ∙ ap (λ doubt. is_held cut s line continued || (cut && doubt)) (same-doubt s.redefined (class_of true line) (body line))

same-continued : (lines : List (List ℕ)) → is_continued (map upper lines) ≡ is_continued lines
same-continued [] = refl
same-continued (line ∷ lines) =
    ap (λ comment. if comment then is_continued (map upper lines) else continues (upper line)) (ap is_comment (upper-trim line) ∙ same-comment (body line))
    ∙ ap₂ (λ later here. if is_comment (body line) then later else here) (same-continued lines) (same-continues line)

abbrev pub upper_flagged : Flagged → Flagged
upper_flagged line = record { alone = line.alone; bytes = upper line.bytes }

pub same-class_at : (after : Bool) (line : Flagged) → class_at after (upper_flagged line) ≡ class_at after line
same-class_at after line = ap (λ c. if line.alone then Other else c) (same-class after line.bytes)

pub upper-flagged : (cut : Bool) (s : Standing) (lines : List (List ℕ)) → flagged_from cut s (map upper lines) ≡ map upper_flagged (flagged_from cut s lines)
upper-flagged cut s [] = refl
upper-flagged cut s (line ∷ lines) =
    let alone = same-alone cut s line (is_continued (map upper lines)) ∙ ap (is_alone cut s line) (same-continued lines) in
    let rest = ap (λ t. flagged_from cut t (map upper lines)) (same-after cut s line) ∙ upper-flagged cut (after_line cut s line) lines in
    ap₂ (λ is ls. record { alone = is; bytes = upper line } ∷ ls) alone rest
