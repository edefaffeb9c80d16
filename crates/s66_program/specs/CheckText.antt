-- To be believed: what `check` writes for documents, and how it ends: a line for each, with the verdict on it, and with `--text` sentences that
-- say why no order is faster.
use Rattle.std.specs.Prelude.{ℕ, ◌+◌, ◌≡◌, if◌then◌else◌, Bool, true, false, List, [], ◌∷◌, ◌++◌, codes, decimal}
use Rattle.s66_isa.specs.{every, BLOCK_LIMIT}
use Rattle.s66_cert.specs.{Document, IsText}
use Rattle.s66_checker.specs.declared.verdict.Verdict.{Verdict}
use Rattle.s66_checker.specs.{Yes, No, number_of, verdict}
use Rattle.s66_reasons.specs.{reasons_text}
use Rattle.s66_answer.specs.{Status, Done, Denied}

-- the line of the n-th document, from 1
abbrev pub verdict_line : ℕ → Verdict → List ℕ
verdict_line n (Yes time bound) =
    codes "DOCUMENT " ++ decimal n ++ codes " YES TIME " ++ decimal time ++ codes " BOUND " ++ decimal bound ++ codes "\n"
verdict_line n (No line reason) =
    codes "DOCUMENT " ++ decimal n ++ codes " NO LINE " ++ decimal line ++ codes " REASON " ++ decimal (number_of reason) ++ codes "\n"

-- why no order of its block is faster, if the verdict is yes
abbrev pub reasons_by : Verdict → Document → List ℕ
reasons_by (Yes time bound) d = reasons_text d
reasons_by (No line reason) d = []

-- what is written of the n-th document, from 1
abbrev pub verdict_text : (texts : Bool) → ℕ → Document → List ℕ
verdict_text false n d = verdict_line n (verdict d)
verdict_text true n d = verdict_line n (verdict d) ++ reasons_by (verdict d) d

-- of these documents, before which n documents come
abbrev pub verdict_lines : (texts : Bool) → ℕ → List Document → List ℕ
verdict_lines texts n [] = []
verdict_lines texts n (d ∷ ds) = verdict_text texts (n + 1) d ++ verdict_lines texts (n + 1) ds

abbrev pub is_yes : Verdict → Bool
is_yes (Yes time bound) = true
is_yes (No line reason) = false

-- done if each verdict is yes
abbrev pub verdicts_status : List Document → Status
verdicts_status ds = if every (λ d. is_yes (verdict d)) ds then Done else Denied

-- the verdicts on the documents of which it is the text, and their status; 0 if each is yes, else 5
abbrev pub IsCheckOutput : (texts : Bool) (input text : List ℕ) → Status → Type 0
IsCheckOutput texts input text status =
    (ds : List Document) × IsText BLOCK_LIMIT input ds × (text ≡ verdict_lines texts 0 ds) × (status ≡ verdicts_status ds)
