-- The documents of answers to the blocks of a source are a text, in one way, and the verdict on each is yes.
use Rattle.std.proofs.Common.{ℕ, zero, suc, ◌+◌, ◌-◌, ◌≡◌, ◌&&◌, ◌∙◌, Bool, true, false, if◌then◌else◌, Option, None, Some, List, [], ◌∷◌, ◌++◌, drop, take, refl, sym, ap, ap₂, arith, inl, inr}
use Rattle.s66_isa.specs.{Profile, Among, every, BLOCK_LIMIT}
use Rattle.s66_command.specs.{Strategy}
use Rattle.s66_line.specs.{Block}
use Rattle.s66_source.specs.{Reading}
use Rattle.s66_cert.specs.{SPLIT_LIMIT, AreDocumentsWithin, Document, IsText}
use Rattle.s66_cert.proofs.OneReading.{one-list}
use Rattle.s66_checker.specs.{Yes, verdict}
use Rattle.s66_answer.specs.{Answer, AreAnswers, document_under, Status, Done, Denied, IsSpelledBlock, shown}
use Rattle.s66_answer.proofs.EveryAnswer.{answer-document, answer-verdict}
use Rattle.s66_answer.proofs.AnswerVerdicts.{spelled-block}
use Rattle.s66_program.specs.{IsCheckOutput, is_yes, reasons_by, verdict_line, verdict_lines, verdict_text, verdicts_status, AreYesLines, yes_lines, yes_text, IsProveOutput, all_documents}

abbrev AreSpelled : List Block → Type 0
AreSpelled blocks = (block : Block) → Among block blocks → IsSpelledBlock block

of-later : (k : ℕ) (blocks : List Block) (block : Block) → Among block (drop k blocks) → Among block blocks
of-later zero [] block among = among
of-later (suc k) [] block among = among
of-later zero (b ∷ blocks) block among = among
of-later (suc k) (b ∷ blocks) block among = inr (of-later k blocks block among)

of-first : (k : ℕ) (blocks : List Block) (block : Block) → Among block (take k blocks) → Among block blocks
of-first zero [] block among = absurd among
of-first (suc k) [] block among = absurd among
of-first zero (b ∷ blocks) block among = absurd among
of-first (suc k) (b ∷ blocks) block (inl same) = inl same
of-first (suc k) (b ∷ blocks) block (inr among) = inr (of-first k blocks block among)

-- what is shown is of the source
of-shown : (only : Option ℕ) (blocks : List Block) (block : Block) → Among block (shown only blocks) → Among block blocks
of-shown None blocks block among = among
of-shown (Some n) blocks block among = of-later (n - 1) blocks block (of-first 1 (drop (n - 1) blocks) block among)

text-is-yes : (texts : Bool) (n : ℕ) (a : Answer) (d : Document) → verdict d ≡ Yes a.time a.bound → verdict_text texts n d ≡ yes_text texts n a d
text-is-yes false n a d is = ap (verdict_line n) is
text-is-yes true n a d is = ap (λ v. verdict_line n v ++ reasons_by v d) is

module _ (strategy : Strategy) (p : Profile) where
  documents-are : (blocks : List Block) (answers : List Answer) → AreSpelled blocks → AreAnswers strategy p blocks answers → AreDocumentsWithin BLOCK_LIMIT SPLIT_LIMIT (all_documents strategy.search.rule p blocks answers)
  documents-are [] [] spelled are = tt
  documents-are [] (a ∷ answers) spelled are = absurd are
  documents-are (block ∷ blocks) [] spelled are = absurd are
  documents-are (block ∷ blocks) (a ∷ answers) spelled are =
      (answer-document strategy p block a (spelled block (inl refl)) are.0, documents-are blocks answers (λ b among. spelled b (inr among)) are.1)

  lines-are : (texts : Bool) (n : ℕ) (blocks : List Block) (answers : List Answer) → AreSpelled blocks → AreAnswers strategy p blocks answers → verdict_lines texts n (all_documents strategy.search.rule p blocks answers) ≡ yes_lines texts n answers (all_documents strategy.search.rule p blocks answers)
  lines-are texts n [] [] spelled are = refl
  lines-are texts n [] (a ∷ answers) spelled are = absurd are
  lines-are texts n (block ∷ blocks) [] spelled are = absurd are
  lines-are texts n (block ∷ blocks) (a ∷ answers) spelled are =
      ap₂ (λ (line rest : List ℕ). line ++ rest)
      (text-is-yes texts (n + 1) a (document_under strategy.search.rule p block a) (answer-verdict strategy p block a (spelled block (inl refl)) are.0))
      (lines-are texts (n + 1) blocks answers (λ b among. spelled b (inr among)) are.1)

  all-yes : (blocks : List Block) (answers : List Answer) → AreSpelled blocks → AreAnswers strategy p blocks answers → every (λ d. is_yes (verdict d)) (all_documents strategy.search.rule p blocks answers) ≡ true
  all-yes [] [] spelled are = refl
  all-yes [] (a ∷ answers) spelled are = absurd are
  all-yes (block ∷ blocks) [] spelled are = absurd are
  all-yes (block ∷ blocks) (a ∷ answers) spelled are =
      ap₂ (λ v rest. is_yes v && rest) (answer-verdict strategy p block a (spelled block (inl refl)) are.0) (all-yes blocks answers (λ b among. spelled b (inr among)) are.1)

  module _ (texts : Bool) (only : Option ℕ) (source : Reading) (text : List ℕ) (status : Status) where
    pub checked-yes : IsProveOutput strategy p only source text status → (lines : List ℕ) × AreYesLines texts strategy p only source text lines × IsCheckOutput texts text lines Done
    checked-yes (blocks, accepted, (answers, are, is, ends)) =
        let of_them : List Block = shown only blocks in
        let spelled : AreSpelled of_them = λ block among. spelled-block source blocks accepted block (of-shown only blocks block among) in (
          yes_lines texts 0 answers (all_documents strategy.search.rule p of_them answers),
          (blocks, accepted, (answers, are, is, refl)),
          (
            all_documents strategy.search.rule p of_them answers,
            (documents-are of_them answers spelled are, is),
            sym (lines-are texts 0 of_them answers spelled are),
            sym (ap (λ yes. if yes then Done else Denied) (all-yes of_them answers spelled are)),
          ),
        )

    pub checked-alone : (lines : List ℕ) (checked : Status) → IsProveOutput strategy p only source text status → IsCheckOutput texts text lines checked → AreYesLines texts strategy p only source text lines × (checked ≡ Done)
    checked-alone lines checked (blocks, accepted, (answers, are, is, ends)) (ds, read, are-verdicts, so) =
        let of_them : List Block = shown only blocks in
        let spelled : AreSpelled of_them = λ block among. spelled-block source blocks accepted block (of-shown only blocks block among) in
        let text-is : IsText BLOCK_LIMIT text (all_documents strategy.search.rule p of_them answers) = (documents-are of_them answers spelled are, is) in
        let same : ds ≡ all_documents strategy.search.rule p of_them answers = one-list BLOCK_LIMIT BLOCK_LIMIT SPLIT_LIMIT SPLIT_LIMIT text ds (all_documents strategy.search.rule p of_them answers) (omega arith) (omega arith) read text-is in (
          (blocks, accepted, (answers, are, is, are-verdicts ∙ ap (verdict_lines texts 0) same ∙ lines-are texts 0 of_them answers spelled are)),
          so ∙ ap verdicts_status same ∙ ap (λ yes. if yes then Done else Denied) (all-yes of_them answers spelled are),
        )
