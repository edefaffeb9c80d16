-- The fault that reading returns is the first fault of the text.
use Rattle.std.proofs.Common.{◌≡◌, ◌≤◌, ◌<◌, ◌+◌, ◌-◌, ◌&&◌, ℕ, suc, Bool, true, false, List, [], ◌∷◌, ◌++◌, length, Option, None, Some, refl, sym, ap, ◌∙◌, arith, cond, leb, eqb, append_assoc, subst}
use Rattle.std.proofs.Common.{leb-false, leb-true, Result, Ok, Err}
use Rattle.std.proofs.lemmas.Bool.{cond-false, lt-leb}
use Rattle.s66_isa.specs.{BLOCK_LIMIT}
use Rattle.s66_model.specs.{AtTerminal, AtSplit}
use Rattle.s66_line.specs.{with_newlines}
use Rattle.s66_cert.specs.{Document, IsTextWithin, IsLine, HaveNoNewline, BeginsWithin, Begins, HasLine, IsBadLine, IsSplitTooMany, IsCut, IsFault, DocumentLine, Header, Profile, Block, Instruction}
use Rattle.s66_cert.specs.{Time, Bound, Order, OfFact, OfTree, End, line_read, DocumentState, first_state, place_of_tree, with_vertex, is_leaf_of, takes_step, is_wanting, step_at, step_if, step}
use Rattle.s66_cert.specs.{and_then, steps, ended, is_header, read_within, whole_lines, last_bytes, SPLIT_LIMIT, CertError, BadLine, Truncated, TooManyNodes, OutOfMemory, DocumentPlace, AtHeader}
use Rattle.s66_cert.specs.{AtProfile, AtBlock, AtInstruction, AtTime, AtBound, AtOrder, AtTree, AtEnd}
use Rattle.s66_cert.proofs.TextLines.{cut, are-lines, whole-of, whole-all, newlines-append}
use Rattle.s66_cert.proofs.ReadFronts.{are-append, steps-append, begins, fronts}
use Rattle.s66_cert.proofs.RoundTrip.{read-again}
use Rattle.s66_cert.proofs.Sound.{read-sound, after-ok}

-- ONE LINE, however many splits there may be

pub data Outcome (s : DocumentState) (f : ℕ → Result DocumentState CertError) : Type 0 where
  IsBad : ((most : ℕ) → f most ≡ Err (BadLine (suc s.count))) → Outcome s f
  IsGood : (t : DocumentState) → t.count ≡ suc s.count → ((most : ℕ) → f most ≡ Ok t) → Outcome s f
  IsSplit : (t : DocumentState) → t.count ≡ suc s.count → ((most : ℕ) → f most ≡ cond (leb most s.splits) (Err TooManyNodes) (Ok t)) → Outcome s f

-- a step that a test allows
outcome-test : (s t : DocumentState) (test : Bool) → t.count ≡ suc s.count → Outcome s (λ most. cond test (Ok t) (Err (BadLine (suc s.count))))
outcome-test s t true counted = IsGood t counted (λ most. refl)
outcome-test s t false counted = IsBad (λ most. refl)

-- or that it forbids
outcome-unless : (s t : DocumentState) (test : Bool) → t.count ≡ suc s.count → Outcome s (λ most. cond test (Err (BadLine (suc s.count))) (Ok t))
outcome-unless s t true counted = IsBad (λ most. refl)
outcome-unless s t false counted = IsGood t counted (λ most. refl)

pub outcome-at : (s : DocumentState) (place : DocumentPlace) (l : DocumentLine) → Outcome s (λ most. step_at most s place l)
outcome-at s AtHeader (Header version) = IsGood _ refl (λ most. refl)
outcome-at s AtProfile (Profile numbers) = IsGood _ refl (λ most. refl)
outcome-at s AtBlock (Block count) = IsGood _ refl (λ most. refl)
outcome-at s AtInstruction (Instruction text) = IsGood _ refl (λ most. refl)
outcome-at s AtTime (Time time) = IsGood _ refl (λ most. refl)
outcome-at s AtBound (Bound bound) = IsGood _ refl (λ most. refl)
outcome-at s AtOrder (Order numbers) = IsGood _ refl (λ most. refl)
outcome-at s AtTree (OfFact step) = outcome-test s _ (takes_step s.version s.part step) refl
outcome-at s AtTree (OfTree (AtTerminal ending)) = outcome-test s _ (is_leaf_of s.part (AtTerminal ending)) refl
outcome-at s AtTree (OfTree (AtSplit numbers)) =
    IsSplit (record { count = suc s.count; documents = s.documents; place = place_of_tree (s.left - 1 + length numbers); version = s.version; part = with_vertex s.part (AtSplit numbers); left = s.left - 1 + length numbers; splits = suc s.splits }) refl (λ most. refl)
outcome-at s AtEnd End = outcome-unless s _ (is_wanting s.version s.part) refl
outcome-at s place l = IsBad (λ most. refl)

outcome-if : (s : DocumentState) (o : Option DocumentLine) → Outcome s (λ most. step_if most s o)
outcome-if s None = IsBad (λ most. refl)
outcome-if s (Some l) = outcome-at s s.place l

outcome : (s : DocumentState) (line : List ℕ) → Outcome s (λ most. step BLOCK_LIMIT most s line)
outcome s line = outcome-if s (line_read BLOCK_LIMIT line)

ok-more : (s t : DocumentState) (f : ℕ → Result DocumentState CertError) (most more : ℕ) → Outcome s f → most ≤ more → f most ≡ Ok t → f more ≡ Ok t
ok-more s t f most more (IsBad all) le h = absurd (let e = sym (all most) ∙ h in (cc))
ok-more s t f most more (IsGood u count all) le h = let e = sym (all most) ∙ h in all more ∙ e
ok-more s t f most more (IsSplit u count all) le h = by (leb most s.splits) refl (sym (all most) ∙ h)
  where
    by : (test : Bool) → leb most s.splits ≡ test → cond test (Err TooManyNodes) (Ok u) ≡ Ok t → f more ≡ Ok t
    by true e h = absurd (cc)
    by false e h =
        let above : s.splits < most = leb-false most s.splits e in
        all more ∙ cond-false (leb more s.splits) (Err TooManyNodes) (Ok u) (lt-leb more s.splits (omega arith)) ∙ h

pub ok-count : (s t : DocumentState) (f : ℕ → Result DocumentState CertError) (most : ℕ) → Outcome s f → f most ≡ Ok t → t.count ≡ suc s.count
ok-count s t f most (IsBad all) h = absurd (let e = sym (all most) ∙ h in (cc))
ok-count s t f most (IsGood u count all) h = let e = sym (all most) ∙ h in let same : t ≡ u = (cc) in ap (λ (v : DocumentState). v.count) same ∙ count
ok-count s t f most (IsSplit u count all) h = by (leb most s.splits) (sym (all most) ∙ h)
  where
    by : (test : Bool) → cond test (Err TooManyNodes) (Ok u) ≡ Ok t → t.count ≡ suc s.count
    by true h = absurd (cc)
    by false h = let same : t ≡ u = (cc) in ap (λ (v : DocumentState). v.count) same ∙ count

bad-any : (s : DocumentState) (f : ℕ → Result DocumentState CertError) (most n : ℕ) → Outcome s f → f most ≡ Err (BadLine n) → (n ≡ suc s.count) × ((more : ℕ) → f more ≡ Err (BadLine n))
bad-any s f most n (IsBad all) h =
    let e = sym (all most) ∙ h in
    let same : suc s.count ≡ n = (cc) in
    (sym same, λ more. all more ∙ ap (λ k. Err (BadLine k)) same)
bad-any s f most n (IsGood u count all) h = absurd (let e = sym (all most) ∙ h in (cc))
bad-any s f most n (IsSplit u count all) h = absurd (by (leb most s.splits) (sym (all most) ∙ h))
  where
    by : (test : Bool) → cond test (Err TooManyNodes) (Ok u) ≡ Err (BadLine n) → ⊥
    by true h = (cc)
    by false h = (cc)

many-more : (s : DocumentState) (f : ℕ → Result DocumentState CertError) (most : ℕ) → Outcome s f → f most ≡ Err TooManyNodes → (most ≤ s.splits) × (t : DocumentState) × (f (suc s.splits) ≡ Ok t)
many-more s f most (IsBad all) h = absurd (let e = sym (all most) ∙ h in (cc))
many-more s f most (IsGood u count all) h = absurd (let e = sym (all most) ∙ h in (cc))
many-more s f most (IsSplit u count all) h = by (leb most s.splits) refl (sym (all most) ∙ h)
  where
    by : (test : Bool) → leb most s.splits ≡ test → cond test (Err TooManyNodes) (Ok u) ≡ Err TooManyNodes → (most ≤ s.splits) × (t : DocumentState) × (f (suc s.splits) ≡ Ok t)
    by true e h = (leb-true most s.splits e, u, all (suc s.splits) ∙ cond-false (leb (suc s.splits) s.splits) (Err TooManyNodes) (Ok u) (lt-leb (suc s.splits) s.splits (omega arith)))
    by false e h = absurd (cc)

-- no line is cut, and none wants memory
no-other : (s : DocumentState) (f : ℕ → Result DocumentState CertError) (most : ℕ) (e : CertError) → Outcome s f → f most ≡ Err e → (e ≡ Truncated → ⊥) × (e ≡ OutOfMemory → ⊥)
no-other s f most e (IsBad all) h = let g = sym (all most) ∙ h in (λ i. (cc), λ i. (cc))
no-other s f most e (IsGood u count all) h = absurd (let g = sym (all most) ∙ h in (cc))
no-other s f most e (IsSplit u count all) h = by (leb most s.splits) (sym (all most) ∙ h)
  where
    by : (test : Bool) → cond test (Err TooManyNodes) (Ok u) ≡ Err e → (e ≡ Truncated → ⊥) × (e ≡ OutOfMemory → ⊥)
    by true h = (λ i. (cc), λ i. (cc))
    by false h = absurd (cc)

-- LINES

steps-more : (most more : ℕ) (s t : DocumentState) (lines : List (List ℕ)) → most ≤ more → steps BLOCK_LIMIT most s lines ≡ Ok t → steps BLOCK_LIMIT more s lines ≡ Ok t
steps-more most more s t [] le h = h
steps-more most more s t (line ∷ lines) le h =
    let (u, one, rest) = after-ok (step BLOCK_LIMIT most s line) (λ t. steps BLOCK_LIMIT most t lines) t h in
    ap (λ (r : Result DocumentState CertError). and_then r (λ t. steps BLOCK_LIMIT more t lines)) (ok-more s u (λ most. step BLOCK_LIMIT most s line) most more (outcome s line) le one) ∙ steps-more most more u t lines le rest

steps-count : (most : ℕ) (s t : DocumentState) (lines : List (List ℕ)) → steps BLOCK_LIMIT most s lines ≡ Ok t → t.count ≡ s.count + length lines
steps-count most s t [] h = let same : t ≡ s = (cc) in omega (arith, ap (λ (v : DocumentState). v.count) same)
steps-count most s t (line ∷ lines) h =
    let (u, one, rest) = after-ok (step BLOCK_LIMIT most s line) (λ t. steps BLOCK_LIMIT most t lines) t h in
    omega (arith, ok-count s u (λ most. step BLOCK_LIMIT most s line) most (outcome s line) one, steps-count most u t lines rest)

-- the line at which it fails
record Fails (most : ℕ) (s : DocumentState) (lines : List (List ℕ)) (e : CertError) : Type 0 where
  before : List (List ℕ)
  line : List ℕ
  after : List (List ℕ)
  state : DocumentState
  cut : lines ≡ before ++ line ∷ after
  run : steps BLOCK_LIMIT most s before ≡ Ok state
  fault : step BLOCK_LIMIT most state line ≡ Err e

fails-later : (most : ℕ) (s t : DocumentState) (line : List ℕ) (lines : List (List ℕ)) (e : CertError) → step BLOCK_LIMIT most s line ≡ Ok t → Fails most t lines e → Fails most s (line ∷ lines) e
fails-later most s t line lines e one f =
    record {
      before = line ∷ f.before;
      line = f.line;
      after = f.after;
      state = f.state;
      cut = ap (λ x. line ∷ x) f.cut;
      run = ap (λ (r : Result DocumentState CertError). and_then r (λ t. steps BLOCK_LIMIT most t f.before)) one ∙ f.run;
      fault = f.fault;
    }

fails : (most : ℕ) (s : DocumentState) (lines : List (List ℕ)) (e : CertError) → steps BLOCK_LIMIT most s lines ≡ Err e → Fails most s lines e
fails most s [] e h = absurd (cc)
fails most s (line ∷ lines) e h = by (step BLOCK_LIMIT most s line) refl h (λ t. fails most t lines e)
  where
    by : (r : Result DocumentState CertError) → step BLOCK_LIMIT most s line ≡ r → and_then r (λ t. steps BLOCK_LIMIT most t lines) ≡ Err e → ((t : DocumentState) → steps BLOCK_LIMIT most t lines ≡ Err e → Fails most t lines e) → Fails most s (line ∷ lines) e
    by (Ok t) one h later = fails-later most s t line lines e one (later t h)
    by (Err f) one h later =
        let same : f ≡ e = (cc) in
        record { before = []; line = line; after = lines; state = s; cut = refl; run = refl; fault = one ∙ ap (λ x. Err x) same }

-- THE FAULT OF A TEXT

lines-parts : (xs : List (List ℕ)) (line : List ℕ) (ys : List (List ℕ)) → HaveNoNewline (xs ++ line ∷ ys) → HaveNoNewline xs × IsLine line × HaveNoNewline ys
lines-parts [] line ys h = (tt, h.0, h.1)
lines-parts (x ∷ xs) line ys h = let rest = lines-parts xs line ys h.1 in ((h.0, rest.0), rest.1, rest.2)

-- the text up to and with a line
line-behind : (before : List (List ℕ)) (line : List ℕ) → with_newlines (before ++ line ∷ []) ≡ with_newlines before ++ line ++ 10 ∷ []
line-behind before line = newlines-append before (line ∷ []) ∙ sym (append_assoc (with_newlines before) line (10 ∷ []))

line-bare : (before : List (List ℕ)) (line after : List ℕ) → with_newlines before ++ line ++ 10 ∷ after ≡ with_newlines (before ++ line ∷ []) ++ after
line-bare before line after = sym (ap (λ x. x ++ after) (line-behind before line) ∙ append_assoc (with_newlines before ++ line) (10 ∷ []) after)

text-cut : (before : List (List ℕ)) (line : List ℕ) (after : List (List ℕ)) (rest : List ℕ) → with_newlines (before ++ line ∷ after) ++ rest ≡ with_newlines before ++ line ++ 10 ∷ (with_newlines after ++ rest)
text-cut before line after rest =
    ap (λ x. x ++ rest) (newlines-append before (line ∷ after)) ∙ append_assoc (with_newlines before) (line ++ 10 ∷ with_newlines after) rest
    ∙ ap (λ x. with_newlines before ++ x) (append_assoc line (10 ∷ with_newlines after) rest)
    ∙ sym (append_assoc (with_newlines before) line (10 ∷ (with_newlines after ++ rest)))

one-more : (most : ℕ) (before : List (List ℕ)) (line : List ℕ) (s : DocumentState) (r : Result DocumentState CertError) → steps BLOCK_LIMIT most first_state before ≡ Ok s → step BLOCK_LIMIT most s line ≡ r → steps BLOCK_LIMIT most first_state (before ++ line ∷ []) ≡ and_then r (λ t. Ok t)
one-more most before line s r run one =
    steps-append most first_state before (line ∷ []) ∙ ap (λ (r : Result DocumentState CertError). and_then r (λ t. steps BLOCK_LIMIT most t (line ∷ []))) run ∙ ap (λ (r : Result DocumentState CertError). and_then r (λ t. Ok t)) one

module _ (most : ℕ) (text : List ℕ) where
  -- the lines before the fault
  here-is : (e : CertError) (f : Fails most first_state (whole_lines [] text) e) → most ≡ SPLIT_LIMIT → HasLine text f.before f.line
  here-is e f same =
      let are = lines-parts f.before f.line f.after (subst (λ (x : List (List ℕ)). HaveNoNewline x) f.cut (are-lines text).0) in
      record {
        after = with_newlines f.after ++ last_bytes [] text;
        cut = cut text ∙ ap (λ x. with_newlines x ++ last_bytes [] text) f.cut ∙ text-cut f.before f.line f.after (last_bytes [] text);
        lines = (are.0, are.1);
        begins = subst (λ k. BeginsWithin k (with_newlines f.before)) same (begins most f.before f.state are.0 f.run);
      }

  bad-is : (n : ℕ) → most ≡ SPLIT_LIMIT → steps BLOCK_LIMIT most first_state (whole_lines [] text) ≡ Err (BadLine n) → IsBadLine text n
  bad-is n same h =
      let f = fails most first_state (whole_lines [] text) (BadLine n) h in
      let here = here-is (BadLine n) f same in
      let bad = bad-any f.state (λ most. step BLOCK_LIMIT most f.state f.line) most n (outcome f.state f.line) f.fault in
      record {
        before = f.before;
        line = f.line;
        here = here;
        counted = omega (arith, bad.0, steps-count most first_state f.state f.before f.run);
        none = λ other any.
            let both : ℕ = most + other in
            let any2 : BeginsWithin other (with_newlines (f.before ++ f.line ∷ [])) = subst (λ (x : List ℕ). BeginsWithin other x) (sym (line-behind f.before f.line)) any in
            let (t, run) = fronts other (f.before ++ f.line ∷ []) (are-append f.before (f.line ∷ []) here.lines.0 (here.lines.1, tt)) any2 in
            let there = steps-more other both first_state t (f.before ++ f.line ∷ []) (omega arith) run in
            let failed = one-more both f.before f.line f.state (Err (BadLine n)) (steps-more most both first_state f.state f.before (omega arith) f.run) (bad.1 both) in
            let clash = sym there ∙ failed in
            (cc);
      }

  many-is : most ≡ SPLIT_LIMIT → steps BLOCK_LIMIT most first_state (whole_lines [] text) ≡ Err TooManyNodes → IsSplitTooMany text
  many-is same h =
      let f = fails most first_state (whole_lines [] text) TooManyNodes h in
      let here = here-is TooManyNodes f same in
      let (above, t, more) = many-more f.state (λ most. step BLOCK_LIMIT most f.state f.line) most (outcome f.state f.line) f.fault in
      let enough : ℕ = suc f.state.splits in
      let lines : HaveNoNewline (f.before ++ f.line ∷ []) = are-append f.before (f.line ∷ []) here.lines.0 (here.lines.1, tt) in
      record {
        before = f.before;
        line = f.line;
        here = here;
        most = enough;
        more =
            subst (λ (x : List ℕ). BeginsWithin enough x) (line-behind f.before f.line)
            (begins enough (f.before ++ f.line ∷ []) t lines (one-more enough f.before f.line f.state (Ok t) (steps-more most enough first_state f.state f.before (omega arith) f.run) more));
        none = λ any.
            let any2 : BeginsWithin most (with_newlines (f.before ++ f.line ∷ [])) = subst (λ k. BeginsWithin k (with_newlines (f.before ++ f.line ∷ []))) (sym same) (subst (λ (x : List ℕ). Begins x) (sym (line-behind f.before f.line)) any) in
            let (u, run) = fronts most (f.before ++ f.line ∷ []) lines any2 in
            let failed = one-more most f.before f.line f.state (Err TooManyNodes) f.run f.fault in
            let clash = sym run ∙ failed in
            (cc);
      }

  cut-is : (s : DocumentState) → most ≡ SPLIT_LIMIT → steps BLOCK_LIMIT most first_state (whole_lines [] text) ≡ Ok s → ended (last_bytes [] text) s ≡ Err Truncated → IsCut text
  cut-is s same run end =
      record {
        before = whole_lines [] text;
        rest = last_bytes [] text;
        cut = cut text;
        lines = are-lines text;
        begins = subst (λ k. BeginsWithin k (with_newlines (whole_lines [] text))) same (begins most (whole_lines [] text) s (are-lines text).0 run);
        none = λ ds is.
            let again = read-again BLOCK_LIMIT most text ds (omega arith) (subst (λ k. IsTextWithin BLOCK_LIMIT k text ds) (sym same) is) in
            let other : read_within BLOCK_LIMIT most text ≡ Err Truncated = ap (λ (r : Result DocumentState CertError). and_then r (ended (last_bytes [] text))) run ∙ end in
            let clash = sym again ∙ other in
            (cc);
      }

ended-err : (rest : List ℕ) (s : DocumentState) (e : CertError) → ended rest s ≡ Err e → e ≡ Truncated
ended-err rest s e h = by (is_header s.place && eqb (length rest) 0) h
  where
    by : (test : Bool) → cond test (Ok s.documents) (Err Truncated) ≡ Err e → e ≡ Truncated
    by true h = absurd (cc)
    by false h = (cc)

fault-by : (most : ℕ) (text : List ℕ) (e : CertError) (r : Result DocumentState CertError) → most ≡ SPLIT_LIMIT → steps BLOCK_LIMIT most first_state (whole_lines [] text) ≡ r → and_then r (ended (last_bytes [] text)) ≡ Err e → IsFault text e
fault-by most text e (Ok s) same run h =
    let is = ended-err (last_bytes [] text) s e h in
    subst (λ (x : CertError). IsFault text x) (sym is) (cut-is most text s same run (h ∙ ap (λ x. Err x) is))
fault-by most text (BadLine n) (Err f) same run h = let e : f ≡ BadLine n = (cc) in bad-is most text n same (run ∙ ap (λ x. Err x) e)
fault-by most text TooManyNodes (Err f) same run h = let e : f ≡ TooManyNodes = (cc) in many-is most text same (run ∙ ap (λ x. Err x) e)
fault-by most text Truncated (Err f) same run h =
    let g = fails most first_state (whole_lines [] text) f run in
    let e : f ≡ Truncated = (cc) in
    absurd ((no-other g.state (λ most. step BLOCK_LIMIT most g.state g.line) most f (outcome g.state g.line) g.fault).0 e)
fault-by most text OutOfMemory (Err f) same run h =
    let g = fails most first_state (whole_lines [] text) f run in
    let e : f ≡ OutOfMemory = (cc) in
    (no-other g.state (λ most. step BLOCK_LIMIT most g.state g.line) most f (outcome g.state g.line) g.fault).1 e

-- the fault that is read is the first
pub fault-is : (most : ℕ) (text : List ℕ) (e : CertError) → most ≡ SPLIT_LIMIT → read_within BLOCK_LIMIT most text ≡ Err e → IsFault text e
fault-is most text e same h = fault-by most text e (steps BLOCK_LIMIT most first_state (whole_lines [] text)) same refl h

-- AND THE FIRST FAULT IS READ

-- reading stops at a line
stops : (most : ℕ) (text : List ℕ) (before : List (List ℕ)) (line after : List ℕ) (s : DocumentState) (e : CertError) → text ≡ with_newlines before ++ line ++ 10 ∷ after → HaveNoNewline before × IsLine line →
    steps BLOCK_LIMIT most first_state before ≡ Ok s → step BLOCK_LIMIT most s line ≡ Err e → read_within BLOCK_LIMIT most text ≡ Err e
stops most text before line after s e is are run fault =
    let lines : List (List ℕ) = before ++ line ∷ [] in
    let all : text ≡ with_newlines lines ++ after =
    is ∙ line-bare before line after in
    let whole : whole_lines [] text ≡ lines ++ whole_lines [] after = ap (whole_lines []) all ∙ whole-of lines after (are-append before (line ∷ []) are.0 (are.1, tt)) in
    let failed : steps BLOCK_LIMIT most first_state (lines ++ whole_lines [] after) ≡ Err e =
    steps-append most first_state lines (whole_lines [] after) ∙ ap (λ (r : Result DocumentState CertError). and_then r (λ t. steps BLOCK_LIMIT most t (whole_lines [] after))) (one-more most before line s (Err e) run fault) in
    ap (λ (x : List (List ℕ)). and_then (steps BLOCK_LIMIT most first_state x) (ended (last_bytes [] text))) whole
    ∙ ap (λ (r : Result DocumentState CertError). and_then r (ended (last_bytes [] text))) failed

module _ (most : ℕ) (text : List ℕ) (same : most ≡ SPLIT_LIMIT) where
  goes-on : (before : List (List ℕ)) (line : List ℕ) (s t : DocumentState) (more : ℕ) → HaveNoNewline before × IsLine line → steps BLOCK_LIMIT more first_state before ≡ Ok s → step BLOCK_LIMIT more s line ≡ Ok t → BeginsWithin more (with_newlines before ++ line ++ 10 ∷ [])
  goes-on before line s t more are run one =
      subst (λ (x : List ℕ). BeginsWithin more x) (line-behind before line) (begins more (before ++ line ∷ []) t (are-append before (line ∷ []) are.0 (are.1, tt)) (one-more more before line s (Ok t) run one))

  front-is : (before : List (List ℕ)) → HaveNoNewline before → Begins (with_newlines before) → (s : DocumentState) × (steps BLOCK_LIMIT most first_state before ≡ Ok s)
  front-is before are h = fronts most before are (subst (λ k. BeginsWithin k (with_newlines before)) (sym same) h)

  bad-only : (n : ℕ) → IsBadLine text n → read_within BLOCK_LIMIT most text ≡ Err (BadLine n)
  bad-only n b =
      let (s, run) = front-is b.before b.here.lines.0 b.here.begins in
      by s run (step BLOCK_LIMIT most s b.line) refl
    where
      by : (s : DocumentState) → steps BLOCK_LIMIT most first_state b.before ≡ Ok s → (r : Result DocumentState CertError) → step BLOCK_LIMIT most s b.line ≡ r → read_within BLOCK_LIMIT most text ≡ Err (BadLine n)
      by s run (Ok t) one = absurd (b.none most (goes-on b.before b.line s t most b.here.lines run one))
      by s run (Err (BadLine m)) one =
          let bad = bad-any s (λ most. step BLOCK_LIMIT most s b.line) most m (outcome s b.line) one in
          let e : m ≡ n = omega (arith, bad.0, b.counted, steps-count most first_state s b.before run) in
          stops most text b.before b.line b.here.after s (BadLine n) b.here.cut b.here.lines run (one ∙ ap (λ k. Err (BadLine k)) e)
      by s run (Err TooManyNodes) one =
          let (above, t, more) = many-more s (λ most. step BLOCK_LIMIT most s b.line) most (outcome s b.line) one in
          absurd (b.none (suc s.splits) (goes-on b.before b.line s t (suc s.splits) b.here.lines (steps-more most (suc s.splits) first_state s b.before (omega arith) run) more))
      by s run (Err Truncated) one = absurd ((no-other s (λ most. step BLOCK_LIMIT most s b.line) most Truncated (outcome s b.line) one).0 refl)
      by s run (Err OutOfMemory) one = absurd ((no-other s (λ most. step BLOCK_LIMIT most s b.line) most OutOfMemory (outcome s b.line) one).1 refl)

  many-only : IsSplitTooMany text → read_within BLOCK_LIMIT most text ≡ Err TooManyNodes
  many-only b =
      let (s, run) = front-is b.before b.here.lines.0 b.here.begins in
      by s run (step BLOCK_LIMIT most s b.line) refl
    where
      by : (s : DocumentState) → steps BLOCK_LIMIT most first_state b.before ≡ Ok s → (r : Result DocumentState CertError) → step BLOCK_LIMIT most s b.line ≡ r → read_within BLOCK_LIMIT most text ≡ Err TooManyNodes
      by s run (Ok t) one = absurd (b.none (subst (λ k. BeginsWithin k (with_newlines b.before ++ b.line ++ 10 ∷ [])) same (goes-on b.before b.line s t most b.here.lines run one)))
      by s run (Err (BadLine m)) one =
          let bad = bad-any s (λ most. step BLOCK_LIMIT most s b.line) most m (outcome s b.line) one in
          let both : ℕ = most + b.most in
          let (t, other) = fronts b.most (b.before ++ b.line ∷ []) (are-append b.before (b.line ∷ []) b.here.lines.0 (b.here.lines.1, tt)) (subst (λ (x : List ℕ). BeginsWithin b.most x) (sym (line-behind b.before b.line)) b.more) in
          let there = steps-more b.most both first_state t (b.before ++ b.line ∷ []) (omega arith) other in
          let failed = one-more both b.before b.line s (Err (BadLine m)) (steps-more most both first_state s b.before (omega arith) run) (bad.1 both) in
          absurd (let clash = sym there ∙ failed in (cc))
      by s run (Err TooManyNodes) one = stops most text b.before b.line b.here.after s TooManyNodes b.here.cut b.here.lines run one
      by s run (Err Truncated) one = absurd ((no-other s (λ most. step BLOCK_LIMIT most s b.line) most Truncated (outcome s b.line) one).0 refl)
      by s run (Err OutOfMemory) one = absurd ((no-other s (λ most. step BLOCK_LIMIT most s b.line) most OutOfMemory (outcome s b.line) one).1 refl)

  cut-only : IsCut text → read_within BLOCK_LIMIT most text ≡ Err Truncated
  cut-only b =
      let (s, run) = front-is b.before b.lines.0 b.begins in
      let whole : whole_lines [] text ≡ b.before = ap (whole_lines []) b.cut ∙ whole-all b.before b.rest b.lines.0 b.lines.1 in
      let all : read_within BLOCK_LIMIT most text ≡ ended (last_bytes [] text) s =
      ap (λ (x : List (List ℕ)). and_then (steps BLOCK_LIMIT most first_state x) (ended (last_bytes [] text))) whole ∙ ap (λ (r : Result DocumentState CertError). and_then r (ended (last_bytes [] text))) run in
      all ∙ by s (ended (last_bytes [] text) s) refl all
    where
      by : (s : DocumentState) (r : Result (List Document) CertError) → ended (last_bytes [] text) s ≡ r → read_within BLOCK_LIMIT most text ≡ ended (last_bytes [] text) s → ended (last_bytes [] text) s ≡ Err Truncated
      by s (Ok ds) is all = absurd (b.none ds (subst (λ k. IsTextWithin BLOCK_LIMIT k text ds) same (read-sound most text ds (all ∙ is))))
      by s (Err e) is all = is ∙ ap (λ x. Err x) (ended-err (last_bytes [] text) s e is)

  pub fault-only : (e : CertError) → IsFault text e → read_within BLOCK_LIMIT most text ≡ Err e
  fault-only (BadLine n) h = bad-only n h
  fault-only Truncated h = cut-only h
  fault-only TooManyNodes h = many-only h
  fault-only OutOfMemory h = absurd h
