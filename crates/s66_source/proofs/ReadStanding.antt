-- What stands before a line that is read again, and whether the line is left alone again.
use Rattle.std.proofs.Common.{◌≡◌, ◌==◌, ◌-◌, ◌&&◌, ◌||◌, not, ℕ, Bool, true, false, if◌then◌else◌, true≢false, List, [], ◌∷◌, ◌++◌, codes, nat_le, nat_lt, refl, sym, ap, ap₂, ◌∙◌, arith}
use Rattle.std.proofs.Common.{append_assoc, drop, bytes_eq, eqb-true, leb-true, ne_eqb}
use Rattle.std.proofs.lemmas.Bool.{and_parts, and_right, or_parts, or_from}
use Rattle.s66_isa.specs.{every}
use Rattle.s66_line.specs.{class_of, after_word, body, is_blank, is_comment, is_return, continues, operation, skip_blanks, upper, upper_byte, word, lines_of, Class}
use Rattle.s66_line.proofs.Wholes.{is_inside}
use Rattle.s66_source.specs.{counting_text, is_covering, Flagged, after_body, after_line, after_operation, class_at, has_operation, is_alone, is_continued, is_directive, is_held, is_switch}
use Rattle.s66_source.specs.{is_off_switch, is_on_switch, is_doubtful, off_after, with_operation, after_directive, directive_cover, with_directive, Standing}
use Rattle.s66_source.proofs.Directives.{no-star}
use Rattle.s66_source.proofs.ReadBack.{trim-twice, class_of-body, lines_of-line}
use Rattle.s66_source.proofs.Standings.{same-off}

-- a line with its switch, if it comes after what stands
abbrev pub flagged_at : Bool → Standing → List ℕ → Bool → Flagged
flagged_at cut s line continued = record { alone = is_alone cut s line continued; bytes = line }

-- WHAT LEAVES A LINE ALONE

-- what stands leaves the next line alone
abbrev pub is_holding : Bool → Standing → Bool
is_holding cut s = s.off || (cut && (nat_lt 0 s.bodies || is_covering s.cover))

-- a line is a switch or a directive that leaves it alone
abbrev pub is_flagged : Bool → List ℕ → Bool
is_flagged cut line = is_off_switch (body line) || (cut && is_directive (body line))

-- a line that isn't left alone
pub record IsTaken (cut : Bool) (s : Standing) (line : List ℕ) (continued : Bool) : Type 0 where
  pub free : is_holding cut s ≡ false
  pub unflagged : is_flagged cut line ≡ false
  pub ended : (cut && continued) ≡ false

pub taken : (cut : Bool) (s : Standing) (line : List ℕ) (continued : Bool) → is_alone cut s line continued ≡ false → IsTaken cut s line continued
taken true s line continued h =
    let both = or_parts (is_held true s line continued) (is_doubtful s.redefined (class_of true line) (body line)) h in
    let off = or_parts s.off _ both.0 in
    let switch = or_parts (is_off_switch (body line)) _ off.1 in
    let bodies = or_parts (nat_lt 0 s.bodies) _ switch.1 in
    let cover = or_parts (is_covering s.cover) _ bodies.1 in
    let next = or_parts continued (is_directive (body line)) cover.1 in
    record {
      free = or_from s.off _ off.0 (or_from (nat_lt 0 s.bodies) (is_covering s.cover) bodies.0 cover.0);
      unflagged = or_from (is_off_switch (body line)) (is_directive (body line)) switch.0 next.1;
      ended = next.0;
    }
taken false s line continued h =
    let both = or_parts (is_held false s line continued) false h in
    let off = or_parts s.off _ both.0 in
    let switch = or_parts (is_off_switch (body line)) false off.1 in
    record { free = or_from s.off false off.0 refl; unflagged = or_from (is_off_switch (body line)) false switch.0 refl; ended = refl }

-- the other way round, if it isn't in doubt
pub not-alone : (cut : Bool) (s : Standing) (line : List ℕ) (continued : Bool) → is_holding cut s ≡ false → is_flagged cut line ≡ false → (cut && continued) ≡ false →
    (cut && is_doubtful s.redefined (class_of true line) (body line)) ≡ false → is_alone cut s line continued ≡ false
not-alone true s line continued free unflagged ended accepted =
    let off = or_parts s.off _ free in
    let switch = or_parts (is_off_switch (body line)) (is_directive (body line)) unflagged in
    let both = or_parts (nat_lt 0 s.bodies) (is_covering s.cover) off.1 in
    or_from (is_held true s line continued) (is_doubtful s.redefined (class_of true line) (body line))
    (or_from s.off _ off.0 (or_from (is_off_switch (body line)) _ switch.0 (or_from (nat_lt 0 s.bodies) _ both.0 (or_from (is_covering s.cover) _ both.1 (or_from continued (is_directive (body line)) ended switch.1)))))
    accepted
not-alone false s line continued free unflagged ended accepted =
    let off = or_parts s.off false free in
    let switch = or_parts (is_off_switch (body line)) false unflagged in
    or_from (is_held false s line continued) false (or_from s.off _ off.0 (or_from (is_off_switch (body line)) false switch.0 refl)) refl

-- A LINE WITHOUT THE RETURNS AT ITS END

abbrev alone_body : Bool → Standing → Bool → List ℕ → Class → Bool
alone_body cut s continued line c =
    (s.off || (is_off_switch line || (cut && (nat_lt 0 s.bodies || (is_covering s.cover || (continued || is_directive line)))))) || (cut && is_doubtful s.redefined c line)

pub alone-body : (cut : Bool) (s : Standing) (line : List ℕ) (continued : Bool) → is_alone cut s (body line) continued ≡ is_alone cut s line continued
alone-body cut s line continued =
    ap (λ bytes. alone_body cut s continued bytes (class_of true (body line))) (trim-twice is_return line) ∙ ap (alone_body cut s continued (body line)) (class_of-body true line)

pub after-body : (cut : Bool) (s : Standing) (line : List ℕ) → after_line cut s (body line) ≡ after_line cut s line
after-body cut s line = ap (after_body cut s) (trim-twice is_return line)

pub flagged-body : (cut : Bool) (line : List ℕ) → is_flagged cut (body line) ≡ is_flagged cut line
flagged-body cut line = ap (λ bytes. is_off_switch bytes || (cut && is_directive bytes)) (trim-twice is_return line)

pub class_at-body : (after alone : Bool) (line : List ℕ) → class_at after (record { alone = alone; bytes = body line }) ≡ class_at after (record { alone = alone; bytes = line })
class_at-body after true line = refl
class_at-body after false line = class_of-body after line

-- A COMMA IN COLUMN 1

comma-kept : (b : ℕ) (rest : List ℕ) (all : Bool) → (is_return b && all) ≡ true → (b == 44) ≡ false
comma-kept b rest all h = by_comma (b == 44) refl
  where
    by_comma : (t : Bool) → (b == 44) ≡ t → t ≡ false
    by_comma true stated = absurd (true≢false (sym h ∙ ap (λ c. is_return c && all) (eqb-true b 44 stated)))
    by_comma false stated = refl

pub continues-body : (line : List ℕ) → continues (body line) ≡ continues line
continues-body [] = refl
continues-body (b ∷ line) = by_all (every is_return (b ∷ line)) refl
  where
    by_all : (t : Bool) → every is_return (b ∷ line) ≡ t → continues (if t then [] else b ∷ body line) ≡ (b == 44)
    by_all true stated = sym (comma-kept b line (every is_return line) stated)
    by_all false stated = refl

-- WHAT LEAVES THE STANDING AS IT IS

no_star : (b : ℕ) → (b == 42) ≡ false → (upper_byte b == 42) ≡ false
no_star b other = by_case (nat_le 97 b && nat_le b 122) refl
  where
    by_case : (t : Bool) → (nat_le 97 b && nat_le b 122) ≡ t → ((if t then b - 32 else b) == 42) ≡ false
    by_case true stated = let low = leb-true 97 b (and_parts (nat_le 97 b) (nat_le b 122) stated).0 in ne_eqb (b - 32) 42 (λ same. absurd (omega (arith, low, same)))
    by_case false stated = other

no_switch : (second : List ℕ) (b : ℕ) (line : List ℕ) → (b == 42) ≡ false → is_switch second (b ∷ line) ≡ false
no_switch second b line other =
    elim (is_blank b) as (λ t. (bytes_eq (upper (if t then [] else b ∷ word line)) (codes "*S66") && bytes_eq (upper (word (skip_blanks (if t then b ∷ line else after_word line)))) second) ≡ false)
    [ true ↦ refl | false ↦ rw (no_star b other) refl ]

unflagged-by : (cut : Bool) (line : List ℕ) → is_comment line ≡ false → (is_off_switch line || (cut && is_directive line)) ≡ false
unflagged-by cut [] h = absurd (true≢false h)
unflagged-by cut (b ∷ line) h =
    let other = (or_parts (b == 42) _ h).0 in
    or_from (is_off_switch (b ∷ line)) (cut && is_directive (b ∷ line)) (no_switch (codes "OFF") b line other) (and_right cut (is_directive (b ∷ line)) (no-star b line other))

-- what is no comment is neither a switch nor a directive
pub code-unflagged : (cut : Bool) (line : List ℕ) → is_comment (body line) ≡ false → is_flagged cut line ≡ false
code-unflagged cut line h = unflagged-by cut (body line) h

pub comment-stays : (cut : Bool) (s : Standing) (line : List ℕ) → is_holding cut s ≡ false → is_flagged cut line ≡ false → is_comment (body line) ≡ true → after_line cut s line ≡ s
comment-stays cut s line free unflagged comment =
    let none : has_operation (body line) ≡ false = ap (λ is. not (is || continues (body line))) comment in
    let directed : with_directive cut s (body line) ≡ s =
    ap (λ t. if t then after_directive s (directive_cover (upper (drop 1 (body line)))) else s) (or_parts (is_off_switch (body line)) _ unflagged).1 in
    let same : with_operation cut s (body line) ≡ s =
    ap (λ t. if t then after_operation s (upper (operation (body line))) (upper (counting_text (body line))) else with_directive cut s (body line)) (and_right cut (has_operation (body line)) none) ∙ directed in
    let off : off_after s.off (body line) ≡ s.off =
    same-off (is_on_switch (body line)) s.off (is_off_switch (body line)) (or_parts s.off _ free).0 (or_parts (is_off_switch (body line)) _ unflagged).0 in
    ap₂ (λ (t : Standing) (off : Bool). record t { off = off }) same off

-- A TEXT THAT GOES ON

-- the first of its lines that is no comment has a comma in column 1
abbrev pub goes_on : List ℕ → Bool
goes_on text = is_continued (lines_of text)

abbrev pub IsQuiet : Bool → List ℕ → Type 0
IsQuiet cut text = (cut && goes_on text) ≡ false

-- a line, and then a text
pub goes-line : (line text : List ℕ) → every is_inside line ≡ true → goes_on ((line ++ codes "\n") ++ text) ≡ (if is_comment (body line) then goes_on text else continues line)
goes-line line text inside = ap goes_on (append_assoc line (codes "\n") text) ∙ ap is_continued (lines_of-line line text inside)
