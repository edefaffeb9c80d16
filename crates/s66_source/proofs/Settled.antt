-- What the kept lines tell of a line of an accepted source: whether a block begins in it, or it stands beside the blocks, and of which it is.
use Rattle.std.proofs.Common.{◌≡◌, ◌≤◌, ◌<◌, ◌+◌, ◌-◌, ◌==◌, ◌&&◌, ◌||◌, ◌∙◌, not, ℕ, zero, suc, Bool, true, false, if◌then◌else◌, None, Some, List, [], ◌∷◌, ◌++◌, drop, get_or, map, nat_lt, length}
use Rattle.std.proofs.Common.{refl, sym, ap, ap₂, subst, inl, inr, arith, slice_get, drop-cons, add-one, Ok, eq-eqb, le-ltb, lt-ltb, ne_eqb}
use Rattle.std.proofs.lemmas.Bool.{cases_lt, eqb-false, or_parts}
use Rattle.std.proofs.Math.Bool.{or-false}
use Rattle.s66_isa.specs.{Among, some_of, tally}
use Rattle.s66_line.specs.{Block, line_of, is_instruction, body, label_bytes, Class, Comment, Other, Refused, Pad, Instruction}
use Rattle.s66_source.specs.{is_beside, all_of, last_of, owner_by, begins_at, has_block_by, is_beside_by, is_run, kept_line, runs_next, Flagged, Reading, class_at, flagged_lines, owner, has_block}
use Rattle.s66_source.specs.{is_comment_class, is_dropped, is_leading, is_note, is_note_of, Line, begins_block, block_of, blocks_of, classed_lines, classes_from, entry_of, instructions, parts_of}
use Rattle.s66_source.specs.{refusal, source_of, SOURCE_LINES_LIMIT}
use Rattle.s66_source.specs.declared.kept.LineKind.TheVariants as kind
use Rattle.s66_source.specs.Replaced as printed
use Rattle.s66_source.proofs.LineLaw.{AreFilled, Rising, Rising-behind, last_number, line_of-last, neither, no_refusal, not-note, rising-classed, rising-instructions, no-note_in, taken-line}
use Rattle.s66_source.proofs.LineTexts.{AllFrom, AreTold, IsTold, all-from, count_after, first_of, parts_from, told-source, owned_by}
use Rattle.s66_source.proofs.PartsLaw.{parts}
use Rattle.s66_source.proofs.PrintedLines.{Ordered, of-instructions, ordered-classed, run_behind}
use Rattle.s66_source.proofs.ReadAgain.{none-refused, rest-taken}
use Rattle.s66_source.proofs.ReaderBlocks.{fresh, from_class, behind, behind-begins, behind-put, left, put-before}
use Rattle.s66_source.proofs.Runs.{Within, begun, block-new, block-same, first_run, has_run, has_run-first, within-more, within-new, within-same}

-- LISTS

pub map-first : {X Y : Type 0} (f : X → Y) (xs : List X) (y : Y) (ys : List Y) → map f xs ≡ y ∷ ys → (x : X) × (rest : List X) × (xs ≡ x ∷ rest) × (f x ≡ y) × (map f rest ≡ ys)
map-first f [] y ys is = cc
map-first f (x ∷ xs) y ys is = (x, xs, refl, cc, cc)

pub get-none : {X : Type 0} (xs : List X) (n : ℕ) → slice_get xs n ≡ None → drop n xs ≡ []
get-none [] zero none = refl
get-none [] (suc n) none = refl
get-none (x ∷ xs) zero none = cc
get-none (x ∷ xs) (suc n) none = get-none xs n none

pub get-some : {X : Type 0} (xs : List X) (n : ℕ) (x : X) → slice_get xs n ≡ Some x → drop n xs ≡ x ∷ drop (suc n) xs
get-some [] n x some = cc
get-some (y ∷ xs) zero x some = (let same : y ≡ x = cc in ap (λ z. z ∷ xs) same)
get-some (y ∷ xs) (suc n) x some = get-some xs n x some

pub item-next : {X : Type 0} (xs : List X) (i : ℕ) (x : X) → i < length xs → x ≡ get_or xs i x → drop i xs ≡ x ∷ drop (i + 1) xs
item-next xs i x lt is = rw (drop-cons xs i x, add-one) (ap (λ y. y ∷ drop (suc i) xs) (sym is))

drop-none : {X : Type 0} (xs : List X) (n : ℕ) → drop n xs ≡ [] → slice_get xs n ≡ None
drop-none [] n none = refl
drop-none (x ∷ xs) zero none = cc
drop-none (x ∷ xs) (suc n) none = drop-none xs n none

drop-some : {X : Type 0} (xs : List X) (n : ℕ) (x : X) (ys : List X) → drop n xs ≡ x ∷ ys → (slice_get xs n ≡ Some x) × (drop (suc n) xs ≡ ys)
drop-some [] zero x ys is = cc
drop-some [] (suc n) x ys is = cc
drop-some (y ∷ xs) zero x ys is = (let same : y ≡ x = cc in ap Some same, cc)
drop-some (y ∷ xs) (suc n) x ys is = drop-some xs n x ys is

among-behind : {X : Type 0} (xs ys : List X) (x : X) → Among x ys → Among x (xs ++ ys)
among-behind [] ys x among = among
among-behind (y ∷ xs) ys x among = inr (among-behind xs ys x among)

-- A LINE by its number

kept-at : (number run : ℕ) (lines : List Line) (l : Line) → Ordered number run lines → Among l lines → (k : ℕ) × (l.number ≡ number + k) × (slice_get (map kept_line lines) k ≡ Some (kept_line l))
kept-at number run [] l ordered among = absurd among
kept-at number run (x ∷ lines) l ordered (inl same) = (0, (let is = ap (λ (y : Line). y.number) same in omega (arith, is, ordered.0)), ap (λ (y : Line). Some (kept_line y)) (sym same))
kept-at number run (x ∷ lines) l ordered (inr among) =
    let (k, is, found) = kept-at (suc number) (run_behind x) lines l ordered.2 among in
    (suc k, omega (arith, is), found)

-- THE NEXT BLOCK, which these parts begin with

-- it begins in this line, or later
next-begins : (all : List Line) (m number : ℕ) (parts : List (List Line)) → drop m (blocks_of all) ≡ map block_of parts → AllFrom (suc number) parts → begins_at (slice_get (blocks_of all) m) number ≡ false
next-begins all m number [] is later = ap (λ next. begins_at next number) (drop-none (blocks_of all) m is)
next-begins all m number ([] ∷ parts) is later = absurd later
next-begins all m number ((a ∷ more) ∷ parts) is later =
    ap (λ next. begins_at next number) (drop-some (blocks_of all) m (block_of (a ∷ more)) (map block_of parts) is).0 ∙ ne_eqb a.number number (λ same. omega (arith, same, later.0))

pub record IsNext (all : List Line) (m : ℕ) (l : Line) (rest : List Line) : Type 0 where
  pub begins_is : begins_at (slice_get (blocks_of all) m) l.number ≡ first_of l
  pub blocks : drop (count_after (first_of l) m) (blocks_of all) ≡ map block_of (behind (parts_of (instructions rest)))

line-next : (all : List Line) (m : ℕ) (l : Line) (rest : List Line) → AllFrom (suc l.number) (behind (parts_of (instructions rest))) → drop m (blocks_of all) ≡ map block_of (behind (parts_of (instructions (l ∷ rest)))) → IsNext all m l rest
line-next all m l rest later is = by_class (is_instruction l.class) refl
  where
    parts : List (List Line)
    parts = parts_of (instructions rest)

    past : first_of l ≡ false → drop m (blocks_of all) ≡ map block_of (behind parts) → IsNext all m l rest
    past none same = record { begins_is = next-begins all m l.number (behind parts) same later ∙ sym none; blocks = ap (λ t. drop (count_after t m) (blocks_of all)) none ∙ same }

    by_begins : (t : Bool) → begins_block l ≡ t → first_of l ≡ t → drop m (blocks_of all) ≡ map block_of (if t then (l ∷ left parts) ∷ behind parts else behind parts) → IsNext all m l rest
    by_begins false begins none same = past none same
    by_begins true begins some same =
        let found = drop-some (blocks_of all) m (block_of (l ∷ left parts)) (map block_of (behind parts)) same in
        record {
          begins_is = ap (λ next. begins_at next l.number) found.0 ∙ eq-eqb l.number l.number refl ∙ sym some;
          blocks = ap (λ t. drop (count_after t m) (blocks_of all)) some ∙ found.1;
        }

    by_class : (t : Bool) → is_instruction l.class ≡ t → IsNext all m l rest
    by_class false stated =
        past (ap (λ t. t && begins_block l) stated) (is ∙ ap (λ t. map block_of (behind (parts_of (if t then l ∷ instructions rest else instructions rest)))) stated)
    by_class true stated =
        by_begins (begins_block l) refl (ap (λ t. t && begins_block l) stated)
        (is ∙ ap (λ t. map block_of (behind (parts_of (if t then l ∷ instructions rest else instructions rest)))) stated ∙ ap (map block_of) (behind-put l parts))

-- of a run without an instruction so far: the next block begins in it, or none
run-next : (all : List Line) (rest : List Line) (number low run m : ℕ) → Ordered 1 0 all → ((x : Line) → Among x rest → Among x all) → run ≤ low → Ordered number low rest → drop m (blocks_of all) ≡ map block_of (parts_of (instructions rest)) →
    has_run run rest ≡ runs_next (map kept_line all) run (slice_get (blocks_of all) m)
run-next all rest number low run m whole inside least ordered is = has_run-first run number low rest least ordered ∙ by_first (instructions rest) refl is
  where
    by_first : (found : List Line) → instructions rest ≡ found → drop m (blocks_of all) ≡ map block_of (parts_of found) → first_run run found ≡ runs_next (map kept_line all) run (slice_get (blocks_of all) m)
    by_first [] none is = sym (ap (runs_next (map kept_line all) run) (drop-none (blocks_of all) m is))
    by_first (a ∷ more) some is =
        let among = of-instructions rest a (subst (Among a) (sym some) (inl refl)) in
        let (k, number, at) = kept-at 1 0 all a whole (inside a among.0) in
        let place : a.number - 1 ≡ k = omega (arith, number) in
        sym (
        ap (runs_next (map kept_line all) run) (drop-some (blocks_of all) m (block_of (a ∷ left (parts_of more))) (map block_of (behind (parts_of more))) (is ∙ ap (map block_of) (put-before a (parts_of more)))).0
        ∙ ap (λ i. is_run run (slice_get (map kept_line all) i)) place
        ∙ ap (is_run run) at
        )

-- A COMMENT is a note of the block that began last, or of none

abbrev up_to : ℕ → List (List Line) → ℕ
up_to n parts = tally (λ (block : Block). nat_lt (line_of block 1) (suc n)) (map block_of parts)

later-filled : (part : List Line) (parts : List (List Line)) → AreFilled (part ∷ parts) → AreFilled parts
later-filled part parts filled p among = filled p (inr among)

none-later : (l : Line) (low : ℕ) (parts : List (List Line)) → AreFilled parts → Rising low (all_of parts) → l.number < low → (some_of (is_note_of l) (map block_of parts) ≡ false) × (up_to l.number parts ≡ 0)
none-later l low [] filled rising lt = (refl, refl)
none-later l low ([] ∷ parts) filled rising lt = absurd (omega (arith, filled [] (inl refl)))
none-later l low ((a ∷ more) ∷ parts) filled rising lt =
    let behind = Rising-behind low a more (all_of parts) rising in
    let rest = none-later l (suc (last_number a more)) parts (later-filled (a ∷ more) parts filled) behind.1 (omega (arith, lt, rising.0, behind.0)) in (
      ap₂ (λ s t. s || t) (not-note l a more (inl (omega (arith, lt, rising.0)))) rest.0,
      ap (λ (t : Bool). (if t then 1 else 0) + up_to l.number parts) (le-ltb a.number (suc l.number) (omega (arith, lt, rising.0))) ∙ omega (arith, rest.1),
    )

note-is : (l : Line) → is_comment_class l.class ≡ true → (low : ℕ) (parts : List (List Line)) → AreFilled parts → Rising low (all_of parts) → some_of (λ (block : Block). line_of block 1 == l.number) (map block_of parts) ≡ false →
    some_of (is_note_of l) (map block_of parts) ≡ nat_lt l.number (last_of (map block_of parts) (up_to l.number parts))
note-is l comment low [] filled rising other = sym (le-ltb l.number 0 (omega arith))
note-is l comment low ([] ∷ parts) filled rising other = absurd (omega (arith, filled [] (inl refl)))
note-is l comment low ((a ∷ more) ∷ parts) filled rising other =
    elim (cases_lt a.number l.number) [ inl lt ↦ begun-before lt (note-is l comment (suc (last_number a more)) parts rest behind.1 apart.1) | inr le ↦ begins-later le ]
  where
    behind : (a.number ≤ last_number a more) × Rising (suc (last_number a more)) (all_of parts)
    behind = Rising-behind low a more (all_of parts) rising

    rest : AreFilled parts
    rest = later-filled (a ∷ more) parts filled

    apart : ((a.number == l.number) ≡ false) × (some_of (λ (block : Block). line_of block 1 == l.number) (map block_of parts) ≡ false)
    apart = or_parts (a.number == l.number) (some_of (λ (block : Block). line_of block 1 == l.number) (map block_of parts)) other

    begins-later : l.number ≤ a.number → some_of (is_note_of l) (map block_of ((a ∷ more) ∷ parts)) ≡ nat_lt l.number (last_of (map block_of ((a ∷ more) ∷ parts)) (up_to l.number ((a ∷ more) ∷ parts)))
    begins-later le =
        let unlike = eqb-false a.number l.number apart.0 in
        let none = none-later l a.number ((a ∷ more) ∷ parts) filled (omega arith, rising.1) (omega (arith, le, unlike)) in
        none.0 ∙ sym (ap (λ k. nat_lt l.number (last_of (map block_of ((a ∷ more) ∷ parts)) k)) none.1 ∙ le-ltb l.number 0 (omega arith))

    last_is : line_of (block_of (a ∷ more)) (length (map entry_of (a ∷ more))) ≡ last_number a more
    last_is = line_of-last a more

    by_later : last_number a more < l.number → (k : ℕ) → nat_lt l.number (last_of (map block_of parts) k) ≡ nat_lt l.number (last_of (map block_of ((a ∷ more) ∷ parts)) (suc k))
    by_later lt zero = le-ltb l.number 0 (omega arith) ∙ sym (ap (nat_lt l.number) last_is ∙ le-ltb l.number (last_number a more) (omega (arith, lt)))
    by_later lt (suc k) = refl

    begun-before : a.number < l.number → some_of (is_note_of l) (map block_of parts) ≡ nat_lt l.number (last_of (map block_of parts) (up_to l.number parts)) →
        some_of (is_note_of l) (map block_of ((a ∷ more) ∷ parts)) ≡ nat_lt l.number (last_of (map block_of ((a ∷ more) ∷ parts)) (up_to l.number ((a ∷ more) ∷ parts)))
    begun-before lt later =
        let here : is_note_of l (block_of (a ∷ more)) ≡ nat_lt l.number (last_number a more) = ap₂ (λ s t. s && t && nat_lt l.number (line_of (block_of (a ∷ more)) (length (map entry_of (a ∷ more))))) comment (lt-ltb a.number l.number lt) ∙ ap (nat_lt l.number) last_is in
        let one : up_to l.number ((a ∷ more) ∷ parts) ≡ suc (up_to l.number parts) = ap (λ (t : Bool). (if t then 1 else 0) + up_to l.number parts) (lt-ltb a.number (suc l.number) (omega (arith, lt))) ∙ omega arith in
        ap (λ t. t || some_of (is_note_of l) (map block_of parts)) here
        ∙ elim (cases_lt (last_number a more) l.number) [
          | inl past ↦ ap (λ t. t || some_of (is_note_of l) (map block_of parts)) (le-ltb l.number (last_number a more) (omega (arith, past))) ∙ later ∙ by_later past (up_to l.number parts)
          | inr within ↦
              let none = none-later l (suc (last_number a more)) parts rest behind.1 (omega (arith, within)) in
              ap (λ t. nat_lt l.number (last_number a more) || t) none.0 ∙ or-false (nat_lt l.number (last_number a more)) ∙ sym (ap (λ k. nat_lt l.number (last_of (map block_of ((a ∷ more) ∷ parts)) (suc k))) none.1 ∙ ap (nat_lt l.number) last_is)
        ]
        ∙ sym (ap (λ k. nat_lt l.number (last_of (map block_of ((a ∷ more) ∷ parts)) k)) one)

-- OF WHICH BLOCK a line is, by its class

owner-of : (all : List Line) (l : Line) (note dropped : Bool) (m : ℕ) → is_note all l ≡ note → is_dropped all l ≡ dropped → printed.begun all l ≡ m → owner all l ≡ owned_by (is_instruction l.class) note dropped (is_leading all l) m
owner-of all l note dropped m noted left told =
    ap₂ (λ s t. owned_by (is_instruction l.class) s t (is_leading all l) (printed.begun all l)) noted left ∙ ap (owned_by (is_instruction l.class) note dropped (is_leading all l)) told

-- ALL LINES

pub record IsSettled (all : List Line) (number m : ℕ) (l : Line) : Type 0 where
  pub number_is : l.number ≡ number
  pub few : number ≤ SOURCE_LINES_LIMIT
  pub begins_is : begins_at (slice_get (blocks_of all) m) number ≡ first_of l
  pub told : IsTold all l (first_of l) (count_after (first_of l) m)
  pub owner_is : owner all l ≡ owner_by (map kept_line all) (blocks_of all) number m (first_of l) (kept_line l)
  pub beside : is_beside all l ≡ is_beside_by (map kept_line all) (slice_get (blocks_of all) m) (kept_line l)

-- from the line of this number on, before which so many blocks begin
abbrev pub AreSettled : List Line → (number m : ℕ) → List Line → Type 0
AreSettled all number m [] = Unit {0}
AreSettled all number m (l ∷ lines) = IsSettled all number m l × AreSettled all (suc number) (count_after (first_of l) m) lines

module _ (all : List Line) (whole : Ordered 1 0 all) (filled : AreFilled (parts_of (instructions all))) (rising : Rising 1 (all_of (parts_of (instructions all)))) where
  abbrev Settles : List Flagged → Type 0
  Settles lines = (before : List Line) (number run index m : ℕ) (label : List ℕ) (after : Bool) →
      Within all before (classes_from number run index label after lines) run index → drop m (blocks_of all) ≡ map block_of (behind (parts_from number run index label after lines)) → AreTold all m (classes_from number run index label after lines) → refusal (classes_from number run index label after lines) ≡ None →
      AreSettled all number m (classes_from number run index label after lines)

  -- whether a comment is a note
  noted : (l : Line) (m : ℕ) → IsTold all l false m → is_comment_class l.class ≡ true → is_note all l ≡ nat_lt l.number (last_of (blocks_of all) m)
  noted l m told comment = note-is l comment 1 (parts_of (instructions all)) filled rising told.begins ∙ ap (λ k. nat_lt l.number (last_of (blocks_of all) k)) told.begun

  settled-class : (c : Class) (line : List ℕ) (lines : List Flagged) → Settles lines → (before : List Line) (number run index m : ℕ) (label : List ℕ) → Within all before (from_class number run index label c line lines) run index →
      drop m (blocks_of all) ≡ map block_of (behind (parts_of (instructions (from_class number run index label c line lines)))) → AreTold all m (from_class number run index label c line lines) → refusal (from_class number run index label c line lines) ≡ None → AreSettled all number m (from_class number run index label c line lines)
  settled-class Comment line lines settles before number run index m label within is told taken =
      let l : Line = record { number = number; bytes = line; class = Comment; run = run; index = index; label = label } in
      let rest : List Line = classes_from (suc number) run index label false lines in
      let next = line-next all m l rest (all-from lines (suc number) run index label false) is in (
        record { number_is = refl; few = (taken-line l (neither _ _ taken).0).few; begins_is = next.begins_is; told = told.0; owner_is = owner-of all l (is_note all l) false m refl refl told.0.begun ∙ ap (λ (t : Bool). if t then m else 0) (noted l m told.0 refl); beside = refl },
        settles (before ++ l ∷ []) (suc number) run index m label false (within-same all before l rest run index within refl refl) next.blocks told.1 (rest-taken l rest taken),
      )
  settled-class Refused line lines settles before number run index m label within is told taken =
      absurd (none-refused number (classes_from (suc number) run index label false lines) (record { number = number; bytes = line; class = Refused; run = run; index = index; label = label }) refl taken)
  settled-class Other line lines settles before number run index m label within is told taken =
      let l : Line = record { number = number; bytes = line; class = Other; run = run; index = index; label = label } in
      let rest : List Line = classes_from (suc number) (suc run) 0 [] false lines in
      let next = line-next all m l rest (all-from lines (suc number) (suc run) 0 [] false) is in (
        record { number_is = refl; few = (taken-line l (neither _ _ taken).0).few; begins_is = next.begins_is; told = told.0; owner_is = owner-of all l false false m (no-note_in l (blocks_of all) refl) refl told.0.begun; beside = refl },
        settles (before ++ l ∷ []) (suc number) (suc run) 0 m [] false (within-new all before l rest run index within (omega arith) refl) next.blocks told.1 (rest-taken l rest taken),
      )
  settled-class (Pad false) line lines settles before number run index m label within is told taken =
      let l : Line = record { number = number; bytes = line; class = Pad false; run = run; index = index; label = label } in
      let rest : List Line = classes_from (suc number) run index label true lines in
      let next = line-next all m l rest (all-from lines (suc number) run index label true) is in (
        record { number_is = refl; few = (taken-line l (neither _ _ taken).0).few; begins_is = next.begins_is; told = told.0; owner_is = owner-of all l false (has_block all l) m (no-note_in l (blocks_of all) refl) refl told.0.begun ∙ ap (λ (t : Bool). if t then (if index == 0 then suc m else m) else 0) (block-same all before l rest run index within refl refl ∙ by_index index within is); beside = ap not (block-same all before l rest run index within refl refl ∙ by_index index within is) },
        settles (before ++ l ∷ []) (suc number) run index m label true (within-same all before l rest run index within refl refl) next.blocks told.1 (rest-taken l rest taken),
      )
    where
      by_index : (i : ℕ) → Within all before (from_class number run i label (Pad false) line lines) run i → drop m (blocks_of all) ≡ map block_of (behind (parts_from (suc number) run i label true lines)) →
          (begun i || has_run run (classes_from (suc number) run i label true lines)) ≡ has_block_by (map kept_line all) (slice_get (blocks_of all) m) (record { bytes = line; kind = kind.Pad; run = run; index = i })
      by_index zero within is =
          let rest : List Line = classes_from (suc number) run 0 label true lines in
          run-next all rest (suc number) run run m whole
          (λ x among. subst (Among x) (sym within.whole) (among-behind before (record { number = number; bytes = line; class = Pad false; run = run; index = 0; label = label } ∷ rest) x (inr among)))
          (omega arith) (ordered-classed lines (suc number) run 0 label true)
          (is ∙ ap (map block_of) (behind-begins (parts_from (suc number) run 0 label true lines) (fresh lines (suc number) run 0 label true refl)))
      by_index (suc i) within is = sym (ap (λ (t : Bool). if t then runs_next (map kept_line all) run (slice_get (blocks_of all) m) else true) (ne_eqb (suc i) 0 (λ none. omega (arith, none))))
  settled-class (Pad true) line lines settles before number run index m label within is told taken =
      let new : List ℕ = label_bytes (body line) in
      let l : Line = record { number = number; bytes = line; class = Pad true; run = suc run; index = 0; label = new } in
      let rest : List Line = classes_from (suc number) (suc run) 0 new true lines in
      let next = line-next all m l rest (all-from lines (suc number) (suc run) 0 new true) is in
      let has : has_block all l ≡ runs_next (map kept_line all) (suc run) (slice_get (blocks_of all) m) =
      block-new all before l rest run index within refl refl
      ∙ run-next all rest (suc number) (suc run) (suc run) m whole (λ x among. subst (Among x) (sym within.whole) (among-behind before (l ∷ rest) x (inr among))) (omega arith) (ordered-classed lines (suc number) (suc run) 0 new true)
      (is ∙ ap (map block_of) (behind-begins (parts_from (suc number) (suc run) 0 new true lines) (fresh lines (suc number) (suc run) 0 new true refl))) in (
        record {
          number_is = refl;
          few = (taken-line l (neither _ _ taken).0).few;
          begins_is = next.begins_is;
          told = told.0;
          owner_is = owner-of all l false (has_block all l) m (no-note_in l (blocks_of all) refl) refl told.0.begun ∙ ap (λ (t : Bool). if t then suc m else 0) has;
          beside = ap not has;
        },
        settles (before ++ l ∷ []) (suc number) (suc run) 0 m new true (within-new all before l rest run index within (omega arith) refl) next.blocks told.1 (rest-taken l rest taken),
      )
  settled-class (Instruction false i) line lines settles before number run index m label within is told taken =
      let l : Line = record { number = number; bytes = line; class = Instruction false i; run = run; index = index; label = label } in
      let rest : List Line = classes_from (suc number) run (suc index) label true lines in
      let next = line-next all m l rest (all-from lines (suc number) run (suc index) label true) is in (
        record { number_is = refl; few = (taken-line l (neither _ _ taken).0).few; begins_is = next.begins_is; told = told.0; owner_is = told.0.begun; beside = refl },
        settles (before ++ l ∷ []) (suc number) run (suc index) (count_after (first_of l) m) label true (within-more all before l rest run run index index within (omega arith) refl refl) next.blocks told.1 (rest-taken l rest taken),
      )
  settled-class (Instruction true i) line lines settles before number run index m label within is told taken =
      let new : List ℕ = label_bytes (body line) in
      let l : Line = record { number = number; bytes = line; class = Instruction true i; run = suc run; index = 0; label = new } in
      let rest : List Line = classes_from (suc number) (suc run) 1 new true lines in
      let next = line-next all m l rest (all-from lines (suc number) (suc run) 1 new true) is in (
        record { number_is = refl; few = (taken-line l (neither _ _ taken).0).few; begins_is = next.begins_is; told = told.0; owner_is = told.0.begun; beside = refl },
        settles (before ++ l ∷ []) (suc number) (suc run) 1 (count_after (first_of l) m) new true (within-more all before l rest run (suc run) index 0 within (omega arith) refl refl) next.blocks told.1 (rest-taken l rest taken),
      )

  settled-from : (lines : List Flagged) → Settles lines
  settled-from [] before number run index m label after within is told taken = tt
  settled-from (line ∷ lines) before number run index m label after within is told taken = settled-class (class_at after line) line.bytes lines (settled-from lines) before number run index m label within is told taken

pub settled-source : (source : Reading) (blocks : List Block) → source_of source ≡ Ok blocks → AreSettled (classed_lines source) 1 0 (classed_lines source)
settled-source source blocks accepted =
    let all : List Line = classed_lines source in
    let cut = parts source in
    settled-from all (ordered-classed (flagged_lines source) 1 0 0 [] false) (λ part among. (cut.sizes part among).0)
    (subst (Rising 1) (sym cut.whole) (rising-instructions 1 all (rising-classed (flagged_lines source) 1 0 0 [] false))) (flagged_lines source) [] 1 0 0 0 [] false (record { whole = refl; past = tt; begins = refl })
    (ap (map block_of) (sym (behind-begins (parts_of (instructions all)) (fresh (flagged_lines source) 1 0 0 [] false refl)))) (told-source source) (no_refusal (refusal all) (blocks_of all) blocks accepted)
