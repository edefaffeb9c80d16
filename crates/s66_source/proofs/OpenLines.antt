-- The class of a line that is not left alone for what stands before it, by whether it would be refused (`Standing::classify`).
use Rattle.std.proofs.Common.{◌≡◌, ◌∙◌, ◌&&◌, ◌||◌, Bool, true, false, if◌then◌else◌, List, ℕ, refl, sym, ap}
use Rattle.std.proofs.lemmas.Bool.{or_right}
use Rattle.s66_line.specs.{by_operation, class_of, is_located, body, continues, is_comment, from_operation, Class, Comment, Other, Refused}
use Rattle.s66_source.specs.{class_at, is_alone, is_doubtful, is_held, Standing, Redefined}

-- what is refused directly after code alone is an Other line elsewhere
same-or-other : (known : Redefined) (line : List ℕ) (after comment continued : Bool) (c : Class) →
    is_doubtful known (if comment then Comment else (if continued then (if after then Refused else Other) else c)) line ≡ false →
    (if is_doubtful known (if comment then Comment else (if continued then Refused else c)) line then Other else (if comment then Comment else (if continued then (if after then Refused else Other) else c)))
    ≡ (if comment then Comment else (if continued then (if after then Refused else Other) else c))
same-or-other known line after true continued c h = refl
same-or-other known line true false true c h = cc
same-or-other known line false false true c h = refl
same-or-other known line after false false c h = ap (λ t. if t then Other else c) h

accepted : (known : Redefined) (after : Bool) (line : List ℕ) → is_doubtful known (class_of after line) (body line) ≡ false →
    (if is_doubtful known (class_of true line) (body line) then Other else class_of after line) ≡ class_of after line
accepted known after line h =
    same-or-other known (body line) after (is_comment (body line)) (continues (body line)) (by_operation (is_located (body line)) (from_operation (body line))) h

pub open-line : (cut after continued : Bool) (s : Standing) (line : List ℕ) → is_held cut s line continued ≡ false → (cut && is_doubtful s.redefined (class_of after line) (body line)) ≡ false →
    class_of after line ≡ class_at after (record { alone = is_alone cut s line continued; bytes = line })
open-line true after continued s line free h =
    sym (ap (λ held. if held || is_doubtful s.redefined (class_of true line) (body line) then Other else class_of after line) free ∙ accepted s.redefined after line h)
open-line false after continued s line free h = sym (ap (λ held. if held || false then Other else class_of after line) free)

-- one that is in doubt is left alone, directly after code or not
doubt-after : (known : Redefined) (line : List ℕ) (after comment comma : Bool) (c : Class) →
    is_doubtful known (if comment then Comment else (if comma then (if after then Refused else Other) else c)) line ≡ true → is_doubtful known (if comment then Comment else (if comma then Refused else c)) line ≡ true
doubt-after known line after true comma c h = h
doubt-after known line true false true c h = h
doubt-after known line false false true c h = refl
doubt-after known line after false false c h = h

pub doubted-line : (cut after continued : Bool) (s : Standing) (line : List ℕ) → (cut && is_doubtful s.redefined (class_of after line) (body line)) ≡ true →
    Other ≡ class_at after (record { alone = is_alone cut s line continued; bytes = line })
doubted-line false after continued s line h = cc
doubted-line true after continued s line h =
    let doubt : is_doubtful s.redefined (class_of true line) (body line) ≡ true =
    doubt-after s.redefined (body line) after (is_comment (body line)) (continues (body line)) (by_operation (is_located (body line)) (from_operation (body line))) h in
    ap (λ alone. if alone then Other else class_of after line) (sym (or_right (is_held true s line continued) (is_doubtful s.redefined (class_of true line) (body line)) doubt))
