-- To be believed: the first fault of a text that is no text of documents, in reading order.
use Rattle.std.specs.Prelude.{◌≡◌, ◌⊎◌, ◌+◌, ◌==◌, ℕ, true, not, List, [], ◌∷◌, ◌++◌, length}
use Rattle.s66_isa.specs.{every, BLOCK_LIMIT}
use Rattle.s66_line.specs.{with_newlines}
use Rattle.s66_cert.specs.Documents.{Document, IsDocumentWithin, AreDocumentsWithin, IsText, text_headed, documents_text}
use Rattle.s66_cert.specs.declared.version.Version.{Version}
use Rattle.s66_cert.specs.declared.version.Version.TheVariants.{BoundsAlone, EarlierNodes, StandingNodes, FactLines, Suppositions}
use Rattle.s66_cert.specs.Versions.{version}
use Rattle.s66_cert.specs.declared.limits.TheConstants.{SPLIT_LIMIT}
use Rattle.s66_cert.specs.declared.error.CertError.{CertError}
use Rattle.s66_cert.specs.declared.error.CertError.TheVariants.{BadLine, Truncated, TooManyNodes, OutOfMemory}

-- it has no newline
abbrev pub IsLine : List ℕ → Type 0
IsLine line = every (λ b. not (b == 10)) line ≡ true

abbrev pub HaveNoNewline : List (List ℕ) → Type 0
HaveNoNewline [] = Unit {0}
HaveNoNewline (line ∷ lines) = IsLine line × HaveNoNewline lines

-- the dominated leaf that the version at its head requires is missing
abbrev pub LacksDominated : (own head : Version) → Type 0
LacksDominated own head = (own ≡ BoundsAlone) × ((head ≡ EarlierNodes) ⊎ (head ≡ StandingNodes))

-- the supposition that it requires is missing
abbrev pub LacksSupposition : (own head : Version) → Type 0
LacksSupposition own head = (own ≡ FactLines) × (head ≡ Suppositions)

-- a document whose lines so far make it of its own version may have the other at its head
abbrev pub MayHead : (own head : Version) → Type 0
MayHead own head = (head ≡ own) ⊎ LacksDominated own head ⊎ LacksSupposition own head

-- a document whose last line is still to come: until then what the version at its head requires may be missing
abbrev pub IsOpenWithin : ℕ → ℕ → Version → Document → Type 0
IsOpenWithin limit most head d = IsDocumentWithin limit most d × MayHead (version d.facts d.rule) head

-- the text of documents, and of one more up to its last line, begins so; their trees have at most this many splits
abbrev pub BeginsWithin : ℕ → List ℕ → Type 0
BeginsWithin most text =
    (more : List ℕ) × (ds : List Document) × (head : Version) × (d : Document) × AreDocumentsWithin BLOCK_LIMIT most ds
    × IsOpenWithin BLOCK_LIMIT most head d × (text ++ more ≡ documents_text ds ++ text_headed head d)

-- some text of documents begins so, with one more up to its last line; which may still lack what its version requires (`IsOpenWithin`)
abbrev pub Begins : List ℕ → Type 0
Begins text = BeginsWithin SPLIT_LIMIT text

-- a line, after lines with which some text of documents begins
pub record HasLine (text : List ℕ) (before : List (List ℕ)) (line : List ℕ) : Type 0 where
  pub after : List ℕ
  pub cut : text ≡ with_newlines before ++ line ++ 10 ∷ after
  pub lines : HaveNoNewline before × IsLine line
  pub begins : Begins (with_newlines before)

-- the first line that isn't what a document has in its place, by its number from 1: with it no text of documents begins, however many splits their trees may have
pub record IsBadLine (text : List ℕ) (number : ℕ) : Type 0 where
  pub before : List (List ℕ)
  pub line : List ℕ
  pub here : HasLine text before line
  pub counted : length before + 1 ≡ number
  pub none : (most : ℕ) → ¬ BeginsWithin most (with_newlines before ++ line ++ 10 ∷ [])

-- with this line no text of documents begins, and one would if trees might have more splits
pub record IsSplitTooMany (text : List ℕ) : Type 0 where
  pub before : List (List ℕ)
  pub line : List ℕ
  pub here : HasLine text before line
  pub most : ℕ
  pub more : BeginsWithin most (with_newlines before ++ line ++ 10 ∷ [])
  pub none : ¬ Begins (with_newlines before ++ line ++ 10 ∷ [])

-- with all its whole lines some text of documents begins, and then it ends: inside a document, or in a line without its newline
pub record IsCut (text : List ℕ) : Type 0 where
  pub before : List (List ℕ)
  pub rest : List ℕ
  pub cut : text ≡ with_newlines before ++ rest
  pub lines : HaveNoNewline before × IsLine rest
  pub begins : Begins (with_newlines before)
  pub none : (ds : List Document) → ¬ IsText BLOCK_LIMIT text ds

-- the fault of a text; out of memory is none
abbrev pub IsFault : List ℕ → CertError → Type 0
IsFault text (BadLine line) = IsBadLine text line
IsFault text Truncated = IsCut text
IsFault text TooManyNodes = IsSplitTooMany text
IsFault text OutOfMemory = ⊥
