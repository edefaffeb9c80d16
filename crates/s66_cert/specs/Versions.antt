-- To be believed: the versions of documents, and what each has.
use Rattle.std.specs.Prelude.{ℕ, if◌then◌else◌, Bool, true, false, List, Option, None, Some}
use Rattle.s66_isa.specs.{some_of}
use Rattle.s66_model.specs.{Rule, NoneNamed, WrittenEarlier, ClampedStanding}
use Rattle.s66_moments.specs.{FactStep, is_of_supposition}
use Rattle.s66_cert.specs.declared.version.Version.{Version}
use Rattle.s66_cert.specs.declared.version.Version.TheVariants.{BoundsAlone, EarlierNodes, StandingNodes, FactLines, Suppositions}

abbrev pub has_suppositions : Option (List FactStep) → Bool
has_suppositions None = false
has_suppositions (Some steps) = some_of is_of_supposition steps

-- of a document of such fact lines, if it may have some, by a rule
abbrev pub version : Option (List FactStep) → Rule → Version
version None NoneNamed = BoundsAlone
version None WrittenEarlier = EarlierNodes
version None ClampedStanding = StandingNodes
version (Some steps) rule = if some_of is_of_supposition steps then Suppositions else FactLines

abbrev pub version_number : Version → ℕ
version_number BoundsAlone = 1
version_number EarlierNodes = 2
version_number StandingNodes = 3
version_number FactLines = 4
version_number Suppositions = 5

-- WHAT A DOCUMENT OF A VERSION HAS

abbrev pub version_rule : Version → Rule
version_rule BoundsAlone = NoneNamed
version_rule EarlierNodes = WrittenEarlier
version_rule StandingNodes = ClampedStanding
version_rule FactLines = ClampedStanding
version_rule Suppositions = ClampedStanding

abbrev pub has_facts : Version → Bool
has_facts BoundsAlone = false
has_facts EarlierNodes = false
has_facts StandingNodes = false
has_facts FactLines = true
has_facts Suppositions = true

abbrev pub may_suppose : Version → Bool
may_suppose BoundsAlone = false
may_suppose EarlierNodes = false
may_suppose StandingNodes = false
may_suppose FactLines = false
may_suppose Suppositions = true
