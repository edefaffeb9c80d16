-- Used by examples alone: a document with fact lines and a longest path, and a load line.
use Rattle.std.specs.Prelude.{[], ◌∷◌, codes}
use Rattle.s66_model.specs.{Alone, Factual, Next}
use Rattle.s66_moments.specs.{Origin, End, FactStep, Pair, load_fact}
use Rattle.s66_moments.specs.declared.fact_line.FactStep.TheVariants.{Fact}
use Rattle.s66_cert.specs.{Document}
use Rattle.s66_checker.specs.{with_facts}

-- 1 stands before 3, which needs its unit, only by both lines
abbrev pub shifts_in_turn : Document
shifts_in_turn =
    with_facts (codes "LX1 5" ∷ codes "BX2 X3" ∷ codes "LX4 5" ∷ []) (1 ∷ 2 ∷ 3 ∷ []) 8 5 (Pair 1 2 ∷ Pair 2 3 ∷ []) (Alone (Factual (Next 1)))

-- by it the end comes at 16
abbrev pub end_at_16 : FactStep
end_at_16 = Fact (load_fact Origin End 0 16 (1 ∷ []))
