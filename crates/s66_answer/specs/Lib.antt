pub mod StatusCode
pub mod Shown
pub mod Answers
pub mod OfAnswers
pub mod ProvedAnswers
pub mod Stored
pub mod Turns
pub mod Kept
pub use StatusCode.{status_code}
pub use Shown.{shown, before}
pub use Answers.{Answer, problem_of, texts_of, rule_of, document_under, searched, IsAnswer, IsEnough, AreAnswers}
pub use OfAnswers.{bounded_if, status_by, status_of, all_parts, IsOfAnswers}
pub use ProvedAnswers.{IsSpelledTo, IsSpelled, IsSpelledBlock}
pub use Stored.{IsSearchOf, AreBeside, tree_splits, parts_by, IsAccepted, claimed_by, claimed, answer_in, IsShownBy, IsStoredClaim, IsFound, IsFor, IsWorth}
pub use Turns.{AreMade, ArePut}
pub use Kept.{IsKept, AreKept, AreAnswered, IsKeptAt, parts_in, bounded_in}
pub use declared.answers.ByFacts.{ByFacts}
pub use declared.answers.Candidate.{Candidate}
pub use declared.kept.KeptBlock.{KeptBlock}
pub use declared.outcome.Output.{Output}
pub use declared.outcome.Status.{Status}
pub use declared.outcome.Status.TheVariants.{Bounded, Denied, Done, Listed}
pub use declared.share.Made.{Made}
