pub mod LeastBits
pub mod LeastClause
pub mod NoteLemmas
pub mod RuleByRule
pub mod StepLemmas
pub mod Truths
