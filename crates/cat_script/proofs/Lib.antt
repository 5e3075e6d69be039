mod LineLemmas
mod NumberLemmas
mod WordLemmas
mod PlainLemmas
mod UsualLemmas
mod CrashLemmas
mod RoundLemmas
mod ReadLemmas
pub mod LineLaws
pub mod RoundLaws
pub mod ScriptLaws
mod AnswerLemmas
mod FitLemmas
mod DecisionLemmas
mod WholeLaws
