pub mod SplitLemmas
pub mod DigitsLemmas
pub mod MadeLemmas
pub mod LineBackLemmas
pub mod PartsBackLemmas
pub mod AnswerBackLemmas
pub mod NumberLaws
