pub mod BeginLemmas
pub mod LooseLemmas
pub mod PartsLemmas
pub mod ListLemmas
pub mod LineLemmas
pub mod ReadBack
pub mod ValueLemmas
