pub mod WalkLemmas
pub mod WholeLemmas
pub mod PutLemmas
pub mod FieldLemmas
pub mod ManifestLemmas
pub mod SecondLemmas
pub mod LooseLemmas
pub mod FirstLemmas
