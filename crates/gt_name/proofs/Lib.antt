pub mod ComponentsLemmas
pub mod DigitsLemmas
pub mod LawsLemmas
pub mod PlacesLemmas
