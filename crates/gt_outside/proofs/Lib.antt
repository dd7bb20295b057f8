pub mod Pieces
pub mod PlacesLemmas
