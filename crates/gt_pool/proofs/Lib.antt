pub mod Totals
pub mod ClaimMoves
pub mod TicketMoves
pub mod ChainLemmas
pub mod PlaceLemmas
pub mod GatherLemmas
pub mod DoneLemmas
