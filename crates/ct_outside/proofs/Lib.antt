mod BelowLemmas
mod ListingLemmas
mod MatchingLemmas
mod NamedLemmas
mod TextsLemmas
pub mod ComponentLemmas
pub mod StoredLemmas
