pub mod SlotLemmas
pub mod PairWalks
