pub mod KeyLemmas
pub mod Pigeons
pub mod FewLemmas
