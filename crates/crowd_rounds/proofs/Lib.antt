pub mod CrashedCrowds
pub mod CrowdRounds
pub mod Restarts
pub mod Segmenting
pub mod Working
