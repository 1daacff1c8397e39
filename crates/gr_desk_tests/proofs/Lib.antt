pub mod HostLemmas
pub mod RequestLemmas
pub mod WitnessLemmas
