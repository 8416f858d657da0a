pub mod KeptLemmas
pub mod StartWalks
pub mod BlocksStay
pub mod BlockReadsLemmas
