mod FreshLemmas
mod KeysLemmas
mod DivisionsLemmas
mod BuildersLemmas
mod ClosingLemmas
mod DeviceLemmas
