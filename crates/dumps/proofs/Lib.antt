mod DeviceLemmas
mod PageRowsLemmas
mod RowWalkLemmas
mod StoreDumpLemmas
mod TextsLemmas
mod WalksLemmas
