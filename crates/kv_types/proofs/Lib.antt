pub mod MapLaws
pub mod ViewLaws
pub mod MarkLaws
pub mod EntryCases
pub mod Walks
pub mod PageLaws
pub mod Fronts
