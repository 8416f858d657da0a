pub mod Order
pub mod Positions
pub mod TableEntries
pub mod Moves
pub mod EntryOrder
pub mod EntryParts
pub mod ListEntries
pub mod Lists
pub mod Merging
pub mod LentCursors
pub mod Unions
pub mod ShownEntries
pub mod KeptEntries
pub mod AlikeViews
pub mod AtNumbers
pub mod Views
pub mod OrderLemmas
pub mod ListPlacesLemmas
-- What crates above name.
pub use Rattle.merge_iter.specs.EntryOrder.{chain, entry_total, never}
pub use Rattle.merge_iter.specs.EntryParts.{equal_parts, numbers_fall}
pub use Rattle.merge_iter.specs.LentCursors.{AreDisjoint, AreSound, IsIntact}
pub use Rattle.merge_iter.specs.LentCursors.{KeepsCursor, RefusesMove}
pub use Rattle.merge_iter.specs.LentCursors.{union_of}
pub use Rattle.merge_iter.specs.ListEntries.{IsSortedList, ListHolds}
pub use Rattle.merge_iter.specs.Merging.{AreApart, EachChild, UnionHolds}
pub use Rattle.merge_iter.specs.Moves.{CanStep, EntriesStay, ErrorCauses, IsLawful, MoveFinds}
pub use Rattle.merge_iter.specs.Moves.{AreCursorLaws, Moved, MoveKeeps, MovesBy, StepsBy, reports}
pub use Rattle.merge_iter.specs.Order.{EntryPrecedes, IsAlike, IsApart, entry_cmp, spot}
pub use Rattle.merge_iter.specs.Positions.{After, At, AtEnd, Broken, IfOn, IsBroken, IsFirst}
pub use Rattle.merge_iter.specs.Positions.{IsOn, Off, On, Position, WalkMeets, WalkStart}
pub use Rattle.merge_iter.specs.TableEntries.{IsTableEntry}
pub use Rattle.merge_iter.specs.Views.{IsView}
