-- What crates above name.
pub use Rattle.benchmarks.specs.Benchmarks.{name_of}
pub use Rattle.benchmarks.specs.Keys.{key_text, next_seed}
pub mod Benchmarks
pub mod Counts
pub mod Keys
pub mod Lending
pub mod Measures
pub mod Stretches
pub mod Walks
pub mod Words
pub mod Works
