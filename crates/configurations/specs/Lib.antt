pub mod NodeLists
pub mod Configs
pub mod Spelling
pub mod Refusals
pub mod Checks
-- What crates above name.
pub use Rattle.configurations.specs.Configs.{IsConfig, TestDecidesConfig, is_config}
pub use Rattle.configurations.specs.NodeLists.{Configurations, IsId, Lawful, at_epoch, is_head}
pub use Rattle.configurations.specs.NodeLists.{is_tail, last_of, predecessor, successor}
pub use Rattle.configurations.specs.Spelling.{ConfigTextIsShort, ConfigTextIsUnique, config_text}
