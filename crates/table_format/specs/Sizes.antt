-- The sizes of a table's parts, as numbers.
use Rattle.std.specs.Prelude.{◌≡◌, ◌^◌}
use Rattle.table_format.specs.declared.sizes.TheConstants.{BLOCK_SIZE, MAX_DATA, FOOTER_SIZE}

-- in bytes: where a block is closed, all blocks at most, and a footer with its digest
pub record SizesAre : Type 0 where
  pub of_block : BLOCK_SIZE ≡ 4096
  pub of_blocks : MAX_DATA ≡ 2 ^ 33
  pub of_footer : FOOTER_SIZE ≡ 52
