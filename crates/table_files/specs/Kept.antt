-- The blocks that are kept under numbers of files.
use Rattle.std.specs.Prelude.{◌≡◌, ℕ, ◌<◌, List, Some, Contains}
use Rattle.std.specs.Ordering.{nat_cmp}
use Rattle.std.specs.BTreeMap.{BTreeMap, get}
use Rattle.std.specs.Rc.{rc_slice_items}
use Rattle.byte_fields.specs.declared.format.Format.{Format}
use Rattle.table_files.specs.declared.block.CheckedBlock.{CheckedBlock}

-- blocks by the number of their file in a cache and by their place
abbrev pub NumberedBlocks : Type 0
NumberedBlocks = List ((ℕ × ℕ) × CheckedBlock)

-- no two files have one number
abbrev pub NumbersDiffer : BTreeMap ℕ ℕ → Type 0
NumbersDiffer numbers = (file other number : ℕ) → get nat_cmp numbers file ≡ Some number
    → get nat_cmp numbers other ≡ Some number → file ≡ other

-- the numbers of files and of blocks are below this one
abbrev pub NumbersAreBelow : BTreeMap ℕ ℕ → NumberedBlocks → ℕ → Type 0
NumbersAreBelow numbers blocks next =
    ((file number : ℕ) → get nat_cmp numbers file ≡ Some number → number < next)
    × ((number place : ℕ) (block : CheckedBlock) → Contains blocks ((number, place), block)
    → number < next)

-- format and bytes of a block that is kept under the file's number and the place
pub record IsKeptBlock (numbers : BTreeMap ℕ ℕ) (blocks : NumberedBlocks) (file place : ℕ)
    (format : Format) (bytes : List ℕ) : Type 0 where
  pub number : ℕ
  pub block : CheckedBlock
  pub known : get nat_cmp numbers file ≡ Some number
  pub kept : Contains blocks ((number, place), block)
  pub read_in : block.format ≡ format
  pub spelled : rc_slice_items block.bytes ≡ bytes
