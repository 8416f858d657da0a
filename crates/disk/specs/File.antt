-- The content that a file in memory represents.
use Rattle.std.specs.Prelude.{◌≤◌, length, take}
use Rattle.disk.specs.declared.file.MemFile.TheInside.{Inside}
use Rattle.disk.specs.Buffer.{uncovered, AllWithin}
use Rattle.disk.specs.Content.{Content}

-- the synced content is the prefix of the buffer that was there before the overwrites
abbrev pub content_of : Inside → Content
content_of file = record {
  bytes = take file.len file.buffer.items;
  kept = take file.synced_len (uncovered file.buffer.items file.covered.items);
  touches = file.touches.items;
}

-- the file's places lie within the buffer
pub record IsBuffer (file : Inside) : Type 0 where
  pub len : file.len ≤ length file.buffer.items
  pub synced : file.synced_len ≤ length file.buffer.items
  pub covered : AllWithin (length file.buffer.items) file.covered.items
