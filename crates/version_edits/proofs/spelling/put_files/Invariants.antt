use Rattle.std.proofs.Common.{◌≡◌, ◌++◌, length, take}
use Rattle.std.specs.Int.{w16, w64, to_be_bytes}
use Rattle.std.specs.List.{flat_map}
use Rattle.version_edits.proofs.spelling.put_files.Given as goal

-- what the loop has passed stands behind what was there
abbrev pub invariant-loop-file : goal.invariant-loop-file
invariant-loop-file l = l.out.items ≡ l.fn.out.items ++ to_be_bytes w16 (length l.files) ++ flat_map
    (λ file. to_be_bytes w64 file) (take l.file-index l.files)
