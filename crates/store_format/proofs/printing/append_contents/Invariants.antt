use Rattle.std.proofs.Common.{◌≡◌, ◌++◌, take}
use Rattle.std.specs.List.{flat_map}
use Rattle.store_format.specs.State.{contents_file_text}
use Rattle.store_format.specs.Shown.{contents_files_of}
use Rattle.store_format.proofs.printing.append_contents.Given as goal

-- The texts before the place of the loop were appended.
abbrev pub invariant-loop-file : goal.invariant-loop-file
invariant-loop-file l = l.out.items ≡ l.fn.out.items ++ flat_map contents_file_text (contents_files_of (take l.file-index l.files))
