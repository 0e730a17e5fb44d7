use Rattle.std.proofs.Common.{◌≡◌, drop}
use Rattle.store_format.specs.Saying.{file_of}
use Rattle.store_format.specs.Shown.{numbered_of}
use Rattle.store_format.proofs.contents.file_with.Given as goal

-- The file is none of those before the place of the loop.
abbrev pub invariant-loop-file : goal.invariant-loop-file
invariant-loop-file l = file_of (numbered_of (drop l.file-index l.files)) l.number ≡ file_of (numbered_of l.files) l.number
