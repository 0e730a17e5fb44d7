use Rattle.std.proofs.Common.{◌≡◌, max, drop}
use Rattle.file_maps.specs.Trees.{depth_of}
use Rattle.plain_files.specs.Below.{files_below}
use Rattle.plain_files.proofs.below.depth_of.Given as goal

abbrev pub invariant-loop-file : goal.invariant-loop-file
invariant-loop-file l =
    max l.deep (depth_of (files_below (drop l.file-index l.files))) ≡ depth_of (files_below l.files)
