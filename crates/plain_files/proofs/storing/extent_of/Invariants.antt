use Rattle.std.proofs.Common.{◌≡◌, max, drop}
use Rattle.file_maps.specs.Trees.{depth_of}
use Rattle.file_maps.specs.Storable.{longest_of}
use Rattle.plain_files.specs.Below.{files_below}
use Rattle.plain_files.proofs.storing.extent_of.Given as goal

abbrev pub invariant-loop-file : goal.invariant-loop-file
invariant-loop-file l = record {
  depth : max l.depth (depth_of (files_below (drop l.file-index l.files))) ≡ depth_of (files_below l.files);
  longest : max l.longest (longest_of (files_below (drop l.file-index l.files))) ≡ longest_of (files_below l.files);
}
