use Rattle.std.proofs.Common.{◌≡◌, ◌≤◌, ◌-◌, ◌++◌, length, drop}
use Rattle.file_maps.specs.Trees.{grouped}
use Rattle.plain_files.specs.Below.{files_below, groups_of}
use Rattle.plain_files.proofs.below.grouped.Given as goal

abbrev pub invariant-loop-start : goal.invariant-loop-start
invariant-loop-start l = record {
  within : l.start ≤ length l.files;
  groups : groups_of l.groups.items ++ grouped (files_below (drop l.start l.files)) ≡ grouped (files_below l.files);
}

abbrev pub decreases-loop-start : goal.decreases-loop-start
decreases-loop-start l = length l.files - l.start
