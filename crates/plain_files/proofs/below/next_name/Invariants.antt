use Rattle.std.proofs.Common.{◌≡◌, drop}
use Rattle.plain_files.specs.Below.{files_below, next_name}
use Rattle.plain_files.proofs.below.next_name.Given as goal

abbrev pub invariant-loop-file : goal.invariant-loop-file
invariant-loop-file l =
    next_name (files_below (drop l.file-index l.files)) ≡ next_name (files_below l.files)
