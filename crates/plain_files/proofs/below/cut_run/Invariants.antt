use Rattle.std.proofs.Common.{◌≡◌, [], ◌∷◌, take}
use Rattle.file_maps.specs.Edits.{cut}
use Rattle.plain_files.specs.Below.{files_below}
use Rattle.plain_files.proofs.below.cut_run.Given as goal

abbrev pub invariant-loop-file : goal.invariant-loop-file
invariant-loop-file l =
    files_below l.below.items ≡ cut (l.name ∷ []) (files_below (take l.file-index l.files))
