use Rattle.std.proofs.Common.{◌≡◌, map}
use Rattle.std.specs.Map.Iter.{deref_pair}
use Rattle.file_maps.specs.Edits.{cut}
use Rattle.plain_files.specs.Below.{files_below}
use Rattle.plain_files.proofs.below.files_at.Given as goal

abbrev pub invariant-loop-path : goal.invariant-loop-path
invariant-loop-path l = files_below l.files.items ≡ cut l.top (map deref_pair l.yielded)
