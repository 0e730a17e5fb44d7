use Rattle.std.proofs.Common.{◌≡◌, map}
use Rattle.std.specs.Map.Iter.{deref_pair}
use Rattle.file_maps.specs.Edits.{cut, moved}
use Rattle.plain_files.proofs.map.push_moved.Given as goal

abbrev pub invariant-loop-path : goal.invariant-loop-path
invariant-loop-path l = l.files.items ≡ moved l.to (cut l.from (map deref_pair l.yielded))
