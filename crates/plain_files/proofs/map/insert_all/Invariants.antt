use Rattle.std.proofs.Common.{◌≡◌, length}
use Rattle.file_maps.specs.Kept.{put_all}
use Rattle.plain_files.proofs.map.insert_all.Given as goal

abbrev pub invariant-loop-path : goal.invariant-loop-path
invariant-loop-path l =
    put_all l.map.entries l.files.items ≡ put_all l.fn.map.entries l.fn.files.items

abbrev pub decreases-loop-path : goal.decreases-loop-path
decreases-loop-path l = length l.files.items
