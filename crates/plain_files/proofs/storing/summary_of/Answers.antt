use Rattle.std.proofs.Common.{arith}
use Rattle.plain_files.specs.Below.{files_below}
use Rattle.file_maps.proofs.Stored.{depth-bound, longest-bound}
use Rattle.plain_files.proofs.storing.summary_of.Goals as goal

pub overflow_cast-result-2 : goal.overflow_cast-result-2
overflow_cast-result-2 c =
    let is = c.extent_of-depth.ensures.depth in
    let most = depth-bound (files_below c.args.files.now) c.requires.each in omega arith

pub overflow_cast-result-3 : goal.overflow_cast-result-3
overflow_cast-result-3 c =
    let is = c.extent_of-depth.ensures.longest in
    let most = longest-bound (files_below c.args.files.now) c.requires.each in omega arith
