use Rattle.std.proofs.Common.{◌≡◌, [], length}
use Rattle.git_model.specs.Repository.{Repository}
use Rattle.git_objects.specs.Device.{device_of, seen}
use Rattle.gitpool.specs.Importing.{IsStreaming}
use Rattle.gitpool.proofs.ImportLemmas.{SoFar}
use Rattle.gitpool.proofs.importing.read_all.Given as goal

abbrev pub invariant-loop : goal.invariant-loop
invariant-loop g l = (length l.block ≡ 65536) × (l.out.items ≡ [])
    × ((repository : Repository) → IsStreaming g.N.Naming.digest_of l.fn.tenant repository [] l.fn.service
    → SoFar g.N.Naming.digest_of l.fn.tenant repository l.fn.service l.service
    (seen (g.R.Read.remaining (device_of l.fn.reader)) l.fn.reader)
    (seen (g.R.Read.remaining (device_of l.reader)) l.reader)
    (seen (g.W.Write.contents (device_of l.fn.writer)) l.fn.writer)
    (seen (g.W.Write.contents (device_of l.writer)) l.writer)
    l.counter)
