use Rattle.std.proofs.Common.{◌≡◌, []}
use Rattle.git_objects.specs.Device.{device_of, seen}
use Rattle.gitpool.specs.Requests.{hosted}
use Rattle.gitpool.proofs.HostLemmas.{SoFar}
use Rattle.gitpool.proofs.hosting.answer_requests.Given as goal

-- Each frame so far was answered.
abbrev pub invariant-loop : goal.invariant-loop
invariant-loop g l = (l.out.items ≡ []) × SoFar g.N.Naming.digest_of
    (hosted l.fn.service (g.P.PoolPlace.file l.fn.place))
    (hosted l.service (g.P.PoolPlace.file l.place))
    (seen (g.R.Read.remaining (device_of l.fn.reader)) l.fn.reader)
    (seen (g.R.Read.remaining (device_of l.reader)) l.reader)
    (seen (g.W.Write.contents (device_of l.fn.writer)) l.fn.writer)
    (seen (g.W.Write.contents (device_of l.writer)) l.writer)
    l.counter
