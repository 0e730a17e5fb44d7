use Rattle.std.proofs.Common.{ap}
use Rattle.git_model.specs.Repository.{Repository}
use Rattle.tenant_stream.proofs.RoomLemmas.{all_committed}
use Rattle.tenant_stream.proofs.stream.Stream.abandon.Goals as goal

pub returns-clause-committed : goal.returns-clause-committed
returns-clause-committed g c =
    all_committed c.args.pool.now c.abandon.new.pool c.args.table.now c.abandon.new.table
    c.committed_len-within.ensures.within c.abandon.ensures.committed
    (ap (λ (r : Repository). r.objects) c.abandon.ensures.left)
