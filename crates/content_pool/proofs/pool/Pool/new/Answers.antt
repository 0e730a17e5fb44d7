use Rattle.content_pool.specs.Pool.{holds}
use Rattle.content_pool.proofs.pool.Pool.new.Goals as goal

pub returns : goal.returns
unfolding holds
returns g c = λ s. rw c.new.ensures.empty
