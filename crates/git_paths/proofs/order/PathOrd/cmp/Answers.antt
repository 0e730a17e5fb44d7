use Rattle.git_paths.proofs.Ordered.{same_order}
use Rattle.git_paths.proofs.order.PathOrd.cmp.Goals as goal

pub returns : goal.returns
returns c =
    rw (c.cmp.ensures, c.as_bytes.ensures.bytes, c.as_bytes-2.ensures.bytes)
    (same_order c.args.self.now c.args.other.now c.as_bytes.ensures.path c.as_bytes-2.ensures.path)
