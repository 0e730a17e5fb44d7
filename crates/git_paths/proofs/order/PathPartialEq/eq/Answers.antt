use Rattle.git_paths.proofs.Ordered.{same_test}
use Rattle.git_paths.proofs.order.PathPartialEq.eq.Goals as goal

pub returns : goal.returns
returns c =
    rw (c.eq.ensures, c.as_bytes.ensures.bytes, c.as_bytes-2.ensures.bytes)
    (same_test c.args.self.now c.args.other.now c.as_bytes.ensures.path c.as_bytes-2.ensures.path)
