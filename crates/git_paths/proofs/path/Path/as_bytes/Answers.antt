use Rattle.std.proofs.Common.{sym}
use Rattle.git_paths.proofs.Joined.{joined-components_of}
use Rattle.git_paths.proofs.path.Path.as_bytes.Goals as goal

pub returns-clause-bytes : goal.returns-clause-bytes
returns-clause-bytes c =
    rw (c.as_slice.ensures.value, ← c.self.view_is) (sym (joined-components_of c.self.inside.bytes.items))
