use Rattle.git_paths.specs.Paths.{components_of, IsPath}
use Rattle.git_paths.proofs.Below.{IsPath-strip_prefix}
use Rattle.git_paths.proofs.path.Path.strip_prefix.Goals as goal

pub of-requires : goal.of-requires
of-requires c =
    let path : IsPath (components_of c.deref-2.result.now) =
    rw c.deref-2.ensures.value c.self.invariant in
    IsPath-strip_prefix (components_of c.deref.result.now) (components_of c.deref-2.result.now)
    (components_of c.in_ok-rest.rest.now) path c.in_ok-rest.ensures
