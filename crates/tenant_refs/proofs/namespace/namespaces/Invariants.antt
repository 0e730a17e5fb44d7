use Rattle.std.proofs.Common.{◌≡◌, map}
use Rattle.std.specs.List.{flat_map}
use Rattle.tenant_refs.specs.FullName.{namespace_of}
use Rattle.tenant_refs.proofs.namespace.namespaces.Given as goal

abbrev pub invariant-loop-part : goal.invariant-loop-part
invariant-loop-part l = l.front.items ≡ flat_map namespace_of (map (λ part. part.now) l.yielded)
