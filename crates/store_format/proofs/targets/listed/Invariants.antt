use Rattle.std.proofs.Common.{◌≡◌, map}
use Rattle.std.specs.Map.Iter.{deref_pair}
use Rattle.store_format.specs.Shown.{lent_refs_of}
use Rattle.store_format.proofs.targets.listed.Given as goal

-- The refs before the place of the loop are listed.
abbrev pub invariant-loop-name : goal.invariant-loop-name
invariant-loop-name l = lent_refs_of l.list.items ≡ lent_refs_of (map deref_pair l.yielded)
