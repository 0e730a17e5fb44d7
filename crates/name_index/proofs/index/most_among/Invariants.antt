use Rattle.std.proofs.Common.{◌≡◌, take}
use Rattle.name_index.specs.Index.{most_shared}
use Rattle.name_index.proofs.index.most_among.Given as goal

abbrev pub invariant-loop-other : goal.invariant-loop-other
invariant-loop-other l = l.most ≡ most_shared l.id (take l.other-index l.few)
