use Rattle.std.proofs.Common.{◌≡◌, ◌++◌, map, take}
use Rattle.git_model.specs.RefStore.{listed_refs}
use Rattle.gitpool.proofs.PackLemmas.{held_by}
use Rattle.gitpool.proofs.pack_writing.append_targets.Given as goal

abbrev pub invariant-loop-position : goal.invariant-loop-position
invariant-loop-position l = l.out.items ≡ l.initial.out.items ++ map held_by (take l.position (listed_refs l.refs))
