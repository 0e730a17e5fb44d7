use Rattle.commit_walk.proofs.LogOrder.{AreKeysTo}
use Rattle.commit_walk.proofs.log.keys_of.Given as goal

abbrev pub invariant-loop-place : goal.invariant-loop-place
invariant-loop-place g l = AreKeysTo g.N.Naming.digest_of l.objects l.flags l.place l.keys.items
