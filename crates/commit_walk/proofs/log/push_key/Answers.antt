use Rattle.commit_walk.proofs.LogOrder.{key_told}
use Rattle.commit_walk.proofs.log.push_key.Goals as goal

pub returns : goal.returns
returns g c good there commit =
    let told = key_told _ c.args.objects.now good c.args.place there _ _ _ c.in-Some.ensures in
    rw told (rw c.key_in.ensures at c.in_ok-push.ensures.items)
