use Rattle.revisions.proofs.peeling.next_from.Goals as goal

pub returns-in-Tag-default : goal.returns-in-Tag-default
returns-in-Tag-default c =
    λ readable. rw c.in-Tag-default.is-0 (c.target_in.ensures (rw c.in-Tag-default.is-0 at readable))
