use Rattle.std.proofs.Common.{ℕ, ◌-◌, List, length}
use Rattle.git_model.specs.HeldObjects.{AreHeld}
use Rattle.revisions.specs.TagEnds.{EndsAt}
use Rattle.revisions.proofs.tag_ends.TagCache.walk.Given as goal

-- where the way from here ends, the whole ends
abbrev pub invariant-way : goal.invariant-way
invariant-way g l = (end : List ℕ) → AreHeld g.N.Naming.digest_of l.objects
    → EndsAt l.objects l.at end → EndsAt l.objects l.fn.id end

abbrev pub decreases-way : goal.decreases-way
decreases-way g l = length l.objects - l.passed
