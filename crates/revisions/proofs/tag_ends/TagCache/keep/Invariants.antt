use Rattle.git_model.specs.HeldObjects.{AreHeld}
use Rattle.revisions.specs.TagEnds.{AreTagEnds, EndsAt}
use Rattle.revisions.proofs.tag_ends.TagCache.keep.Given as goal

-- the way goes on from here to the end
abbrev pub invariant-loop-i : goal.invariant-loop-i
invariant-loop-i g l = AreHeld g.N.Naming.digest_of l.objects → EndsAt l.objects l.fn.id l.end
    → AreTagEnds l.objects l.fn.self → record {
      way : EndsAt l.objects l.at l.end;
      tags : AreTagEnds l.objects l.self;
    }
