use Rattle.std.proofs.Common.{◌≡◌, length}
use Rattle.git_model.specs.HeldObjects.{AreHeld}
use Rattle.git_model.specs.StoredPath.{entry_below}
use Rattle.git_objects.specs.Parts.{entry_of}
use Rattle.revisions.proofs.stored_path.entry_below.Given as goal

abbrev pub invariant-way : goal.invariant-way
invariant-way g l = AreHeld g.N.Naming.digest_of l.objects
    → entry_below l.objects l.path (entry_of l.entry) ≡ entry_below l.objects l.rest (entry_of l.at)

abbrev pub decreases-way : goal.decreases-way
decreases-way g l = length l.rest
