use Rattle.std.proofs.Common.{◌≡◌}
use Rattle.std.specs.Prelude.{unwrap_or}
use Rattle.git_model.specs.declared.kind.Kind.TheVariants as kind
use Rattle.git_model.specs.HeldObjects.{AreHeld}
use Rattle.git_model.specs.Peeling.{next_to, first_within}
use Rattle.revisions.specs.Ways.{is_end, first_end}
use Rattle.revisions.proofs.peeling.first_end.Given as goal

abbrev pub invariant-way : goal.invariant-way
invariant-way g l = AreHeld g.N.Naming.digest_of l.objects
    → first_end l.objects l.wanted l.fn.id ≡ first_within (is_end l.objects l.wanted)
    (next_to l.objects (unwrap_or l.wanted kind.Blob)) l.steps l.at

abbrev pub decreases-way : goal.decreases-way
decreases-way g l = l.steps
