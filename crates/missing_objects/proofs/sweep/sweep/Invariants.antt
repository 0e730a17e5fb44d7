use Rattle.std.proofs.Common.{◌≡◌, ◌≤◌, ℕ, List, length}
use Rattle.git_model.specs.HeldObjects.{AreHeld}
use Rattle.missing_objects.specs.Marks.{AreMarksOf, first_marks}
use Rattle.missing_objects.proofs.Sweeping.{IsSweep}
use Rattle.missing_objects.proofs.sweep.sweep.Given as goal

abbrev pub invariant-loop-place : goal.invariant-loop-place
invariant-loop-place g l = record {
  within : l.place ≤ length l.objects;
  size : AreMarksOf l.objects l.marks;
  sweeps : AreHeld g.N.Naming.digest_of l.objects → (wants haves : List (List ℕ))
      → l.initial.marks ≡ first_marks l.objects wants haves
      → IsSweep l.objects wants haves l.place l.found l.marks;
}

abbrev pub decreases-loop-place : goal.decreases-loop-place
decreases-loop-place g l = l.place
