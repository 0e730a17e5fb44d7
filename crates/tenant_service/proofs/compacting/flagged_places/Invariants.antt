use Rattle.std.proofs.Common.{◌≡◌}
use Rattle.git_model.specs.Repository.{Repository}
use Rattle.export_text.specs.Marking.{reached_flags}
use Rattle.tenant_service.proofs.CompactPlaces.{AreSoFar}
use Rattle.tenant_service.proofs.compacting.flagged_places.Given as goal

abbrev pub invariant-loop-place : goal.invariant-loop-place
invariant-loop-place l = (repository : Repository) → l.flags ≡ reached_flags repository
    → AreSoFar repository l.place l.places.items
