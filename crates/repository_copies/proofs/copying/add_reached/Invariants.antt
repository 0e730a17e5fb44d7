use Rattle.std.proofs.Common.{◌≡◌, [], take}
use Rattle.std.specs.List.{filter}
use Rattle.git_model.specs.GoodRepository.{AreObjects}
use Rattle.git_model.specs.RefStore.{RefStore}
use Rattle.git_model.specs.Reach.{is_referred_to}
use Rattle.export_text.specs.Marking.{reached_flags}
use Rattle.repository_copies.specs.Found.{AreFound}
use Rattle.repository_copies.proofs.ObjectSteps.{AreAdded}
use Rattle.repository_copies.proofs.copying.add_reached.Given as goal

abbrev pub invariant-loop-place : goal.invariant-loop-place
invariant-loop-place g l = (refs : RefStore) → AreObjects g.N.Naming.digest_of l.objects
    → l.reached ≡ reached_flags (record { objects = l.objects; refs = refs })
    → AreFound l.objects l.initial.found → l.initial.found.places.items ≡ []
    → AreAdded l.objects
    (filter (λ o. is_referred_to (record { objects = l.objects; refs = refs }) o.id) (take l.place l.objects)) l.found
