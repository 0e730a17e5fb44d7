use Rattle.std.proofs.Common.{ap, ◌∙◌, filter_map, slice_get}
use Rattle.std.specs.Option.{option_map}
use Rattle.pack_objects.specs.Missing.{told_of}
use Rattle.pack_objects.proofs.MissingTold.{missing-told}
use Rattle.pack_objects.proofs.told.missing.Goals as goal

pub returns-clause-told : goal.returns-clause-told
returns-clause-told g c = λ held.
    let os = c.args.objects.now in
    rw c.in_ok-places.ensures.known
    (c.in_ok-told_at.ensures
    ∙ ap (filter_map (λ place. option_map told_of (slice_get os place))) (c.deref.ensures.value ∙ c.in_ok-places.ensures.missing held)
    ∙ missing-told g.N.Naming.digest_of os held c.args.wants.now c.args.haves.now)
