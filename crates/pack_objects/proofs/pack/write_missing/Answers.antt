use Rattle.std.proofs.Common.{List, ◌∙◌, subst}
use Rattle.git_model.specs.Content.{Content}
use Rattle.byte_devices.specs.Device.{device_of, seen}
use Rattle.pack_text.specs.PackText.{pack_text}
use Rattle.pool_file_format.specs.Sinks.{HasBroken, HasWritten}
use Rattle.pack_objects.proofs.MissingTold.{missing-contents}
use Rattle.pack_objects.proofs.pack.write_missing.Goals as goal

pub returns-in-Ok-clause-written : goal.returns-in-Ok-clause-written
returns-in-Ok-clause-written g c = λ held.
    let same = missing-contents g.N.Naming.digest_of c.args.objects.now held c.args.wants.now c.args.haves.now c.deref.result.now
    (c.deref.ensures.value ∙ c.in_ok-places.ensures.missing held) in
    rw c.in_ok-places.ensures.known (rw same at c.in-Ok.ensures)

pub returns-clause-written : goal.returns-clause-written
returns-clause-written g c = λ held.
    let same = missing-contents g.N.Naming.digest_of c.args.objects.now held c.args.wants.now c.args.haves.now c.deref.result.now
    (c.deref.ensures.value ∙ c.in_ok-places.ensures.missing held) in
    rw c.in_ok-places.ensures.known (rw same at c.in-Err.ensures)

pub returns-in-Ok-clause-known : goal.returns-in-Ok-clause-known
returns-in-Ok-clause-known g c = λ all. record { places = c.deref.result.now; writes = c.in-Ok.ensures }

pub returns-clause-known : goal.returns-clause-known
returns-clause-known g c = λ all. record { places = c.deref.result.now; writes = c.in-Err.ensures }
