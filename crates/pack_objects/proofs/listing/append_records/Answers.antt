use Rattle.pack_objects.proofs.Begun.{begun_if_failed}
use Rattle.pack_objects.proofs.listing.append_records.Goals as goal

pub returns-in_err-append_record-clause-begun : goal.returns-in_err-append_record-clause-begun
returns-in_err-append_record-clause-begun c =
    begun_if_failed c.from_residual.result _ _ _ _ c.loop-object.invariant c.in_err-append_record.ensures.begun
