use Rattle.store_format.specs.Records.{record_text}
use Rattle.store_format.specs.Shown.{record_of}
use Rattle.store_format.proofs.Appending.{texts_on}
use Rattle.store_format.proofs.printing.append_many_records.Goals as goal

pub loop-tenant-preserved : goal.loop-tenant-preserved
loop-tenant-preserved c =
    texts_on record_text record_of c.args.out.now.items c.loop-tenant.out.items c.append_record.new.out.items c.args.records.now c.loop-tenant.tenant-index c.tenant-item.result
    c.loop-tenant-test.true c.tenant-item.is c.loop-tenant.invariant c.in_ok-append_record.ensures
