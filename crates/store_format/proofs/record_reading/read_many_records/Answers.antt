use Rattle.std.proofs.Common.{◌≡◌, ◌++◌, ◌∷◌, []}
use Rattle.std.proofs.lemmas.Result.{err_from_is_err_and}
use Rattle.std.proofs.lemmas.List.{map_push}
use Rattle.pool_file_format.specs.Lengths.{many_at}
use Rattle.store_format.specs.Lengths.{record_at}
use Rattle.store_format.specs.Shown.{record_of, records_of}
use Rattle.store_format.proofs.Loop.{goes_on, ends, is_done, starts}
use Rattle.store_format.proofs.record_reading.read_many_records.Goals as goal

pub loop-init : goal.loop-init
loop-init c = rw c.new-records.ensures.items (starts record_at c.args.count c.args.bytes.now)

pub returns-in_err-tenant : goal.returns-in_err-tenant
returns-in_err-tenant c =
    let p = err_from_is_err_and c.from_residual.result c.from_residual.ensures.1 in
    rw (p.1, p.2) (ends record_at c.in_err-tenant.field-0.0 (records_of c.loop.records.items) c.args.count c.loop.counter c.loop.rest.now (many_at record_at c.args.count c.args.bytes.now) c.loop-test.true c.in_err-tenant.ensures c.loop.invariant)

pub loop-preserved : goal.loop-preserved
loop-preserved c =
    let n = c.in_ok-tenant.tenant in
    let e : records_of c.push.new.self.items ≡ records_of c.loop.records.items ++ record_of n ∷ [] = rw c.in_ok-push.ensures.items (map_push _ c.loop.records.items n) in
    rw e (goes_on record_at (records_of c.loop.records.items) c.args.count c.loop.counter c.loop.rest.now (record_of n) c.in_ok-tenant.after.now (many_at record_at c.args.count c.args.bytes.now) c.loop-test.true c.in_ok-tenant.ensures c.loop.invariant)

pub returns : goal.returns
returns c = is_done record_at (records_of c.loop.records.items) c.args.count c.loop.counter c.loop.rest.now (many_at record_at c.args.count c.args.bytes.now) c.loop-test.false c.loop.invariant
